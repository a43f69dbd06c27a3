use Rattle.std.proofs.Common.{Option, ap, inl, inr, refl, subst}
use Rattle.std.proofs.lemmas.Result.{IfOk-from_err, IfOk-weaker, on_err_weaker}
use Rattle.cb_types.specs.declared.job.Job.TheVariants as jobs
use Rattle.cb_types.specs.declared.reply.Reply.{Reply}
use Rattle.cb_shared.specs.declared.ways.Way.{Way}
use Rattle.cb_shared.specs.Calls.{AtNone, IsWriteJob, OfThis, TriesBy}
use Rattle.cb_shared.specs.Passes.{record_of}
use Rattle.cb_shared.specs.Ways.{HasWay, way_told}
use Rattle.cb_shared.proofs.CallSteps.{err_always, stops_then}
use Rattle.cb_shared.proofs.FarSteps.{tries_by_then, tries_by_wider, turn_stops, vain_by_wider}
use Rattle.cb_shared.proofs.FarSteps.{vain_way, way_knows, write_fetch, write_stops, write_tries}
use Rattle.cb_shared.proofs.Resting.{known_below}
use Rattle.cb_shared.proofs.InOrder.{direct_to, made_to}
use Rattle.cb_shared.proofs.WriteTurns.{few_writes, lands_inside, lands_inside_on, one_writes_on}
use Rattle.cb_shared.proofs.WriteTurns.{write_first, write_told, writes_behind, writes_behind_on}
use Rattle.cb_shared.proofs.runtime.Shared.write_far.Goals as goal

pub find_way-requires-clause-handle : goal.find_way-requires-clause-handle
find_way-requires-clause-handle g c = known_below c.args.self.now.config c.args.h.n
    (record_of c.args.pass.now) c.requires.of.rest c.requires.knows

pub returns-in_err-order-clause-of : goal.returns-in_err-order-clause-of
returns-in_err-order-clause-of g c = c.in_err-order.ensures.of

pub returns-in_err-order-clause-write : goal.returns-in_err-order-clause-write
returns-in_err-order-clause-write g c = IfOk-from_err _ _ c.from_residual.ensures.0

pub returns-in_err-order-clause-error : goal.returns-in_err-order-clause-error
returns-in_err-order-clause-error g c = let h = c.args.h.n in let a = c.args.at in
    let b = c.args.bytes.now in err_always c.from_residual.result _
    (turn_stops AtNone (IsWriteJob h a b) (jobs.Fetch c.args.h) (write_fetch h a b _ refl) (λ k x. x)
    c.args.self.now.config (record_of c.args.pass.now) (record_of c.find_way.new.pass)
    c.in_err-order.ensures.error)

pub returns-in_err-order-clause-jobs : goal.returns-in_err-order-clause-jobs
returns-in_err-order-clause-jobs g c = write_first c.args.h.n _ _ _ (record_of c.args.pass.now)
    (record_of c.find_way.new.pass) c.in_err-order.ensures.one

pub returns-in_err-order-clause-on : goal.returns-in_err-order-clause-on
returns-in_err-order-clause-on g c = IfOk-from_err _ _ c.from_residual.ensures.0

pub land_or_write-requires-clause-of : goal.land_or_write-requires-clause-of
land_or_write-requires-clause-of g c = c.in_ok-order.ensures.of

pub land_or_write-requires-clause-kept : goal.land_or_write-requires-clause-kept
land_or_write-requires-clause-kept g c = (subst (λ (z : Way). HasWay z (record_of c.find_way.new.pass))
    c.in-Made.is c.in_ok-order.ensures.way).0

pub land_or_write-requires-clause-fits : goal.land_or_write-requires-clause-fits
land_or_write-requires-clause-fits g c = (subst (λ (z : Way). HasWay z (record_of c.find_way.new.pass))
    c.in-Made.is c.in_ok-order.ensures.way).1

pub write_by_turn-requires-clause-of : goal.write_by_turn-requires-clause-of
write_by_turn-requires-clause-of g c = c.in_ok-order.ensures.of

pub write_by_turn-requires-clause-knows : goal.write_by_turn-requires-clause-knows
write_by_turn-requires-clause-knows g c = way_knows c.args.self.now.config (jobs.Fetch c.args.h) _
    c.args.h.n (record_of c.args.pass.now) (record_of c.find_way.new.pass)
    (ap way_told c.in-Made.is) c.in_ok-order.ensures.tries c.requires.knows

pub write_by_turn-requires-in-Direct-clause-of : goal.write_by_turn-requires-in-Direct-clause-of
write_by_turn-requires-in-Direct-clause-of g c = c.in_ok-order.ensures.of

pub write_by_turn-requires-in-Direct-clause-knows :
    goal.write_by_turn-requires-in-Direct-clause-knows
write_by_turn-requires-in-Direct-clause-knows g c = way_knows c.args.self.now.config
    (jobs.Fetch c.args.h) _ c.args.h.n (record_of c.args.pass.now) (record_of c.find_way.new.pass)
    (ap way_told c.in-Direct.is) c.in_ok-order.ensures.tries c.requires.knows

pub land_or_write-requires-clause-knows : goal.land_or_write-requires-clause-knows
land_or_write-requires-clause-knows g c = way_knows c.args.self.now.config (jobs.Fetch c.args.h) _
    c.args.h.n (record_of c.args.pass.now) (record_of c.find_way.new.pass)
    (ap way_told c.in-Made.is) c.in_ok-order.ensures.tries c.requires.knows

pub returns-then-is_inside-clause-of : goal.returns-then-is_inside-clause-of
returns-then-is_inside-clause-of g c = c.land_or_write.ensures.of

pub returns-then-is_inside-clause-write : goal.returns-then-is_inside-clause-write
returns-then-is_inside-clause-write g c = let h = c.args.h.n in let a = c.args.at in
    let b = c.args.bytes.now in let k = c.args.self.now.config in
    let v = record_of c.args.pass.now in let w = record_of c.find_way.new.pass in
    let u = record_of c.land_or_write.new.pass in
    IfOk-weaker c.land_or_write.result _ _ (λ o x. tries_by_then k AtNone (IsWriteJob h a b) o v w u
    (vain_by_wider (OfThis (jobs.Fetch c.args.h)) (IsWriteJob h a b) (write_fetch h a b) AtNone v w
    (vain_way k (jobs.Fetch c.args.h) _ v w (ap way_told c.in-Made.is) c.in_ok-order.ensures.tries))
    x) c.land_or_write.ensures.write

pub returns-then-is_inside-clause-error : goal.returns-then-is_inside-clause-error
returns-then-is_inside-clause-error g c = let h = c.args.h.n in let a = c.args.at in
    let b = c.args.bytes.now in let k = c.args.self.now.config in
    let v = record_of c.args.pass.now in let w = record_of c.find_way.new.pass in
    let u = record_of c.land_or_write.new.pass in
    on_err_weaker c.land_or_write.result (λ x. stops_then k AtNone (IsWriteJob h a b) v w u
    (vain_by_wider (OfThis (jobs.Fetch c.args.h)) (IsWriteJob h a b) (write_fetch h a b) AtNone v w
    (vain_way k (jobs.Fetch c.args.h) _ v w (ap way_told c.in-Made.is) c.in_ok-order.ensures.tries))
    x) c.land_or_write.ensures.error

pub returns-then-is_inside-clause-jobs : goal.returns-then-is_inside-clause-jobs
returns-then-is_inside-clause-jobs g c = let h = c.args.h.n in
    let b = c.args.patience.now.brought in let m = c.find_way.new.patience.brought in
    let own = jobs.Write c.args.h c.args.at c.args.bytes.now in
    let v = record_of c.args.pass.now in let w = record_of c.find_way.new.pass in
    let u = record_of c.land_or_write.new.pass in
    writes_behind h own _ _ (jobs.Fetch c.args.h) jobs.Land b m v w u refl
    (made_to h c.in_ok-order.field-0 c.in-Made.order b m v w c.in-Made.is c.in_ok-order.ensures.found)
    (lands_inside h own _ _ w u (c.is_inside.ensures.yes c.if-is_inside.true)
    c.land_or_write.ensures.jobs)

pub returns-then-is_inside-clause-on : goal.returns-then-is_inside-clause-on
returns-then-is_inside-clause-on g c = let h = c.args.h.n in
    let b = c.args.patience.now.brought in let m = c.find_way.new.patience.brought in
    let own = jobs.Write c.args.h c.args.at c.args.bytes.now in
    let v = record_of c.args.pass.now in let w = record_of c.find_way.new.pass in
    let u = record_of c.land_or_write.new.pass in IfOk-weaker c.land_or_write.result _ _
    (λ o x none. writes_behind_on h own _ _ (jobs.Fetch c.args.h) jobs.Land b m v w u refl
    (made_to h c.in_ok-order.field-0 c.in-Made.order b m v w c.in-Made.is c.in_ok-order.ensures.found)
    (lands_inside_on h own _ _ w u (c.is_inside.ensures.yes c.if-is_inside.true) (x none)))
    c.land_or_write.ensures.on

pub returns-else-is_inside-clause-of : goal.returns-else-is_inside-clause-of
returns-else-is_inside-clause-of g c = c.write_by_turn.ensures.of

pub returns-else-is_inside-clause-write : goal.returns-else-is_inside-clause-write
returns-else-is_inside-clause-write g c = let h = c.args.h.n in let a = c.args.at in let b = c.args.bytes.now in
    let v = record_of c.args.pass.now in let w = record_of c.find_way.new.pass in
    let u = record_of c.write_by_turn.new.pass in
    write_tries c.args.self.now.config h a b _ (jobs.Write c.args.h a b) (inl refl) (λ k n. n)
    (λ q. refl) c.write_by_turn.result v w u (ap way_told c.in-Made.is) c.in_ok-order.ensures.tries
    c.write_by_turn.ensures.turn

pub returns-else-is_inside-clause-error : goal.returns-else-is_inside-clause-error
returns-else-is_inside-clause-error g c = let h = c.args.h.n in let a = c.args.at in let b = c.args.bytes.now in
    let v = record_of c.args.pass.now in let w = record_of c.find_way.new.pass in
    let u = record_of c.write_by_turn.new.pass in
    write_stops c.args.self.now.config h a b _ (jobs.Write c.args.h a b) (inl refl) (λ k n. n)
    (λ q. refl) c.write_by_turn.result v w u (ap way_told c.in-Made.is) c.in_ok-order.ensures.tries
    c.write_by_turn.ensures.error

pub returns-else-is_inside-clause-jobs : goal.returns-else-is_inside-clause-jobs
returns-else-is_inside-clause-jobs g c = let h = c.args.h.n in
    let b = c.args.patience.now.brought in let m = c.find_way.new.patience.brought in
    let own = jobs.Write c.args.h c.args.at c.args.bytes.now in
    let v = record_of c.args.pass.now in let w = record_of c.find_way.new.pass in
    let u = record_of c.write_by_turn.new.pass in
    writes_behind h own _ _ (jobs.Fetch c.args.h) jobs.Land b m v w u refl
    (made_to h c.in_ok-order.field-0 c.in-Made.order b m v w c.in-Made.is c.in_ok-order.ensures.found)
    (few_writes h own _ _ jobs.Land own (inr (refl, c.is_inside.ensures.no c.if-is_inside.false)) w u
    c.write_by_turn.ensures.one)

pub returns-else-is_inside-clause-on : goal.returns-else-is_inside-clause-on
returns-else-is_inside-clause-on g c = let h = c.args.h.n in
    let b = c.args.patience.now.brought in let m = c.find_way.new.patience.brought in
    let own = jobs.Write c.args.h c.args.at c.args.bytes.now in
    let v = record_of c.args.pass.now in let w = record_of c.find_way.new.pass in
    let u = record_of c.write_by_turn.new.pass in IfOk-weaker c.write_by_turn.result _ _
    (λ o x none. writes_behind_on h own _ _ (jobs.Fetch c.args.h) jobs.Land b m v w u refl
    (made_to h c.in_ok-order.field-0 c.in-Made.order b m v w c.in-Made.is c.in_ok-order.ensures.found)
    (one_writes_on h own _ _ jobs.Land own (inr (refl, c.is_inside.ensures.no c.if-is_inside.false))
    w u (λ r. refl) x)) c.write_by_turn.ensures.on

pub returns-in-Direct-clause-of : goal.returns-in-Direct-clause-of
returns-in-Direct-clause-of g c = c.write_by_turn-in-Direct.ensures.of

pub returns-in-Direct-clause-write : goal.returns-in-Direct-clause-write
returns-in-Direct-clause-write g c = let h = c.args.h.n in let a = c.args.at in let b = c.args.bytes.now in
    let v = record_of c.args.pass.now in let w = record_of c.find_way.new.pass in
    let u = record_of c.write_by_turn-in-Direct.new.pass in
    write_tries c.args.self.now.config h a b _ (jobs.Write c.args.h a b) (inl refl) (λ k n. n)
    (λ q. refl) c.write_by_turn-in-Direct.result v w u (ap way_told c.in-Direct.is) c.in_ok-order.ensures.tries
    c.write_by_turn-in-Direct.ensures.turn

pub returns-in-Direct-clause-error : goal.returns-in-Direct-clause-error
returns-in-Direct-clause-error g c = let h = c.args.h.n in let a = c.args.at in let b = c.args.bytes.now in
    let v = record_of c.args.pass.now in let w = record_of c.find_way.new.pass in
    let u = record_of c.write_by_turn-in-Direct.new.pass in
    write_stops c.args.self.now.config h a b _ (jobs.Write c.args.h a b) (inl refl) (λ k n. n)
    (λ q. refl) c.write_by_turn-in-Direct.result v w u (ap way_told c.in-Direct.is) c.in_ok-order.ensures.tries
    c.write_by_turn-in-Direct.ensures.error

pub returns-in-Direct-clause-jobs : goal.returns-in-Direct-clause-jobs
returns-in-Direct-clause-jobs g c = let h = c.args.h.n in
    let b = c.args.patience.now.brought in let m = c.find_way.new.patience.brought in
    let own = jobs.Write c.args.h c.args.at c.args.bytes.now in
    let v = record_of c.args.pass.now in let w = record_of c.find_way.new.pass in
    let u = record_of c.write_by_turn-in-Direct.new.pass in
    writes_behind h own _ _ (jobs.Fetch c.args.h) (jobs.Swap c.args.h) b m v w u refl
    (direct_to h c.in_ok-order.field-0 b m v w c.in-Direct.is c.in_ok-order.ensures.found)
    (few_writes h own _ _ (jobs.Swap c.args.h) own refl w u c.write_by_turn-in-Direct.ensures.one)

pub returns-in-Direct-clause-on : goal.returns-in-Direct-clause-on
returns-in-Direct-clause-on g c = let h = c.args.h.n in
    let b = c.args.patience.now.brought in let m = c.find_way.new.patience.brought in
    let own = jobs.Write c.args.h c.args.at c.args.bytes.now in
    let v = record_of c.args.pass.now in let w = record_of c.find_way.new.pass in
    let u = record_of c.write_by_turn-in-Direct.new.pass in
    IfOk-weaker c.write_by_turn-in-Direct.result _ _
    (λ o x none. writes_behind_on h own _ _ (jobs.Fetch c.args.h) (jobs.Swap c.args.h) b m v w u refl
    (direct_to h c.in_ok-order.field-0 b m v w c.in-Direct.is c.in_ok-order.ensures.found)
    (one_writes_on h own _ _ (jobs.Swap c.args.h) own refl w u (λ r. refl) x))
    c.write_by_turn-in-Direct.ensures.on

pub returns-in-Told-clause-of : goal.returns-in-Told-clause-of
returns-in-Told-clause-of g c = c.in_ok-order.ensures.of

pub returns-in-Told-clause-write : goal.returns-in-Told-clause-write
returns-in-Told-clause-write g c = let h = c.args.h.n in let a = c.args.at in
    let b = c.args.bytes.now in let k = c.args.self.now.config in
    let v = record_of c.args.pass.now in let w = record_of c.find_way.new.pass in
    tries_by_wider (OfThis (jobs.Fetch c.args.h)) (IsWriteJob h a b) (write_fetch h a b) k AtNone
    c.in-Told.told v w (subst (λ (o : Option Reply). TriesBy k AtNone (OfThis (jobs.Fetch c.args.h))
    o v w) (ap way_told c.in-Told.is) c.in_ok-order.ensures.tries)

pub returns-in-Told-clause-jobs : goal.returns-in-Told-clause-jobs
returns-in-Told-clause-jobs g c = write_first c.args.h.n _ _ _ (record_of c.args.pass.now)
    (record_of c.find_way.new.pass) c.in_ok-order.ensures.one

pub returns-in-Told-clause-on : goal.returns-in-Told-clause-on
returns-in-Told-clause-on g c = λ none. write_told c.args.h.n _ _ _ c.in-Told.told
    c.in_ok-order.field-0 c.args.patience.now.brought c.find_way.new.patience.brought
    (record_of c.args.pass.now) (record_of c.find_way.new.pass) c.in-Told.is
    c.in_ok-order.ensures.found
