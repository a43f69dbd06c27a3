use Rattle.std.proofs.Common.{Option, ap, subst, refl}
use Rattle.std.proofs.lemmas.Result.{IfOk-from_err, IfOk-weaker, on_err_weaker}
use Rattle.cb_types.specs.declared.job.Job.TheVariants as jobs
use Rattle.cb_types.specs.declared.reply.Reply.{Reply}
use Rattle.cb_shared.specs.declared.ways.Way.{Way}
use Rattle.cb_shared.specs.Calls.{AtNone, Brings, OfThis, TriesBy}
use Rattle.cb_shared.specs.Passes.{record_of}
use Rattle.cb_shared.specs.Ways.{HasWay, way_told}
use Rattle.cb_shared.proofs.CallSteps.{err_always, stops_then}
use Rattle.cb_shared.proofs.FarSteps.{brings_fetch, brings_swap, tries_by_then, tries_by_wider}
use Rattle.cb_shared.proofs.FarSteps.{turn_stops, turn_tries, vain_by_wider, vain_way}
use Rattle.cb_shared.proofs.Fetches.{fetch_first, found_first, found_told, one_tries}
use Rattle.cb_shared.proofs.Fetches.{one_tries_to, tries_behind, tries_behind_to}
use Rattle.cb_shared.proofs.InOrder.{direct_to, made_to}
use Rattle.cb_shared.proofs.runtime.Shared.bring.Goals as goal

pub returns-in_err-order-clause-of : goal.returns-in_err-order-clause-of
returns-in_err-order-clause-of g c = c.in_err-order.ensures.of

pub returns-in_err-order-clause-brings : goal.returns-in_err-order-clause-brings
returns-in_err-order-clause-brings g c = IfOk-from_err _ _ c.from_residual.ensures.0

pub returns-in_err-order-clause-error : goal.returns-in_err-order-clause-error
returns-in_err-order-clause-error g c = err_always c.from_residual.result _
    (turn_stops AtNone (Brings c.args.h.n) (jobs.Fetch c.args.h) (brings_fetch c.args.h.n _ refl) (λ k x. x)
    c.args.self.now.config (record_of c.args.pass.now) (record_of c.find_way.new.pass)
    c.in_err-order.ensures.error)

pub returns-in_err-order-clause-jobs : goal.returns-in_err-order-clause-jobs
returns-in_err-order-clause-jobs g c = fetch_first c.args.h.n (record_of c.args.pass.now)
    (record_of c.find_way.new.pass) c.in_err-order.ensures.one

pub returns-in_err-order-clause-brought : goal.returns-in_err-order-clause-brought
returns-in_err-order-clause-brought g c = IfOk-from_err _ _ c.from_residual.ensures.0

pub land_or_swap-requires-clause-of : goal.land_or_swap-requires-clause-of
land_or_swap-requires-clause-of g c = c.in_ok-order.ensures.of

pub land_or_swap-requires-clause-kept : goal.land_or_swap-requires-clause-kept
land_or_swap-requires-clause-kept g c = (subst (λ (z : Way). HasWay z (record_of c.find_way.new.pass))
    c.in-Made.is c.in_ok-order.ensures.way).0

pub land_or_swap-requires-clause-fits : goal.land_or_swap-requires-clause-fits
land_or_swap-requires-clause-fits g c = (subst (λ (z : Way). HasWay z (record_of c.find_way.new.pass))
    c.in-Made.is c.in_ok-order.ensures.way).1

pub try_turn-requires-clause-of : goal.try_turn-requires-clause-of
try_turn-requires-clause-of g c = c.in_ok-order.ensures.of

pub try_turn-requires-clause-job : goal.try_turn-requires-clause-job
try_turn-requires-clause-job g c = c.requires.handle

pub try_turn-requires-clause-knows : goal.try_turn-requires-clause-knows
try_turn-requires-clause-knows g c = tt

pub try_turn-requires-clause-called : goal.try_turn-requires-clause-called
try_turn-requires-clause-called g c = tt

pub try_turn-requires-clause-alone : goal.try_turn-requires-clause-alone
try_turn-requires-clause-alone g c = tt

pub returns-in-Made-clause-of : goal.returns-in-Made-clause-of
returns-in-Made-clause-of g c = c.land_or_swap.ensures.of

pub returns-in-Made-clause-brings : goal.returns-in-Made-clause-brings
returns-in-Made-clause-brings g c = let h = c.args.h.n in let k = c.args.self.now.config in
    let v = record_of c.args.pass.now in let w = record_of c.find_way.new.pass in
    let u = record_of c.land_or_swap.new.pass in IfOk-weaker c.land_or_swap.result _ _
    (λ o x. tries_by_then k AtNone (Brings h) o v w u (vain_by_wider
    (OfThis (jobs.Fetch c.args.h)) (Brings h) (brings_fetch h) AtNone v w
    (vain_way k (jobs.Fetch c.args.h) _ v w (ap way_told c.in-Made.is) c.in_ok-order.ensures.tries))
    x) c.land_or_swap.ensures.brings

pub returns-in-Made-clause-error : goal.returns-in-Made-clause-error
returns-in-Made-clause-error g c = let h = c.args.h.n in let k = c.args.self.now.config in
    let v = record_of c.args.pass.now in let w = record_of c.find_way.new.pass in
    let u = record_of c.land_or_swap.new.pass in on_err_weaker c.land_or_swap.result
    (λ x. stops_then k AtNone (Brings h) v w u (vain_by_wider
    (OfThis (jobs.Fetch c.args.h)) (Brings h) (brings_fetch h) AtNone v w
    (vain_way k (jobs.Fetch c.args.h) _ v w (ap way_told c.in-Made.is) c.in_ok-order.ensures.tries))
    x) c.land_or_swap.ensures.error

pub returns-in-Made-clause-jobs : goal.returns-in-Made-clause-jobs
returns-in-Made-clause-jobs g c = let h = c.args.h.n in let b = c.args.patience.now.brought in
    let m = c.find_way.new.patience.brought in let v = record_of c.args.pass.now in
    let w = record_of c.find_way.new.pass in tries_behind h (jobs.Fetch c.args.h) jobs.Land b m v w
    (record_of c.land_or_swap.new.pass) (made_to h c.in_ok-order.field-0 c.in-Made.order b m v w
    c.in-Made.is c.in_ok-order.ensures.found) c.land_or_swap.ensures.jobs

pub returns-in-Made-clause-brought : goal.returns-in-Made-clause-brought
returns-in-Made-clause-brought g c = let h = c.args.h.n in
    let b = c.args.patience.now.brought in let m = c.find_way.new.patience.brought in
    let v = record_of c.args.pass.now in let w = record_of c.find_way.new.pass in
    IfOk-weaker c.land_or_swap.result _ _
    (λ o x none. tries_behind_to h (jobs.Fetch c.args.h) jobs.Land b m v w
    (record_of c.land_or_swap.new.pass) (made_to h c.in_ok-order.field-0 c.in-Made.order b m v w
    c.in-Made.is c.in_ok-order.ensures.found) c.land_or_swap.new.patience.brought (x none))
    c.land_or_swap.ensures.brought

pub returns-in-Direct-clause-of : goal.returns-in-Direct-clause-of
returns-in-Direct-clause-of g c = c.try_turn.ensures.of

pub returns-in-Direct-clause-brings : goal.returns-in-Direct-clause-brings
returns-in-Direct-clause-brings g c = let h = c.args.h.n in let k = c.args.self.now.config in
    let v = record_of c.args.pass.now in let w = record_of c.find_way.new.pass in
    let u = record_of c.try_turn.new.pass in IfOk-weaker c.try_turn.result _ _
    (λ o x. tries_by_then k AtNone (Brings h) o v w u (vain_by_wider
    (OfThis (jobs.Fetch c.args.h)) (Brings h) (brings_fetch h) AtNone v w
    (vain_way k (jobs.Fetch c.args.h) _ v w (ap way_told c.in-Direct.is) c.in_ok-order.ensures.tries))
    (turn_tries AtNone (Brings h) (jobs.Swap c.args.h) (brings_swap h) (λ j y. y) k o w u (λ r. refl)
    x)) c.try_turn.ensures.turn

pub returns-in-Direct-clause-error : goal.returns-in-Direct-clause-error
returns-in-Direct-clause-error g c = let h = c.args.h.n in let k = c.args.self.now.config in
    let v = record_of c.args.pass.now in let w = record_of c.find_way.new.pass in
    let u = record_of c.try_turn.new.pass in on_err_weaker c.try_turn.result
    (λ x. stops_then k AtNone (Brings h) v w u (vain_by_wider
    (OfThis (jobs.Fetch c.args.h)) (Brings h) (brings_fetch h) AtNone v w
    (vain_way k (jobs.Fetch c.args.h) _ v w (ap way_told c.in-Direct.is) c.in_ok-order.ensures.tries))
    (turn_stops AtNone (Brings h) (jobs.Swap c.args.h) (brings_swap h) (λ j y. y) k w u x))
    c.try_turn.ensures.error

pub returns-in-Direct-clause-jobs : goal.returns-in-Direct-clause-jobs
returns-in-Direct-clause-jobs g c = let h = c.args.h.n in let b = c.args.patience.now.brought in
    let m = c.find_way.new.patience.brought in let v = record_of c.args.pass.now in
    let w = record_of c.find_way.new.pass in let u = record_of c.try_turn.new.pass in
    tries_behind h (jobs.Fetch c.args.h) (jobs.Swap c.args.h) b m v w u
    (direct_to h c.in_ok-order.field-0 b m v w c.in-Direct.is c.in_ok-order.ensures.found)
    (one_tries h (jobs.Swap c.args.h) w u c.try_turn.ensures.one)

pub returns-in-Direct-clause-brought : goal.returns-in-Direct-clause-brought
returns-in-Direct-clause-brought g c = let h = c.args.h.n in
    let b = c.args.patience.now.brought in let m = c.find_way.new.patience.brought in
    let n = c.try_turn.new.patience.brought in let v = record_of c.args.pass.now in
    let w = record_of c.find_way.new.pass in let u = record_of c.try_turn.new.pass in
    IfOk-weaker c.try_turn.result _ _
    (λ o x none. tries_behind_to h (jobs.Fetch c.args.h) (jobs.Swap c.args.h) b m v w u
    (direct_to h c.in_ok-order.field-0 b m v w c.in-Direct.is c.in_ok-order.ensures.found) n
    (one_tries_to h (jobs.Swap c.args.h) m n w u (λ r. refl) (x none))) c.try_turn.ensures.brought

pub returns-in-Told-clause-of : goal.returns-in-Told-clause-of
returns-in-Told-clause-of g c = c.in_ok-order.ensures.of

pub returns-in-Told-clause-brings : goal.returns-in-Told-clause-brings
returns-in-Told-clause-brings g c = let h = c.args.h.n in let k = c.args.self.now.config in
    let v = record_of c.args.pass.now in let w = record_of c.find_way.new.pass in
    tries_by_wider (OfThis (jobs.Fetch c.args.h)) (Brings h) (brings_fetch h) k AtNone
    c.in-Told.told v w (subst (λ (o : Option Reply). TriesBy k AtNone (OfThis (jobs.Fetch c.args.h))
    o v w) (ap way_told c.in-Told.is) c.in_ok-order.ensures.tries)

pub returns-in-Told-clause-jobs : goal.returns-in-Told-clause-jobs
returns-in-Told-clause-jobs g c = found_first c.args.h.n c.in_ok-order.field-0
    c.args.patience.now.brought c.find_way.new.patience.brought (record_of c.args.pass.now)
    (record_of c.find_way.new.pass) c.in_ok-order.ensures.found

pub returns-in-Told-clause-brought : goal.returns-in-Told-clause-brought
returns-in-Told-clause-brought g c = λ none. found_told c.args.h.n c.in-Told.told
    c.in_ok-order.field-0 c.args.patience.now.brought c.find_way.new.patience.brought
    (record_of c.args.pass.now) (record_of c.find_way.new.pass) c.in-Told.is
    c.in_ok-order.ensures.found

pub land_or_swap-requires-clause-handle : goal.land_or_swap-requires-clause-handle
land_or_swap-requires-clause-handle g c = c.requires.handle
