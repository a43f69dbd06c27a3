use Rattle.std.proofs.lemmas.Result.{IfOk-weaker, on_err_weaker}
use Rattle.cb_shared.specs.Calls.{AtNone, AtThis, IsWriteJob}
use Rattle.cb_shared.specs.Passes.{record_of}
use Rattle.cb_shared.proofs.FarSteps.{far_stops, far_write, stops_by_wider, tries_by_wider}
use Rattle.cb_shared.proofs.FarSteps.{wrote_far}
use Rattle.cb_shared.proofs.Known.{write_keeps}
use Rattle.cb_shared.proofs.Resting.{knows_glance}
use Rattle.cb_shared.proofs.WriteParts.{write_tried}
use Rattle.cb_shared.proofs.WriteSteps.{from_far, from_gives}
use Rattle.cb_shared.proofs.WriteTurns.{are_writes, far_writes, far_writes_on, tried_looks}
use Rattle.cb_shared.proofs.WriteTurns.{wrote_writes}
use Rattle.cb_shared.proofs.runtime.Shared.try_write.Goals as goal

pub look-word-requires-clause-of : goal.look-word-requires-clause-of
look-word-requires-clause-of g c = c.requires.of

pub look-word-requires-clause-knows : goal.look-word-requires-clause-knows
look-word-requires-clause-knows g c = c.requires.knows

pub write_from-answer-requires-clause-of : goal.write_from-answer-requires-clause-of
write_from-answer-requires-clause-of g c = c.look-word.ensures.of

pub write_from-answer-requires-clause-knows : goal.write_from-answer-requires-clause-knows
write_from-answer-requires-clause-knows g c = knows_glance c.args.h.n c.args.h.n
    c.look-word.result c.args.pass.now.seat c.look-word.new.pass.seat c.look-word.ensures.look
    c.requires.knows

pub write_far-requires-clause-of : goal.write_far-requires-clause-of
write_far-requires-clause-of g c = c.write_from-answer.ensures.of

pub write_far-requires-clause-knows : goal.write_far-requires-clause-knows
write_far-requires-clause-knows g c = write_keeps c.args.h.n c.args.at c.args.bytes.now
    c.write_from-answer.result (record_of c.args.pass.now) (record_of c.write_from-answer.new.pass)
    (from_gives c.args.h.n c.look-word.result c.args.at c.args.bytes.now c.write_from-answer.result
    c.args.pass.now.seat c.look-word.new.pass.seat c.look-word.ensures.look
    (record_of c.write_from-answer.new.pass) c.write_from-answer.ensures.write)
    c.args.h.n c.requires.knows

pub returns-then-is_away-clause-of : goal.returns-then-is_away-clause-of
returns-then-is_away-clause-of g c = c.write_far.ensures.of

pub returns-then-is_away-clause-write : goal.returns-then-is_away-clause-write
returns-then-is_away-clause-write g c = let h = c.args.h.n in let a = c.args.at in
    let b = c.args.bytes.now in let k = c.args.self.now.config in
    let v = record_of c.args.pass.now in let w = record_of c.write_from-answer.new.pass in
    let u = record_of c.write_far.new.pass in let r = c.write_from-answer.result in
    IfOk-weaker c.write_far.result _ _
    (λ o x. far_write k h a b o v w u (wrote_far h a b r v w
    (c.is_away.ensures.yes c.if-is_away.true) (from_gives h c.look-word.result a b r
    c.args.pass.now.seat c.look-word.new.pass.seat c.look-word.ensures.look w
    c.write_from-answer.ensures.write))
    (tries_by_wider (IsWriteJob h a b) (IsWriteJob h a b) (λ j y. y) k (AtThis h) o w u x))
    c.write_far.ensures.write

pub returns-then-is_away-clause-error : goal.returns-then-is_away-clause-error
returns-then-is_away-clause-error g c = let h = c.args.h.n in let a = c.args.at in
    let b = c.args.bytes.now in let k = c.args.self.now.config in
    let v = record_of c.args.pass.now in let w = record_of c.write_from-answer.new.pass in
    let u = record_of c.write_far.new.pass in let r = c.write_from-answer.result in
    on_err_weaker c.write_far.result
    (λ x. far_stops k h (IsWriteJob h a b) v w u (wrote_far h a b r v w
    (c.is_away.ensures.yes c.if-is_away.true) (from_gives h c.look-word.result a b r
    c.args.pass.now.seat c.look-word.new.pass.seat c.look-word.ensures.look w
    c.write_from-answer.ensures.write))
    (stops_by_wider (IsWriteJob h a b) (IsWriteJob h a b) (λ j y. y) k (AtThis h) w u x))
    c.write_far.ensures.error

pub returns-then-is_away-clause-jobs : goal.returns-then-is_away-clause-jobs
returns-then-is_away-clause-jobs g c = let h = c.args.h.n in let a = c.args.at in
    let b = c.args.bytes.now in let n = c.look-word.result in
    let v = record_of c.args.pass.now in let w = record_of c.write_from-answer.new.pass in
    let u = record_of c.write_far.new.pass in
    let ls = tried_looks c.args.self.now.config AtNone (IsWriteJob h a b) c.write_far.result w u
    c.write_far.ensures.write c.write_far.ensures.error in
    far_writes h a b n ls.0 v w u (from_far h n a b c.write_from-answer.result c.args.pass.now.seat
    c.look-word.new.pass.seat c.look-word.ensures.look w c.write_from-answer.ensures.write
    (c.is_away.ensures.yes c.if-is_away.true)) ls.1 c.write_far.ensures.jobs

pub returns-then-is_away-clause-on : goal.returns-then-is_away-clause-on
returns-then-is_away-clause-on g c = let h = c.args.h.n in let a = c.args.at in
    let b = c.args.bytes.now in let n = c.look-word.result in
    let v = record_of c.args.pass.now in let w = record_of c.write_from-answer.new.pass in
    let u = record_of c.write_far.new.pass in
    let ls = tried_looks c.args.self.now.config AtNone (IsWriteJob h a b) c.write_far.result w u
    c.write_far.ensures.write c.write_far.ensures.error in
    IfOk-weaker c.write_far.result _ _ (λ o x none. far_writes_on h a b n ls.0 v w u
    (from_far h n a b c.write_from-answer.result c.args.pass.now.seat
    c.look-word.new.pass.seat c.look-word.ensures.look w c.write_from-answer.ensures.write
    (c.is_away.ensures.yes c.if-is_away.true)) ls.1 (x none)) c.write_far.ensures.on

pub returns-clause-of : goal.returns-clause-of
returns-clause-of g c = c.write_from-answer.ensures.of

pub returns-clause-write : goal.returns-clause-write
returns-clause-write g c = write_tried c.args.self.now.config c.args.h.n c.args.at c.args.bytes.now
    c.write_from-answer.result c.reply_of-reply.result (record_of c.args.pass.now)
    (record_of c.write_from-answer.new.pass) c.reply_of-reply.ensures.some
    c.reply_of-reply.ensures.none (c.is_away.ensures.no c.if-is_away.false)
    (from_gives c.args.h.n c.look-word.result c.args.at c.args.bytes.now c.write_from-answer.result
    c.args.pass.now.seat c.look-word.new.pass.seat c.look-word.ensures.look
    (record_of c.write_from-answer.new.pass) c.write_from-answer.ensures.write)

pub returns-clause-jobs : goal.returns-clause-jobs
returns-clause-jobs g c = let v = record_of c.args.pass.now in
    let w = record_of c.write_from-answer.new.pass in
    are_writes c.args.h.n c.args.at c.args.bytes.now v w (wrote_writes c.args.h.n c.args.at
    c.args.bytes.now c.write_from-answer.result v w (from_gives c.args.h.n c.look-word.result
    c.args.at c.args.bytes.now c.write_from-answer.result c.args.pass.now.seat
    c.look-word.new.pass.seat c.look-word.ensures.look w c.write_from-answer.ensures.write))

pub returns-clause-on : goal.returns-clause-on
returns-clause-on g c = let v = record_of c.args.pass.now in
    let w = record_of c.write_from-answer.new.pass in
    λ none. wrote_writes c.args.h.n c.args.at c.args.bytes.now c.write_from-answer.result v w
    (from_gives c.args.h.n c.look-word.result c.args.at c.args.bytes.now
    c.write_from-answer.result c.args.pass.now.seat c.look-word.new.pass.seat
    c.look-word.ensures.look w c.write_from-answer.ensures.write)
