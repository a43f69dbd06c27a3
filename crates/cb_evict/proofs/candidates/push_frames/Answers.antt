use Rattle.std.proofs.Common.{◌∙◌, sym, rules}
use Rattle.cb_evict.specs.Candidates.{may_leave_by}
use Rattle.cb_evict.proofs.Framing.{frame_added, frame_passed}
use Rattle.cb_evict.proofs.candidates.push_frames.Goals.{then-may_leave+in_ok-push, else-may_leave}
use Rattle.cb_evict.proofs.candidates.push_frames.Goals as goal

pub loop-frame-preserved : goal.loop-frame-preserved
loop-frame-preserved c =
    let test = may_leave_by c.args.spans.now c.args.leaving.now c.args.temp in
    let old = c.args.into.now.items in let now = c.loop-frame.into.items in let n = c.loop-frame.frame in
    elim c.if-may_leave.branch [
      | then-may_leave+in_ok-push w ↦
          frame_added test old now c.if-may_leave.into.items n c.loop-frame.invariant (search rules)
          (sym c.may_leave.ensures ∙ w.if-may_leave.true)
      | else-may_leave w ↦
          (search rules) ∙ frame_passed test old now n c.loop-frame.invariant
          (sym c.may_leave.ensures ∙ w.if-may_leave.false)
    ]
