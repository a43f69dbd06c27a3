use Rattle.std.proofs.Common.{subst}
use Rattle.cb_compact.specs.declared.compaction.Compaction.{Compaction}
use Rattle.cb_compact.specs.Compaction.{reply_of}
use Rattle.cb_compact.specs.PairStep.{PairStep}
use Rattle.cb_compact.proofs.CompactSound.{has_begun, through, through_error, through_given, through_keeps}
use Rattle.cb_compact.proofs.compacting.compact_now.Goals as goal

pub go_through-requires-clause-sound : goal.go_through-requires-clause-sound
go_through-requires-clause-sound g c =
    let s = c.requires.sound in (s.0, c.in_ok-a.ensures.sound s.0 s.2)

pub go_through-requires-clause-fresh : goal.go_through-requires-clause-fresh
go_through-requires-clause-fresh g c =
    let x = has_begun c.args.far.now c.begin.new.far _ _
    (subst (λ (o : Compaction). PairStep c.args.far.now c.begin.new.far (reply_of o)) c.in-Pair.is
    c.in_ok-a.ensures.step) in
    (x.pair, x.a, x.b, x.fresh, x.undone)

pub returns-in-Pair-clause-step : goal.returns-in-Pair-clause-step
returns-in-Pair-clause-step g c =
    through c.args.far.now c.begin.new.far c.go_through.new.far _ _
    (subst (λ (o : Compaction). PairStep c.args.far.now c.begin.new.far (reply_of o)) c.in-Pair.is
    c.in_ok-a.ensures.step)
    c.go_through.result c.go_through.ensures.ends

pub returns-in-Pair-clause-error : goal.returns-in-Pair-clause-error
returns-in-Pair-clause-error g c =
    through_error c.args.far.now c.begin.new.far c.go_through.new.far _ _
    (subst (λ (o : Compaction). PairStep c.args.far.now c.begin.new.far (reply_of o)) c.in-Pair.is
    c.in_ok-a.ensures.step)
    c.go_through.result c.go_through.ensures.error

pub returns-in-Pair-clause-sound : goal.returns-in-Pair-clause-sound
returns-in-Pair-clause-sound g c s sound =
    (through_keeps c.args.far.now c.begin.new.far c.go_through.new.far _ _
    (subst (λ (o : Compaction). PairStep c.args.far.now c.begin.new.far (reply_of o)) c.in-Pair.is
    c.in_ok-a.ensures.step)
    s c.go_through.result sound (c.in_ok-a.ensures.sound s sound) c.go_through.ensures.ends
    c.go_through.ensures.error).sound

pub returns-in-Pair-clause-now : goal.returns-in-Pair-clause-now
returns-in-Pair-clause-now g c s h sound =
    (through_keeps c.args.far.now c.begin.new.far c.go_through.new.far _ _
    (subst (λ (o : Compaction). PairStep c.args.far.now c.begin.new.far (reply_of o)) c.in-Pair.is
    c.in_ok-a.ensures.step)
    s c.go_through.result sound (c.in_ok-a.ensures.sound s sound) c.go_through.ensures.ends
    c.go_through.ensures.error).same_now h

pub returns-in-Pair-clause-given : goal.returns-in-Pair-clause-given
returns-in-Pair-clause-given g c =
    through_given c.args.far.now c.begin.new.far c.go_through.new.far _ _
    (subst (λ (o : Compaction). PairStep c.args.far.now c.begin.new.far (reply_of o)) c.in-Pair.is
    c.in_ok-a.ensures.step)
    c.go_through.result c.go_through.ensures.ends c.go_through.ensures.error
