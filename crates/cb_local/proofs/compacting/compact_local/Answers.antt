use Rattle.std.proofs.Common.{◌≡◌, subst, ap, ◌∙◌, ◌+◌, arith}
use Rattle.std.proofs.lemmas.Result.{IfOk-weaker, on_err_weaker}
use Rattle.cb_compact.specs.declared.compaction.Compaction.{Compaction}
use Rattle.cb_compact.specs.Compaction.{reply_of}
use Rattle.cb_compact.specs.PairStep.{PairStep}
use Rattle.cb_local.specs.Putting.{with_count}
use Rattle.cb_local.proofs.LocalKeeps.{begun_is, local_ends, local_joining, local_keeps, local_none, local_same, local_stopped, local_through}
use Rattle.cb_local.proofs.PutStep.{on_error}
use Rattle.cb_local.proofs.compacting.compact_local.Goals as goal

pub go_through-requires : goal.go_through-requires
go_through-requires g c =
    let far = c.args.far.now in let begun = c.begin.new.far in
    let step = subst (λ (o : Compaction). PairStep far begun (reply_of o)) c.in-Pair.is
    c.in_ok-a.ensures.step in
    let q = c.requires.sound in record {
      begun = (
        q.0,
        _,
        _,
        _,
        begun_is q.0 far begun _ _ step (c.in_ok-a.ensures.sound q.0 q.2) c.requires.keys
            c.requires.sets c.requires.given,
      );
    }

pub returns-in_err-a-clause-error : goal.returns-in_err-a-clause-error
returns-in_err-a-clause-error g c =
    on_error _ c.from_residual.result (
      0,
      omega arith,
      c.in_err-a.ensures.error ∙ ap (with_count c.args.far.now)
          (let e : c.args.far.now.nodes.given ≡ c.args.far.now.nodes.given + 0 = omega arith in e),
    )

pub returns-in-Joining-clause-step : goal.returns-in-Joining-clause-step
returns-in-Joining-clause-step g c =
    let far = c.args.far.now in let begun = c.begin.new.far in
    let step = subst (λ (o : Compaction). PairStep far begun (reply_of o)) c.in-Joining.is
    c.in_ok-a.ensures.step in
    local_joining far begun _ _ step

pub returns-in-Joining-clause-same : goal.returns-in-Joining-clause-same
returns-in-Joining-clause-same g c s mid other sound now =
    let far = c.args.far.now in let begun = c.begin.new.far in
    let step = subst (λ (o : Compaction). PairStep far begun (reply_of o)) c.in-Joining.is
    c.in_ok-a.ensures.step in
    local_same s far begun mid _ other sound (local_joining far begun _ _ step) now

pub returns-in-Joining-clause-now : goal.returns-in-Joining-clause-now
returns-in-Joining-clause-now g c s h sound =
    let far = c.args.far.now in let begun = c.begin.new.far in
    let step = subst (λ (o : Compaction). PairStep far begun (reply_of o)) c.in-Joining.is
    c.in_ok-a.ensures.step in
    (local_keeps s far begun _ sound (local_joining far begun _ _ step)).same_now h

pub returns-in-NoPair-clause-step : goal.returns-in-NoPair-clause-step
returns-in-NoPair-clause-step g c =
    let far = c.args.far.now in let begun = c.begin.new.far in
    let step = subst (λ (o : Compaction). PairStep far begun (reply_of o)) c.in-NoPair.is
    c.in_ok-a.ensures.step in
    local_none far begun step

pub returns-in-NoPair-clause-same : goal.returns-in-NoPair-clause-same
returns-in-NoPair-clause-same g c s mid other sound now =
    let far = c.args.far.now in let begun = c.begin.new.far in
    let step = subst (λ (o : Compaction). PairStep far begun (reply_of o)) c.in-NoPair.is
    c.in_ok-a.ensures.step in
    local_same s far begun mid _ other sound (local_none far begun step) now

pub returns-in-NoPair-clause-now : goal.returns-in-NoPair-clause-now
returns-in-NoPair-clause-now g c s h sound =
    let far = c.args.far.now in let begun = c.begin.new.far in
    let step = subst (λ (o : Compaction). PairStep far begun (reply_of o)) c.in-NoPair.is
    c.in_ok-a.ensures.step in
    (local_keeps s far begun _ sound (local_none far begun step)).same_now h

pub returns-in-Pair-clause-step : goal.returns-in-Pair-clause-step
returns-in-Pair-clause-step g c =
    let far = c.args.far.now in let begun = c.begin.new.far in
    let new = c.go_through.new.far in
    let step = subst (λ (o : Compaction). PairStep far begun (reply_of o)) c.in-Pair.is
    c.in_ok-a.ensures.step in
    let q = c.requires.sound in
    let is = begun_is q.0 far begun _ _ step (c.in_ok-a.ensures.sound q.0 q.2) c.requires.keys
    c.requires.sets c.requires.given in
    IfOk-weaker c.go_through.result _ _ (λ reply ends.
    local_through q.0 far begun _ _ step new reply (ends _ _ _ is.fresh)) c.go_through.ensures.ends

pub returns-in-Pair-clause-same : goal.returns-in-Pair-clause-same
returns-in-Pair-clause-same g c =
    let far = c.args.far.now in let begun = c.begin.new.far in
    let new = c.go_through.new.far in
    let step = subst (λ (o : Compaction). PairStep far begun (reply_of o)) c.in-Pair.is
    c.in_ok-a.ensures.step in
    let q = c.requires.sound in
    let is = begun_is q.0 far begun _ _ step (c.in_ok-a.ensures.sound q.0 q.2) c.requires.keys
    c.requires.sets c.requires.given in
    IfOk-weaker c.go_through.result _ _ (λ reply ends s mid other sound now.
    local_same s far new mid reply other sound
    (local_through q.0 far begun _ _ step new reply (ends _ _ _ is.fresh)) now)
    c.go_through.ensures.ends

pub returns-in-Pair-clause-error : goal.returns-in-Pair-clause-error
returns-in-Pair-clause-error g c =
    let far = c.args.far.now in let begun = c.begin.new.far in
    let new = c.go_through.new.far in
    let step = subst (λ (o : Compaction). PairStep far begun (reply_of o)) c.in-Pair.is
    c.in_ok-a.ensures.step in
    let q = c.requires.sound in
    let is = begun_is q.0 far begun _ _ step (c.in_ok-a.ensures.sound q.0 q.2) c.requires.keys
    c.requires.sets c.requires.given in
    on_err_weaker c.go_through.result (λ stopped.
    local_stopped q.0 far begun _ _ step new stopped) c.go_through.ensures.error

pub returns-in-Pair-clause-sound : goal.returns-in-Pair-clause-sound
returns-in-Pair-clause-sound g c s sound =
    let far = c.args.far.now in let begun = c.begin.new.far in
    let new = c.go_through.new.far in
    let step = subst (λ (o : Compaction). PairStep far begun (reply_of o)) c.in-Pair.is
    c.in_ok-a.ensures.step in
    let q = c.requires.sound in
    let is = begun_is q.0 far begun _ _ step (c.in_ok-a.ensures.sound q.0 q.2) c.requires.keys
    c.requires.sets c.requires.given in
    (local_ends s far new c.go_through.result sound
    (IfOk-weaker c.go_through.result _ _ (λ reply ends.
    local_through q.0 far begun _ _ step new reply (ends _ _ _ is.fresh)) c.go_through.ensures.ends)
    (on_err_weaker c.go_through.result (λ stopped.
    local_stopped q.0 far begun _ _ step new stopped) c.go_through.ensures.error)).sound

pub returns-in-Pair-clause-now : goal.returns-in-Pair-clause-now
returns-in-Pair-clause-now g c s h sound =
    let far = c.args.far.now in let begun = c.begin.new.far in
    let new = c.go_through.new.far in
    let step = subst (λ (o : Compaction). PairStep far begun (reply_of o)) c.in-Pair.is
    c.in_ok-a.ensures.step in
    let q = c.requires.sound in
    let is = begun_is q.0 far begun _ _ step (c.in_ok-a.ensures.sound q.0 q.2) c.requires.keys
    c.requires.sets c.requires.given in
    (local_ends s far new c.go_through.result sound
    (IfOk-weaker c.go_through.result _ _ (λ reply ends.
    local_through q.0 far begun _ _ step new reply (ends _ _ _ is.fresh)) c.go_through.ensures.ends)
    (on_err_weaker c.go_through.result (λ stopped.
    local_stopped q.0 far begun _ _ step new stopped) c.go_through.ensures.error)).same_now h
