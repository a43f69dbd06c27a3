use Rattle.std.proofs.Common.{ℕ, Option, Some, None, refl, sym, subst, inl, inr}
use Rattle.cb_member.specs.declared.names.NodeId.{NodeId}
use Rattle.cb_set.specs.SetState.{SetState}
use Rattle.cb_world.specs.FarState.{FarState}
use Rattle.cb_world.specs.Joining.{JoiningState}
use Rattle.cb_compact.specs.Stepping.{TakesOne, step_reply}
use Rattle.cb_compact.specs.PatchStep.{TakesStep}
use Rattle.cb_compact.proofs.PatchSound.{few_steps}
use Rattle.cb_compact.proofs.stepping.step_on.Goals as goal

taken : (far new : FarState) (pair : JoiningState) (a b : SetState) (p : ℕ) (full : Option NodeId)
    → TakesOne far pair a b p new full → TakesStep far pair a b new (step_reply p full)
taken far new pair a b p None x = inr (inr x)
taken far new pair a b p (Some node) x = inr (inl x)

pub next_position-requires : goal.next_position-requires
next_position-requires c =
    let x = c.requires.fresh in let s = c.requires.sound in
    record { fresh = (x.0, x.1, x.2, x.3, few_steps s.0 c.args.far.now x.0 s.1 x.3.was) }

pub take_step-requires-clause-next : goal.take_step-requires-clause-next
take_step-requires-clause-next c =
    let x = c.requires.fresh in
    (x.0, x.1, x.2, x.3, c.in-Some.ensures.next x.0 x.1 x.2 x.3)

pub returns-clause-step : goal.returns-clause-step
returns-clause-step c pair a b fresh =
    subst (TakesStep c.args.far.now pair a b c.take_step.new.far) (sym c.reply_of.ensures)
    (taken c.args.far.now c.take_step.new.far pair a b c.in-Some.position c.in_ok-full.full
    (c.in_ok-full.ensures.step pair a b fresh (c.in-Some.ensures.next pair a b fresh)))

pub returns-in_default-clause-step : goal.returns-in_default-clause-step
returns-in_default-clause-step c pair a b fresh =
    inl (record { done = c.in_default.ensures.none pair a b fresh; reply = refl; state = refl })
