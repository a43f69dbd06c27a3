use Rattle.std.proofs.Common.{refl, ap, inl, inr}
use Rattle.std.specs.Prelude.{Result, Ok, Err, IfOk}
use Rattle.cb_member.specs.declared.no_memory.NoMemory.{NoMemory}
use Rattle.cb_set.specs.SetState.{SetState}
use Rattle.cb_world.specs.FarState.{FarState}
use Rattle.cb_world.specs.Joining.{JoiningState}
use Rattle.cb_types.specs.declared.reply.Reply.{Reply}
use Rattle.cb_types.specs.declared.reply.Reply.TheVariants as answer
use Rattle.cb_compact.specs.MergeStep.{IsMerged, Merges}
use Rattle.cb_compact.specs.PartStep.{IsFreshPair}
use Rattle.cb_compact.proofs.PatchSound.{few_steps}
use Rattle.cb_compact.proofs.merging.merge_on.Goals as goal

all_merge : (far new : FarState) (r : Result Reply NoMemory)
    → IfOk r (λ reply. (pair : JoiningState) (a b : SetState) → IsFreshPair far pair a b
    → IsMerged far pair a b new reply)
    → IfOk r (λ reply. (pair : JoiningState) (a b : SetState) → IsFreshPair far pair a b
    → Merges far pair a b new reply)
all_merge far new (Ok reply) x = λ pair a b fresh. inr (x pair a b fresh)
all_merge far new (Err e) x = x

pub next_position-requires : goal.next_position-requires
next_position-requires c =
    let x = c.requires.fresh in let s = c.requires.sound in
    record { fresh = (x.0, x.1, x.2, x.3, few_steps s.0 c.args.far.now x.0 s.1 x.3.was) }

pub undone_positions-requires : goal.undone_positions-requires
undone_positions-requires c =
    let x = c.requires.fresh in let s = c.requires.sound in
    record { fresh = (x.0, x.1, x.2, x.3, few_steps s.0 c.args.far.now x.0 s.1 x.3.was) }

pub merge-requires-clause-ready : goal.merge-requires-clause-ready
merge-requires-clause-ready c =
    let x = c.requires.fresh in let s = c.requires.sound in (
      s.0,
      x.0,
      x.1,
      x.2,
      record {
        sound = s.1;
        fresh = x.3;
        done = c.in-None.ensures.none x.0 x.1 x.2 x.3;
      },
    )

pub returns-in-Some-clause-step : goal.returns-in-Some-clause-step
returns-in-Some-clause-step c pair a b fresh =
    let next = c.in-Some.ensures.next pair a b fresh in
    inl (record {
      position = c.in-Some.field-0;
      within = next.within;
      some = next.undone;
      reply = ap answer.Unfinished (c.undone_positions.ensures pair a b fresh);
      state = refl;
    })

pub returns-in-None-clause-step : goal.returns-in-None-clause-step
returns-in-None-clause-step c =
    all_merge c.args.far.now c.merge.new.far c.merge.result c.merge.ensures.merged
