-- A filter that is answered Pinned tells the pins of the object's word.
use Rattle.std.proofs.Common.{◌≡◌, ℕ, zero, suc, ◌^◌, ◌<◌, arith}
use Rattle.cb_ptr.specs.declared.word.State.{State}
use Rattle.cb_ptr.specs.declared.word.State.TheVariants as state
use Rattle.cb_ptr.specs.Word.{state_of, pins_of}
use Rattle.cb_types.specs.declared.job.Job.TheVariants as job
use Rattle.cb_types.specs.declared.reply.Reply.TheVariants as answer
use Rattle.cb_world.specs.FarState.{FarState}
use Rattle.cb_world.specs.Plain.{Words}
use Rattle.cb_world.specs.StillWords.{stamp_at}
use Rattle.cb_world.specs.World.{WorldState, word_at}
use Rattle.cb_filter.specs.FilterRule.{EmptyToFilter}
use Rattle.cb_filter.specs.FilterStep.{RefusesAs, IsFilterStep, refused, cools, without_slot, moves}
use Rattle.cb_core.specs.Step.{TurnStep}
use Rattle.cb_core.specs.Turned.{counted}
use Rattle.cb_core.proofs.Laws.{is_done, IsPinCount}

empty_pinned : (version count : ℕ) → EmptyToFilter version (answer.Pinned count) → ⊥
empty_pinned zero count e = cc
empty_pinned (suc v) count e = cc

same_count : (m n : ℕ) → answer.Pinned m ≡ answer.Pinned n → m ≡ n
same_count m n e = cc

refused_pinned : (q : State) (w version count : ℕ) → RefusesAs q w version (answer.Pinned count)
    → IsPinCount w count
refused_pinned state.Empty w version count z = absurd (empty_pinned version count z)
refused_pinned state.Far w version count z = absurd cc
refused_pinned state.Moving w version count z = absurd cc
refused_pinned state.Here w version count z =
    let is = same_count count (pins_of w) z.1 in
    record { is = is; some = omega (arith, is, z.0) }

step_pinned : (x y : Words) (far new : FarState) (h count : ℕ)
    → IsFilterStep x y far new h (answer.Pinned count) → IsPinCount (word_at x h) count
step_pinned x y far new h count (refused z same still) =
    refused_pinned (state_of (word_at x h)) (word_at x h) (stamp_at x h) count z
step_pinned x y far new h count (cools seat free z is) = absurd (let e = z.reply in cc)
step_pinned x y far new h count (without_slot seat free z is) = absurd (let e = z.reply in cc)
step_pinned x y far new h count (moves seat slot free z is) = absurd (let e = z.reply in cc)

pub filter_counts : (w new : WorldState) (h count : ℕ) → w.far.counts.turns < 2 ^ 40
    → TurnStep (job.Filter (record { n = h })) w (answer.Pinned count) new
    → IsPinCount (word_at w.desk h) count
filter_counts w new h count few step =
    let j = job.Filter (record { n = h }) in
    step_pinned w.desk new.desk (counted w.far j) new.far h count
    (is_done j w new (answer.Pinned count) few step).0
