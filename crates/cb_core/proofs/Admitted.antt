-- A turn that was counted, and a compaction whose job is done beside the turns of the core.
use Rattle.std.proofs.Common.{ℕ, ◌^◌, ◌<◌, ◌≤◌, refl, sym, subst, arith}
use Rattle.cb_types.specs.declared.job.Job.{Job}
use Rattle.cb_types.specs.declared.job.Job.TheVariants.{Pair, Compact}
use Rattle.cb_types.specs.declared.reply.Reply.{Reply}
use Rattle.cb_world.specs.FarState.{FarState}
use Rattle.cb_world.specs.Orders.{LeavesWords}
use Rattle.cb_world.specs.Plain.{Words}
use Rattle.cb_world.specs.Sound.{Sound}
use Rattle.cb_world.specs.World.{WorldState, IsKnown, IsSoundWorld}
use Rattle.cb_world.proofs.Laws.{KeepsHolding, KeepsNote, StaysIfBy, stays_noted, stays_same, words_stay}
use Rattle.cb_compact.specs.CompactStep.{CompactStep}
use Rattle.cb_compact.proofs.Laws.{now_laws}
use Rattle.cb_core.specs.Holding.{NoOtherHolds}
use Rattle.cb_core.specs.Parts.{Holding}
use Rattle.cb_core.specs.Step.{SeatTurn, TurnStep, free, worn, done}
use Rattle.cb_core.specs.Turned.{counted, once_counted}
use Rattle.cb_core.proofs.Carried.{turn_rise}
use Rattle.cb_core.proofs.FarJobs.{far_job, note_of, stays_sound}
use Rattle.cb_core.proofs.KeptParts.{IsGood}
use Rattle.cb_core.proofs.StillFarJobs.{arrives_far, known_after, open_after}
use Rattle.cb_core.proofs.WordsTold.{far_orders}
use Rattle.cb_core.proofs.WorldKept.{arrived_sound, counted_good, held}

-- ---- the far state of a counted turn is changed alone
module _ (w : WorldState) (job : Job) (sound : IsSoundWorld w) (few : w.far.counts.turns < 2 ^ 40)
  where
    pub far_after : (n : ℕ) (new : FarState) → n ≤ turn_rise
        → StaysIfBy (note_of job) w.desk.settings n (counted w.far job) new
        → Sound sound.shown new → LeavesWords (counted w.far job) new
        → IsSoundWorld (record w { far = new })
    far_after n new most stays then leaves =
        let a = once_counted (held w) job in
        let good = counted_good w job sound in
        arrived_sound w job (record { desk = w.desk; far = new }) (Unit {0}) sound few
        (arrives_far w.desk.settings w.seats a (record { desk = w.desk; far = new }) (Unit {0}) good refl
        (stays_sound w.desk.settings n sound.shown (counted w.far job) new most good.configured stays
        then) leaves tt)

same_note : (job : Job) (far : FarState) → note_of job far far
same_note Pair far = λ holds. holds
same_note Compact far = λ holds. holds
same_note job far = λ n e. e

-- a world that counts a turn stays sound
pub admitted_sound : (w : WorldState) (job : Job) → IsSoundWorld w → w.far.counts.turns < 2 ^ 40
    → IsSoundWorld (record w { far = counted w.far job })
admitted_sound w job sound few =
    far_after w job sound few 1 (counted w.far job) (omega arith)
    (λ is. stays_noted KeepsNote (note_of job) w.desk.settings 1 (counted w.far job)
    (counted w.far job) (same_note job (counted w.far job))
    (stays_same w.desk.settings 1 (counted w.far job) (counted w.far job) (omega arith) refl is))
    (counted_good w job sound).known.sound (words_stay (counted w.far job))

-- ---- a compaction

-- a change of the far state that a compaction may make leaves the world sound
pub compacted_sound : (w : WorldState) (n : ℕ) (new : FarState) → n ≤ turn_rise
    → (sound : IsSoundWorld w) → w.far.counts.turns < 2 ^ 40
    → StaysIfBy KeepsHolding w.desk.settings n (counted w.far Compact) new
    → Sound sound.shown new → LeavesWords (counted w.far Compact) new
    → IsSoundWorld (record w { far = new })
compacted_sound w n new most sound few stays then leaves =
    far_after w Compact sound few n new most stays then leaves

-- what the nodes do in such a turn is a turn of the core
pub compact_made : (w : WorldState) (seat : ℕ) (mid : FarState) (r : Reply) → IsSoundWorld w
    → NoOtherHolds w.seats seat → w.far.counts.turns < 2 ^ 40
    → CompactStep (counted w.far Compact) mid r → SeatTurn seat Compact w r (record w { far = mid })
compact_made w seat mid r sound none few step = free none (done few (
  refl,
  step,
  λ s k.
      let z = (far_job Compact).keeps w.desk.settings s (counted w.far Compact) mid r tt
      good.configured k.sound step in (
        s,
        known_after a b s refl k z.sound,
        (far_job Compact).now tt w.desk.settings s (counted w.far Compact) mid r tt good.configured
            k.sound step,
        λ others ongoing. open_after a b s others refl k z.sound ongoing,
        far_orders s (counted w.far Compact) mid k.sound z.sound
            ((far_job Compact).words w.desk.settings s (counted w.far Compact) mid r tt good.configured
            k.sound step),
      ),
) refl)
  where
    a : Holding Words
    a = once_counted (held w) Compact

    b : Holding Words
    b = record { desk = w.desk; far = mid }

    good : IsGood w.desk.settings w.seats a
    good = counted_good w Compact sound

-- such a turn leaves the world sound
pub compact_sound : (w new : WorldState) (r : Reply) → IsSoundWorld w → TurnStep Compact w r new
    → IsSoundWorld new
compact_sound w new r sound (worn end reply same) = subst IsSoundWorld (sym same) sound
compact_sound w new r sound (done few (words, step, hold) seats) =
    subst IsSoundWorld (sym (λ i. record { desk = words i; far = new.far; seats = seats i }))
    (compacted_sound w 20 new.far (omega arith) sound few
    (now_laws.stays w.desk.settings sound.shown (counted w.far Compact) new.far r known.sound step)
    (now_laws.keeps sound.shown (counted w.far Compact) new.far r known.sound step).sound
    (now_laws.keeps sound.shown (counted w.far Compact) new.far r known.sound step).words)
  where
    known : IsKnown w.desk (counted w.far Compact) sound.shown
    known = (counted_good w Compact sound).known
