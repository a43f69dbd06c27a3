-- A swap that is a turn leaves the world sound.
use Rattle.std.proofs.Common.{ℕ, List, sym, subst, arith}
use Rattle.cb_types.specs.declared.config.Config.{Config}
use Rattle.cb_types.specs.declared.job.Job.TheVariants as job
use Rattle.cb_types.specs.declared.reply.Reply.{Reply}
use Rattle.cb_types.specs.Config.{IsAccepted}
use Rattle.cb_world.specs.Plain.{Words}
use Rattle.cb_world.specs.Seats.{SeatState}
use Rattle.cb_world.specs.World.{WorldState, IsSoundWorld}
use Rattle.cb_world.proofs.Laws.{StaysIf}
use Rattle.cb_evict.specs.declared.eviction.Eviction.{Eviction}
use Rattle.cb_evict.specs.Eviction.{reply_of}
use Rattle.cb_evict.specs.EvictStep.{IsCountedStep}
use Rattle.cb_evict.proofs.Laws.{evict_keeps, evict_step_stays}
use Rattle.cb_swapin.specs.SwapStep.{IsSwapStep}
use Rattle.cb_swapin.proofs.Laws.{swap_keeps, swap_step_stays}
use Rattle.cb_core.specs.Parts.{BringsIn, Holding, most_evictions}
use Rattle.cb_core.specs.Step.{StillRoom, StillSwap, StillBring, StillFind, TurnStep, worn, done}
use Rattle.cb_core.specs.Turned.{once_counted}
use Rattle.cb_core.proofs.Carried.{bring_rise, brings_in, come_rise, itself, turn_rise, with_room}
use Rattle.cb_core.proofs.KeptParts.{IsGood, Arrives, Carries, arrives_held, arrives_more, arrives_same, good_along}
use Rattle.cb_core.proofs.WorldKept.{arrived_sound, counted_good, held}

module _ (c : Config) (seats : List SeatState) (accepted : IsAccepted c) where
  room_arrives : Carries c seats 24 StillRoom StillRoom
  room_arrives a b v good still =
      let x = a.desk in let y = b.desk in let far = a.far in let new = b.far in
      arrives_held c seats 24 a b (IsCountedStep x y far new v) good
      (subst (λ (d : Config). StaysIf d 24 far new) good.settings (evict_step_stays x y far new
      (reply_of v) (subst IsAccepted (sym good.settings) accepted) still.0.step))
      (λ z. (evict_keeps x y far new (reply_of v) z.step).words) still

  one_arrives : (h : ℕ) → Carries c seats 16 (StillSwap h) (StillSwap h)
  one_arrives h a b r good (home, at, step, hold) =
      let x = a.desk in let y = b.desk in let far = a.far in let new = b.far in
      let id = home.set in let place = home.position in
      let z = arrives_held c seats 16 a b (IsSwapStep x y far new id place r) good
      (swap_step_stays c x y far new id place r good.shown good.known.sound step)
      (λ z. (swap_keeps x y far new id place r good.shown good.known z).words) (step, hold) in
      arrives_more c seats 16 16 a b _ (StillSwap h a r b) (omega arith) z
      (home, at, z.is.0, z.is.1)

  swap_arrives : (h : ℕ) → Carries c seats come_rise (BringsIn (StillFind h) (StillBring h))
      (BringsIn (StillFind h) (StillBring h))
  swap_arrives h = brings_in itself (IsGood c seats) (Arrives c seats) (good_along c seats) 1
      bring_rise come_rise (StillFind h) (StillBring h) (StillFind h) (StillBring h) (omega arith)
      (λ a b r good x. arrives_same c seats 1 a b (StillFind h a r b) good x.1 x)
      (λ a b r good x. with_room itself (IsGood c seats) (Arrives c seats) (good_along c seats)
      a.desk.settings.frames 16 24 (StillSwap h) (StillSwap h) StillRoom StillRoom (one_arrives h)
      room_arrives most_evictions bring_rise (omega arith) a b r good x)

-- What is known of a holding between two parts is known behind an eviction.
pub room_good : (c : Config) (seats : List SeatState) → IsAccepted c → (a b : Holding Words)
    (e : Eviction) → IsGood c seats a → StillRoom a e b → IsGood c seats b
room_good c seats accepted a b e good still = (room_arrives c seats accepted a b e good still).good

-- The world is sound after a swap.
pub swap_sound : (w new : WorldState) (h : ℕ) (r : Reply) → IsSoundWorld w
    → TurnStep (job.Swap (record { n = h })) w r new → IsSoundWorld new
swap_sound w new h r sound (worn end is same) = subst IsSoundWorld (sym same) sound
swap_sound w new h r sound (done few works seats) =
    let j = job.Swap (record { n = h }) in let a = once_counted (held w) j in let b = held new in
    let z = swap_arrives w.desk.settings w.seats sound.config h a b r (counted_good w j sound)
    works in
    subst IsSoundWorld (sym (λ i. record { desk = new.desk; far = new.far; seats = seats i }))
    (arrived_sound w j b _ sound few
    (arrives_more w.desk.settings w.seats come_rise turn_rise a b _ (Unit {0}) (omega arith) z tt))
