-- Worked examples: a turn whose job is done beside the turns of the core.
use Rattle.std.proofs.Common.{◌≡◌, ◌^◌, ◌<◌, refl, ap, arith}
use Rattle.cb_types.specs.declared.job.Job.TheVariants as job
use Rattle.cb_types.specs.declared.reply.Reply.TheVariants.{Held, NoPair, Worn}
use Rattle.cb_world.specs.Seats.{Holds}
use Rattle.cb_world.specs.World.{WorldState}
use Rattle.cb_core.specs.Admitting.{IsAdmitted, IsTurnRefused, all_counted, other_holds}
use Rattle.cb_core.specs.Holding.{NoOtherHolds}
use Rattle.cb_core.specs.Turned.{counted}

module _ (w : WorldState) where
  -- ---- a turn that is refused
  of_another : Holds w.seats 2 → IsTurnRefused 1 w (Held 2)
  of_another holds = other_holds 2 (λ e. omega (arith, e)) holds refl

  not_of_itself : NoOtherHolds w.seats 1 → IsTurnRefused 1 w (Held 1) → ⊥
  not_of_itself none (other_holds holder off holds e) = off (none holder holds)
  not_of_itself none (all_counted other end e) = absurd (let z : Held 1 ≡ Worn = e in cc)

  not_of_nobody : NoOtherHolds w.seats 1 → IsTurnRefused 1 w (Held 2) → ⊥
  not_of_nobody none (other_holds holder off holds e) = off (none holder holds)
  not_of_nobody none (all_counted other end e) = absurd (let z : Held 2 ≡ Worn = e in cc)

  worn_out : NoOtherHolds w.seats 1 → w.far.counts.turns ≡ 2 ^ 40 → IsTurnRefused 1 w Worn
  worn_out none end = all_counted none end refl

  not_before : w.far.counts.turns < 2 ^ 40 → IsTurnRefused 1 w Worn → ⊥
  not_before few (other_holds holder off holds e) = absurd (let z : Worn ≡ Held holder = e in cc)
  not_before few (all_counted none end e) = omega (arith, few, end)

  not_beside_a_holder : Holds w.seats 2 → IsTurnRefused 1 w Worn → ⊥
  not_beside_a_holder holds (other_holds holder off held e) =
      absurd (let z : Worn ≡ Held holder = e in cc)
  not_beside_a_holder holds (all_counted none end e) =
      let z = none 2 holds in omega (arith, z)

  with_no_other_reply : IsTurnRefused 1 w NoPair → ⊥
  with_no_other_reply (other_holds holder off holds e) =
      absurd (let z : NoPair ≡ Held holder = e in cc)
  with_no_other_reply (all_counted none end e) = absurd (let z : NoPair ≡ Worn = e in cc)

  -- ---- and one that is counted
  is_counted : w.far.counts.turns < 2 ^ 40 → NoOtherHolds w.seats 1
      → IsAdmitted 1 job.Compact w (record w { far = counted w.far job.Compact })
  is_counted few none = record { few = few; free = none; state = refl }

  not_past_the_last : (new : WorldState) → w.far.counts.turns ≡ 2 ^ 40
      → IsAdmitted 1 job.Compact w new → ⊥
  not_past_the_last new end is = let few = is.few in omega (arith, few, end)

  not_beside_another : (new : WorldState) → Holds w.seats 2 → IsAdmitted 1 job.Compact w new → ⊥
  not_beside_another new holds is = let z = is.free 2 holds in omega (arith, z)

  uncounted : IsAdmitted 1 job.Compact w w → ⊥
  uncounted is = let more = ap (λ (v : WorldState). v.far.counts.turns) is.state in
      omega (arith, more)
