-- What a fetch answers that hands no order out, and when it hands one out.
use Rattle.std.proofs.Common.{◌≡◌, ℕ, Bool, true, false, not, ◌&&◌, if◌then◌else◌, sym, ap, refl, subst}
use Rattle.std.proofs.lemmas.Bool.{false≢true}
use Rattle.cb_set.specs.Lost.{lost, lost_at}
use Rattle.cb_set.specs.SetState.{SetState}
use Rattle.cb_types.specs.declared.reply.Reply.{Reply}
use Rattle.cb_types.specs.declared.reply.Reply.TheVariants as answer
use Rattle.cb_world.specs.FarState.{FarState}
use Rattle.cb_world.specs.SetWord.{is_broken}
use Rattle.cb_swapin.specs.FetchStep.{is_to_make, unfetched_answer}

-- by whether the set is broken
pub by_unfetched : (C : Reply → Type 0) (far : FarState) (id : ℕ) (set : SetState)
    → (is_broken far.members set ≡ true
    → C (answer.Unavailable (record { n = id }) (lost far.members set.shards)))
    → (is_broken far.members set ≡ false → C answer.Direct) → C (unfetched_answer far id set)
by_unfetched C far id set broken fine = by (is_broken far.members set) refl
  where
    answered : Bool → Reply
    answered b = if b then answer.Unavailable (record { n = id }) (lost far.members set.shards)
        else answer.Direct

    by : (b : Bool) → is_broken far.members set ≡ b → C (unfetched_answer far id set)
    by true e = subst C (ap answered (sym e)) (broken e)
    by false e = subst C (ap answered (sym e)) (fine e)

-- where a row has to be made and can be, the set is not broken
pub whole_if : (far : FarState) (set : SetState) (p : ℕ) → true ≡ is_to_make far set p
    → is_broken far.members set ≡ false
whole_if far set p e = by (is_broken far.members set) (lost_at far.members set.shards p) e
  where
    by : (b l : Bool) → true ≡ (not b && l) → b ≡ false
    by false l f = refl
    by true l f = absurd (false≢true (sym f))
