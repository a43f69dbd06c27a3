-- Last complete contents where a position of a set gives objects up.
use Rattle.std.proofs.Common.{◌≡◌, ℕ, length, Option, Some, None, nat_lt, sym, refl, ap, ◌∙◌, inl, inr}
use Rattle.std.proofs.lemmas.Bool.{cases_eq}
use Rattle.cb_member.specs.Membership.{Membership}
use Rattle.cb_set.specs.SetState.{SetState, PositionState, with_position}
use Rattle.cb_set.specs.Lost.{lost}
use Rattle.cb_set.proofs.Laws.{parities-with_position}
use Rattle.cb_world.specs.declared.homes.Home.{Home}
use Rattle.cb_world.specs.declared.shown.Shown.{Shown}
use Rattle.cb_world.specs.Homes.{home_at}
use Rattle.cb_world.specs.Sets.{set_in, if_committed}
use Rattle.cb_world.specs.SetWord.{is_broken}
use Rattle.cb_world.specs.FarState.{FarState}
use Rattle.cb_world.specs.FarSound.{AwaySound}
use Rattle.cb_world.specs.GivenUp.{GivesUp}
use Rattle.cb_world.specs.Now.{broken_home, broken_set, is_gone}
use Rattle.cb_world.proofs.Added.{set_same}

some_none : {X : Type 0} (o : Option X) (x : X) → o ≡ None → o ≡ Some x → ⊥
some_none o x e f = cc

-- the set of a home that stays is broken where it was
left_broken : (s t : Shown) (far new : FarState) (id : ℕ) (set : SetState) (p : ℕ)
    (left : PositionState) → AwaySound s far → AwaySound t new → GivesUp s t far new id set p left
    → (h : ℕ) (home : Home) → home_at far.homes h ≡ Some home → home_at new.homes h ≡ Some home
    → is_gone new h ≡ is_gone far h
left_broken s t far new id set p left sound after x h home was stays =
    let a = sound.away.home h home was in let b = after.away.home h home stays in
    let same : is_broken far.members b.0 ≡ is_broken far.members a.0 = elim (cases_eq home.set id) [
      | inl here ↦
          let mine : a.0 ≡ set =
          set_same a.0 set (sym a.1 ∙ ap (set_in far.sets) here ∙ x.was) in
          elim x.after [
            | inl on ↦
                let rest : b.0 ≡ with_position set p left = set_same b.0 (with_position set p left)
                (sym b.1 ∙ ap (set_in new.sets) here ∙ on.there) in
                ap (is_broken far.members) rest
                ∙ ap (λ (k : ℕ). nat_lt k (length (lost far.members set.shards)))
                (parities-with_position set p left)
                ∙ ap (is_broken far.members) (sym mine)
            | inr dropped ↦ absurd (some_none (set_in new.sets id) b.0 dropped.gone
                (ap (set_in new.sets) (sym here) ∙ b.1))
          ]
      | inr off ↦ ap (is_broken far.members) (set_same b.0 a.0 (sym b.1
          ∙ ap if_committed (x.others home.set off)
          ∙ a.1))
    ] in
    ap (broken_home new) stays ∙ ap (broken_set new.members) b.1
    ∙ ap (λ (m : Membership). is_broken m b.0) x.members ∙ same
    ∙ sym (ap (broken_home far) was ∙ ap (broken_set far.members) a.1)

-- so it is of every object whose home stays
pub left_gone : (s t : Shown) (far new : FarState) (id : ℕ) (set : SetState) (p : ℕ)
    (left : PositionState) → AwaySound s far → AwaySound t new → GivesUp s t far new id set p left
    → (h : ℕ) → home_at new.homes h ≡ home_at far.homes h → is_gone new h ≡ is_gone far h
left_gone s t far new id set p left sound after x h same = by (home_at far.homes h) refl
  where
    by : (o : Option Home) → home_at far.homes h ≡ o → is_gone new h ≡ is_gone far h
    by None e = ap (broken_home new) (same ∙ e) ∙ sym (ap (broken_home far) e)
    by (Some home) e = left_broken s t far new id set p left sound after x h home e (same ∙ e)
