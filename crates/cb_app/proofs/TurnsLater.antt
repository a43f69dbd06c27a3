-- Turns that stand in front of a record whose turns are one history have later numbers, and so find
-- all that it made.
use Rattle.std.proofs.Common.{◌≡◌, ◌⊎◌, ℕ, ◌^◌, ◌<◌, ◌≤◌, List, [], ◌∷◌, ◌++◌, refl, ap, inl, inr, arith, eq-eqb}
use Rattle.std.proofs.lemmas.Bool.{cases_lt}
use Rattle.cb_types.specs.declared.config.Config.{Config}
use Rattle.cb_world.specs.FarState.{FarState}
use Rattle.cb_rule.specs.declared.turn.Turn.{Turn}
use Rattle.cb_rule.specs.declared.view.View.{View}
use Rattle.cb_rule.specs.Lists.{Has, times, total}
use Rattle.cb_rule.specs.Locking.{is_turn, turn_number}
use Rattle.cb_rule.specs.OneHistory.{HasTurnNumber, IsOneHistory}
use Rattle.cb_rule.proofs.Laws.{times-append, times_has}
use Rattle.cb_shared.specs.Turning.{Did}
use Rattle.cb_app.proofs.CountedTurns.{below, counts_all}
use Rattle.cb_app.proofs.MadeTurns.{counted_or_none, made_found, made_in}

pub has_front : {A : Type 0} (x : A) (xs ys : List A) → Has x xs → Has x (xs ++ ys)
has_front x [] ys has = absurd has
has_front x (y ∷ xs) ys (inl is) = inl is
has_front x (y ∷ xs) ys (inr has) = inr (has_front x xs ys has)

pub has_behind : {A : Type 0} (x : A) (xs ys : List A) → Has x ys → Has x (xs ++ ys)
has_behind x [] ys has = has
has_behind x (y ∷ xs) ys has = inr (has_behind x xs ys has)

total_both : {A : Type 0} (f : A → ℕ) (xs ys : List A) → total f ys ≤ total f (xs ++ ys)
total_both f [] ys = omega arith
total_both f (x ∷ xs) ys = let rest = total_both f xs ys in omega (arith, rest)

module _ (first : ℕ) (c : Config) (v w : View) (count count' : ℕ) (last last' : FarState)
    (old : IsOneHistory Did first c (v ∷ []) count last)
    (new : IsOneHistory Did first c (w ∷ []) count' last')
    (ts : List Turn) (grew : w.turns ≡ ts ++ v.turns) where
  there_now : (t : Turn) → Has t ts → Has t w.turns
  there_now t has = let e = grew in rw e (has_front t ts v.turns has)

  pub later : (t : Turn) → Has t ts → (count ≤ turn_number t) ⊎ (turn_number t ≡ 2 ^ 40)
  later t has = by (new.numbers t (w, (0, refl), there_now t has))
    where
      by : HasTurnNumber count' t → (count ≤ turn_number t) ⊎ (turn_number t ≡ 2 ^ 40)
      by (inr z) = inr z.0
      by (inl low) = sides (cases_lt (turn_number t) count)
        where
          sides : (turn_number t < count) ⊎ (count ≤ turn_number t)
              → (count ≤ turn_number t) ⊎ (turn_number t ≡ 2 ^ 40)
          sides (inr more) = inl more
          sides (inl less) =
              let a = old.once (turn_number t) less in
              let b = new.once (turn_number t) low in
              let e = ap (times (is_turn (turn_number t))) grew in
              let s = times-append (is_turn (turn_number t)) ts v.turns in
              let one = times_has (is_turn (turn_number t)) t ts has
              (eq-eqb (turn_number t) (turn_number t) refl) in
              absurd (omega (arith, a, b, e, s, one))

  -- one of them that was counted found all that the record had made
  pub found_all : (t : Turn) → Has t ts → turn_number t < 2 ^ 40 → total made_in v.turns ≤ t.took.made
  found_all t has low = by (later t has)
    where
      by : (count ≤ turn_number t) ⊎ (turn_number t ≡ 2 ^ 40) → total made_in v.turns ≤ t.took.made
      by (inr end) = absurd (omega (arith, end, low))
      by (inl past) =
          let n : ℕ = turn_number t in
          let all = counts_all turn_number made_in n v.turns
          (λ x there. earlier x (counted_or_none first c v count last old x there)) in
          let front = total_both (below turn_number made_in n) ts v.turns in
          let e = ap (total (below turn_number made_in n)) grew in
          let found = made_found first c w count' last' new t (there_now t has) in
          omega (arith, all, front, e, found)
        where
          earlier : (x : Turn) → (turn_number x < count) ⊎ (made_in x ≡ 0)
              → (turn_number x < turn_number t) ⊎ (made_in x ≡ 0)
          earlier x (inl less) = inl (omega (arith, less, past))
          earlier x (inr none) = inr none
