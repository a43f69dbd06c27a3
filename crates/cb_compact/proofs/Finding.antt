-- Positions that pass a test, in order, and the tests of a pair.
use Rattle.std.proofs.Common.{◌≡◌, ℕ, zero, suc, ◌+◌, ◌<◌, ◌≤◌, Bool, true, false, cond, nat_eq, List, [], ◌∷◌, ◌++◌, length, take, get_or, set, refl, ap, sym, ◌∙◌, arith, length-set}
use Rattle.std.specs.List.{filter, range_with_len}
use Rattle.std.proofs.lemmas.Bool.{eq-eqb, eqb-true}
use Rattle.std.proofs.lemmas.List.{append-nil, length-take-le, take_more_set}
use Rattle.std.proofs.lemmas.List.Elements.{filter-append}
use Rattle.cb_world.proofs.Laws.{range_more}
use Rattle.cb_world.specs.Merged.{takes}

-- a list that has the position at a place takes it
pub takes_at : (taken : List ℕ) (k i : ℕ) → k < length taken → get_or taken k 0 ≡ i
    → takes taken i ≡ true
takes_at [] k i below is = absurd (omega (arith, below))
takes_at (q ∷ taken) zero i below is = ap (λ (b : Bool). cond b true (takes taken i)) (eq-eqb q i
    is)
takes_at (q ∷ taken) (suc k) i below is =
    first (nat_eq q i) (takes taken i) (takes_at taken k i (omega (arith, below)) is)
  where
    first : (b rest : Bool) → rest ≡ true → cond b true rest ≡ true
    first true rest e = refl
    first false rest e = e

-- and one that has it nowhere does not
pub takes_none : (taken : List ℕ) (i : ℕ)
    → ((k : ℕ) → k < length taken → get_or taken k 0 ≡ i → ⊥) → takes taken i ≡ false
takes_none [] i none = refl
takes_none (q ∷ taken) i none =
    both (nat_eq q i) (takes taken i) (other (nat_eq q i) refl)
    (takes_none taken i (λ k below is. none (suc k) (omega (arith, below)) is))
  where
    both : (b rest : Bool) → b ≡ false → rest ≡ false → cond b true rest ≡ false
    both true rest e f = e
    both false rest e f = f

    other : (b : Bool) → nat_eq q i ≡ b → b ≡ false
    other true e = absurd (none 0 (omega arith) (eqb-true q i e))
    other false e = refl

-- those of the first n positions that pass
abbrev pub passing : (ℕ → Bool) → ℕ → List ℕ
passing f n = filter f (range_with_len 0 n)

pub passing_more : (f : ℕ → Bool) (n : ℕ)
    → passing f (n + 1) ≡ passing f n ++ cond (f n) (n ∷ []) []
passing_more f n =
    ap (filter f) (range_more 0 n) ∙ filter-append f (range_with_len 0 n) ((0 + n) ∷ [])
    ∙ ap (λ (k : ℕ). passing f n ++ cond (f k) (k ∷ []) []) (let e : 0 + n ≡ n = omega arith in e)

pub passing_in : (f : ℕ → Bool) (n : ℕ) → f n ≡ true → passing f (n + 1) ≡ passing f n ++ n ∷ []
passing_in f n on = passing_more f n ∙ ap (λ (b : Bool). passing f n ++ cond b (n ∷ []) []) on

pub passing_out : (f : ℕ → Bool) (n : ℕ) → f n ≡ false → passing f (n + 1) ≡ passing f n
passing_out f n off = passing_more f n ∙ ap (λ (b : Bool). passing f n ++ cond b (n ∷ []) []) off
    ∙ append-nil (passing f n)

-- the passing ones of the first n positions stand in the first places
pub record FoundPassing (f : ℕ → Bool) (n : ℕ) (found : List ℕ) (count : ℕ) : Type 0 where
  pub size : length found ≡ 20
  pub behind : count ≤ n
  pub counted : count ≡ length (passing f n)
  pub listed : take count found ≡ passing f n

pub found_not : (f : ℕ → Bool) (n : ℕ) (found : List ℕ) (count : ℕ) → FoundPassing f n found count
    → f n ≡ false → FoundPassing f (n + 1) found count
found_not f n found count x off = let e = passing_out f n off in record {
  size = x.size;
  behind = let b = x.behind in omega (arith, b);
  counted = x.counted ∙ ap length (sym e);
  listed = x.listed ∙ sym e;
}

pub found_more : (f : ℕ → Bool) (n : ℕ) (found : List ℕ) (count : ℕ) → FoundPassing f n found count
    → n < 20 → f n ≡ true → FoundPassing f (n + 1) (set found count n) (count + 1)
found_more f n found count x few on =
    let e = passing_in f n on in
    let room : count < length found = let s = x.size in let b = x.behind in omega (
      arith,
      s,
      b,
      few,
    ) in
    let l : take (count + 1) (set found count n) ≡ passing f (n + 1) =
    take_more_set found count n room ∙ ap (λ (l : List ℕ). l ++ n ∷ []) x.listed ∙ sym e in
    let k = length-take-le (count + 1) (set found count n)
    (let s = length-set found count n in omega (arith, room, s)) in
    record {
      size = length-set found count n ∙ x.size;
      behind = let b = x.behind in omega (arith, b);
      counted = sym k ∙ ap length l;
      listed = l;
    }
