-- An open write that goes on, and one that is settled: P2 is kept.
use Rattle.std.proofs.Common.{◌≡◌, ◌≢◌, ◌⊎◌, ℕ, zero, suc, ◌+◌, ◌<◌, ◌≤◌, List, [], ◌∷◌, Some, length, get_or, set, sym, refl, ap, ◌∙◌, subst, arith, inl, inr, length-set, get_or-set_other, get_or-set_same}
use Rattle.std.specs.Prelude.{slice_get}
use Rattle.std.specs.List.{remove}
use native.Mathlib.Decide.{ℕ_discrete}
use Rattle.cb_ptr.specs.declared.word.State.TheVariants as state
use Rattle.cb_ptr.specs.Word.{state_of}
use Rattle.cb_world.specs.FarState.{FarState}
use Rattle.cb_world.specs.OpenWrites.{IsOpen, IsLeavingNow, IsClaimedNow, AreOpen}
use Rattle.cb_world.specs.Plain.{Words}
use Rattle.cb_world.specs.Seats.{SeatState, OpenWriteState, IsClaimAt, idle_seat, seat_at, claims_of_seat, with_claims}

none_is : (y : OpenWriteState) (p : ℕ) → slice_get [] p ≡ Some y → ⊥
none_is y p e = cc

same_some : (x y : OpenWriteState) → Some x ≡ Some y → x ≡ y
same_some x y e = cc

-- what stands in a list in which one item was replaced
pub get_set : (xs : List OpenWriteState) (i : ℕ) (x : OpenWriteState) (p : ℕ) (y : OpenWriteState)
    → slice_get (set xs i x) p ≡ Some y
    → ((p ≢ i) × (slice_get xs p ≡ Some y)) ⊎ ((p ≡ i) × (x ≡ y))
get_set [] i x p y e = absurd (none_is y p e)
get_set (z ∷ xs) zero x zero y e = inr (refl, same_some x y e)
get_set (z ∷ xs) zero x (suc p) y e = inl ((λ q. omega (arith, q)), e)
get_set (z ∷ xs) (suc i) x zero y e = inl ((λ q. omega (arith, q)), e)
get_set (z ∷ xs) (suc i) x (suc p) y e = elim (get_set xs i x p y e) [
  | inl (off, b) ↦ inl ((λ q. off (omega (arith, q))), b)
  | inr (q, b) ↦ inr (ap suc q, b)
]

set_other : (xs : List OpenWriteState) (i : ℕ) (x : OpenWriteState) (p : ℕ) (y : OpenWriteState)
    → p ≢ i → slice_get xs p ≡ Some y → slice_get (set xs i x) p ≡ Some y
set_other [] i x p y off e = absurd (none_is y p e)
set_other (z ∷ xs) zero x zero y off e = absurd (off refl)
set_other (z ∷ xs) zero x (suc p) y off e = e
set_other (z ∷ xs) (suc i) x zero y off e = e
set_other (z ∷ xs) (suc i) x (suc p) y off e =
    set_other xs i x p y (λ q. off (ap suc q)) e

pub set_same : (xs : List OpenWriteState) (i : ℕ) (x y : OpenWriteState) → slice_get xs i ≡ Some y
    → slice_get (set xs i x) i ≡ Some x
set_same [] i x y e = absurd (none_is y i e)
set_same (z ∷ xs) zero x y e = refl
set_same (z ∷ xs) (suc i) x y e = set_same xs i x y e

-- what stands in a list out of which one item was taken
abbrev pub IsShift : ℕ → ℕ → ℕ → Type 0
IsShift i p q = ((p < i) × (q ≡ p)) ⊎ ((i ≤ p) × (q ≡ p + 1))

shift_more : (i p q : ℕ) → IsShift i p q → IsShift (suc i) (suc p) (suc q)
shift_more i p q (inl (less, same)) = inl (omega (arith, less), ap suc same)
shift_more i p q (inr (past, same)) = inr (omega (arith, past), omega (arith, same))

-- two places that come from one are one
shift_one : (i p q m n : ℕ) → IsShift i p m → IsShift i q n → m ≡ n → p ≡ q
shift_one i p q m n (inl (a, b)) (inl (c, d)) e = omega (arith, a, b, c, d, e)
shift_one i p q m n (inl (a, b)) (inr (c, d)) e = absurd (omega (arith, a, b, c, d, e))
shift_one i p q m n (inr (a, b)) (inl (c, d)) e = absurd (omega (arith, a, b, c, d, e))
shift_one i p q m n (inr (a, b)) (inr (c, d)) e = omega (arith, a, b, c, d, e)

pub get_remove : (xs : List OpenWriteState) (i p : ℕ) (y : OpenWriteState)
    → slice_get (remove xs i) p ≡ Some y → (q : ℕ) × (slice_get xs q ≡ Some y) × IsShift i p q
get_remove [] zero p y e = absurd (none_is y p e)
get_remove [] (suc i) p y e = absurd (none_is y p e)
get_remove (z ∷ xs) zero p y e = (suc p, e, inr (omega arith, omega arith))
get_remove (z ∷ xs) (suc i) zero y e = (0, e, inl (omega arith, refl))
get_remove (z ∷ xs) (suc i) (suc p) y e = let r = get_remove xs i p y e in
    (suc r.0, r.1, shift_more i p r.0 r.2)

put_remove : (xs : List OpenWriteState) (i q : ℕ) (y : OpenWriteState) → slice_get xs q ≡ Some y
    → q ≢ i → (p : ℕ) × (slice_get (remove xs i) p ≡ Some y)
put_remove [] i q y e off = absurd (none_is y q e)
put_remove (z ∷ xs) zero zero y e off = absurd (off refl)
put_remove (z ∷ xs) zero (suc q) y e off = (q, e)
put_remove (z ∷ xs) (suc i) zero y e off = (0, e)
put_remove (z ∷ xs) (suc i) (suc q) y e off =
    let r = put_remove xs i q y e (λ s. off (ap suc s)) in (suc r.0, r.1)

-- the open writes of a seat, where one seat has these
pub claims_same : (seats : List SeatState) (seat : ℕ) (cs : List OpenWriteState) → seat < length seats
    → claims_of_seat (with_claims seats seat cs) seat ≡ cs
claims_same seats seat cs within = ap (λ (x : SeatState). x.claims)
    (get_or-set_same seats seat (record (seat_at seats seat) { claims = cs }) idle_seat within)

pub claims_other : (seats : List SeatState) (seat : ℕ) (cs : List OpenWriteState) (k : ℕ) → k ≢ seat
    → claims_of_seat (with_claims seats seat cs) k ≡ claims_of_seat seats k
claims_other seats seat cs k off = ap (λ (x : SeatState). x.claims)
    (get_or-set_other seats seat k (record (seat_at seats seat) { claims = cs }) idle_seat off)

module _ (x y : Words) (far : FarState) (seats : List SeatState) (seat place : ℕ) (c : OpenWriteState)
    (ongoing : AreOpen x far seats) (within : seat < length seats)
    (there : IsClaimAt seats seat place c)
    (others : (other at : ℕ) (d : OpenWriteState) → IsClaimAt seats other at d → d.handle ≢ c.handle
    → IsOpen y d) where
  abbrev pub cs : List OpenWriteState
  cs = claims_of_seat seats seat

  is_mine : (other at : ℕ) (d : OpenWriteState) → IsClaimAt seats other at d → d.handle ≡ c.handle
      → (seat ≡ other) × (place ≡ at)
  is_mine other at d is e = ongoing.once seat other place at c d there is (sym e)

  -- ---- one that goes on
  module _ (next : OpenWriteState) (handle : next.handle ≡ c.handle) (mine : IsOpen y next)
      (words : y.words ≡ x.words) where
    abbrev pub after_store : List SeatState
    after_store = with_claims seats seat (set cs place next)

    abbrev IsEither : ℕ → ℕ → OpenWriteState → Type 0
    IsEither other at d = (IsClaimAt seats other at d × (d.handle ≢ c.handle))
        ⊎ ((other ≡ seat) × (at ≡ place) × (next ≡ d))

    either : (other at : ℕ) (d : OpenWriteState) → IsClaimAt after_store other at d → IsEither other at d
    either other at d is = by (ℕ_discrete other seat)
      where
        by : Dec (other ≡ seat) → IsEither other at d
        by (no off) = let before = ap (λ l. slice_get l at) (sym (claims_other seats seat _ other off)) ∙ is in
            inl (before, λ e. off (sym (is_mine other at d before e).0))
        by (yes e) = elim (get_set cs place next at d
            (ap (λ l. slice_get l at) (sym (claims_same seats seat _ within))
            ∙ ap (λ k. slice_get (claims_of_seat after_store k) at) (sym e) ∙ is)) [
              | inl (off, old) ↦ let before : IsClaimAt seats other at d =
                  ap (λ k. slice_get (claims_of_seat seats k) at) e ∙ old in
                  inl (before, λ q. off (sym (is_mine other at d before q).1))
              | inr (last, same) ↦ inr (e, last, same)
            ]

    handle_of : (d : OpenWriteState) → next ≡ d → d.handle ≡ c.handle
    handle_of d e = ap (λ (z : OpenWriteState). z.handle) (sym e) ∙ handle

    pub goes_on : AreOpen y far after_store
    goes_on = record {
      each = λ other at d is. elim (either other at d is) [
        | inl (before, off) ↦ others other at d before off
        | inr (e, last, same) ↦ subst (IsOpen y) same mine
      ];
      once = λ a b p q d f u v e. both a b p q d f (either a p d u) (either b q f v) e;
      apart = λ other at d is leaving. elim (either other at d is) [
        | inl (before, off) ↦ ongoing.apart other at d before leaving
        | inr (e, last, same) ↦ ongoing.apart seat place c there
            (subst (IsLeavingNow far) (handle_of d same) leaving)
      ];
      moving = λ h below moved. elim (ongoing.moving h
          (subst (λ (l : List ℕ). h < length l) words below)
          (ap (λ (l : List ℕ). state_of (get_or l h 0)) (sym words) ∙ moved)) [
            | inl claimed ↦ inl (still h claimed)
            | inr leaving ↦ inr leaving
          ];
    }
      where
        both : (a b p q : ℕ) (d f : OpenWriteState) → IsEither a p d → IsEither b q f
            → d.handle ≡ f.handle → (a ≡ b) × (p ≡ q)
        both a b p q d f (inl u) (inl v) e = ongoing.once a b p q d f u.0 v.0 e
        both a b p q d f (inl u) (inr v) e = absurd (u.1 (e ∙ handle_of f v.2))
        both a b p q d f (inr u) (inl v) e = absurd (v.1 (sym e ∙ handle_of d u.2))
        both a b p q d f (inr u) (inr v) e = (u.0 ∙ sym v.0, u.1 ∙ sym v.1)

        still : (h : ℕ) → IsClaimedNow seats h → IsClaimedNow after_store h
        still h (other, at, d, is, on) = by (ℕ_discrete other seat) (ℕ_discrete at place)
          where
            by : Dec (other ≡ seat) → Dec (at ≡ place) → IsClaimedNow after_store h
            by (no off) any = (
              other,
              at,
              d,
              ap (λ l. slice_get l at) (claims_other seats seat _ other off) ∙ is,
              on,
            )
            by (yes e) (no off) = (
              seat,
              at,
              d,
              ap (λ l. slice_get l at) (claims_same seats seat _ within)
                  ∙ set_other cs place next at d off (ap (λ k. slice_get (claims_of_seat seats k) at) (sym e) ∙ is),
              on,
            )
            by (yes e) (yes f) = (
              seat,
              place,
              next,
              ap (λ l. slice_get l place) (claims_same seats seat _ within) ∙ set_same cs place next c there,
              handle ∙ ap (λ (z : OpenWriteState). z.handle) (same_some c d (sym there
                  ∙ (λ i. slice_get (claims_of_seat seats (sym e i)) (sym f i)) ∙ is)) ∙ on,
            )

  -- ---- one that is settled
  module _ (v : ℕ) (here : state_of v ≡ state.Here) (below : c.handle < length x.words)
      (words : y.words ≡ set x.words c.handle v) where
    abbrev pub after_settling : List SeatState
    after_settling = with_claims seats seat (remove cs place)

    abbrev IsBefore : ℕ → ℕ → OpenWriteState → Type 0
    IsBefore other at d = (q : ℕ) × IsClaimAt seats other q d × (d.handle ≢ c.handle)
        × (((other ≢ seat) × (q ≡ at)) ⊎ ((other ≡ seat) × IsShift place at q))

    before : (other at : ℕ) (d : OpenWriteState) → IsClaimAt after_settling other at d
        → IsBefore other at d
    before other at d is = by (ℕ_discrete other seat)
      where
        by : Dec (other ≡ seat) → IsBefore other at d
        by (no off) = let old = ap (λ l. slice_get l at) (sym (claims_other seats seat _ other off)) ∙ is in
            (at, old, (λ e. off (sym (is_mine other at d old e).0)), inl (off, refl))
        by (yes e) = let r = get_remove cs place at d
            (ap (λ l. slice_get l at) (sym (claims_same seats seat _ within))
            ∙ ap (λ k. slice_get (claims_of_seat after_settling k) at) (sym e) ∙ is) in
            let old : IsClaimAt seats other r.0 d = ap (λ k. slice_get (claims_of_seat seats k) r.0) e ∙ r.1 in
            (r.0, old, (λ q. apart_from r.0 r.2 (is_mine other r.0 d old q).1), inr (e, r.2))
          where
            apart_from : (q : ℕ) → IsShift place at q → place ≡ q → ⊥
            apart_from q (inl (less, same)) f = omega (arith, less, same, f)
            apart_from q (inr (past, same)) f = omega (arith, past, same, f)

    pub is_settled : AreOpen y far after_settling
    is_settled = record {
      each = λ other at d is. let b = before other at d is in others other b.0 d b.1 b.2;
      once = λ a b p q d f u w e. both a b p q d f (before a p d u) (before b q f w) e;
      apart = λ other at d is leaving. let b = before other at d is in
          ongoing.apart other b.0 d b.1 leaving;
      moving = λ h less moved. by h less moved (ℕ_discrete h c.handle);
    }
      where
        both : (a b p q : ℕ) (d f : OpenWriteState) → IsBefore a p d → IsBefore b q f
            → d.handle ≡ f.handle → (a ≡ b) × (p ≡ q)
        both a b p q d f (i, u, off, s) (j, w, gone, t) e =
            let z = ongoing.once a b i j d f u w e in (z.0, places s t z.0 z.1)
          where
            places : ((a ≢ seat) × (i ≡ p)) ⊎ ((a ≡ seat) × IsShift place p i)
                → ((b ≢ seat) × (j ≡ q)) ⊎ ((b ≡ seat) × IsShift place q j) → a ≡ b → i ≡ j → p ≡ q
            places (inl (n, f)) (inl (m, g)) o r = sym f ∙ r ∙ g
            places (inl (n, f)) (inr (m, g)) o r = absurd (n (o ∙ m))
            places (inr (n, f)) (inl (m, g)) o r = absurd (m (sym o ∙ n))
            places (inr (n, f)) (inr (m, g)) o r = shift_one place p q i j f g r

        still : (h : ℕ) → h ≢ c.handle → IsClaimedNow seats h → IsClaimedNow after_settling h
        still h off (other, at, d, is, on) = go (ℕ_discrete other seat)
          where
            go : Dec (other ≡ seat) → IsClaimedNow after_settling h
            go (no far_off) = (
              other,
              at,
              d,
              ap (λ l. slice_get l at) (claims_other seats seat _ other far_off) ∙ is,
              on,
            )
            go (yes e) = let old : slice_get cs at ≡ Some d =
                ap (λ k. slice_get (claims_of_seat seats k) at) (sym e) ∙ is in
                let r = put_remove cs place at d old (λ q. off (sym on ∙ ap (λ (z : OpenWriteState). z.handle)
                (same_some d c (sym old ∙ ap (slice_get cs) q ∙ there)))) in
                (seat, r.0, d, ap (λ l. slice_get l r.0) (claims_same seats seat _ within) ∙ r.1, on)

        by : (h : ℕ) → h < length y.words → state_of (get_or y.words h 0) ≡ state.Moving
            → Dec (h ≡ c.handle) → IsClaimedNow after_settling h ⊎ IsLeavingNow far h
        by h less moved (yes e) = absurd (let q = sym here ∙ sym (ap state_of
            (ap (λ (l : List ℕ). get_or l h 0) words ∙ ap (λ k. get_or (set x.words c.handle v) k 0) e
            ∙ get_or-set_same x.words c.handle v 0 below)) ∙ moved in wrong q)
          where
            wrong : state.Here ≡ state.Moving → ⊥
            wrong q = cc
        by h less moved (no off) = elim (ongoing.moving h
            (let l = length-set x.words c.handle v in let m = ap (λ (l : List ℕ). length l) words in
            omega (arith, l, m, less))
            (ap state_of (sym (ap (λ (l : List ℕ). get_or l h 0) words
            ∙ get_or-set_other x.words c.handle h v 0 off)) ∙ moved)) [
              | inl claimed ↦ inl (still h off claimed)
              | inr leaving ↦ inr leaving
            ]
