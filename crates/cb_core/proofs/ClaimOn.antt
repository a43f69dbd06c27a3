-- The open write on an object, found among those that the seats have.
use Rattle.std.proofs.Common.{◌≡◌, ◌≢◌, ◌⊎◌, ℕ, zero, suc, Bool, List, [], ◌∷◌, ◌++◌, Option, None, Some, set, refl, sym, ap, ◌∙◌, inl, inr, eq-eqb, ne_eqb}
use Rattle.std.specs.Prelude.{nat_eq, slice_get, if◌then◌else◌}
use Rattle.std.specs.List.{remove}
use Rattle.std.proofs.lemmas.Bool.{cases_eq}
use Rattle.cb_world.specs.FarState.{FarState}
use Rattle.cb_world.specs.OpenWrites.{AreOpen}
use Rattle.cb_world.specs.Plain.{Words}
use Rattle.cb_world.specs.Seats.{SeatState, OpenWriteState, IsClaimAt, claims_of_seat}
use Rattle.cb_core.specs.NowIn.{claim_on, first_on, one_of}

none_some : (c : OpenWriteState) → None ≡ Some c → ⊥
none_some c e = cc

some_none : (c : OpenWriteState) → Some c ≡ None → ⊥
some_none c e = cc

same_some : (c d : OpenWriteState) → Some c ≡ Some d → c ≡ d
same_some c d e = cc

-- ---- among those of a seat
-- where the first of a list is on the object, and where it is not
first_is : (h : ℕ) (x : OpenWriteState) (cs : List OpenWriteState) → x.handle ≡ h
    → first_on h (x ∷ cs) ≡ Some x
first_is h x cs on = ap (λ (b : Bool). if b then Some x else first_on h cs) (eq-eqb x.handle h on)

first_past : (h : ℕ) (x : OpenWriteState) (cs : List OpenWriteState) → x.handle ≢ h
    → first_on h (x ∷ cs) ≡ first_on h cs
first_past h x cs off = ap (λ (b : Bool). if b then Some x else first_on h cs) (ne_eqb x.handle h off)

first_found : (cs : List OpenWriteState) (h : ℕ) (c : OpenWriteState) → first_on h cs ≡ Some c
    → (at : ℕ) × (slice_get cs at ≡ Some c) × (c.handle ≡ h)
first_found [] h c e = absurd (none_some c e)
first_found (x ∷ cs) h c e = elim (cases_eq x.handle h) [
  | inl on ↦ let f : Some x ≡ Some c = sym (first_is h x cs on) ∙ e in
      (0, f, ap (λ (z : OpenWriteState). z.handle) (sym (same_some x c f)) ∙ on)
  | inr off ↦ let r = first_found cs h c (sym (first_past h x cs off) ∙ e) in (suc r.0, r.1, r.2)
]

first_missing : (cs : List OpenWriteState) (h : ℕ) → first_on h cs ≡ None → (at : ℕ)
    (c : OpenWriteState) → slice_get cs at ≡ Some c → c.handle ≢ h
first_missing [] h e at c there on = none_some c there
first_missing (x ∷ cs) h e zero c there on = some_none x (sym (first_is h x cs
    (ap (λ (z : OpenWriteState). z.handle) (same_some x c there) ∙ on)) ∙ e)
first_missing (x ∷ cs) h e (suc at) c there on = elim (cases_eq x.handle h) [
  | inl one ↦ some_none x (sym (first_is h x cs one) ∙ e)
  | inr off ↦ first_missing cs h (sym (first_past h x cs off) ∙ e) at c there on
]

-- one more, one replaced and one taken out, on another object
pub first_push : (h : ℕ) (cs : List OpenWriteState) (x : OpenWriteState) → x.handle ≢ h
    → first_on h (cs ++ x ∷ []) ≡ first_on h cs
first_push h [] x off = first_past h x [] off
first_push h (y ∷ cs) x off =
    ap (λ (o : Option OpenWriteState). if nat_eq y.handle h then Some y else o) (first_push h cs x off)

pub first_set : (h : ℕ) (cs : List OpenWriteState) (at : ℕ) (x c : OpenWriteState)
    → slice_get cs at ≡ Some c → c.handle ≢ h → x.handle ≢ h → first_on h (set cs at x) ≡ first_on h cs
first_set h [] at x c there off other = absurd (none_some c there)
first_set h (y ∷ cs) zero x c there off other = first_past h x cs other
    ∙ sym (first_past h y cs (λ on. off (ap (λ (z : OpenWriteState). z.handle)
    (sym (same_some y c there)) ∙ on)))
first_set h (y ∷ cs) (suc at) x c there off other =
    ap (λ (o : Option OpenWriteState). if nat_eq y.handle h then Some y else o)
    (first_set h cs at x c there off other)

pub first_remove : (h : ℕ) (cs : List OpenWriteState) (at : ℕ) (c : OpenWriteState)
    → slice_get cs at ≡ Some c → c.handle ≢ h → first_on h (remove cs at) ≡ first_on h cs
first_remove h [] at c there off = absurd (none_some c there)
first_remove h (y ∷ cs) zero c there off = sym (first_past h y cs
    (λ on. off (ap (λ (z : OpenWriteState). z.handle) (sym (same_some y c there)) ∙ on)))
first_remove h (y ∷ cs) (suc at) c there off =
    ap (λ (o : Option OpenWriteState). if nat_eq y.handle h then Some y else o)
    (first_remove h cs at c there off)

-- ---- among those of all seats
-- the first of two is the one or the other
one_is : (a b : Option OpenWriteState) (c : OpenWriteState) → one_of a b ≡ Some c
    → (a ≡ Some c) ⊎ ((a ≡ None) × (b ≡ Some c))
one_is None b c e = inr (refl, e)
one_is (Some d) b c e = inl e

none_is : (a b : Option OpenWriteState) → one_of a b ≡ None → (a ≡ None) × (b ≡ None)
none_is None b e = (refl, e)
none_is (Some d) b e = absurd (some_none d e)

pub claim_found : (seats : List SeatState) (h : ℕ) (c : OpenWriteState) → claim_on seats h ≡ Some c
    → (seat : ℕ) × (at : ℕ) × IsClaimAt seats seat at c × (c.handle ≡ h)
claim_found [] h c e = absurd (none_some c e)
claim_found (x ∷ seats) h c e = elim (one_is (first_on h x.claims) (claim_on seats h) c e) [
  | inl first ↦ let r = first_found x.claims h c first in (0, r.0, r.1, r.2)
  | inr later ↦ let r = claim_found seats h c later.1 in (suc r.0, r.1, r.2, r.3)
]

pub claim_missing : (seats : List SeatState) (h : ℕ) → claim_on seats h ≡ None → (seat at : ℕ)
    (c : OpenWriteState) → IsClaimAt seats seat at c → c.handle ≢ h
claim_missing [] h e seat at c there on = none_some c there
claim_missing (x ∷ seats) h e zero at c there on =
    first_missing x.claims h (none_is (first_on h x.claims) (claim_on seats h) e).0 at c there on
claim_missing (x ∷ seats) h e (suc seat) at c there on =
    claim_missing seats h (none_is (first_on h x.claims) (claim_on seats h) e).1 seat at c there on

pub claim_none : (seats : List SeatState) (h : ℕ)
    → ((seat at : ℕ) (c : OpenWriteState) → IsClaimAt seats seat at c → c.handle ≢ h)
    → claim_on seats h ≡ None
claim_none seats h none = by (claim_on seats h) refl
  where
    by : (o : Option OpenWriteState) → claim_on seats h ≡ o → claim_on seats h ≡ None
    by None e = e
    by (Some c) e = let z = claim_found seats h c e in absurd (none z.0 z.1 c z.2 z.3)

-- there is one at most
pub claim_is : (desk : Words) (far : FarState) (seats : List SeatState) (seat at : ℕ)
    (c : OpenWriteState) → AreOpen desk far seats → IsClaimAt seats seat at c
    → claim_on seats c.handle ≡ Some c
claim_is desk far seats seat at c ongoing there = by (claim_on seats c.handle) refl
  where
    by : (o : Option OpenWriteState) → claim_on seats c.handle ≡ o
        → claim_on seats c.handle ≡ Some c
    by None e = absurd (claim_missing seats c.handle e seat at c there refl)
    by (Some d) e =
        let z = claim_found seats c.handle d e in
        let w = ongoing.once z.0 seat z.1 at d c z.2 there z.3 in
        e ∙ sym z.2 ∙ (λ i. slice_get (claims_of_seat seats (w.0 i)) (w.1 i)) ∙ there

-- a seat whose open writes have the same one on an object
pub claim_set : (seats : List SeatState) (seat : ℕ) (x : SeatState) (h : ℕ)
    → first_on h x.claims ≡ first_on h (claims_of_seat seats seat)
    → claim_on (set seats seat x) h ≡ claim_on seats h
claim_set [] seat x h same = refl
claim_set (y ∷ seats) zero x h same =
    ap (λ (o : Option OpenWriteState). one_of o (claim_on seats h)) same
claim_set (y ∷ seats) (suc seat) x h same =
    ap (one_of (first_on h y.claims)) (claim_set seats seat x h same)
