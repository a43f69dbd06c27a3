-- The pins of a seat beside the scope of its lane.
use Rattle.std.proofs.Common.{◌≡◌, ◌≢◌, ◌⊎◌, ℕ, zero, suc, ◌<◌, ◌≤◌, Bool, true, false, List, []}
use Rattle.std.proofs.Common.{◌∷◌, ◌++◌, length, take, drop, Option, None, Some, refl, sym, ap, ◌∙◌}
use Rattle.std.proofs.Common.{subst, arith, inl, inr, eq-eqb, ne_eqb, if◌then◌else◌, nat_eq}
use Rattle.std.specs.Prelude.{slice_get}
use Rattle.std.specs.List.{remove}
use Rattle.std.specs.Str.{bytes_eq}
use Rattle.std.proofs.lemmas.Bool.{cases_Bool, cases_lt, true≢false}
use Rattle.std.proofs.lemmas.List.{length_push, take-append-le, drop-append-le, take_all, drop_all}
use Rattle.std.proofs.lemmas.List.{append-nil, append_assoc}
use Rattle.std.proofs.lemmas.List.Sums.{sum_by-cons, sum_by_push}
use Rattle.std.proofs.lemmas.Option.{slice_get_within}
use Rattle.std.proofs.lemmas.Slice.Eq.{bytes_eq-Decides}
use Rattle.cb_world.specs.declared.seats.SeatPin.{SeatPin}
use Rattle.cb_world.specs.Seats.{IsNewestOf, NoneOn, pins_among}
use Rattle.cb_lanes.specs.Scopes.{NamedPin, Scope, newest_on, without_newest, named_on}

-- ---- the newest pin of a list with one pin more at its end

slice_front : (xs ys : List SeatPin) (i : ℕ) → i < length xs → slice_get (xs ++ ys) i ≡ slice_get xs i
slice_front [] ys i lt = absurd (omega (arith, lt))
slice_front (x ∷ xs) ys zero lt = refl
slice_front (x ∷ xs) ys (suc i) lt = slice_front xs ys i (omega (arith, lt))

slice_last : (xs : List SeatPin) (p : SeatPin) → slice_get (xs ++ p ∷ []) (length xs) ≡ Some p
slice_last [] p = refl
slice_last (x ∷ xs) p = slice_last xs p

within_push : (xs : List SeatPin) (p x : SeatPin) (i : ℕ) → slice_get (xs ++ p ∷ []) i ≡ Some x
    → (i < length xs) ⊎ ((i ≡ length xs) × (x ≡ p))
within_push xs p x i there = by (cases_lt i (length xs))
  where
    by : (i < length xs) ⊎ (length xs ≤ i) → (i < length xs) ⊎ ((i ≡ length xs) × (x ≡ p))
    by (inl less) = inl less
    by (inr past) =
        let lt = slice_get_within (xs ++ p ∷ []) i x there in
        let e : i ≡ length xs = omega (arith, past, lt, length_push xs p) in
        let both : Some x ≡ Some p = sym there ∙ ap (slice_get (xs ++ p ∷ [])) e
        ∙ slice_last xs p in
        inr (e, cc)

-- a last pin on the object is its newest
pub newest_last : (front : List SeatPin) (pin : SeatPin) (h at : ℕ) → pin.handle ≡ h
    → (n : IsNewestOf (front ++ pin ∷ []) h at) → (at ≡ length front) × (n.pin ≡ pin)
newest_last front pin h at on n = by (within_push front pin n.pin at n.there)
  where
    by : (at < length front) ⊎ ((at ≡ length front) × (n.pin ≡ pin))
        → (at ≡ length front) × (n.pin ≡ pin)
    by (inl less) = absurd (n.newest (length front) pin less (slice_last front pin) on)
    by (inr e) = e

-- and where the last pin is on another object, the newest is before it
pub newest_before : (front : List SeatPin) (pin : SeatPin) (h at : ℕ) → pin.handle ≢ h
    → (n : IsNewestOf (front ++ pin ∷ []) h at)
    → (at < length front) × (m : IsNewestOf front h at) × (m.pin ≡ n.pin)
newest_before front pin h at off n = by (within_push front pin n.pin at n.there)
  where
    by : (at < length front) ⊎ ((at ≡ length front) × (n.pin ≡ pin))
        → (at < length front) × (m : IsNewestOf front h at) × (m.pin ≡ n.pin)
    by (inr e) = absurd (off (sym (ap (λ (p : SeatPin). p.handle) e.1) ∙ n.on))
    by (inl less) = (
      less,
      record {
        pin = n.pin;
        there = sym (slice_front front (pin ∷ []) at less) ∙ n.there;
        on = n.on;
        newest = λ later other lt there. n.newest later other lt
            (slice_front front (pin ∷ []) later (slice_get_within front later other there) ∙ there);
      },
      refl,
    )

pub none_last : (front : List SeatPin) (pin : SeatPin) (h : ℕ) → NoneOn (front ++ pin ∷ []) h
    → NoneOn front h × (pin.handle ≢ h)
none_last front pin h none = (
  λ at other there. none at other
      (slice_front front (pin ∷ []) at (slice_get_within front at other there) ∙ there),
  none (length front) pin (slice_last front pin),
)

-- without the last pin the front is left
pub remove_last : (front : List SeatPin) (pin : SeatPin) (at : ℕ) → at ≡ length front
    → remove (front ++ pin ∷ []) at ≡ front
remove_last front pin at e = ap (remove (front ++ pin ∷ [])) e
    ∙ (λ i. take_front i ++ drop_all (suc (length front)) (front ++ pin ∷ [])
    (omega (arith, length_push front pin)) i)
    ∙ append-nil front
  where
    take_front : take (length front) (front ++ pin ∷ []) ≡ front
    take_front = take-append-le (length front) front (pin ∷ []) (omega arith)
        ∙ take_all (length front) front (omega arith)

-- without one before it the last one stays last
pub remove_before : (front : List SeatPin) (pin : SeatPin) (at : ℕ) → at < length front
    → remove (front ++ pin ∷ []) at ≡ remove front at ++ pin ∷ []
remove_before front pin at lt =
    (λ i. take-append-le at front (pin ∷ []) (omega (arith, lt)) i
    ++ drop-append-le (suc at) front (pin ∷ []) (omega (arith, lt)) i)
    ∙ sym (append_assoc (take at front) (drop (suc at) front) (pin ∷ []))

-- ---- names

pub name_cases : (a b : List ℕ) → ((bytes_eq a b ≡ true) × (a ≡ b))
    ⊎ ((bytes_eq a b ≡ false) × (a ≢ b))
name_cases a b = by (cases_Bool (bytes_eq a b))
  where
    by : (bytes_eq a b ≡ true) ⊎ (bytes_eq a b ≡ false)
        → ((bytes_eq a b ≡ true) × (a ≡ b)) ⊎ ((bytes_eq a b ≡ false) × (a ≢ b))
    by (inl e) = inl (e, (bytes_eq-Decides a b).0 e)
    by (inr e) = inr (e, λ same. true≢false (sym ((bytes_eq-Decides a b).1 same) ∙ e))

-- no two names have one handle
abbrev pub AreHandlesApart : (List ℕ → Option ℕ) → Type 0
AreHandlesApart number = (a b : List ℕ) (h : ℕ) → number a ≡ Some h → number b ≡ Some h → a ≡ b

-- a pin is on this name at this version
pub record IsPinOfName (number : List ℕ → Option ℕ) (named : NamedPin) (pin : SeatPin) : Type 0 where
  pub name : number named.name ≡ Some pin.handle
  pub version : pin.version ≡ named.version

-- the pins are those of the scope, the newest one last
abbrev pub ArePinsOf : (List ℕ → Option ℕ) → Scope → List SeatPin → Type 0
ArePinsOf number [] pins = pins ≡ []
ArePinsOf number (named ∷ older) pins = (front : List SeatPin) × (pin : SeatPin)
    × (pins ≡ front ++ pin ∷ []) × IsPinOfName number named pin × ArePinsOf number older front

pub pins_length : (number : List ℕ → Option ℕ) (scope : Scope) (pins : List SeatPin)
    → ArePinsOf number scope pins → length pins ≡ length scope
pins_length number [] pins are = ap length are
pins_length number (named ∷ older) pins (front, pin, e, is, rest) =
    let n = pins_length number older front rest in
    ap length e ∙ omega (arith, length_push front pin, n)

-- more names may get handles
pub pins_kept : (number other : List ℕ → Option ℕ) (scope : Scope) (pins : List SeatPin)
    → ((q : List ℕ) (h : ℕ) → number q ≡ Some h → other q ≡ Some h) → ArePinsOf number scope pins
    → ArePinsOf other scope pins
pins_kept number other [] pins kept are = are
pins_kept number other (named ∷ older) pins kept (front, pin, e, is, rest) = (
  front,
  pin,
  e,
  record { name = kept named.name pin.handle is.name; version = is.version },
  pins_kept number other older front kept rest,
)

-- whether a pin is on the name, and so on its object
module _ (number : List ℕ → Option ℕ) (apart : AreHandlesApart number) (name : List ℕ) (h : ℕ)
    (at_name : number name ≡ Some h) where
  same_handle : (named : NamedPin) (pin : SeatPin) → IsPinOfName number named pin → named.name ≡ name
      → pin.handle ≡ h
  same_handle named pin is e =
      let both : Some pin.handle ≡ Some h = sym is.name ∙ ap number e ∙ at_name in cc

  other_handle : (named : NamedPin) (pin : SeatPin) → IsPinOfName number named pin → named.name ≢ name
      → pin.handle ≢ h
  other_handle named pin is off e =
      off (apart named.name name h (is.name ∙ ap Some e) at_name)

  pub scope_none : (scope : Scope) (pins : List SeatPin) → ArePinsOf number scope pins → NoneOn pins h
      → newest_on name scope ≡ None
  scope_none [] pins are none = refl
  scope_none (named ∷ older) pins (front, pin, e, is, rest) none =
      let split = none_last front pin h (subst (λ (ps : List SeatPin). NoneOn ps h) e none) in
      by split.1 (scope_none older front rest split.0) (name_cases named.name name)
    where
      by : (pin.handle ≢ h) → newest_on name older ≡ None
          → ((bytes_eq named.name name ≡ true) × (named.name ≡ name))
          ⊎ ((bytes_eq named.name name ≡ false) × (named.name ≢ name))
          → newest_on name (named ∷ older) ≡ None
      by away later (inl same) = absurd (away (same_handle named pin is same.1))
      by away later (inr off) =
          ap (λ (b : Bool). if b then Some named.version else newest_on name older) off.0 ∙ later

  pub scope_newest : (scope : Scope) (pins : List SeatPin) (at : ℕ) → ArePinsOf number scope pins
      → (n : IsNewestOf pins h at) → newest_on name scope ≡ Some n.pin.version
  scope_newest [] pins at are n =
      absurd (let there : slice_get [] at ≡ Some n.pin = subst
      (λ (ps : List SeatPin). slice_get ps at ≡ Some n.pin) are n.there in cc)
  scope_newest (named ∷ older) pins at (front, pin, e, is, rest) n =
      by (λ m. scope_newest older front at rest m) (name_cases named.name name)
    where
      m : IsNewestOf (front ++ pin ∷ []) h at
      m = record {
        pin = n.pin;
        there = ap (λ (ps : List SeatPin). slice_get ps at) (sym e) ∙ n.there;
        on = n.on;
        newest = λ later other lt there. n.newest later other lt
            (ap (λ (ps : List SeatPin). slice_get ps later) e ∙ there);
      }

      by : ((before : IsNewestOf front h at) → newest_on name older ≡ Some before.pin.version)
          → ((bytes_eq named.name name ≡ true) × (named.name ≡ name))
          ⊎ ((bytes_eq named.name name ≡ false) × (named.name ≢ name))
          → newest_on name (named ∷ older) ≡ Some n.pin.version
      by later (inl same) =
          let last = newest_last front pin h at (same_handle named pin is same.1) m in
          ap (λ (b : Bool). if b then Some named.version else newest_on name older) same.0
          ∙ ap Some (sym is.version ∙ sym (ap (λ (p : SeatPin). p.version) last.1))
      by later (inr off) =
          let before = newest_before front pin h at (other_handle named pin is off.1) m in
          ap (λ (b : Bool). if b then Some named.version else newest_on name older) off.0
          ∙ later before.1
          ∙ ap (λ (p : SeatPin). Some p.version) before.2

  pub scope_without : (scope : Scope) (pins : List SeatPin) (at : ℕ) → ArePinsOf number scope pins
      → IsNewestOf pins h at → ArePinsOf number (without_newest name scope) (remove pins at)
  scope_without [] pins at are n =
      absurd (let there : slice_get [] at ≡ Some n.pin = subst
      (λ (ps : List SeatPin). slice_get ps at ≡ Some n.pin) are n.there in cc)
  scope_without (named ∷ older) pins at (front, pin, e, is, rest) n =
      by (λ m. scope_without older front at rest m) (name_cases named.name name)
    where
      m : IsNewestOf (front ++ pin ∷ []) h at
      m = subst (λ (ps : List SeatPin). IsNewestOf ps h at) e n

      by : (IsNewestOf front h at → ArePinsOf number (without_newest name older) (remove front at))
          → ((bytes_eq named.name name ≡ true) × (named.name ≡ name))
          ⊎ ((bytes_eq named.name name ≡ false) × (named.name ≢ name))
          → ArePinsOf number (without_newest name (named ∷ older)) (remove pins at)
      by later (inl same) =
          let last = newest_last front pin h at (same_handle named pin is same.1) m in
          subst (λ (b : Bool). ArePinsOf number
          (if b then older else named ∷ without_newest name older) (remove pins at)) (sym same.0)
          (subst (ArePinsOf number older)
          (sym (ap (λ (ps : List SeatPin). remove ps at) e ∙ remove_last front pin at last.0)) rest)
      by later (inr off) =
          let before = newest_before front pin h at (other_handle named pin is off.1) m in
          subst (λ (b : Bool). ArePinsOf number
          (if b then older else named ∷ without_newest name older) (remove pins at)) (sym off.0) (
            remove front at,
            pin,
            ap (λ (ps : List SeatPin). remove ps at) e ∙ remove_before front pin at before.0,
            is,
            later before.1,
          )

  pub scope_count : (scope : Scope) (pins : List SeatPin) → ArePinsOf number scope pins
      → named_on name scope ≡ pins_among h pins
  scope_count [] pins are = sym (ap (pins_among h) are)
  scope_count (named ∷ older) pins (front, pin, e, is, rest) =
      by (scope_count older front rest) (name_cases named.name name)
    where
      one : NamedPin → ℕ
      one p = if bytes_eq p.name name then 1 else 0

      pin_one : SeatPin → ℕ
      pin_one p = if nat_eq p.handle h then 1 else 0

      whole : named_on name older ≡ pins_among h front → one named ≡ pin_one pin
          → named_on name (named ∷ older) ≡ pins_among h pins
      whole r same =
          let now = sum_by-cons (λ (p : NamedPin). if bytes_eq p.name name then 1 else 0) named
          older in
          let then_ = sum_by_push (λ (p : SeatPin). if nat_eq p.handle h then 1 else 0) front pin in
          now ∙ omega (arith, same, r, then_) ∙ sym (ap (pins_among h) e)

      by : named_on name older ≡ pins_among h front
          → ((bytes_eq named.name name ≡ true) × (named.name ≡ name))
          ⊎ ((bytes_eq named.name name ≡ false) × (named.name ≢ name))
          → named_on name (named ∷ older) ≡ pins_among h pins
      by r (inl same) = whole r (ap (λ (b : Bool). if b then 1 else 0)
          (same.0 ∙ sym (eq-eqb pin.handle h (same_handle named pin is same.1))))
      by r (inr off) = whole r (ap (λ (b : Bool). if b then 1 else 0)
          (off.0 ∙ sym (ne_eqb pin.handle h (other_handle named pin is off.1))))
