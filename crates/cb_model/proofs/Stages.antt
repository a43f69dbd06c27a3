-- Answers one time after the other: what a lane's are then.
use Rattle.std.proofs.Common.{◌≡◌, ℕ, zero, suc, ◌+◌, ◌<◌, ◌≤◌, Bool, true, false, eqb, ltb, List, [], ◌∷◌, ◌++◌, refl, sym, ap, ◌∙◌, arith, inl, inr}
use Rattle.std.specs.List.{AllByRecursion, filter}
use Rattle.std.proofs.lemmas.Bool.{cases_Bool, cases_order, lt-ltb, le-ltb, eq-eqb, ne_eqb, eqb-true}
use Rattle.std.proofs.lemmas.List.Elements.{filter-append}
use Rattle.cb_model.specs.Times.{Timed, changes, changes_at, tells_at, IsDoneBefore, IsInProgramOrder, AreInProgramOrder}

-- the answers up to a time: at each time those that changed nothing, and behind them the one that did
abbrev pub up_to : ℕ → List Timed → List Timed
up_to zero ts = []
up_to (suc n) ts = up_to n ts ++ (filter (tells_at n) ts ++ filter (changes_at n) ts)

abbrev pub is_before : ℕ → Timed → Bool
is_before n t = ltb t.time n

-- none passes
pub filter-none : {X : Type 0} (p : X → Bool) (P : X → Type 0) → ((x : X) → P x → p x ≡ false)
    → (xs : List X) → AllByRecursion P xs → filter p xs ≡ []
filter-none p P fails [] all = refl
filter-none p P fails (x ∷ xs) all = rw (fails x all.0) (filter-none p P fails xs all.1)

-- all pass
pub filter-all : {X : Type 0} (p : X → Bool) (P : X → Type 0) → ((x : X) → P x → p x ≡ true)
    → (xs : List X) → AllByRecursion P xs → filter p xs ≡ xs
filter-all {X} p P passes [] all = refl
filter-all {X} p P passes (x ∷ xs) all =
    rw (passes x all.0) (ap (λ (ys : List X). x ∷ ys) (filter-all p P passes xs all.1))

-- of two filters either may come first
pub filter-filter : {X : Type 0} (p q : X → Bool) (xs : List X)
    → filter p (filter q xs) ≡ filter q (filter p xs)
filter-filter {X} p q [] = refl
filter-filter {X} p q (x ∷ xs) =
    elim (cases_Bool (p x)) [
      | inl is ↦ elim (cases_Bool (q x)) [
        | inl also ↦ simp (is, also) (ap (λ (ys : List X). x ∷ ys) (filter-filter p q xs))
        | inr fails ↦ simp (is, fails) (filter-filter p q xs)
      ]
      | inr none ↦ elim (cases_Bool (q x)) [
        | inl also ↦ simp (none, also) (filter-filter p q xs)
        | inr fails ↦ simp (none, fails) (filter-filter p q xs)
      ]
    ]

pub all_filtered : {X : Type 0} (p : X → Bool) (P : X → Type 0) (xs : List X) → AllByRecursion P xs
    → AllByRecursion P (filter p xs)
all_filtered p P [] all = tt
all_filtered p P (x ∷ xs) all =
    elim (cases_Bool (p x)) [
      | inl is ↦ rw is (all.0, all_filtered p P xs all.1)
      | inr fails ↦ rw fails (all_filtered p P xs all.1)
    ]

pub weaker : {X : Type 0} (P Q : X → Type 0) → ((x : X) → P x → Q x) → (xs : List X)
    → AllByRecursion P xs → AllByRecursion Q xs
weaker P Q so [] all = tt
weaker P Q so (x ∷ xs) all = (so x all.0, weaker P Q so xs all.1)

-- each is behind all before it
abbrev pub AllRise : List Timed → Type 0
AllRise [] = Unit {0}
AllRise (t ∷ later) = AllByRecursion (IsDoneBefore t) later × AllRise later

-- where they take effect from a time on, none comes before
pub from_on : (n : ℕ) (t : Timed) → n ≤ t.time → is_before n t ≡ false
from_on n t le = le-ltb t.time n le

pub tells_later : (n : ℕ) (t : Timed) → suc n ≤ t.time → tells_at n t ≡ false
tells_later n t le = rw (ne_eqb t.time n (λ e. omega (arith, e, le))) refl

pub changes_later : (n : ℕ) (t : Timed) → suc n ≤ t.time → changes_at n t ≡ false
changes_later n t le = rw (ne_eqb t.time n (λ e. omega (arith, e, le))) refl

-- what is done by then is behind
bound : (n : ℕ) (t u : Timed) → n ≤ t.time → IsDoneBefore t u → n ≤ u.time
bound n t u le behind =
    elim (cases_Bool (changes t)) [
      | inl is ↦ omega (arith, le, rw is at behind)
      | inr fails ↦ omega (arith, le, rw fails at behind)
    ]

bound_done : (n : ℕ) (t u : Timed) → n ≡ t.time → changes t ≡ true → IsDoneBefore t u → suc n ≤ u.time
bound_done n t u e is behind = omega (arith, e, rw is at behind)

-- one time more
pub stage : (n : ℕ) (ts : List Timed) → AllRise ts
    → filter (is_before n) ts ++ (filter (tells_at n) ts ++ filter (changes_at n) ts) ≡ filter (is_before (suc n)) ts
stage n [] rise = refl
stage n (t ∷ later) rise =
    elim (cases_order t.time n) [
      | inl e ↦
          let le : n ≤ t.time = omega (arith, e) in
          let behind = weaker (IsDoneBefore t) (λ (u : Timed). n ≤ u.time) (λ u b. bound n t u le b) later rise.0 in
          let none = filter-none (is_before n) (λ (u : Timed). n ≤ u.time) (from_on n) later behind in
          let low : ltb t.time n ≡ false = le-ltb t.time n le in
          let here : eqb t.time n ≡ true = eq-eqb t.time n e in
          let up : ltb t.time (suc n) ≡ true = lt-ltb t.time (suc n) (omega (arith, e)) in
          elim (cases_Bool (changes t)) [
            | inl is ↦
                let past = weaker (IsDoneBefore t) (λ (u : Timed). suc n ≤ u.time) (λ u b. bound_done n t u (sym e) is b) later rise.0 in
                let no_tell = filter-none (tells_at n) (λ (u : Timed). suc n ≤ u.time) (tells_later n) later past in
                let no_change = filter-none (changes_at n) (λ (u : Timed). suc n ≤ u.time) (changes_later n) later past in
                let no_more = filter-none (is_before (suc n)) (λ (u : Timed). suc n ≤ u.time) (from_on (suc n)) later past in
                simp (low, here, up, is, none, no_tell, no_change, no_more) refl
            | inr fails ↦
                let rest : filter (tells_at n) later ++ filter (changes_at n) later ≡ filter (is_before (suc n)) later = rw none at (stage n later rise.1) in
                simp (low, here, up, fails, none) (ap (λ (us : List Timed). t ∷ us) rest)
          ]
      | inr differs ↦ elim differs [
        | inl lt ↦
            simp (lt-ltb t.time n lt, ne_eqb t.time n (λ e. omega (arith, e, lt)), lt-ltb t.time (suc n) (omega (arith, lt))) (ap (λ (us : List Timed). t ∷ us) (stage n later rise.1))
        | inr gt ↦
            simp (le-ltb t.time n (omega (arith, gt)), ne_eqb t.time n (λ e. omega (arith, e, gt)), le-ltb t.time (suc n) (omega (arith, gt))) (stage n later rise.1)
      ]
    ]

-- a part that rises, one time after the other, is the part itself
pub picked : (p : Timed → Bool) (n : ℕ) (ts : List Timed) → AllRise (filter p ts)
    → filter p (up_to n ts) ≡ filter (is_before n) (filter p ts)
picked p zero ts rise = sym (filter-none (is_before 0) (λ (u : Timed). 0 ≤ u.time) (from_on 0) (filter p ts) (each (filter p ts))) where
  each : (us : List Timed) → AllByRecursion (λ (u : Timed). 0 ≤ u.time) us
  each [] = tt
  each (u ∷ us) = (omega arith, each us)
picked p (suc n) ts rise =
    filter-append p (up_to n ts) (filter (tells_at n) ts ++ filter (changes_at n) ts)
    ∙ rw (filter-append p (filter (tells_at n) ts) (filter (changes_at n) ts), picked p n ts rise, filter-filter p (tells_at n) ts, filter-filter p (changes_at n) ts) (stage n (filter p ts) rise)

-- a time behind all
abbrev pub last : List Timed → ℕ
last [] = 0
last (t ∷ ts) = suc (t.time + last ts)

all_before : (n : ℕ) (ts : List Timed) → last ts ≤ n → AllByRecursion (λ (t : Timed). t.time < n) ts
all_before n [] le = tt
all_before n (t ∷ ts) le = (omega (arith, le), all_before n ts (omega (arith, le)))

pub whole : (p : Timed → Bool) (ts : List Timed) → AllRise (filter p ts)
    → filter p (up_to (last ts) ts) ≡ filter p ts
whole p ts rise =
    picked p (last ts) ts rise
    ∙ filter-all (is_before (last ts)) (λ (t : Timed). t.time < last ts) (λ t lt. lt-ltb t.time (last ts) lt) (filter p ts)
    (all_filtered p (λ (t : Timed). t.time < last ts) ts (all_before (last ts) ts (omega arith)))

-- the answers of a lane
abbrev pub is_of : ℕ → Timed → Bool
is_of lane t = eqb t.answer.lane.n lane

of_that : (lane : ℕ) (t : Timed) → is_of lane t ≡ true → (us : List Timed)
    → AllByRecursion (IsInProgramOrder t) us → AllByRecursion (IsDoneBefore t) (filter (is_of lane) us)
of_that lane t is [] all = tt
of_that lane t is (u ∷ us) all =
    elim (cases_Bool (is_of lane u)) [
      | inl also ↦ rw also (all.0 (inl (eqb-true t.answer.lane.n lane is ∙ sym (eqb-true u.answer.lane.n lane also))), of_that lane t is us all.1)
      | inr fails ↦ rw fails (of_that lane t is us all.1)
    ]

pub lane_rises : (lane : ℕ) (ts : List Timed) → AreInProgramOrder ts → AllRise (filter (is_of lane) ts)
lane_rises lane [] rise = tt
lane_rises lane (t ∷ ts) rise =
    elim (cases_Bool (is_of lane t)) [
      | inl is ↦ rw is (of_that lane t is ts rise.0, lane_rises lane ts rise.1)
      | inr fails ↦ rw fails (lane_rises lane ts rise.1)
    ]
