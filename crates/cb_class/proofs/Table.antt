-- Facts of the tables of sizes and of pages by index: each is computed over its sixteen places.
use Rattle.std.proofs.Common.{◌≡◌, ℕ, zero, suc, inl, inr, ◌⊎◌, ◌*◌, ◌/◌, ◌<◌, ◌≤◌, ◌||◌, ◌&&◌, not, Bool, true, false, ltb, leb, eqb, get_or, refl, ap, sym, ◌∙◌, arith}
use Rattle.std.specs.List.Sorted.{IsNonDecreasingBy}
use Rattle.std.proofs.lemmas.Bool.{agree_below, agree_below_at, cases_eq, cases_lt, eq-eqb, false≢true, ltb-true, leb-true, eqb-true, ne_eqb}
use Rattle.std.proofs.lemmas.List.{get_or_default}
use Rattle.cb_class.specs.Class.{largest, page_counts, sizes}

-- the size at an index
abbrev pub size_at : ℕ → ℕ
size_at i = get_or sizes i 0

-- a test that each index below n passes
abbrev Passes : (ℕ → Bool) → ℕ → Type 0
Passes test n = agree_below test (λ _. true) n ≡ true

pub at_least_16 : (i : ℕ) → i < 16 → 16 ≤ size_at i
at_least_16 i h =
    let test = λ (k : ℕ). leb 16 (size_at k) in
    let all : Passes test 16 = refl in
    leb-true _ _ (agree_below_at test (λ _. true) 16 i all h)

pub at_most_largest : (i : ℕ) → i < 16 → size_at i ≤ largest
at_most_largest i h =
    let test = λ (k : ℕ). leb (size_at k) largest in
    let all : Passes test 16 = refl in
    leb-true _ _ (agree_below_at test (λ _. true) 16 i all h)

pub whole_words : (i : ℕ) → i < 16 → 8 * (size_at i / 8) ≡ size_at i
whole_words i h =
    let test = λ (k : ℕ). eqb (8 * (size_at k / 8)) (size_at k) in
    let all : Passes test 16 = refl in
    eqb-true _ _ (agree_below_at test (λ _. true) 16 i all h)

step_grows : (i : ℕ) → i < 15 → size_at i < size_at (suc i)
step_grows i h =
    let test = λ (k : ℕ). ltb (size_at k) (size_at (suc k)) in
    let all : Passes test 15 = refl in
    ltb-true _ _ (agree_below_at test (λ _. true) 15 i all h)

-- a greater index has the greater size
pub sizes_grow : (i j : ℕ) → i < j → j < 16 → size_at i < size_at j
sizes_grow i zero low high = absurd (omega arith)
sizes_grow i (suc j) low high =
    elim (cases_lt i j) [
      | inl h ↦ let before : size_at i < size_at j = sizes_grow i j h (omega arith) in
          let step : size_at j < size_at (suc j) = step_grows j (omega arith) in omega arith
      | inr h ↦ let same : i ≡ j = omega arith in rw same (step_grows j (omega arith))
    ]

pub sizes_ascend : IsNonDecreasingBy (λ (n : ℕ). n) sizes
sizes_ascend i j d low high =
    rw (get_or_default sizes i d 0 (omega arith), get_or_default sizes j d 0 high)
    (elim (cases_lt i j) [
      | inl h ↦ let grown : size_at i < size_at j = sizes_grow i j h high in omega arith
      | inr h ↦ let same : i ≡ j = omega arith in rw same (omega arith)
    ])

-- the pages at an index
abbrev pub page_at : ℕ → ℕ
page_at i = get_or page_counts i 0

known_pages : (n : ℕ) → (eqb n 1 || (eqb n 2 || eqb n 4)) ≡ true
    → (n ≡ 1) ⊎ ((n ≡ 2) ⊎ (n ≡ 4))
known_pages n e = elim (cases_eq n 1) [
  | inl one ↦ inl one
  | inr no_one ↦ inr (elim (cases_eq n 2) [
    | inl two ↦ inl two
    | inr no_two ↦ inr (eqb-true n 4 (sym (
        ap (λ b. b || (eqb n 2 || eqb n 4)) (ne_eqb n 1 no_one)
        ∙ ap (λ b. false || (b || eqb n 4)) (ne_eqb n 2 no_two)) ∙ e))
  ])
]

-- a span has 1, 2 or 4 pages
pub few_pages : (i : ℕ) → i < 16 → (page_at i ≡ 1) ⊎ ((page_at i ≡ 2) ⊎ (page_at i ≡ 4))
few_pages i h =
    let test = λ (k : ℕ). (eqb (page_at k) 1 || (eqb (page_at k) 2 || eqb (page_at k) 4)) in
    let all : Passes test 16 = refl in
    known_pages (page_at i) (agree_below_at test (λ _. true) 16 i all h)

-- four slots fill no more than a span's pages
pub four_fit : (i : ℕ) → i < 16 → size_at i ≤ 1024 * page_at i
four_fit i h =
    let test = λ (k : ℕ). leb (size_at k) (1024 * page_at k) in
    let all : Passes test 16 = refl in
    leb-true _ _ (agree_below_at test (λ _. true) 16 i all h)

-- and 256 slots no less
pub slots_are_few : (i : ℕ) → i < 16 → 16 * page_at i ≤ size_at i
slots_are_few i h =
    let test = λ (k : ℕ). leb (16 * page_at k) (size_at k) in
    let all : Passes test 16 = refl in
    leb-true _ _ (agree_below_at test (λ _. true) 16 i all h)

-- the slots of a span at an index
abbrev pub count_at : ℕ → ℕ
count_at i = 4096 * page_at i / size_at i

-- at two places the pages or the counts of slots differ
abbrev tells : ℕ → ℕ → Bool
tells i j = eqb i j || not (eqb (page_at i) (page_at j) && eqb (count_at i) (count_at j))

pub places_told : (i j : ℕ) → i < 16 → j < 16 → page_at i ≡ page_at j → count_at i ≡ count_at j → i ≡ j
places_told i j low high pages counts =
    let row = λ (k : ℕ). agree_below (tells k) (λ _. true) 16 in
    let all : Passes row 16 = refl in
    let told : tells i j ≡ true =
    agree_below_at (tells i) (λ _. true) 16 j (agree_below_at row (λ _. true) 16 i all low) high in
    elim (cases_eq i j) [
      | inl same ↦ same
      | inr apart ↦ absurd (false≢true (sym (
          ap (λ b. b || not (eqb (page_at i) (page_at j) && eqb (count_at i) (count_at j)))
          (ne_eqb i j apart)
          ∙ ap (λ b. false || not (b && eqb (count_at i) (count_at j))) (eq-eqb _ _ pages)
          ∙ ap (λ b. false || not (true && b)) (eq-eqb _ _ counts)) ∙ told))
    ]
