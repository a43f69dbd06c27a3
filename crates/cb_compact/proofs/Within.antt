-- Sets of positions within others, by their bits.
use Rattle.std.proofs.Common.{◌≡◌, ◌≢◌, ℕ, zero, suc, ◌+◌, ◌-◌, ◌*◌, ◌/◌, ◌%◌, ◌^◌, ◌<◌, ◌≤◌, Bool, true, false, List, length, set, bit_and, sym, ap, ◌∙◌, arith, inl, inr}
use Rattle.std.specs.Prelude.{slice_index_or}
use Rattle.std.specs.Int.{bit_at}
use Rattle.std.proofs.Math.Nat.{pow-suc}
use Rattle.std.proofs.lemmas.Bool.{cases_eq, cases_lt, false≢true}
use Rattle.std.proofs.lemmas.List.{get_or-set_other, get_or-set_same, length-set}
use Rattle.std.proofs.lemmas.Nat.{one_shl, pow_pos}
use Rattle.std.proofs.lemmas.Nat.Bits.{and_pow, bit_at-lt, bit_at-suc, bit_at-zero, bit_at_above, bit_at_and, bit_at_lowest, same_from_bits}
use Rattle.cb_compact.specs.Tables.{AreBitsWithin}

-- a number with a bit is no less than that bit
pub bit_on_le : (n p : ℕ) → bit_at n p ≡ 1 → 2 ^ p ≤ n
bit_on_le n p on = elim (cases_lt n (2 ^ p)) [
  | inl below ↦ let none = bit_at_above n p p below (omega arith) in
      absurd (omega (arith, on, none))
  | inr there ↦ there
]

-- the bits of a number's half
half : (live mask : ℕ) → AreBitsWithin live mask → AreBitsWithin (live / 2) (mask / 2)
half live mask w i =
    let l = w (suc i) in let a = bit_at-suc live i in let b = bit_at-suc mask i in
    omega (arith, l, a, b)

-- what lies within a number and is not all of it lies within one that has a bit less
pub record Smaller (k live mask : ℕ) : Type 0 where
  pub place : ℕ
  pub within : place < k
  pub on : bit_at mask place ≡ 1
  pub less : AreBitsWithin live (mask - 2 ^ place)

pub smaller : (k live mask : ℕ) → mask < 2 ^ k → AreBitsWithin live mask → live ≢ mask
    → Smaller k live mask
smaller zero live mask fits w off =
    let none : mask ≡ 0 = omega (arith, fits) in
    absurd (off (same_from_bits live mask (λ i. let l = w i in
    let z : bit_at mask i ≡ 0 = ap (λ (n : ℕ). bit_at n i) none ∙ bit_at-zero i in
    omega (arith, l, z))))
smaller (suc k) live mask fits w off =
    let low = w 0 in let a = bit_at_lowest live in let b = bit_at_lowest mask in
    elim (cases_eq (live % 2) (mask % 2)) [
      | inl e ↦
          let size = pow-suc 2 k in
          let r = smaller k (live / 2) (mask / 2) (omega (arith, fits, size)) (half live mask w)
          (λ same. off (omega (arith, same, e))) in
          let p = r.place in
          let there = bit_on_le (mask / 2) p r.on in
          let twice = pow-suc 2 p in
          record {
            place = suc p;
            within = let l = r.within in omega (arith, l);
            on = bit_at-suc mask p ∙ r.on;
            less = lifted live mask p low a b e there twice r.less;
          }
      | inr other ↦
          let odd : mask % 2 ≡ 1 = omega (arith, low, a, b, other) in
          let even : live % 2 ≡ 0 = omega (arith, low, a, b, other) in
          record {
            place = 0;
            within = omega arith;
            on = b ∙ odd;
            less = dropped live mask odd even w;
          }
    ]
  where
    lifted : (live mask p : ℕ) → bit_at live 0 ≤ bit_at mask 0 → bit_at live 0 ≡ live % 2
        → bit_at mask 0 ≡ mask % 2 → live % 2 ≡ mask % 2 → 2 ^ p ≤ mask / 2
        → 2 ^ suc p ≡ 2 ^ p * 2 → AreBitsWithin (live / 2) (mask / 2 - 2 ^ p)
        → AreBitsWithin live (mask - 2 ^ suc p)
    lifted live mask p low a b e there twice rest zero =
        let c = bit_at_lowest (mask - 2 ^ suc p) in
        omega (arith, low, a, b, c, e, there, twice)
    lifted live mask p low a b e there twice rest (suc i) =
        let l = rest i in let x = bit_at-suc live i in let y = bit_at-suc (mask - 2 ^ suc p) i in
        let same : (mask - 2 ^ suc p) / 2 ≡ mask / 2 - 2 ^ p = omega (arith, there, twice) in
        let z = ap (λ (n : ℕ). bit_at n i) same in
        omega (arith, l, x, y, z)

    dropped : (live mask : ℕ) → mask % 2 ≡ 1 → live % 2 ≡ 0 → AreBitsWithin live mask
        → AreBitsWithin live (mask - 2 ^ 0)
    dropped live mask odd even w zero =
        let a = bit_at_lowest live in omega (arith, a, even)
    dropped live mask odd even w (suc i) =
        let l = w (suc i) in let x = bit_at-suc mask i in let y = bit_at-suc (mask - 2 ^ 0) i in
        let same : (mask - 2 ^ 0) / 2 ≡ mask / 2 = omega (arith, odd) in
        let z = ap (λ (n : ℕ). bit_at n i) same in
        omega (arith, l, x, y, z)

-- the bits that a number of k bits does not have
complement : (k n i : ℕ) → n < 2 ^ k → i < k → bit_at (2 ^ k - 1 - n) i ≡ 1 - bit_at n i
complement zero n i fits within = absurd (omega (arith, within))
complement (suc k) n zero fits within =
    let a = bit_at_lowest (2 ^ suc k - 1 - n) in let b = bit_at_lowest n in
    let twice = pow-suc 2 k in omega (arith, a, b, twice, fits)
complement (suc k) n (suc i) fits within =
    let twice = pow-suc 2 k in
    let same : (2 ^ suc k - 1 - n) / 2 ≡ 2 ^ k - 1 - n / 2 = omega (arith, twice, fits) in
    bit_at-suc (2 ^ suc k - 1 - n) i ∙ ap (λ (x : ℕ). bit_at x i) same
    ∙ complement k (n / 2) i (omega (arith, twice, fits)) (omega (arith, within))
    ∙ ap (λ (d : ℕ). 1 - d) (sym (bit_at-suc n i))

-- what has no bit in common with a number lies within the bits that this one does not have
pub apart_within : (k a b : ℕ) → a < 2 ^ k → b < 2 ^ k → bit_and a b ≡ 0
    → AreBitsWithin b (2 ^ k - 1 - a)
apart_within k a b fits low none i = elim (cases_lt i k) [
  | inl below ↦
      let c = complement k a i fits below in let d = bit_at_and a b i in
      let z : bit_at (bit_and a b) i ≡ 0 = ap (λ (n : ℕ). bit_at n i) none ∙ bit_at-zero i in
      let x = bit_at-lt a i in let y = bit_at-lt b i in
      omega (arith, c, d, z, x, y)
  | inr above ↦ let z = bit_at_above b k i low above in omega (arith, z)
]

-- the test of one bit of a usize
pub bit_mask : (p : ℕ) → p < 64 → 1 * 2 ^ p % 2 ^ 64 ≡ 2 ^ p
bit_mask p few = one_shl p 64 few

pub bit_there : (n p m : ℕ) → p < 64 → m ≡ 1 * 2 ^ p % 2 ^ 64 → bit_and n m ≢ 0
    → (m ≡ 2 ^ p) × (bit_at n p ≡ 1) × (2 ^ p ≤ n)
bit_there n p m few is some =
    let e : m ≡ 2 ^ p = is ∙ bit_mask p few in
    let x : bit_and n m ≡ bit_at n p * 2 ^ p = ap (bit_and n) e ∙ and_pow n p in
    let l = bit_at-lt n p in
    let on : bit_at n p ≡ 1 = by (bit_at n p) l (λ z. some
    (let y = ap (λ (d : ℕ). d * 2 ^ p) z in omega (arith, x, y))) in
    (e, on, bit_on_le n p on)
  where
    by : (d : ℕ) → d < 2 → (d ≡ 0 → ⊥) → d ≡ 1
    by d l off = elim (cases_eq d 0) [
      | inl z ↦ absurd (off z)
      | inr other ↦ omega (arith, l, other)
    ]

pub bit_gone : (n p m : ℕ) → p < 64 → m ≡ 1 * 2 ^ p % 2 ^ 64 → bit_and n m ≡ 0
    → bit_at n p ≡ 1 → ⊥
bit_gone n p m few is none on =
    let e : m ≡ 2 ^ p = is ∙ bit_mask p few in
    let x : bit_and n m ≡ bit_at n p * 2 ^ p = ap (bit_and n) e ∙ and_pow n p in
    let y = ap (λ (d : ℕ). d * 2 ^ p) on in
    no_pow p (omega (arith, x, y, none))
  where
    no_pow : (p : ℕ) → 2 ^ p ≡ 0 → ⊥
    no_pow zero z = omega (arith, z)
    no_pow (suc p) z = no_pow p (let t = pow-suc 2 p in omega (arith, z, t))

-- what is known of the entries below n: no mark is lost, and each is marked where one within it was
abbrev pub Spread : ℕ → List Bool → List Bool → ℕ → Type 0
Spread k old marks n = record {
  size : length marks ≡ 2 ^ k;
  kept : (m : ℕ) → slice_index_or old m false ≡ true → slice_index_or marks m false ≡ true;
  marked : (live m : ℕ) → m < n → m < 2 ^ k → AreBitsWithin live m
      → slice_index_or old live false ≡ true → slice_index_or marks m false ≡ true;
}

set_marked : (marks : List Bool) (n m : ℕ) → n < length marks → slice_index_or marks m false ≡ true
    → slice_index_or (set marks n true) m false ≡ true
set_marked marks n m within on = elim (cases_eq m n) [
  | inl e ↦ ap (λ (i : ℕ). slice_index_or (set marks n true) i false) e
      ∙ get_or-set_same marks n true false within
  | inr off ↦ get_or-set_other marks n m true false off ∙ on
]

pub spread_set : (k : ℕ) (old marks : List Bool) (n : ℕ) → Spread k old marks n
    → n < length marks → Spread k old (set marks n true) (n + 1)
spread_set k old marks n x within = record {
  size = length-set marks n true ∙ x.size;
  kept = λ m on. set_marked marks n m within (x.kept m on);
  marked = λ live m low fits w on. elim (cases_eq m n) [
    | inl e ↦ ap (λ (i : ℕ). slice_index_or (set marks n true) i false) e
        ∙ get_or-set_same marks n true false within
    | inr off ↦ set_marked marks n m within (x.marked live m (omega (arith, low, off)) fits w on)
  ];
}

pub spread_stays : (k : ℕ) (old marks : List Bool) (n : ℕ) → Spread k old marks n
    → ((bit : ℕ) → bit < k → bit_at n bit ≡ 1
    → slice_index_or marks (n - 2 ^ bit) false ≡ false) → Spread k old marks (n + 1)
spread_stays k old marks n x none = record {
  size = x.size;
  kept = x.kept;
  marked = λ live m low fits w on. elim (cases_eq m n) [
    | inl e ↦ here live m e fits w on
    | inr off ↦ x.marked live m (omega (arith, low, off)) fits w on
  ];
}
  where
    here : (live m : ℕ) → m ≡ n → m < 2 ^ k → AreBitsWithin live m
        → slice_index_or old live false ≡ true → slice_index_or marks m false ≡ true
    here live m e fits w on = elim (cases_eq live m) [
      | inl same ↦ x.kept m (ap (λ (i : ℕ). slice_index_or old i false) (sym same) ∙ on)
      | inr off ↦
          let y = smaller k live m fits w off in
          let there = bit_on_le m y.place y.on in let some = pow_pos y.place in
          let hit = x.marked live (m - 2 ^ y.place) (omega (arith, e, there, some))
          (omega (arith, fits)) y.less on in
          let miss = none y.place y.within (ap (λ (i : ℕ). bit_at i y.place) (sym e) ∙ y.on) in
          absurd (false≢true (sym miss
          ∙ ap (λ (i : ℕ). slice_index_or marks (i - 2 ^ y.place) false) (sym e) ∙ hit))
    ]
