-- Runs of set bits, and of frames.
use Rattle.std.proofs.Common.{◌≡◌, ◌≢◌, ◌⊎◌, ◌&&◌, ℕ, zero, suc, ◌-◌, ◌+◌, ◌*◌, ◌/◌, ◌%◌, ◌^◌, ◌<◌, ◌≤◌, Bool, true, false, List, Option, Some, None, MatchOption, length, get_or, set, min, nat_eq, refl, ap, sym, subst, ◌∙◌, arith, inl, inr, get_or-set_same, get_or-set_other}
use Rattle.std.specs.Int.{bit_at, w64, trailing_zeros}
use Rattle.std.specs.Int.Bits.{bit_and}
use Rattle.std.specs.List.{position_or_len, range_with_len}
use Rattle.std.proofs.lemmas.Bool.{cases_eq, cases_lt, cases_Bool, eq-eqb, ne_eqb, eqb-true, lt-ltb, le-ltb, false≢true, true≢false}
use Rattle.std.proofs.lemmas.List.{get_or_past, length-set}
use Rattle.std.proofs.lemmas.List.FromFn.{length-range_with_len, get_or-range_with_len}
use Rattle.std.proofs.lemmas.List.Quantifiers.{position-Some}
use Rattle.std.proofs.lemmas.List.Sums.{fails_before_first, position_or_len_is}
use Rattle.std.proofs.lemmas.Nat.Bits.{bit_at-zero, bit_at-lt, bit_at_and, bit_at-trailing_zeros, bit_at_cat_low, bit_at_cat_high}
use Rattle.cb_frame.specs.Bitmap.{IsBitmap, IsLeastSet, NoneSet, bit_in, flags}
use Rattle.cb_frame.specs.FrameSet.{contains, least}
use Rattle.cb_frame.specs.FreeFrames.{IsFreeFrame, free_count, with_given, with_taken}
use Rattle.cb_frame.specs.Runs.{IsLeastRun, IsRunLength, NoRun, is_run, least_run, run_in, with_run}
use Rattle.cb_frame.proofs.Bits.{bit_at-shifted, clear_past_words}
use Rattle.cb_frame.proofs.Flags.{flag_anywhere, length-flags, set_in_range}
use Rattle.cb_frame.proofs.Sets.{IsFree-in_range, flag_from_taken, free_count-with_given, free_count-with_taken, least_free-None, least_free-Some}

-- ---- bits of both of two numbers
both_bits : (a b : ℕ) → a < 2 → b < 2 → nat_eq (min a b) 1 ≡ (nat_eq a 1 && nat_eq b 1)
both_bits a b small_a small_b = elim (cases_eq a 1) [
  | inl ea ↦ elim (cases_eq b 1) [
    | inl eb ↦ rw (eq-eqb a 1 ea, eq-eqb b 1 eb) (eq-eqb (min a b) 1 (omega arith))
    | inr eb ↦ rw (eq-eqb a 1 ea, ne_eqb b 1 eb) (ne_eqb (min a b) 1 (λ e. eb (omega (arith, e, ea, small_b))))
  ]
  | inr ea ↦ rw (ne_eqb a 1 ea) (ne_eqb (min a b) 1 (λ e. ea (omega (arith, e, small_a))))
]

-- a number and what it is when it is shifted down have the bits that it has here and there
shifted_bits : (x s j : ℕ) → nat_eq (bit_at (bit_and x (x / 2 ^ s)) j) 1
    ≡ (nat_eq (bit_at x j) 1 && nat_eq (bit_at x (s + j)) 1)
shifted_bits x s j = ap (λ b. nat_eq b 1) (bit_at_and x (x / 2 ^ s) j)
    ∙ ap (λ b. nat_eq (min (bit_at x j) b) 1) (bit_at-shifted x s j)
    ∙ both_bits (bit_at x j) (bit_at x (s + j)) (bit_at-lt x j) (bit_at-lt x (s + j))

-- the lowest bits of a number
low_bits : (x j : ℕ) → j < 64 → bit_at (x % 2 ^ 64) j ≡ bit_at x j
low_bits x j within =
    sym (bit_at_cat_low (x / 2 ^ 64) 64 (x % 2 ^ 64) j within)
    ∙ ap (λ n. bit_at n j) (let e : x / 2 ^ 64 * 2 ^ 64 + x % 2 ^ 64 ≡ x = omega arith in e)

-- ---- two words of a bitmap as one number
pub two_words_bits : (words : List ℕ) (i low high j : ℕ) → get_or words i 0 ≡ low
    → get_or words (i + 1) 0 ≡ high → low < 2 ^ 64 → j < 128
    → nat_eq (bit_at (high * 2 ^ 64 + low) j) 1 ≡ bit_in words (64 * i + j)
two_words_bits words i low high j is_low is_high small within = elim (cases_lt j 64) [
  | inl below ↦
      let place : (64 * i + j) / 64 ≡ i = omega (arith, below) in
      let bit : (64 * i + j) % 64 ≡ j = omega (arith, below) in
      ap (λ b. nat_eq b 1) (bit_at_cat_low high 64 low j below)
      ∙ ap (λ w. nat_eq (bit_at w j) 1) (sym is_low)
      ∙ ap (λ k. nat_eq (bit_at (get_or words k 0) j) 1) (sym place)
      ∙ ap (λ k. nat_eq (bit_at (get_or words ((64 * i + j) / 64) 0) k) 1) (sym bit)
  | inr above ↦
      let place : (64 * i + j) / 64 ≡ i + 1 = omega (arith, above, within) in
      let bit : (64 * i + j) % 64 ≡ j - 64 = omega (arith, above, within) in
      ap (λ b. nat_eq b 1) (bit_at_cat_high high 64 low j small above)
      ∙ ap (λ w. nat_eq (bit_at w (j - 64)) 1) (sym is_high)
      ∙ ap (λ k. nat_eq (bit_at (get_or words k 0) (j - 64)) 1) (sym place)
      ∙ ap (λ k. nat_eq (bit_at (get_or words ((64 * i + j) / 64) 0) k) 1) (sym bit)
]

-- a number whose bits are those of the bitmap from a word on
abbrev pub AreBitsFrom : List ℕ → ℕ → ℕ → Type 0
AreBitsFrom words i x = (j : ℕ) → j < 128 → nat_eq (bit_at x j) 1 ≡ bit_in words (64 * i + j)

abbrev pub pairs_of : ℕ → ℕ
pairs_of x = bit_and x (x / 2 ^ 1)

pair_at : (words : List ℕ) (i x j : ℕ) → AreBitsFrom words i x → j < 127
    → nat_eq (bit_at (pairs_of x) j) 1 ≡ (bit_in words (64 * i + j) && bit_in words (64 * i + j + 1))
pair_at words i x j are within = shifted_bits x 1 j
    ∙ ap (λ b. b && nat_eq (bit_at x (1 + j)) 1) (are j (omega (arith, within)))
    ∙ ap (λ b. bit_in words (64 * i + j) && b) (are (1 + j) (omega (arith, within)))
    ∙ ap (λ k. bit_in words (64 * i + j) && bit_in words k)
    (let e : 64 * i + (1 + j) ≡ 64 * i + j + 1 = omega arith in e)

pub two_starts : (words : List ℕ) (i x j : ℕ) → AreBitsFrom words i x → j < 64
    → nat_eq (bit_at (pairs_of x % 2 ^ 64) j) 1 ≡ run_in words (64 * i + j) 2
two_starts words i x j are within = ap (λ b. nat_eq b 1) (low_bits (pairs_of x) j within)
    ∙ pair_at words i x j are (omega (arith, within))
    ∙ ap (λ k. bit_in words k && bit_in words (64 * i + j + 1))
    (let e : 64 * i + j ≡ 64 * i + j + 0 = omega arith in e)

and_assoc : (a b c : Bool) → (a && (b && c)) ≡ ((a && b) && c)
and_assoc true b c = refl
and_assoc false b c = refl

pub four_starts : (words : List ℕ) (i x j : ℕ) → AreBitsFrom words i x → j < 64
    → nat_eq (bit_at (bit_and (pairs_of x) (pairs_of x / 2 ^ 2) % 2 ^ 64) j) 1
    ≡ run_in words (64 * i + j) 4
four_starts words i x j are within =
    ap (λ b. nat_eq b 1) (low_bits (bit_and (pairs_of x) (pairs_of x / 2 ^ 2)) j within)
    ∙ shifted_bits (pairs_of x) 2 j
    ∙ ap (λ b. b && nat_eq (bit_at (pairs_of x) (2 + j)) 1) (pair_at words i x j are (omega (arith, within))
    ∙ ap (λ k. bit_in words k && bit 1) (let e : 64 * i + j ≡ 64 * i + j + 0 = omega arith in e))
    ∙ ap (λ b. (bit 0 && bit 1) && b) (pair_at words i x (2 + j) are (omega (arith, within))
    ∙ ap (λ k. bit_in words k && bit_in words (64 * i + (2 + j) + 1))
    (let e : 64 * i + (2 + j) ≡ 64 * i + j + 2 = omega arith in e)
    ∙ ap (λ k. bit 2 && bit_in words k)
    (let e : 64 * i + (2 + j) + 1 ≡ 64 * i + j + 3 = omega arith in e))
    ∙ and_assoc (bit 0 && bit 1) (bit 2) (bit 3)
  where
    bit : ℕ → Bool
    bit d = bit_in words (64 * i + j + d)

-- ---- the least run
-- each bit of a run is set
pub run_has : (words : List ℕ) (n pages d : ℕ) → run_in words n pages ≡ true → d < pages
    → bit_in words (n + d) ≡ true
run_has words n zero d run below = absurd (omega (arith, below))
run_has words n (suc pages) d run below = elim (cases_eq d pages) [
  | inl last ↦ subst (λ k. bit_in words (n + k) ≡ true) (sym last) (second (run_in words n pages) (bit_in words (n + pages)) run)
  | inr other ↦ run_has words n pages d (first (run_in words n pages) (bit_in words (n + pages)) run)
      (omega (arith, below, other))
]
  where
    first : (a b : Bool) → (a && b) ≡ true → a ≡ true
    first true b e = refl
    first false b e = e

    second : (a b : Bool) → (a && b) ≡ true → b ≡ true
    second true b e = e
    second false b e = absurd (false≢true e)

-- no run begins at a bit that is clear
pub no_run_at : (words : List ℕ) (n pages : ℕ) → 1 ≤ pages → bit_in words n ≡ false
    → run_in words n pages ≡ false
no_run_at words n pages some clear = elim (cases_Bool (run_in words n pages)) [
  | inl run ↦ absurd (false≢true (sym clear ∙ ap (bit_in words) (let e : n ≡ n + 0 = omega arith in e)
      ∙ run_has words n pages 0 run some))
  | inr none ↦ none
]

pub pages_some : (pages : ℕ) → IsRunLength pages → 1 ≤ pages
pages_some pages (inl e) = omega (arith, e)
pages_some pages (inr (inl e)) = omega (arith, e)
pages_some pages (inr (inr e)) = omega (arith, e)

-- the least place of a word at which a run begins, where none begins before
pub least_start : (words : List ℕ) (i x pages : ℕ) → 0 < x → x < 2 ^ 64
    → ((j : ℕ) → j < 64 → nat_eq (bit_at x j) 1 ≡ run_in words (64 * i + j) pages)
    → ((k : ℕ) → k < 64 * i → run_in words k pages ≡ false)
    → IsLeastRun words pages (64 * i + trailing_zeros w64 x)
least_start words i x pages some small are before =
    let t = trailing_zeros w64 x in
    let lowest : (t < 64) × (bit_at x t ≡ 1) × ((k : ℕ) → k < t → bit_at x k ≡ 0) =
    bit_at-trailing_zeros w64 x some small in
    let t_small : t < 64 = lowest.0 in
    record {
      set = sym (are t t_small) ∙ eq-eqb (bit_at x t) 1 lowest.1;
      before = λ k low. elim (cases_lt k (64 * i)) [
        | inl earlier ↦ before k earlier
        | inr later ↦
            let here : k - 64 * i < t = omega (arith, low, later) in
            let place : 64 * i + (k - 64 * i) ≡ k = omega (arith, later) in
            ap (λ n. run_in words n pages) (sym place)
            ∙ sym (are (k - 64 * i) (omega (arith, here, t_small)))
            ∙ ap (λ b. nat_eq b 1) (lowest.2 (k - 64 * i) here)
      ];
    }

-- a word at which no run begins
pub none_starts : (words : List ℕ) (i x pages : ℕ) → x ≡ 0
    → ((j : ℕ) → j < 64 → nat_eq (bit_at x j) 1 ≡ run_in words (64 * i + j) pages)
    → ((k : ℕ) → k < 64 * i → run_in words k pages ≡ false)
    → (k : ℕ) → k < 64 * (i + 1) → run_in words k pages ≡ false
none_starts words i x pages none are before k low = elim (cases_lt k (64 * i)) [
  | inl earlier ↦ before k earlier
  | inr later ↦
      let place : 64 * i + (k - 64 * i) ≡ k = omega (arith, later) in
      ap (λ n. run_in words n pages) (sym place)
      ∙ sym (are (k - 64 * i) (omega (arith, low, later)))
      ∙ ap (λ n. nat_eq (bit_at n (k - 64 * i)) 1) none
      ∙ ap (λ b. nat_eq b 1) (bit_at-zero (k - 64 * i))
]

-- none begins behind the last word
pub none_begins : (words : List ℕ) (pages len : ℕ) → IsRunLength pages → len ≡ length words
    → ((k : ℕ) → k < 64 * len → run_in words k pages ≡ false) → NoRun words pages
none_begins words pages len of is before k = elim (cases_lt k (64 * len)) [
  | inl earlier ↦ before k earlier
  | inr later ↦ no_run_at words k pages (pages_some pages of)
      (clear_past_words words k (omega (arith, later, is)))
]

-- ---- runs of frames
-- a run of bits is one of the frames that these are
pub run_flags : (words : List ℕ) (count f pages : ℕ) → IsBitmap words count
    → run_in words f pages ≡ is_run (flags words count) f pages
run_flags words count f zero bitmap = refl
run_flags words count f (suc pages) bitmap =
    ap (λ b. b && bit_in words (f + pages)) (run_flags words count f pages bitmap)
    ∙ ap (λ b. is_run (flags words count) f pages && b) (flag_anywhere words count (f + pages) bitmap)

in_order : (n k d : ℕ) → k < n → get_or (range_with_len 0 n) k d ≡ k
in_order n k d below = get_or-range_with_len 0 n k d below ∙ (let e : 0 + k ≡ k = omega arith in e)

pub least_run-is : (frames : List Bool) (pages f : ℕ) → f < length frames
    → is_run frames f pages ≡ true → ((g : ℕ) → g < f → is_run frames g pages ≡ false)
    → least_run frames pages ≡ Some f
least_run-is frames pages f within here before =
    let n = length frames in
    let len = length-range_with_len 0 n in
    let p : ℕ → Bool = λ g. is_run frames g pages in
    let place : position_or_len p (range_with_len 0 n) ≡ f =
    position_or_len_is p (range_with_len 0 n) f 0 (omega (arith, within, len))
    (λ k below. ap p (in_order n k 0 (omega (arith, below, within))) ∙ before k below)
    (λ _. ap p (in_order n f 0 within) ∙ here) in
    rw (place, len, lt-ltb f n within) refl

pub least_run-none : (frames : List Bool) (pages : ℕ)
    → ((g : ℕ) → is_run frames g pages ≡ false) → least_run frames pages ≡ None
least_run-none frames pages none =
    let n = length frames in
    let len = length-range_with_len 0 n in
    let p : ℕ → Bool = λ g. is_run frames g pages in
    let place : position_or_len p (range_with_len 0 n) ≡ n =
    position_or_len_is p (range_with_len 0 n) n 0 (omega (arith, len))
    (λ k below. ap p (in_order n k 0 below) ∙ none k)
    (λ h. absurd (omega (arith, h, len))) in
    rw (place, len, le-ltb n n (omega arith)) refl

-- what is known of the least run of a set that a bitmap stands for
pub least_run-flags : (words : List ℕ) (count pages f : ℕ) → IsRunLength pages
    → IsBitmap words count → IsLeastRun words pages f
    → least_run (flags words count) pages ≡ Some f
least_run-flags words count pages f of bitmap least =
    let first = ap (bit_in words) (let e : f ≡ f + 0 = omega arith in e)
    ∙ run_has words f pages 0 least.set (pages_some pages of) in
    let within = set_in_range words count f bitmap first in
    least_run-is (flags words count) pages f (omega (arith, within, length-flags words count))
    (sym (run_flags words count f pages bitmap) ∙ least.set)
    (λ g below. sym (run_flags words count g pages bitmap) ∙ least.before g below)

pub least_run-clear : (words : List ℕ) (count pages : ℕ) → IsBitmap words count
    → NoRun words pages → least_run (flags words count) pages ≡ None
least_run-clear words count pages bitmap clear =
    least_run-none (flags words count) pages
    (λ g. sym (run_flags words count g pages bitmap) ∙ clear g)

pub run_within : (words : List ℕ) (count pages f : ℕ) → IsRunLength pages → IsBitmap words count
    → run_in words f pages ≡ true → f + pages ≤ count
run_within words count pages f of bitmap run =
    let some = pages_some pages of in
    let last = set_in_range words count (f + (pages - 1)) bitmap
    (run_has words f pages (pages - 1) run (omega (arith, some))) in
    omega (arith, last, some)

-- ---- frames after a run was put or taken
pub length-with_run : (frames : List Bool) (f n : ℕ) (bit : Bool)
    → length (with_run frames f n bit) ≡ length frames
length-with_run frames f zero bit = refl
length-with_run frames f (suc n) bit =
    length-set (with_run frames f n bit) (f + n) bit ∙ length-with_run frames f n bit

pub with_run_out : (frames : List Bool) (f n g : ℕ) (bit : Bool) → (g < f) ⊎ (f + n ≤ g)
    → contains (with_run frames f n bit) g ≡ contains frames g
with_run_out frames f zero g bit out = refl
with_run_out frames f (suc n) g bit out =
    get_or-set_other (with_run frames f n bit) (f + n) g bit false (apart out)
    ∙ with_run_out frames f n g bit (less out)
  where
    apart : (g < f) ⊎ (f + suc n ≤ g) → g ≢ f + n
    apart (inl a) e = omega (arith, a, e)
    apart (inr b) e = omega (arith, b, e)

    less : (g < f) ⊎ (f + suc n ≤ g) → (g < f) ⊎ (f + n ≤ g)
    less (inl a) = inl a
    less (inr b) = inr (omega (arith, b))

pub with_run_in : (frames : List Bool) (f n g : ℕ) (bit : Bool) → f + n ≤ length frames → f ≤ g
    → g < f + n → contains (with_run frames f n bit) g ≡ bit
with_run_in frames f zero g bit fits from to = absurd (omega (arith, from, to))
with_run_in frames f (suc n) g bit fits from to = elim (cases_eq g (f + n)) [
  | inl last ↦ ap (contains (with_run frames f (suc n) bit)) last
      ∙ get_or-set_same (with_run frames f n bit) (f + n) bit false
      (omega (arith, fits, length-with_run frames f n bit))
  | inr other ↦ get_or-set_other (with_run frames f n bit) (f + n) g bit false other
      ∙ with_run_in frames f n g bit (omega (arith, fits)) from (omega (arith, to, other))
]

pub is_run_has : (frames : List Bool) (f n d : ℕ) → is_run frames f n ≡ true → d < n
    → contains frames (f + d) ≡ true
is_run_has frames f zero d run below = absurd (omega (arith, below))
is_run_has frames f (suc n) d run below = elim (cases_eq d n) [
  | inl last ↦ subst (λ k. contains frames (f + k) ≡ true) (sym last)
      (second (is_run frames f n) (contains frames (f + n)) run)
  | inr other ↦ is_run_has frames f n d (first (is_run frames f n) (contains frames (f + n)) run)
      (omega (arith, below, other))
]
  where
    first : (a b : Bool) → (a && b) ≡ true → a ≡ true
    first true b e = refl
    first false b e = e

    second : (a b : Bool) → (a && b) ≡ true → b ≡ true
    second true b e = e
    second false b e = absurd (false≢true e)

-- so many frames fewer are free
pub free_count-run_taken : (frames : List Bool) (f n : ℕ)
    → ((d : ℕ) → d < n → IsFreeFrame frames (f + d))
    → free_count (with_run frames f n false) + n ≡ free_count frames
free_count-run_taken frames f zero free = omega arith
free_count-run_taken frames f (suc n) free =
    let rest = free_count-run_taken frames f n (λ d below. free d (omega (arith, below))) in
    let one = free_count-with_taken (with_run frames f n false) (f + n)
    (with_run_out frames f n (f + n) false (inr (omega arith)) ∙ free n (omega arith)) in
    omega (arith, rest, one)

-- so many frames more are free
pub free_count-run_given : (frames : List Bool) (f n : ℕ) → f + n ≤ length frames
    → ((d : ℕ) → d < n → ¬ (IsFreeFrame frames (f + d)))
    → free_count (with_run frames f n true) ≡ free_count frames + n
free_count-run_given frames f zero fits taken = omega arith
free_count-run_given frames f (suc n) fits taken =
    let rest = free_count-run_given frames f n (omega (arith, fits)) (λ d below. taken d (omega (arith, below))) in
    let len = length-with_run frames f n true in
    let one = free_count-with_given (with_run frames f n true) (f + n) (omega (arith, fits, len))
    (λ is. taken n (omega arith) (sym (with_run_out frames f n (f + n) true (inr (omega arith))) ∙ is)) in
    omega (arith, rest, one)

-- ---- the exits of a search
pub four_left : (pages : ℕ) → (pages ≡ 2) ⊎ (pages ≡ 4) → pages ≢ 2 → pages ≡ 4
four_left pages (inl e) two = absurd (two e)
four_left pages (inr e) two = e

pub more_than_one : (pages : ℕ) → IsRunLength pages → pages ≢ 1 → (pages ≡ 2) ⊎ (pages ≡ 4)
more_than_one pages (inl e) one = absurd (one e)
more_than_one pages (inr more) one = more

-- a run of one bit is the bit
one_bit : (words : List ℕ) (n : ℕ) → run_in words n 1 ≡ bit_in words n
one_bit words n = ap (bit_in words) (let e : n + 0 ≡ n = omega arith in e)

pub one_found : (words : List ℕ) (pages : ℕ) (found : Option ℕ) → pages ≡ 1
    → MatchOption found (NoneSet words 0) (IsLeastSet words 0)
    → MatchOption found (NoRun words pages) (IsLeastRun words pages)
one_found words pages None one none = λ k. ap (run_in words k) one ∙ one_bit words k ∙ none k (omega arith)
one_found words pages (Some n) one least = record {
  set = ap (run_in words n) one ∙ one_bit words n ∙ least.set;
  before = λ k below. ap (run_in words k) one ∙ one_bit words k ∙ least.before k (omega arith) below;
}

-- what is said of the bits of a word, for the length that it is
pub for_length : (words : List ℕ) (i x pages n j : ℕ) → pages ≡ n
    → nat_eq (bit_at x j) 1 ≡ run_in words (64 * i + j) n
    → nat_eq (bit_at x j) 1 ≡ run_in words (64 * i + j) pages
for_length words i x pages n j e is =
    subst (λ k. nat_eq (bit_at x j) 1 ≡ run_in words (64 * i + j) k) (sym e) is

pub run_length-with : (frames : List Bool) (f n : ℕ) (bit : Bool) (new : List Bool)
    → new ≡ with_run frames f n bit → length new ≡ length frames
run_length-with frames f n bit new e = ap (λ fs. length fs) e ∙ length-with_run frames f n bit

pub least_run-some : (frames : List Bool) (pages f : ℕ) → least_run frames pages ≡ Some f
    → is_run frames f pages ≡ true
least_run-some frames pages f found =
    let n = length frames in
    let len = length-range_with_len 0 n in
    let p : ℕ → Bool = λ g. is_run frames g pages in
    let first : (f < length (range_with_len 0 n)) × (p (get_or (range_with_len 0 n) f 0) ≡ true)
    × ((g : ℕ) → g < f → p (get_or (range_with_len 0 n) g 0) ≡ false) =
    position-Some p (range_with_len 0 n) f 0 found in
    sym (ap p (in_order n f 0 (omega (arith, first.0, len)))) ∙ first.1

-- ---- runs of one frame are the frames themselves
one_frame : (frames : List Bool) (f : ℕ) → is_run frames f 1 ≡ contains frames f
one_frame frames f = ap (contains frames) (let e : f + 0 ≡ f = omega arith in e)

pub with_run-one : (frames : List Bool) (f : ℕ) (bit : Bool) → with_run frames f 1 bit ≡ set frames f bit
with_run-one frames f bit = ap (λ k. set frames k bit) (let e : f + 0 ≡ f = omega arith in e)

-- the least run of one frame is the least frame
pub least_run-one : (frames : List Bool) → least_run frames 1 ≡ least frames
least_run-one frames = by (least frames) refl
  where
    by : (found : Option ℕ) → least frames ≡ found → least_run frames 1 ≡ found
    by None e = least_run-none frames 1
        (λ g. one_frame frames g ∙ flag_from_taken frames g (least_free-None frames e g))
    by (Some f) e =
        let first = least_free-Some frames f e in
        least_run-is frames 1 f (IsFree-in_range frames f first.0) (one_frame frames f ∙ first.0)
        (λ g below. one_frame frames g ∙ flag_from_taken frames g (first.1 g below))

-- ---- the least run, frame by frame
-- the frames of the least run are free, and there
pub least_run-Some : (frames : List Bool) (pages f : ℕ) → least_run frames pages ≡ Some f
    → 1 ≤ pages → (f + pages ≤ length frames)
    × ((g : ℕ) → f ≤ g → g < f + pages → IsFreeFrame frames g)
least_run-Some frames pages f found some =
    let run = least_run-some frames pages f found in
    let free : (g : ℕ) → f ≤ g → g < f + pages → IsFreeFrame frames g =
    λ g from to. subst (IsFreeFrame frames) (let e : f + (g - f) ≡ g = omega (arith, from) in e)
    (is_run_has frames f pages (g - f) run (omega (arith, from, to))) in
    let last = IsFree-in_range frames (f + (pages - 1)) (free (f + (pages - 1)) (omega arith)
    (omega (arith, some))) in
    (omega (arith, last, some), free)

-- frames that are all free are a run
pub run_of_free : (frames : List Bool) (f n : ℕ)
    → ((g : ℕ) → f ≤ g → g < f + n → IsFreeFrame frames g) → is_run frames f n ≡ true
run_of_free frames f zero free = refl
run_of_free frames f (suc n) free =
    ap (λ b. b && contains frames (f + n))
    (run_of_free frames f n (λ g from to. free g from (omega (arith, to))))
    ∙ free (f + n) (omega arith) (omega arith)

-- where there is no least run, none begins anywhere
pub least_run-None : (frames : List Bool) (pages : ℕ) → least_run frames pages ≡ None → 1 ≤ pages
    → (f : ℕ) → is_run frames f pages ≡ false
least_run-None frames pages none some f = elim (cases_Bool (is_run frames f pages)) [
  | inl run ↦
      let n = length frames in
      let len = length-range_with_len 0 n in
      let p : ℕ → Bool = λ g. is_run frames g pages in
      let first : IsFreeFrame frames f = subst (IsFreeFrame frames)
      (let e : f + 0 ≡ f = omega arith in e) (is_run_has frames f pages 0 run some) in
      let within : f < n = IsFree-in_range frames f first in
      let place = position_or_len p (range_with_len 0 n) in
      absurd (elim (cases_lt place (length (range_with_len 0 n))) [
        | inl there ↦
            let found : least_run frames pages ≡ Some place =
            rw (lt-ltb place (length (range_with_len 0 n)) there) refl in cc
        | inr past ↦
            let clear = fails_before_first p (range_with_len 0 n) f 0
            (omega (arith, past, within, len)) in
            false≢true (sym clear ∙ ap p (in_order n f 0 within) ∙ run)
      ])
  | inr clear ↦ clear
]
