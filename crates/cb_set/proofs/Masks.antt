-- Live positions as the bits of a number.
use Rattle.std.proofs.Common.{◌≡◌, ℕ, zero, suc, ◌+◌, ◌*◌, ◌%◌, ◌^◌, ◌<◌, ◌≤◌, Bool, true, false, List, [], ◌∷◌, ◌++◌, length, take, get_or, bit_and, if◌then◌else◌, refl, ap, sym, ◌∙◌, arith}
use mir.Val.{bool_byte}
use Rattle.std.specs.Int.Bits.{and_zero_l, and_zero_r}
use Rattle.std.proofs.lemmas.Bool.{false≢true}
use Rattle.std.proofs.lemmas.List.{length-take-le, take_more}
use Rattle.std.proofs.lemmas.Nat.{and_block}
use Rattle.std.proofs.Math.Nat.{pow-le-pow_right, pow-suc}
use Rattle.cb_member.specs.Membership.{Membership}
use Rattle.cb_set.specs.SetState.{PositionState, SetState}
use Rattle.cb_set.specs.Lost.{IsWhole}
use Rattle.cb_set.specs.Matched.{IsMatched, PositionsApart, live_mask}

abbrev bit : PositionState → ℕ
bit position = if position.live then 1 else 0

bit-lt : (b : Bool) → (if b then 1 else 0) < 2
bit-lt true = omega arith
bit-lt false = omega arith

-- the mask of so many positions has so many bits
pub live_mask-lt : (positions : List PositionState) → live_mask positions < 2 ^ length positions
live_mask-lt [] = omega arith
live_mask-lt (x ∷ xs) =
    let size : 2 ^ length (x ∷ xs) ≡ 2 ^ length xs * 2 = pow-suc 2 (length xs) in
    omega (arith, live_mask-lt xs, bit-lt x.live, size)

doubled : (b : Bool) (n m : ℕ) → n ≡ m * 2
    → (if b then 1 else 0) * n ≡ (if b then 1 else 0) * m * 2
doubled true n m e = omega (arith, e)
doubled false n m e = omega arith

live_mask-push : (xs : List PositionState) (x : PositionState)
    → live_mask (xs ++ x ∷ []) ≡ live_mask xs + bit x * 2 ^ length xs
live_mask-push [] x = omega arith
live_mask-push (y ∷ ys) x =
    let high : bit x * 2 ^ length (y ∷ ys) ≡ bit x * 2 ^ length ys * 2 =
    doubled x.live (2 ^ length (y ∷ ys)) (2 ^ length ys) (pow-suc 2 (length ys)) in
    omega (arith, live_mask-push ys x, high)

-- one position more
pub live_mask-more : (xs : List PositionState) (i : ℕ) (d : PositionState) → i < length xs
    → live_mask (take (i + 1) xs) ≡ live_mask (take i xs) + bit (get_or xs i d) * 2 ^ i
live_mask-more xs i d within =
    ap live_mask (take_more xs i d within) ∙ live_mask-push (take i xs) (get_or xs i d)
    ∙ ap (λ n. live_mask (take i xs) + bit (get_or xs i d) * 2 ^ n)
    (length-take-le i xs (omega (arith, within)))

-- the bit of a position among at most 32, as a u32 is shifted to it
pub shifted_bit : (b : Bool) (i : ℕ) → i < 32
    → (if b then 1 else 0) * 2 ^ i % 4294967296 ≡ (if b then 1 else 0) * 2 ^ i
shifted_bit false i within = omega arith
shifted_bit true i within =
    let fits : 2 ^ i ≤ 2 ^ 31 =
    pow-le-pow_right {n = 2} (omega arith) {i = i} {j = 31} (omega arith) in
    omega (arith, fits)

-- what a flag is as a number
pub flag_number : (b : Bool) → bool_byte b ≡ (if b then 1 else 0)
flag_number true = refl
flag_number false = refl

-- one step of the sum of the bits
pub mask_step : (xs : List PositionState) (i : ℕ) (p d : PositionState) (mask n : ℕ)
    → i < length xs → length xs ≤ 32 → p ≡ get_or xs i d → mask ≡ live_mask (take i xs)
    → n ≡ (if p.live then 1 else 0)
    → (mask + n * 2 ^ i % 4294967296 ≡ live_mask (take (i + 1) xs))
    × (mask + n * 2 ^ i % 4294967296 < 4294967296)
mask_step xs i p d mask n within few is masked flag =
    let one : n * 2 ^ i % 4294967296 ≡ bit p * 2 ^ i =
    ap (λ k. k * 2 ^ i % 4294967296) flag ∙ shifted_bit p.live i (omega (arith, within, few)) in
    let more : live_mask (take (i + 1) xs) ≡ live_mask (take i xs) + bit p * 2 ^ i =
    live_mask-more xs i d within
    ∙ ap (λ (q : PositionState). live_mask (take i xs) + bit q * 2 ^ i) (sym is) in
    let total : mask + n * 2 ^ i % 4294967296 ≡ live_mask (take (i + 1) xs) =
    omega (arith, one, more, masked) in
    let size : length (take (i + 1) xs) ≡ i + 1 =
    length-take-le (i + 1) xs (omega (arith, within)) in
    let low : live_mask (take (i + 1) xs) < 2 ^ (i + 1) =
    omega (arith, live_mask-lt (take (i + 1) xs), ap (λ n. 2 ^ n) size) in
    let high : 2 ^ (i + 1) ≤ 2 ^ 32 =
    pow-le-pow_right {n = 2} (omega arith) {i = i + 1} {j = 32} (omega (arith, within, few)) in
    (total, omega (arith, total, low, high))

-- the masks of two lists, without their first positions
and_masks : (x y : PositionState) (xs ys : List PositionState)
    → bit_and (live_mask (x ∷ xs)) (live_mask (y ∷ ys))
    ≡ bit_and (live_mask xs) (live_mask ys) * 2 + bit_and (bit x) (bit y)
and_masks x y xs ys =
    and_block 1 (live_mask xs) (live_mask ys) (bit x) (bit y) (bit-lt x.live) (bit-lt y.live)

both_live : (a b : Bool) → a ≡ true → b ≡ true
    → bit_and (if a then 1 else 0) (if b then 1 else 0) ≡ 1
both_live true true p q = refl
both_live true false p q = absurd (false≢true q)
both_live false b p q = absurd (false≢true p)

not_both : (a b : Bool) → (a ≡ true → b ≡ true → ⊥)
    → bit_and (if a then 1 else 0) (if b then 1 else 0) ≡ 0
not_both true true never = absurd (never refl refl)
not_both true false never = refl
not_both false true never = refl
not_both false false never = refl

-- no position is live in both lists exactly where their masks have no bit in common
pub apart_from_masks : (xs ys : List PositionState)
    → bit_and (live_mask xs) (live_mask ys) ≡ 0 → PositionsApart xs ys
apart_from_masks [] ys none k live_x live_y = false≢true live_x
apart_from_masks (x ∷ xs) [] none k live_x live_y = false≢true live_y
apart_from_masks (x ∷ xs) (y ∷ ys) none zero live_x live_y =
    absurd (omega (arith, and_masks x y xs ys, both_live x.live y.live live_x live_y, none))
apart_from_masks (x ∷ xs) (y ∷ ys) none (suc k) live_x live_y =
    apart_from_masks xs ys (omega (arith, and_masks x y xs ys, none)) k live_x live_y

pub masks_from_apart : (xs ys : List PositionState) → PositionsApart xs ys
    → bit_and (live_mask xs) (live_mask ys) ≡ 0
masks_from_apart [] ys apart = and_zero_l (live_mask ys)
masks_from_apart (x ∷ xs) [] apart = and_zero_r (live_mask (x ∷ xs))
masks_from_apart (x ∷ xs) (y ∷ ys) apart =
    let first = not_both x.live y.live (apart 0) in
    let rest = masks_from_apart xs ys (λ k. apart (suc k)) in
    omega (arith, and_masks x y xs ys, first, rest)

-- two sets are matched exactly where both are whole and of one length and their masks have no bit in
-- common
pub matched_by_masks : (m : Membership) (a b : SetState) → IsWhole m a → IsWhole m b
    → b.pages ≡ a.pages → bit_and (live_mask a.positions) (live_mask b.positions) ≡ 0 → IsMatched m a b
matched_by_masks m a b whole_a whole_b pages none = record {
  whole_a = whole_a;
  whole_b = whole_b;
  pages = pages;
  apart = apart_from_masks a.positions b.positions none;
}

pub masks_of_matched : (m : Membership) (a b : SetState) → IsMatched m a b
    → bit_and (live_mask a.positions) (live_mask b.positions) ≡ 0
masks_of_matched m a b matched = masks_from_apart a.positions b.positions matched.apart
