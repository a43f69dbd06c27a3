-- What setting the flag of a pointer word computes.
use Rattle.std.proofs.Common.{◌≡◌, ℕ, ◌+◌, ◌*◌, ◌/◌, ◌%◌, ◌<◌, refl, arith, inl, inr, bit_or}
use Rattle.std.proofs.lemmas.Nat.{or_block, or_comm}
use Rattle.std.proofs.lemmas.Bool.{cases_lt}

or_zero : (a : ℕ) → bit_or a 0 ≡ a
or_zero a = rw (or_comm a 0) refl

or_one_low : (r : ℕ) → r < 2 → bit_or r 1 ≡ 1
or_one_low r h = elim (cases_lt r 1) [
  | inl low ↦ let e : r ≡ 0 = omega arith in rw e refl
  | inr high ↦ let e : r ≡ 1 = omega arith in rw e refl
]

or_one : (high low : ℕ) → low < 2 → bit_or (high * 2 + low) 1 ≡ high * 2 + 1
or_one high low h =
    let split : bit_or (high * 2 + low) 1 ≡ bit_or high 0 * 2 + bit_or low 1 =
    or_block 1 high 0 low 1 h (omega arith) in
    omega (arith, split, or_zero high, or_one_low low h)

or_four_parts : (high bit low : ℕ) → bit < 2 → low < 4
    → bit_or ((high * 2 + bit) * 4 + low) 4 ≡ (high * 2 + 1) * 4 + low
or_four_parts high bit low b l =
    let split : bit_or ((high * 2 + bit) * 4 + low) 4
    ≡ bit_or (high * 2 + bit) 1 * 4 + bit_or low 0 =
    or_block 2 (high * 2 + bit) 1 low 0 l (omega arith) in
    omega (arith, split, or_one high bit b, or_zero low)

-- to set bit 2 adds 4 where it was clear
pub or_four : (n : ℕ) → bit_or n 4 + n / 4 % 2 * 4 ≡ n + 4
or_four n =
    let parts : (n / 4 / 2 * 2 + n / 4 % 2) * 4 + n % 4 ≡ n = omega arith in
    let set : bit_or n 4 ≡ (n / 4 / 2 * 2 + 1) * 4 + n % 4 =
    rw parts at (or_four_parts (n / 4 / 2) (n / 4 % 2) (n % 4) (omega arith) (omega arith)) in
    omega arith
