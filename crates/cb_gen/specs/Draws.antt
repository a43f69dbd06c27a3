-- The numbers that a seed gives, drawn one after the other.
use Rattle.std.specs.Prelude.{ℕ, zero, suc, ◌+◌, ◌*◌, ◌/◌, ◌%◌, ◌^◌, List, map}
use Rattle.std.specs.List.{range_with_len}

-- the state after this one: the linear congruential generator of Knuth's MMIX
abbrev pub next_state : ℕ → ℕ
next_state x = (x * 6364136223846793005 + 1442695040888963407) % 2 ^ 64

-- the state after so many draws
abbrev pub state_after : ℕ → ℕ → ℕ
state_after x zero = x
state_after x (suc n) = next_state (state_after x n)

-- the number below m that is drawn after n others: the upper 31 bits of its state, modulo m
abbrev pub drawn : (x n m : ℕ) → ℕ
drawn x n m = next_state (state_after x n) / 2 ^ 33 % m

-- so many bytes, drawn one after the other
abbrev pub drawn_bytes : (x count : ℕ) → List ℕ
drawn_bytes x count = map (λ n. drawn x n 256) (range_with_len 0 count)
