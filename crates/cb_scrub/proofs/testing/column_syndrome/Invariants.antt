use Rattle.std.proofs.Common.{◌≡◌, ℕ, ◌-◌, length, drop}
use Rattle.cb_gf256.specs.Power.{power}
use Rattle.cb_gf256.specs.CodeWord.{syndrome}
use Rattle.cb_scrub.proofs.testing.column_syndrome.Given as goal

abbrev pub invariant-loop-i : goal.invariant-loop-i
invariant-loop-i l = (j : ℕ) → l.factor ≡ power 2 j → l.sum ≡ syndrome j (drop (length l.rows - l.i) l.rows) l.column
