-- What the far state counts.
use Rattle.std.specs.Prelude.{ℕ, ◌+◌, List, slice_index, slice_set}

-- the turns, in all and by job; the set numbers and the row keys drawn
pub record CountsState : Type 0 where
  pub turns : ℕ
  pub by_job : List ℕ
  pub sets : ℕ
  pub keys : ℕ

-- one turn more was counted, of this kind of job
abbrev pub with_turn : CountsState → ℕ → CountsState
with_turn c kind = record c {
  turns = c.turns + 1;
  by_job = slice_set c.by_job kind (slice_index c.by_job kind + 1);
}
