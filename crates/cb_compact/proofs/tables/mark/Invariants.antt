use Rattle.std.proofs.Common.{◌≡◌, ℕ, ◌<◌, ◌^◌, Some, true, false, length}
use Rattle.std.specs.Prelude.{slice_index_or}
use Rattle.std.specs.List.{slice_get}
use Rattle.cb_compact.specs.declared.candidates.Candidate.{Candidate}
use Rattle.cb_compact.proofs.tables.mark.Given as goal

-- those that were looked at are marked
abbrev pub invariant-loop-candidate : goal.invariant-loop-candidate
invariant-loop-candidate l = record {
  size : length l.marks ≡ 2 ^ l.k;
  marked : (i : ℕ) (c : Candidate) → i < l.candidate-index → slice_get l.found i ≡ Some c
      → c.k ≡ l.k → c.r ≡ l.r → c.pages ≡ l.pages → slice_index_or l.marks c.live false ≡ true;
}
