use Rattle.std.proofs.Common.{◌≡◌, ℕ, ◌<◌, Some}
use Rattle.std.specs.List.{slice_get}
use Rattle.cb_compact.specs.declared.candidates.Candidate.{Candidate}
use Rattle.cb_compact.specs.Candidates.{CanMatch}
use Rattle.cb_compact.proofs.candidates.first_match.Given as goal

abbrev pub invariant-loop-place : goal.invariant-loop-place
invariant-loop-place l = (m n : ℕ) (c d : Candidate) → m < l.place → m < n
    → slice_get l.found m ≡ Some c → slice_get l.found n ≡ Some d → ¬ (CanMatch c d)
