use Rattle.std.proofs.Common.{◌≡◌, ℕ, ◌<◌, Some}
use Rattle.std.specs.List.{slice_get}
use Rattle.cb_compact.specs.declared.candidates.Candidate.{Candidate}
use Rattle.cb_compact.specs.Candidates.{CanMatch}
use Rattle.cb_compact.proofs.candidates.next_partner.Given as goal

abbrev pub invariant-loop-other : goal.invariant-loop-other
invariant-loop-other l = (n : ℕ) (c d : Candidate) → l.place < n → n < l.other
    → slice_get l.found l.place ≡ Some c → slice_get l.found n ≡ Some d → ¬ (CanMatch c d)
