use Rattle.std.proofs.Common.{◌≡◌, take}
use Rattle.cb_compact.specs.Candidates.{groups_of}
use Rattle.cb_compact.proofs.candidates.groups_of.Given as goal

abbrev pub invariant-loop-candidate : goal.invariant-loop-candidate
invariant-loop-candidate l = l.groups.items ≡ groups_of (take l.candidate-index l.found)
