use Rattle.std.proofs.Common.{◌≡◌, ◌<◌, ℕ, Some}
use Rattle.std.specs.List.{slice_get}
use Rattle.cb_world.specs.declared.groups.Group.{Group}
use Rattle.cb_world.specs.Groups.{DoMatch}
use Rattle.cb_world.proofs.groups.matches_any.Given as goal

-- none of the groups before here matches it
abbrev pub invariant-loop-at : goal.invariant-loop-at
invariant-loop-at l = (i : ℕ) (g : Group) → i < l.at → slice_get l.groups i ≡ Some g
    → ¬ (DoMatch g l.group)
