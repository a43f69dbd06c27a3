use Rattle.std.proofs.Common.{ℕ, ◌<◌, ◌≡◌, Some}
use Rattle.std.specs.List.{slice_get}
use Rattle.cb_set.specs.SetState.{SetState}
use Rattle.cb_world.specs.declared.groups.Group.{Group}
use Rattle.cb_world.specs.Groups.{IsAmong, NoGroupsMatch, group_of}
use Rattle.cb_world.specs.Sets.{set_in}
use Rattle.cb_world.proofs.sets.add_sets.Given as goal

-- the groups of the sets before here are there, beside those that were there
abbrev pub invariant-loop-at : goal.invariant-loop-at
invariant-loop-at l = NoGroupsMatch l.groups.items
    × ((g : Group) → IsAmong g l.fn.groups.items → IsAmong g l.groups.items)
    × ((i id : ℕ) (set : SetState) → i < l.at → slice_get l.changed i ≡ Some id
    → set_in l.table id ≡ Some set → IsAmong (group_of set) l.groups.items)
