-- What a scrub of the next set does.
use Rattle.std.proofs.Common.{◌≡◌, ℕ, length, get_or, Option, None, Some, All, refl}
use Rattle.std.specs.Prelude.{IsSome}
use Rattle.std.proofs.lemmas.Option.{slice_get-get_or}
use Rattle.cb_member.specs.Membership.{Membership}
use Rattle.cb_node.specs.NodesState.{NodesState}
use Rattle.cb_set.specs.Lost.{lost}
use Rattle.cb_set.specs.SetState.{SetState}
use Rattle.cb_set.proofs.Laws.{whole_by_count, whole_none}
use Rattle.cb_scrub.specs.declared.found.Found.{Found}
use Rattle.cb_types.specs.declared.handle.SetId.{SetId}
use Rattle.cb_world.specs.FarState.{FarState}
use Rattle.cb_world.specs.Sets.{set_in}
use Rattle.cb_scrub_world.specs.Next.{IsNextSet}
use Rattle.cb_scrub_world.specs.Scrub.{Examines, IsExamined, MayScrubSet, with_nodes}
use Rattle.cb_scrub_world.specs.Standing.{RowStands}

-- where nothing is lost, each row stands
pub all_stand : (nodes : NodesState) (m : Membership) (set : SetState) → MayScrubSet nodes m set → length (lost m set.shards) ≡ 0 → All (RowStands nodes set.pages) set.shards
all_stand nodes m set may none k d within =
    let whole = whole_by_count m set.shards none in
    may.standing k d within (whole_none m set.shards whole k (get_or set.shards k d) (slice_get-get_or set.shards k d within))

some_set : (o : Option SetState) → IsSome o → (set : SetState) × (o ≡ Some set)
some_set None is = absurd cc
some_set (Some set) is = (set, refl)

pub examines : (after : Option SetId) (far new : FarState) (id : ℕ) (found : Found) → IsNextSet after far.sets id → ((set : SetState) → set_in far.sets id ≡ Some set → length (lost far.members set.shards) ≡ 0)
    → ((set : SetState) → set_in far.sets id ≡ Some set → IsExamined far.nodes set found new.nodes) → new ≡ with_nodes far new.nodes → Examines after far id found new
examines after far new id found next none examined others =
    let there = some_set (set_in far.sets id) next.committed in
    record { next = next; set = there.0; is_set = there.1; whole = whole_by_count far.members there.0.shards (none there.0 there.1); examined = examined there.0 there.1; others = others }
