use Rattle.std.proofs.Common.{◌≡◌, List, Some}
use Rattle.std.specs.FinMap as map
use Rattle.cb_member.specs.declared.names.Shard.{Shard}
use Rattle.cb_world.specs.Sets.{Kept}
use Rattle.cb_evict.proofs.NamesShards.{AreShardsNamed}
use Rattle.cb_evict.proofs.committing.commit_set.Given as goal

-- the shards of the earlier positions are named
abbrev pub invariant-loop-p : goal.invariant-loop-p
invariant-loop-p l = (kept : Kept) → map.get l.initial.sets l.id ≡ Some kept → (named : List Shard)
    × AreShardsNamed l.initial.sets l.sets l.id kept l.shards l.p named
