use Rattle.std.proofs.Common.{List, Option, sym, ap, ◌∙◌, subst}
use Rattle.cb_member.specs.declared.names.Shard.{Shard}
use Rattle.cb_world.specs.FarState.{FarState}
use Rattle.cb_world.specs.Leaving.{LeavingState}
use Rattle.cb_world.specs.Reserved.{put_shards}
use Rattle.cb_world.specs.Stored.{AreThere}
use Rattle.cb_evict.proofs.aborting.forget.Goals as goal

pub drop_put-requires : goal.drop_put-requires
drop_put-requires c = record {
  there = subst (λ (l : List (Option Shard)). AreThere c.far.inside.nodes (put_shards l))
      (sym (c.deref.ensures.value ∙ ap (λ (b : LeavingState). b.shards) c.batch.view_is))
      (subst (λ (f : FarState). AreThere f.nodes (put_shards c.args.batch.now.shards))
      (sym c.far.view_is) c.requires.there);
}
