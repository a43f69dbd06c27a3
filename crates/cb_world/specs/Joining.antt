-- The pair of sets that is joining.
use Rattle.std.specs.Prelude.{ℕ, List, Option}
use Rattle.cb_member.specs.declared.names.Shard.{Shard}

-- the numbers of the two sets and their shards at the begin; the positions taken from b; and by
-- position the shard of the step that was done, where one was
pub record JoiningState : Type 0 where
  pub a : ℕ
  pub b : ℕ
  pub shards_a : List Shard
  pub shards_b : List Shard
  pub taken : List ℕ
  pub steps : List (Option Shard)
