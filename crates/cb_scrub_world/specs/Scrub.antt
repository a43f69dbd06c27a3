-- What a scrub of a set asks for and does.
use Rattle.std.specs.Prelude.{◌≡◌, ℕ, ◌^◌, ◌<◌, ◌≤◌, false, List, Option, Some, All, length, slice_get}
use Rattle.cb_gf256.specs.InRange.{IsInRange}
use Rattle.cb_member.specs.declared.names.Shard.{Shard}
use Rattle.cb_member.specs.Membership.{Membership}
use Rattle.cb_node.specs.NodesState.{NodesState, with_row}
use Rattle.cb_scrub.specs.declared.found.Found.{Found}
use Rattle.cb_scrub.specs.declared.found.Found.TheVariants.{Clean, One, Many}
use Rattle.cb_scrub.specs.Finds.{IsFinding}
use Rattle.cb_scrub.specs.Mended.{row_of_others}
use Rattle.cb_scrub.specs.Wrong.{IsWord, IsWordBut}
use Rattle.cb_set.specs.Lost.{IsWhole, NodesAreMembers, is_lost, lost}
use Rattle.cb_set.specs.Nodes.{OnDistinctNodes}
use Rattle.cb_set.specs.SetState.{SetState, parities}
use Rattle.cb_types.specs.declared.handle.SetId.{SetId}
use Rattle.cb_world.specs.FarState.{FarState}
use Rattle.cb_world.specs.Fetched.{with_rows_given}
use Rattle.cb_world.specs.Sets.{set_in}
use Rattle.cb_scrub_world.specs.declared.scrubbed.Scrubbed.{Scrubbed}
use Rattle.cb_scrub_world.specs.declared.scrubbed.Scrubbed.TheVariants.{Done, Skipped, Set}
use Rattle.cb_scrub_world.specs.Next.{IsNextSet, AreNone}
use Rattle.cb_scrub_world.specs.Standing.{RowStands, rows_of}

-- what a committed set has to be: of a code that is built, its shards on different nodes, and each
-- that is not lost with its row at its node; the rows need not be those of a code word
pub record MayScrubSet (nodes : NodesState) (m : Membership) (set : SetState) : Type 0 where
  pub range : IsInRange (length set.positions) (parities set)
  pub members : NodesAreMembers m set.shards
  pub distinct : OnDistinctNodes set.shards
  pub standing : All (λ shard. is_lost m shard ≡ false → RowStands nodes set.pages shard) set.shards

-- each committed set is so, and there is room for the count of the rows given
pub record MayScrub (far : FarState) : Type 0 where
  pub sets : (id : ℕ) (set : SetState) → set_in far.sets id ≡ Some set
      → MayScrubSet far.nodes far.members set
  pub given : far.nodes.given < 2 ^ 62

-- the sum of all other rows stands in place of the row of a position
abbrev pub Replaces : NodesState → SetState → List (List ℕ) → ℕ → NodesState → Type 0
Replaces old set rows position new =
    (shard : Shard) × (slice_get set.shards position ≡ Some shard)
    × (new ≡ with_row old shard.node shard.key (row_of_others rows position))

-- The nodes after an examination: all rows were given out, and where one row alone was wrong, the
-- sum of all others stands in its place.
abbrev pub LeavesNodes : NodesState → SetState → Found → NodesState → Type 0
LeavesNodes old set Clean new = new ≡ with_rows_given old (length set.shards)
LeavesNodes old set (One position) new =
    Replaces (with_rows_given old (length set.shards)) set (rows_of old set.shards) position new
LeavesNodes old set (Many power column sum) new = new ≡ with_rows_given old (length set.shards)

-- the rows of the set are examined
pub record IsExamined (old : NodesState) (set : SetState) (found : Found) (new : NodesState)
    : Type 0
  where
    pub is_found : IsFinding (parities set) (rows_of old set.shards) found
    pub leaves : LeavesNodes old set found new

-- the rows afterwards: a code word where there was one, or where one row alone was wrong, and then
-- it differs in that row alone; else as they were
abbrev pub AreRight : ℕ → List (List ℕ) → Found → List (List ℕ) → Type 0
AreRight r before Clean after = IsWord r after × (after ≡ before)
AreRight r before (One position) after = IsWordBut r before position after
AreRight r before (Many power column sum) after = after ≡ before

-- the rows are right afterwards, and where they differed from some word in one row at the most,
-- they are that word
pub record MakesRight (r : ℕ) (before : List (List ℕ)) (found : Found) (after : List (List ℕ))
    : Type 0 where
  pub right : AreRight r before found after
  pub near : (position : ℕ) (word : List (List ℕ)) → 2 ≤ r → IsWordBut r before position word
      → after ≡ word

-- the far state with other nodes
abbrev pub with_nodes : FarState → NodesState → FarState
with_nodes far nodes = record far { nodes = nodes }

-- the next set is one of which nothing is lost, and it is examined
pub record Examines (after : Option SetId) (far : FarState) (id : ℕ) (found : Found) (new : FarState)
    : Type 0 where
  pub next : IsNextSet after far.sets id
  pub set : SetState
  pub is_set : set_in far.sets id ≡ Some set
  pub whole : IsWhole far.members set
  pub examined : IsExamined far.nodes set found new.nodes
  pub others : new ≡ with_nodes far new.nodes

-- the next set is one that has lost so many shards, and nothing changes
pub record Skips (after : Option SetId) (far : FarState) (id count : ℕ) (new : FarState) : Type 0
  where
    pub next : IsNextSet after far.sets id
    pub set : SetState
    pub is_set : set_in far.sets id ≡ Some set
    pub counted : count ≡ length (lost far.members set.shards)
    pub some : 0 < count
    pub same : new ≡ far

-- what a scrub of the next set answers and does
abbrev pub Scrubs : Option SetId → FarState → Scrubbed → FarState → Type 0
Scrubs after far Done new = AreNone after far.sets × (new ≡ far)
Scrubs after far (Skipped set count) new = Skips after far set.n count new
Scrubs after far (Set set found) new = Examines after far set.n found new

-- the rows of the set that was examined are right afterwards
abbrev pub KeepsWord : FarState → Scrubbed → FarState → Type 0
KeepsWord far (Set id found) new =
    (set : SetState) → set_in far.sets id.n ≡ Some set
    → MakesRight (parities set) (rows_of far.nodes set.shards) found (rows_of new.nodes set.shards)
KeepsWord far _ new = Unit {0}
