-- Behind a scrub of the next set another can be made.
use Rattle.std.proofs.Common.{◌≡◌, ℕ, ◌+◌, ◌^◌, ◌<◌, ◌≤◌, List, length, get_or, All, Option, Result, Ok, Err, refl, sym, ap, ◌∙◌, subst, arith}
use Rattle.std.specs.Prelude.{IfOk, OnErr}
use Rattle.std.proofs.lemmas.List.{length-map}
use Rattle.std.proofs.lemmas.Option.{slice_get_within}
use Rattle.cb_member.specs.declared.names.Shard.{Shard}
use Rattle.cb_node.specs.NodesState.{NodesState, known_row}
use Rattle.cb_scrub.specs.declared.found.Found.{Found}
use Rattle.cb_scrub.specs.declared.found.Found.TheVariants.{Clean, One, Many}
use Rattle.cb_scrub.specs.Mended.{row_of_others}
use Rattle.cb_scrub.proofs.Laws.{mended_row}
use Rattle.cb_set.specs.SetState.{SetState}
use Rattle.cb_types.specs.declared.NoMemory.{NoMemory}
use Rattle.cb_types.specs.declared.handle.SetId.{SetId}
use Rattle.cb_world.specs.FarState.{FarState}
use Rattle.cb_world.specs.Fetched.{with_rows_given}
use Rattle.cb_scrub_world.specs.declared.scrubbed.Scrubbed.{Scrubbed}
use Rattle.cb_scrub_world.specs.declared.scrubbed.Scrubbed.TheVariants.{Done, Skipped, Set}
use Rattle.cb_scrub_world.specs.Scrub.{LeavesNodes, MayScrub, Scrubs}
use Rattle.cb_scrub_world.specs.Standing.{RowStands, rows_of}
use Rattle.cb_scrub_world.proofs.After.{mended_wide}
use Rattle.cb_scrub_world.proofs.Given.{stands_at}
use Rattle.cb_scrub_world.proofs.Scrubs.{all_stand}
use Rattle.cb_scrub_world.proofs.SoundScrub.{stands_with}

pub given_stands : {pages : ℕ} (old : NodesState) (n : ℕ) (shard : Shard) → RowStands old pages shard → RowStands (with_rows_given old n) pages shard
given_stands old n shard stands = record { node = stands.node; there = stands.there; wide = stands.wide }

-- each row still stands behind an examination
leaves_stand : (old new : NodesState) (set : SetState) (found : Found) (pages : ℕ) (shard : Shard) → All (RowStands old set.pages) set.shards → LeavesNodes old set found new → RowStands old pages shard
    → RowStands new pages shard
leaves_stand old new set Clean pages shard all leaves stands = subst (λ (n : NodesState). RowStands n pages shard) (sym leaves) (given_stands old (length set.shards) shard stands)
leaves_stand old new set (Many power column sum) pages shard all leaves stands = subst (λ (n : NodesState). RowStands n pages shard) (sym leaves) (given_stands old (length set.shards) shard stands)
leaves_stand old new set (One p) pages shard all leaves stands =
    let given : NodesState = with_rows_given old (length set.shards) in
    let rows : List (List ℕ) = rows_of old set.shards in
    let row : List ℕ = row_of_others rows p in
    let mine = stands_at old set.shards p leaves.0 all leaves.1 in
    let within : p < length set.shards = slice_get_within set.shards p leaves.0 leaves.1 in
    let inside : p < length rows = omega (arith, within, length-map set.shards (λ (s : Shard). known_row old s.node s.key)) in
    let long : length row ≡ length (known_row given leaves.0.node leaves.0.key) =
    sym (ap length (mended_row rows p inside)) ∙ mended_wide old set.shards p rows refl all within ∙ sym mine.wide in
    subst (λ (n : NodesState). RowStands n pages shard) (sym leaves.2) (stands_with given leaves.0.node leaves.0.key row shard mine.node long (given_stands old (length set.shards) shard stands))

leaves_given : (old new : NodesState) (set : SetState) (found : Found) → LeavesNodes old set found new → new.given ≡ old.given + length set.shards
leaves_given old new set Clean leaves = ap (λ (n : NodesState). n.given) leaves
leaves_given old new set (One p) leaves = ap (λ (n : NodesState). n.given) leaves.2
leaves_given old new set (Many power column sum) leaves = ap (λ (n : NodesState). n.given) leaves

-- whatever is answered, the next scrub can be made, as long as there is room for the count of rows
pub may_again : (after : Option SetId) (far new : FarState) (result : Result Scrubbed NoMemory) → MayScrub far → IfOk result (λ scrubbed. Scrubs after far scrubbed new) → OnErr result (new ≡ far)
    → new.nodes.given < 2 ^ 62 → MayScrub new
may_again after far new (Ok Done) may scrubs stays given = subst MayScrub (sym scrubs.1) may
may_again after far new (Ok (Skipped id count)) may scrubs stays given = subst MayScrub (sym scrubs.same) may
may_again after far new (Ok (Set id found)) may scrubs stays given =
    let all = all_stand far.nodes far.members scrubs.set (may.sets id.n scrubs.set scrubs.is_set) (ap length scrubs.whole) in
    subst MayScrub (sym scrubs.others)
    (record {
      sets = λ i set at.
          let was = may.sets i set at in
          record {
            range = was.range;
            members = was.members;
            distinct = was.distinct;
            standing = λ k d l kept. leaves_stand far.nodes new.nodes scrubs.set found set.pages (get_or set.shards k d) all scrubs.examined.leaves (was.standing k d l kept);
          };
      given = given;
    })
may_again after far new (Err e) may scrubs stays given = subst MayScrub (sym stays) may

-- and at most 20 rows were given out
pub few_given : (after : Option SetId) (far new : FarState) (result : Result Scrubbed NoMemory) → MayScrub far → IfOk result (λ scrubbed. Scrubs after far scrubbed new) → OnErr result (new ≡ far)
    → new.nodes.given ≤ far.nodes.given + 20
few_given after far new (Ok Done) may scrubs stays = omega (arith, ap (λ (f : FarState). f.nodes.given) scrubs.1)
few_given after far new (Ok (Skipped id count)) may scrubs stays = omega (arith, ap (λ (f : FarState). f.nodes.given) scrubs.same)
few_given after far new (Ok (Set id found)) may scrubs stays =
    let range = (may.sets id.n scrubs.set scrubs.is_set).range in
    omega (arith, leaves_given far.nodes new.nodes scrubs.set found scrubs.examined.leaves, range.data_most, range.parities_most)
few_given after far new (Err e) may scrubs stays = omega (arith, ap (λ (f : FarState). f.nodes.given) stays)
