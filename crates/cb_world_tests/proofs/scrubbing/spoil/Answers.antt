use Rattle.std.proofs.Common.{ℕ, ◌<◌, ◌≤◌, length, sym, subst}
use Rattle.cb_node.specs.NodesState.{NodesState}
use Rattle.cb_world.specs.FarState.{FarState}
use Rattle.cb_world.specs.contracts.far.Far.{the_view}
use Rattle.cb_scrub_world.specs.Scrub.{MayScrub, with_nodes}
use Rattle.cb_scrub_world.specs.Spoilt.{IsSpoilt}
use Rattle.cb_scrub_world.specs.Standing.{RowStands}
use Rattle.cb_scrub_world.proofs.Laws.{spoilt_may_scrub}
use Rattle.cb_world_tests.specs.Shards.{IsFirstSets}
use Rattle.cb_world_tests.proofs.ScrubbedWorld.{has_bytes, row_is_spoilt}
use Rattle.cb_world_tests.proofs.scrubbing.spoil.Goals as goal

pub spoil-requires-clause-inside : goal.spoil-requires-clause-inside
spoil-requires-clause-inside c =
    let stands = subst (λ (f : FarState). (pages : ℕ) × (1 ≤ pages)
    × RowStands f.nodes pages c.in-Some.shard) (sym c.far.view_is) c.in-Some.ensures.stands in
    has_bytes _ stands.0 stands.1 stands.2.wide

pub returns-clause-may : goal.returns-clause-may
returns-clause-may c =
    let view = the_view c.far.inside in
    let shard = c.in-Some.shard in
    let within = subst (λ (f : FarState). shard.node.n < length f.nodes.nodes)
    (sym c.far.view_is) c.in-Some.ensures.stands.2.node in
    subst (λ (n : NodesState). MayScrub (with_nodes view n)) (sym c.spoil.ensures.after)
    (spoilt_may_scrub view shard.node shard.key 0 5 within
    (subst MayScrub (sym c.far.view_is) c.requires))

pub returns-clause-spoilt : goal.returns-clause-spoilt
returns-clause-spoilt c = λ yes.
    let view = the_view c.far.inside in
    let shard = c.in-Some.shard in
    let is = subst (λ (f : FarState). IsFirstSets f c.args.position shard)
    (sym c.far.view_is) c.in-Some.ensures.shard in
    subst (λ (f : FarState). IsSpoilt f 0 (with_nodes view c.spoil.new.self)) c.far.view_is
    (subst (λ (n : NodesState). IsSpoilt view 0 (with_nodes view n)) (sym c.spoil.ensures.after)
    (row_is_spoilt view c.args.position shard 0 5 is))
