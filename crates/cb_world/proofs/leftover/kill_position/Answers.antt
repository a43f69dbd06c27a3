use Rattle.std.proofs.Common.{◌≡◌, ℕ, ◌<◌, Some, length, sym, ap, ◌∙◌, subst}
use Rattle.cb_set.specs.SetState.{SetState, dead_position, with_position}
use Rattle.cb_set.specs.Lost.{NodesAreMembers}
use Rattle.cb_world.specs.FarState.{FarState}
use Rattle.cb_world.specs.LeftOver.{with_left}
use Rattle.cb_world.specs.Sets.{set_in}
use Rattle.cb_world.specs.Stored.{AreThere}
use Rattle.cb_world.proofs.SetChanging.{is_kept, left_after, there_after}
use Rattle.cb_world.proofs.leftover.kill_position.Goals as goal

abbrev HasSet : FarState → ℕ → ℕ → Type 0
HasSet far id position = (set : SetState) × (set_in far.sets id ≡ Some set)
    × (position < length set.positions) × AreThere far.nodes set.shards
    × NodesAreMembers far.members set.shards

pub drop_if_dead-requires : goal.drop_if_dead-requires
drop_if_dead-requires c =
    let x = subst (λ (q : FarState). HasSet q c.args.id c.args.position) (sym c.far.view_is) c.requires.set in
    let rest = with_position x.0 c.args.position dead_position in
    let now = c.kill.ensures.killed _ (is_kept c.far.inside.sets c.args.id x.0 x.1) in record {
      set = (rest, there_after c.far.inside.sets c.kill.new.self c.args.id rest now, x.3, x.4);
    }

pub returns : goal.returns
returns c = λ set at.
    let rest = with_position set c.args.position dead_position in
    let there = ap (λ (q : FarState). set_in q.sets c.args.id) c.far.view_is ∙ at in
    let now = c.kill.ensures.killed _ (is_kept c.far.inside.sets c.args.id set there) in
    c.drop_if_dead.ensures rest (there_after c.far.inside.sets c.kill.new.self c.args.id rest now)
    ∙ left_after _ c.kill.new.self c.args.id rest now
    ∙ ap (λ (q : FarState). with_left q c.args.id rest) c.far.view_is
