use Rattle.std.proofs.Common.{ℕ, List, length, take, get_or, sym, ap, ◌∙◌, subst}
use Rattle.std.proofs.lemmas.Option.{slice_get-get_or}
use Rattle.cb_world.specs.Fetched.{AreGiven, StandAt}
use Rattle.cb_world.proofs.FetchedRows.{in_order_given}
use Rattle.cb_world.proofs.Gathering.{first_survivors, survivors_stand}
use Rattle.cb_world.proofs.fetching.fetched.Goals as goal

pub survivors-present-requires-clause-nodes : goal.survivors-present-requires-clause-nodes
survivors-present-requires-clause-nodes c k d l =
    (c.requires.shaped.current k (get_or c.args.set.now.shards k d)
    (slice_get-get_or c.args.set.now.shards k d l)).0

pub give_in_order-requires-clause-there : goal.give_in_order-requires-clause-there
give_in_order-requires-clause-there c =
    let m = c.args.members.now in let set = c.args.set.now in
    let e = ap (λ (k : ℕ). take k c.survivors-present.result) c.k-k.ensures.count
    ∙ first_survivors m set c.survivors-present.result c.requires.shaped c.requires.few
    c.survivors-present.ensures.positions in (
      c.requires.word.0,
      subst (StandAt set.pages c.args.nodes.now set.shards c.requires.word.0) (sym e)
          (survivors_stand c.args.nodes.now m set c.requires.word.0 (length set.positions)
          c.requires.shaped c.requires.counted c.requires.word.1),
    )

pub returns-clause-present : goal.returns-clause-present
returns-clause-present c =
    c.copy_of.ensures.items ∙ ap (λ (k : ℕ). take k c.survivors-present.result) c.k-k.ensures.count
    ∙ first_survivors c.args.members.now c.args.set.now c.survivors-present.result
    c.requires.shaped c.requires.few c.survivors-present.ensures.positions

pub returns-clause-rows : goal.returns-clause-rows
returns-clause-rows c =
    let m = c.args.members.now in let set = c.args.set.now in
    let e = ap (λ (k : ℕ). take k c.survivors-present.result) c.k-k.ensures.count
    ∙ first_survivors m set c.survivors-present.result c.requires.shaped c.requires.few
    c.survivors-present.ensures.positions in
    let rows = c.requires.word.0 in
    let there : StandAt set.pages c.args.nodes.now set.shards rows
    (take c.k-k.result c.survivors-present.result) =
    subst (StandAt set.pages c.args.nodes.now set.shards rows) (sym e)
    (survivors_stand c.args.nodes.now m set rows (length set.positions)
    c.requires.shaped c.requires.counted c.requires.word.1) in
    subst (λ (p : List ℕ).
    AreGiven c.args.nodes.now c.args.set.now.shards p c.give_in_order.new.table)
    (sym c.copy_of.ensures.items)
    (in_order_given c.args.set.now.pages c.args.nodes.now c.args.set.now.shards
    (take c.k-k.result c.survivors-present.result) rows c.give_in_order.new.table there
    c.give_in_order.ensures.count (c.give_in_order.ensures.rows rows there))
