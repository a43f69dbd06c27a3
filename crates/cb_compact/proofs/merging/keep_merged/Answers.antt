use Rattle.std.proofs.Common.{◌≡◌, true, length, sym, ap, ◌∙◌, subst}
use Rattle.std.specs.FinMap as map
use Rattle.cb_set.specs.SetState.{SetState}
use Rattle.cb_world.specs.FarState.{FarState}
use Rattle.cb_world.specs.Joining.{JoiningState}
use Rattle.std.proofs.lemmas.Result.{on_ok_weaker}
use Rattle.cb_compact.specs.MergeStep.{merged_set}
use Rattle.cb_compact.specs.Merging.{AreSlotTables}
use Rattle.cb_compact.proofs.Committing.{ready_data, ready_shards, ready_steps, tables_a, tables_b}
use Rattle.cb_compact.proofs.Looked.{looked_some, looked_up}
use Rattle.cb_compact.proofs.Ready.{unwrapped}
use Rattle.cb_compact.proofs.merging.keep_merged.Goals as goal

pub unwrap-a-requires : goal.unwrap-a-requires
unwrap-a-requires c =
    let x = c.requires.ready in let v = c.far.view_is in
    let e : x.1 ≡ c.unwrap-pair.result.now = unwrapped c.as_ref.result c.unwrap-pair.result
    c.far.inside.joining x.1 c.as_ref.ensures.value c.unwrap-pair.ensures
    (ap (λ (f : FarState). f.joining) v ∙ x.4.fresh.was) in
    looked_some c.committed.result c.far.inside.sets c.args.far.now.sets c.pair.inside.a x.1.a x.2
    c.committed.ensures (ap (λ (f : FarState). f.sets) v)
    (ap (λ (q : JoiningState). q.a) (c.pair.view_is ∙ sym e)) x.4.fresh.a_stands.there

pub unwrap-b-requires : goal.unwrap-b-requires
unwrap-b-requires c =
    let x = c.requires.ready in let v = c.far.view_is in
    let e : x.1 ≡ c.unwrap-pair.result.now = unwrapped c.as_ref.result c.unwrap-pair.result
    c.far.inside.joining x.1 c.as_ref.ensures.value c.unwrap-pair.ensures
    (ap (λ (f : FarState). f.joining) v ∙ x.4.fresh.was) in
    looked_some c.committed-2.result c.far.inside.sets c.args.far.now.sets c.pair.inside.b x.1.b
    x.3
    c.committed-2.ensures (ap (λ (f : FarState). f.sets) v)
    (ap (λ (q : JoiningState). q.b) (c.pair.view_is ∙ sym e)) x.4.fresh.b_stands.there

pub merged-requires-clause-steps : goal.merged-requires-clause-steps
merged-requires-clause-steps c =
    let x = c.requires.ready in let v = c.far.view_is in
    let e : x.1 ≡ c.unwrap-pair.result.now = unwrapped c.as_ref.result c.unwrap-pair.result
    c.far.inside.joining x.1 c.as_ref.ensures.value c.unwrap-pair.ensures
    (ap (λ (f : FarState). f.joining) v ∙ x.4.fresh.was) in
    subst (λ (q : JoiningState). length q.steps ≡ length q.shards_a) e
    (ready_steps x.0 c.args.far.now x.1 x.2 x.3 x.4)

pub merged-requires-clause-in_a : goal.merged-requires-clause-in_a
merged-requires-clause-in_a c =
    let x = c.requires.ready in let v = c.far.view_is in
    let e : x.1 ≡ c.unwrap-pair.result.now = unwrapped c.as_ref.result c.unwrap-pair.result
    c.far.inside.joining x.1 c.as_ref.ensures.value c.unwrap-pair.ensures
    (ap (λ (f : FarState). f.joining) v ∙ x.4.fresh.was) in
    let a_is = looked_up c.committed.result c.unwrap-a.result c.far.inside.sets c.args.far.now.sets
    c.pair.inside.a x.1.a x.2 c.committed.ensures c.unwrap-a.ensures (ap (λ (f : FarState).
    f.sets) v)
    (ap (λ (q : JoiningState). q.a) (c.pair.view_is ∙ sym e)) x.4.fresh.a_stands.there in
    ap (λ (q : SetState). length q.shards) a_is ∙ ready_shards x.0 c.args.far.now x.1 x.2 x.3 x.4
    ∙ ap (λ (q : JoiningState). length q.shards_a) e

pub merged-requires-clause-in_b : goal.merged-requires-clause-in_b
merged-requires-clause-in_b c =
    let x = c.requires.ready in let v = c.far.view_is in
    let e : x.1 ≡ c.unwrap-pair.result.now = unwrapped c.as_ref.result c.unwrap-pair.result
    c.far.inside.joining x.1 c.as_ref.ensures.value c.unwrap-pair.ensures
    (ap (λ (f : FarState). f.joining) v ∙ x.4.fresh.was) in
    let a_is = looked_up c.committed.result c.unwrap-a.result c.far.inside.sets c.args.far.now.sets
    c.pair.inside.a x.1.a x.2 c.committed.ensures c.unwrap-a.ensures (ap (λ (f : FarState).
    f.sets) v)
    (ap (λ (q : JoiningState). q.a) (c.pair.view_is ∙ sym e)) x.4.fresh.a_stands.there in
    let b_is = looked_up c.committed-2.result c.unwrap-b.result c.far.inside.sets
    c.args.far.now.sets
    c.pair.inside.b x.1.b x.3 c.committed-2.ensures c.unwrap-b.ensures (ap (λ (f : FarState).
    f.sets) v)
    (ap (λ (q : JoiningState). q.b) (c.pair.view_is ∙ sym e)) x.4.fresh.b_stands.there in
    ap (λ (q : SetState). length q.positions) b_is ∙ ready_data x.0 c.args.far.now x.1 x.2 x.3 x.4
    ∙ sym (ap (λ (q : SetState). length q.positions) a_is)

pub merged-requires-clause-a_tables : goal.merged-requires-clause-a_tables
merged-requires-clause-a_tables c =
    let x = c.requires.ready in let v = c.far.view_is in
    let e : x.1 ≡ c.unwrap-pair.result.now = unwrapped c.as_ref.result c.unwrap-pair.result
    c.far.inside.joining x.1 c.as_ref.ensures.value c.unwrap-pair.ensures
    (ap (λ (f : FarState). f.joining) v ∙ x.4.fresh.was) in
    let a_is = looked_up c.committed.result c.unwrap-a.result c.far.inside.sets c.args.far.now.sets
    c.pair.inside.a x.1.a x.2 c.committed.ensures c.unwrap-a.ensures (ap (λ (f : FarState).
    f.sets) v)
    (ap (λ (q : JoiningState). q.a) (c.pair.view_is ∙ sym e)) x.4.fresh.a_stands.there in
    subst AreSlotTables (sym a_is) (tables_a x.0 c.args.far.now x.1 x.2 x.3 x.4)

pub merged-requires-clause-b_tables : goal.merged-requires-clause-b_tables
merged-requires-clause-b_tables c =
    let x = c.requires.ready in let v = c.far.view_is in
    let e : x.1 ≡ c.unwrap-pair.result.now = unwrapped c.as_ref.result c.unwrap-pair.result
    c.far.inside.joining x.1 c.as_ref.ensures.value c.unwrap-pair.ensures
    (ap (λ (f : FarState). f.joining) v ∙ x.4.fresh.was) in
    let b_is = looked_up c.committed-2.result c.unwrap-b.result c.far.inside.sets
    c.args.far.now.sets
    c.pair.inside.b x.1.b x.3 c.committed-2.ensures c.unwrap-b.ensures (ap (λ (f : FarState).
    f.sets) v)
    (ap (λ (q : JoiningState). q.b) (c.pair.view_is ∙ sym e)) x.4.fresh.b_stands.there in
    subst AreSlotTables (sym b_is) (tables_b x.0 c.args.far.now x.1 x.2 x.3 x.4)

pub returns-clause-kept : goal.returns-clause-kept
returns-clause-kept c =
    on_ok_weaker c.put.result (λ ok pair a b fresh.
    let v = c.far.view_is in
    let e : pair ≡ c.unwrap-pair.result.now = unwrapped c.as_ref.result c.unwrap-pair.result
    c.far.inside.joining pair c.as_ref.ensures.value c.unwrap-pair.ensures
    (ap (λ (f : FarState). f.joining) v ∙ fresh.was) in
    let a_is = looked_up c.committed.result c.unwrap-a.result c.far.inside.sets c.args.far.now.sets
    c.pair.inside.a pair.a a c.committed.ensures c.unwrap-a.ensures (ap (λ (f : FarState).
    f.sets) v)
    (ap (λ (q : JoiningState). q.a) (c.pair.view_is ∙ sym e)) fresh.a_stands.there in
    let b_is = looked_up c.committed-2.result c.unwrap-b.result c.far.inside.sets
    c.args.far.now.sets c.pair.inside.b pair.b b c.committed-2.ensures c.unwrap-b.ensures
    (ap (λ (f : FarState). f.sets) v)
    (ap (λ (q : JoiningState). q.b) (c.pair.view_is ∙ sym e)) fresh.b_stands.there in
    let made = c.in_ok-set.ensures
    ∙ (λ i. merged_set c.args.id (sym e i) (a_is i) (b_is i)) in
    let sets = ok ∙ (λ i. map.insert (v i).sets c.args.id (record {
      set = made i;
      committed =
          true;
    })) in
    λ i. record (v i) { sets = sets i }) c.put.ensures.ok
