use Rattle.std.proofs.Common.{◌≡◌, ◌<◌, true, List, length, set, sym, ap, ◌∙◌, arith}
use Rattle.std.specs.FinMap as map
use Rattle.cb_member.specs.declared.names.Shard.{Shard}
use Rattle.cb_world.specs.Reserved.{put_shards}
use Rattle.cb_world.specs.Sets.{Kept}
use Rattle.cb_world.proofs.Laws.{kept_same}
use Rattle.cb_evict.specs.Committing.{with_shards}
use Rattle.cb_evict.proofs.NamesShards.{insert_over, named_none, named_more, named_all}
use Rattle.cb_evict.proofs.committing.commit_set.Goals as goal

pub loop-p-init : goal.loop-p-init
loop-p-init c = λ kept at.
    (kept.set.shards, named_none c.args.sets.now c.args.id kept c.args.shards.now at)

pub name_shard-requires : goal.name_shard-requires
name_shard-requires c =
    let r = c.requires.kept in
    let inv = c.loop-p.invariant r.kept r.there in record {
      kept = (
        with_shards r.kept inv.0,
        inv.1.there,
        omega (arith, inv.1.count, r.places, c.loop-p-test.true),
      );
    }

pub loop-p-preserved : goal.loop-p-preserved
loop-p-preserved c = λ kept at.
    let r = c.requires.kept in let p = c.loop-p.p in
    let inv = c.loop-p.invariant kept at in
    let s = c.requires.whole p c.loop-p-test.true in
    let same = kept_same kept r.kept (sym at ∙ r.there) in
    let within : p < length kept.set.shards =
    let n = ap (λ (k : Kept). length k.set.shards) same in
    omega (arith, n, r.places, c.loop-p-test.true) in (
      set inv.0 p s.0,
      named_more c.args.sets.now c.loop-p.sets c.name_shard.new.sets c.args.id kept
          c.args.shards.now p inv.0 s.0 inv.1 within s.1
          (c.name_shard.ensures.named (with_shards kept inv.0) s.0 inv.1.there s.1),
    )

pub returns : goal.returns
returns c = record {
  committed = λ kept at.
      let r = c.requires.kept in
      let inv = c.loop-p.invariant kept at in
      let same = kept_same kept r.kept (sym at ∙ r.there) in
      let n = ap (λ (k : Kept). length k.set.shards) same in
      let e : put_shards c.args.shards.now ≡ inv.0 =
      named_all c.args.shards.now inv.0 (omega (arith, n, r.places, inv.1.count))
      (λ q d less. inv.1.at q d (omega (arith, less, c.loop-p-test.false))) in
      c.commit.ensures.committed (with_shards kept inv.0) inv.1.there
      ∙ insert_over c.args.sets.now c.loop-p.sets c.args.id
      (record (with_shards kept inv.0) { committed = true }) inv.1.others
      ∙ ap (λ (l : List Shard). map.insert c.args.sets.now c.args.id
      (record (with_shards kept l) { committed = true })) (sym e);
}
