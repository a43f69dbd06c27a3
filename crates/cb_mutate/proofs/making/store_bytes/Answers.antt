use Rattle.std.proofs.Common.{ℕ, ◌+◌, ◌*◌, ◌<◌, List, [], ◌∷◌, ◌++◌, length, sym, subst, arith}
use Rattle.cb_types.specs.declared.config.Config.{Config}
use Rattle.cb_types.specs.declared.config.Field.TheVariants.{Frames}
use Rattle.cb_world.specs.declared.access.Access.{Access}
use Rattle.cb_world.specs.declared.access.Access.TheVariants.{Stored}
use Rattle.cb_world.specs.Memory.{words_for}
use Rattle.cb_world.specs.Played.{played}
use Rattle.cb_mutate.specs.Stores.{stores_from}
use Rattle.cb_mutate.proofs.Bytes.{owns_here}
use Rattle.cb_mutate.proofs.Packing.{words_none, words_more, words_all}
use Rattle.cb_mutate.proofs.NewObject.{stores_then, stores_played}
use Rattle.cb_mutate.proofs.making.store_bytes.Goals as goal

pub loop-i-init : goal.loop-i-init
loop-i-init g c = ([], words_none c.args.bytes.now, g.met.D.Desk.none _)

pub overflow_add-place : goal.overflow_add-place
overflow_add-place g c = omega (
  arith,
  (c.requires.config Frames).1,
  c.loop-i-test.true,
  c.div_ceil-count.ensures,
  c.requires.memory,
)

pub store-requires-clause-place : goal.store-requires-clause-place
store-requires-clause-place g c =
    subst (λ (q : Config). c.args.place + c.loop-i.i < 512 * q.frames)
    (sym (g.met.D.Desk.stays _ _ _ c.loop-i.invariant.2))
    (omega (arith, c.loop-i-test.true, c.div_ceil-count.ensures, c.requires.memory))

pub store-requires-clause-owned : goal.store-requires-clause-owned
store-requires-clause-owned g c =
    let inv = c.loop-i.invariant in let had = c.requires.owned in
    let es = stores_from c.args.place inv.0 in
    let below : c.loop-i.i < words_for (length c.args.bytes.now) =
    omega (arith, c.loop-i-test.true, c.div_ceil-count.ensures) in (
      played es had.0,
      (g.met.D.Desk.follows _ _ es had.0 inv.2 had.1).1,
      owns_here had.0 (played es had.0) c.args.place (length c.args.bytes.now) c.loop-i.i inv.0
          (stores_played c.args.place inv.0 had.0) had.2 below,
    )

pub loop-i-preserved : goal.loop-i-preserved
loop-i-preserved g c =
    let inv = c.loop-i.invariant in let x = c.word_at.result in (
      inv.0 ++ x ∷ [],
      words_more c.args.bytes.now inv.0 c.loop-i.i x inv.1 c.word_at.ensures c.word_at.type_inv,
      subst (λ (es : List Access). g.D.Desk.run c.args.desk.now es c.store.new.self)
          (stores_then c.args.place inv.0 x)
          (g.met.D.Desk.more _ _ _ _ _ inv.2
          (subst (λ (n : ℕ). g.D.Desk.run c.loop-i.desk
          (Stored (c.args.place + n) x ∷ []) c.store.new.self) (sym inv.1.count)
          c.store.ensures)),
    )

pub returns : goal.returns
returns g c =
    let inv = c.loop-i.invariant in (
      inv.0,
      words_all c.args.bytes.now inv.0 c.loop-i.i
          (omega (arith, c.loop-i-test.false, c.loop-i.auto.i-end, c.div_ceil-count.ensures)) inv.1,
      inv.2,
    )
