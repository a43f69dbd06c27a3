use Rattle.std.proofs.Common.{ℕ, ◌+◌, sym, subst, arith}
use Rattle.cb_compact.specs.Merging.{IsFilledBelow}
use Rattle.cb_compact.proofs.Merged.{none_filled, one_filled}
use Rattle.cb_compact.proofs.merging.fill_positions.Goals as goal

pub loop-position-init : goal.loop-position-init
loop-position-init c = none_filled c.args.a.now c.args.b.now c.args.set.now c.requires.here

pub fill_position-requires-clause-here : goal.fill_position-requires-clause-here
fill_position-requires-clause-here c =
    let l = c.loop-position-test.true in let n = c.k-position-end.ensures.count in
    let m = c.loop-position.invariant.count in omega (arith, l, n, m)

pub fill_position-requires-clause-in_a : goal.fill_position-requires-clause-in_a
fill_position-requires-clause-in_a c =
    let l = c.loop-position-test.true in let n = c.k-position-end.ensures.count in omega (
      arith,
      l,
      n,
    )

pub fill_position-requires-clause-in_b : goal.fill_position-requires-clause-in_b
fill_position-requires-clause-in_b c =
    let l = c.loop-position-test.true in let n = c.k-position-end.ensures.count in
    let m = c.requires.in_b in omega (arith, l, n, m)

pub fill_position-requires-clause-a_tables : goal.fill_position-requires-clause-a_tables
fill_position-requires-clause-a_tables c = c.requires.a_tables

pub fill_position-requires-clause-b_tables : goal.fill_position-requires-clause-b_tables
fill_position-requires-clause-b_tables c = c.requires.b_tables

pub loop-position-preserved : goal.loop-position-preserved
loop-position-preserved c =
    let set = c.args.set.now in let a = c.args.a.now in let b = c.args.b.now in
    let n = c.loop-position.position in
    subst (IsFilledBelow set.id set.pages set.shards a b (n + 1))
    (sym c.in_ok-fill_position.ensures)
    (one_filled set.id set.pages set.shards a b c.loop-position.set n c.loop-position.invariant
    (let l = c.loop-position-test.true in let m = c.k-position-end.ensures.count in omega (
      arith,
      l,
      m,
    )))

pub returns : goal.returns
returns c =
    let set = c.args.set.now in let a = c.args.a.now in let b = c.args.b.now in
    subst (λ (n : ℕ). IsFilledBelow set.id set.pages set.shards a b n c.loop-position.set)
    (let l = c.loop-position-test.false in let m = c.k-position-end.ensures.count in
    let e = c.loop-position.auto.position-end in omega (arith, l, m, e)) c.loop-position.invariant
