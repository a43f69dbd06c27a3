use Rattle.std.proofs.Common.{◌≡◌, ℕ, ◌<◌, [], length, get_or, arith, ◌∙◌}
use Rattle.std.proofs.lemmas.List.{length-set}
use Rattle.std.proofs.lemmas.List.Elements.{All-set}
use Rattle.cb_gf256.specs.Rows.{byte_at}
use Rattle.cb_gf256.proofs.Writes.{below_more_set}
use Rattle.cb_gf256.proofs.CornerLemmas.{same_corner}
use Rattle.cb_gf256.proofs.factors.Factors.of_table.Goals as goal

pub loop-j-preserved : goal.loop-j-preserved
loop-j-preserved c =
    let j = c.loop-j.j in
    let table = c.args.table.now in
    let made = c.set_products.ensures in (
      length-set c.loop-j.products j c.set_products.new.products ∙ c.loop-j.invariant.0,
      All-set (λ row. length row ≡ 16) c.loop-j.products j c.set_products.new.products made.count c.loop-j.invariant.1,
      λ m i h k.
          below_more_set (λ x row. (y : ℕ) → y < c.args.width → get_or row y 0 ≡ byte_at table x y) c.loop-j.products j c.set_products.new.products [] (omega arith)
          (λ x p y q. c.loop-j.invariant.2 x y p q) (λ y q. made.factors y q) m h i k,
    )

pub are_closed-closed-requires : goal.are_closed-closed-requires
are_closed-closed-requires c = record {
  width = c.requires.places;
  height = c.requires.rows;
  rows = c.loop-j.invariant.0;
  places = c.loop-j.invariant.1;
}

pub invariant_of-result : goal.invariant_of-result
invariant_of-result c = (
  record {
    width = c.requires.places;
    height = c.requires.rows;
    rows = c.loop-j.invariant.0;
    places = c.loop-j.invariant.1;
  },
  c.are_closed-closed.ensures,
)

pub returns : goal.returns
returns c =
    same_corner c.args.width c.args.height 16 c.loop-j.products c.args.table.now c.requires.places (omega (arith, c.loop-j.invariant.0, c.requires.rows)) (omega (arith, c.told-table, c.requires.rows))
    c.loop-j.invariant.1 c.requires.sized (λ j i h k. c.loop-j.invariant.2 j i (omega arith) k)
