use Rattle.std.proofs.Common.{◌≡◌, ◌+◌, ℕ, ◌<◌, [], length, get_or, arith, ◌∙◌}
use Rattle.std.proofs.lemmas.List.{length-map, length-set}
use Rattle.std.proofs.lemmas.List.Elements.{All-set}
use Rattle.cb_gf256.specs.Rows.{byte_at}
use Rattle.cb_gf256.proofs.PublicLaws.{below_more_set}
use Rattle.cb_gf256.specs.Rows.{row_at, rows_at}
use Rattle.cb_gf256.specs.Corner.{corner}
use Rattle.cb_erase.proofs.Words.{AreRows-rows_at, HaveLength-rows_at}
use Rattle.cb_erase.proofs.Closings.{corner_closes}
use Rattle.cb_erase.proofs.restoring.restore_whole.Goals as goal

pub loop-j-preserved : goal.loop-j-preserved
loop-j-preserved c =
    let j = c.loop-j.j in
    let table = c.args.table.now in
    let row = c.set_products.new.products in
    let made = c.set_products.ensures in (
      length-set c.loop-j.products j row ∙ c.loop-j.invariant.0,
      All-set (λ x. length x ≡ 16) c.loop-j.products j row made.count c.loop-j.invariant.1,
      λ m i h k.
          below_more_set (λ x own. (y : ℕ) → y < length c.args.sources.now → get_or own y 0 ≡ byte_at table x y) c.loop-j.products j row [] (omega arith)
          (λ x p y q. c.loop-j.invariant.2 x y p q) (λ y q. made.factors y q) m h i k,
    )

pub returns-in-0 : goal.returns-in-0
returns-in-0 c =
    let table = c.args.table.now in
    let rows = c.args.rows.now in
    let sources = c.args.sources.now in
    let targets = c.args.targets.now in
    let k = length sources in
    let last : length targets ≡ 0 + 1 = omega (arith, c.requires.in_range.parities_least, c.requires.in_range.parities_most) in
    c.restore_blocks.ensures (corner k (length targets) table)
    (corner_closes k (length targets) 0 c.args.len (λ i. get_or sources i 0) (λ e. get_or targets e 0) table c.loop-j.products (rows_at rows sources) last c.requires.in_range c.requires.split c.requires.factors
    c.told-table c.requires.width (λ j i l h. c.loop-j.invariant.2 j i (omega (arith, last)) h)
    (length-map sources (row_at rows)) (AreRows-rows_at rows sources c.requires.sources c.requires.rows) (HaveLength-rows_at c.args.len rows sources c.requires.sources c.requires.lengths.0))

pub returns-in-1 : goal.returns-in-1
returns-in-1 c =
    let table = c.args.table.now in
    let rows = c.args.rows.now in
    let sources = c.args.sources.now in
    let targets = c.args.targets.now in
    let k = length sources in
    let last : length targets ≡ 1 + 1 = omega (arith, c.requires.in_range.parities_least, c.requires.in_range.parities_most) in
    c.restore_blocks-in-1.ensures (corner k (length targets) table)
    (corner_closes k (length targets) 1 c.args.len (λ i. get_or sources i 0) (λ e. get_or targets e 0) table c.loop-j.products (rows_at rows sources) last c.requires.in_range c.requires.split c.requires.factors
    c.told-table c.requires.width (λ j i l h. c.loop-j.invariant.2 j i (omega (arith, last)) h)
    (length-map sources (row_at rows)) (AreRows-rows_at rows sources c.requires.sources c.requires.rows) (HaveLength-rows_at c.args.len rows sources c.requires.sources c.requires.lengths.0))

pub returns-in-2 : goal.returns-in-2
returns-in-2 c =
    let table = c.args.table.now in
    let rows = c.args.rows.now in
    let sources = c.args.sources.now in
    let targets = c.args.targets.now in
    let k = length sources in
    let last : length targets ≡ 2 + 1 = omega (arith, c.requires.in_range.parities_least, c.requires.in_range.parities_most) in
    c.restore_blocks-in-2.ensures (corner k (length targets) table)
    (corner_closes k (length targets) 2 c.args.len (λ i. get_or sources i 0) (λ e. get_or targets e 0) table c.loop-j.products (rows_at rows sources) last c.requires.in_range c.requires.split c.requires.factors
    c.told-table c.requires.width (λ j i l h. c.loop-j.invariant.2 j i (omega (arith, last)) h)
    (length-map sources (row_at rows)) (AreRows-rows_at rows sources c.requires.sources c.requires.rows) (HaveLength-rows_at c.args.len rows sources c.requires.sources c.requires.lengths.0))

pub returns-in_default : goal.returns-in_default
returns-in_default c =
    let table = c.args.table.now in
    let rows = c.args.rows.now in
    let sources = c.args.sources.now in
    let targets = c.args.targets.now in
    let k = length sources in
    let last : length targets ≡ 3 + 1 = omega (arith, c.requires.in_range.parities_least, c.requires.in_range.parities_most) in
    c.restore_blocks-in_default.ensures (corner k (length targets) table)
    (corner_closes k (length targets) 3 c.args.len (λ i. get_or sources i 0) (λ e. get_or targets e 0) table c.loop-j.products (rows_at rows sources) last c.requires.in_range c.requires.split c.requires.factors
    c.told-table c.requires.width (λ j i l h. c.loop-j.invariant.2 j i (omega (arith, last)) h)
    (length-map sources (row_at rows)) (AreRows-rows_at rows sources c.requires.sources c.requires.rows) (HaveLength-rows_at c.args.len rows sources c.requires.sources c.requires.lengths.0))
