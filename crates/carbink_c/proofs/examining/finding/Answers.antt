use Rattle.std.proofs.Common.{◌+◌, length, ap, ◌∙◌, arith}
use Rattle.cb_gf256.specs.Block.{cut_rows}
use Rattle.carbink_c.proofs.Cutting.{are_bytes, cut_count}
use Rattle.carbink_c.proofs.Making.{clean_found, found_by}
use Rattle.carbink_c.proofs.examining.finding.Goals as goal

pub returns-then-branch : goal.returns-then-branch
returns-then-branch c =
    clean_found c.args.k c.args.r c.args.len c.args.rows.now c.requires.in_range c.requires.size (are_bytes c.args.rows.now (λ i. (c.type_inv.rows i).fits))
    (c.in_ok-are_word.ensures.0 c.if-branch.true)

pub examine-requires-clause-rows : goal.examine-requires-clause-rows
examine-requires-clause-rows c =
    let n = c.args.k + c.args.r in
    let range = c.requires.in_range in
    let count = ap length c.in_ok-copied.ensures.value ∙ cut_count n c.args.len c.args.rows.now in
    (omega (arith, count, range.data_least), omega (arith, count, range.data_most, range.parities_most))

pub returns : goal.returns
returns c =
    found_by c.args.r (cut_rows (c.args.k + c.args.r) c.args.len c.args.rows.now) c.in_ok-copied.copied c.examine.result c.in_ok-copied.ensures.value c.examine.ensures.found c.examine.ensures.only
    c.examine.ensures.near
