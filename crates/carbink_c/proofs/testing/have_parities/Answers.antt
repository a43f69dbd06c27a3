use Rattle.std.proofs.Common.{◌≡◌, ◌*◌, length, take, drop, sym, ap, ◌∙◌}
use Rattle.cb_gf256.specs.Block.{cut_rows}
use Rattle.carbink_c.proofs.Cutting.{are_bytes, front_sized, behind_sized}
use Rattle.carbink_c.proofs.Making.{table_wide, made_lengths, word_told}
use Rattle.carbink_c.proofs.testing.have_parities.Goals as goal

pub encode_borrowed-requires : goal.encode_borrowed-requires
encode_borrowed-requires c = table_wide c.args.k c.args.r c.args.len c.split_at.result.0.now c.coefficients.result c.of-given.result c.of-given.ensures c.coefficients.ensures

pub same_rows-requires-clause-lengths : goal.same_rows-requires-clause-lengths
same_rows-requires-clause-lengths c =
    let k = c.args.k in
    let len = c.args.len in
    let front = c.split_at.ensures.front ∙ ap (λ n. take n c.args.rows.now) c.size_of_rows.ensures in
    made_lengths k c.args.r len (take (k * len) c.args.rows.now) c.coefficients.result c.of-given.result c.in_ok-parities.parities (record {
      in_range = c.requires.in_range;
      sized = front_sized k c.args.r len c.args.rows.now c.requires.size;
      are = c.of-given.ensures ∙ ap (cut_rows k len) front;
      code = c.coefficients.ensures;
      sums = c.in_ok-parities.ensures.sums;
    })

pub same_rows-requires-clause-size : goal.same_rows-requires-clause-size
same_rows-requires-clause-size c =
    let k = c.args.k in
    let len = c.args.len in
    let count : length c.in_ok-parities.parities ≡ c.args.r = c.in_ok-parities.ensures.sums.count ∙ c.coefficients.ensures.parities in
    ap length (c.split_at.ensures.back ∙ ap (λ n. drop n c.args.rows.now) c.size_of_rows.ensures) ∙ behind_sized k c.args.r len c.args.rows.now c.requires.size
    ∙ ap (λ n. n * len) (sym count)

pub returns : goal.returns
returns c =
    let k = c.args.k in
    let len = c.args.len in
    let front = c.split_at.ensures.front ∙ ap (λ n. take n c.args.rows.now) c.size_of_rows.ensures in
    word_told k c.args.r len c.args.rows.now c.coefficients.result c.of-given.result c.in_ok-parities.parities c.split_at.result.1.now c.same_rows.result
    (record {
      in_range = c.requires.in_range;
      sized = front_sized k c.args.r len c.args.rows.now c.requires.size;
      are = c.of-given.ensures ∙ ap (cut_rows k len) front;
      code = c.coefficients.ensures;
      sums = c.in_ok-parities.ensures.sums;
    })
    c.in_ok-parities.ensures.word c.in_ok-parities.ensures.only (c.split_at.ensures.back ∙ ap (λ n. drop n c.args.rows.now) c.size_of_rows.ensures)
    (are_bytes c.args.rows.now (λ i. (c.type_inv.rows i).fits)) c.same_rows.ensures
