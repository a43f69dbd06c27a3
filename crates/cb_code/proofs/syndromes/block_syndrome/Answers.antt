use Rattle.std.proofs.Common.{◌≡◌, ◌+◌, ◌-◌, length, get_or, refl, ap, ◌∙◌, arith}
use Rattle.std.proofs.lemmas.Simd.{get_or-replicate}
use Rattle.cb_gf256.specs.Rows.{byte_at}
use Rattle.cb_code.proofs.Horner.{block_more, all_of_last}
use Rattle.cb_code.proofs.syndromes.block_syndrome.Goals as goal

pub loop-i-init : goal.loop-i-init
loop-i-init c = record { count = refl; each = λ l h. get_or-replicate 64 l 0 0 h }

pub loop-i-preserved : goal.loop-i-preserved
loop-i-preserved c =
    let rows = c.args.rows.now in
    let i = c.loop-i.i in
    let all : c.count-count.result ≡ length rows = c.count-count.ensures in
    block_more i c.args.factor.now c.args.at c.args.len rows c.loop-i.sum c.times_block.result c.block_at.result c.add_blocks-sum.result c.requires.byte (omega arith) c.row-row.ensures.rows.bytes
    c.requires.lengths c.requires.inside c.loop-i.invariant c.times_block.ensures
    (record {
      count = c.block_at.ensures.count;
      each = λ l h.
          c.block_at.ensures.each l h
          ∙ ap (λ row. get_or row (c.args.at + l) 0) c.row-row.ensures.value
          ∙ ap (λ n. byte_at rows (n - 1 - i) (c.args.at + l)) all;
    })
    c.add_blocks-sum.ensures

pub returns : goal.returns
returns c j e =
    let all : c.loop-i.i ≡ length c.args.rows.now = omega (arith, c.count-count.ensures) in
    record {
      count = c.loop-i.invariant.count;
      each = λ l h. c.loop-i.invariant.each l h ∙ all_of_last c.loop-i.i j c.args.factor.now c.args.rows.now (c.args.at + l) all e;
    }
