use Rattle.std.proofs.Common.{◌<◌, [], length, ap, ◌∙◌, rules}
use Rattle.cb_gf256.proofs.PublicLaws.{written_count, written_lengths}
use Rattle.cb_low_tests.proofs.codes.present_rows.Goals as goal

pub loop-p-preserved : goal.loop-p-preserved
loop-p-preserved g c =
    let rows = c.loop-p.rows in
    let i = c.from.result in
    let within : i < length rows = search rules in (
      written_count rows i c.xor_row.new.dst ∙ c.loop-p.invariant.0,
      written_lengths 94 rows i c.xor_row.new.dst c.loop-p.invariant.1 (c.xor_row.auto.dst ∙ ap length c.row_mut.ensures.value ∙ c.loop-p.invariant.1 i [] within) within,
    )
