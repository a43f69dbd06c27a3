use Rattle.std.proofs.Common.{◌≡◌, ◌<◌, [], length, replicate, refl, sym, ap, subst, ◌∙◌, arith}
use Rattle.std.proofs.lemmas.List.{length-replicate}
use Rattle.std.proofs.lemmas.List.Elements.{All-replicate}
use Rattle.cb_gf256.specs.Rows.{HaveLength}
use Rattle.cb_gf256.proofs.PublicLaws.{written_count, written_lengths}
use Rattle.cb_low_tests.proofs.codes.column_of.Goals as goal

pub loop-i-init : goal.loop-i-init
loop-i-init c =
    let n = length c.args.bytes.now in
    subst (λ rows. (length rows ≡ n) × HaveLength 64 rows) (sym c.in_ok-rows.ensures)
    (length-replicate n (replicate 64 0), All-replicate (λ row. length row ≡ 64) n (replicate 64 0) refl)

pub xor_row-requires : goal.xor_row-requires
xor_row-requires c = ap length c.row_mut.ensures.value ∙ c.loop-i.invariant.1 c.loop-i.i [] (omega (arith, c.loop-i.invariant.0))

pub loop-i-preserved : goal.loop-i-preserved
loop-i-preserved c =
    let rows = c.loop-i.rows in
    let i = c.loop-i.i in
    let within : i < length rows = omega (arith, c.loop-i.invariant.0) in (
      written_count rows i c.xor_row.new.dst ∙ c.loop-i.invariant.0,
      written_lengths 64 rows i c.xor_row.new.dst c.loop-i.invariant.1 (c.xor_row.auto.dst ∙ ap length c.row_mut.ensures.value ∙ c.loop-i.invariant.1 i [] within) within,
    )
