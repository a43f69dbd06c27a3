use Rattle.std.proofs.Common.{length, replicate, ap, ◌∙◌}
use Rattle.std.proofs.lemmas.List.{length-replicate}
use Rattle.cb_gf256.proofs.PublicLaws.{written_count}
use Rattle.cb_bench.proofs.varied_rows.Goals as goal

pub loop-i-init : goal.loop-i-init
loop-i-init c = ap length c.in_ok-rows.ensures ∙ length-replicate c.args.count (replicate 4096 0)

pub loop-i-preserved : goal.loop-i-preserved
loop-i-preserved c = written_count c.loop-i.rows c.loop-i.i c.fill-seed.new.row ∙ c.loop-i.invariant
