use Rattle.std.proofs.Common.{sym, subst, arith}
use Rattle.cb_gf256.specs.Rows.{HoldBytes}
use Rattle.carbink_c.proofs.Cutting.{are_bytes, cut_bytes, rows_none, rows_more, rows_all}
use Rattle.carbink_c.proofs.buffers.rows_of.Goals as goal

pub loop-i-init : goal.loop-i-init
loop-i-init c = rows_none c.args.len c.args.count c.args.buffer.now c.in_ok-rows.rows c.in_ok-rows.ensures

pub loop-i-preserved : goal.loop-i-preserved
loop-i-preserved c =
    rows_more c.args.len c.args.count c.loop-i.i c.args.buffer.now c.loop-i.rows c.copy_from_slice.new.self c.loop-i-test.true c.requires c.copy_from_slice.ensures.after c.loop-i.invariant

pub returns-clause-value : goal.returns-clause-value
returns-clause-value c = rows_all c.args.len c.args.count c.loop-i.i c.args.buffer.now c.loop-i.rows (omega (arith, c.loop-i-test.false, c.loop-i.auto.i-end)) c.loop-i.invariant

pub returns-clause-bytes : goal.returns-clause-bytes
returns-clause-bytes c =
    subst HoldBytes (sym (returns-clause-value c)) (cut_bytes c.args.count c.args.len c.args.buffer.now (are_bytes c.args.buffer.now (λ i. (c.type_inv.buffer i).fits)))
