use Rattle.std.proofs.Common.{refl, arith}
use Rattle.carbink_c.proofs.Losses.{put_all, put_more, rows_long}
use Rattle.carbink_c.proofs.telling.put_losses.Goals as goal

pub slice_bounds-put_loss-end : goal.slice_bounds-put_loss-end
slice_bounds-put_loss-end c = omega (arith, rows_long c.args.lost.now, c.requires.fits, c.loop-i-test.true, c.loop-i.invariant.sized)

pub loop-i-init : goal.loop-i-init
loop-i-init c = record { sized = refl; front = refl; behind = refl }

pub loop-i-preserved : goal.loop-i-preserved
loop-i-preserved c =
    put_more c.loop-i.i _ c.args.lost.now c.args.room.now c.loop-i.room c.put_loss.new.row _ (omega (arith, c.loop-i-test.true)) (omega (arith, rows_long c.args.lost.now, c.requires.fits))
    c.put_loss.ensures (omega arith) c.loop-i.invariant

pub returns : goal.returns
returns c = put_all c.loop-i.i c.args.lost.now c.args.room.now c.loop-i.room (omega (arith, c.loop-i-test.false, c.loop-i.auto.i-end)) c.loop-i.invariant
