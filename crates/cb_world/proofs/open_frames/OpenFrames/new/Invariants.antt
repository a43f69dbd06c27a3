use Rattle.std.proofs.Common.{◌≡◌, replicate}
use Rattle.cb_frame.specs.FrameSet.{no_frames}
use Rattle.cb_world.proofs.open_frames.OpenFrames.new.Given as goal

abbrev pub invariant-loop : goal.invariant-loop
invariant-loop l = l.sets.items ≡ replicate l.counter (no_frames l.count)
