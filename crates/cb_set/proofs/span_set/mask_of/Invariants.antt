use Rattle.std.proofs.Common.{◌≡◌, take}
use Rattle.cb_set.specs.Matched.{live_mask}
use Rattle.cb_set.proofs.span_set.mask_of.Given as goal

abbrev pub invariant-loop-place : goal.invariant-loop-place
invariant-loop-place l = l.mask ≡ live_mask (take l.place l.positions)
