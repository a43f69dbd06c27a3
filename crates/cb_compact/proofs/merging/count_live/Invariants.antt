use Rattle.std.proofs.Common.{◌≡◌, ◌≤◌, count_by, take}
use Rattle.cb_set.specs.SetState.{live_at}
use Rattle.cb_compact.proofs.merging.count_live.Given as goal

abbrev pub invariant-loop-position : goal.invariant-loop-position
invariant-loop-position l = record {
  counted : l.count ≡ count_by (live_at l.set) (take l.position-index l.taken);
  few : l.count ≤ l.position-index;
}
