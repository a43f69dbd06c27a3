use Rattle.cb_lanes.proofs.NamesAmong.{KeepsFirst}
use Rattle.cb_lanes.proofs.body.keep_names.Given as goal

-- the handles of the names so far are kept
abbrev pub invariant-loop-named : goal.invariant-loop-named
invariant-loop-named l = KeepsFirst l.kept l.names l.named-index
