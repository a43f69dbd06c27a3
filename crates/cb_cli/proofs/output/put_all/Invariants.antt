use Rattle.std.proofs.Common.{length, ◌-◌, ◌≡◌, ◌≤◌, take}
use Rattle.std.specs.Io.KnownBytes.{Appends}
use Rattle.cb_cli.proofs.output.put_all.Given as goal

-- the sink holds a front of the bytes behind what it held, and no put has failed
abbrev pub invariant-puts : goal.invariant-puts
invariant-puts g l =
    let sink = g.K.Sink in
    record {
      within : l.done ≤ length l.bytes;
      front : Appends (sink.held l.fn.sink) (sink.held l.sink) (take l.done l.bytes);
      no_fault : sink.faults l.sink ≡ sink.faults l.fn.sink;
    }

abbrev pub decreases-puts : goal.decreases-puts
decreases-puts g l = length l.bytes - l.done
