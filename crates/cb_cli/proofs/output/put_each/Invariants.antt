use Rattle.std.proofs.Common.{◌≡◌, take}
use Rattle.std.specs.Io.KnownBytes.{Appends}
use Rattle.cb_cli.specs.Pieces.{joined_pieces}
use Rattle.cb_cli.proofs.output.put_each.Given as goal

-- the sink holds the pieces so far behind what it held, and no put has failed
abbrev pub invariant-loop-piece : goal.invariant-loop-piece
invariant-loop-piece g l =
    let sink = g.K.Sink in
    record {
      front : Appends (sink.held l.fn.sink) (sink.held l.sink) (joined_pieces (take l.piece-index l.pieces));
      no_fault : sink.faults l.sink ≡ sink.faults l.fn.sink;
    }
