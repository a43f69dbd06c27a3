use Rattle.std.proofs.Common.{◌≡◌, length}
use Rattle.cb_gen.specs.Drawn.{drawn_lines}
use Rattle.cb_gen.specs.Noted.{AreLengthsNoted}
use Rattle.cb_gen.proofs.make.make_script.Given as goal

-- so many lines were drawn
abbrev pub invariant-loop-line : goal.invariant-loop-line
invariant-loop-line l =
    record {
      lines : record { lines = l.drawn; left = l.draws.state } ≡ drawn_lines l.fn.seed l.fn.lanes
          l._line;
      count : length l.drawn ≡ l._line;
      noted : AreLengthsNoted l.made l.drawn;
    }
