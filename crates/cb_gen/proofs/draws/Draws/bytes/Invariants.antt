use Rattle.std.proofs.Common.{◌≡◌}
use Rattle.cb_gen.specs.Draws.{drawn_bytes, state_after}
use Rattle.cb_gen.proofs.draws.Draws.bytes.Given as goal

-- so many bytes were drawn
abbrev pub invariant-loop-i : goal.invariant-loop-i
invariant-loop-i l =
    record {
      bytes : l.bytes.items ≡ drawn_bytes l.fn.self.state l._i;
      left : l.self.state ≡ state_after l.fn.self.state l._i;
    }
