use Rattle.std.proofs.Common.{◌≡◌, ◌*◌, take, drop}
use Rattle.std.specs.List.{concat}
use Rattle.carbink_c.proofs.buffers.put_others.Given as goal

abbrev pub invariant-loop-i : goal.invariant-loop-i
invariant-loop-i l = (take (l.i * l.len) l.buffer ≡ concat (take l.i l.rows)) × (drop (l.i * l.len) l.buffer ≡ drop (l.i * l.len) l.initial.buffer)
