use Rattle.std.proofs.Common.{◌≡◌, ◌≤◌, ◌-◌, length}
use Rattle.std.specs.Io.KnownBytes.{Consumes}
use Rattle.cb_cli.proofs.input.take_all.Given as goal

-- the bytes so far are what was taken, and no take has failed
abbrev pub invariant-takes : goal.invariant-takes
invariant-takes g l =
    let source = g.S.Source in
    record {
      within : length l.bytes.items ≤ 1048577;
      taken : Consumes (source.left l.fn.source) (source.left l.source) l.bytes.items;
      no_fault : source.faults l.source ≡ source.faults l.fn.source;
    }

abbrev pub decreases-takes : goal.decreases-takes
decreases-takes g l = 1048577 - length l.bytes.items
