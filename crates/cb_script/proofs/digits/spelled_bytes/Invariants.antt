use Rattle.std.proofs.Common.{◌<◌, All}
use Rattle.cb_script.proofs.HexText.{IsReadTo}
use Rattle.cb_script.proofs.digits.spelled_bytes.Given as goal

-- the bytes so far are what the digits so far spell
abbrev pub invariant-loop-i : goal.invariant-loop-i
invariant-loop-i l = record {
  read : IsReadTo l.text l.bytes.items l.i;
  each : All (λ b. b < 256) l.bytes.items;
}
