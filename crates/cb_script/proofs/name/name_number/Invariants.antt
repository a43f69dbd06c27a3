use Rattle.std.proofs.Common.{◌≡◌, drop}
use Rattle.cb_script.specs.Reading.{number_of_name}
use Rattle.cb_script.proofs.name.name_number.Given as goal

-- the number of the bytes from here on
abbrev pub invariant-loop-i : goal.invariant-loop-i
invariant-loop-i l = l.number ≡ number_of_name (drop l.i l.name)
