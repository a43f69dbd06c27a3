use Rattle.std.proofs.Common.{◌≡◌, ◌++◌, take}
use Rattle.std.specs.List.{flat_map}
use Rattle.cb_scrub_text.specs.Verdicts.{row_text}
use Rattle.cb_scrub_text.proofs.telling.mended_text.Given as goal

-- the rows so far are told
abbrev pub invariant-loop-i : goal.invariant-loop-i
invariant-loop-i l = l.text.items ≡ l.initial.text.items ++ flat_map row_text (take l.i l.rows)
