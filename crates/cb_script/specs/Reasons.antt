-- How a reason is printed.
use Rattle.std.specs.Prelude.{ℕ, List, codes}
use Rattle.cb_script.specs.declared.fault.Reason.{Reason}
use Rattle.cb_script.specs.declared.fault.Reason.TheVariants as reasons

-- its number
abbrev pub reason_number : Reason → ℕ
reason_number reasons.TooLong = 1
reason_number reasons.Header = 2
reason_number reasons.Config = 3
reason_number reasons.Lines = 4
reason_number reasons.Shape = 5
reason_number reasons.Lane = 6
reason_number reasons.Name = 7
reason_number reasons.Known = 8
reason_number reasons.Number = 9
reason_number reasons.Hex = 10
reason_number reasons.Length = 11
reason_number reasons.Mode = 12

-- its word
abbrev pub reason_word : Reason → List ℕ
reason_word reasons.TooLong = codes "toolong"
reason_word reasons.Header = codes "header"
reason_word reasons.Config = codes "config"
reason_word reasons.Lines = codes "lines"
reason_word reasons.Shape = codes "shape"
reason_word reasons.Lane = codes "lane"
reason_word reasons.Name = codes "name"
reason_word reasons.Known = codes "known"
reason_word reasons.Number = codes "number"
reason_word reasons.Hex = codes "hex"
reason_word reasons.Length = codes "length"
reason_word reasons.Mode = codes "mode"
