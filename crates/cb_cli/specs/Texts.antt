-- The texts that a run puts.
use Rattle.std.specs.Prelude.{ℕ, List, ◌++◌, length, codes, decimal}
use Rattle.cb_script.specs.declared.fault.Reason.{Reason}
use Rattle.cb_script.specs.Reasons.{reason_number, reason_word}
use Rattle.cb_script.specs.declared.script.Script.{Script}
use Rattle.cb_cli.specs.Lanes.{lane_count}

-- that the words of the command line are refused
abbrev pub words_refused : List ℕ
words_refused = codes "words refused\n"

-- what is wrong with a script, and at which line
abbrev pub fault_text : ℕ → Reason → List ℕ
fault_text line reason =
    codes "script line " ++ decimal line ++ codes " reason " ++ decimal (reason_number reason)
    ++ codes " " ++ reason_word reason ++ codes "\n"

-- how many rows the nodes gave out
abbrev pub given_line : ℕ → List ℕ
given_line given = codes "given " ++ decimal given ++ codes "\n"

-- that a script was read, with its lines after the header and its different lanes
abbrev pub check_text : Script → List ℕ
check_text script =
    codes "script ok lines " ++ decimal (length script.lines) ++ codes " lanes "
    ++ decimal (lane_count script.lines) ++ codes "\n"
