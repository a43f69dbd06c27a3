use Rattle.std.proofs.Common.{◌≡◌, ◌∷◌, ◌++◌, [], map, take}
use Rattle.std.specs.List.{flat_map}
use Rattle.cb_script.specs.Spelling.{header_line, script_line}
use Rattle.cb_script.proofs.print.text_of.Given as goal

-- the header and the lines so far are printed
abbrev pub invariant-loop-line : goal.invariant-loop-line
invariant-loop-line l =
    l.text.items ≡ flat_map (λ line. line ++ 10 ∷ []) (header_line l.script.config ∷ map script_line (take l.line-index l.script.lines))
