use Rattle.std.proofs.Common.{◌≡◌, take}
use Rattle.cb_map_text.specs.Texts.{said_text}
use Rattle.cb_map_text.proofs.said.saids_text.Given as goal

-- the text has what was said so far
abbrev pub invariant-loop-said : goal.invariant-loop-said
invariant-loop-said l = l.text.items ≡ said_text (take l.said-index l.saids)
