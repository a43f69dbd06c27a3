use Rattle.std.proofs.Common.{◌≡◌, take}
use Rattle.cb_text.specs.Line.{text_of}
use Rattle.cb_cli.proofs.texts.lines_text.Given as goal

abbrev pub invariant-loop-answer : goal.invariant-loop-answer
invariant-loop-answer l = l.text.items ≡ text_of (take l.answer-index l.answers)
