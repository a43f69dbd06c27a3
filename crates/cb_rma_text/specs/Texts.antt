-- What is printed of a schedule.
use Rattle.std.specs.Prelude.{ℕ, List, [], ◌∷◌, ◌++◌, codes, decimal}
use Rattle.std.specs.List.{flat_map}
use Rattle.hex.specs.Hex.{encode_lower}
use Rattle.cb_rma.specs.declared.keeper.Handled.{Handled}
use Rattle.cb_rma.specs.declared.keeper.Handled.TheVariants as handled
use Rattle.cb_rma.specs.declared.sender.Heard.{Heard}
use Rattle.cb_rma.specs.declared.sender.Heard.TheVariants as heard
use Rattle.cb_rma.specs.declared.sender.Submitted.{Submitted}
use Rattle.cb_rma.specs.declared.sender.Submitted.TheVariants as submitted
use Rattle.cb_rma.specs.declared.step.Said.{Said}
use Rattle.cb_rma.specs.declared.step.Said.TheVariants as said
use Rattle.cb_text.specs.Line.{spaced}

-- a word, a space and a number
abbrev pub word_then_number : List ℕ → ℕ → List ℕ
word_then_number word n = word ++ spaced (decimal n)

-- what is said to an order that was submitted
abbrev pub submitted_line : Submitted → List ℕ
submitted_line (submitted.Taken number) = word_then_number (codes "taken") number
submitted_line (submitted.Window waiting) = word_then_number (codes "window") waiting

-- what is said to an ask that came
abbrev pub handled_line : Handled → List ℕ
handled_line (handled.Applied ack) = word_then_number (codes "applied") ack.count
handled_line (handled.Repeated ack) = word_then_number (codes "repeated") ack.count
handled_line (handled.Ahead ack) = word_then_number (codes "ahead") ack.count
handled_line (handled.Other incarnation) = word_then_number (codes "other") incarnation

-- what is said to an acknowledgement that came
abbrev pub heard_line : Heard → List ℕ
heard_line (heard.Fresh count) = word_then_number (codes "fresh") count
heard_line (heard.Old count) = word_then_number (codes "old") count
heard_line (heard.Beyond count) = word_then_number (codes "beyond") count
heard_line (heard.Other incarnation) = word_then_number (codes "other") incarnation

-- a row that was looked at
abbrev pub row_line : List ℕ → List ℕ
row_line row = codes "row" ++ spaced (encode_lower row)

-- what is said to an event
abbrev pub said_line : Said → List ℕ
said_line (said.Submitted answer) = submitted_line answer
said_line (said.Sent packet) = word_then_number (codes "sent") packet
said_line said.Nothing = codes "nothing"
said_line (said.Handled answer) = handled_line answer
said_line (said.Heard answer) = heard_line answer
said_line said.NoPacket = codes "nopacket"
said_line (said.Incarnation n) = word_then_number (codes "incarnation") n
said_line (said.Row row) = row_line row
said_line said.NoRow = codes "none"

-- all that is said, a line feed after each
abbrev pub said_text : List Said → List ℕ
said_text saids = flat_map (λ one. said_line one ++ 10 ∷ []) saids

-- that this line is outside the form
abbrev pub refusal_text : ℕ → List ℕ
refusal_text line = codes "rma line " ++ decimal line ++ codes " refused\n"
