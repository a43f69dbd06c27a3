-- What is printed of commands.
use Rattle.std.specs.Prelude.{ℕ, List, [], ◌∷◌, ◌++◌, codes, decimal, drop}
use Rattle.std.specs.List.{flat_map}
use Rattle.cb_map_text.specs.declared.command.FarAnswer.{FarAnswer}
use Rattle.cb_map_text.specs.declared.command.FarAnswer.TheVariants.{Done, Number, Nothing, Outside, Refused}
use Rattle.cb_text.specs.Line.{reply_text, spaced}
use Rattle.cb_types.specs.declared.reply.Reply.{Reply}

-- the words of a reply, as lines of a script have them, but with no space in front of the first
abbrev pub reply_words : Reply → List ℕ
reply_words reply = drop 1 (reply_text reply)

-- what is said to a command
abbrev pub said_line : FarAnswer → List ℕ
said_line Done = codes "ok"
said_line (Number n) = decimal n
said_line Nothing = codes "none"
said_line (Outside len) = codes "outside" ++ spaced (decimal len)
said_line (Refused reply) = reply_words reply

-- all that is said, a line feed after each
abbrev pub said_text : List FarAnswer → List ℕ
said_text saids = flat_map (λ one. said_line one ++ 10 ∷ []) saids

-- that this line is outside the form
abbrev pub refusal_text : ℕ → List ℕ
refusal_text line = codes "map line " ++ decimal line ++ codes " refused\n"
