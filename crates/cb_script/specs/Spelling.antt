-- How a script is spelled.
use Rattle.std.specs.Prelude.{ℕ, List, [], ◌∷◌, ◌++◌, ◌==◌, if◌then◌else◌, codes, map}
use Rattle.std.specs.List.{join_with_byte, slice_split, flat_map}
use Rattle.std.specs.Fmt.{decimal}
use Rattle.cb_types.specs.declared.config.Config.{Config}
use Rattle.cb_script.specs.declared.script.Line.{Line}
use Rattle.cb_script.specs.declared.script.Script.{Script}
use Rattle.cb_script.specs.Phrase.{phrase_of, phrase_words}

-- the texts but for an empty one at their end
abbrev pub without_empty_end : List (List ℕ) → List (List ℕ)
without_empty_end [] = []
without_empty_end ([] ∷ []) = []
without_empty_end (text ∷ texts) = text ∷ without_empty_end texts

-- The lines of an input stand between its line feeds. An empty text after the last one is no line.
abbrev pub lines_of : List ℕ → List (List ℕ)
lines_of bytes = without_empty_end (slice_split (λ b. b == 10) bytes)

-- the words of a line stand between its spaces
abbrev pub words_of : List ℕ → List (List ℕ)
words_of text = slice_split (λ b. b == 32) text

-- a name, `=` and a number
abbrev pub setting : List ℕ → ℕ → List ℕ
setting name n = name ++ 61 ∷ decimal n

-- the words of the header
abbrev pub header_words : Config → List (List ℕ)
header_words c =
    codes "carbink" ∷ codes "1" ∷ setting (codes "k") c.k ∷ setting (codes "r") c.r
    ∷ setting (codes "nodes") c.nodes ∷ setting (codes "frames") c.frames
    ∷ setting (codes "room") c.room ∷ setting (codes "handles") c.handles
    ∷ setting (codes "turns") c.turns ∷ []

-- the header, its words with one space between them
unfoldable pub header_line : Config → List ℕ
header_line c = join_with_byte 32 (header_words c)

-- the words of a line: its lane and its request
abbrev pub line_words : Line → List (List ℕ)
line_words l = decimal l.lane.n ∷ phrase_words (phrase_of l.request)

-- a line, its words with one space between them
abbrev pub script_line : Line → List ℕ
script_line l = join_with_byte 32 (line_words l)

-- the header and then the lines
abbrev pub script_lines : Script → List (List ℕ)
script_lines s = header_line s.config ∷ map script_line s.lines

-- a script as it is printed: a line feed after each line
abbrev pub script_text : Script → List ℕ
script_text s = flat_map (λ line. line ++ 10 ∷ []) (script_lines s)

-- an input with a line feed at its end, where it has some bytes and none there
abbrev pub with_feed : List ℕ → List ℕ
with_feed [] = []
with_feed (b ∷ []) = if b == 10 then b ∷ [] else b ∷ 10 ∷ []
with_feed (b ∷ c ∷ bytes) = b ∷ with_feed (c ∷ bytes)
