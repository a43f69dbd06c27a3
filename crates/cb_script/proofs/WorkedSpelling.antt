-- Worked examples: how inputs are cut, and how a script is spelled.
use Rattle.std.proofs.Common.{◌≡◌, ℕ, [], ◌∷◌, ◌++◌, length, refl}
use Rattle.std.specs.Prelude.{codes}
use Rattle.std.specs.Fmt.{digits}
use Rattle.hex.specs.Hex.{encode_with}
use Rattle.cb_types.specs.declared.config.Config.{Config}
use Rattle.cb_types.specs.declared.request.Request.{Request}
use Rattle.cb_types.specs.declared.request.Request.TheVariants.{Make, Read, Write, Crash, Leave}
use Rattle.cb_script.specs.declared.fault.Reason.TheVariants as reasons
use Rattle.cb_script.specs.declared.script.Line.{Line}
use Rattle.cb_script.specs.declared.script.Script.{Script}
use Rattle.cb_script.specs.Reasons.{reason_number, reason_word}
use Rattle.cb_script.specs.Spelling.{lines_of, words_of, header_line, script_line, script_lines, script_text, with_feed}

-- ---- lines and words

no_lines : lines_of [] ≡ []
no_lines = refl

one_empty_line : lines_of (10 ∷ []) ≡ [] ∷ []
one_empty_line = refl

-- the last line may end at the end of the input
ended_or_not : lines_of (97 ∷ 10 ∷ 98 ∷ []) ≡ lines_of (97 ∷ 10 ∷ 98 ∷ 10 ∷ [])
ended_or_not = refl

-- an empty line stands between two line feeds, and one at the end too
empty_lines : lines_of (97 ∷ 10 ∷ 10 ∷ 98 ∷ 10 ∷ 10 ∷ []) ≡ (97 ∷ []) ∷ [] ∷ (98 ∷ []) ∷ [] ∷ []
empty_lines = refl

-- a carriage return is a byte as any other
carriage_return : lines_of (97 ∷ 13 ∷ 10 ∷ []) ≡ (97 ∷ 13 ∷ []) ∷ []
carriage_return = refl

-- two spaces have an empty word between them, and so has a space at either end
empty_words : words_of (codes " 1  a ") ≡ [] ∷ codes "1" ∷ [] ∷ codes "a" ∷ [] ∷ []
empty_words = refl

feed_added : with_feed (97 ∷ []) ≡ 97 ∷ 10 ∷ []
feed_added = refl

feed_there : with_feed (97 ∷ 10 ∷ []) ≡ 97 ∷ 10 ∷ []
feed_there = refl

feed_of_nothing : with_feed [] ≡ []
feed_of_nothing = refl

-- ---- a script of two lines

unfoldable pub worked_config : Config
worked_config = record { k = 2; r = 2; nodes = 6; frames = 8; room = 64; handles = 16; turns = 0 }

abbrev pub worked_lane : ℕ → Request → ℕ → Line
worked_lane lane r line = record { lane = record { n = lane }; line = line; request = r }

abbrev make_a : Request
make_a = Make (codes "a") (10 ∷ 11 ∷ [])

abbrev read_a : Request
read_a = Read (codes "a")

abbrev worked_script : Script
worked_script = record { config = worked_config; lines = worked_lane 1 make_a 2 ∷ worked_lane 1 read_a 3 ∷ [] }

worked_header : header_line worked_config ≡ codes "carbink 1 k=2 r=2 nodes=6 frames=8 room=64 handles=16 turns=0"
unfolding header_line worked_config digits encode_with
worked_header = refl

worked_lines : script_lines worked_script ≡ codes "carbink 1 k=2 r=2 nodes=6 frames=8 room=64 handles=16 turns=0" ∷ codes "1 make a 0a0b" ∷ codes "1 read a" ∷ []
unfolding header_line worked_config digits encode_with
worked_lines = refl

worked_text : script_text worked_script ≡ codes "carbink 1 k=2 r=2 nodes=6 frames=8 room=64 handles=16 turns=0" ++ 10 ∷ (codes "1 make a 0a0b" ++ 10 ∷ (codes "1 read a" ++ 10 ∷ []))
unfolding header_line worked_config digits encode_with
worked_text = refl

worked_length : length (script_text worked_script) ≡ 85
unfolding header_line worked_config digits encode_with
worked_length = refl

-- ---- lines of other verbs

write_line : script_line (worked_lane 15 (Write (codes "a") 4096 (255 ∷ [])) 4) ≡ codes "15 write a 4096 ff"
unfolding digits encode_with
write_line = refl

write_nothing : script_line (worked_lane 0 (Write (codes "a") 0 []) 4) ≡ codes "0 write a 0 -"
unfolding digits
write_nothing = refl

crash_line : script_line (worked_lane 1 (Crash (record { n = 5 })) 4) ≡ codes "1 crash 5"
unfolding digits
crash_line = refl

leave_line : script_line (worked_lane 1 Leave 4) ≡ codes "1 leave"
unfolding digits
leave_line = refl

-- ---- reasons

first_reason : (reason_number reasons.TooLong ≡ 1) × (reason_word reasons.TooLong ≡ codes "toolong")
first_reason = (refl, refl)

last_reason : (reason_number reasons.Mode ≡ 12) × (reason_word reasons.Mode ≡ codes "mode")
last_reason = (refl, refl)
