-- A printed script, and the input that it was read from.
use Rattle.std.proofs.Common.{◌≡◌, ◌==◌, ℕ, ◌<◌, ◌≤◌, false, eqb, List, [], ◌∷◌, ◌++◌, length, map, Result, Ok, Err, inl, inr, refl, sym, ap, ◌∙◌, append_assoc}
use Rattle.std.specs.Prelude.{codes, IfOk}
use Rattle.std.specs.List.{join_with_byte, flat_map, slice_split, onto_first}
use Rattle.std.proofs.lemmas.Bool.{cases_Bool, eqb-true}
use Rattle.std.proofs.lemmas.List.Elements.{All-nil, All-cons}
use Rattle.std.proofs.lemmas.List.Splits.{slice_split_at}
use Rattle.cb_types.specs.declared.config.Config.{Config}
use Rattle.cb_types.specs.declared.config.Field.TheVariants.{Nodes}
use Rattle.cb_types.specs.declared.NoMemory.{NoMemory}
use Rattle.cb_script.specs.declared.fault.Reason.TheVariants.{TooLong}
use Rattle.cb_script.specs.declared.script.Line.{Line}
use Rattle.cb_script.specs.declared.script.Mode.{Mode}
use Rattle.cb_script.specs.declared.script.Script.{Script}
use Rattle.cb_script.specs.First.{First}
use Rattle.cb_script.specs.Form.{AreInMode, AreLines, IsScript, Spells}
use Rattle.cb_script.specs.Spelling.{without_empty_end, lines_of, header_line, line_words, script_line, script_lines, script_text, setting, with_feed}
use Rattle.cb_script.proofs.Cuts.{line_then, split_has, without_empty_end-more}
use Rattle.cb_script.proofs.Headers.{AreNumbers-from_accepted, header_lacks_feed}
use Rattle.cb_script.proofs.Words.{AllLack, lacks_feed, line_is_words}

-- words that are added one by one
words_pushed : (old a k r nodes frames room handles turns : List ℕ)
    → ((((((((old ++ a) ++ 32 ∷ k) ++ 32 ∷ r) ++ 32 ∷ nodes) ++ 32 ∷ frames) ++ 32 ∷ room) ++ 32 ∷ handles) ++ 32 ∷ turns) ++ 10 ∷ []
    ≡ old ++ (a ++ 32 ∷ (k ++ 32 ∷ (r ++ 32 ∷ (nodes ++ 32 ∷ (frames ++ 32 ∷ (room ++ 32 ∷ (handles ++ 32 ∷ (turns ++ 10 ∷ []))))))))
words_pushed old a k r nodes frames room handles turns =
    let t8 : List ℕ = 10 ∷ [] in
    let t7 : List ℕ = 32 ∷ (turns ++ t8) in
    let t6 : List ℕ = 32 ∷ (handles ++ t7) in
    let t5 : List ℕ = 32 ∷ (room ++ t6) in
    let t4 : List ℕ = 32 ∷ (frames ++ t5) in
    let t3 : List ℕ = 32 ∷ (nodes ++ t4) in
    let t2 : List ℕ = 32 ∷ (r ++ t3) in
    append_assoc _ (32 ∷ turns) t8 ∙ append_assoc _ (32 ∷ handles) t7 ∙ append_assoc _ (32 ∷ room) t6 ∙ append_assoc _ (32 ∷ frames) t5
    ∙ append_assoc _ (32 ∷ nodes) t4 ∙ append_assoc _ (32 ∷ r) t3 ∙ append_assoc _ (32 ∷ k) t2 ∙ append_assoc old a (32 ∷ (k ++ t2))

feed_behind : (word text ended : List ℕ) → text ++ 10 ∷ [] ≡ ended → (word ++ 32 ∷ text) ++ 10 ∷ [] ≡ word ++ 32 ∷ ended
feed_behind word text ended e = append_assoc word (32 ∷ text) (10 ∷ []) ∙ ap (λ (t : List ℕ). word ++ 32 ∷ t) e

words_ended : (k r nodes frames room handles turns : List ℕ)
    → join_with_byte 32 (k ∷ r ∷ nodes ∷ frames ∷ room ∷ handles ∷ turns ∷ []) ++ 10 ∷ []
    ≡ k ++ 32 ∷ (r ++ 32 ∷ (nodes ++ 32 ∷ (frames ++ 32 ∷ (room ++ 32 ∷ (handles ++ 32 ∷ (turns ++ 10 ∷ []))))))
words_ended k r nodes frames room handles turns =
    feed_behind k _ _ (feed_behind r _ _ (feed_behind nodes _ _ (feed_behind frames _ _ (feed_behind room _ _ (feed_behind handles turns (turns ++ 10 ∷ []) refl)))))

header_words_pushed : (old k r nodes frames room handles turns : List ℕ)
    → ((((((((old ++ codes "carbink 1") ++ 32 ∷ k) ++ 32 ∷ r) ++ 32 ∷ nodes) ++ 32 ∷ frames) ++ 32 ∷ room) ++ 32 ∷ handles) ++ 32 ∷ turns) ++ 10 ∷ []
    ≡ old ++ (join_with_byte 32 (codes "carbink" ∷ codes "1" ∷ k ∷ r ∷ nodes ∷ frames ∷ room ∷ handles ∷ turns ∷ []) ++ 10 ∷ [])
header_words_pushed old k r nodes frames room handles turns =
    words_pushed old (codes "carbink 1") k r nodes frames room handles turns ∙ ap (λ (t : List ℕ). old ++ (codes "carbink 1 " ++ t)) (sym (words_ended k r nodes frames room handles turns))

pub header_pushed : (old : List ℕ) (c : Config)
    → ((((((((old ++ codes "carbink 1") ++ 32 ∷ setting (codes "k") c.k) ++ 32 ∷ setting (codes "r") c.r) ++ 32 ∷ setting (codes "nodes") c.nodes) ++ 32 ∷ setting (codes "frames") c.frames) ++ 32 ∷ setting (codes "room") c.room) ++ 32 ∷ setting (codes "handles") c.handles) ++ 32 ∷ setting (codes "turns") c.turns) ++ 10 ∷ []
    ≡ old ++ (header_line c ++ 10 ∷ [])
unfolding header_line
header_pushed old c = header_words_pushed old (setting (codes "k") c.k) (setting (codes "r") c.r) (setting (codes "nodes") c.nodes) (setting (codes "frames") c.frames) (setting (codes "room") c.room) (setting (codes "handles") c.handles) (setting (codes "turns") c.turns)

-- ---- lines with a line feed behind each

-- the texts, a line feed behind each
abbrev ended : List (List ℕ) → List ℕ
ended texts = flat_map (λ text. text ++ 10 ∷ []) texts

pub lines_of_ended : (texts : List (List ℕ)) → AllLack 10 texts → lines_of (ended texts) ≡ texts
lines_of_ended [] lack = refl
lines_of_ended (text ∷ texts) lack =
    let regrouped : ended (text ∷ texts) ≡ text ++ 10 ∷ ended texts = append_assoc text (10 ∷ []) (ended texts) in
    let cut = slice_split_at (λ b. eqb b 10) text 10 (ended texts) lack.0 refl in
    ap lines_of regrouped ∙ line_then (text ++ 10 ∷ ended texts) text (ended texts) cut ∙ ap (λ (ts : List (List ℕ)). text ∷ ts) (lines_of_ended texts lack.1)

-- the first line of a text that is not empty
record FirstOf (text : List ℕ) : Type 0 where
  first : List ℕ
  others : List (List ℕ)
  is : slice_split (λ b. b == 10) text ≡ first ∷ others
  kept : without_empty_end (first ∷ others) ≡ first ∷ without_empty_end others

first_of : (c : ℕ) (rest : List ℕ) → FirstOf (c ∷ rest)
first_of c rest =
    let has = split_has (λ b. b == 10) rest in
    elim (cases_Bool (c == 10)) [
      | inl feed ↦ record {
        first = [];
        others = slice_split (λ b. b == 10) rest;
        is = rw feed refl;
        kept = ap (λ (parts : List (List ℕ)). without_empty_end ([] ∷ parts)) has.is ∙ without_empty_end-more [] has.first has.others ∙ ap (λ (parts : List (List ℕ)). [] ∷ without_empty_end parts) (sym has.is);
      }
      | inr other ↦ record {
        first = c ∷ has.first;
        others = has.others;
        is = rw other (ap (onto_first c) has.is);
        kept = refl;
      }
    ]

-- one byte more in front of a text that is not empty
ended_more : (b c : ℕ) (rest : List ℕ) → ended (lines_of (b ∷ c ∷ rest)) ≡ b ∷ ended (lines_of (c ∷ rest))
ended_more b c rest =
    let has = first_of c rest in
    elim (cases_Bool (b == 10)) [
      | inl feed ↦
          let is : slice_split (λ x. x == 10) (b ∷ c ∷ rest) ≡ [] ∷ slice_split (λ x. x == 10) (c ∷ rest) = rw feed refl in
          ap ended (line_then (b ∷ c ∷ rest) [] (c ∷ rest) is) ∙ ap (λ (x : ℕ). x ∷ ended (lines_of (c ∷ rest))) (sym (eqb-true b 10 feed))
      | inr other ↦
          let is : slice_split (λ x. x == 10) (b ∷ c ∷ rest) ≡ onto_first b (slice_split (λ x. x == 10) (c ∷ rest)) = rw other refl in
          let front : lines_of (b ∷ c ∷ rest) ≡ (b ∷ has.first) ∷ without_empty_end has.others = ap without_empty_end (is ∙ ap (onto_first b) has.is) in
          let behind : lines_of (c ∷ rest) ≡ has.first ∷ without_empty_end has.others = ap without_empty_end has.is ∙ has.kept in
          ap ended front ∙ ap (λ (ts : List (List ℕ)). b ∷ ended ts) (sym behind)
    ]

pub ended_lines_of : (bytes : List ℕ) → ended (lines_of bytes) ≡ with_feed bytes
ended_lines_of [] = refl
ended_lines_of (b ∷ []) = elim (cases_Bool (b == 10)) [ inl feed ↦ rw feed (ap (λ (x : ℕ). x ∷ []) (sym (eqb-true b 10 feed))) | inr other ↦ rw other refl ]
ended_lines_of (b ∷ c ∷ rest) = ended_more b c rest ∙ ap (λ (bytes : List ℕ). b ∷ bytes) (ended_lines_of (c ∷ rest))

-- ---- a printed script

lines_lack : (nodes : ℕ) (before lines : List Line) → nodes ≤ 64 → AreLines nodes before lines → AllLack 10 (map script_line lines)
lines_lack nodes before [] few are = tt
lines_lack nodes before (l ∷ lines) few are =
    (lacks_feed (line_words l) (line_is_words nodes l (record { few = few; lane = are.0.lane.low; request = are.0.request })), lines_lack nodes (before ++ l ∷ []) lines few are.1)

pub printed_lines : (s : Script) → IsScript s → lines_of (script_text s) ≡ script_lines s
printed_lines s form =
    lines_of_ended (script_lines s) (header_lacks_feed s.config (AreNumbers-from_accepted s.config form.config), lines_lack s.config.nodes [] s.lines (form.config Nodes).1 form.lines)

pub printed_again : (bytes : List ℕ) (mode : Mode) (s : Script) → Spells bytes mode s → script_text s ≡ with_feed bytes
printed_again bytes mode s spells = ap ended (sym spells.text) ∙ ended_lines_of bytes

feedless_onto : (c : ℕ) (parts : List (List ℕ)) → eqb c 10 ≡ false → AllLack 10 parts → AllLack 10 (onto_first c parts)
feedless_onto c [] other lack = (All-cons (λ b. eqb b 10 ≡ false) c [] other (All-nil (λ b. eqb b 10 ≡ false)), tt)
feedless_onto c (part ∷ parts) other lack = (All-cons (λ b. eqb b 10 ≡ false) c part other lack.0, lack.1)

split_lacks : (bytes : List ℕ) → AllLack 10 (slice_split (λ b. b == 10) bytes)
split_lacks [] = (All-nil (λ b. eqb b 10 ≡ false), tt)
split_lacks (b ∷ bytes) =
    elim (cases_Bool (b == 10)) [
      | inl feed ↦ rw feed (All-nil (λ x. eqb x 10 ≡ false), split_lacks bytes)
      | inr other ↦ rw other (feedless_onto b (slice_split (λ x. x == 10) bytes) other (split_lacks bytes))
    ]

without_end_lacks : (texts : List (List ℕ)) → AllLack 10 texts → AllLack 10 (without_empty_end texts)
without_end_lacks [] lack = tt
without_end_lacks ([] ∷ []) lack = tt
without_end_lacks ([] ∷ next ∷ texts) lack = (lack.0, without_end_lacks (next ∷ texts) lack.1)
without_end_lacks ((b ∷ text) ∷ texts) lack = (lack.0, without_end_lacks texts lack.1)

lines_lack_feed : (bytes : List ℕ) → AllLack 10 (lines_of bytes)
lines_lack_feed bytes = without_end_lacks (slice_split (λ b. b == 10) bytes) (split_lacks bytes)

-- an input and the same with a line feed at its end have the same lines
pub fed_lines : (bytes : List ℕ) → lines_of (with_feed bytes) ≡ lines_of bytes
fed_lines bytes = ap lines_of (sym (ended_lines_of bytes)) ∙ lines_of_ended (lines_of bytes) (lines_lack_feed bytes)

-- ---- what printing answers

pub printed_spells : (r : Result (List ℕ) NoMemory) (mode : Mode) (s : Script) → IfOk r (λ text. text ≡ script_text s) → IsScript s → AreInMode mode s.lines → IfOk r (λ text. length text ≤ 1048576 → Spells text mode s)
printed_spells (Ok text) mode s is form allowed = λ short. record { short = short; form = form; allowed = allowed; text = ap lines_of is ∙ printed_lines s form }
printed_spells (Err e) mode s is form allowed = tt

pub printed_same : (r : Result (List ℕ) NoMemory) (bytes : List ℕ) (mode : Mode) (s : Script) → IfOk r (λ text. text ≡ script_text s) → Spells bytes mode s → IfOk r (λ text. text ≡ with_feed bytes)
printed_same (Ok text) bytes mode s is spells = is ∙ printed_again bytes mode s spells
printed_same (Err e) bytes mode s is spells = tt

pub printed_long : (r : Result (List ℕ) NoMemory) (mode : Mode) → IfOk r (λ text. 1048576 < length text → First text mode 0 TooLong)
printed_long (Ok text) mode = λ long. (refl, long)
printed_long (Err e) mode = tt
