-- Rows that are read one after the other.
use Rattle.std.proofs.Common.{◌≡◌, ◌==◌, ℕ, ◌+◌, ◌<◌, ◌≤◌, true, List, [], ◌∷◌, ◌++◌, length, map, take, All, inl, inr, refl, sym, ap, ◌∙◌, subst, append_assoc, arith}
use Rattle.std.proofs.lemmas.Bool.{cases_Bool}
use Rattle.std.proofs.lemmas.List.Elements.{All-set, All-take}
use Rattle.std.proofs.lemmas.List.{length-set, length-take-le, map-append, nil_from_length, take_more_set}
use Rattle.hex.specs.Hex.{encode_lower}
use Rattle.cb_gf256.specs.Rows.{HaveLength, HoldBytes}
use Rattle.cb_script.specs.Spelling.{without_empty_end, lines_of}
use Rattle.cb_script.proofs.PublicLaws.{HasFirst, split_has, without_empty_end-more}
use Rattle.cb_scrub_text.specs.Reading.{IsReadInto, StopsBehind, StopsAt}

-- ---- a text that is not empty has a line

first_stays : (b : ℕ) (part : List ℕ) (parts : List (List ℕ)) → without_empty_end ((b ∷ part) ∷ parts) ≡ (b ∷ part) ∷ without_empty_end parts
first_stays b part [] = refl
first_stays b part (next ∷ parts) = refl

pub has_line : (text : List ℕ) → 0 < length text → HasFirst (lines_of text)
has_line [] some = absurd (omega (arith, some))
has_line (b ∷ text) some =
    let has = split_has (λ c. c == 10) text in
    elim (cases_Bool (b == 10)) [
      | inl feed ↦ rw (feed, has.is) (record { first = []; others = without_empty_end (has.first ∷ has.others); is = without_empty_end-more [] has.first has.others })
      | inr other ↦ rw (other, has.is) (record { first = b ∷ has.first; others = without_empty_end has.others; is = first_stays b has.first has.others })
    ]

-- ---- the rows so far

-- the rows below a place are those of the lines so far
pub record Filling (len count i : ℕ) (text : List ℕ) (rows : List (List ℕ)) (rest : List ℕ) : Type 0 where
  pub counted : length rows ≡ count
  pub lengths : HaveLength len rows
  pub bytes : HoldBytes rows
  pub read : lines_of text ≡ map encode_lower (take i rows) ++ lines_of rest

pub filling_none : (len : ℕ) (text : List ℕ) (rows : List (List ℕ)) → HaveLength len rows → HoldBytes rows → Filling len (length rows) 0 text rows text
filling_none len text rows lengths bytes = record { counted = refl; lengths = lengths; bytes = bytes; read = refl }

module _ (len count i : ℕ) (text : List ℕ) (rows : List (List ℕ)) (rest : List ℕ) (filling : Filling len count i text rows rest) where
  pub filling_more : (line behind : List ℕ) (now : List (List ℕ)) → i < count → lines_of rest ≡ line ∷ lines_of behind → IsReadInto len rows i line now true → Filling len count (i + 1) text now behind
  filling_more line behind now within cut (row, is, now_is) =
      let here : i < length rows = omega (arith, within, filling.counted) in
      subst (λ (xs : List (List ℕ)). Filling len count (i + 1) text xs behind) (sym now_is)
      (record {
        counted = length-set rows i row ∙ filling.counted;
        lengths = All-set (λ xs. length xs ≡ len) rows i row is.long filling.lengths;
        bytes = All-set (λ xs. All (λ x. x < 256) xs) rows i row is.bytes filling.bytes;
        read = filling.read ∙ ap (λ (ts : List (List ℕ)). map encode_lower (take i rows) ++ ts) (cut ∙ ap (λ (t : List ℕ). t ∷ lines_of behind) is.text_is)
            ∙ sym (append_assoc (map encode_lower (take i rows)) (encode_lower row ∷ []) (lines_of behind))
            ∙ ap (λ (ts : List (List ℕ)). ts ++ lines_of behind) (sym (map-append encode_lower (take i rows) (row ∷ [])) ∙ ap (map encode_lower) (sym (take_more_set rows i row here)));
      })

  stops : i ≤ count → StopsBehind len count (take i rows) (lines_of rest) → StopsAt len count (lines_of text) i
  stops few stop = record {
    rows = take i rows;
    behind = lines_of rest;
    counted = length-take-le i rows (omega (arith, few, filling.counted));
    few = few;
    lengths = All-take (λ xs. length xs ≡ len) i rows filling.lengths;
    bytes = All-take (λ xs. All (λ x. x < 256) xs) i rows filling.bytes;
    are = filling.read;
    stops = stop;
  }

  taken : i ≤ count → length (take i rows) ≡ i
  taken few = length-take-le i rows (omega (arith, few, filling.counted))

  -- the next line is missing
  pub stops_missing : i < count → length rest ≡ 0 → StopsAt len count (lines_of text) i
  stops_missing within none =
      let empty : lines_of rest ≡ [] = ap lines_of (nil_from_length rest none) in
      let fewer : length (take i rows) < count = omega (arith, within, taken (omega (arith, within))) in
      stops (omega (arith, within)) (subst (StopsBehind len count (take i rows)) (sym empty) fewer)

  -- there is a line behind the last row
  pub stops_over : i ≡ count → 0 < length rest → StopsAt len count (lines_of text) i
  stops_over all some =
      let has = has_line rest some in
      let fewer : (length (take i rows) < count → ⊥) = λ less. omega (arith, all, less, taken (omega (arith, all))) in
      stops (omega (arith, all)) (subst (StopsBehind len count (take i rows)) (sym has.is) (λ less row is. fewer less))
