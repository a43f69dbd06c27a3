-- Worked examples: rows that are spelled, lines that are missing, wrong or too many, and what is told.
use Rattle.std.proofs.Common.{◌≡◌, ℕ, ◌<◌, ◌≤◌, List, [], ◌∷◌, ◌++◌, length, get_or, map, inl, inr, refl, sym, ap, ◌∙◌, arith}
use Rattle.std.specs.Prelude.{codes}
use Rattle.std.specs.Fmt.{digits}
use Rattle.hex.specs.Hex.{encode_lower, encode_with}
use Rattle.std.proofs.lemmas.List.{length-map}
use Rattle.cb_script.specs.Spelling.{lines_of}
use Rattle.cb_script.proofs.PublicLaws.{differ}
use Rattle.cb_cli.specs.declared.verdict.Verdict.TheVariants.{Done, Refused}
use Rattle.cb_scrub.specs.declared.found.Found.TheVariants.{Clean, One, Many}
use Rattle.cb_scrub.proofs.Laws.{word, one, many, lengths, bytes, word_but, one_is_wrong, found_many, is_word}
use Rattle.cb_scrub_text.specs.declared.asked.Asked.{Asked}
use Rattle.cb_scrub_text.specs.Form.{AreSizes, IsAsked, Spells, header_line}
use Rattle.cb_scrub_text.specs.FirstBad.{Begin, AreAsked, IsBadLine, IsFirstBad}
use Rattle.cb_scrub_text.specs.Verdicts.{FindsAndTells, Yields, Accepts, IsVerdict}
use Rattle.cb_scrub_text.proofs.HeaderText.{one_header}
use Rattle.cb_scrub_text.proofs.OneReading.{accepted_not_refused, one_asked, one_first_bad, one_text, spelled_not_bad}

-- ---- two data rows and two parities of one byte

abbrev asked_of : ℕ → ℕ → List (List ℕ) → Asked
asked_of k r rows = record { k = k; r = r; rows = rows }

sizes : AreSizes 2 2
sizes = record { some_data = omega arith; few_data = omega arith; some_parities = omega arith; few_parities = omega arith }

no_data : (r : ℕ) → AreSizes 0 r → ⊥
no_data r is = omega (arith, is.some_data)

seventeen_data : (r : ℕ) → AreSizes 17 r → ⊥
seventeen_data r is = omega (arith, is.few_data)

no_parities : (k : ℕ) → AreSizes k 0 → ⊥
no_parities k is = omega (arith, is.some_parities)

five_parities : (k : ℕ) → AreSizes k 5 → ⊥
five_parities k is = omega (arith, is.few_parities)

may_be_asked : IsAsked (asked_of 2 2 one)
may_be_asked = record {
  sizes = sizes;
  count = refl;
  len = 1;
  some = omega arith;
  most = omega arith;
  lengths = lengths 0x01 0x05 0xC8 0xC9;
  bytes = bytes 0x01 0x05 0xC8 0xC9 (omega arith) (omega arith) (omega arith) (omega arith);
}

-- a row more than the sizes tell
a_row_more : IsAsked (asked_of 2 1 one) → ⊥
a_row_more is = absurd (omega (arith, is.count))

of_other_sizes : IsAsked (asked_of 0 4 one) → ⊥
of_other_sizes is = no_data 4 is.sizes

of_empty_rows : IsAsked (asked_of 1 1 ([] ∷ [] ∷ [])) → ⊥
of_empty_rows is = absurd (omega (arith, is.some, is.lengths 0 [] (omega arith)))

of_long_rows : (row : List ℕ) → length row ≡ 4097 → IsAsked (asked_of 1 1 (row ∷ row ∷ [])) → ⊥
of_long_rows row long is = omega (arith, long, is.most, is.lengths 0 [] (omega arith))

of_two_lengths : IsAsked (asked_of 1 1 ((0x01 ∷ []) ∷ [] ∷ [])) → ⊥
of_two_lengths is = absurd (omega (arith, is.lengths 0 [] (omega arith), is.lengths 1 [] (omega arith)))

of_no_bytes : IsAsked (asked_of 1 1 ((0x100 ∷ []) ∷ (0x01 ∷ []) ∷ [])) → ⊥
of_no_bytes is = absurd (omega (arith, is.bytes 0 [] (omega arith) 0 0 (omega arith)))

-- ---- their bytes

abbrev input : List ℕ
input = codes "scrub 1 k=2 r=2\n01\n05\nc8\nc9\n"

spelled : Spells input (asked_of 2 2 one)
unfolding header_line digits encode_with
spelled = record { short = omega arith; form = may_be_asked; text = refl }

other_rows_spelled : Spells input (asked_of 2 2 word) → ⊥
other_rows_spelled is =
    let same = one_asked input (asked_of 2 2 word) (asked_of 2 2 one) is spelled in
    absurd (omega (arith, ap (λ (a : Asked). get_or (get_or a.rows 1 []) 0 0) same))

too_long : (bytes : List ℕ) (a : Asked) → 1048576 < length bytes → Spells bytes a → ⊥
too_long bytes a long is = omega (arith, long, is.short)

no_form : (bytes : List ℕ) → Spells bytes (asked_of 0 4 one) → ⊥
no_form bytes is = of_other_sizes is.form

accepted : Accepts input
accepted = record { asked = asked_of 2 2 one; spelled = spelled }

-- ---- lines that are missing, wrong or too many

-- the lines of the input begin, and are, something that may be asked
abbrev four_lines : List (List ℕ)
four_lines = codes "scrub 1 k=2 r=2" ∷ codes "01" ∷ codes "05" ∷ codes "c8" ∷ []

begin_four : Begin four_lines
unfolding header_line digits encode_with
begin_four = record { asked = asked_of 2 2 one; form = may_be_asked; others = codes "c9" ∷ []; are = refl }

all_five : AreAsked (four_lines ++ codes "c9" ∷ [])
unfolding header_line digits encode_with
all_five = record { asked = asked_of 2 2 one; form = may_be_asked; are = refl }

-- what is whole stops nowhere
not_bad : (line : ℕ) → IsFirstBad input line → ⊥
not_bad line bad = spelled_not_bad input (asked_of 2 2 one) line spelled bad

-- an empty input lacks line 1
nothing_begun : AreAsked [] → ⊥
nothing_begun is = absurd (let e = is.are in cc)

-- the last row is missing
abbrev short_input : List ℕ
short_input = codes "scrub 1 k=2 r=2\n01\n05\nc8\n"

header_is : header_line 2 2 ≡ codes "scrub 1 k=2 r=2"
unfolding header_line digits
header_is = refl

heads : (x y : List ℕ) (xs ys : List (List ℕ)) → x ∷ xs ≡ y ∷ ys → (x ≡ y) × (xs ≡ ys)
heads x y xs ys e = (cc, cc)

one_is_missing : AreAsked four_lines → ⊥
one_is_missing all =
    let both = heads (header_line all.asked.k all.asked.r) (codes "scrub 1 k=2 r=2") (map encode_lower all.asked.rows) (codes "01" ∷ codes "05" ∷ codes "c8" ∷ []) all.are in
    let same = one_header all.asked.k all.asked.r 2 2 all.form.sizes sizes (both.0 ∙ sym header_is) in
    let three : length (map encode_lower all.asked.rows) ≡ 3 = ap length both.1 in
    omega (arith, same.0, same.1, all.form.count, three, length-map all.asked.rows encode_lower)

missing : IsBadLine short_input 5
missing = record { before = four_lines; after = []; lines = refl; begin = begin_four; stop = one_is_missing; number = refl }

missing_is_first : IsFirstBad short_input 5
missing_is_first = inr (omega arith, missing)

another_line : IsFirstBad short_input 4 → ⊥
another_line bad = absurd (omega (arith, one_first_bad short_input 4 5 bad missing_is_first))

-- the input begins with other lines
other_lines : (after : List (List ℕ)) → lines_of short_input ≡ codes "02" ∷ after → ⊥
other_lines after e = absurd cc

-- line 0 is of an input that is too long alone
short_at_0 : (bytes : List ℕ) → length bytes ≤ 1048576 → IsFirstBad bytes 0 → ⊥
short_at_0 bytes short (inl long) = omega (arith, short, long.1)
short_at_0 bytes short (inr bad) = omega (arith, bad.1.number)

long_at_0 : (bytes : List ℕ) → 1048576 < length bytes → IsFirstBad bytes 0
long_at_0 bytes long = inl (refl, long)

-- ---- what is told

told : FindsAndTells (asked_of 2 2 one) (codes "mended 1\n01\n00\nc8\nc9\n")
unfolding digits encode_with
told = record { found = One 1; is_found = one_is_wrong; told = (word, word_but, refl) }

clean : FindsAndTells (asked_of 2 2 word) (codes "clean\n")
clean = record { found = Clean; is_found = is_word; told = refl }

many_told : FindsAndTells (asked_of 2 2 many) (codes "many 0 0 04\n")
unfolding digits encode_with
many_told = record { found = Many 0 0 0x04; is_found = found_many; told = refl }

yielded : Yields input (codes "mended 1\n01\n00\nc8\nc9\n")
yielded = record { asked = asked_of 2 2 one; spelled = spelled; tells = told }

-- the wrong row is told as it was
wrong_row_told : Yields input (codes "mended 1\n01\n05\nc8\nc9\n") → ⊥
wrong_row_told is =
    differ (codes "mended 1\n01\n05\nc8\nc9\n") (codes "mended 1\n01\n00\nc8\nc9\n") (one_text input (codes "mended 1\n01\n05\nc8\nc9\n") (codes "mended 1\n01\n00\nc8\nc9\n") is yielded) refl

told_as_clean : Yields input (codes "clean\n") → ⊥
told_as_clean is = differ (codes "clean\n") (codes "mended 1\n01\n00\nc8\nc9\n") (one_text input (codes "clean\n") (codes "mended 1\n01\n00\nc8\nc9\n") is yielded) refl

verdict : IsVerdict input (Done (codes "mended 1\n01\n00\nc8\nc9\n"))
verdict = yielded

refused : (text : List ℕ) → IsVerdict input (Refused text) → ⊥
refused text is = accepted_not_refused input text accepted is
