-- Lines that are the first ones of something that may be asked, and where they stop.
use Rattle.std.proofs.Common.{◌≡◌, ℕ, ◌+◌, ◌-◌, ◌<◌, ◌≤◌, List, [], ◌∷◌, ◌++◌, length, get_or, map, replicate, All, Option, inr, refl, sym, ap, ◌∙◌, subst, arith}
use Rattle.std.proofs.lemmas.List.{length-append, length-map, length-replicate, map-append}
use Rattle.std.proofs.lemmas.List.Elements.{All-append, All-nil, All-replicate}
use Rattle.hex.specs.Hex.{encode_lower}
use Rattle.cb_gf256.specs.Rows.{HaveLength, HoldBytes}
use Rattle.cb_script.specs.Spelling.{lines_of}
use Rattle.cb_scrub_text.specs.declared.asked.Asked.{Asked}
use Rattle.cb_scrub_text.specs.Form.{AreSizes, IsAsked, Spells, header_line, asked_lines}
use Rattle.cb_scrub_text.specs.FirstBad.{Begin, StopBefore, IsBadLine, IsFirstBad}
use Rattle.cb_scrub_text.specs.declared.reading.Reading.{Reading}
use Rattle.cb_scrub_text.specs.declared.reading.Reading.TheVariants.{Read, Bad}
use Rattle.cb_scrub_text.specs.Reading.{SpellsRow, IsNoRow, StopsBehind, StopsAt, AreRowsFilled, BadRows, AreRowsRead, IsReading}
use Rattle.cb_scrub_text.proofs.HeaderText.{one_header}

-- ---- rows that begin

-- a row of zeros
abbrev zero_row : ℕ → List ℕ
zero_row len = replicate len 0

zero_row_bytes : (len : ℕ) → All (λ x. x < 256) (zero_row len)
zero_row_bytes len = All-replicate (λ x. x < 256) len 0 (omega arith)

-- what was read over rows of zeros
pub filled_is : (k r len : ℕ) (zeros now texts : List (List ℕ)) (found : Option ℕ) → zeros ≡ replicate (k + r) (zero_row len)
    → ((n : ℕ) → HaveLength n zeros → HoldBytes zeros → AreRowsFilled n (length zeros) texts now found) → AreRowsFilled len (k + r) texts now found
filled_is k r len zeros now texts found is told =
    let lengths : HaveLength len zeros = subst (HaveLength len) (sym is) (All-replicate (λ row. length row ≡ len) (k + r) (zero_row len) (length-replicate len 0)) in
    let bytes : HoldBytes zeros = subst HoldBytes (sym is) (All-replicate (λ row. All (λ x. x < 256) row) (k + r) (zero_row len) (zero_row_bytes len)) in
    let count : length zeros ≡ k + r = ap length is ∙ length-replicate (k + r) (zero_row len) in
    subst (λ (n : ℕ). AreRowsFilled len n texts now found) count (told len lengths bytes)

begins : (k r len : ℕ) (rows : List (List ℕ)) → AreSizes k r → 1 ≤ len → len ≤ 4096 → length rows ≤ k + r → HaveLength len rows → HoldBytes rows → Begin (header_line k r ∷ map encode_lower rows)
begins k r len rows sizes some most few lengths bytes =
    let zeros : List (List ℕ) = replicate (k + r - length rows) (zero_row len) in
    let form : IsAsked (record { k = k; r = r; rows = rows ++ zeros }) = record {
      sizes = sizes;
      count = length-append rows zeros ∙ omega (arith, few, length-replicate (k + r - length rows) (zero_row len));
      len = len;
      some = some;
      most = most;
      lengths = All-append (λ row. length row ≡ len) rows zeros lengths (All-replicate (λ row. length row ≡ len) (k + r - length rows) (zero_row len) (length-replicate len 0));
      bytes = All-append (λ row. All (λ x. x < 256) row) rows zeros bytes (All-replicate (λ row. All (λ x. x < 256) row) (k + r - length rows) (zero_row len) (zero_row_bytes len));
    } in
    record { asked = record { k = k; r = r; rows = rows ++ zeros }; form = form; others = map encode_lower zeros; are = ap (λ (ts : List (List ℕ)). header_line k r ∷ ts) (map-append encode_lower rows zeros) }

smallest : AreSizes 1 1
smallest = record { some_data = omega arith; few_data = omega arith; some_parities = omega arith; few_parities = omega arith }

-- no line at all begins
begin_none : Begin []
begin_none =
    let one = begins 1 1 1 [] smallest (omega arith) (omega arith) (omega arith) (All-nil (λ row. length row ≡ 1)) (All-nil (λ row. All (λ x. x < 256) row)) in
    record { asked = one.asked; form = one.form; others = asked_lines one.asked; are = refl }

-- a header begins
begin_header : (k r : ℕ) → AreSizes k r → Begin (header_line k r ∷ [])
begin_header k r sizes = begins k r 1 [] sizes (omega arith) (omega arith) (omega arith) (All-nil (λ row. length row ≡ 1)) (All-nil (λ row. All (λ x. x < 256) row))

-- ---- what has these lines

-- the text behind some of them is that of the row there
next_row : (xs ys : List (List ℕ)) (t : List ℕ) (others : List (List ℕ)) → map encode_lower xs ≡ (ys ++ t ∷ []) ++ others → (length ys < length xs) × (t ≡ encode_lower (get_or xs (length ys) []))
next_row [] [] t others e = absurd cc
next_row [] (y ∷ ys) t others e = absurd cc
next_row (x ∷ xs) [] t others e = (omega arith, cc)
next_row (x ∷ xs) (y ∷ ys) t others e =
    let tails : map encode_lower xs ≡ (ys ++ t ∷ []) ++ others = cc in
    let rest = next_row xs ys t others tails in
    (omega (arith, rest.0), rest.1)

-- the first text is that of the first row
first_row : (xs ys : List (List ℕ)) (t first : List ℕ) (others ts more : List (List ℕ)) → map encode_lower xs ≡ (ys ++ t ∷ []) ++ others → ys ++ t ∷ ts ≡ first ∷ more
    → (0 < length xs) × (first ≡ encode_lower (get_or xs 0 []))
first_row [] [] t first others ts more e f = absurd cc
first_row [] (y ∷ ys) t first others ts more e f = absurd cc
first_row (x ∷ xs) [] t first others ts more e f = (omega arith, cc)
first_row (x ∷ xs) (y ∷ ys) t first others ts more e f = (omega arith, cc)

row_spelled : (a : Asked) (form : IsAsked a) (i : ℕ) (text : List ℕ) → i < length a.rows → text ≡ encode_lower (get_or a.rows i []) → SpellsRow form.len text (get_or a.rows i [])
row_spelled a form i text within is = record { long = form.lengths i [] within; bytes = form.bytes i [] within; text_is = is }

heads_same : (x y : List ℕ) (xs ys : List (List ℕ)) → x ∷ xs ≡ y ∷ ys → (x ≡ y) × (xs ≡ ys)
heads_same x y xs ys e = (cc, cc)

-- ---- the bad line of rows

module _ (bytes header text : List ℕ) (k r : ℕ) (sizes : AreSizes k r) (is_header : header ≡ header_line k r) (cut : lines_of bytes ≡ header ∷ lines_of text) (short : length bytes ≤ 1048576) where
  lines_are : lines_of bytes ≡ header_line k r ∷ lines_of text
  lines_are = cut ∙ ap (λ (line : List ℕ). line ∷ lines_of text) is_header

  -- what has this header has its sizes
  has_count : (a : Asked) → IsAsked a → (others : List (List ℕ)) → asked_lines a ≡ header_line k r ∷ others → (length a.rows ≡ k + r) × (map encode_lower a.rows ≡ others)
  has_count a form others e =
      let both = heads_same (header_line a.k a.r) (header_line k r) (map encode_lower a.rows) others e in
      let same = one_header a.k a.r k r form.sizes sizes both.0 in
      (omega (arith, form.count, same.0, same.1), both.1)

  missing_first : lines_of text ≡ [] → IsBadLine bytes 2
  missing_first none = record {
    before = header_line k r ∷ [];
    after = [];
    lines = lines_are ∙ ap (λ (ts : List (List ℕ)). header_line k r ∷ ts) none;
    begin = begin_header k r sizes;
    stop = λ all.
        let has = has_count all.asked all.form [] all.are in
        let empty : length (map encode_lower all.asked.rows) ≡ 0 = ap length has.1 in
        omega (arith, has.0, empty, length-map all.asked.rows encode_lower, sizes.some_data);
    number = refl;
  }

  bad_first : (line : List ℕ) (behind : List (List ℕ)) → lines_of text ≡ line ∷ behind → IsNoRow line → IsBadLine bytes 2
  bad_first line behind is none = record {
    before = header_line k r ∷ [];
    after = line ∷ behind;
    lines = lines_are ∙ ap (λ (ts : List (List ℕ)). header_line k r ∷ ts) is;
    begin = begin_header k r sizes;
    stop = λ on.
        let has = has_count on.asked on.form (line ∷ on.others) on.are in
        let next = next_row on.asked.rows [] line on.others has.1 in
        none on.form.len on.form.some on.form.most (get_or on.asked.rows 0 []) (row_spelled on.asked on.form 0 line next.0 next.1);
    number = refl;
  }

  module _ (len : ℕ) (first : List ℕ) (more : List (List ℕ)) (is_first : lines_of text ≡ first ∷ more) (some : 1 ≤ len) (most : len ≤ 4096)
      (long : (n : ℕ) (row : List ℕ) → SpellsRow n first row → n ≡ len) where
    stop_before : (rows behind : List (List ℕ)) → lines_of text ≡ map encode_lower rows ++ behind → StopsBehind len (k + r) rows behind → StopBefore (header_line k r ∷ map encode_lower rows) behind
    stop_before rows [] are fewer = λ all.
        let has = has_count all.asked all.form (map encode_lower rows) all.are in
        omega (arith, has.0, ap length has.1, length-map all.asked.rows encode_lower, length-map rows encode_lower, fewer)
    stop_before rows (line ∷ behind) are none = λ on.
        let texts : List (List ℕ) = map encode_lower rows in
        let has = has_count on.asked on.form ((texts ++ line ∷ []) ++ on.others) on.are in
        let next = next_row on.asked.rows texts line on.others has.1 in
        let at_first = first_row on.asked.rows texts line first on.others behind more has.1 (sym are ∙ is_first) in
        let same : on.form.len ≡ len = long on.form.len (get_or on.asked.rows 0 []) (row_spelled on.asked on.form 0 first at_first.0 at_first.1) in
        let spelled = row_spelled on.asked on.form (length texts) line next.0 next.1 in
        none (omega (arith, has.0, next.0, length-map rows encode_lower)) (get_or on.asked.rows (length texts) []) (record { long = spelled.long ∙ same; bytes = spelled.bytes; text_is = spelled.text_is })

    stops_at : (i : ℕ) → StopsAt len (k + r) (lines_of text) i → IsBadLine bytes (i + 2)
    stops_at i at = record {
      before = header_line k r ∷ map encode_lower at.rows;
      after = at.behind;
      lines = lines_are ∙ ap (λ (ts : List (List ℕ)). header_line k r ∷ ts) at.are;
      begin = begins k r len at.rows sizes some most (omega (arith, at.few, at.counted)) at.lengths at.bytes;
      stop = stop_before at.rows at.behind at.are at.stops;
      number = omega (arith, at.counted, length-map at.rows encode_lower);
    }

  bad_rows : (line : ℕ) → BadRows (k + r) (lines_of text) line → IsFirstBad bytes line
  bad_rows line (BadRows.NoLine none at) = inr (short, rw at (missing_first none))
  bad_rows line (BadRows.NoRow text_is behind is none at) = inr (short, rw at (bad_first text_is behind is none))
  bad_rows line (BadRows.Stops len first behind is some most long i stops at) = inr (short, rw at (stops_at len first behind is some most long i stops))

  rows_read : (a : Asked) → a.k ≡ k → a.r ≡ r → IsAsked a → lines_of text ≡ map encode_lower a.rows → Spells bytes a
  rows_read a same_k same_r form are = record {
    short = short;
    form = form;
    text = lines_are ∙ ap (λ (line : List ℕ). line ∷ lines_of text) (sym (ap (λ (n : ℕ). header_line n a.r) same_k ∙ ap (header_line k) same_r)) ∙ ap (λ (ts : List (List ℕ)). header_line a.k a.r ∷ ts) are;
  }

  pub reading_is : (reading : Reading) → AreRowsRead k r (lines_of text) reading → IsReading bytes reading
  reading_is (Read a) (same_k, same_r, form, are) = rows_read a same_k same_r form are
  reading_is (Bad line) bad = bad_rows line bad

-- ---- the header

pub no_header : (bytes header text : List ℕ) → lines_of bytes ≡ header ∷ lines_of text → length bytes ≤ 1048576 → ((k r : ℕ) → AreSizes k r → header ≡ header_line k r → ⊥) → IsFirstBad bytes 1
no_header bytes header text cut short none =
    let bad : IsBadLine bytes 1 = record {
      before = [];
      after = header ∷ lines_of text;
      lines = cut;
      begin = begin_none;
      stop = λ on. none on.asked.k on.asked.r on.form.sizes (sym (heads_same (header_line on.asked.k on.asked.r) header (map encode_lower on.asked.rows) on.others on.are).0);
      number = refl;
    } in
    inr (short, bad)

pub no_lines : (bytes : List ℕ) → lines_of bytes ≡ [] → length bytes ≤ 1048576 → IsFirstBad bytes 1
no_lines bytes none short =
    let bad : IsBadLine bytes 1 = record {
      before = [];
      after = [];
      lines = none;
      begin = begin_none;
      stop = λ all. not_nil all.asked all.are;
      number = refl;
    } in
    inr (short, bad)
  where
    not_nil : (a : Asked) → asked_lines a ≡ [] → ⊥
    not_nil a e = absurd cc
