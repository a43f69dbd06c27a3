-- What the calls make of the rows of a buffer.
use Rattle.std.proofs.Common.{◌≡◌, ℕ, ◌+◌, ◌-◌, ◌*◌, ◌^◌, ◌<◌, ◌≤◌, Bool, List, [], ◌++◌, length, take, drop, get_or, All, Contains, sym, ap, ap₂, ◌∙◌, subst, arith}
use Rattle.std.specs.Bool.{IsTrue}
use Rattle.std.proofs.lemmas.List.{get_or_default}
use Rattle.std.proofs.lemmas.List.Elements.{All-drop, All-set}
use Rattle.cb_gf256.specs.Rows.{row_at, rows_at, HaveLength, HoldBytes, AreRows}
use Rattle.cb_gf256.specs.Block.{cut_rows}
use Rattle.cb_gf256.specs.CodeWord.{IsCodeWord}
use Rattle.cb_gf256.specs.Combination.{AreCombinations}
use Rattle.cb_gf256.specs.InRange.{IsInRange}
use Rattle.cb_code.specs.Coefficients.{AreCoefficients}
use Rattle.cb_gf256.specs.Positions.{ArePositions}
use Rattle.cb_gf256.proofs.PublicLaws.{row_at_positions}
use Rattle.cb_erase.specs.Weights.{IsSolution}
use Rattle.cb_scrub.specs.declared.found.Found.{Found}
use Rattle.cb_scrub.specs.declared.found.Found.TheVariants.{Clean}
use Rattle.cb_scrub.specs.Finds.{IsFinding, IsMended}
use Rattle.cb_scrub.specs.Mended.{mended, row_of_others}
use Rattle.cb_scrub.specs.Wrong.{HaveParities, IsOneWrong, IsWordBut}
use Rattle.cb_scrub.proofs.Laws.{have_parities, length-others, near_word, one_finding}
use Rattle.carbink_c.specs.Made.{AreParities, IsMendedAt, IsOnlySolution}
use Rattle.carbink_c.specs.Found.{IsOnlyFinding}
use Rattle.carbink_c.proofs.Cutting.{cut_bytes, cut_count, cut_lengths, cut_long, cut_split}

-- the rows that are cut from a buffer are as many as the code's table is wide
pub table_wide : (k r len : ℕ) (given : List ℕ) (table rows : List (List ℕ)) → rows ≡ cut_rows k len given → AreCoefficients k r table → HaveLength (length rows) table
table_wide k r len given table rows are code = subst (λ n. HaveLength n table) (sym (ap length are ∙ cut_count k len given)) code.positions

-- rows that are cut from a buffer, and the sums that the code's table makes of them
pub record Encoded (k r len : ℕ) (given : List ℕ) (table rows made : List (List ℕ)) : Type 0 where
  pub in_range : IsInRange k r
  pub sized : length given ≡ k * len
  pub are : rows ≡ cut_rows k len given
  pub code : AreCoefficients k r table
  pub sums : AreCombinations table rows made

module _ (k r len : ℕ) (given : List ℕ) (table rows made : List (List ℕ)) (done : Encoded k r len given table rows made) where
  pub made_count : length made ≡ r
  made_count = done.sums.count ∙ done.code.parities

  given_count : length rows ≡ k
  given_count = ap length done.are ∙ cut_count k len given

  pub made_lengths : HaveLength len made
  made_lengths =
      let first : length (row_at rows 0) ≡ len = ap (λ xs. length (row_at xs 0)) done.are ∙ cut_long k len given 0 (omega (arith, done.in_range.data_least)) done.sized in
      subst (λ n. HaveLength n made) first done.sums.equal_lengths

  word_of : (others : List (List ℕ)) → IsCodeWord (length rows) (length table) (rows ++ others) → IsCodeWord k r (rows ++ others)
  word_of others h = subst (λ n. IsCodeWord n r (rows ++ others)) given_count (subst (λ n. IsCodeWord (length rows) n (rows ++ others)) done.code.parities h)

  of_word : (others : List (List ℕ)) → IsCodeWord k r (rows ++ others) → IsCodeWord (length rows) (length table) (rows ++ others)
  of_word others h = subst (λ n. IsCodeWord (length rows) n (rows ++ others)) (sym done.code.parities) (subst (λ n. IsCodeWord n r (rows ++ others)) (sym given_count) h)

  module _ (word : IsCodeWord (length rows) (length table) (rows ++ made)) (only : (others : List (List ℕ)) → HoldBytes others → IsCodeWord (length rows) (length table) (rows ++ others) → others ≡ made) where
    pub made_parities : AreParities k r rows made
    made_parities = record {
      sums = (table, done.code, done.sums);
      word = word_of made word;
      only = λ others bytes h. only others bytes (of_word others h);
    }

-- ---- rows that are held against their parities

-- whether the rows behind the data rows are the sums that the code's table makes of these tells
-- whether all are a code word
pub word_told : (k r len : ℕ) (rows : List ℕ) (table given made : List (List ℕ)) (behind : List ℕ) (same : Bool) → Encoded k r len (take (k * len) rows) table given made
    → IsCodeWord (length given) (length table) (given ++ made) → ((others : List (List ℕ)) → HoldBytes others → IsCodeWord (length given) (length table) (given ++ others) → others ≡ made)
    → behind ≡ drop (k * len) rows → All (λ x. x < 2 ^ 8) rows → (IsTrue same → cut_rows (length made) len behind ≡ made) × (cut_rows (length made) len behind ≡ made → IsTrue same)
    → (IsTrue same → IsCodeWord k r (cut_rows (k + r) len rows)) × (IsCodeWord k r (cut_rows (k + r) len rows) → IsTrue same)
word_told k r len rows table given made behind same done word only is bytes told =
    let count = made_count k r len (take (k * len) rows) table given made done in
    let parities = made_parities k r len (take (k * len) rows) table given made done word only in
    let cut : cut_rows (k + r) len rows ≡ given ++ cut_rows (length made) len behind =
    cut_split k r len rows ∙ ap₂ (λ xs ys. xs ++ ys) (sym done.are) (ap (cut_rows r len) (sym is) ∙ ap (λ n. cut_rows n len behind) (sym count)) in
    let held : HoldBytes (cut_rows (length made) len behind) = cut_bytes (length made) len behind (subst (All (λ x. x < 2 ^ 8)) (sym is) (All-drop (λ x. x < 2 ^ 8) (k * len) rows bytes)) in (
      λ yes_same. subst (IsCodeWord k r) (sym (cut ∙ ap (λ xs. given ++ xs) (told.0 yes_same))) parities.word,
      λ whole. told.1 (parities.only (cut_rows (length made) len behind) held (subst (IsCodeWord k r) cut whole)),
    )

-- ---- rows that are tested where they lie

-- the rows that are cut from a buffer for so many data rows
data_rows : (k r len : ℕ) (rows : List ℕ) (given : List (List ℕ)) → given ≡ cut_rows (k + r) len rows → k ≡ length given - r
data_rows k r len rows given are = let count : length given ≡ k + r = ap length are ∙ cut_count (k + r) len rows in omega arith

pub tested_shape : (k r len : ℕ) (rows : List ℕ) (given : List (List ℕ)) → given ≡ cut_rows (k + r) len rows → IsInRange k r → IsInRange (length given - r) r
tested_shape k r len rows given are = subst (λ n. IsInRange n r) (data_rows k r len rows given are)

-- the test of these rows, said of the buffer
pub tested_word : (k r len : ℕ) (rows : List ℕ) (given : List (List ℕ)) (told : Bool) → given ≡ cut_rows (k + r) len rows
    → (IsTrue told → IsCodeWord (length given - r) r given) × (IsCodeWord (length given - r) r given → IsTrue told)
    → (IsTrue told → IsCodeWord k r (cut_rows (k + r) len rows)) × (IsCodeWord k r (cut_rows (k + r) len rows) → IsTrue told)
tested_word k r len rows given told are test =
    let front : k ≡ length given - r = data_rows k r len rows given are in (
      λ is. subst (IsCodeWord k r) are (subst (λ n. IsCodeWord n r given) (sym front) (test.0 is)),
      λ whole. test.1 (subst (λ n. IsCodeWord n r given) front (subst (IsCodeWord k r) (sym are) whole)),
    )

-- ---- the rows of a code word, examined

cut_are_rows : (n len : ℕ) (block : List ℕ) → 0 < n → length block ≡ n * len → HoldBytes (cut_rows n len block) → AreRows (cut_rows n len block)
cut_are_rows n len block some sized bytes =
    record { equal_lengths = λ k d h. cut_lengths n len block sized k d h ∙ sym (cut_long n len block 0 some sized); bytes = bytes }

cut_parities : (k r len : ℕ) (rows : List ℕ) → IsInRange k r → length rows ≡ (k + r) * len → HoldBytes (cut_rows (k + r) len rows) → HaveParities r (cut_rows (k + r) len rows)
cut_parities k r len rows ranges sized bytes =
    let count = cut_count (k + r) len rows in
    have_parities r (cut_rows (k + r) len rows) (ranges.parities_least, ranges.parities_most)
    (omega (arith, count, ranges.data_least), omega (arith, count, ranges.data_most, ranges.parities_most))
    (cut_are_rows (k + r) len rows (omega (arith, ranges.data_least)) sized bytes)

pub clean_found : (k r len : ℕ) (rows : List ℕ) → IsInRange k r → length rows ≡ (k + r) * len → All (λ x. x < 2 ^ 8) rows → IsCodeWord k r (cut_rows (k + r) len rows)
    → IsOnlyFinding r (cut_rows (k + r) len rows) Clean
clean_found k r len rows ranges sized bytes whole =
    let cut = cut_rows (k + r) len rows in
    let front : k ≡ length cut - r = omega (arith, cut_count (k + r) len rows) in
    let have : HaveParities r cut = cut_parities k r len rows ranges sized (cut_bytes (k + r) len rows bytes) in
    let clean : IsFinding r cut Clean = subst (λ n. IsCodeWord n r cut) front whole in
    record {
      finding = clean;
      only = λ other found. one_finding r cut have other Clean found clean;
      near = λ position word two but. near_word r position cut word have two but Clean clean;
    }

pub found_by : (r : ℕ) (rows copied : List (List ℕ)) (found : Found) → copied ≡ rows → IsFinding r copied found → ((other : Found) → IsFinding r copied other → other ≡ found)
    → ((position : ℕ) (word : List (List ℕ)) → 2 ≤ r → IsWordBut r copied position word → IsMended copied position word found) → IsOnlyFinding r rows found
found_by r rows copied found is finding only near =
    subst (λ xs. IsOnlyFinding r xs found) is (record { finding = finding; only = only; near = near })

-- ---- lost rows made again

module _ (k r len : ℕ) (old present : List ℕ) (shown word : List (List ℕ)) (ranges : IsInRange k r) (sized : length old ≡ (k + r) * len) (positions : ArePositions (k + r) k present)
    (are : shown ≡ cut_rows (k + r) len old) (solution : IsSolution k r present (rows_at shown present) word) where
  abbrev first : ℕ
  first = get_or present 0 0

  pub word_lengths : HaveLength len word
  word_lengths =
      let lens = solution.is_word.equal_lengths in
      let some : 0 < length present = omega (arith, positions.count, ranges.data_least) in
      let below : get_or present 0 0 < k + r = positions.below 0 0 some in
      let at : row_at word first ≡ row_at shown first =
      sym (row_at_positions word present 0 some) ∙ ap (λ xs. row_at xs 0) solution.agrees ∙ row_at_positions shown present 0 some in
      let long : length (row_at word first) ≡ len = ap length at ∙ ap (λ xs. length (row_at xs first)) are ∙ cut_long (k + r) len old first below sized in
      let same : length (row_at word first) ≡ length (row_at word 0) = lens first [] (omega (arith, solution.is_word.count, below)) in
      subst (λ n. HaveLength n word) (sym same ∙ long) lens

  -- a row at a present position is the one that was given
  pub present_stands : (i : ℕ) → i < length word → Contains present i → row_at (cut_rows (length word) len old) i ≡ row_at word i
  present_stands i below (m, within, at) =
      let is : get_or present m 0 ≡ i = get_or_default present m 0 i within ∙ at in
      ap (λ n. row_at (cut_rows n len old) i) solution.is_word.count ∙ ap (λ xs. row_at xs i) (sym are) ∙ ap (row_at shown) (sym is)
      ∙ sym (row_at_positions shown present m within) ∙ ap (λ xs. row_at xs m) (sym solution.agrees) ∙ row_at_positions word present m within ∙ ap (row_at word) is

  pub solution_made : (now : List ℕ) → cut_rows (length word) len now ≡ word → ((other : List (List ℕ)) → HoldBytes other → IsSolution k r present (rows_at shown present) other → other ≡ word)
      → IsOnlySolution k r present (rows_at (cut_rows (k + r) len old) present) (cut_rows (k + r) len now)
  solution_made now put only =
      let is : cut_rows (k + r) len now ≡ word = subst (λ n. cut_rows n len now ≡ word) solution.is_word.count put in
      subst (λ xs. IsOnlySolution k r present (rows_at xs present) (cut_rows (k + r) len now)) are
      (subst (IsOnlySolution k r present (rows_at shown present)) (sym is) (record { solution = solution; only = only }))

-- ---- a row mended

pub mended_lengths : (len position : ℕ) (rows now : List (List ℕ)) → position < length rows → HaveLength len rows → now ≡ mended rows position → HaveLength len now
mended_lengths len position rows now inside lengths is =
    let long : length (row_of_others rows position) ≡ len = length-others rows position ∙ lengths 0 [] (omega (arith, inside)) in
    subst (HaveLength len) (sym is) (All-set (λ xs. length xs ≡ len) rows position (row_of_others rows position) long lengths)

pub mended_made : (k r len position : ℕ) (old now : List ℕ) (was is : List (List ℕ)) → IsInRange k r → length old ≡ (k + r) * len → was ≡ cut_rows (k + r) len old → HoldBytes was
    → is ≡ mended was position → length is ≡ length was → ((q : ℕ) → HaveParities q was → IsOneWrong q was position → IsWordBut q was position is)
    → ((q other : ℕ) (word : List (List ℕ)) → HaveParities q was → IsOneWrong q was position → IsWordBut q was other word → word ≡ is)
    → cut_rows (length is) len now ≡ is → IsMendedAt r (cut_rows (k + r) len old) position (cut_rows (k + r) len now)
mended_made k r len position old now was is ranges sized are bytes sum count word only put =
    let have : HaveParities r was = subst (HaveParities r) (sym are) (cut_parities k r len old ranges sized (subst HoldBytes are bytes)) in
    let whole : length is ≡ k + r = count ∙ ap length are ∙ cut_count (k + r) len old in
    let put_is : cut_rows (k + r) len now ≡ is = subst (λ n. cut_rows n len now ≡ is) whole put in
    subst (λ xs. IsMendedAt r xs position (cut_rows (k + r) len now)) are
    (subst (IsMendedAt r was position) (sym put_is)
    (record { sum = sum; word = λ wrong. word r have wrong; only = λ other found wrong but. only r other found have wrong but }))

-- ---- parities that are made in a buffer

-- a code's table, and the data rows that a buffer has for it
pub record Prepared (k len : ℕ) (given : List ℕ) (code rows : List (List ℕ)) : Type 0 where
  pub wide : length (row_at code 0) ≡ k
  pub coefficients : AreCoefficients (length (row_at code 0)) (length code) code
  pub in_range : IsInRange (length (row_at code 0)) (length code)
  pub sized : length given ≡ k * len
  pub are : rows ≡ cut_rows k len given

module _ (k len : ℕ) (given : List ℕ) (code rows : List (List ℕ)) (p : Prepared k len given code rows) where
  code_of : AreCoefficients k (length code) code
  code_of = subst (λ n. AreCoefficients n (length code) code) p.wide p.coefficients

  ranges : IsInRange k (length code)
  ranges = subst (λ n. IsInRange n (length code)) p.wide p.in_range

  pub as_long : length (row_at rows 0) ≡ len
  as_long = ap (λ xs. length (row_at xs 0)) p.are ∙ cut_long k len given 0 (omega (arith, ranges.data_least)) p.sized

  pub wide_enough : HaveLength (length rows) code
  wide_enough = table_wide k (length code) len given code rows p.are code_of

  pub parities_put : (made : List (List ℕ)) (now : List ℕ) → made ≡ cut_rows (length code) (length (row_at rows 0)) now → AreCombinations code rows made → IsCodeWord (length rows) (length code) (rows ++ made)
      → ((others : List (List ℕ)) → HoldBytes others → IsCodeWord (length rows) (length code) (rows ++ others) → others ≡ made)
      → AreParities k (length code) (cut_rows k len given) (cut_rows (length code) len now)
  parities_put made now is sums word only =
      subst (AreParities k (length code) (cut_rows k len given)) (is ∙ ap (λ n. cut_rows (length code) n now) as_long)
      (subst (λ xs. AreParities k (length code) xs made) p.are
      (made_parities k (length code) len given code rows made (record { in_range = ranges; sized = p.sized; are = p.are; code = code_of; sums = sums }) word only))
