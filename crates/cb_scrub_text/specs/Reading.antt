-- What the parts of the reader answer.
use Rattle.std.specs.Prelude.{◌≡◌, ℕ, ◌+◌, ◌<◌, ◌≤◌, Bool, true, false, Option, None, Some, List, [], ◌∷◌, ◌++◌, length, map, slice_set, All}
use Rattle.hex.specs.Hex.{encode_lower}
use Rattle.cb_gf256.specs.Rows.{HaveLength, HoldBytes}
use Rattle.cb_scrub_text.specs.declared.reading.Reading.{Reading}
use Rattle.cb_scrub_text.specs.declared.reading.Reading.TheVariants.{Read, Bad}
use Rattle.cb_scrub_text.specs.Form.{IsAsked, Spells}
use Rattle.cb_scrub_text.specs.FirstBad.{IsFirstBad}

-- a row of so many bytes, which the text spells
pub record SpellsRow (len : ℕ) (text row : List ℕ) : Type 0 where
  pub long : length row ≡ len
  pub bytes : All (λ b. b < 256) row
  pub text_is : text ≡ encode_lower row

-- the text spells a row of so many bytes, which is the one at this place now, or it spells none
abbrev pub IsReadInto : ℕ → List (List ℕ) → ℕ → List ℕ → List (List ℕ) → Bool → Type 0
IsReadInto len before i text now true =
    (row : List ℕ) × SpellsRow len text row × (now ≡ slice_set before i row)
IsReadInto len before i text now false = (row : List ℕ) → SpellsRow len text row → ⊥

-- after so many rows a line is missing, or the next line spells no row of so many bytes or is one
-- too many
abbrev pub StopsBehind : ℕ → ℕ → List (List ℕ) → List (List ℕ) → Type 0
StopsBehind len count rows [] = length rows < count
StopsBehind len count rows (text ∷ texts) =
    length rows < count → (row : List ℕ) → SpellsRow len text row → ⊥

-- the lines spell this many rows of so many bytes, of count, and then no further one
pub record StopsAt (len count : ℕ) (texts : List (List ℕ)) (i : ℕ) : Type 0 where
  pub rows : List (List ℕ)
  pub behind : List (List ℕ)
  pub counted : length rows ≡ i
  pub few : i ≤ count
  pub lengths : HaveLength len rows
  pub bytes : HoldBytes rows
  pub are : texts ≡ map encode_lower rows ++ behind
  pub stops : StopsBehind len count rows behind

-- the lines spell these rows, count of them
pub record AreRowsOf (len count : ℕ) (texts rows : List (List ℕ)) : Type 0 where
  pub counted : length rows ≡ count
  pub lengths : HaveLength len rows
  pub bytes : HoldBytes rows
  pub are : texts ≡ map encode_lower rows

-- all rows are read, or it stopped at this one
abbrev pub AreRowsFilled : ℕ → ℕ → List (List ℕ) → List (List ℕ) → Option ℕ → Type 0
AreRowsFilled len count texts rows None = AreRowsOf len count texts rows
AreRowsFilled len count texts rows (Some i) = StopsAt len count texts i

-- no row of a length that may be has this text
abbrev pub IsNoRow : List ℕ → Type 0
IsNoRow text = (len : ℕ) → 1 ≤ len → len ≤ 4096 → (row : List ℕ) → SpellsRow len text row → ⊥

-- why the lines after a header are none that may be asked, and the number of the bad line: the
-- first row is missing or none, or the rows have the length of the first and stop
pub data BadRows (count : ℕ) (texts : List (List ℕ)) (line : ℕ) : Type 0 where
  NoLine : texts ≡ [] → line ≡ 2 → BadRows count texts line
  NoRow : (text : List ℕ) (behind : List (List ℕ)) → texts ≡ text ∷ behind → IsNoRow text
      → line ≡ 2 → BadRows count texts line
  Stops : (len : ℕ) (text : List ℕ) (behind : List (List ℕ)) → texts ≡ text ∷ behind
      → 1 ≤ len → len ≤ 4096
      → ((n : ℕ) (row : List ℕ) → SpellsRow n text row → n ≡ len) → (i : ℕ)
      → StopsAt len count texts i → line ≡ i + 2 → BadRows count texts line

-- what was read after a header of these sizes
abbrev pub AreRowsRead : ℕ → ℕ → List (List ℕ) → Reading → Type 0
AreRowsRead k r texts (Read a) =
    (a.k ≡ k) × (a.r ≡ r) × IsAsked a × (texts ≡ map encode_lower a.rows)
AreRowsRead k r texts (Bad line) = BadRows (k + r) texts line

-- what was read of bytes
abbrev pub IsReading : List ℕ → Reading → Type 0
IsReading bytes (Read a) = Spells bytes a
IsReading bytes (Bad line) = IsFirstBad bytes line
