-- What is made of bytes.
use Rattle.std.specs.Prelude.{◌≡◌, ℕ, List, [], ◌∷◌, ◌++◌, codes}
use Rattle.std.specs.List.{flat_map}
use Rattle.std.specs.Fmt.{decimal}
use Rattle.hex.specs.Hex.{encode_lower}
use Rattle.cb_scrub.specs.declared.found.Found.{Found}
use Rattle.cb_scrub.specs.declared.found.Found.TheVariants.{Clean, One, Many}
use Rattle.cb_scrub.specs.Wrong.{IsWordBut}
use Rattle.cb_scrub.specs.Finds.{IsFinding}
use Rattle.cb_cli.specs.declared.verdict.Verdict.{Verdict}
use Rattle.cb_cli.specs.declared.verdict.Verdict.TheVariants.{Done, Refused}
use Rattle.cb_scrub_text.specs.declared.asked.Asked.{Asked}
use Rattle.cb_scrub_text.specs.Form.{Spells}
use Rattle.cb_scrub_text.specs.FirstBad.{IsFirstBad}

-- a row in lower-case hexadecimal, and a line feed
abbrev pub row_text : List ℕ → List ℕ
row_text row = encode_lower row ++ 10 ∷ []

-- the position of the row that was made right, and all rows
abbrev pub mended_text : ℕ → List (List ℕ) → List ℕ
mended_text position rows =
    codes "mended " ++ (decimal position ++ (codes "\n" ++ flat_map row_text rows))

-- the power and the column of a syndrome, and its value in two hexadecimal digits
abbrev pub many_text : ℕ → ℕ → ℕ → List ℕ
many_text power column sum =
    codes "many "
    ++ (decimal power ++ (codes " " ++ (decimal column ++ (codes " " ++ row_text (sum ∷ [])))))

-- the refusal, with a line's number
abbrev pub refusal_text : ℕ → List ℕ
refusal_text line = codes "scrub line " ++ (decimal line ++ codes " refused\n")

-- the text that tells a finding; where one row was wrong, it has the rows of the code word that
-- agrees with all others
abbrev pub TellsFound : Asked → Found → List ℕ → Type 0
TellsFound a Clean text = text ≡ codes "clean\n"
TellsFound a (One position) text =
    (word : List (List ℕ)) × IsWordBut a.r a.rows position word
    × (text ≡ mended_text position word)
TellsFound a (Many power column sum) text = text ≡ many_text power column sum

-- the text tells what the rows are
pub record FindsAndTells (a : Asked) (text : List ℕ) : Type 0 where
  pub found : Found
  pub is_found : IsFinding a.r a.rows found
  pub told : TellsFound a found text

-- the bytes spell rows, and the text tells what these are
pub record Yields (bytes text : List ℕ) : Type 0 where
  pub asked : Asked
  pub spelled : Spells bytes asked
  pub tells : FindsAndTells asked text

-- the bytes are outside the form, and the text tells the first line that is
pub record Refuses (bytes text : List ℕ) : Type 0 where
  pub line : ℕ
  pub first : IsFirstBad bytes line
  pub text_is : text ≡ refusal_text line

-- the bytes spell rows
pub record Accepts (bytes : List ℕ) : Type 0 where
  pub asked : Asked
  pub spelled : Spells bytes asked

-- rows are examined, and other bytes are refused
abbrev pub IsVerdict : List ℕ → Verdict → Type 0
IsVerdict bytes (Done text) = Yields bytes text
IsVerdict bytes (Refused text) = Refuses bytes text
