-- Rows that may be asked about, and which bytes spell them.
use Rattle.std.specs.Prelude.{◌≡◌, ℕ, ◌+◌, ◌≤◌, List, [], ◌∷◌, length, map, codes}
use Rattle.std.specs.List.{join_with_byte}
use Rattle.hex.specs.Hex.{encode_lower}
use Rattle.cb_gf256.specs.Rows.{HaveLength, HoldBytes}
use Rattle.cb_script.specs.Spelling.{lines_of, setting}
use Rattle.cb_scrub_text.specs.declared.asked.Asked.{Asked}

-- 1 to 16 data rows, and 1 to 4 parities
pub record AreSizes (k r : ℕ) : Type 0 where
  pub some_data : 1 ≤ k
  pub few_data : k ≤ 16
  pub some_parities : 1 ≤ r
  pub few_parities : r ≤ 4

-- k data rows and r parities, all of one length from 1 to 4,096 bytes
pub record IsAsked (a : Asked) : Type 0 where
  pub sizes : AreSizes a.k a.r
  pub count : length a.rows ≡ a.k + a.r
  pub len : ℕ
  pub some : 1 ≤ len
  pub most : len ≤ 4096
  pub lengths : HaveLength len a.rows
  pub bytes : HoldBytes a.rows

-- the words of the header: `scrub`, the version and the two sizes, each under its name
abbrev pub header_words : ℕ → ℕ → List (List ℕ)
header_words k r =
    codes "scrub" ∷ codes "1" ∷ setting (codes "k") k ∷ setting (codes "r") r ∷ []

-- the header, its words with one space between them
unfoldable pub header_line : ℕ → ℕ → List ℕ
header_line k r = join_with_byte 32 (header_words k r)

-- the lines: the header, and each row in lower-case hexadecimal
abbrev pub asked_lines : Asked → List (List ℕ)
asked_lines a = header_line a.k a.r ∷ map encode_lower a.rows

-- The bytes spell what is asked, and they are no longer than they may be.
pub record Spells (bytes : List ℕ) (a : Asked) : Type 0 where
  pub short : length bytes ≤ 1048576
  pub form : IsAsked a
  pub text : lines_of bytes ≡ asked_lines a
