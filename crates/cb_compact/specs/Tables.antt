-- Which sets of positions have a candidate's live ones within them.
use Rattle.std.specs.Prelude.{◌≡◌, ℕ, ◌^◌, ◌<◌, ◌≤◌, true, false, Bool, List, Some, length, slice_get, slice_index_or, All}
use Rattle.std.specs.Int.{bit_at}
use Rattle.cb_compact.specs.declared.candidates.Candidate.{Candidate}
use Rattle.cb_compact.specs.declared.tables.Table.{Table}

-- each bit of the first number is one of the second
abbrev pub AreBitsWithin : ℕ → ℕ → Type 0
AreBitsWithin live mask = (i : ℕ) → bit_at live i ≤ bit_at mask i

-- a candidate has a bit for each of at most 16 positions
abbrev pub AreMasks : List Candidate → Type 0
AreMasks found = (i : ℕ) (c : Candidate) → slice_get found i ≡ Some c
    → (c.k ≤ 16) × (c.live < 2 ^ c.k)

-- the live positions of each candidate of this code and length are marked
abbrev pub AreMarked : List Candidate → ℕ → ℕ → ℕ → List Bool → Type 0
AreMarked found k r pages marks = (i : ℕ) (c : Candidate) → slice_get found i ≡ Some c → c.k ≡ k
    → c.r ≡ r → c.pages ≡ pages → slice_index_or marks c.live false ≡ true

-- an entry is marked wherever all live positions of a candidate of this code and length are among
-- its own
abbrev pub IsFilled : List Candidate → ℕ → ℕ → ℕ → List Bool → Type 0
IsFilled found k r pages marks = (i mask : ℕ) (c : Candidate) → slice_get found i ≡ Some c → c.k ≡ k
    → c.r ≡ r → c.pages ≡ pages → mask < 2 ^ k → AreBitsWithin c.live mask
    → slice_index_or marks mask false ≡ true

-- the table has an entry for each set of positions, and they are filled
pub record IsTable (found : List Candidate) (table : Table) : Type 0 where
  pub size : length table.marks.items ≡ 2 ^ table.k
  pub marked : IsFilled found table.k table.r table.pages table.marks.items

-- each is a table of these candidates
abbrev pub AreTables : List Candidate → List Table → Type 0
AreTables found tables = All (IsTable found) tables
