-- The batch that is leaving, and its parities.
use Rattle.std.specs.Prelude.{◌≡◌, ℕ, ◌*◌, Bool, true, false, List, [], Option, None, Some, length, map}
use Rattle.cb_gf256.specs.Rows.{HaveLength}
use Rattle.cb_member.specs.declared.names.Shard.{Shard}
use Rattle.cb_world.specs.declared.leaving.Former.{Former}

-- the parities of a batch, which are as many from its begin on: whether they are made, the table of
-- their rows, and the table in which the data rows are read that they are made of, where it is kept
pub record ParitiesState : Type 0 where
  pub made : Bool
  pub rows : List (List ℕ)
  pub source : Option (List (List ℕ))

-- rows of which nothing is seen until they are made
abbrev pub shown_rows : Bool → List (List ℕ) → List (List ℕ)
shown_rows true rows = rows
shown_rows false rows = map (λ row. []) rows

-- a table for the data rows of so many spans, of so many pages each
pub record HasSource (pages spans : ℕ) (p : ParitiesState) : Type 0 where
  pub table : List (List ℕ)
  pub kept : p.source ≡ Some table
  pub count : length table ≡ spans
  pub lengths : HaveLength (4096 * pages) table

-- the parities of so many spans, of so many pages each: their rows are as long as the spans, and
-- until they are made there is a table for the data rows
pub record AreRoomy (pages spans : ℕ) (p : ParitiesState) : Type 0 where
  pub lengths : HaveLength (4096 * pages) p.rows
  pub room : p.made ≡ false → HasSource pages spans p

-- the parities, made of these rows, where no data rows are kept any more
abbrev pub made_of : List (List ℕ) → ParitiesState
made_of rows = record { made = true; rows = rows; source = None }

-- the number of its set; the pages of each of its spans; the first frames of these, the position of
-- a span being its place here; the words of its objects before the begin; whether its parities are
-- made, and these, each blank until they are; and by position the shard whose row was put, where one
-- was
pub record LeavingState : Type 0 where
  pub set : ℕ
  pub pages : ℕ
  pub frames : List ℕ
  pub words : List Former
  pub made : Bool
  pub parities : List (List ℕ)
  pub shards : List (Option Shard)
