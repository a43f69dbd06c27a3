-- What is fetched before a span is brought in.
use Rattle.std.specs.Prelude.{◌≡◌, ℕ, List, Option, None, Some, false, length, if◌then◌else◌}
use Rattle.std.specs.Borrow.{Bor}
use Rattle.cb_class.specs.Class.{pages_of}
use Rattle.cb_gf256.specs.Rows.{row_at}
use Rattle.cb_member.specs.declared.names.Loss.{Loss}
use Rattle.cb_set.specs.SetState.{SetState, position_of}
use Rattle.cb_set.specs.Lost.{lost}
use Rattle.cb_span.specs.declared.temp.Temp.TheVariants.{Hot}
use Rattle.cb_span.specs.Contents.{Contents, IsSpan}
use Rattle.cb_world.specs.SetWord.{IsWordOf, is_broken}
use Rattle.cb_world.specs.FarState.{FarState}
use Rattle.cb_world.specs.Sets.{set_in}
use Rattle.cb_world.specs.Fetched.{rows_needed, with_rows_given}
use Rattle.cb_world.specs.declared.access.Access.{Access}
use Rattle.cb_world.specs.declared.shown.Shown.{Shown}
use Rattle.cb_swapin.specs.Named.{AreCleared}
use Rattle.cb_swapin.specs.Brings.{BringsSlots}
use Rattle.cb_swapin.specs.Waiting.{AreWaiting}
use Rattle.cb_swapin.specs.BroughtIn.{Brought, IsSpanBrought}

-- what the set has lost, where it has lost more shards than it has parities
abbrev pub losses_told : FarState → SetState → Option (List Loss)
losses_told far set = if is_broken far.members set then Some (lost far.members set.shards) else None

-- the far state once so many rows more were given out
abbrev pub far_given : FarState → ℕ → FarState
far_given far n = record far { nodes = with_rows_given far.nodes n }

-- the span is hot, of the length of the set, and has the slots of the position
pub record IsSpanOf (set : SetState) (p : ℕ) (span : Contents) : Type 0 where
  pub valid : IsSpan span
  pub hot : span.temp ≡ Hot
  pub pages : pages_of span.class ≡ set.pages
  pub slots : span.slots ≡ (position_of set p).slots

-- such a span, and the row is that of the set's word
pub record IsFetched (far : FarState) (set : SetState) (p : ℕ) (span : Contents) (row : List ℕ)
    : Type 0 where
  pub valid : IsSpan span
  pub hot : span.temp ≡ Hot
  pub pages : pages_of span.class ≡ set.pages
  pub slots : span.slots ≡ (position_of set p).slots
  pub row_of : (rows : List (List ℕ)) → IsWordOf far.nodes far.members set rows
      → row ≡ row_at rows p

-- how many rows are given out to bring a position in: none where its row is at hand, else as many as
-- are needed
abbrev pub rows_taken : Option (Bor (List ℕ)) → FarState → SetState → ℕ → ℕ
rows_taken None far set p = rows_needed far.members set p
rows_taken (Some row) far set p = 0

-- and how many at most, where there was no memory
abbrev pub rows_lacked : Option (Bor (List ℕ)) → SetState → ℕ
rows_lacked None set = length set.positions
rows_lacked (Some row) set = 0

-- the row is the one at hand, where one is
abbrev pub IsAtHand : Option (Bor (List ℕ)) → List ℕ → Type 0
IsAtHand None row = Unit {0}
IsAtHand (Some given) row = row ≡ given.now

-- a row at hand is that of the set's word at the position, where the set is not broken
abbrev pub IsRowOf : Option (Bor (List ℕ)) → FarState → ℕ → ℕ → Type 0
IsRowOf None far id p = Unit {0}
IsRowOf (Some row) far id p = (set : SetState) → set_in far.sets id ≡ Some set
    → is_broken far.members set ≡ false → (rows : List (List ℕ))
    → IsWordOf far.nodes far.members set rows → row.now ≡ row_at rows p

-- The row of the position was brought into the frames from this one on, from its node, made of
-- others or at hand: as many rows were given out as that takes, the objects of the span are here and
-- have no home, and nothing else changed.
pub record BringsRow (runs : List Access → Type 0) (shows : Shown → Type 0) (far new : FarState)
    (set : SetState) (p f : ℕ) (span : Contents) (given : Option (Bor (List ℕ))) : Type 0 where
  pub row : List ℕ
  pub fetched : IsFetched far set p span row
  pub at_hand : IsAtHand given row
  pub homes : AreCleared span.slots far.homes new.homes
  pub state : new ≡ record (far_given far (rows_taken given far set p)) { homes = new.homes }
  pub brought : Brought runs (λ s. shows s × AreWaiting s f span.class span.slots row)
      (BringsSlots span.slots f (pages_of span.class)) (IsSpanBrought span.slots span.class f row)
