-- What a swap-in does to the objects and the memory.
use Rattle.std.specs.Prelude.{◌≡◌, ℕ, List, [], Option, Some, length}
use Rattle.std.specs.Borrow.{Bor}
use Rattle.cb_class.specs.declared.class.Class.{Class}
use Rattle.cb_class.specs.Class.{IsClass, pages_of, slots_of}
use Rattle.cb_gf256.specs.Rows.{row_at}
use Rattle.cb_set.specs.SetState.{SetState, position_of}
use Rattle.cb_types.specs.declared.reply.Reply.{Reply}
use Rattle.cb_types.specs.declared.reply.Reply.TheVariants as answer
use Rattle.cb_world.specs.declared.access.Access.{Access}
use Rattle.cb_world.specs.declared.shown.Shown.{Shown}
use Rattle.cb_world.specs.Now.{now}
use Rattle.cb_world.specs.Sets.{set_in}
use Rattle.cb_world.specs.SetWord.{IsWordOf}
use Rattle.cb_world.specs.FarState.{FarState}
use Rattle.cb_world.specs.Written.{Writes}
use Rattle.cb_swapin.specs.BroughtIn.{IsSpanBrought}
use Rattle.cb_swapin.specs.Fetching.{IsAtHand}

-- The objects of the position are here in the span at the frame, and the row of the position in the
-- set's word stands there. No version is written, and the last complete contents of every handle stay.
pub record IsSwappedIn (id p f : ℕ) (far new : FarState) (es : List Access) (s t : Shown) : Type 0
  where
    pub set : SetState
    pub there : set_in far.sets id ≡ Some set
    pub class : Class
    pub in_table : IsClass class
    pub paged : pages_of class ≡ set.pages
    pub sized : length (position_of set p).slots ≡ slots_of class
    pub row : List ℕ
    pub of_word : (rows : List (List ℕ)) → IsWordOf far.nodes far.members set rows
        → row ≡ row_at rows p
    pub brought : IsSpanBrought (position_of set p).slots class f row s t
    pub nothing : Writes es s []
    pub same_now : (h : ℕ) → now t new h ≡ now s far h

-- what a swap-in with this reply does; a refusal changes nothing
abbrev pub SwapEffect : ℕ → ℕ → FarState → FarState → Reply → List Access → Shown → Shown → Type 0
SwapEffect id p far new (answer.Swapped f) es s t = IsSwappedIn id p f far new es s t
SwapEffect id p far new _ es s t = t ≡ s

-- so where a row is at hand: it is the one that stands there
abbrev pub BringsEffect : Option (Bor (List ℕ)) → ℕ → ℕ → FarState → FarState → Reply → List Access
    → Shown → Shown → Type 0
BringsEffect given id p far new (answer.Swapped f) es s t =
    (done : IsSwappedIn id p f far new es s t) × IsAtHand given done.row
BringsEffect given id p far new _ es s t = t ≡ s
