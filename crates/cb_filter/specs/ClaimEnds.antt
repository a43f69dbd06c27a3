-- How a filter of a claimed object ends.
use Rattle.std.specs.Prelude.{◌≡◌, ◌≢◌, ◌⊎◌, ℕ, Bool, false, List, [], slice_set}
use Rattle.cb_ptr.specs.Word.{hot_of, len_of, place_of}
use Rattle.cb_types.specs.declared.reply.Reply.{Reply}
use Rattle.cb_world.specs.declared.object.Object.TheVariants as is
use Rattle.cb_world.specs.declared.access.Access.{Access}
use Rattle.cb_world.specs.declared.shown.Shown.{Shown}
use Rattle.cb_world.specs.Memory.{put}
use Rattle.cb_world.specs.Played.{played}
use Rattle.cb_world.specs.Looks.{NoLook, LooksFirst, told_by}
use Rattle.cb_world.specs.Touches.{SettlesLast}
use Rattle.cb_world.specs.Allowed.{Allowed}
use Rattle.cb_world.specs.Written.{Writes}
use Rattle.cb_world.specs.Claimed.{IsClaimedAt, with_settled}
use Rattle.cb_world.specs.FarState.{FarState}
use Rattle.cb_world.specs.Placed.{Slot, IsChosen, place_in}
use Rattle.cb_filter.specs.Seats.{Seat, temp_for}
use Rattle.cb_filter.specs.FilterRule.{IsInPlace, HasNoSlot, GetsSlot}
use Rattle.cb_filter.specs.Copies.{IsVacant}
use Rattle.cb_filter.specs.Plans.{LiesAtPlace}

-- what is known of the claimed object: it may lie in each slot that it could get
pub record IsKnownAt (s : Shown) (far : FarState) (h word v : ℕ) (words : List ℕ) : Type 0 where
  pub claimed : IsClaimedAt s h word v words
  pub vacant : (seat : Seat) (slot : Slot) → LiesAtPlace far (place_of word) seat
      → seat.span.temp ≢ temp_for (hot_of word)
      → IsChosen far seat.span.class (temp_for (hot_of word)) slot
      → IsVacant s h word (place_in slot)

-- The events after the claim, which the desk ran: none looks at the object or claims one, and its
-- word is settled last. And for all that is known: they are allowed, and end so.
pub record ClaimEnds (runs : List Access → Type 0) (knows : Shown → ℕ → List ℕ → Type 0) (h : ℕ)
    (ends : List Access → Shown → Shown → List ℕ → Type 0) : Type 0 where
  pub events : List Access
  pub ran : runs events
  pub no_look : NoLook h events
  pub looks_first : LooksFirst events
  pub settles_last : SettlesLast events
  pub quiet : (s : Shown) → told_by events s ≡ s
  pub allowed : (s : Shown) (v : ℕ) (words : List ℕ) → knows s v words → Allowed s events
  pub ends_so : (s : Shown) (v : ℕ) (words : List ℕ) → knows s v words
      → ends events s (played events s) words

-- the object is settled where it was, hot or not, and no version is written
pub record IsSettledBack (s : Shown) (h word : ℕ) (hot : Bool) (es : List Access) (t : Shown)
    : Type 0 where
  pub settled : t ≡ with_settled s h word hot
  pub nothing : Writes es s []

-- the object is here at another place, not hot, and its words stand there
abbrev pub with_carried : Shown → ℕ → ℕ → ℕ → List ℕ → Shown
with_carried s h word place words = record s {
  objects = slice_set s.objects h (is.Here (len_of word) place);
  hots = slice_set s.hots h false;
  memory = put s.memory place words;
}

pub record IsCarried (s : Shown) (h word place : ℕ) (words : List ℕ) (es : List Access) (t : Shown)
    : Type 0 where
  pub settled : t ≡ with_carried s h word place words
  pub nothing : Writes es s []

-- by what becomes of the object, which stands in this slot
abbrev pub SeatEnds : ℕ → FarState → FarState → ℕ → ℕ → Seat → Reply → List Access → Shown → Shown
    → List ℕ → Type 0
SeatEnds frames far new h w seat r es s t words =
    (IsInPlace far new (temp_for (hot_of w)) seat r × IsSettledBack s h w false es t)
    ⊎ ((HasNoSlot frames far new (temp_for (hot_of w)) seat r × IsSettledBack s h w (hot_of w) es t)
    ⊎ ((slot : Slot) × GetsSlot far new (temp_for (hot_of w)) seat h slot r
    × IsCarried s h w (place_in slot) words es t))

-- whichever slot is known to lie at the object's place
abbrev pub FilterEnds : ℕ → FarState → FarState → ℕ → ℕ → Reply → List Access → Shown → Shown
    → List ℕ → Type 0
FilterEnds frames far new h w r es s t words = (seat : Seat) → LiesAtPlace far (place_of w) seat
    → SeatEnds frames far new h w seat r es s t words
