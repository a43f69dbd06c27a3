-- The list of an array in a pass, and what each call on it asks.
use Rattle.std.specs.Prelude.{ℕ, ◌+◌, ◌-◌, ◌*◌, ◌/◌, ◌%◌, ◌≤◌, ◌==◌, ◌≡◌, ◌≢◌, Bool, true, false, if◌then◌else◌, List, [], ◌∷◌, ◌++◌, length, replicate, slice_get, slice_index, slice_set, take, Option, None}
use Rattle.std.specs.List.{AllByRecursion, flat_map}
use Rattle.byteorder.specs.Endian.{little_bytes}
use Rattle.cb_types.specs.declared.config.Config.{Config}
use Rattle.cb_world.specs.declared.entry.Entry.{Entry}
use Rattle.cb_rule.specs.declared.view.View.{View}
use Rattle.cb_rule.specs.Lists.{Has}
use Rattle.cb_farmap.specs.declared.array.FarArray.{FarArray}
use Rattle.cb_farmap.specs.declared.kept.Cannot.{Cannot}
use Rattle.cb_farmap.specs.declared.kept.KeptObject.{KeptObject}
use Rattle.cb_farmap.specs.Calls.{Answers, Ask, AskMake, AskRead, AskWrite}
use Rattle.cb_farmap.specs.Changes.{AreLoose, AreSole, GoesOn, IsCalm, Makes, Rewrites, with_next}
use Rattle.cb_farmap.specs.Objects.{AreApart, IsObject, numbers_at, object_at}
use Rattle.cb_farmap.specs.Stops.{stop_behind}

-- the first numbers of its objects at their kept versions, in order
abbrev pub list_of : View → FarArray → List ℕ
list_of v a = take a.len (flat_map (numbers_at v.written) a.kept)

-- the pass has each object of the array at its kept version as written, none of them stands twice,
-- and they have room for its numbers
pub record IsArrayOf (v : View) (a : FarArray) : Type 0 where
  pub objects : AllByRecursion (IsObject v.written) a.kept
  pub apart : AreApart a.kept
  pub within : a.len ≤ 128 * length a.kept

-- an array without numbers, objects and stop
abbrev pub no_array : FarArray
no_array = record { kept = []; len = 0; stop = None }

-- with what was told
abbrev pub told_so : FarArray → Option Cannot → FarArray
told_so a t = record a { stop = stop_behind a.stop t }

-- ---- what a call asks

-- a read of the object that has this number
abbrev pub get_plan : List KeptObject → ℕ → List Ask
get_plan ks i = AskRead (object_at ks (i / 128)) ∷ []

-- a write into it
abbrev pub set_plan : List KeptObject → ℕ → ℕ → List Ask
set_plan ks i x = AskWrite (object_at ks (i / 128)) (8 * (i % 128)) (little_bytes 8 x) ∷ []

-- so many numbers fill all objects
abbrev pub is_full : List KeptObject → ℕ → Bool
is_full ks len = len == 128 * length ks

-- the bytes of an object that has this number and zeros after it
abbrev pub bytes_with : ℕ → List ℕ
bytes_with x = little_bytes 8 x ++ replicate 1016 0

-- a make of such an object
abbrev pub make_plan : ℕ → List Ask
make_plan x = AskMake (bytes_with x) ∷ []

-- a write after the last number, or a make where all objects are full
abbrev pub push_plan : List KeptObject → ℕ → ℕ → List Ask
push_plan ks len x =
    if is_full ks len then make_plan x else set_plan ks len x

-- a read of the last number's object, if there is one
abbrev pub pop_plan : List KeptObject → ℕ → List Ask
pop_plan ks len = if len == 0 then [] else get_plan ks (len - 1)

-- ---- what a call leaves

-- the objects of which the one with this number was written
abbrev pub with_written : List KeptObject → ℕ → List KeptObject
with_written ks i = slice_set ks (i / 128) (with_next (object_at ks (i / 128)))

-- this number was written, and nothing else
pub record WritesNumber (ks : List KeptObject) (i x : ℕ) (later : List KeptObject) (v w : View)
    : Type 0 where
  pub kept : later ≡ with_written ks i
  pub wrote : Rewrites v.written (object_at ks (i / 128)) (with_next (object_at ks (i / 128)))
      (8 * (i % 128)) (little_bytes 8 x) w.written

-- a number was put after so many: an object was made where all were full, else one was written
abbrev pub PutsNumber : Bool → List KeptObject → ℕ → ℕ → List KeptObject → View → View → Type 0
PutsNumber true ks len x later v w = Makes v.written ks later (bytes_with x) w.written
PutsNumber false ks len x later v w = WritesNumber ks len x later v w

-- the last of a list, and the list without it
abbrev pub last_of : List ℕ → Option ℕ
last_of xs = slice_get xs (length xs - 1)

abbrev pub but_last : List ℕ → List ℕ
but_last xs = take (length xs - 1) xs

-- ---- an array that nobody else has

-- nobody else has its objects, for the pass has the whole share and wrote each of them last; it has
-- no pin on them, and the array has not stopped
pub record IsCalmArray (v : View) (a : FarArray) : Type 0 where
  pub whole : v.share ≡ 64
  pub going : a.stop ≡ None
  pub sole : AreSole v a.kept
  pub loose : AreLoose v a.kept

-- ---- what each call comes to: v and a are the record and the array before, w and b after it

-- What each keeps to, whatever it is answered: the array stays one of the pass; the calls made are
-- those of the plan, and none where an answer is given for good; and nothing is told of other
-- writers, of a freed object, of pins or of a range where nobody else has its objects, which stays.
pub record Keeps (c : Config) (first : ℕ) (plan : List Ask) (t : Option Cannot) (v : View)
    (a : FarArray) (w : View) (b : FarArray) : Type 0 where
  pub array : IsArrayOf w b
  pub calls : Answers c first a.stop plan t v w
  pub on : GoesOn v w
  pub calm : IsCalmArray v a → IsCalm t × AreSole w b.kept

-- one that is not answered: the list is as it was, and so is the array, but for the stop
pub record Stays (t : Option Cannot) (v : View) (a : FarArray) (w : View) (b : FarArray) : Type 0
  where
    pub list : list_of w b ≡ list_of v a
    pub left : b ≡ told_so a t

-- the number with this index
pub record IsGot (i x : ℕ) (v : View) (a : FarArray) (w : View) (b : FarArray) : Type 0 where
  pub number : x ≡ slice_index (list_of v a) i
  pub list : list_of w b ≡ list_of v a
  pub left : b ≡ a

-- a number in the place of the one with this index, in a later version of its object
pub record IsSet (i x : ℕ) (v : View) (a : FarArray) (w : View) (b : FarArray) : Type 0 where
  pub list : list_of w b ≡ slice_set (list_of v a) i x
  pub left : b ≡ record a { kept = with_written a.kept i }

-- a number more: in a later version of an object, or, where all were full, in an object more, of
-- which the pass had written nothing
pub record IsPushed (x : ℕ) (v : View) (a : FarArray) (w : View) (b : FarArray) : Type 0 where
  pub list : list_of w b ≡ list_of v a ++ x ∷ []
  pub len : b.len ≡ a.len + 1
  pub stop : b.stop ≡ a.stop
  pub room : is_full a.kept a.len ≡ false → b.kept ≡ with_written a.kept a.len
  pub full : is_full a.kept a.len ≡ true → (k : KeptObject) × (b.kept ≡ a.kept ++ k ∷ [])
      × ((e : Entry) → Has e v.written → e.handle ≢ k.handle.n)

-- the last number, which the list has no more; none of an empty list
pub record IsPopped (o : Option ℕ) (v : View) (a : FarArray) (w : View) (b : FarArray) : Type 0
  where
    pub number : o ≡ last_of (list_of v a)
    pub list : list_of w b ≡ but_last (list_of v a)
    pub left : b ≡ record a { len = a.len - 1 }
