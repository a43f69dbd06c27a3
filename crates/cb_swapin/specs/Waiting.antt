-- Objects that wait to be brought in.
use Rattle.std.specs.Prelude.{◌≡◌, ℕ, ◌+◌, ◌*◌, ◌<◌, ◌≤◌, List, Option, length}
use Rattle.cb_class.specs.declared.class.Class.{Class}
use Rattle.cb_class.specs.Class.{IsClassOf, pages_of, words_of}
use Rattle.cb_span.specs.Places.{slot_place}
use Rattle.cb_world.specs.declared.object.Object.TheVariants as is
use Rattle.cb_world.specs.declared.shown.Shown.{Shown}
use Rattle.cb_world.specs.Memory.{window, words_for}
use Rattle.cb_world.specs.Shown.{Avoids, Covers, MayLie, object_at, version_at}
use Rattle.cb_world.specs.FrameWords.{LiesInRun}
use Rattle.cb_world.specs.RowWords.{words_in}
use Rattle.cb_swapin.specs.Named.{NamesHandle}

-- no object lies in the run of so many frames from this one on
pub record IsRunVacant (s : Shown) (f pages : ℕ) : Type 0 where
  pub within : 512 * (f + pages) ≤ length s.memory
  pub none : (p h : ℕ) → LiesInRun f pages p → Avoids p (object_at s h)

-- an object is far, and its words stand in a slot of the row
pub record WaitsInRow (s : Shown) (class : Class) (row : List ℕ) (slot h : ℕ) : Type 0 where
  pub len : ℕ
  pub version : ℕ
  pub words : List ℕ
  pub away : object_at s h ≡ is.Far len version words
  pub fits : IsClassOf len class
  pub stamp : version_at s h ≡ version
  pub contents : words ≡ window (words_in row) (slot * words_of class) (words_for len)
  pub handle : h < length s.objects
  pub flag : h < length s.hots

-- the frames of the span are vacant, and the named objects are far and stand in the row
pub record AreWaiting (s : Shown) (f : ℕ) (class : Class) (slots : List (Option ℕ))
    (row : List ℕ) : Type 0 where
  pub vacant : IsRunVacant s f (pages_of class)
  pub each : (slot h : ℕ) → NamesHandle slots slot h → WaitsInRow s class row slot h

-- a far object can be settled at a place: its words stand there, and no other object lies there
pub record IsReady (s : Shown) (h place : ℕ) : Type 0 where
  pub len : ℕ
  pub version : ℕ
  pub words : List ℕ
  pub away : object_at s h ≡ is.Far len version words
  pub stamp : version_at s h ≡ version
  pub contents : window s.memory place (words_for len) ≡ words
  pub alone : (p : ℕ) → Covers place len p → MayLie s h p

-- an object is far, and its words stand in a slot of the span at the frame
pub record IsStored (s : Shown) (f : ℕ) (class : Class) (slot h : ℕ) : Type 0 where
  pub len : ℕ
  pub version : ℕ
  pub words : List ℕ
  pub away : object_at s h ≡ is.Far len version words
  pub fits : IsClassOf len class
  pub stamp : version_at s h ≡ version
  pub contents : window s.memory (slot_place class f slot) (words_for len) ≡ words
  pub handle : h < length s.objects
  pub flag : h < length s.hots

-- the frames of the span are vacant, and the words of the named objects stand there
pub record AreStored (s : Shown) (f : ℕ) (class : Class) (slots : List (Option ℕ)) : Type 0 where
  pub vacant : IsRunVacant s f (pages_of class)
  pub each : (slot h : ℕ) → NamesHandle slots slot h → IsStored s f class slot h
