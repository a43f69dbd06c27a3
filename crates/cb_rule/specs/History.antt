-- The history of all objects: one list of the entries that were written, in the order in which they
-- were settled, the newest first.
use Rattle.std.specs.Prelude.{◌≡◌, ◌⊎◌, ℕ, ◌+◌, ◌≤◌, ◌&&◌, Bool, true, false, cond, eqb, List, []}
use Rattle.std.specs.Prelude.{◌∷◌, ◌++◌, length}
use Rattle.cb_world.specs.declared.entry.Entry.{Entry}

-- what an object has at a version
pub record Value : Type 0 where
  pub len : ℕ
  pub freed : Bool
  pub words : List ℕ

-- so many bytes, in these words
abbrev pub holding_words : ℕ → List ℕ → Value
holding_words len words = record { len = len; freed = false; words = words }

-- none: it is freed, or was never made
abbrev pub no_value : Value
no_value = record { len = 0; freed = true; words = [] }

abbrev pub value_of : Entry → Value
value_of e = record { len = e.len; freed = e.freed; words = e.after }

-- the entry of a version
abbrev pub is_version : ℕ → ℕ → Entry → Bool
is_version h k e = eqb e.handle h && eqb e.version k

-- the version of the object's newest entry, and 0 where it has none
abbrev pub top : List Entry → ℕ → ℕ
top [] h = 0
top (e ∷ es) h = cond (eqb e.handle h) e.version (top es h)

-- the value of that entry
abbrev pub newest : List Entry → ℕ → Value
newest [] h = no_value
newest (e ∷ es) h = cond (eqb e.handle h) (value_of e) (newest es h)

-- the object is made: it has no entry yet, and gets the first version
pub record IsMadeEntry (first version : ℕ) (e : Entry) : Type 0 where
  pub never : version ≡ 0
  pub number : e.version ≡ first
  pub kept : e.freed ≡ false
  pub nothing : e.before ≡ []

-- the object is written or freed: it gets the next version, and keeps its length until it is freed
pub record IsChanged (version : ℕ) (value : Value) (e : Entry) : Type 0 where
  pub there : value.freed ≡ false
  pub number : e.version ≡ version + 1
  pub past : e.before ≡ value.words
  pub same_len : e.freed ≡ false → e.len ≡ value.len
  pub ends : e.freed ≡ true → value_of e ≡ no_value

-- the entry may come next, where its object's newest one has this version and this value
abbrev pub Follows : ℕ → ℕ → Value → Entry → Type 0
Follows first version value e = IsMadeEntry first version e ⊎ IsChanged version value e

-- each entry may come after those before it
abbrev pub IsEntryHistory : ℕ → List Entry → Type 0
IsEntryHistory first [] = Unit {0}
IsEntryHistory first (e ∷ es) =
    Follows first (top es e.handle) (newest es e.handle) e × IsEntryHistory first es

-- this was the object's newest version, with this value, when the history had at least since
-- entries and at most until
pub record WasNow (es : List Entry) (since until h version : ℕ) (value : Value) : Type 0 where
  pub newer : List Entry
  pub older : List Entry
  pub parts : es ≡ newer ++ older
  pub low : since ≤ length older
  pub high : length older ≤ until
  pub last : top older h ≡ version
  pub has : newest older h ≡ value
