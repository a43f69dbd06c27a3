-- Which versions of objects the events write.
use Rattle.std.specs.Prelude.{◌≡◌, ℕ, true, false, cond, eqb, List, [], ◌∷◌, ◌++◌}
use Rattle.cb_ptr.specs.declared.word.State.{State}
use Rattle.cb_ptr.specs.declared.word.State.TheVariants as word
use Rattle.cb_ptr.specs.Word.{state_of, len_of}
use Rattle.cb_world.specs.declared.entry.Entry.{Entry}
use Rattle.cb_world.specs.declared.access.Access.{Access}
use Rattle.cb_world.specs.declared.access.Access.TheVariants.{Settled}
use Rattle.cb_world.specs.declared.object.Object.{Object}
use Rattle.cb_world.specs.declared.object.Object.TheVariants as is
use Rattle.cb_world.specs.declared.shown.Shown.{Shown}
use Rattle.cb_world.specs.Shown.{object_at, version_at}
use Rattle.cb_world.specs.Settling.{settled_words}
use Rattle.cb_world.specs.Played.{after}

-- the object has these words at this version, and had others before
abbrev pub entry : ℕ → ℕ → ℕ → List ℕ → List ℕ → Entry
entry h v len before words = record {
  handle = h;
  version = v;
  len = len;
  freed = false;
  before = before;
  after = words;
}

-- the object is freed at this version
abbrev pub gone : ℕ → ℕ → List ℕ → Entry
gone h v before = record {
  handle = h;
  version = v;
  len = 0;
  freed = true;
  before = before;
  after = [];
}

-- the entry of the version n, where the object had another one
abbrev pub newer : ℕ → ℕ → ℕ → ℕ → List ℕ → List ℕ → List Entry
newer h n v len before words = cond (eqb n v) [] (entry h n len before words ∷ [])

-- by the state of the new word, and what was known of the object
abbrev pub adds_as : State → Shown → ℕ → ℕ → Object → List Entry
adds_as word.Empty s h w (is.Far len v words) = gone h (version_at s h) words ∷ []
adds_as word.Empty s h w (is.Claimed len place v words) = gone h (version_at s h) words ∷ []
adds_as word.Here s h w (is.Empty v) =
    entry h (version_at s h) (len_of w) [] (settled_words s w) ∷ []
adds_as word.Here s h w (is.Far len v words) =
    newer h (version_at s h) v (len_of w) words (settled_words s w)
adds_as word.Here s h w (is.Claimed len place v words) =
    newer h (version_at s h) v (len_of w) words (settled_words s w)
adds_as state s h w o = []

-- what an event writes: to settle an object writes its version, where that is a new one
abbrev pub adds : Access → Shown → List Entry
adds (Settled h w) s = adds_as (state_of w) s h w (object_at s h)
adds _ s = []

-- the entries with those that the events write, the newest first
abbrev pub written_by : List Access → Shown → List Entry → List Entry
written_by [] s old = old
written_by (e ∷ es) s old = written_by es (after e s) (adds e s ++ old)

-- the events write these entries and no others
abbrev pub Writes : List Access → Shown → List Entry → Type 0
Writes es s more = (old : List Entry) → written_by es s old ≡ more ++ old
