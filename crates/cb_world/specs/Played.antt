-- What is known after events, and which events agree with what is known.
use Rattle.std.specs.Prelude.{◌≡◌, ℕ, true, ◌^◌, ◌<◌, ◌≤◌, List, [], ◌∷◌, length, slice_index, slice_set}
use Rattle.cb_ptr.specs.declared.word.State.{State}
use Rattle.cb_ptr.specs.declared.word.State.TheVariants as word
use Rattle.cb_ptr.specs.Word.{state_of, hot_of, len_of, place_of}
use Rattle.cb_world.specs.declared.access.Access.{Access}
use Rattle.cb_world.specs.declared.access.Access.TheVariants.{Looked, Claimed, Told, Loaded, Stored, Stamped, Settled}
use Rattle.cb_world.specs.declared.object.Object.{Object}
use Rattle.cb_world.specs.declared.object.Object.TheVariants as is
use Rattle.cb_world.specs.declared.shown.Shown.{Shown}
use Rattle.cb_world.specs.Memory.{put, words_for}
use Rattle.cb_world.specs.Shown.{Fits, IsHeld, Owns, object_at, hot_at, version_at}

-- the object after its word was settled: freed, put away with its contents, or brought to a place
abbrev pub settled_by : State → ℕ → ℕ → Object → Object
settled_by word.Empty w version o = is.Empty version
settled_by word.Far w version (is.Empty v) = is.Far (len_of w) version []
settled_by word.Far w version (is.Far len v words) = is.Far (len_of w) version words
settled_by word.Far w version (is.Here len place) = is.Far (len_of w) version []
settled_by word.Far w version (is.Claimed len place v words) = is.Far (len_of w) version words
settled_by word.Here w version o = is.Here (len_of w) (place_of w)
settled_by word.Moving w version o = o

-- what is known after an event
abbrev pub after : Access → Shown → Shown
after (Looked h w) s = record s { hots = slice_set s.hots h (hot_of w) }
after (Claimed h w v words) s = record s {
  objects = slice_set s.objects h (is.Claimed (len_of w) (place_of w) v words);
  hots = slice_set s.hots h (hot_of w);
  versions = slice_set s.versions h v;
  memory = put s.memory (place_of w) words;
}
after (Stored p x) s = record s { memory = slice_set s.memory p x }
after (Stamped h v) s = record s { versions = slice_set s.versions h v }
after (Settled h w) s = record s {
  objects = slice_set s.objects h (settled_by (state_of w) w (version_at s h) (object_at s h));
  hots = slice_set s.hots h (hot_of w);
}
after _ s = s

-- what is known after events, the first one first
abbrev pub played : List Access → Shown → Shown
played [] s = s
played (e ∷ es) s = played es (after e s)

-- a word that was seen hot is hot: others set the bit and none clears it
abbrev pub StaysHot : Shown → ℕ → ℕ → Type 0
StaysHot s h w = hot_at s h ≡ true → hot_of w ≡ true

-- what an event tells agrees with what is known
abbrev pub Agrees : Shown → Access → Type 0
Agrees s (Looked h w) = Fits (object_at s h) w × StaysHot s h w
Agrees s (Claimed h w v words) = (object_at s h ≡ is.Here (len_of w) (place_of w))
    × StaysHot s h w × (w < 2 ^ 53) × (length words ≡ words_for (len_of w))
    × (version_at s h ≤ v)
Agrees s (Told h v) = IsHeld (object_at s h) → v ≡ version_at s h
Agrees s (Loaded p x) = Owns s p → x ≡ slice_index s.memory p
Agrees s _ = Unit {0}

-- each event agrees with what is known after those before it
abbrev pub Agree : Shown → List Access → Type 0
Agree s [] = Unit {0}
Agree s (e ∷ es) = Agrees s e × Agree (after e s) es
