-- What is found in a bucket, and what a put and a drop leave of it.
use Rattle.std.specs.Prelude.{◌≡◌, ◌⊎◌, ℕ, ◌*◌, ◌/◌, ◌%◌, ◌^◌, ◌<◌, Bool, true, false, List, [], ◌∷◌, ◌++◌, length, slice_set, Option, Some, None, Result, Ok}
use Rattle.cb_world.specs.declared.entry.Entry.{Entry}
use Rattle.cb_farmap.specs.declared.bucket.Bucket.{Bucket}
use Rattle.cb_farmap.specs.declared.find.Found.{Found}
use Rattle.cb_farmap.specs.declared.kept.Cannot.{Cannot}
use Rattle.cb_farmap.specs.declared.kept.KeptObject.{KeptObject}
use Rattle.cb_farmap.specs.Buckets.{IsBucket, pairs_in}
use Rattle.cb_farmap.specs.Changes.{Makes, Rewrites, with_next}
use Rattle.cb_farmap.specs.Objects.{bytes_at, object_at}
use Rattle.cb_farmap.specs.PairBytes.{object_bytes, pair_bytes}
use Rattle.cb_farmap.specs.Pairs.{Pair, dropped, pair_of, place_of}

-- ---- what is found

-- a pair of the bucket in this place, and the bytes of its object
pub record IsFound (es : List Entry) (b : Bucket) (found : Found) : Type 0 where
  pub within : found.place < b.count
  pub bytes_are : found.bytes ≡ bytes_at es (object_at b.kept (found.place / 64))

-- the first pair with the key, or that there is none
abbrev pub FindsAt : List Entry → Bucket → ℕ → Option Found → Type 0
FindsAt es b key None = place_of key (pairs_in es b) ≡ None
FindsAt es b key (Some found) =
    (place_of key (pairs_in es b) ≡ Some found.place) × IsFound es b found

-- the value in a place
abbrev pub value_in : List Pair → Option ℕ → Option ℕ
value_in pairs None = None
value_in pairs (Some place) = Some (pair_of pairs place).1

-- the value of a key
abbrev pub value_of : List Entry → Bucket → ℕ → Option ℕ
value_of es b key = value_in (pairs_in es b) (place_of key (pairs_in es b))

-- ---- what becomes of the pairs

-- a pair is put in this place, or after the others
abbrev pub put_at : List Pair → Pair → Option ℕ → List Pair
put_at pairs p None = pairs ++ p ∷ []
put_at pairs p (Some place) = slice_set pairs place p

-- the pair in this place is dropped, if there is one
abbrev pub dropped_at : List Pair → Option ℕ → List Pair
dropped_at pairs None = pairs
dropped_at pairs (Some place) = dropped pairs place

-- those of the bucket with a pair put, and with a key dropped
abbrev pub put_in : List Entry → Bucket → Pair → List Pair
put_in es b p = put_at (pairs_in es b) p (place_of p.0 (pairs_in es b))

abbrev pub dropped_in : List Entry → Bucket → ℕ → List Pair
dropped_in es b key = dropped_at (pairs_in es b) (place_of key (pairs_in es b))

-- ---- what becomes of the objects

-- the objects of which the one with this place was written
abbrev pub with_pair : List KeptObject → ℕ → List KeptObject
with_pair ks place = slice_set ks (place / 64) (with_next (object_at ks (place / 64)))

-- this pair was written into this place, and nothing else
pub record WritesPair (es : List Entry) (ks : List KeptObject) (place : ℕ) (p : Pair)
    (later : List KeptObject) (new : List Entry) : Type 0 where
  pub key_fits : p.0 < 2 ^ 64
  pub value_fits : p.1 < 2 ^ 64
  pub kept : later ≡ with_pair ks place
  pub wrote : Rewrites es (object_at ks (place / 64)) (with_next (object_at ks (place / 64)))
      (16 * (place % 64)) (pair_bytes p) new

-- a pair was put after so many: an object was made where all were full, else one was written
abbrev pub AddsPair : Bool → List Entry → List KeptObject → ℕ → Pair → List KeptObject → List Entry
    → Type 0
AddsPair true es ks count p later new = Makes es ks later (object_bytes p) new
AddsPair false es ks count p later new = WritesPair es ks count p later new

-- a pair was moved into this place, where it is not there already
abbrev pub FillsGap : Bool → List Entry → List KeptObject → ℕ → Pair → List KeptObject → List Entry
    → Type 0
FillsGap true es ks place p later new = (later ≡ ks) × (new ≡ es)
FillsGap false es ks place p later new = WritesPair es ks place p later new

-- the objects as they were, one of them written once more, or one more
abbrev pub ChangesOne : List Entry → List KeptObject → List KeptObject → List Entry → Type 0
ChangesOne es ks later new = ((later ≡ ks) × (new ≡ es))
    ⊎ ((place : ℕ) × (p : Pair) × (place < 64 * length ks) × WritesPair es ks place p later new)
    ⊎ ((p : Pair) × Makes es ks later (object_bytes p) new)

-- the bucket has these pairs then
pub record Becomes (es : List Entry) (b later : Bucket) (pairs : List Pair) (new : List Entry)
    : Type 0 where
  pub bucket : IsBucket new later
  pub pairs_are : pairs_in new later ≡ pairs
  pub objects : ChangesOne es b.kept later.kept new

-- ---- how many more, and how many less

-- one key more, where a put was answered that there was none
abbrev pub added_by : Result (Option ℕ) Cannot → ℕ
added_by (Ok None) = 1
added_by other = 0

-- one less, where a drop was answered a value
abbrev pub removed_by : Result (Option ℕ) Cannot → ℕ
removed_by (Ok (Some x)) = 1
removed_by other = 0
