-- What the search of one object of a bucket finds.
use Rattle.std.specs.Prelude.{◌≡◌, ℕ, ◌+◌, ◌*◌, ◌<◌, ◌≤◌, List, Option, Some, None}
use Rattle.cb_world.specs.declared.entry.Entry.{Entry}
use Rattle.cb_farmap.specs.declared.bucket.Bucket.{Bucket}
use Rattle.cb_farmap.specs.declared.find.Found.{Found}
use Rattle.cb_farmap.specs.Buckets.{pairs_in}
use Rattle.cb_farmap.specs.Objects.{bytes_at, object_at}
use Rattle.cb_farmap.specs.Pairs.{pair_of}

-- no pair of the bucket from one index up to another has the key
abbrev pub NoneFrom : List Entry → Bucket → ℕ → ℕ → ℕ → Type 0
NoneFrom es b key from to = (i : ℕ) → from ≤ i → i < to → i < b.count
    → (pair_of (pairs_in es b) i).0 ≡ key → ⊥

-- the first pair of the object with this index that has the key, and the bytes of the object
abbrev pub SeeksIn : List Entry → Bucket → ℕ → ℕ → Option Found → Type 0
SeeksIn es b o key None = NoneFrom es b key (64 * o) (64 * o + 64)
SeeksIn es b o key (Some found) = (64 * o ≤ found.place) × (found.place < 64 * o + 64)
    × (found.place < b.count) × ((pair_of (pairs_in es b) found.place).0 ≡ key)
    × NoneFrom es b key (64 * o) found.place × (found.bytes ≡ bytes_at es (object_at b.kept o))
