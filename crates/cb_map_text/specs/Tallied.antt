-- Which plain lists and maps there are with their numbers.
use Rattle.std.specs.Prelude.{◌≡◌, ℕ, ◌+◌, ◌<◌, ◌≤◌, ◌==◌, ◌&&◌, if◌then◌else◌, List, [], ◌∷◌, length, slice_index}
use Rattle.cb_map_text.specs.Plain.{Plain, bucket_of, has_key}

-- There are 64 buckets, and neither the list nor a bucket is above the most that is told of it.
pub record IsTallied (s : Plain) : Type 0 where
  pub longest : length s.list ≤ s.longest
  pub buckets : length s.counts ≡ 64
  pub each : length s.fullest ≡ 64
  pub fullest : (bucket : ℕ) → slice_index s.counts bucket ≤ slice_index s.fullest bucket

-- how often the key stands among these
abbrev pub times_in : ℕ → List ℕ → ℕ
times_in key [] = 0
times_in key (k ∷ ks) = (if k == key then 1 else 0) + times_in key ks

-- these are the keys of the map that belong into the bucket: each stands once, and no other one does
abbrev pub AreKeysIn : Plain → ℕ → List ℕ → Type 0
AreKeysIn s bucket keys = (key : ℕ) → times_in key keys
    ≡ (if (bucket_of key == bucket) && has_key s key then 1 else 0)

-- each bucket counts its keys
abbrev pub IsCounted : Plain → Type 0
IsCounted s = (bucket : ℕ) → bucket < 64
    → (keys : List ℕ) × AreKeysIn s bucket keys × (slice_index s.counts bucket ≡ length keys)
