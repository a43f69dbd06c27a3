-- Far maps in a pass as worked examples: what meets the definition, and what breaks a part alone.
use Rattle.std.proofs.Common.{◌≡◌, true, false, List, [], ◌∷◌, None, Some, refl, arith}
use Rattle.std.specs.List.{IsDistinct}
use Rattle.cb_world.specs.declared.entry.Entry.{Entry}
use Rattle.cb_rule.specs.declared.view.View.{View}
use Rattle.cb_farmap.specs.declared.bucket.Bucket.{Bucket}
use Rattle.cb_farmap.specs.declared.kept.KeptObject.{KeptObject}
use Rattle.cb_farmap.specs.Buckets.{IsBucket, bucket_in, no_bucket, with_bucket}
use Rattle.cb_farmap.specs.Calls.{AskMake, AskRead}
use Rattle.cb_farmap.specs.Maps.{IsMapOf, kept_of}
use Rattle.cb_farmap.specs.Objects.{AreApart}
use Rattle.cb_farmap.specs.PairBytes.{object_bytes, pair_bytes}
use Rattle.cb_farmap.specs.Plans.{add_ask, last_asks, put_ask, reads_to, write_at}
use Rattle.cb_farmap.proofs.FreshMap.{fresh_map}

-- ---- three buckets, of which a key has one
abbrev other : Bucket
other = record { kept = []; count = 7 }

own_bucket : bucket_in (no_bucket ∷ other ∷ no_bucket ∷ []) 4 ≡ other
own_bucket = refl

changed_bucket : with_bucket (no_bucket ∷ no_bucket ∷ no_bucket ∷ []) 5 other
    ≡ no_bucket ∷ no_bucket ∷ other ∷ []
changed_bucket = refl

-- ---- a map of the pass
one_bucket : (v : View) → IsMapOf v (record { buckets = no_bucket ∷ []; len = 0; stop = None })
one_bucket v = (fresh_map v 1 (omega arith)).0

-- without buckets
no_some : (v : View) → IsMapOf v (record { buckets = []; len = 0; stop = None }) → ⊥
no_some v is = let z = is.some in omega (arith, z)

-- of whose pairs one has no room
no_room : (es : List Entry) → IsBucket es (record { kept = []; count = 1 }) → ⊥
no_room es is = let z = is.within in omega (arith, z)

-- an object that stands twice, in two buckets
abbrev object : KeptObject
object = record { handle = record { n = 3 }; version = 1 }

abbrev with_object : Bucket
with_object = record { kept = object ∷ []; count = 0 }

not_apart : AreApart (kept_of (with_object ∷ with_object ∷ [])) → ⊥
unfolding IsDistinct
not_apart apart = let z : true ≡ false = apart.0.0 in cc

-- keys that are counted and are not there
no_counts : (v : View) → IsMapOf v (record { buckets = no_bucket ∷ []; len = 1; stop = None }) → ⊥
no_counts v is = let z : 1 ≡ 0 = is.counts in omega (arith, z)

-- ---- what is asked
abbrev first_object : KeptObject
first_object = record { handle = record { n = 5 }; version = 2 }

abbrev second_object : KeptObject
second_object = record { handle = record { n = 6 }; version = 9 }

-- 65 pairs in two objects
abbrev two_objects : Bucket
two_objects = record { kept = first_object ∷ second_object ∷ []; count = 65 }

all_read : reads_to two_objects None ≡ AskRead first_object ∷ AskRead second_object ∷ []
all_read = refl

first_read : reads_to two_objects (Some 63) ≡ AskRead first_object ∷ []
first_read = refl

-- a key is put over its pair, or behind the last one
over_written : put_ask two_objects (8, 9) (Some 64) ≡ write_at two_objects.kept 64 (8, 9)
over_written = refl

behind_written : put_ask two_objects (8, 9) None ≡ write_at two_objects.kept 65 (8, 9)
behind_written = refl

-- or into an object more, where all are full
more_made : add_ask (first_object ∷ []) 64 (8, 9) ≡ AskMake (object_bytes (8, 9))
more_made = refl

-- the last pair is read where it stands in another object
last_known : last_asks two_objects.kept 64 64 ≡ []
last_known = refl

last_read : last_asks two_objects.kept 3 64 ≡ AskRead second_object ∷ []
last_read = refl

-- ---- bytes
pair_spelled : pair_bytes (258, 3) ≡ 2 ∷ 1 ∷ 0 ∷ 0 ∷ 0 ∷ 0 ∷ 0 ∷ 0 ∷ 3 ∷ 0 ∷ 0 ∷ 0 ∷ 0 ∷ 0 ∷ 0 ∷ 0 ∷ []
pair_spelled = refl
