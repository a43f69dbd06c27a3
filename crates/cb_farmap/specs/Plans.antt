-- Which calls the calls on a map make, in order.
use Rattle.std.specs.Prelude.{ℕ, ◌+◌, ◌-◌, ◌*◌, ◌/◌, ◌%◌, ◌==◌, Bool, if◌then◌else◌, List, [], ◌∷◌, ◌++◌, length, map, take, Option, Some, None}
use Rattle.cb_map_text.specs.Plain.{objects_for}
use Rattle.cb_world.specs.declared.entry.Entry.{Entry}
use Rattle.cb_farmap.specs.declared.bucket.Bucket.{Bucket}
use Rattle.cb_farmap.specs.declared.kept.KeptObject.{KeptObject}
use Rattle.cb_farmap.specs.Buckets.{all_pairs, pairs_in}
use Rattle.cb_farmap.specs.Calls.{Ask, AskMake, AskRead, AskWrite}
use Rattle.cb_farmap.specs.Objects.{object_at}
use Rattle.cb_farmap.specs.PairBytes.{object_bytes, pair_bytes}
use Rattle.cb_farmap.specs.Pairs.{Pair, pair_of, place_of}

-- how many objects are read, by where the key stands: those that hold pairs, up to the one that has
-- it
abbrev pub objects_to : ℕ → Option ℕ → ℕ
objects_to count None = objects_for count 64
objects_to count (Some place) = place / 64 + 1

-- the reads of a search
abbrev pub reads_to : Bucket → Option ℕ → List Ask
reads_to b place = map AskRead (take (objects_to b.count place) b.kept)

-- what a look asks
abbrev pub look_plan : List Entry → Bucket → ℕ → List Ask
look_plan es b key = reads_to b (place_of key (pairs_in es b))

-- ---- a put

-- a write of a pair into the place with this index
abbrev pub write_at : List KeptObject → ℕ → Pair → Ask
write_at ks place p = AskWrite (object_at ks (place / 64)) (16 * (place % 64)) (pair_bytes p)

-- so many pairs fill all objects
abbrev pub is_filled : List KeptObject → ℕ → Bool
is_filled ks count = count == 64 * length ks

-- a write after the last pair, or a make where all objects are full
abbrev pub add_ask : List KeptObject → ℕ → Pair → Ask
add_ask ks count p =
    if is_filled ks count then AskMake (object_bytes p) else write_at ks count p

-- what a put asks after its reads: a write in the place of the key, or one pair more
abbrev pub put_ask : Bucket → Pair → Option ℕ → Ask
put_ask b p None = add_ask b.kept b.count p
put_ask b p (Some place) = write_at b.kept place p

abbrev pub put_plan : List Entry → Bucket → Pair → List Ask
put_plan es b p = look_plan es b p.0 ++ put_ask b p (place_of p.0 (pairs_in es b)) ∷ []

-- ---- a drop

-- what the last pair, which has this index, asks to be known where a key was found in a place: a
-- read where it stands in another object
abbrev pub last_asks : List KeptObject → ℕ → ℕ → List Ask
last_asks ks place last =
    if last / 64 == place / 64 then [] else AskRead (object_at ks (last / 64)) ∷ []

-- the last pair is moved into this place, where it is not there
abbrev pub move_asks : List Entry → List KeptObject → ℕ → ℕ → List Ask
move_asks es ks place last =
    if place == last then []
    else last_asks ks place last ++ write_at ks place (pair_of (all_pairs es ks) last) ∷ []

-- what a drop asks after its reads
abbrev pub drop_asks : List Entry → Bucket → Option ℕ → List Ask
drop_asks es b None = []
drop_asks es b (Some place) = move_asks es b.kept place (b.count - 1)

abbrev pub drop_plan : List Entry → Bucket → ℕ → List Ask
drop_plan es b key = look_plan es b key ++ drop_asks es b (place_of key (pairs_in es b))
