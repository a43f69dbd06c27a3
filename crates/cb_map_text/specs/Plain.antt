-- The plain list and the plain map that answer commands.
use Rattle.std.specs.Prelude.{ℕ, ◌+◌, ◌-◌, ◌*◌, ◌/◌, ◌%◌, max, Bool, true, false, not, ◌&&◌, if◌then◌else◌, List, [], ◌∷◌, ◌++◌, length, take, replicate, slice_get, slice_index, slice_set, nat_lt, ◌==◌, Option, Some, None, is_some, sum_by}
use Rattle.std.specs.FinMap as map
use Rattle.std.specs.Ordering.{nat_cmp}
use Rattle.cb_map_text.specs.declared.command.FarAnswer.{FarAnswer}
use Rattle.cb_map_text.specs.declared.command.FarAnswer.TheVariants.{Done, Number, Nothing, Outside, Refused}
use Rattle.cb_map_text.specs.declared.command.FarCommand.{FarCommand}
use Rattle.cb_map_text.specs.declared.command.FarCommand.TheVariants.{Push, Set, Get, Pop, Put, Look, Drop}

-- A list and a map, and for each of 64 buckets how many pairs of the map have a key that belongs
-- there; beside them the greatest length of the list so far, and the greatest count of each bucket.
pub record Plain : Type 0 where
  pub list : List ℕ
  pub pairs : map.FinMap nat_cmp ℕ
  pub counts : List ℕ
  pub longest : ℕ
  pub fullest : List ℕ

-- no number and no pair
abbrev pub fresh : Plain
fresh = record {
  list = [];
  pairs = map.empty;
  counts = replicate 64 0;
  longest = 0;
  fullest = replicate 64 0;
}

-- the bucket to which a key belongs
abbrev pub bucket_of : ℕ → ℕ
bucket_of key = key % 64

-- how many pairs stand in the bucket of a key
abbrev pub count_at : Plain → ℕ → ℕ
count_at s key = slice_index s.counts (bucket_of key)

-- how many stood there at the most
abbrev pub most_at : Plain → ℕ → ℕ
most_at s key = slice_index s.fullest (bucket_of key)

-- whether the map has the key
abbrev pub has_key : Plain → ℕ → Bool
has_key s key = is_some (map.get s.pairs key)

-- ---- what is said

-- the number that was found, if one was
abbrev pub found_said : Option ℕ → FarAnswer
found_said None = Nothing
found_said (Some n) = Number n

-- what is said of an index: what there is to say within the list, else the list's length
abbrev pub within_said : Plain → ℕ → FarAnswer → FarAnswer
within_said s i said = if nat_lt i (length s.list) then said else Outside (length s.list)

-- the answer of the plain list and the plain map
abbrev pub plain_said : Plain → FarCommand → FarAnswer
plain_said s (Push x) = Done
plain_said s (Set i x) = within_said s i Done
plain_said s (Get i) = within_said s i (Number (slice_index s.list i))
plain_said s Pop = found_said (slice_get s.list (length s.list - 1))
plain_said s (Put key x) = found_said (map.get s.pairs key)
plain_said s (Look key) = found_said (map.get s.pairs key)
plain_said s (Drop key) = found_said (map.get s.pairs key)

-- ---- what is then

-- with this list
abbrev pub with_list : Plain → List ℕ → Plain
with_list s list = record s { list = list; longest = max s.longest (length list) }

-- with these pairs, so many of which are in the bucket of this key
abbrev pub with_pairs : Plain → ℕ → map.FinMap nat_cmp ℕ → ℕ → Plain
with_pairs s key pairs count = record s {
  pairs = pairs;
  counts = slice_set s.counts (bucket_of key) count;
  fullest = slice_set s.fullest (bucket_of key) (max (most_at s key) count);
}

-- the list and the map after a command
abbrev pub plain_after : Plain → FarCommand → Plain
plain_after s (Push x) = with_list s (s.list ++ x ∷ [])
plain_after s (Set i x) = with_list s (slice_set s.list i x)
plain_after s (Get i) = s
plain_after s Pop = with_list s (take (length s.list - 1) s.list)
plain_after s (Put key x) =
    with_pairs s key (map.insert s.pairs key x)
    (if has_key s key then count_at s key else count_at s key + 1)
plain_after s (Look key) = s
plain_after s (Drop key) =
    with_pairs s key (map.remove s.pairs key)
    (if has_key s key then count_at s key - 1 else count_at s key)

-- the list and the map after a command that was told so: as they were where it was refused
abbrev pub after_said : Plain → FarCommand → FarAnswer → Plain
after_said s command (Refused reply) = s
after_said s command said = plain_after s command

-- the list and the map after commands that were told so, one after another
abbrev pub after_all : Plain → List FarCommand → List FarAnswer → Plain
after_all s (command ∷ commands) (said ∷ saids) =
    after_all (after_said s command said) commands saids
after_all s commands saids = s

-- ---- objects

-- the least number of objects that have room for n, where each has room for so many
abbrev pub objects_for : ℕ → ℕ → ℕ
objects_for n room = (n + room - 1) / room

-- How many objects were made: of 128 numbers each for the longest list so far, and for each
-- bucket of 64 pairs each for the most that it had.
abbrev pub objects : Plain → ℕ
objects s = objects_for s.longest 128 + sum_by (λ most. objects_for most 64) s.fullest

-- whether the command needs an object more: the list, or the bucket of a new key, fills all it has
abbrev pub needs_object : Plain → FarCommand → Bool
needs_object s (Push x) = length s.list == 128 * objects_for s.longest 128
needs_object s (Put key x) =
    not (has_key s key) && (count_at s key == 64 * objects_for (most_at s key) 64)
needs_object s command = false

-- Whether the command reads, writes or makes an object: not where its index is outside, where the
-- list that it pops is empty, or where the bucket in which it looks or drops is.
abbrev pub calls_something : Plain → FarCommand → Bool
calls_something s (Push x) = true
calls_something s (Set i x) = nat_lt i (length s.list)
calls_something s (Get i) = nat_lt i (length s.list)
calls_something s Pop = nat_lt 0 (length s.list)
calls_something s (Put key x) = true
calls_something s (Look key) = nat_lt 0 (count_at s key)
calls_something s (Drop key) = nat_lt 0 (count_at s key)
