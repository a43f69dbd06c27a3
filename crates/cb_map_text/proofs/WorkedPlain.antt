-- Worked examples: what the plain list and the plain map answer, and how many objects they need.
use Rattle.std.proofs.Common.{◌≡◌, ℕ, zero, suc, ◌+◌, ◌*◌, ◌%◌, ◌≤◌, max, Bool, true, false, cond, not, ◌&&◌, List, [], ◌∷◌, length, replicate, Option, Some, None, is_some, refl, sym, ap, ◌∙◌, arith}
use Rattle.std.proofs.lemmas.Bool.{eq-eqb}
use Rattle.std.specs.Prelude.{slice_index, slice_set, sum_by, if◌then◌else◌, ◌==◌}
use Rattle.std.specs.Cmp.{nat_cmp_total}
use Rattle.std.specs.FinMap as map
use Rattle.std.specs.Ordering.{nat_cmp, eq_by_cmp, is_eq}
use Rattle.std.specs.declared.cmp.Ordering.{Ordering}
use Rattle.std.specs.declared.cmp.Ordering.TheVariants as order
use Rattle.std.proofs.lemmas.List.{length_push}
use Rattle.cb_types.specs.declared.reply.Reply.TheVariants.{Full}
use Rattle.cb_map_text.specs.Plain.{Plain, after_all, after_said, calls_something, found_said, fresh, has_key, needs_object, objects, objects_for, plain_after, plain_said, bucket_of}
use Rattle.cb_map_text.specs.Tallied.{AreKeysIn, IsCounted, IsTallied}
use Rattle.cb_map_text.specs.declared.command.FarAnswer.{FarAnswer}
use Rattle.cb_map_text.specs.declared.command.FarAnswer.TheVariants.{Done, Number, Nothing, Outside, Refused}
use Rattle.cb_map_text.specs.declared.command.FarCommand.{FarCommand}
use Rattle.cb_map_text.specs.declared.command.FarCommand.TheVariants.{Push, Set, Get, Pop, Put, Look, Drop}

abbrev Pairs : Type 0
Pairs = map.FinMap nat_cmp ℕ

-- ---- the list

-- this list, which was never longer
abbrev listed : List ℕ → Plain
listed list = record fresh { list = list; longest = length list }

pushed : plain_after (listed (7 ∷ [])) (Push 8) ≡ listed (7 ∷ 8 ∷ [])
pushed = refl

pushed_said : plain_said (listed (7 ∷ [])) (Push 8) ≡ Done
pushed_said = refl

set_in_place : plain_after (listed (7 ∷ 8 ∷ [])) (Set 0 9) ≡ listed (9 ∷ 8 ∷ [])
set_in_place = refl

set_said : plain_said (listed (7 ∷ 8 ∷ [])) (Set 1 9) ≡ Done
set_said = refl

-- an index at the length is outside, and changes nothing
set_outside : plain_after (listed (7 ∷ 8 ∷ [])) (Set 2 9) ≡ listed (7 ∷ 8 ∷ [])
set_outside = refl

set_outside_said : plain_said (listed (7 ∷ 8 ∷ [])) (Set 2 9) ≡ Outside 2
set_outside_said = refl

got : plain_said (listed (7 ∷ 8 ∷ [])) (Get 1) ≡ Number 8
got = refl

got_outside : plain_said (listed (7 ∷ 8 ∷ [])) (Get 2) ≡ Outside 2
got_outside = refl

got_of_none : plain_said fresh (Get 0) ≡ Outside 0
got_of_none = refl

popped_said : plain_said (listed (7 ∷ 8 ∷ [])) Pop ≡ Number 8
popped_said = refl

-- the longest list so far stays told
popped : plain_after (listed (7 ∷ 8 ∷ [])) Pop ≡ record fresh { list = 7 ∷ []; longest = 2 }
popped = refl

popped_of_none_said : plain_said fresh Pop ≡ Nothing
popped_of_none_said = refl

popped_of_none : plain_after fresh Pop ≡ fresh
popped_of_none = refl

-- ---- the map

-- a key that is another one
not_same : (q k : ℕ) → (q ≡ k → ⊥) → eq_by_cmp nat_cmp q k ≡ false
not_same q k ne = by (nat_cmp q k) refl
  where
    by : (o : Ordering) → nat_cmp q k ≡ o → eq_by_cmp nat_cmp q k ≡ false
    by order.Less e = ap is_eq e
    by order.Greater e = ap is_eq e
    by order.Equal e = absurd (ne (map.nat_cmp-IsAntisymmetric q k e))

abbrev six_at_5 : Pairs
six_at_5 = map.insert map.empty 5 6

abbrev seven_at_5 : Pairs
seven_at_5 = map.insert six_at_5 5 7

abbrev none_at_5 : Pairs
none_at_5 = map.remove seven_at_5 5

nothing_yet : map.get {X = ℕ} {R = nat_cmp} map.empty 5 ≡ None
nothing_yet = map.get-empty nat_cmp 5

six_found : map.get six_at_5 5 ≡ Some 6
six_found = map.get-insert nat_cmp_total map.empty 5 6 5

seven_found : map.get seven_at_5 5 ≡ Some 7
seven_found = map.get-insert nat_cmp_total six_at_5 5 7 5

none_found : map.get none_at_5 5 ≡ None
none_found = map.get-remove nat_cmp_total seven_at_5 5 5

-- another key of the same bucket is not touched
other_kept : map.get (map.remove (map.insert six_at_5 69 1) 69) 5 ≡ Some 6
other_kept =
    map.get-remove nat_cmp_total (map.insert six_at_5 69 1) 69 5 ∙ map.get-insert nat_cmp_total six_at_5 69 1 5 ∙ six_found

-- these pairs
abbrev paired : Pairs → Plain
paired pairs = record fresh { pairs = pairs }

put_said : plain_said (paired map.empty) (Put 5 6) ≡ Nothing
put_said = ap found_said nothing_yet

put_again_said : plain_said (paired six_at_5) (Put 5 7) ≡ Number 6
put_again_said = ap found_said six_found

looked : plain_said (paired seven_at_5) (Look 5) ≡ Number 7
looked = ap found_said seven_found

dropped_said : plain_said (paired seven_at_5) (Drop 5) ≡ Number 7
dropped_said = ap found_said seven_found

looked_for_none : plain_said (paired none_at_5) (Look 5) ≡ Nothing
looked_for_none = ap found_said none_found

dropped_none_said : plain_said (paired none_at_5) (Drop 5) ≡ Nothing
dropped_none_said = ap found_said none_found

-- ---- commands one after another

abbrev one_by_one : Plain → List FarCommand → List FarAnswer
one_by_one s [] = []
one_by_one s (command ∷ commands) = plain_said s command ∷ one_by_one (plain_after s command) commands

abbrev row : List FarCommand
row = Push 7 ∷ Push 8 ∷ Get 1 ∷ Set 0 9 ∷ Get 0 ∷ Get 2 ∷ Pop ∷ Put 5 6 ∷ Put 5 7 ∷ Look 5 ∷ Drop 5 ∷ Look 5 ∷ []

abbrev row_saids : Option ℕ → Option ℕ → Option ℕ → Option ℕ → List FarAnswer
row_saids a b c d =
    Done ∷ Done ∷ Number 8 ∷ Done ∷ Number 9 ∷ Outside 2 ∷ Number 8 ∷ found_said a ∷ found_said b ∷ found_said c
    ∷ found_said c ∷ found_said d ∷ []

row_said : one_by_one fresh row ≡ row_saids None (Some 6) (Some 7) None
row_said = λ i. row_saids (nothing_yet i) (six_found i) (seven_found i) (none_found i)

-- a command that was refused leaves all as it was, and the next ones go on from there
refused_left : after_said (listed (7 ∷ [])) (Push 8) (Refused (Full 1)) ≡ listed (7 ∷ [])
refused_left = refl

gone_on : after_all (listed (7 ∷ [])) (Push 8 ∷ Push 9 ∷ Pop ∷ []) (Refused (Full 1) ∷ Done ∷ Number 9 ∷ []) ≡ record fresh { list = 7 ∷ []; longest = 2 }
gone_on = refl

-- ---- the objects of the list

objects_for_none : objects_for 0 128 ≡ 0
objects_for_none = refl

objects_for_one : objects_for 1 128 ≡ 1
objects_for_one = refl

objects_for_128 : objects_for 128 128 ≡ 1
objects_for_128 = refl

objects_for_129 : objects_for 129 128 ≡ 2
objects_for_129 = refl

first_push_needs_one : needs_object fresh (Push 7) ≡ true
first_push_needs_one = refl

second_push_needs_none : needs_object (listed (7 ∷ [])) (Push 8) ≡ false
second_push_needs_none = refl

-- n pushes one after another
push_all : ℕ → Plain
push_all zero = fresh
push_all (suc n) = plain_after (push_all n) (Push n)

-- so many numbers, and never more
record HasPushed (s : Plain) (n : ℕ) : Type 0 where
  long : length s.list ≡ n
  most : s.longest ≡ n
  buckets : s.fullest ≡ replicate 64 0

push_all_is : (n : ℕ) → HasPushed (push_all n) n
unfolding push_all
push_all_is zero = record { long = refl; most = refl; buckets = refl }
push_all_is (suc n) =
    let before = push_all_is n in
    let long = before.long in
    let most = before.most in
    let more = length_push (push_all n).list n in
    record { long = omega (arith, long, more); most = omega (arith, long, most, more); buckets = before.buckets }

objects_pushed : (n : ℕ) → objects (push_all n) ≡ objects_for n 128 + 0
objects_pushed n =
    let is = push_all_is n in
    λ i. objects_for (is.most i) 128 + sum_by (λ most. objects_for most 64) (is.buckets i)

of_128_pushes : objects (push_all 128) ≡ 1
of_128_pushes = objects_pushed 128

of_129_pushes : objects (push_all 129) ≡ 2
of_129_pushes = objects_pushed 129

push_needs : (n : ℕ) → needs_object (push_all n) (Push 0) ≡ (n == 128 * objects_for n 128)
push_needs n = let is = push_all_is n in λ i. is.long i == 128 * objects_for (is.most i) 128

-- the 128th push finds room, and the 129th does not
at_127 : needs_object (push_all 127) (Push 0) ≡ false
at_127 = push_needs 127

at_128 : needs_object (push_all 128) (Push 0) ≡ true
at_128 = push_needs 128

-- popped to nothing the list keeps its objects, and the next push finds room in them
emptied_list : objects (record fresh { longest = 128 }) ≡ 1
emptied_list = refl

push_again : needs_object (record fresh { longest = 128 }) (Push 7) ≡ false
push_again = refl

-- ---- the objects of a bucket

-- n pairs, of the keys 0, 64, 128 and on
pairs_of : ℕ → Pairs
pairs_of zero = map.empty
pairs_of (suc n) = map.insert (pairs_of n) (64 * n) n

absent : (n m : ℕ) → n ≤ m → map.get (pairs_of n) (64 * m) ≡ None
unfolding pairs_of
absent zero m le = map.get-empty nat_cmp (64 * m)
absent (suc n) m le = map.get-insert nat_cmp_total (pairs_of n) (64 * n) n (64 * m)
    ∙ ap (λ (t : Bool). cond t (Some n) (map.get (pairs_of n) (64 * m)))
    (not_same (64 * m) (64 * n) (λ e. omega (arith, le, e)))
    ∙ absent n m (omega (arith, le))

present : (n : ℕ) → map.get (pairs_of (suc n)) (64 * n) ≡ Some n
unfolding pairs_of
present n = grind (arith, map.gets)

-- so many pairs in the first bucket, at the most so many so far, and none in another
abbrev in_first : Pairs → ℕ → ℕ → Plain
in_first pairs count most = record fresh { pairs = pairs; counts = count ∷ replicate 63 0; fullest = most ∷ replicate 63 0 }

-- n puts one after another
put_all : ℕ → Plain
put_all zero = fresh
put_all (suc n) = plain_after (put_all n) (Put (64 * n) n)

-- a put in the first bucket, by whether the key was there
abbrev put_in : Pairs → ℕ → ℕ → Bool → Plain
put_in pairs n bucket known = record fresh {
  pairs = map.insert pairs (64 * n) n;
  counts = slice_set (n ∷ replicate 63 0) bucket (if known then slice_index (n ∷ replicate 63 0) bucket else slice_index (n ∷ replicate 63 0) bucket + 1);
  fullest = slice_set (n ∷ replicate 63 0) bucket (max (slice_index (n ∷ replicate 63 0) bucket) (if known then slice_index (n ∷ replicate 63 0) bucket else slice_index (n ∷ replicate 63 0) bucket + 1));
}

put_all_is : (n : ℕ) → put_all n ≡ in_first (pairs_of n) n n
unfolding put_all pairs_of
put_all_is zero = refl
put_all_is (suc n) =
    ap (λ (s : Plain). plain_after s (Put (64 * n) n)) (put_all_is n)
    ∙ (λ i. put_in (pairs_of n) n (first i) (is_some (absent n n (omega arith) i)))
    ∙ (λ i. in_first (map.insert (pairs_of n) (64 * n) n) (one i) (most i))
  where
    first : 64 * n % 64 ≡ 0
    first = omega arith

    one : n + 1 ≡ suc n
    one = omega arith

    most : max n (n + 1) ≡ suc n
    most = omega arith

of_64_pairs : objects (put_all 64) ≡ 1
of_64_pairs = ap objects (put_all_is 64)

of_65_pairs : objects (put_all 65) ≡ 2
of_65_pairs = ap objects (put_all_is 65)

-- whether a put in the first bucket needs an object, by what the map has at its key
abbrev put_needs : Option ℕ → ℕ → ℕ → ℕ → Bool
put_needs found bucket count most =
    not (is_some found)
    && (slice_index (count ∷ replicate 63 0) bucket == 64 * objects_for (slice_index (most ∷ replicate 63 0) bucket) 64)

needs_by : (pairs : Pairs) (count most key : ℕ) (found : Option ℕ) → map.get pairs (64 * key) ≡ found
    → needs_object (in_first pairs count most) (Put (64 * key) 1) ≡ put_needs found 0 count most
needs_by pairs count most key found is = λ i. put_needs (is i) (first i) count most
  where
    first : 64 * key % 64 ≡ 0
    first = omega arith

-- the 64th pair finds room, the 65th does not, and a known key never needs any
after_63 : needs_object (in_first (pairs_of 63) 63 63) (Put (64 * 63) 1) ≡ false
after_63 = needs_by (pairs_of 63) 63 63 63 None (absent 63 63 (omega arith))

after_64 : needs_object (in_first (pairs_of 64) 64 64) (Put (64 * 64) 1) ≡ true
after_64 = needs_by (pairs_of 64) 64 64 64 None (absent 64 64 (omega arith))

known_key : needs_object (in_first (pairs_of 64) 64 64) (Put (64 * 63) 1) ≡ false
known_key = needs_by (pairs_of 64) 64 64 63 (Some 63) (present 63)

-- emptied, and filled again without an object
emptied_bucket : objects (in_first map.empty 0 64) ≡ 1
emptied_bucket = refl

put_again : needs_object (in_first map.empty 0 64) (Put (64 * 1) 1) ≡ false
put_again = needs_by map.empty 0 64 1 None (map.get-empty nat_cmp (64 * 1))

full_again : needs_object (in_first (pairs_of 64) 64 64) (Put (64 * 65) 1) ≡ true
full_again = needs_by (pairs_of 64) 64 64 65 None (absent 64 65 (omega arith))

-- keys of one bucket and of others
same_bucket : bucket_of 64 ≡ bucket_of 0
same_bucket = refl

last_bucket : bucket_of 63 ≡ 63
last_bucket = refl

-- a key that is known is not counted again, and one that is not there is not counted off
abbrev put_first : Bool → Plain
put_first known = record fresh {
  pairs = map.insert (pairs_of 1) 0 9;
  counts = (if known then 1 else 2) ∷ replicate 63 0;
  fullest = max 1 (if known then 1 else 2) ∷ replicate 63 0;
}

put_known : plain_after (in_first (pairs_of 1) 1 1) (Put 0 9) ≡ in_first (map.insert (pairs_of 1) 0 9) 1 1
put_known = λ i. put_first (is_some (present 0 i))

abbrev drop_other : Bool → Plain
drop_other known = record fresh {
  pairs = map.remove (pairs_of 1) 64;
  counts = (if known then 0 else 1) ∷ replicate 63 0;
  fullest = max 1 (if known then 0 else 1) ∷ replicate 63 0;
}

dropped_unknown : plain_after (in_first (pairs_of 1) 1 1) (Drop 64) ≡ in_first (map.remove (pairs_of 1) 64) 1 1
dropped_unknown = λ i. drop_other (is_some (absent 1 1 (omega arith) i))

-- a pair is dropped, by whether the map had it; the most stays told
abbrev drop_first : Bool → Plain
drop_first known = record fresh {
  pairs = map.remove (pairs_of 1) 0;
  counts = (if known then 0 else 1) ∷ replicate 63 0;
  fullest = max 1 (if known then 0 else 1) ∷ replicate 63 0;
}

dropped : plain_after (in_first (pairs_of 1) 1 1) (Drop 0) ≡ in_first (map.remove (pairs_of 1) 0) 0 1
dropped = λ i. drop_first (is_some (present 0 i))

-- ---- which commands call the runtime

calls_in_list : calls_something (listed (7 ∷ [])) (Get 0) ≡ true
calls_in_list = refl

none_outside : calls_something (listed (7 ∷ [])) (Get 1) ≡ false
none_outside = refl

sets_in_list : calls_something (listed (7 ∷ [])) (Set 0 1) ≡ true
sets_in_list = refl

no_set_outside : calls_something (listed (7 ∷ [])) (Set 1 1) ≡ false
no_set_outside = refl

pops_some : calls_something (listed (7 ∷ [])) Pop ≡ true
pops_some = refl

pops_none : calls_something fresh Pop ≡ false
pops_none = refl

pushes : calls_something fresh (Push 1) ≡ true
pushes = refl

puts : calls_something fresh (Put 0 1) ≡ true
puts = refl

-- a key that is not there is looked for where its bucket has a pair
looks_in_bucket : calls_something (in_first (pairs_of 1) 1 1) (Look 64) ≡ true
looks_in_bucket = refl

looks_nowhere : calls_something (in_first (pairs_of 1) 1 1) (Look 1) ≡ false
looks_nowhere = refl

drops_in_bucket : calls_something (in_first (pairs_of 1) 1 1) (Drop 64) ≡ true
drops_in_bucket = refl

drops_nowhere : calls_something (in_first (pairs_of 1) 1 1) (Drop 1) ≡ false
drops_nowhere = refl

-- ---- the numbers that are told

within_most : IsTallied (in_first map.empty 1 2)
within_most = record { longest = omega arith; buckets = refl; each = refl; fullest = below }
  where
    below : (bucket : ℕ) → slice_index (1 ∷ replicate 63 0) bucket ≤ slice_index (2 ∷ replicate 63 0) bucket
    below zero = omega arith
    below (suc bucket) = omega arith

list_above : IsTallied (record fresh { list = 7 ∷ [] }) → ⊥
list_above t = omega (arith, t.longest)

bucket_above : IsTallied (in_first map.empty 2 1) → ⊥
bucket_above t = omega (arith, t.fullest 0)

too_few_buckets : IsTallied (record fresh { counts = replicate 63 0 }) → ⊥
too_few_buckets t = omega (arith, t.buckets)

too_few_most : IsTallied (record fresh { fullest = replicate 63 0 }) → ⊥
too_few_most t = omega (arith, t.each)

-- ---- the keys of a bucket
abbrev one_key : Plain
one_key = record fresh { pairs = map.insert map.empty 0 7; counts = 1 ∷ replicate 63 0 }

has_zero : has_key one_key 0 ≡ true
has_zero = ap is_some (found map.empty)
  where
    found : (pairs : Pairs) → map.get (map.insert pairs 0 7) 0 ≡ Some 7
    found pairs = grind (arith, map.gets)

no_keys : AreKeysIn fresh 3 []
no_keys key = sym (by (bucket_of key == 3) (has_key fresh key) (ap is_some (map.get-empty nat_cmp key)))
  where
    by : (b known : Bool) → known ≡ false → ◌≡◌ {A = ℕ} (if b && known then 1 else 0) 0
    by true known is = ap {B = ℕ} (λ k. if k then 1 else 0) is
    by false known is = refl

zero_belongs : ◌≡◌ {A = ℕ} (if (bucket_of 0 == 0) && has_key one_key 0 then 1 else 0) 1
zero_belongs = ap {B = ℕ} (λ k. if k then 1 else 0) has_zero

-- one that is left out, one that stands twice, and one that belongs elsewhere
key_left_out : AreKeysIn one_key 0 [] → ⊥
key_left_out are = let e = are 0 in let z = zero_belongs in omega (arith, e, z)

key_twice : AreKeysIn one_key 0 (0 ∷ 0 ∷ []) → ⊥
key_twice are = let e = are 0 in let z = zero_belongs in omega (arith, e, z)

key_elsewhere : AreKeysIn one_key 1 (0 ∷ []) → ⊥
key_elsewhere are = let e = are 0 in omega (arith, e)

-- a bucket without keys that counts one
counts_too_many : IsCounted (in_first map.empty 1 1) → ⊥
counts_too_many all = by (all 0 (omega arith)).0 (all 0 (omega arith)).1 (all 0 (omega arith)).2
  where
    none : (key : ℕ) → ◌≡◌ {A = ℕ}
        (if (bucket_of key == 0) && has_key (in_first map.empty 1 1) key then 1 else 0) 0
    none key = either (bucket_of key == 0) (has_key (in_first map.empty 1 1) key)
        (ap is_some (map.get-empty nat_cmp key))
      where
        either : (b known : Bool) → known ≡ false → ◌≡◌ {A = ℕ} (if b && known then 1 else 0) 0
        either true known is = ap {B = ℕ} (λ k. if k then 1 else 0) is
        either false known is = refl

    by : (keys : List ℕ) → AreKeysIn (in_first map.empty 1 1) 0 keys → 1 ≡ length keys → ⊥
    by [] are long = omega (arith, long)
    by (k ∷ ks) are long = let e = are k in let z = none k in
        let one : ◌≡◌ {A = ℕ} (if k == k then 1 else 0) 1 =
        ap {B = ℕ} (λ b. if b then 1 else 0) (eq-eqb k k refl) in omega (arith, e, z, one)
