-- What is told of a key, and that a command makes one object exactly where it needs one.
use Rattle.std.proofs.Common.{◌≡◌, ℕ, ◌+◌, ◌-◌, ◌*◌, ◌<◌, ◌≤◌, max, Bool, true, false, not, ◌&&◌, List, [], ◌∷◌, ◌++◌, length, take, Some, inl, inr, refl, sym, ap, ◌∙◌, arith}
use Rattle.std.specs.Prelude.{slice_index, slice_set, sum_by, if◌then◌else◌, ◌==◌}
use Rattle.std.specs.FinMap as map
use Rattle.std.specs.Ordering.{nat_cmp}
use Rattle.std.proofs.lemmas.Bool.{cases_lt, eq-eqb, ne_eqb}
use Rattle.std.proofs.lemmas.List.{get_or-set_other, get_or-set_same, length-set, length-take, length_push}
use Rattle.std.proofs.lemmas.List.Sums.{sum_by-set}
use Rattle.cb_map_text.specs.Plain.{Plain, bucket_of, count_at, found_said, fresh, has_key, most_at, needs_object, objects, objects_for, plain_after, plain_said, with_list, with_pairs}
use Rattle.cb_map_text.specs.Tallied.{IsTallied}
use Rattle.cb_map_text.specs.declared.command.FarAnswer.TheVariants.{Number}
use Rattle.cb_map_text.specs.declared.command.FarCommand.{FarCommand}
use Rattle.cb_map_text.specs.declared.command.FarCommand.TheVariants.{Push, Set, Get, Pop, Put, Look, Drop}

-- ---- what is told

found_put : (pairs : map.FinMap nat_cmp ℕ) (key x : ℕ) → map.get (map.insert pairs key x) key ≡ Some x
found_put pairs key x = grind (arith, map.gets)

pub look_tells_the_put : (s : Plain) (key x : ℕ) → plain_said (plain_after s (Put key x)) (Look key) ≡ Number x
look_tells_the_put s key x = ap found_said (found_put s.pairs key x)

pub put_tells_the_old : (s : Plain) (key x : ℕ) → plain_said s (Put key x) ≡ plain_said s (Look key)
put_tells_the_old s key x = refl

-- ---- objects

-- 1 where it is so
abbrev pub one_if : Bool → ℕ
one_if b = if b then 1 else 0

-- ---- numbers

-- the list fills its objects, or there is room for one number more
list_grows : (len most : ℕ) → len ≤ most
    → objects_for (max most (len + 1)) 128 ≡ objects_for most 128 + one_if (len == 128 * objects_for most 128)
list_grows len most below = elim (cases_lt len (128 * objects_for most 128)) [
  | inl less ↦
      let none : objects_for (max most (len + 1)) 128 ≡ objects_for most 128 + 0 = omega (arith, less, below) in
      none ∙ ap (λ (b : Bool). objects_for most 128 + one_if b)
      (sym (ne_eqb len (128 * objects_for most 128) (λ e. omega (arith, less, e))))
  | inr more ↦
      let one : objects_for (max most (len + 1)) 128 ≡ objects_for most 128 + 1 = omega (arith, more, below) in
      one ∙ ap (λ (b : Bool). objects_for most 128 + one_if b)
      (sym (eq-eqb len (128 * objects_for most 128) (omega (arith, more, below))))
]

-- a bucket fills its objects, or there is room for one pair more
bucket_grows : (count most : ℕ) → count ≤ most
    → objects_for (max most (count + 1)) 64 ≡ objects_for most 64 + one_if (count == 64 * objects_for most 64)
bucket_grows count most below = elim (cases_lt count (64 * objects_for most 64)) [
  | inl less ↦
      let none : objects_for (max most (count + 1)) 64 ≡ objects_for most 64 + 0 = omega (arith, less, below) in
      none ∙ ap (λ (b : Bool). objects_for most 64 + one_if b)
      (sym (ne_eqb count (64 * objects_for most 64) (λ e. omega (arith, less, e))))
  | inr more ↦
      let one : objects_for (max most (count + 1)) 64 ≡ objects_for most 64 + 1 = omega (arith, more, below) in
      one ∙ ap (λ (b : Bool). objects_for most 64 + one_if b)
      (sym (eq-eqb count (64 * objects_for most 64) (omega (arith, more, below))))
]

max_is : (most count : ℕ) → count ≤ most → max most count ≡ most
max_is most count below = omega (arith, below)

-- the objects of all buckets
abbrev of_buckets : List ℕ → ℕ
of_buckets fullest = sum_by (λ most. objects_for most 64) fullest

-- one bucket has more objects, and so have all together
all_grow : (fullest : List ℕ) (b most n : ℕ) → b < length fullest
    → objects_for most 64 ≡ objects_for (slice_index fullest b) 64 + n
    → of_buckets (slice_set fullest b most) ≡ of_buckets fullest + n
all_grow fullest b most n within grows =
    omega (arith, grows, sum_by-set (λ most. objects_for most 64) fullest b most 0 within)

-- ---- one bucket

module _ (s : Plain) (t : IsTallied s) (key : ℕ) where
  within : bucket_of key < length s.fullest
  within = let e = t.each in omega (arith, e)

  -- the bucket's count is no more than it was
  same_objects : (count : ℕ) → count ≤ most_at s key
      → of_buckets (slice_set s.fullest (bucket_of key) (max (most_at s key) count)) ≡ of_buckets s.fullest + 0
  same_objects count below =
      all_grow s.fullest (bucket_of key) (max (most_at s key) count) 0 within
      (ap (λ (n : ℕ). objects_for n 64) (max_is (most_at s key) count below) ∙ omega arith)

  put_objects : (known : Bool)
      → of_buckets (slice_set s.fullest (bucket_of key) (max (most_at s key) (if known then count_at s key else count_at s key + 1)))
      ≡ of_buckets s.fullest + one_if (not known && (count_at s key == 64 * objects_for (most_at s key) 64))
  put_objects true = same_objects (count_at s key) (t.fullest (bucket_of key))
  put_objects false =
      all_grow s.fullest (bucket_of key) (max (most_at s key) (count_at s key + 1))
      (one_if (count_at s key == 64 * objects_for (most_at s key) 64)) within
      (bucket_grows (count_at s key) (most_at s key) (t.fullest (bucket_of key)))

  drop_objects : (known : Bool)
      → of_buckets (slice_set s.fullest (bucket_of key) (max (most_at s key) (if known then count_at s key - 1 else count_at s key)))
      ≡ of_buckets s.fullest + 0
  drop_objects true = let e = t.fullest (bucket_of key) in same_objects (count_at s key - 1) (omega (arith, e))
  drop_objects false = same_objects (count_at s key) (t.fullest (bucket_of key))

-- ---- all commands

list_objects : (s : Plain) (list : List ℕ) (n : ℕ) → objects_for (max s.longest (length list)) 128 ≡ objects_for s.longest 128 + n
    → objects (with_list s list) ≡ objects s + n
list_objects s list n grows = omega (arith, grows)

pairs_objects : (s : Plain) (key count n : ℕ) (pairs : map.FinMap nat_cmp ℕ)
    → of_buckets (slice_set s.fullest (bucket_of key) (max (most_at s key) count)) ≡ of_buckets s.fullest + n
    → objects (with_pairs s key pairs count) ≡ objects s + n
pairs_objects s key count n pairs grows = omega (arith, grows)

no_more : (s : Plain) (list : List ℕ) → length list ≤ s.longest → objects (with_list s list) ≡ objects s + 0
no_more s list below =
    list_objects s list 0 (ap (λ (n : ℕ). objects_for n 128) (max_is s.longest (length list) below) ∙ omega arith)

-- a command makes one object more where it needs one, and else none
pub one_where_needed : (s : Plain) (command : FarCommand) → IsTallied s
    → objects (plain_after s command) ≡ objects s + one_if (needs_object s command)
one_where_needed s (Push x) t =
    list_objects s (s.list ++ x ∷ []) (one_if (length s.list == 128 * objects_for s.longest 128))
    (ap (λ (n : ℕ). objects_for (max s.longest n) 128) (length_push s.list x) ∙ list_grows (length s.list) s.longest t.longest)
one_where_needed s (Set i x) t =
    let e = t.longest in no_more s (slice_set s.list i x) (omega (arith, e, length-set s.list i x))
one_where_needed s (Get i) t = omega arith
one_where_needed s Pop t =
    let e = t.longest in
    no_more s (take (length s.list - 1) s.list) (omega (arith, e, length-take (length s.list - 1) s.list))
one_where_needed s (Put key x) t =
    pairs_objects s key (if has_key s key then count_at s key else count_at s key + 1)
    (one_if (needs_object s (Put key x))) (map.insert s.pairs key x) (put_objects s t key (has_key s key))
one_where_needed s (Look key) t = omega arith
one_where_needed s (Drop key) t =
    pairs_objects s key (if has_key s key then count_at s key - 1 else count_at s key) 0
    (map.remove s.pairs key) (drop_objects s t key (has_key s key))

pub none_made : objects fresh ≡ 0
none_made = refl

-- ---- the numbers that are told

pub fresh_tallied : IsTallied fresh
fresh_tallied = record { longest = omega arith; buckets = refl; each = refl; fullest = λ bucket. omega arith }

with_list_tallied : (s : Plain) (list : List ℕ) → IsTallied s → IsTallied (with_list s list)
with_list_tallied s list t = record {
  longest = omega arith;
  buckets = t.buckets;
  each = t.each;
  fullest = t.fullest;
}

with_pairs_tallied : (s : Plain) (key count : ℕ) (pairs : map.FinMap nat_cmp ℕ) → IsTallied s
    → IsTallied (with_pairs s key pairs count)
with_pairs_tallied s key count pairs t = record {
  longest = t.longest;
  buckets = length-set s.counts (bucket_of key) count ∙ t.buckets;
  each = length-set s.fullest (bucket_of key) (max (most_at s key) count) ∙ t.each;
  fullest = each_bucket;
}
  where
    most : ℕ
    most = max (most_at s key) count

    here : (bucket : ℕ) → bucket ≡ bucket_of key
        → slice_index (slice_set s.counts (bucket_of key) count) bucket
        ≤ slice_index (slice_set s.fullest (bucket_of key) (max (most_at s key) count)) bucket
    here bucket is =
        let counts = t.buckets in
        let each = t.each in
        let few : slice_index (slice_set s.counts (bucket_of key) count) bucket ≡ count =
        ap (λ (b : ℕ). slice_index (slice_set s.counts (bucket_of key) count) b) is
        ∙ get_or-set_same s.counts (bucket_of key) count 0 (omega (arith, counts)) in
        let many : slice_index (slice_set s.fullest (bucket_of key) (max (most_at s key) count)) bucket ≡ max (most_at s key) count =
        ap (λ (b : ℕ). slice_index (slice_set s.fullest (bucket_of key) (max (most_at s key) count)) b) is
        ∙ get_or-set_same s.fullest (bucket_of key) (max (most_at s key) count) 0 (omega (arith, each)) in
        omega (arith, few, many)

    other : (bucket : ℕ) → (bucket ≡ bucket_of key → ⊥)
        → slice_index (slice_set s.counts (bucket_of key) count) bucket
        ≤ slice_index (slice_set s.fullest (bucket_of key) (max (most_at s key) count)) bucket
    other bucket ne =
        let below = t.fullest bucket in
        omega (
          arith,
          below,
          get_or-set_other s.counts (bucket_of key) bucket count 0 ne,
          get_or-set_other s.fullest (bucket_of key) bucket (max (most_at s key) count) 0 ne,
        )

    each_bucket : (bucket : ℕ)
        → slice_index (slice_set s.counts (bucket_of key) count) bucket
        ≤ slice_index (slice_set s.fullest (bucket_of key) (max (most_at s key) count)) bucket
    each_bucket bucket = elim (cases_lt bucket (bucket_of key)) [
      | inl less ↦ other bucket (λ e. omega (arith, less, e))
      | inr more ↦ elim (cases_lt (bucket_of key) bucket) [
        | inl less ↦ other bucket (λ e. omega (arith, less, e))
        | inr same ↦ here bucket (omega (arith, more, same))
      ]
    ]

-- each command leaves the numbers right
pub stays_tallied : (s : Plain) (command : FarCommand) → IsTallied s → IsTallied (plain_after s command)
stays_tallied s (Push x) t = with_list_tallied s (s.list ++ x ∷ []) t
stays_tallied s (Set i x) t = with_list_tallied s (slice_set s.list i x) t
stays_tallied s (Get i) t = t
stays_tallied s Pop t = with_list_tallied s (take (length s.list - 1) s.list) t
stays_tallied s (Put key x) t =
    with_pairs_tallied s key (if has_key s key then count_at s key else count_at s key + 1) (map.insert s.pairs key x) t
stays_tallied s (Look key) t = t
stays_tallied s (Drop key) t =
    with_pairs_tallied s key (if has_key s key then count_at s key - 1 else count_at s key) (map.remove s.pairs key) t
