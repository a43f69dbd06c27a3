-- What each command on the map comes to.
use Rattle.std.proofs.Common.{◌≡◌, ◌≢◌, ◌⊎◌, ℕ, zero, suc, ◌+◌, ◌-◌, ◌*◌, ◌/◌, ◌%◌, ◌<◌, ◌≤◌, max, Bool, true, false, true≢false, not, ◌&&◌, if◌then◌else◌, List, [], ◌∷◌, ◌++◌, length, get_or, map, take, slice_set, Option, None, Some, Result, Ok, Err, IfOk, OnErr, refl, sym, ap, ◌∙◌, subst, inl, inr, arith}
use Rattle.std.specs.Prelude.{is_some, nat_lt, ◌==◌}
use Rattle.std.specs.List.{AllByRecursion}
use Rattle.std.specs.FinMap as finite
use Rattle.std.proofs.lemmas.Bool.{cases_lt, eq-eqb, eqb-true, lt-ltb}
use Rattle.std.proofs.lemmas.List.{append-nil, length-map, length-set, length-take, length_push}
use Rattle.cb_member.specs.declared.no_memory.NoMemory.{NoMemory as Want}
use Rattle.cb_types.specs.declared.config.Config.{Config}
use Rattle.cb_rule.specs.declared.view.View.{View}
use Rattle.cb_rule.specs.Lists.{Each, Has}
use Rattle.cb_map_text.specs.Plain.{Plain, after_said, bucket_of as bucket_number, count_at, found_said, has_key, most_at, needs_object, objects_for, plain_after, plain_said}
use Rattle.cb_map_text.specs.declared.command.FarAnswer.{FarAnswer}
use Rattle.cb_map_text.specs.declared.command.FarCommand.{FarCommand}
use Rattle.cb_map_text.specs.declared.command.FarCommand.TheVariants.{Put, Look, Drop}
use Rattle.cb_farmap.specs.declared.array.FarArray.{FarArray}
use Rattle.cb_farmap.specs.declared.bucket.Bucket.{Bucket}
use Rattle.cb_farmap.specs.declared.kept.Cannot.{Cannot}
use Rattle.cb_farmap.specs.declared.kept.KeptObject.{KeptObject}
use Rattle.cb_farmap.specs.declared.map.FarMap.{FarMap}
use Rattle.cb_farmap.specs.BothNow.{AreOther}
use Rattle.cb_farmap.specs.BucketChanges.{Becomes, dropped_at, dropped_in, put_at, put_in, value_in}
use Rattle.cb_farmap.specs.Buckets.{IsBucket, all_pairs, bucket_in, no_bucket, pairs_in, with_bucket}
use Rattle.cb_farmap.specs.Calls.{Answers, Ask, AskMake, AskRead, AskWrite, Goes, trouble}
use Rattle.cb_farmap.specs.Commands.{CommandGoes, HasOneHistory, refusal_in}
use Rattle.cb_farmap.specs.MapChanges.{IsDropped, IsLooked, IsPut, KeepsMap, StaysMap}
use Rattle.cb_farmap.specs.Maps.{kept_of, map_of}
use Rattle.cb_farmap.specs.Objects.{IsObject, blank, object_at}
use Rattle.cb_farmap.specs.Pairs.{Pair, pair_of, place_of}
use Rattle.cb_farmap.specs.PairBytes.{object_bytes}
use Rattle.cb_farmap.specs.Plans.{drop_asks, drop_plan, is_filled, last_asks, look_plan, move_asks, objects_to, put_ask, put_plan, reads_to, write_at}
use Rattle.cb_farmap.specs.Stands.{Says, Stands}
use Rattle.cb_farmap.proofs.ArrayEach.{is_write, no_write_make, one_write}
use Rattle.cb_farmap.proofs.FindIn.{long_in}
use Rattle.cb_farmap.proofs.BucketList.{all_own}
use Rattle.cb_farmap.proofs.MapCommands.{AfterMap, all_changed, all_flat_set, kept_more, map_said}
use Rattle.cb_farmap.proofs.MapEnds.{bucket_of, value_got}
use Rattle.cb_farmap.proofs.Places.{first_at}
use Rattle.cb_farmap.proofs.PairNumbers.{long_object}
use Rattle.cb_farmap.proofs.PlanAdds.{IsOfRecord, IsPlanFor, IsShort, all_done, makes_in}
use Rattle.cb_farmap.proofs.Standing.{all_from, all_has, get_has, get_map, has_wrote, map_set, object_low}

-- ---- plans that begin with reads
abbrev pub reads : List KeptObject → List Ask
reads ks = map AskRead ks

reads_short : (ks : List KeptObject) (plan : List Ask) → IsShort plan → IsShort (reads ks ++ plan)
reads_short [] plan short = short
reads_short (k ∷ ks) plan short = reads_short ks plan short

reads_make : (ks : List KeptObject) (plan : List Ask) → makes_in (reads ks ++ plan) ≡ makes_in plan
reads_make [] plan = refl
reads_make (k ∷ ks) plan = let z = reads_make ks plan in omega (arith, z)

reads_of : (v : View) (most : ℕ) (ks : List KeptObject) (plan : List Ask)
    → AllByRecursion (IsObject v.written) ks → Each (IsOfRecord v most) plan
    → Each (IsOfRecord v most) (reads ks ++ plan)
reads_of v most [] plan all of = of
reads_of v most (k ∷ ks) plan all of = (has_wrote v k all.0, reads_of v most ks plan all.1 of)

reads_write : (ks : List KeptObject) (plan : List Ask) (k : KeptObject) (at : ℕ) (bytes : List ℕ)
    → Has (AskWrite k at bytes) (reads ks ++ plan) → Has (AskWrite k at bytes) plan
reads_write [] plan k at bytes there = there
reads_write (z ∷ ks) plan k at bytes (inl is) = absurd (true≢false (sym (ap is_write is)))
reads_write (z ∷ ks) plan k at bytes (inr there) = reads_write ks plan k at bytes there

take_objects : (P : KeptObject → Type 0) (n : ℕ) (ks : List KeptObject) → AllByRecursion P ks
    → AllByRecursion P (take n ks)
take_objects P zero ks all = tt
take_objects P (suc n) [] all = tt
take_objects P (suc n) (k ∷ ks) all = (all.0, take_objects P n ks all.1)

some_place : (pairs : List Pair) (p : Option ℕ) → is_some (value_in pairs p) ≡ is_some p
some_place pairs None = refl
some_place pairs (Some p) = refl

found_plain : (o : Option ℕ) → refusal_in (found_said o) ≡ None
found_plain None = refl
found_plain (Some n) = refl

-- ---- what is known of the bucket of a key
module _ (n : ℕ) (s : Plain) (v : View) (a : FarArray) (m : FarMap) (st : Stands n s v a m) (key : ℕ) where
  abbrev b : Bucket
  b = bucket_in m.buckets key

  abbrev place : Option ℕ
  place = place_of key (pairs_in v.written b)

  pub many : length m.buckets ≡ 64
  many = sym (length-map m.buckets (λ (b : Bucket). b.count))
      ∙ ap (λ (l : List ℕ). length l) st.map_is.counts ∙ st.tallied.buckets

  pub at_key : key % length m.buckets ≡ bucket_number key
  at_key = ap (λ (n : ℕ). key % n) many

  pub count_is : count_at s key ≡ b.count
  count_is = ap (λ (l : List ℕ). get_or l (bucket_number key) 0) (sym st.map_is.counts)
      ∙ ap (λ (i : ℕ). get_or (map (λ (b : Bucket). b.count) m.buckets) i 0) (sym at_key)
      ∙ get_map (λ (b : Bucket). b.count) m.buckets (key % length m.buckets) no_bucket

  pub kept_is : length b.kept ≡ objects_for (most_at s key) 64
  kept_is = sym (get_map (λ (b : Bucket). length b.kept) m.buckets (key % length m.buckets) no_bucket)
      ∙ ap (λ (i : ℕ). get_or (map (λ (b : Bucket). length b.kept) m.buckets) i 0) at_key
      ∙ ap (λ (l : List ℕ). get_or l (bucket_number key) 0) st.map_is.kept
      ∙ get_map (λ most. objects_for most 64) s.fullest (bucket_number key) 0

  pub bucket_is : IsBucket v.written b
  bucket_is = bucket_of v m st.map_is.map_is key

  pub known_is : has_key s key ≡ is_some place
  known_is = ap (λ (f : finite.FinMap _ ℕ). is_some (finite.get f key)) (sym st.map_is.pairs)
      ∙ ap (λ (o : Option ℕ). is_some o) (sym (value_got v m st.map_is.map_is key))
      ∙ some_place (pairs_in v.written b) place

  pub long_pairs : length (pairs_in v.written b) ≡ b.count
  long_pairs = long_in v.written b bucket_is

  pub place_low : (p : ℕ) → place ≡ Some p → p < b.count
  place_low p is = let z = (first_at key (pairs_in v.written b) p is).0 in
      let l = long_pairs in omega (arith, z, l)

  -- objects of the bucket
  pub in_bucket : (k : KeptObject) → Has k b.kept → Has k (kept_of m.buckets)
  in_bucket k there = all_has (λ (y : KeptObject). Has y (kept_of m.buckets)) b.kept
      (all_own (λ (y : KeptObject). Has y (kept_of m.buckets)) m.buckets key
      (let l = many in omega (arith, l)) (all_from (λ (y : KeptObject). Has y (kept_of m.buckets))
      (kept_of m.buckets) (λ y has. has))) k there

  module _ (p : ℕ) (range : p < 64 * length b.kept) where
    pub at_place : Has (object_at b.kept (p / 64)) b.kept
    at_place = get_has b.kept (p / 64) blank (omega (arith, range))

    object_is : IsObject v.written (object_at b.kept (p / 64))
    object_is = all_has (IsObject v.written) b.kept bucket_is.objects (object_at b.kept (p / 64)) at_place

    pub write_of : (pair : Pair) → Each (IsOfRecord v (n + 2)) (write_at b.kept p pair ∷ [])
    write_of pair = (
      (
        has_wrote v (object_at b.kept (p / 64)) object_is,
        let le = object_low v (object_at b.kept (p / 64)) (n + 1) object_is st.record_is.low in
            omega (arith, le),
      ),
      tt,
    )

  place_room : (p : ℕ) → place ≡ Some p → p < 64 * length b.kept
  place_room p is = let l = place_low p is in let w = bucket_is.within in omega (arith, l, w)

  open_room : is_filled b.kept b.count ≡ false → b.count < 64 * length b.kept
  open_room off = by (cases_lt b.count (64 * length b.kept))
    where
      by : (b.count < 64 * length b.kept) ⊎ (64 * length b.kept ≤ b.count) → b.count < 64 * length b.kept
      by (inl less) = less
      by (inr past) = absurd (true≢false (sym (eq-eqb b.count (64 * length b.kept)
          (let w = bucket_is.within in omega (arith, w, past))) ∙ off))

  -- no pairs, and so no reads
  none_found : b.count ≡ 0 → place ≡ None
  none_found none = by place refl
    where
      by : (o : Option ℕ) → place ≡ o → place ≡ None
      by None is = is
      by (Some p) is = absurd (let l = place_low p is in omega (arith, l, none))

  no_look : b.count ≡ 0 → look_plan v.written b key ≡ []
  no_look none = ap (λ (o : Option ℕ). reads_to b o) (none_found none)
      ∙ ap (λ (n : ℕ). map AskRead (take (objects_for n 64) b.kept)) none

  idle_bucket : nat_lt 0 (count_at s key) ≡ false → b.count ≡ 0
  idle_bucket off = by (cases_lt 0 b.count)
    where
      by : (0 < b.count) ⊎ (b.count ≤ 0) → b.count ≡ 0
      by (inr none) = omega (arith, none)
      by (inl some) = absurd (true≢false (sym (lt-ltb 0 (count_at s key) (let c = count_is in
          omega (arith, c, some))) ∙ off))

  -- ---- a look
  pub look_suits : IsPlanFor v (n + 2) s (Look key) (look_plan v.written b key)
  look_suits = let ks : List KeptObject = take (objects_to b.count place) b.kept in record {
    short = subst IsShort (append-nil (reads ks)) (reads_short ks [] tt);
    of = subst (Each (IsOfRecord v (n + 2))) (append-nil (reads ks))
        (reads_of v (n + 2) ks [] (take_objects (IsObject v.written) _ b.kept bucket_is.objects) tt);
    makes = sym (ap makes_in (append-nil (reads ks))) ∙ reads_make ks [];
    calls = λ no. no_look (idle_bucket no);
  }

  pub look_writes : (k : KeptObject) (at : ℕ) (bytes : List ℕ)
      → Has (AskWrite k at bytes) (look_plan v.written b key) → Has k (kept_of m.buckets)
  look_writes k at bytes there = absurd (off (take (objects_to b.count place) b.kept) there)
    where
      off : (ks : List KeptObject) → Has (AskWrite k at bytes) (reads ks) → ⊥
      off [] there = there
      off (z ∷ ks) (inl is) = true≢false (sym (ap is_write is))
      off (z ∷ ks) (inr there) = off ks there

  -- ---- a put
  module _ (x : ℕ) where
    one_ask : (o : Option ℕ) → place ≡ o → IsPlanFor v (n + 2) s (Put key x) (put_ask b (key, x) o ∷ [])
    one_ask (Some p) is = record {
      short = refl;
      of = write_of p (place_room p is) (key, x);
      makes = sym (ap {B = ℕ} (λ known. if not known && (count_at s key
          == 64 * objects_for (most_at s key) 64) then 1 else 0) (known_is ∙ ap (λ (o : Option ℕ). is_some o) is));
      calls = λ no. absurd (true≢false no);
    }
    one_ask None is = by (is_filled b.kept b.count) refl
      where
        needs : needs_object s (Put key x) ≡ is_filled b.kept b.count
        needs = ap (λ known. not known && (count_at s key == 64 * objects_for (most_at s key) 64))
            (known_is ∙ ap (λ (o : Option ℕ). is_some o) is)
            ∙ (λ i. (count_is i) == (64 * sym kept_is i))

        by : (full : Bool) → is_filled b.kept b.count ≡ full → IsPlanFor v (n + 2) s (Put key x)
            ((if full then AskMake (object_bytes (key, x)) else write_at b.kept b.count (key, x)) ∷ [])
        by true full = record {
          short = refl;
          of = (long_object (key, x), tt);
          makes = sym (ap {B = ℕ} (λ b. if b then 1 else 0) (needs ∙ full));
          calls = λ no. absurd (true≢false no);
        }
        by false full = record {
          short = refl;
          of = write_of b.count (open_room full) (key, x);
          makes = sym (ap {B = ℕ} (λ b. if b then 1 else 0) (needs ∙ full));
          calls = λ no. absurd (true≢false no);
        }

    pub put_suits : IsPlanFor v (n + 2) s (Put key x) (put_plan v.written b (key, x))
    put_suits = let front : List KeptObject = take (objects_to b.count place) b.kept in
        let z = one_ask place refl in record {
          short = reads_short front (put_ask b (key, x) place ∷ []) z.short;
          of = reads_of v (n + 2) front (put_ask b (key, x) place ∷ [])
              (take_objects (IsObject v.written) (objects_to b.count place) b.kept bucket_is.objects) z.of;
          makes = reads_make front (put_ask b (key, x) place ∷ []) ∙ z.makes;
          calls = λ no. absurd (true≢false no);
        }

    ask_writes : (o : Option ℕ) → place ≡ o → (k : KeptObject) (at : ℕ) (bytes : List ℕ)
        → Has (AskWrite k at bytes) (put_ask b (key, x) o ∷ []) → Has k b.kept
    ask_writes (Some p) is k at bytes there = subst (λ (y : KeptObject). Has y b.kept)
        (one_write (object_at b.kept (p / 64)) k _ at _ bytes there) (at_place p (place_room p is))
    ask_writes None is k at bytes there = by (is_filled b.kept b.count) refl there
      where
        by : (full : Bool) → is_filled b.kept b.count ≡ full
            → Has (AskWrite k at bytes)
            ((if full then AskMake (object_bytes (key, x)) else write_at b.kept b.count (key, x)) ∷ [])
            → Has k b.kept
        by true full there = absurd (no_write_make _ k at bytes there)
        by false full there = subst (λ (y : KeptObject). Has y b.kept)
            (one_write (object_at b.kept (b.count / 64)) k _ at _ bytes there)
            (at_place b.count (open_room full))

    pub put_writes : (k : KeptObject) (at : ℕ) (bytes : List ℕ)
        → Has (AskWrite k at bytes) (put_plan v.written b (key, x)) → Has k (kept_of m.buckets)
    put_writes k at bytes there = in_bucket k (ask_writes place refl k at bytes
        (reads_write (take (objects_to b.count place) b.kept) (put_ask b (key, x) place ∷ []) k at bytes there))

  -- ---- a drop
  last_suits : (p last : ℕ) → last < 64 * length b.kept → (pair : Pair) → p < 64 * length b.kept
      → (same : Bool) → (plan : List Ask)
      → plan ≡ (if same then [] else AskRead (object_at b.kept (last / 64)) ∷ [])
      ++ write_at b.kept p pair ∷ []
      → IsShort plan × Each (IsOfRecord v (n + 2)) plan × (makes_in plan ≡ 0)
  last_suits p last low pair range true plan is = subst
      (λ (l : List Ask). IsShort l × Each (IsOfRecord v (n + 2)) l × (makes_in l ≡ 0)) (sym is)
      (refl, write_of p range pair, refl)
  last_suits p last low pair range false plan is = subst
      (λ (l : List Ask). IsShort l × Each (IsOfRecord v (n + 2)) l × (makes_in l ≡ 0)) (sym is)
      (refl, (has_wrote v _ (object_is last low), write_of p range pair), refl)

  move_suits : (p : ℕ) → place ≡ Some p → (same : Bool) → (p == (b.count - 1)) ≡ same
      → IsShort (move_asks v.written b.kept p (b.count - 1))
      × Each (IsOfRecord v (n + 2)) (move_asks v.written b.kept p (b.count - 1))
      × (makes_in (move_asks v.written b.kept p (b.count - 1)) ≡ 0)
  move_suits p is true at = subst
      (λ (l : List Ask). IsShort l × Each (IsOfRecord v (n + 2)) l × (makes_in l ≡ 0))
      (sym (ap (λ (same : Bool). if same then [] else last_asks b.kept p (b.count - 1)
      ++ write_at b.kept p (pair_of (all_pairs v.written b.kept) (b.count - 1)) ∷ []) at)) (tt, tt, refl)
  move_suits p is false at = subst
      (λ (l : List Ask). IsShort l × Each (IsOfRecord v (n + 2)) l × (makes_in l ≡ 0))
      (sym (ap (λ (same : Bool). if same then [] else last_asks b.kept p (b.count - 1)
      ++ write_at b.kept p (pair_of (all_pairs v.written b.kept) (b.count - 1)) ∷ []) at))
      (last_suits p (b.count - 1) (let l = place_low p is in let w = bucket_is.within in omega (arith, l, w))
      (pair_of (all_pairs v.written b.kept) (b.count - 1)) (place_room p is)
      ((b.count - 1) / 64 == p / 64) _ refl)

  asks_suit : (q : Option ℕ) → place ≡ q → IsShort (drop_asks v.written b q)
      × Each (IsOfRecord v (n + 2)) (drop_asks v.written b q) × (makes_in (drop_asks v.written b q) ≡ 0)
  asks_suit None is = (tt, tt, refl)
  asks_suit (Some p) is = move_suits p is (p == (b.count - 1)) refl

  no_drop : b.count ≡ 0 → drop_plan v.written b key ≡ []
  no_drop none = (λ i. no_look none i ++ drop_asks v.written b (none_found none i))

  pub drop_suits : IsPlanFor v (n + 2) s (Drop key) (drop_plan v.written b key)
  drop_suits = let z = asks_suit place refl in record {
    short = reads_short (take (objects_to b.count place) b.kept) (drop_asks v.written b place) z.0;
    of = reads_of v (n + 2) _ _ (take_objects (IsObject v.written) _ b.kept bucket_is.objects) z.1;
    makes = reads_make (take (objects_to b.count place) b.kept) (drop_asks v.written b place) ∙ z.2;
    calls = λ no. no_drop (idle_bucket no);
  }

  last_write : (p last : ℕ) (pair : Pair) (same : Bool) (k : KeptObject) (at : ℕ) (bytes : List ℕ)
      → Has (AskWrite k at bytes) ((if same then [] else AskRead (object_at b.kept (last / 64)) ∷ [])
      ++ write_at b.kept p pair ∷ []) → Has (AskWrite k at bytes) (write_at b.kept p pair ∷ [])
  last_write p last pair true k at bytes there = there
  last_write p last pair false k at bytes (inl is) = absurd (true≢false (sym (ap is_write is)))
  last_write p last pair false k at bytes (inr there) = there

  move_write : (p : ℕ) → place ≡ Some p → (same : Bool) → (k : KeptObject) (at : ℕ) (bytes : List ℕ)
      → Has (AskWrite k at bytes) (if same then [] else last_asks b.kept p (b.count - 1)
      ++ write_at b.kept p (pair_of (all_pairs v.written b.kept) (b.count - 1)) ∷ []) → Has k b.kept
  move_write p is true k at bytes there = absurd there
  move_write p is false k at bytes there = subst (λ (y : KeptObject). Has y b.kept)
      (one_write (object_at b.kept (p / 64)) k _ at _ bytes (last_write p (b.count - 1)
      (pair_of (all_pairs v.written b.kept) (b.count - 1)) ((b.count - 1) / 64 == p / 64) k at bytes there))
      (at_place p (place_room p is))

  asks_write : (q : Option ℕ) → place ≡ q → (k : KeptObject) (at : ℕ) (bytes : List ℕ)
      → Has (AskWrite k at bytes) (drop_asks v.written b q) → Has k b.kept
  asks_write None is k at bytes there = absurd there
  asks_write (Some p) is k at bytes there = move_write p is (p == (b.count - 1)) k at bytes there

  pub drop_writes : (k : KeptObject) (at : ℕ) (bytes : List ℕ)
      → Has (AskWrite k at bytes) (drop_plan v.written b key) → Has k (kept_of m.buckets)
  drop_writes k at bytes there = in_bucket k (asks_write place refl k at bytes
      (reads_write (take (objects_to b.count place) b.kept) (drop_asks v.written b place) k at bytes there))

  -- ---- what becomes of the bucket
  module _ (w : View) (later : Bucket) (pairs : List Pair)
      (becomes : Becomes v.written b later pairs w.written) where
    count_now : later.count ≡ length pairs
    count_now = sym (long_in w.written later becomes.bucket) ∙ ap (λ (l : List Pair). length l) becomes.pairs_are

    abbrev IsOff : KeptObject → Type 0
    IsOff y = (x : KeptObject) → Has x a.kept → x.handle.n ≢ y.handle.n

    other_now : AreOther a.kept (kept_of (with_bucket m.buckets key later))
    other_now x y here there = all_has IsOff (kept_of (with_bucket m.buckets key later))
        (all_flat_set IsOff m.buckets (key % length m.buckets) later old new) y there x here
      where
        old : AllByRecursion IsOff (kept_of m.buckets)
        old = all_from IsOff (kept_of m.buckets) (λ y there x here. st.other x y here there)

        mine : AllByRecursion IsOff b.kept
        mine = all_from IsOff b.kept (λ y there x here. st.other x y here (in_bucket y there))

        new : AllByRecursion IsOff later.kept
        new = all_changed IsOff v.written w.written b.kept later.kept (λ k p. p)
            (λ k fresh x here e. let z = has_wrote v x (all_has (IsObject v.written) a.kept
            st.array_is.array.objects x here) in fresh z.0 z.1 (z.2 ∙ e)) mine becomes.objects

    -- with so many pairs, and objects as the bucket needs
    module _ (count : ℕ) (counted : later.count ≡ count)
        (held : length later.kept ≡ objects_for (max (most_at s key) count) 64) where
      counts_now : map (λ (b : Bucket). b.count) (with_bucket m.buckets key later)
          ≡ slice_set s.counts (bucket_number key) count
      counts_now = map_set (λ (b : Bucket). b.count) m.buckets (key % length m.buckets) later
          ∙ (λ i. slice_set (st.map_is.counts i) (at_key i) (counted i))

      kept_now : map (λ (b : Bucket). length b.kept) (with_bucket m.buckets key later)
          ≡ map (λ most. objects_for most 64)
          (slice_set s.fullest (bucket_number key) (max (most_at s key) count))
      kept_now = map_set (λ (b : Bucket). length b.kept) m.buckets (key % length m.buckets) later
          ∙ (λ i. slice_set (st.map_is.kept i) (at_key i) (held i))
          ∙ sym (map_set (λ most. objects_for most 64) s.fullest (bucket_number key)
          (max (most_at s key) count))

-- ---- the ends
module _ (c : Config) (n : ℕ) (s : Plain) (v w : View) (a : FarArray) (m o : FarMap)
    (st : Stands n s v a m) (small : n < 1000000000) (history : HasOneHistory c 1 w)
    (idle : w.fresh ≡ []) (key : ℕ) where
  abbrev mine : Bucket
  mine = bucket_in m.buckets key

  abbrev found : Option ℕ
  found = place_of key (pairs_in v.written mine)

  told_so : (q : Option ℕ) → q ≡ finite.get (map_of v m) key → found_said q ≡ found_said (finite.get s.pairs key)
  told_so q is = ap found_said (is ∙ ap (λ (f : finite.FinMap _ ℕ). finite.get f key) st.map_is.pairs)

  pub look_ends : (r : Result (Option ℕ) Cannot) → IfOk r (λ x. IsLooked key x v m w o)
      → OnErr r (StaysMap (trouble r) v m w o)
      → KeepsMap c 1 (look_plan v.written mine key) (trouble r) v m w o
      → (result : Result FarAnswer Want) → IfOk result (Says found_said r)
      → IfOk result (λ said. CommandGoes c 1 s (Look key) said v a m w a o
      × Stands (n + 1) (after_said s (Look key) said) w a o)
  look_ends r ok stays keeps result says = map_said c n s v w a m o st small history idle (Look key)
      (look_plan v.written mine key) (look_suits n s v a m st key) (look_writes n s v a m st key) refl found_said
      found_plain (record { list = refl; longest = refl }) r (tells r ok) (after r ok) stays keeps result says
    where
      tells : (r : Result (Option ℕ) Cannot) → IfOk r (λ x. IsLooked key x v m w o)
          → IfOk r (λ x. found_said x ≡ plain_said s (Look key))
      tells (Ok x) looked = told_so x looked.value
      tells (Err e) looked = tt

      after : (r : Result (Option ℕ) Cannot) → IfOk r (λ x. IsLooked key x v m w o)
          → IfOk r (λ _. AfterMap n s w a o)
      after (Ok x) looked = record {
        pairs = looked.map ∙ st.map_is.pairs;
        counts = ap (λ (z : FarMap). map (λ (b : Bucket). b.count) z.buckets) looked.left
            ∙ st.map_is.counts;
        kept = ap (λ (z : FarMap). map (λ (b : Bucket). length b.kept) z.buckets) looked.left
            ∙ st.map_is.kept;
        going = ap (λ (z : FarMap). z.stop) looked.left ∙ st.map_is.going;
        other = subst (λ (l : List Bucket). AreOther a.kept (kept_of l))
            (sym (ap (λ (z : FarMap). z.buckets) looked.left)) st.other;
        few_keys = let l = ap (λ (z : FarMap). z.len) looked.left in let f = st.few_keys in
            omega (arith, l, f);
      }
      after (Err e) looked = tt

  -- the objects of the bucket then
  held_by : (plan : List Ask) (ask : FarCommand) → IsPlanFor v (n + 2) s ask plan
      → Goes c 1 plan None v w → (later : Bucket) (pairs : List Pair)
      → Becomes v.written mine later pairs w.written → length later.kept ≡ length mine.kept + makes_in plan
  held_by plan ask suits goes later pairs becomes = kept_more c (n + 2) plan v w suits.short suits.of
      (all_done c 1 plan v w goes) mine.kept later.kept (bucket_is n s v a m st key).objects
      becomes.objects

  goes_of : (plan : List Ask) → KeepsMap c 1 plan None v m w o → Goes c 1 plan None v w
  goes_of plan keeps = subst (λ (q : Option _). Answers c 1 q plan None v w) st.map_is.going keeps.calls

  below : count_at s key ≤ most_at s key
  below = st.tallied.fullest (bucket_number key)

  -- ---- a put
  put_count : (x : ℕ) (q : Option ℕ) → found ≡ q
      → length (put_at (pairs_in v.written mine) (key, x) q)
      ≡ (if is_some q then count_at s key else count_at s key + 1)
  put_count x None is = let l = length_push (pairs_in v.written mine) (key, x) in
      let p = long_pairs n s v a m st key in let k = count_is n s v a m st key in omega (arith, l, p, k)
  put_count x (Some p) is = length-set (pairs_in v.written mine) p (key, x)
      ∙ long_pairs n s v a m st key ∙ sym (count_is n s v a m st key)

  put_held : (x : ℕ) (known : Bool) → has_key s key ≡ known → (held : ℕ)
      → held ≡ length mine.kept + (if needs_object s (Put key x) then 1 else 0)
      → held ≡ objects_for (max (most_at s key) (if known then count_at s key else count_at s key + 1)) 64
  put_held x true is held more =
      let none : needs_object s (Put key x) ≡ false =
      ap (λ known. not known && (count_at s key == 64 * objects_for (most_at s key) 64)) is in
      let e = ap {B = ℕ} (λ b. if b then 1 else 0) none in let k = kept_is n s v a m st key in
      let l = below in let f : max (most_at s key) (count_at s key) ≡ most_at s key = omega (arith, l) in
      let g = ap (λ (n : ℕ). objects_for n 64) f in omega (arith, more, e, k, g)
  put_held x false is held more = by (count_at s key == 64 * objects_for (most_at s key) 64) refl
    where
      needs : needs_object s (Put key x) ≡ (count_at s key == 64 * objects_for (most_at s key) 64)
      needs = ap (λ known. not known && (count_at s key == 64 * objects_for (most_at s key) 64)) is

      within : count_at s key ≤ 64 * objects_for (most_at s key) 64
      within = let k = kept_is n s v a m st key in let q = count_is n s v a m st key in
          let i = (bucket_is n s v a m st key).within in omega (arith, k, q, i)

      by : (b : Bool) → (count_at s key == 64 * objects_for (most_at s key) 64) ≡ b
          → held ≡ objects_for (max (most_at s key) (count_at s key + 1)) 64
      by true at = let e = ap {B = ℕ} (λ b. if b then 1 else 0) (needs ∙ at) in
          let k = kept_is n s v a m st key in let l = below in
          let q = eqb-true (count_at s key) (64 * objects_for (most_at s key) 64) at in
          omega (arith, more, e, k, l, q)
      by false at = let e = ap {B = ℕ} (λ b. if b then 1 else 0) (needs ∙ at) in
          let k = kept_is n s v a m st key in let l = below in
          sides (cases_lt (count_at s key) (64 * objects_for (most_at s key) 64)) e k l
        where
          sides : (count_at s key < 64 * objects_for (most_at s key) 64)
              ⊎ (64 * objects_for (most_at s key) 64 ≤ count_at s key)
              → ◌≡◌ {A = ℕ} (if needs_object s (Put key x) then 1 else 0) 0
              → length mine.kept ≡ objects_for (most_at s key) 64 → count_at s key ≤ most_at s key
              → held ≡ objects_for (max (most_at s key) (count_at s key + 1)) 64
          sides (inl less) e k l = omega (arith, more, e, k, l, less)
          sides (inr past) e k l = absurd (true≢false (sym (eq-eqb (count_at s key)
              (64 * objects_for (most_at s key) 64) (let w = within in omega (arith, past, w))) ∙ at))

  abbrev put_calls : ℕ → List Ask
  put_calls x = put_plan v.written mine (key, x)

  abbrev more_pairs : ℕ
  more_pairs = if has_key s key then count_at s key else count_at s key + 1

  abbrev drop_calls : List Ask
  drop_calls = drop_plan v.written mine key

  abbrev less_pairs : ℕ
  less_pairs = if has_key s key then count_at s key - 1 else count_at s key

  pub put_ends : (x : ℕ) (r : Result (Option ℕ) Cannot) → IfOk r (λ y. IsPut (key, x) y v m w o)
      → OnErr r (StaysMap (trouble r) v m w o)
      → KeepsMap c 1 (put_plan v.written mine (key, x)) (trouble r) v m w o
      → (result : Result FarAnswer Want) → IfOk result (Says found_said r)
      → IfOk result (λ said. CommandGoes c 1 s (Put key x) said v a m w a o
      × Stands (n + 1) (after_said s (Put key x) said) w a o)
  put_ends x r ok stays keeps result says = map_said c n s v w a m o st small history idle (Put key x)
      (put_calls x) suits (put_writes n s v a m st key x) refl found_said found_plain
      (record { list = refl; longest = refl }) r (tells r ok) (after r ok keeps) stays keeps result says
    where
      suits : IsPlanFor v (n + 2) s (Put key x) (put_calls x)
      suits = put_suits n s v a m st key x

      tells : (r : Result (Option ℕ) Cannot) → IfOk r (λ y. IsPut (key, x) y v m w o)
          → IfOk r (λ y. found_said y ≡ plain_said s (Put key x))
      tells (Ok y) put = told_so y put.value
      tells (Err e) put = tt

      after : (r : Result (Option ℕ) Cannot) → IfOk r (λ y. IsPut (key, x) y v m w o)
          → KeepsMap c 1 (put_calls x) (trouble r) v m w o
          → IfOk r (λ _. AfterMap n (plain_after s (Put key x)) w a o)
      after (Err e) put keeps = tt
      after (Ok y) put keeps =
          let goes = goes_of (put_calls x) keeps in
          let counted : put.bucket.count ≡ more_pairs = count_now n s v a m st key w put.bucket
          (put_in v.written mine (key, x)) put.becomes ∙ put_count x found refl
          ∙ ap {B = ℕ} (λ (b : Bool). if b then count_at s key else count_at s key + 1)
          (sym (known_is n s v a m st key)) in
          let held = put_held x (has_key s key) refl (length put.bucket.kept)
          (held_by (put_calls x) (Put key x) suits goes put.bucket (put_in v.written mine (key, x)) put.becomes
          ∙ ap (λ (k : ℕ). length mine.kept + k) suits.makes) in record {
            pairs = put.map ∙ ap (λ (f : finite.FinMap _ ℕ). finite.insert f key x) st.map_is.pairs;
            counts = ap (λ (z : FarMap). map (λ (b : Bucket). b.count) z.buckets) put.left
                ∙ counts_now n s v a m st key w put.bucket (put_in v.written mine (key, x)) put.becomes more_pairs
                counted held;
            kept = ap (λ (z : FarMap). map (λ (b : Bucket). length b.kept) z.buckets) put.left
                ∙ kept_now n s v a m st key w put.bucket (put_in v.written mine (key, x)) put.becomes more_pairs
                counted held;
            going = ap (λ (z : FarMap). z.stop) put.left ∙ st.map_is.going;
            other = subst (λ (l : List Bucket). AreOther a.kept (kept_of l))
                (sym (ap (λ (z : FarMap). z.buckets) put.left))
                (other_now n s v a m st key w put.bucket (put_in v.written mine (key, x)) put.becomes);
            few_keys = let l = ap (λ (z : FarMap). z.len) put.left in let f = st.few_keys in
                let t = at_most (is_some y) in omega (arith, l, f, t);
          }
        where
          at_most : (b : Bool) → (if b then m.len else m.len + 1) ≤ m.len + 1
          at_most true = omega arith
          at_most false = omega arith

  -- ---- a drop
  drop_count : (q : Option ℕ) → found ≡ q → length (dropped_at (pairs_in v.written mine) q)
      ≡ (if is_some q then count_at s key - 1 else count_at s key)
  drop_count None is = long_pairs n s v a m st key ∙ sym (count_is n s v a m st key)
  drop_count (Some p) is =
      let l = place_low n s v a m st key p is in
      let k = count_is n s v a m st key in let t = long_pairs n s v a m st key in
      let d = length-take (length (pairs_in v.written mine) - 1) (slice_set (pairs_in v.written mine) p
      (pair_of (pairs_in v.written mine) (length (pairs_in v.written mine) - 1))) in
      let e = length-set (pairs_in v.written mine) p
      (pair_of (pairs_in v.written mine) (length (pairs_in v.written mine) - 1)) in
      omega (arith, l, k, t, d, e)

  drop_held : (known : Bool) → (held : ℕ) → held ≡ length mine.kept + 0
      → held ≡ objects_for (max (most_at s key)
      (if known then count_at s key - 1 else count_at s key)) 64
  drop_held true held more = let k = kept_is n s v a m st key in let l = below in
      let f : max (most_at s key) (count_at s key - 1) ≡ most_at s key = omega (arith, l) in
      let g = ap (λ (n : ℕ). objects_for n 64) f in omega (arith, more, k, g)
  drop_held false held more = let k = kept_is n s v a m st key in let l = below in
      let f : max (most_at s key) (count_at s key) ≡ most_at s key = omega (arith, l) in
      let g = ap (λ (n : ℕ). objects_for n 64) f in omega (arith, more, k, g)

  pub drop_ends : (r : Result (Option ℕ) Cannot) → IfOk r (λ y. IsDropped key y v m w o)
      → OnErr r (StaysMap (trouble r) v m w o)
      → KeepsMap c 1 (drop_plan v.written mine key) (trouble r) v m w o
      → (result : Result FarAnswer Want) → IfOk result (Says found_said r)
      → IfOk result (λ said. CommandGoes c 1 s (Drop key) said v a m w a o
      × Stands (n + 1) (after_said s (Drop key) said) w a o)
  drop_ends r ok stays keeps result says = map_said c n s v w a m o st small history idle (Drop key)
      drop_calls suits (drop_writes n s v a m st key) refl found_said found_plain
      (record { list = refl; longest = refl }) r (tells r ok) (after r ok keeps) stays keeps result says
    where
      suits : IsPlanFor v (n + 2) s (Drop key) drop_calls
      suits = drop_suits n s v a m st key

      tells : (r : Result (Option ℕ) Cannot) → IfOk r (λ y. IsDropped key y v m w o)
          → IfOk r (λ y. found_said y ≡ plain_said s (Drop key))
      tells (Ok y) dropped = told_so y dropped.value
      tells (Err e) dropped = tt

      after : (r : Result (Option ℕ) Cannot) → IfOk r (λ y. IsDropped key y v m w o)
          → KeepsMap c 1 drop_calls (trouble r) v m w o
          → IfOk r (λ _. AfterMap n (plain_after s (Drop key)) w a o)
      after (Err e) dropped keeps = tt
      after (Ok y) dropped keeps =
          let goes = goes_of drop_calls keeps in
          let counted : dropped.bucket.count ≡ less_pairs = count_now n s v a m st key w dropped.bucket
          (dropped_in v.written mine key) dropped.becomes ∙ drop_count found refl
          ∙ ap {B = ℕ} (λ (b : Bool). if b then count_at s key - 1 else count_at s key)
          (sym (known_is n s v a m st key)) in
          let held = drop_held (has_key s key) (length dropped.bucket.kept)
          (held_by drop_calls (Drop key) suits goes dropped.bucket (dropped_in v.written mine key) dropped.becomes
          ∙ ap (λ (k : ℕ). length mine.kept + k) suits.makes) in record {
            pairs = dropped.map ∙ ap (λ (f : finite.FinMap _ ℕ). finite.remove f key) st.map_is.pairs;
            counts = ap (λ (z : FarMap). map (λ (b : Bucket). b.count) z.buckets) dropped.left
                ∙ counts_now n s v a m st key w dropped.bucket (dropped_in v.written mine key) dropped.becomes
                less_pairs counted held;
            kept = ap (λ (z : FarMap). map (λ (b : Bucket). length b.kept) z.buckets) dropped.left
                ∙ kept_now n s v a m st key w dropped.bucket (dropped_in v.written mine key) dropped.becomes
                less_pairs counted held;
            going = ap (λ (z : FarMap). z.stop) dropped.left ∙ st.map_is.going;
            other = subst (λ (l : List Bucket). AreOther a.kept (kept_of l))
                (sym (ap (λ (z : FarMap). z.buckets) dropped.left))
                (other_now n s v a m st key w dropped.bucket (dropped_in v.written mine key) dropped.becomes);
            few_keys = let l = ap (λ (z : FarMap). z.len) dropped.left in let f = st.few_keys in
                let t = at_most (is_some y) in omega (arith, l, f, t);
          }
        where
          at_most : (b : Bool) → (if b then m.len - 1 else m.len) ≤ m.len + 1
          at_most true = omega arith
          at_most false = omega arith
