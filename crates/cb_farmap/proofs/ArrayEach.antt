-- What each command on the array comes to.
use Rattle.std.proofs.Common.{◌≡◌, ◌≢◌, ◌⊎◌, ℕ, zero, suc, ◌+◌, ◌-◌, ◌*◌, ◌/◌, ◌<◌, ◌≤◌, max, Bool, true, false, true≢false, if◌then◌else◌, List, [], ◌∷◌, ◌++◌, length, take, slice_set, slice_index, Option, None, Some, Result, Ok, Err, IfOk, OnErr, refl, sym, ap, ◌∙◌, subst, inl, inr, arith}
use Rattle.std.specs.Prelude.{nat_lt, ◌==◌, slice_get}
use Rattle.std.proofs.lemmas.Bool.{cases_lt, eq-eqb, eqb-true, le-ltb, lt-ltb}
use Rattle.std.proofs.lemmas.List.{length-set, length-take, length_push}
use Rattle.cb_member.specs.declared.no_memory.NoMemory.{NoMemory as Want}
use Rattle.cb_types.specs.declared.config.Config.{Config}
use Rattle.cb_world.specs.declared.entry.Entry.{Entry}
use Rattle.cb_rule.specs.declared.view.View.{View}
use Rattle.cb_rule.specs.Lists.{Has}
use Rattle.cb_map_text.specs.Plain.{Plain, after_said, found_said, needs_object, objects_for, plain_after, plain_said, with_list, within_said}
use Rattle.cb_map_text.specs.declared.command.FarAnswer.{FarAnswer}
use Rattle.cb_map_text.specs.declared.command.FarAnswer.TheVariants.{Done, Number, Outside}
use Rattle.cb_map_text.specs.declared.command.FarCommand.{FarCommand}
use Rattle.cb_map_text.specs.declared.command.FarCommand.TheVariants.{Push, Set, Get, Pop}
use Rattle.cb_farmap.specs.declared.array.FarArray.{FarArray}
use Rattle.cb_farmap.specs.declared.kept.Cannot.{Cannot}
use Rattle.cb_farmap.specs.declared.kept.Cannot.TheVariants as cannot
use Rattle.cb_farmap.specs.declared.kept.KeptObject.{KeptObject}
use Rattle.cb_farmap.specs.declared.map.FarMap.{FarMap}
use Rattle.cb_farmap.specs.Arrays.{IsGot, IsPopped, IsPushed, IsSet, Keeps, Stays, bytes_with, get_plan, is_full, make_plan, pop_plan, push_plan, set_plan}
use Rattle.cb_farmap.specs.Calls.{Ask, AskMake, AskRead, AskWrite, trouble}
use Rattle.cb_farmap.specs.Changes.{with_next}
use Rattle.cb_farmap.specs.Commands.{CommandGoes, HasOneHistory, calls_of, calls_within, refusal_in}
use Rattle.cb_farmap.specs.Objects.{blank, object_at}
use Rattle.cb_farmap.specs.Stands.{Says, Stands}
use Rattle.cb_farmap.proofs.ArrayCommands.{AfterArray, KeepsMap, KeepsOther, array_said, in_range, is_object, long, next_low, one_of}
use Rattle.cb_farmap.proofs.Behind.{on_same}
use Rattle.cb_farmap.proofs.Commanding.{AreNow, ends_so}
use Rattle.cb_farmap.proofs.Commanding.SaidBy.{well}
use Rattle.cb_farmap.proofs.Numbers.{long_new}
use Rattle.cb_farmap.proofs.PlanAdds.{IsPlanFor}
use Rattle.cb_farmap.proofs.Standing.{get_has, has_wrote}

-- ---- lists of objects
set_has : (ks : List KeptObject) (o : ℕ) (z y : KeptObject) → Has y (slice_set ks o z)
    → Has y ks ⊎ (z ≡ y)
set_has [] o z y there = absurd there
set_has (k ∷ ks) zero z y (inl is) = inr is
set_has (k ∷ ks) zero z y (inr there) = inl (inr there)
set_has (k ∷ ks) (suc o) z y (inl is) = inl (inl is)
set_has (k ∷ ks) (suc o) z y (inr there) = by (set_has ks o z y there)
  where
    by : Has y ks ⊎ (z ≡ y) → Has y (k ∷ ks) ⊎ (z ≡ y)
    by (inl old) = inl (inr old)
    by (inr new) = inr new

push_has : (ks : List KeptObject) (z y : KeptObject) → Has y (ks ++ z ∷ []) → Has y ks ⊎ (z ≡ y)
push_has [] z y (inl is) = inr is
push_has [] z y (inr there) = absurd there
push_has (k ∷ ks) z y (inl is) = inl (inl is)
push_has (k ∷ ks) z y (inr there) = by (push_has ks z y there)
  where
    by : Has y ks ⊎ (z ≡ y) → Has y (k ∷ ks) ⊎ (z ≡ y)
    by (inl old) = inl (inr old)
    by (inr new) = inr new

-- objects of which one was written, or one made
pub set_other : (v : View) (ks : List KeptObject) (o : ℕ) → o < length ks
    → KeepsOther v ks (slice_set ks o (with_next (object_at ks o)))
set_other v ks o range y there = by (set_has ks o (with_next (object_at ks o)) y there)
  where
    by : Has y ks ⊎ (with_next (object_at ks o) ≡ y)
        → ((x : KeptObject) × Has x ks × (y.handle.n ≡ x.handle.n))
        ⊎ ((e : Entry) → Has e v.written → e.handle ≢ y.handle.n)
    by (inl old) = inl (y, old, refl)
    by (inr is) = inl (
      object_at ks o,
      get_has ks o blank range,
      sym (ap (λ (k : KeptObject). k.handle.n) is),
    )

pub push_other : (v : View) (ks : List KeptObject) (z : KeptObject)
    → ((e : Entry) → Has e v.written → e.handle ≢ z.handle.n) → KeepsOther v ks (ks ++ z ∷ [])
push_other v ks z fresh y there = by (push_has ks z y there)
  where
    by : Has y ks ⊎ (z ≡ y) → ((x : KeptObject) × Has x ks × (y.handle.n ≡ x.handle.n))
        ⊎ ((e : Entry) → Has e v.written → e.handle ≢ y.handle.n)
    by (inl old) = inl (y, old, refl)
    by (inr is) = inr (λ e has same. fresh e has (same ∙ sym (ap (λ (k : KeptObject). k.handle.n) is)))

-- the object that a call is on
abbrev written_of : Ask → KeptObject
written_of (AskRead k) = k
written_of (AskWrite k at bytes) = k
written_of (AskMake bytes) = blank

abbrev pub is_write : Ask → Bool
is_write (AskWrite k at bytes) = true
is_write ask = false

pub one_write : (z k : KeptObject) (p at : ℕ) (some bytes : List ℕ)
    → Has (AskWrite k at bytes) (AskWrite z p some ∷ []) → z ≡ k
one_write z k p at some bytes (inl is) = ap written_of is
one_write z k p at some bytes (inr there) = absurd there

pub no_write_read : (z k : KeptObject) (at : ℕ) (bytes : List ℕ)
    → Has (AskWrite k at bytes) (AskRead z ∷ []) → ⊥
no_write_read z k at bytes (inl is) = true≢false (sym (ap is_write is))
no_write_read z k at bytes (inr there) = there

pub no_write_make : (some : List ℕ) (k : KeptObject) (at : ℕ) (bytes : List ℕ)
    → Has (AskWrite k at bytes) (AskMake some ∷ []) → ⊥
no_write_make some k at bytes (inl is) = true≢false (sym (ap is_write is))
no_write_make some k at bytes (inr there) = there

found_plain : (o : Option ℕ) → refusal_in (found_said o) ≡ None
found_plain None = refl
found_plain (Some n) = refl

module _ (c : Config) (n : ℕ) (s : Plain) (v w : View) (a b : FarArray) (m : FarMap)
    (st : Stands n s v a m) (small : n < 1000000000) (history : HasOneHistory c 1 w)
    (idle : w.fresh ≡ []) where
  list_is : length s.list ≡ a.len
  list_is = long n s v a m st

  kept_same : b.kept ≡ a.kept → KeepsOther v a.kept b.kept
  kept_same is y there = inl (y, subst (λ (l : List KeptObject). Has y l) is there, refl)

  some_there : (a.len == 0) ≡ false → 1 ≤ a.len
  some_there is = by (cases_lt 0 a.len)
    where
      by : (0 < a.len) ⊎ (a.len ≤ 0) → 1 ≤ a.len
      by (inl less) = omega (arith, less)
      by (inr none) = absurd (true≢false (sym (eq-eqb a.len 0 (omega (arith, none))) ∙ is))

  -- ---- a push
  needs_is : (x : ℕ) → needs_object s (Push x) ≡ is_full a.kept a.len
  needs_is x = λ i. (list_is i) == (128 * sym st.array_is.kept i)

  open_range : is_full a.kept a.len ≡ false → a.len / 128 < length a.kept
  open_range room = by (cases_lt a.len (128 * length a.kept))
    where
      by : (a.len < 128 * length a.kept) ⊎ (128 * length a.kept ≤ a.len) → a.len / 128 < length a.kept
      by (inl less) = omega (arith, less)
      by (inr past) = absurd (true≢false (sym (eq-eqb a.len (128 * length a.kept)
          (let w = st.array_is.array.within in omega (arith, w, past))) ∙ room))

  push_suits : (x : ℕ) (full : Bool) → is_full a.kept a.len ≡ full
      → IsPlanFor v (n + 2) s (Push x) (if full then make_plan x else set_plan a.kept a.len x)
  push_suits x true is = record {
    short = refl;
    of = (long_new x, tt);
    makes = sym (ap {B = ℕ} (λ b. if b then 1 else 0) (needs_is x ∙ is));
    calls = λ no. absurd (true≢false no);
  }
  push_suits x false is = let r = open_range is in record {
    short = refl;
    of = ((has_wrote v _ (is_object n s v a m st a.len r), next_low n s v a m st a.len r), tt);
    makes = sym (ap {B = ℕ} (λ b. if b then 1 else 0) (needs_is x ∙ is));
    calls = λ no. absurd (true≢false no);
  }

  push_writes : (x : ℕ) (full : Bool) → is_full a.kept a.len ≡ full → (k : KeptObject) (at : ℕ)
      (bytes : List ℕ) → Has (AskWrite k at bytes) (if full then make_plan x else set_plan a.kept a.len x)
      → Has k a.kept
  push_writes x true is k at bytes there = absurd (no_write_make (bytes_with x) k at bytes there)
  push_writes x false is k at bytes there = subst (λ (y : KeptObject). Has y a.kept)
      (one_write (object_at a.kept (a.len / 128)) k _ at _ bytes there)
      (one_of n s v a m st a.len (open_range is))

  module _ (x : ℕ) (pushed : IsPushed x v a w b) where
    push_long : (full : Bool) → is_full a.kept a.len ≡ full
        → length b.kept ≡ objects_for (max s.longest (length s.list + 1)) 128
    push_long true is = let z = pushed.full is in
        let l = ap (λ (l : List KeptObject). length l) z.1 in
        let p = length_push a.kept z.0 in let k = st.array_is.kept in let e = list_is in
        let t = st.tallied.longest in let q = eqb-true a.len (128 * length a.kept) is in
        omega (arith, l, p, k, e, t, q)
    push_long false is =
        let l = ap (λ (l : List KeptObject). length l) (pushed.room is) in
        let p = length-set a.kept (a.len / 128) (with_next (object_at a.kept (a.len / 128))) in
        let k = st.array_is.kept in let e = list_is in let t = st.tallied.longest in
        let r = open_range is in omega (arith, l, p, k, e, t, r)

    push_kept : (full : Bool) → is_full a.kept a.len ≡ full → KeepsOther v a.kept b.kept
    push_kept true is = let z = pushed.full is in subst (KeepsOther v a.kept) (sym z.1)
        (push_other v a.kept z.0 z.2)
    push_kept false is = subst (KeepsOther v a.kept) (sym (pushed.room is))
        (set_other v a.kept (a.len / 128) (open_range is))

  no_list : KeepsMap s s
  no_list = record { pairs = refl; counts = refl; fullest = refl }

  other_list : (l : List ℕ) → KeepsMap s (with_list s l)
  other_list l = record { pairs = refl; counts = refl; fullest = refl }

  push_after : (x : ℕ) → IsPushed x v a w b → AfterArray n (plain_after s (Push x)) v w a b
  push_after x pushed = record {
    list = pushed.list ∙ ap (λ (l : List ℕ). l ++ x ∷ []) st.array_is.list;
    kept = push_long x pushed (is_full a.kept a.len) refl
        ∙ ap (λ (m : ℕ). objects_for (max s.longest m) 128) (sym (length_push s.list x));
    going = pushed.stop ∙ st.array_is.going;
    other = push_kept x pushed (is_full a.kept a.len) refl;
    few = let p = length_push s.list x in let f = st.few in omega (arith, p, f);
  }

  pub push_ends : (x : ℕ) (r : Result (Unit {0}) Cannot)
      → IfOk r (λ _. IsPushed x v a w b) → OnErr r (Stays (trouble r) v a w b)
      → Keeps c 1 (push_plan a.kept a.len x) (trouble r) v a w b
      → (result : Result FarAnswer Want) → IfOk result (Says (λ _. Done) r)
      → IfOk result (λ said. CommandGoes c 1 s (Push x) said v a m w b m
      × Stands (n + 1) (after_said s (Push x) said) w b m)
  push_ends x r ok stays keeps result says = array_said c n s v w a b m st small history idle (Push x)
      (push_plan a.kept a.len x) (push_suits x (is_full a.kept a.len) refl)
      (push_writes x (is_full a.kept a.len) refl) (other_list (s.list ++ x ∷ [])) refl (λ _. Done) (λ _. refl) r
      (tells r) (after r ok) stays keeps result says
    where
      tells : (r : Result (Unit {0}) Cannot) → IfOk r (λ _. Done ≡ plain_said s (Push x))
      tells (Ok u) = refl
      tells (Err e) = tt

      after : (r : Result (Unit {0}) Cannot) → IfOk r (λ _. IsPushed x v a w b)
          → IfOk r (λ _. AfterArray n (plain_after s (Push x)) v w a b)
      after (Ok u) pushed = push_after x pushed
      after (Err e) pushed = tt

  -- ---- an index within the list
  module _ (i : ℕ) (within : i < a.len) where
    inside : nat_lt i (length s.list) ≡ true
    inside = let e = list_is in lt-ltb i (length s.list) (omega (arith, e, within))

    said_within : (said : FarAnswer) → said ≡ within_said s i said
    said_within said = sym (ap (λ (b : Bool). if b then said else Outside (length s.list)) inside)

    its_calls : (plan : List Ask) → calls_within a i plan ≡ plan
    its_calls plan = ap (λ (b : Bool). if b then plan else []) (lt-ltb i a.len within)

    range : i / 128 < length a.kept
    range = in_range n s v a m st i within

    set_suits : (x : ℕ) → IsPlanFor v (n + 2) s (Set i x) (set_plan a.kept i x)
    set_suits x = record {
      short = refl;
      of = ((has_wrote v _ (is_object n s v a m st i range), next_low n s v a m st i range), tt);
      makes = refl;
      calls = λ no. absurd (true≢false (sym inside ∙ no));
    }

    set_writes : (x : ℕ) (k : KeptObject) (at : ℕ) (bytes : List ℕ)
        → Has (AskWrite k at bytes) (set_plan a.kept i x) → Has k a.kept
    set_writes x k at bytes there = subst (λ (y : KeptObject). Has y a.kept)
        (one_write (object_at a.kept (i / 128)) k _ at _ bytes there) (one_of n s v a m st i range)

    set_after : (x : ℕ) → IsSet i x v a w b → AfterArray n (plain_after s (Set i x)) v w a b
    set_after x set = record {
      list = set.list ∙ ap (λ (l : List ℕ). slice_set l i x) st.array_is.list;
      kept = let l = ap (λ (z : FarArray). length z.kept) set.left in
          let p = length-set a.kept (i / 128) (with_next (object_at a.kept (i / 128))) in
          let k = st.array_is.kept in let t = st.tallied.longest in
          let q = length-set s.list i x in omega (arith, l, p, k, t, q);
      going = ap (λ (z : FarArray). z.stop) set.left ∙ st.array_is.going;
      other = subst (KeepsOther v a.kept) (sym (ap (λ (z : FarArray). z.kept) set.left))
          (set_other v a.kept (i / 128) range);
      few = let q = length-set s.list i x in let f = st.few in omega (arith, q, f);
    }

    pub set_ends : (x : ℕ) (r : Result (Unit {0}) Cannot)
        → IfOk r (λ _. IsSet i x v a w b) → OnErr r (Stays (trouble r) v a w b)
        → Keeps c 1 (set_plan a.kept i x) (trouble r) v a w b
        → (result : Result FarAnswer Want) → IfOk result (Says (λ _. Done) r)
        → IfOk result (λ said. CommandGoes c 1 s (Set i x) said v a m w b m
        × Stands (n + 1) (after_said s (Set i x) said) w b m)
    set_ends x r ok stays keeps result says = array_said c n s v w a b m st small history idle (Set i x)
        (set_plan a.kept i x) (set_suits x) (set_writes x) (other_list (slice_set s.list i x)) (its_calls (set_plan a.kept i x)) (λ _. Done)
        (λ _. refl) r (tells r) (after r ok) stays keeps result says
      where
        tells : (r : Result (Unit {0}) Cannot) → IfOk r (λ _. Done ≡ plain_said s (Set i x))
        tells (Ok u) = said_within Done
        tells (Err e) = tt

        after : (r : Result (Unit {0}) Cannot) → IfOk r (λ _. IsSet i x v a w b)
            → IfOk r (λ _. AfterArray n (plain_after s (Set i x)) v w a b)
        after (Ok u) set = set_after x set
        after (Err e) set = tt

    get_suits : IsPlanFor v (n + 2) s (Get i) (get_plan a.kept i)
    get_suits = record {
      short = tt;
      of = (has_wrote v _ (is_object n s v a m st i range), tt);
      makes = refl;
      calls = λ no. absurd (true≢false (sym inside ∙ no));
    }

    get_writes : (k : KeptObject) (at : ℕ) (bytes : List ℕ)
        → Has (AskWrite k at bytes) (get_plan a.kept i) → Has k a.kept
    get_writes k at bytes there = absurd (no_write_read (object_at a.kept (i / 128)) k at bytes there)

    get_after : (x : ℕ) → IsGot i x v a w b → AfterArray n s v w a b
    get_after x got = record {
      list = got.list ∙ st.array_is.list;
      kept = ap (λ (z : FarArray). length z.kept) got.left ∙ st.array_is.kept;
      going = ap (λ (z : FarArray). z.stop) got.left ∙ st.array_is.going;
      other = kept_same (ap (λ (z : FarArray). z.kept) got.left);
      few = let f = st.few in omega (arith, f);
    }

    pub get_ends : (r : Result ℕ Cannot) → IfOk r (λ x. IsGot i x v a w b)
        → OnErr r (Stays (trouble r) v a w b) → Keeps c 1 (get_plan a.kept i) (trouble r) v a w b
        → (result : Result FarAnswer Want) → IfOk result (Says (λ x. Number x) r)
        → IfOk result (λ said. CommandGoes c 1 s (Get i) said v a m w b m
        × Stands (n + 1) (after_said s (Get i) said) w b m)
    get_ends r ok stays keeps result says = array_said c n s v w a b m st small history idle (Get i)
        (get_plan a.kept i) get_suits get_writes no_list (its_calls (get_plan a.kept i)) (λ x. Number x) (λ _. refl) r (tells r ok)
        (after r ok) stays keeps result says
      where
        tells : (r : Result ℕ Cannot) → IfOk r (λ x. IsGot i x v a w b)
            → IfOk r (λ x. Number x ≡ plain_said s (Get i))
        tells (Ok x) got = ap (λ (y : ℕ). Number y) (got.number
            ∙ ap (λ (l : List ℕ). slice_index l i) st.array_is.list)
            ∙ said_within (Number (slice_index s.list i))
        tells (Err e) got = tt

        after : (r : Result ℕ Cannot) → IfOk r (λ x. IsGot i x v a w b)
            → IfOk r (λ _. AfterArray n s v w a b)
        after (Ok x) got = get_after x got
        after (Err e) got = tt

  -- ---- the last number
  pop_suits : (none : Bool) → (a.len == 0) ≡ none
      → IsPlanFor v (n + 2) s Pop (if none then [] else get_plan a.kept (a.len - 1))
  pop_suits true is = record { short = tt; of = tt; makes = refl; calls = λ no. refl }
  pop_suits false is = let some = some_there is in record {
    short = tt;
    of = (
      has_wrote v _ (is_object n s v a m st (a.len - 1) (in_range n s v a m st (a.len - 1) (omega (arith, some)))),
      tt,
    );
    makes = refl;
    calls = λ no. absurd (true≢false (sym (lt-ltb 0 (length s.list) (let e = list_is in
        omega (arith, e, some))) ∙ no));
  }

  pop_writes : (none : Bool) → (k : KeptObject) (at : ℕ) (bytes : List ℕ)
      → Has (AskWrite k at bytes) (if none then [] else get_plan a.kept (a.len - 1)) → Has k a.kept
  pop_writes true k at bytes there = absurd there
  pop_writes false k at bytes there =
      absurd (no_write_read (object_at a.kept ((a.len - 1) / 128)) k at bytes there)

  pop_after : (o : Option ℕ) → IsPopped o v a w b → AfterArray n (plain_after s Pop) v w a b
  pop_after o popped = record {
    list = popped.list ∙ ap (λ (l : List ℕ). take (length l - 1) l) st.array_is.list;
    kept = let l = ap (λ (z : FarArray). length z.kept) popped.left in
        let k = st.array_is.kept in let t = st.tallied.longest in
        let q = length-take (length s.list - 1) s.list in omega (arith, l, k, t, q);
    going = ap (λ (z : FarArray). z.stop) popped.left ∙ st.array_is.going;
    other = kept_same (ap (λ (z : FarArray). z.kept) popped.left);
    few = let q = length-take (length s.list - 1) s.list in let f = st.few in omega (arith, q, f);
  }

  pub pop_ends : (r : Result (Option ℕ) Cannot) → IfOk r (λ o. IsPopped o v a w b)
      → OnErr r (Stays (trouble r) v a w b) → Keeps c 1 (pop_plan a.kept a.len) (trouble r) v a w b
      → (result : Result FarAnswer Want) → IfOk result (Says found_said r)
      → IfOk result (λ said. CommandGoes c 1 s Pop said v a m w b m
      × Stands (n + 1) (after_said s Pop said) w b m)
  pop_ends r ok stays keeps result says = array_said c n s v w a b m st small history idle Pop
      (pop_plan a.kept a.len) (pop_suits (a.len == 0) refl) (pop_writes (a.len == 0))
      (other_list (take (length s.list - 1) s.list)) refl found_said found_plain r (tells r ok) (after r ok)
      stays keeps result says
    where
      tells : (r : Result (Option ℕ) Cannot) → IfOk r (λ o. IsPopped o v a w b)
          → IfOk r (λ o. found_said o ≡ plain_said s Pop)
      tells (Ok o) popped = ap found_said (popped.number
          ∙ ap (λ (l : List ℕ). slice_get l (length l - 1)) st.array_is.list)
      tells (Err e) popped = tt

      after : (r : Result (Option ℕ) Cannot) → IfOk r (λ o. IsPopped o v a w b)
          → IfOk r (λ _. AfterArray n (plain_after s Pop) v w a b)
      after (Ok o) popped = pop_after o popped
      after (Err e) popped = tt

  -- ---- an index outside the list: no call is made
  set_past : (xs : List ℕ) (i x : ℕ) → length xs ≤ i → slice_set xs i x ≡ xs
  set_past [] i x past = refl
  set_past (y ∷ xs) zero x past = absurd (omega (arith, past))
  set_past (y ∷ xs) (suc i) x past = ap (λ (l : List ℕ). y ∷ l) (set_past xs i x (omega (arith, past)))

  module _ (i : ℕ) (past : a.len ≤ i) (stays : w ≡ v) where
    outside_said : (said : FarAnswer) → Outside a.len ≡ within_said s i said
    outside_said said = ap (λ (l : ℕ). Outside l) (sym list_is)
        ∙ sym (ap (λ (b : Bool). if b then said else Outside (length s.list)) (le-ltb i (length s.list)
        (let e = list_is in omega (arith, e, past))))

    same_past : (x : ℕ) → slice_set s.list i x ≡ s.list
    same_past x = set_past s.list i x (let e = list_is in omega (arith, e, past))

    as_it_was : AreNow (n + 1) s v a m
    as_it_was = record {
      array_is = st.array_is;
      map_is = st.map_is;
      other = st.other;
      few = let f = st.few in omega (arith, f);
      few_keys = let f = st.few_keys in omega (arith, f);
    }

    with_same : (x : ℕ) → with_list s (slice_set s.list i x) ≡ s
    with_same x = λ j. record s {
      list = same_past x j;
      longest = longest_same j;
    }
      where
        longest_same : max s.longest (length (slice_set s.list i x)) ≡ s.longest
        longest_same = let q = length-set s.list i x in let t = st.tallied.longest in
            omega (arith, q, t)

    -- nothing is called
    none_made : (ask : FarCommand) → (needs_object s ask ≡ false) → IsPlanFor v (n + 2) s ask []
    none_made ask none = record {
      short = tt;
      of = tt;
      makes = sym (ap {B = ℕ} (λ b. if b then 1 else 0) none);
      calls = λ no. refl;
    }

    no_calls : (plan : List Ask) → calls_within a i plan ≡ []
    no_calls plan = ap (λ (b : Bool). if b then plan else []) (le-ltb i a.len past)

    outside_ends : (ask : FarCommand) → calls_of v a m ask ≡ [] → needs_object s ask ≡ false → Outside a.len ≡ plain_said s ask
        → plain_after s ask ≡ s
        → CommandGoes c 1 s ask (Outside a.len) v a m w a m × Stands (n + 1) (after_said s ask (Outside a.len)) w a m
    outside_ends ask its none says after = ends_so c n s ask v w a m [] its None st.record_is st.tallied small
        (none_made ask none) stays tt (on_same v w stays) history idle (Outside a.len) a m
        (well refl refl says) (λ at. subst (λ (z : View). AreNow (n + 1) (plain_after s ask) z a m) (sym stays)
        (subst (λ (p : Plain). AreNow (n + 1) p v a m) (sym after) as_it_was))
        (λ q at. absurd (let z : None ≡ Some (cannot.Refused q) = at in cc))

    pub outside_set : (x : ℕ) → CommandGoes c 1 s (Set i x) (Outside a.len) v a m w a m
        × Stands (n + 1) (after_said s (Set i x) (Outside a.len)) w a m
    outside_set x = outside_ends (Set i x) (no_calls (set_plan a.kept i x)) refl (outside_said Done) (with_same x)

    pub outside_get : CommandGoes c 1 s (Get i) (Outside a.len) v a m w a m
        × Stands (n + 1) (after_said s (Get i) (Outside a.len)) w a m
    outside_get = outside_ends (Get i) (no_calls (get_plan a.kept i)) refl (outside_said (Number (slice_index s.list i))) refl
