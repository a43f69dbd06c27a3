-- What a command on the map comes to: what is said of it, and what stands behind it.
use Rattle.std.proofs.Common.{◌≡◌, ◌≢◌, ◌⊎◌, ℕ, zero, suc, ◌+◌, ◌/◌, ◌<◌, ◌≤◌, true≢false, List, [], ◌∷◌, ◌++◌, length, map, slice_set, Option, None, Some, Result, Ok, Err, IfOk, OnErr, refl, sym, ap, ◌∙◌, subst, inl, inr, arith}
use Rattle.std.specs.List.{AllByRecursion}
use Rattle.std.proofs.lemmas.Bool.{cases_lt}
use Rattle.std.proofs.lemmas.List.{length-append, length-set}
use Rattle.cb_member.specs.declared.no_memory.NoMemory.{NoMemory as Want}
use Rattle.cb_types.specs.declared.config.Config.{Config}
use Rattle.cb_types.specs.declared.reply.Reply.{Reply}
use Rattle.cb_world.specs.declared.entry.Entry.{Entry}
use Rattle.cb_rule.specs.declared.view.View.{View}
use Rattle.cb_rule.specs.Lists.{Each, Has}
use Rattle.cb_map_text.specs.Plain.{Plain, after_said, objects_for, plain_after, plain_said}
use Rattle.cb_map_text.specs.declared.command.FarAnswer.{FarAnswer}
use Rattle.cb_map_text.specs.declared.command.FarCommand.{FarCommand}
use Rattle.cb_farmap.specs.declared.array.FarArray.{FarArray}
use Rattle.cb_farmap.specs.declared.bucket.Bucket.{Bucket}
use Rattle.cb_farmap.specs.declared.kept.Cannot.{Cannot}
use Rattle.cb_farmap.specs.declared.kept.Cannot.TheVariants as cannot
use Rattle.cb_farmap.specs.declared.kept.KeptObject.{KeptObject}
use Rattle.cb_farmap.specs.declared.map.FarMap.{FarMap}
use Rattle.cb_farmap.specs.BothNow.{AreOther, IsArrayNow}
use Rattle.cb_farmap.specs.BucketChanges.{ChangesOne}
use Rattle.cb_farmap.specs.Calls.{Answers, Ask, AskMake, AskRead, AskWrite, Goes, trouble}
use Rattle.cb_farmap.specs.Changes.{AreSole, IsCalm, with_next}
use Rattle.cb_farmap.specs.Commands.{CommandGoes, HasOneHistory, HasWritten, calls_of, refusal_in}
use Rattle.cb_farmap.specs.MapChanges.{KeepsMap, StaysMap}
use Rattle.cb_farmap.specs.Maps.{IsCalmMap, kept_of, map_of}
use Rattle.cb_farmap.specs.Objects.{IsObject, blank, object_at}
use Rattle.cb_farmap.specs.Stands.{Says, Stands}
use Rattle.cb_farmap.specs.Stops.{stop_behind}
use Rattle.cb_farmap.proofs.ArrayEach.{is_write}
use Rattle.cb_farmap.proofs.Arrays.{array_on, list_on}
use Rattle.cb_farmap.proofs.BucketList.{all_both, all_left, all_right}
use Rattle.cb_farmap.proofs.Commanding.{AreNow, ends_so, said_by}
use Rattle.cb_farmap.proofs.Lists.{all_more, all_set, each_there}
use Rattle.cb_farmap.proofs.PlanAdds.{IsEntryIn, IsOfRecord, IsPlanFor, IsShort, PlanAdds, adds_so, makes_in, short_few, some_make}
use Rattle.cb_farmap.proofs.Standing.{all_has, all_loose, get_has, goes_on_so, has_wrote, others_sole}

-- ---- all objects of buckets, where one bucket is another
pub all_flat_set : (P : KeptObject → Type 0) (bs : List Bucket) (i : ℕ) (later : Bucket)
    → AllByRecursion P (kept_of bs) → AllByRecursion P later.kept
    → AllByRecursion P (kept_of (slice_set bs i later))
all_flat_set P [] i later all new = all
all_flat_set P (b ∷ bs) zero later all new =
    all_both P later.kept (kept_of bs) new (all_right P b.kept (kept_of bs) all)
all_flat_set P (b ∷ bs) (suc i) later all new =
    all_both P b.kept (kept_of (slice_set bs i later)) (all_left P b.kept (kept_of bs) all)
    (all_flat_set P bs i later (all_right P b.kept (kept_of bs) all) new)

-- ---- how many objects there are behind a plan that changed one at the most

no_both : (plan : List Ask) → IsShort plan → 1 ≤ makes_in plan → (k : KeptObject) (at : ℕ)
    (bytes : List ℕ) → Has (AskWrite k at bytes) plan → ⊥
no_both [] short some k at bytes there = there
no_both (AskRead z ∷ plan) short some k at bytes (inl is) =
    true≢false (sym (ap is_write is))
no_both (AskRead z ∷ plan) short some k at bytes (inr there) =
    no_both plan short (omega (arith, some)) k at bytes there
no_both (AskWrite z p q ∷ plan) short some k at bytes there =
    let e = ap makes_in short in omega (arith, e, some)
no_both (AskMake z ∷ plan) short some k at bytes (inl is) = true≢false (sym (ap is_write is))
no_both (AskMake z ∷ plan) short some k at bytes (inr there) =
    subst (λ (p : List Ask). Has (AskWrite k at bytes) p) short there

module _ (c : Config) (most : ℕ) (plan : List Ask) (v w : View) (short : IsShort plan)
    (of : Each (IsOfRecord v most) plan) (x : PlanAdds c 1 plan (makes_in plan) v w)
    (ks later : List KeptObject) (objects : AllByRecursion (IsObject v.written) ks) where
  -- the one entry that is new
  one_entry : (e : Entry) → w.written ≡ e ∷ v.written → IsEntryIn plan v e
  one_entry e front = by x.entries x.wrote x.entries_are
    where
      by : (es : List Entry) → w.written ≡ es ++ v.written → Each (IsEntryIn plan v) es
          → IsEntryIn plan v e
      by [] is each = absurd (let n = ap (λ (l : List Entry). length l) (sym is ∙ front) in omega (arith, n))
      by (y ∷ []) is each = subst (IsEntryIn plan v) (same_head y e v.written (sym is ∙ front)) each.0
        where
          same_head : (y e : Entry) (l : List Entry) → y ∷ l ≡ e ∷ l → y ≡ e
          same_head y e l p = cc
      by (y ∷ z ∷ es) is each = absurd (let n = ap (λ (l : List Entry). length l) (sym is ∙ front) in
          let b = length-append es v.written in omega (arith, n, b))

  unknown_off : (k : KeptObject) → Has k ks → HasWritten v k.handle.n
  unknown_off k there = has_wrote v k (all_has (IsObject v.written) ks objects k there)

  none_made : w.written ≡ v.written → makes_in plan ≡ 0
  none_made same = let n = ap (λ (l : List Entry). length l) (sym x.wrote ∙ same) in
      let b = length-append x.entries v.written in let s = x.some in omega (arith, n, b, s)

  write_makes : (e : Entry) → w.written ≡ e ∷ v.written → HasWritten v e.handle → makes_in plan ≡ 0
  write_makes e front known = by (cases_lt 0 (makes_in plan)) (one_entry e front)
    where
      by : (0 < makes_in plan) ⊎ (makes_in plan ≤ 0) → IsEntryIn plan v e → makes_in plan ≡ 0
      by (inr none) entry = omega (arith, none)
      by (inl some) (inl (k, at, bytes, there, is)) =
          absurd (no_both plan short (omega (arith, some)) k at bytes there)
      by (inl some) (inr (bytes, there, off)) = absurd (off known)

  made_one : (e : Entry) → w.written ≡ e ∷ v.written
      → ((y : Entry) → Has y v.written → y.handle ≢ e.handle) → makes_in plan ≡ 1
  made_one e front fresh = by (one_entry e front)
    where
      few : makes_in plan ≤ 1
      few = let s = x.some in let f = x.few in let m = short_few plan short in omega (arith, s, f, m)

      by : IsEntryIn plan v e → makes_in plan ≡ 1
      by (inr (bytes, there, off)) = let s = some_make plan bytes there in omega (arith, s, few)
      by (inl (k, at, bytes, there, is)) =
          let z = (each_there (IsOfRecord v most) (AskWrite k at bytes) plan of there).0 in
          absurd (fresh z.0 z.1 (z.2 ∙ sym is))

  pub kept_more : ChangesOne v.written ks later w.written → length later ≡ length ks + makes_in plan
  kept_more (inl (same, written)) = let n = none_made written in
      let l = ap (λ (l : List KeptObject). length l) same in omega (arith, n, l)
  kept_more (inr (inl (place, p, range, pair))) =
      let k = object_at ks (place / 64) in
      let there = get_has ks (place / 64) blank (omega (arith, range)) in
      let n = write_makes pair.wrote.entry pair.wrote.front
      (subst (HasWritten v) (sym pair.wrote.handle) (unknown_off k there)) in
      let l = ap (λ (l : List KeptObject). length l) pair.kept in
      let s = length-set ks (place / 64) (with_next k) in omega (arith, n, l, s)
  kept_more (inr (inr (p, made))) =
      let n = made_one made.entry made.front (λ y has same. made.fresh y has (same ∙ made.handle)) in
      let l = ap (λ (l : List KeptObject). length l) made.more in
      let b = length-append ks (made.made ∷ []) in omega (arith, n, l, b)

-- the objects have the property then, which those of later versions have too
pub all_changed : (P : KeptObject → Type 0) (es new : List Entry) (ks later : List KeptObject)
    → ((k : KeptObject) → P k → P (with_next k))
    → ((k : KeptObject) → ((e : Entry) → Has e es → e.handle ≢ k.handle.n) → P k)
    → AllByRecursion P ks → ChangesOne es ks later new → AllByRecursion P later
all_changed P es new ks later next fresh all (inl (same, written)) =
    subst (AllByRecursion P) (sym same) all
all_changed P es new ks later next fresh all (inr (inl (place, p, range, pair))) =
    subst (AllByRecursion P) (sym pair.kept) (all_set P ks (place / 64)
    (with_next (object_at ks (place / 64))) all (next (object_at ks (place / 64))
    (all_has P ks all (object_at ks (place / 64)) (get_has ks (place / 64) blank (omega (arith, range))))))
all_changed P es new ks later next fresh all (inr (inr (p, made))) =
    subst (AllByRecursion P) (sym made.more) (all_more P ks made.made all (fresh made.made made.fresh))

-- ---- what is known of the map before a command
pub calm_map : (n : ℕ) (s : Plain) (v : View) (a : FarArray) (m : FarMap) → Stands n s v a m
    → IsCalmMap v m
calm_map n s v a m st = record {
  whole = st.record_is.whole;
  going = st.map_is.going;
  sole = st.map_is.sole;
  loose = all_loose v st.record_is.loose (kept_of m.buckets);
}

-- another map, and the list as it was
pub record KeepsList (s after : Plain) : Type 0 where
  pub list : after.list ≡ s.list
  pub longest : after.longest ≡ s.longest

-- what a command leaves of the map
pub record AfterMap (n : ℕ) (later : Plain) (w : View) (a : FarArray) (o : FarMap) : Type 0 where
  pub pairs : map_of w o ≡ later.pairs
  pub counts : map (λ (b : Bucket). b.count) o.buckets ≡ later.counts
  pub kept : map (λ (b : Bucket). length b.kept) o.buckets
      ≡ map (λ most. objects_for most 64) later.fullest
  pub going : o.stop ≡ None
  pub other : AreOther a.kept (kept_of o.buckets)
  pub few_keys : o.len ≤ n + 1

module _ (c : Config) (n : ℕ) (s : Plain) (v w : View) (a : FarArray) (m o : FarMap)
    (st : Stands n s v a m) (small : n < 1000000000) (history : HasOneHistory c 1 w)
    (idle : w.fresh ≡ []) (ask : FarCommand) (plan : List Ask)
    (suits : IsPlanFor v (n + 2) s ask plan)
    (writes : (k : KeptObject) (at : ℕ) (bytes : List ℕ) → Has (AskWrite k at bytes) plan
    → Has k (kept_of m.buckets)) (its : calls_of v a m ask ≡ plan) where
  module _ (t : Option Cannot) (keeps : KeepsMap c 1 plan t v m w o) where
    calm : IsCalm t
    calm = (keeps.calm (calm_map n s v a m st)).0

    goes : Goes c 1 plan t v w
    goes = subst (λ (q : Option _). Answers c 1 q plan t v w) st.map_is.going keeps.calls

    -- the array stays, and nobody else has its objects
    sole_array : (t ≡ None) ⊎ ((r : Reply) × (t ≡ Some (cannot.Refused r))) → AreSole w a.kept
    sole_array ended = let x = adds_so c 1 plan t v w suits.short goes ended in
        others_sole c 1 plan x.0 v w x.1 a.kept st.array_is.array.objects
        (λ k y at bytes asked there e. st.other y k there (writes k at bytes asked) (sym e))
        st.array_is.sole

    array_now : (later : Plain) → KeepsList s later → AreSole w a.kept → IsArrayNow later w a
    array_now later same sole = record {
      array = array_on v w a st.array_is.array keeps.on a.stop;
      list = list_on v w a st.array_is.array keeps.on a.stop ∙ st.array_is.list ∙ sym same.list;
      kept = st.array_is.kept ∙ ap (λ (n : ℕ). objects_for n 128) (sym same.longest);
      going = st.array_is.going;
      sole = sole;
    }

    now : (later : Plain) → KeepsList s later → AreSole w a.kept → AfterMap n later w a o
        → AreNow (n + 1) later w a o
    now later same sole after = record {
      array_is = array_now later same sole;
      map_is = record {
        map_is = keeps.map;
        pairs = after.pairs;
        counts = after.counts;
        kept = after.kept;
        going = after.going;
        sole = (keeps.calm (calm_map n s v a m st)).1;
      };
      other = after.other;
      few = let f = st.few in let e = ap (λ (l : List ℕ). length l) same.list in omega (arith, f, e);
      few_keys = after.few_keys;
    }

    refused_now : StaysMap t v m w o → (r : Reply) → t ≡ Some (cannot.Refused r)
        → AreNow (n + 1) s w a o
    refused_now stays r at = now s (record { list = refl; longest = refl }) (sole_array (inr (r, at)))
        (record {
          pairs = stays.map ∙ st.map_is.pairs;
          counts = ap (λ (z : FarMap). map (λ (b : Bucket). b.count) z.buckets) stays.left
              ∙ st.map_is.counts;
          kept = ap (λ (z : FarMap). map (λ (b : Bucket). length b.kept) z.buckets) stays.left
              ∙ st.map_is.kept;
          going = ap (λ (z : FarMap). z.stop) stays.left
              ∙ ap (λ (q : Option _). stop_behind q t) st.map_is.going ∙ goes_on_so t calm;
          other = subst (λ (l : List Bucket). AreOther a.kept (kept_of l))
              (sym (ap (λ (z : FarMap). z.buckets) stays.left)) st.other;
          few_keys = let l = ap (λ (z : FarMap). z.len) stays.left in let f = st.few_keys in
              omega (arith, l, f);
        })

  well_by : {X : Type 0} → (r : Result X Cannot) → (same : KeepsList s (plain_after s ask))
      → IfOk r (λ _. AfterMap n (plain_after s ask) w a o) → KeepsMap c 1 plan (trouble r) v m w o
      → trouble r ≡ None → AreSole w a.kept → AreNow (n + 1) (plain_after s ask) w a o
  well_by (Ok x) same after keeps at sole = now None keeps (plain_after s ask) same sole after
  well_by (Err e) same after keeps at sole = absurd (let z : Some e ≡ None = at in cc)

  ill_by : {X : Type 0} → (r : Result X Cannot) → OnErr r (StaysMap (trouble r) v m w o) → (q : Reply)
      → trouble r ≡ Some (cannot.Refused q) → StaysMap (trouble r) v m w o
  ill_by (Ok x) stays q at = absurd (let z : None ≡ Some (cannot.Refused q) = at in cc)
  ill_by (Err e) stays q at = stays

  pub map_said : {X : Type 0} → (f : X → FarAnswer) → ((x : X) → refusal_in (f x) ≡ None)
      → KeepsList s (plain_after s ask) → (r : Result X Cannot) → IfOk r (λ x. f x ≡ plain_said s ask)
      → IfOk r (λ _. AfterMap n (plain_after s ask) w a o)
      → OnErr r (StaysMap (trouble r) v m w o) → KeepsMap c 1 plan (trouble r) v m w o
      → (result : Result FarAnswer Want) → IfOk result (Says f r)
      → IfOk result (λ said. CommandGoes c 1 s ask said v a m w a o
      × Stands (n + 1) (after_said s ask said) w a o)
  map_said f plain same r tells after stays keeps (Err none) says = tt
  map_said f plain same r tells after stays keeps (Ok said) says =
      ends_so c n s ask v w a m plan its (trouble r) st.record_is st.tallied small suits
      (goes (trouble r) keeps) (calm (trouble r) keeps) keeps.on history idle said a o
      (said_by f plain s ask r tells said says)
      (λ at. well_by r same after keeps at (sole_array (trouble r) keeps (inl at)))
      (λ q at. refused_now (trouble r) keeps (ill_by r stays q at) q at)
