-- What a command on the array comes to: what is said of it, and what stands behind it.
use Rattle.std.proofs.Common.{◌≡◌, ◌≢◌, ◌⊎◌, ℕ, ◌+◌, ◌/◌, ◌<◌, ◌≤◌, List, [], length, map, Option, None, Some, Result, Ok, Err, IfOk, OnErr, refl, sym, ap, ◌∙◌, subst, inl, inr, arith}
use Rattle.std.specs.List.{flat_map}
use Rattle.std.proofs.lemmas.List.{length-take}
use Rattle.cb_member.specs.declared.no_memory.NoMemory.{NoMemory as Want}
use Rattle.cb_types.specs.declared.config.Config.{Config}
use Rattle.cb_types.specs.declared.reply.Reply.{Reply}
use Rattle.cb_world.specs.declared.entry.Entry.{Entry}
use Rattle.cb_rule.specs.declared.view.View.{View}
use Rattle.cb_rule.specs.Lists.{Has}
use Rattle.cb_map_text.specs.Plain.{Plain, after_said, objects_for, plain_after, plain_said}
use Rattle.cb_map_text.specs.declared.command.FarAnswer.{FarAnswer}
use Rattle.cb_map_text.specs.declared.command.FarCommand.{FarCommand}
use Rattle.cb_farmap.specs.declared.array.FarArray.{FarArray}
use Rattle.cb_farmap.specs.declared.kept.Cannot.{Cannot}
use Rattle.cb_farmap.specs.declared.kept.Cannot.TheVariants as cannot
use Rattle.cb_farmap.specs.declared.kept.KeptObject.{KeptObject}
use Rattle.cb_farmap.specs.declared.map.FarMap.{FarMap}
use Rattle.cb_farmap.specs.Arrays.{IsCalmArray, Keeps, Stays, list_of}
use Rattle.cb_farmap.specs.BothNow.{AreOther, IsArrayNow, IsMapNow}
use Rattle.cb_farmap.specs.Calls.{Answers, Ask, AskWrite, Goes, trouble}
use Rattle.cb_farmap.specs.Changes.{AreSole, IsCalm}
use Rattle.cb_farmap.specs.Commands.{CommandGoes, HasOneHistory, calls_of, refusal_in}
use Rattle.cb_farmap.specs.Maps.{kept_of}
use Rattle.cb_farmap.specs.Objects.{IsObject, blank, numbers_at, object_at}
use Rattle.cb_farmap.specs.Stands.{Says, Stands}
use Rattle.cb_farmap.specs.Stops.{stop_behind}
use Rattle.cb_farmap.proofs.Arrays.{all_long}
use Rattle.cb_farmap.proofs.Commanding.{AreNow, ends_so, said_by}
use Rattle.cb_farmap.proofs.BucketList.{all_objects}
use Rattle.cb_farmap.proofs.MapEnds.{map_on, map_stays}
use Rattle.cb_farmap.proofs.PlanAdds.{IsPlanFor, adds_so}
use Rattle.cb_farmap.proofs.Standing.{all_has, all_loose, get_has, goes_on_so, has_wrote, object_low, others_sole}

-- another list, and the map as it was
pub record KeepsMap (s after : Plain) : Type 0 where
  pub pairs : after.pairs ≡ s.pairs
  pub counts : after.counts ≡ s.counts
  pub fullest : after.fullest ≡ s.fullest

-- the array has objects as before, at whichever versions, or one more, which no entry before was of
abbrev pub KeepsOther : View → List KeptObject → List KeptObject → Type 0
KeepsOther v ks later = (y : KeptObject) → Has y later
    → ((x : KeptObject) × Has x ks × (y.handle.n ≡ x.handle.n))
    ⊎ ((e : Entry) → Has e v.written → e.handle ≢ y.handle.n)

-- ---- what is known of the array before a command
module _ (n : ℕ) (s : Plain) (v : View) (a : FarArray) (m : FarMap) (st : Stands n s v a m) where
  pub calm_array : IsCalmArray v a
  calm_array = record {
    whole = st.record_is.whole;
    going = st.array_is.going;
    sole = st.array_is.sole;
    loose = all_loose v st.record_is.loose a.kept;
  }

  pub long : length s.list ≡ a.len
  long = let e = ap (λ (l : List ℕ). length l) (sym st.array_is.list) in
      let t = length-take a.len (flat_map (numbers_at v.written) a.kept) in
      let all = all_long v.written a.kept st.array_is.array.objects in
      let w = st.array_is.array.within in omega (arith, e, t, all, w)

  pub in_range : (i : ℕ) → i < a.len → i / 128 < length a.kept
  in_range i within = let w = st.array_is.array.within in omega (arith, w, within)

  -- an object of a number
  module _ (i : ℕ) (range : i / 128 < length a.kept) where
    pub one_of : Has (object_at a.kept (i / 128)) a.kept
    one_of = get_has a.kept (i / 128) blank range

    pub is_object : IsObject v.written (object_at a.kept (i / 128))
    is_object = all_has (IsObject v.written) a.kept st.array_is.array.objects (object_at a.kept (i / 128)) one_of

    pub next_low : (object_at a.kept (i / 128)).version + 1 ≤ n + 2
    next_low = let le = object_low v (object_at a.kept (i / 128)) (n + 1) is_object st.record_is.low in
        omega (arith, le)

-- ---- what stands behind one
module _ (c : Config) (n : ℕ) (s : Plain) (v w : View) (a b : FarArray) (m : FarMap)
    (st : Stands n s v a m) (small : n < 1000000000) (history : HasOneHistory c 1 w)
    (idle : w.fresh ≡ []) (ask : FarCommand) (plan : List Ask)
    (suits : IsPlanFor v (n + 2) s ask plan)
    (writes : (k : KeptObject) (at : ℕ) (bytes : List ℕ) → Has (AskWrite k at bytes) plan → Has k a.kept)
    (t : Option Cannot) (keeps : Keeps c 1 plan t v a w b) where
  calm : IsCalm t
  calm = (keeps.calm (calm_array n s v a m st)).0

  goes : Goes c 1 plan t v w
  goes = subst (λ (o : Option _). Answers c 1 o plan t v w) st.array_is.going keeps.calls

  -- the map stays, and nobody else has its objects
  sole_map : t ≡ None ⊎ ((r : Reply) × (t ≡ Some (cannot.Refused r))) → AreSole w (kept_of m.buckets)
  sole_map ended = let x = adds_so c 1 plan t v w suits.short goes ended in
      others_sole c 1 plan x.0 v w x.1 (kept_of m.buckets)
      (all_objects v.written m.buckets st.map_is.map_is.each)
      (λ k y at bytes asked there. st.other k y (writes k at bytes asked) there) st.map_is.sole

  map_now : (later : Plain) → KeepsMap s later → AreSole w (kept_of m.buckets) → IsMapNow later w m
  map_now later same sole = record {
    map_is = map_on v w m st.map_is.map_is keeps.on.behind m.stop;
    pairs = map_stays v w m st.map_is.map_is keeps.on.behind m.stop ∙ st.map_is.pairs ∙ sym same.pairs;
    counts = st.map_is.counts ∙ sym same.counts;
    kept = st.map_is.kept ∙ sym (ap (λ (l : List ℕ). map (λ most. objects_for most 64) l) same.fullest);
    going = st.map_is.going;
    sole = sole;
  }

  other_now : KeepsOther v a.kept b.kept → AreOther b.kept (kept_of m.buckets)
  other_now same x y here there e = by (same x here)
    where
      by : ((z : KeptObject) × Has z a.kept × (x.handle.n ≡ z.handle.n))
          ⊎ ((e : Entry) → Has e v.written → e.handle ≢ x.handle.n) → ⊥
      by (inl (z, old, is)) = st.other z y old there (sym is ∙ e)
      by (inr new) = let z = has_wrote v y (all_has (IsObject v.written) (kept_of m.buckets)
          (all_objects v.written m.buckets st.map_is.map_is.each) y there) in new z.0 z.1 (z.2 ∙ sym e)

  array_now : (later : Plain) → list_of w b ≡ later.list → length b.kept ≡ objects_for later.longest 128
      → b.stop ≡ None → IsArrayNow later w b
  array_now later list kept going = record {
    array = keeps.array;
    list = list;
    kept = kept;
    going = going;
    sole = (keeps.calm (calm_array n s v a m st)).1;
  }

  now : (later : Plain) → KeepsMap s later → AreSole w (kept_of m.buckets) → list_of w b ≡ later.list
      → length b.kept ≡ objects_for later.longest 128 → b.stop ≡ None → KeepsOther v a.kept b.kept
      → length later.list ≤ n + 1 → AreNow (n + 1) later w b m
  now later same sole list kept going other few = record {
    array_is = array_now later list kept going;
    map_is = map_now later same sole;
    other = other_now other;
    few = few;
    few_keys = let f = st.few_keys in omega (arith, f);
  }

  same_other : b.kept ≡ a.kept → KeepsOther v a.kept b.kept
  same_other is y there = inl (y, subst (λ (l : List KeptObject). Has y l) is there, refl)

  -- where it is refused the array is as it was
  refused_now : Stays t v a w b → (r : Reply) → t ≡ Some (cannot.Refused r) → AreNow (n + 1) s w b m
  refused_now stays r at = now s (record { pairs = refl; counts = refl; fullest = refl })
      (sole_map (inr (r, at))) (stays.list ∙ st.array_is.list)
      (ap (λ (z : FarArray). length z.kept) stays.left ∙ st.array_is.kept)
      (ap (λ (z : FarArray). z.stop) stays.left
      ∙ ap (λ (o : Option _). stop_behind o t) st.array_is.going ∙ goes_on_so t calm)
      (same_other (ap (λ (z : FarArray). z.kept) stays.left))
      (let f = st.few in omega (arith, f))

-- what a command leaves of the array
pub record AfterArray (n : ℕ) (later : Plain) (v w : View) (a b : FarArray) : Type 0 where
  pub list : list_of w b ≡ later.list
  pub kept : length b.kept ≡ objects_for later.longest 128
  pub going : b.stop ≡ None
  pub other : KeepsOther v a.kept b.kept
  pub few : length later.list ≤ n + 1

module _ (c : Config) (n : ℕ) (s : Plain) (v w : View) (a b : FarArray) (m : FarMap)
    (st : Stands n s v a m) (small : n < 1000000000) (history : HasOneHistory c 1 w)
    (idle : w.fresh ≡ []) (ask : FarCommand) (plan : List Ask)
    (suits : IsPlanFor v (n + 2) s ask plan)
    (writes : (k : KeptObject) (at : ℕ) (bytes : List ℕ) → Has (AskWrite k at bytes) plan → Has k a.kept)
    (same : KeepsMap s (plain_after s ask)) (its : calls_of v a m ask ≡ plan) where
  well_by : {X : Type 0} → (r : Result X Cannot)
      → IfOk r (λ _. AfterArray n (plain_after s ask) v w a b) → (keeps : Keeps c 1 plan (trouble r) v a w b)
      → trouble r ≡ None → AreSole w (kept_of m.buckets) → AreNow (n + 1) (plain_after s ask) w b m
  well_by (Ok x) after keeps at sole =
      now c n s v w a b m st small history idle ask plan suits writes None keeps (plain_after s ask)
      same sole after.list after.kept after.going after.other after.few
  well_by (Err e) after keeps at sole = absurd (let z : Some e ≡ None = at in cc)

  ill_by : {X : Type 0} → (r : Result X Cannot) → OnErr r (Stays (trouble r) v a w b) → (q : Reply)
      → trouble r ≡ Some (cannot.Refused q) → Stays (trouble r) v a w b
  ill_by (Ok x) stays q at = absurd (let z : None ≡ Some (cannot.Refused q) = at in cc)
  ill_by (Err e) stays q at = stays

  pub array_said : {X : Type 0} → (f : X → FarAnswer) → ((x : X) → refusal_in (f x) ≡ None)
      → (r : Result X Cannot) → IfOk r (λ x. f x ≡ plain_said s ask)
      → IfOk r (λ _. AfterArray n (plain_after s ask) v w a b)
      → OnErr r (Stays (trouble r) v a w b) → Keeps c 1 plan (trouble r) v a w b
      → (result : Result FarAnswer Want) → IfOk result (Says f r)
      → IfOk result (λ said. CommandGoes c 1 s ask said v a m w b m
      × Stands (n + 1) (after_said s ask said) w b m)
  array_said f plain r tells after stays keeps (Err none) says = tt
  array_said f plain r tells after stays keeps (Ok said) says =
      let is_quiet : IsCalm (trouble r) = (keeps.calm (calm_array n s v a m st)).0 in
      ends_so c n s ask v w a m plan its (trouble r) st.record_is st.tallied small suits
      (goes c n s v w a b m st small history idle ask plan suits writes (trouble r) keeps) is_quiet
      keeps.on history idle said b m (said_by f plain s ask r tells said says)
      (λ at. well_by r after keeps at
      (sole_map c n s v w a b m st small history idle ask plan suits writes (trouble r) keeps (inl at)))
      (λ q at. refused_now c n s v w a b m st small history idle ask plan suits writes (trouble r) keeps
      (ill_by r stays q at) q at)
