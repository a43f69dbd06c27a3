-- What is said to each command, by what the call on its value was answered and what the look behind it
-- told of the record.
use Rattle.std.proofs.Common.{◌≡◌, ℕ, ◌+◌, ◌<◌, ◌≤◌, List, [], Option, Result, Ok, Err, IfOk, OnErr, sym, ap, ◌∙◌, subst, arith}
use Rattle.cb_member.specs.declared.no_memory.NoMemory.{NoMemory as Want}
use Rattle.cb_types.specs.declared.config.Config.{Config}
use Rattle.cb_rule.specs.declared.view.View.{View}
use Rattle.cb_shared.specs.declared.pass.Pass.{Pass}
use Rattle.cb_shared.specs.declared.runtime.Shared.{Shared}
use Rattle.cb_shared.specs.Passes.{IsPassOf, record_of}
use Rattle.cb_shared.specs.Recalls.{Recalls, first_version_of}
use Rattle.cb_map_text.specs.Plain.{Plain, after_said, found_said}
use Rattle.cb_map_text.specs.declared.command.FarAnswer.{FarAnswer}
use Rattle.cb_map_text.specs.declared.command.FarAnswer.TheVariants.{Done, Number, Outside}
use Rattle.cb_map_text.specs.declared.command.FarCommand.{FarCommand}
use Rattle.cb_map_text.specs.declared.command.FarCommand.TheVariants as command
use Rattle.cb_farmap.specs.declared.array.FarArray.{FarArray}
use Rattle.cb_farmap.specs.declared.kept.Cannot.{Cannot}
use Rattle.cb_farmap.specs.declared.map.FarMap.{FarMap}
use Rattle.cb_farmap.specs.Arrays.{IsGot, IsPopped, IsPushed, IsSet, Keeps, Stays, get_plan, pop_plan, push_plan, set_plan}
use Rattle.cb_farmap.specs.Buckets.{bucket_in}
use Rattle.cb_farmap.specs.Calls.{Ask, trouble}
use Rattle.cb_farmap.specs.Changes.{IsCalm}
use Rattle.cb_farmap.specs.Commands.{CommandGoes, HasOneHistory}
use Rattle.cb_farmap.specs.MapChanges.{IsDropped, IsLooked, IsPut, KeepsMap, StaysMap}
use Rattle.cb_farmap.specs.Plans.{drop_plan, look_plan, put_plan}
use Rattle.cb_farmap.specs.Stands.{AreReady, GoesSo, Says, Stands}
use Rattle.cb_farmap.proofs.ArrayCommands.{calm_array, long}
use Rattle.cb_farmap.proofs.ArrayEach.{get_ends, outside_get, outside_set, pop_ends, push_ends, set_ends}
use Rattle.cb_farmap.proofs.MapCommands.{calm_map}
use Rattle.cb_farmap.proofs.MapEach.{drop_ends, look_ends, put_ends}

-- ---- before a command
-- the array has fewer numbers than may be, and the map fewer keys
pub few_numbers : (v : View) (a : FarArray) (m : FarMap) → AreReady v a m → a.len < 1000000000
few_numbers v a m ready = let st = ready.2 in let l = long ready.0 ready.1 v a m st in
    let f = st.few in let n = ready.3 in omega (arith, l, f, n)

pub few_keys : (v : View) (a : FarArray) (m : FarMap) → AreReady v a m → m.len < 1000000000
few_keys v a m ready = let f = ready.2.few_keys in let n = ready.3 in omega (arith, f, n)

-- nothing else is told than why the runtime refused
pub quiet_array : {c : Config} {first : ℕ} {plan : List Ask} {t : Option Cannot} {v w : View}
    {a b : FarArray} {m : FarMap} → AreReady v a m → Keeps c first plan t v a w b → IsCalm t
quiet_array {v = v} {a = a} {m = m} ready keeps =
    (keeps.calm (calm_array ready.0 ready.1 v a m ready.2)).0

pub quiet_map : {c : Config} {first : ℕ} {plan : List Ask} {t : Option Cannot} {v w : View}
    {a : FarArray} {m o : FarMap} → AreReady v a m → KeepsMap c first plan t v m w o → IsCalm t
quiet_map {v = v} {a = a} {m = m} ready keeps =
    (keeps.calm (calm_map ready.0 ready.1 v a m ready.2)).0

-- ---- behind one
-- what is so of each list and map is so of what is said, if anything is
if_said : (result : Result FarAnswer Want) (X : ℕ → Plain → Type 0) (P : ℕ → Plain → FarAnswer → Type 0)
    → ((n : ℕ) (s : Plain) → X n s → n < 1000000000 → IfOk result (P n s))
    → IfOk result (λ said. (n : ℕ) (s : Plain) → X n s → n < 1000000000 → P n s said)
if_said (Ok said) X P f = f
if_said (Err none) X P f = tt

module _ (sh : Shared) (first : first_version_of sh ≡ 1) (p q : Pass) (of : IsPassOf sh q)
    (same : record_of q ≡ record_of p) (recalls : Recalls (first_version_of sh) (record_of q)) where
  abbrev c : Config
  c = sh.config

  abbrev w : View
  w = record_of p

  history : w.share ≡ 64 → HasOneHistory c 1 w
  history whole = subst (HasOneHistory c 1) same
      (subst (λ (n : ℕ). HasOneHistory c n (record_of q)) first
      (subst (λ (d : Config). HasOneHistory d (first_version_of sh) (record_of q)) of.rest.config
      (recalls.whole (ap (λ (z : View). z.share) same ∙ whole) of.rest.out.0)))

  idle : w.fresh ≡ []
  idle = ap (λ (z : View). z.fresh) (sym same) ∙ of.rest.fresh

  abbrev Goes_so : FarCommand → View → FarArray → FarMap → Result FarAnswer Want → FarArray → FarMap
      → Type 0
  Goes_so ask v a m result b o = IfOk result (λ said. GoesSo c ask v a m said (record_of q) b o)

  so : (ask : FarCommand) (v : View) (a : FarArray) (m : FarMap) (result : Result FarAnswer Want)
      (b : FarArray) (o : FarMap)
      → ((n : ℕ) (s : Plain) → Stands n s v a m → n < 1000000000
      → IfOk result (λ said. CommandGoes c 1 s ask said v a m w b o
      × Stands (n + 1) (after_said s ask said) w b o)) → Goes_so ask v a m result b o
  so ask v a m result b o f = subst (λ (z : View). IfOk result (λ said. GoesSo c ask v a m said z b o))
      (sym same) (if_said result (λ n s. Stands n s v a m) (λ n s said. CommandGoes c 1 s ask said v a m w b o
      × Stands (n + 1) (after_said s ask said) w b o) f)

  module _ (v : View) (a b : FarArray) (m : FarMap) (plan : List Ask) where
    one_first : (t : Option Cannot) → Keeps c (first_version_of sh) plan t v a w b
        → Keeps c 1 plan t v a w b
    one_first t keeps = subst (λ (n : ℕ). Keeps c n plan t v a w b) first keeps

  pub push_so : (v : View) (a b : FarArray) (m : FarMap) (x : ℕ) (r : Result (Unit {0}) Cannot)
      → IfOk r (λ _. IsPushed x v a w b) → OnErr r (Stays (trouble r) v a w b)
      → Keeps c (first_version_of sh) (push_plan a.kept a.len x) (trouble r) v a w b
      → (result : Result FarAnswer Want) → IfOk result (Says (λ _. Done) r)
      → Goes_so (command.Push x) v a m result b m
  push_so v a b m x r ok stays keeps result says = so (command.Push x) v a m result b m
      (λ n s st small. push_ends c n s v w a b m st small
      (history (keeps.on.share ∙ st.record_is.whole)) idle x r ok stays
      (one_first v a b m (push_plan a.kept a.len x) (trouble r) keeps) result says)

  pub set_so : (v : View) (a b : FarArray) (m : FarMap) (i x : ℕ) → i < a.len
      → (r : Result (Unit {0}) Cannot) → IfOk r (λ _. IsSet i x v a w b)
      → OnErr r (Stays (trouble r) v a w b)
      → Keeps c (first_version_of sh) (set_plan a.kept i x) (trouble r) v a w b
      → (result : Result FarAnswer Want) → IfOk result (Says (λ _. Done) r)
      → Goes_so (command.Set i x) v a m result b m
  set_so v a b m i x within r ok stays keeps result says = so (command.Set i x) v a m result b m
      (λ n s st small. set_ends c n s v w a b m st small
      (history (keeps.on.share ∙ st.record_is.whole)) idle i within x r ok stays
      (one_first v a b m (set_plan a.kept i x) (trouble r) keeps) result says)

  pub get_so : (v : View) (a b : FarArray) (m : FarMap) (i : ℕ) → i < a.len → (r : Result ℕ Cannot)
      → IfOk r (λ x. IsGot i x v a w b) → OnErr r (Stays (trouble r) v a w b)
      → Keeps c (first_version_of sh) (get_plan a.kept i) (trouble r) v a w b
      → (result : Result FarAnswer Want) → IfOk result (Says (λ x. Number x) r)
      → Goes_so (command.Get i) v a m result b m
  get_so v a b m i within r ok stays keeps result says = so (command.Get i) v a m result b m
      (λ n s st small. get_ends c n s v w a b m st small
      (history (keeps.on.share ∙ st.record_is.whole)) idle i within r ok stays
      (one_first v a b m (get_plan a.kept i) (trouble r) keeps) result says)

  pub pop_so : (v : View) (a b : FarArray) (m : FarMap) (r : Result (Option ℕ) Cannot)
      → IfOk r (λ o. IsPopped o v a w b) → OnErr r (Stays (trouble r) v a w b)
      → Keeps c (first_version_of sh) (pop_plan a.kept a.len) (trouble r) v a w b
      → (result : Result FarAnswer Want) → IfOk result (Says found_said r)
      → Goes_so command.Pop v a m result b m
  pop_so v a b m r ok stays keeps result says = so command.Pop v a m result b m
      (λ n s st small. pop_ends c n s v w a b m st small
      (history (keeps.on.share ∙ st.record_is.whole)) idle r ok stays
      (one_first v a b m (pop_plan a.kept a.len) (trouble r) keeps) result says)

  -- ---- an index outside, for which no call is made
  pub outside_set_so : (v : View) (a : FarArray) (m : FarMap) (i x len : ℕ) → len ≡ a.len → len ≤ i
      → w ≡ v → Goes_so (command.Set i x) v a m (Ok (Outside len)) a m
  outside_set_so v a m i x len is past stays =
      subst (λ (n : ℕ). Goes_so (command.Set i x) v a m (Ok (Outside n)) a m) (sym is)
      (so (command.Set i x) v a m (Ok (Outside a.len)) a m
      (λ n s st small. outside_set c n s v w a a m st small
      (history (ap (λ (z : View). z.share) stays ∙ st.record_is.whole)) idle i (omega (arith, is, past)) stays x))

  pub outside_get_so : (v : View) (a : FarArray) (m : FarMap) (i len : ℕ) → len ≡ a.len → len ≤ i
      → w ≡ v → Goes_so (command.Get i) v a m (Ok (Outside len)) a m
  outside_get_so v a m i len is past stays =
      subst (λ (n : ℕ). Goes_so (command.Get i) v a m (Ok (Outside n)) a m) (sym is)
      (so (command.Get i) v a m (Ok (Outside a.len)) a m
      (λ n s st small. outside_get c n s v w a a m st small
      (history (ap (λ (z : View). z.share) stays ∙ st.record_is.whole)) idle i (omega (arith, is, past)) stays))

  -- ---- commands on the map
  one_map : (v : View) (m o : FarMap) (plan : List Ask) (t : Option Cannot)
      → KeepsMap c (first_version_of sh) plan t v m w o → KeepsMap c 1 plan t v m w o
  one_map v m o plan t keeps = subst (λ (n : ℕ). KeepsMap c n plan t v m w o) first keeps

  pub look_so : (v : View) (a : FarArray) (m o : FarMap) (key : ℕ) (r : Result (Option ℕ) Cannot)
      → IfOk r (λ x. IsLooked key x v m w o) → OnErr r (StaysMap (trouble r) v m w o)
      → KeepsMap c (first_version_of sh) (look_plan v.written (bucket_in m.buckets key) key) (trouble r)
      v m w o
      → (result : Result FarAnswer Want) → IfOk result (Says found_said r)
      → Goes_so (command.Look key) v a m result a o
  look_so v a m o key r ok stays keeps result says = so (command.Look key) v a m result a o
      (λ n s st small. look_ends c n s v w a m o st small
      (history (keeps.on.share ∙ st.record_is.whole)) idle key r ok stays
      (one_map v m o (look_plan v.written (bucket_in m.buckets key) key) (trouble r) keeps) result says)

  pub put_so : (v : View) (a : FarArray) (m o : FarMap) (key x : ℕ) (r : Result (Option ℕ) Cannot)
      → IfOk r (λ y. IsPut (key, x) y v m w o) → OnErr r (StaysMap (trouble r) v m w o)
      → KeepsMap c (first_version_of sh) (put_plan v.written (bucket_in m.buckets key) (key, x))
      (trouble r) v m w o
      → (result : Result FarAnswer Want) → IfOk result (Says found_said r)
      → Goes_so (command.Put key x) v a m result a o
  put_so v a m o key x r ok stays keeps result says = so (command.Put key x) v a m result a o
      (λ n s st small. put_ends c n s v w a m o st small
      (history (keeps.on.share ∙ st.record_is.whole)) idle key x r ok stays
      (one_map v m o (put_plan v.written (bucket_in m.buckets key) (key, x)) (trouble r) keeps) result says)

  pub drop_so : (v : View) (a : FarArray) (m o : FarMap) (key : ℕ) (r : Result (Option ℕ) Cannot)
      → IfOk r (λ y. IsDropped key y v m w o) → OnErr r (StaysMap (trouble r) v m w o)
      → KeepsMap c (first_version_of sh) (drop_plan v.written (bucket_in m.buckets key) key)
      (trouble r) v m w o
      → (result : Result FarAnswer Want) → IfOk result (Says found_said r)
      → Goes_so (command.Drop key) v a m result a o
  drop_so v a m o key r ok stays keeps result says = so (command.Drop key) v a m result a o
      (λ n s st small. drop_ends c n s v w a m o st small
      (history (keeps.on.share ∙ st.record_is.whole)) idle key r ok stays
      (one_map v m o (drop_plan v.written (bucket_in m.buckets key) key) (trouble r) keeps) result says)
