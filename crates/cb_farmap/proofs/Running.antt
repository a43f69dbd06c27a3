-- Commands one after another: what stands behind each, and what is so of them all at the end.
use Rattle.std.proofs.Common.{◌≡◌, ℕ, zero, suc, ◌+◌, ◌<◌, ◌≤◌, List, [], ◌∷◌, ◌++◌, length, drop, get_or, refl, sym, ap, ◌∙◌, subst, arith}
use Rattle.std.proofs.lemmas.List.{append-nil, append_assoc, drop_all}
use Rattle.std.specs.FinMap as finite
use Rattle.std.specs.List.{IsDistinct}
use Rattle.cb_types.specs.declared.config.Config.{Config}
use Rattle.cb_rule.specs.declared.view.View.{View}
use Rattle.cb_rule.specs.Steps.{opener}
use Rattle.cb_map_text.specs.Plain.{Plain, after_all, after_said, fresh}
use Rattle.cb_map_text.specs.declared.command.FarAnswer.{FarAnswer}
use Rattle.cb_map_text.specs.declared.command.FarCommand.{FarCommand}
use Rattle.cb_map_text.proofs.PublicLaws.{fresh_tallied}
use Rattle.cb_farmap.specs.declared.array.FarArray.{FarArray}
use Rattle.cb_farmap.specs.declared.map.FarMap.{FarMap}
use Rattle.cb_farmap.specs.Arrays.{no_array}
use Rattle.cb_farmap.specs.BothNow.{AreBothNow}
use Rattle.cb_farmap.specs.Commands.{CommandGoes, CommandsGo, HaveGone}
use Rattle.cb_farmap.specs.Maps.{IsMapOf, map_of, no_map}
use Rattle.cb_farmap.specs.Stands.{GoesSo, Stands}
use Rattle.cb_farmap.proofs.FreshMap.{fresh_map}

-- the array and the map stand behind so many commands, and what the others will do makes them all go
-- as they should
pub record Run (c : Config) (asks : List FarCommand) (start : View) (i : ℕ) (saids : List FarAnswer)
    (v : View) (a : FarArray) (m : FarMap) : Type 0 where
  pub s : Plain
  pub stands : Stands i s v a m
  pub all : (more : List FarAnswer) (w : View) (b : FarArray) (o : FarMap)
      → CommandsGo c 1 s v a m (drop i asks) more w b o
      → CommandsGo c 1 fresh start no_array (no_map 64) asks (saids ++ more) w b o
  pub after : (more : List FarAnswer)
      → after_all fresh asks (saids ++ more) ≡ after_all s (drop i asks) more

drop_next : (asks : List FarCommand) (i : ℕ) (other : FarCommand) → i < length asks
    → drop i asks ≡ get_or asks i other ∷ drop (i + 1) asks
drop_next [] i other less = absurd (omega (arith, less))
drop_next (x ∷ asks) zero other less = refl
drop_next (x ∷ asks) (suc i) other less = drop_next asks i other (omega (arith, less))
    ∙ ap (λ (n : ℕ). get_or asks i other ∷ drop n (x ∷ asks)) (let next : suc (i + 1) ≡ suc i + 1 = omega arith in next)

-- the empty array and the empty map stand at the beginning
pub fresh_stands : (c : Config) → Stands 0 fresh (opener c) no_array (no_map 64)
unfolding IsDistinct
fresh_stands c = record {
  record_is = record { whole = refl; loose = refl; idle = refl; low = tt; made = refl };
  array_is = record {
    array = record { objects = tt; apart = tt; within = omega arith };
    list = refl;
    kept = refl;
    going = refl;
    sole = tt;
  };
  map_is = record {
    map_is = map.0;
    pairs = map.1;
    counts = refl;
    kept = refl;
    going = refl;
    sole = tt;
  };
  other = λ x y here there. absurd here;
  tallied = fresh_tallied;
  few = omega arith;
  few_keys = omega arith;
}
  where
    map : IsMapOf (opener c) (no_map 64) × (map_of (opener c) (no_map 64) ≡ finite.empty)
    map = fresh_map (opener c) 64 (omega arith)

-- before the first one
pub begins : (c : Config) (asks : List FarCommand) (a : FarArray) → a ≡ no_array → (m : FarMap)
    → m ≡ no_map 64 → (start : View) → start ≡ opener c → Run c asks start 0 [] start a m
begins c asks a none m empty start is =
    subst (λ (v : View). Run c asks v 0 [] v a m) (sym is)
    (subst (λ (b : FarArray). Run c asks (opener c) 0 [] (opener c) b m) (sym none)
    (subst (λ (o : FarMap). Run c asks (opener c) 0 [] (opener c) no_array o) (sym empty) (record {
      s = fresh;
      stands = fresh_stands c;
      all = λ more w b o go. go;
      after = λ more. refl;
    })))

-- one more
pub goes_next : (c : Config) (asks : List FarCommand) (start : View) (i : ℕ) (saids : List FarAnswer)
    (v : View) (a : FarArray) (m : FarMap) → Run c asks start i saids v a m → (other : FarCommand)
    → length asks ≤ 1000000000 → i < length asks → (said : FarAnswer) (w : View) (b : FarArray)
    (o : FarMap) → GoesSo c (get_or asks i other) v a m said w b o → (all : List FarAnswer)
    → all ≡ saids ++ said ∷ [] → Run c asks start (i + 1) all w b o
goes_next c asks start i saids v a m run other few less said w b o so all is =
    subst (λ (ss : List FarAnswer). Run c asks start (i + 1) ss w b o) (sym is) (record {
      s = after_said run.s ask said;
      stands = one.1;
      all = λ more u d e go. subst (λ (ss : List FarAnswer).
          CommandsGo c 1 fresh start no_array (no_map 64) asks ss u d e)
          (sym (append_assoc saids (said ∷ []) more))
          (run.all (said ∷ more) u d e (subst (λ (rest : List FarCommand).
          CommandsGo c 1 run.s v a m rest (said ∷ more) u d e) (sym (drop_next asks i other less))
          (w, b, o, one.0, go)));
      after = λ more. ap (λ (ss : List FarAnswer). after_all fresh asks ss)
          (append_assoc saids (said ∷ []) more) ∙ run.after (said ∷ more)
          ∙ ap (λ (rest : List FarCommand). after_all run.s rest (said ∷ more))
          (drop_next asks i other less);
    })
  where
    ask : FarCommand
    ask = get_or asks i other

    one : CommandGoes c 1 run.s ask said v a m w b o × Stands (i + 1) (after_said run.s ask said) w b o
    one = so i run.s run.stands (omega (arith, few, less))

-- behind the last one
pub all_gone : (c : Config) (asks : List FarCommand) (start : View) (i : ℕ) (saids : List FarAnswer)
    (v : View) (a : FarArray) (m : FarMap) → Run c asks start i saids v a m → length asks ≤ i
    → HaveGone c 1 asks saids start v
all_gone c asks start i saids v a m run past = record {
  array = a;
  buckets = m;
  go = subst (λ (ss : List FarAnswer). CommandsGo c 1 fresh start no_array (no_map 64) asks ss v a m)
      (append-nil saids) (run.all [] v a m (subst (λ (rest : List FarCommand).
      CommandsGo c 1 run.s v a m rest [] v a m) (sym none) (refl, refl, refl)));
  both = subst (λ (s : Plain). AreBothNow s v a m) (sym after) (record {
    array_is = run.stands.array_is;
    map_is = run.stands.map_is;
    other = run.stands.other;
  });
}
  where
    none : drop i asks ≡ []
    none = drop_all i asks past

    after : after_all fresh asks saids ≡ run.s
    after = ap (λ (ss : List FarAnswer). after_all fresh asks ss) (sym (append-nil saids))
        ∙ run.after [] ∙ ap (λ (rest : List FarCommand). after_all run.s rest []) none
