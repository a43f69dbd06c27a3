-- What stays of the objects of one value where a command wrote or made one of another.
use Rattle.std.proofs.Common.{◌≡◌, ◌≢◌, ℕ, zero, suc, ◌<◌, ◌≤◌, List, [], ◌∷◌, length, get_or, map, slice_set, Option, None, Some, refl, sym, ap, ◌∙◌, subst, inl, inr, arith}
use Rattle.std.specs.List.{AllByRecursion}
use Rattle.cb_types.specs.declared.config.Config.{Config}
use Rattle.cb_types.specs.declared.reply.Reply.TheVariants as answer
use Rattle.cb_world.specs.declared.entry.Entry.{Entry}
use Rattle.cb_rule.specs.declared.view.View.{View}
use Rattle.cb_rule.specs.Lists.{Each, Has}
use Rattle.cb_farmap.specs.declared.kept.Cannot.{Cannot}
use Rattle.cb_farmap.specs.declared.kept.Cannot.TheVariants as cannot
use Rattle.cb_farmap.specs.declared.kept.KeptObject.{KeptObject}
use Rattle.cb_farmap.specs.Calls.{Ask, AskWrite}
use Rattle.cb_farmap.specs.Changes.{AreLoose, AreSole, IsCalm, IsLoose, IsSole}
use Rattle.cb_farmap.specs.Commands.{HasWritten}
use Rattle.cb_farmap.specs.Objects.{IsLast, IsObject}
use Rattle.cb_farmap.specs.Stops.{stop_behind}
use Rattle.cb_farmap.proofs.Lists.{each_there}
use Rattle.cb_farmap.proofs.Objects.{found_there}
use Rattle.cb_farmap.proofs.PlanAdds.{IsEntryIn, PlanAdds}
use Rattle.cb_farmap.proofs.PlanTurns.{each_both, each_weaker}

-- ---- lists
pub map_set : {A B : Type 0} (f : A → B) (xs : List A) (i : ℕ) (y : A)
    → map f (slice_set xs i y) ≡ slice_set (map f xs) i (f y)
map_set f [] i y = refl
map_set f (x ∷ xs) zero y = refl
map_set f (x ∷ xs) (suc i) y = ap (λ l. f x ∷ l) (map_set f xs i y)

pub get_map : {A B : Type 0} (f : A → B) (xs : List A) (i : ℕ) (d : A)
    → get_or (map f xs) i (f d) ≡ f (get_or xs i d)
get_map f [] i d = refl
get_map f (x ∷ xs) zero d = refl
get_map f (x ∷ xs) (suc i) d = get_map f xs i d

pub all_from : {A : Type 0} (P : A → Type 0) (xs : List A) → ((x : A) → Has x xs → P x)
    → AllByRecursion P xs
all_from P [] each = tt
all_from P (x ∷ xs) each = (each x (inl refl), all_from P xs (λ y there. each y (inr there)))

pub all_has : {A : Type 0} (P : A → Type 0) (xs : List A) → AllByRecursion P xs → (x : A) → Has x xs
    → P x
all_has P [] all x there = absurd there
all_has P (y ∷ xs) all x (inl is) = subst P is all.0
all_has P (y ∷ xs) all x (inr there) = all_has P xs all.1 x there

pub get_has : {A : Type 0} (xs : List A) (i : ℕ) (d : A) → i < length xs → Has (get_or xs i d) xs
get_has [] i d low = absurd (omega (arith, low))
get_has (x ∷ xs) zero d low = inl refl
get_has (x ∷ xs) (suc i) d low = inr (get_has xs i d (omega (arith, low)))

-- ---- objects of the record
pub object_wrote : (es : List Entry) (k : KeptObject) → IsObject es k
    → (e : Entry) × Has e es × (e.handle ≡ k.handle.n) × (e.version ≡ k.version)
object_wrote es k o = let z = found_there es k.handle.n k.version o.at o.is in (o.at, z.0, z.1, z.2)

pub has_wrote : (v : View) (k : KeptObject) → IsObject v.written k → HasWritten v k.handle.n
has_wrote v k o = let z = object_wrote v.written k o in (z.0, z.1, z.2)

pub object_low : (v : View) (k : KeptObject) (most : ℕ) → IsObject v.written k
    → Each (λ (e : Entry). e.version ≤ most) v.written → k.version ≤ most
object_low v k most o low = let z = object_wrote v.written k o in
    let le = each_there (λ (e : Entry). e.version ≤ most) z.0 v.written low z.1 in
    let same = z.3 in omega (arith, le, same)

-- without pins every object is loose
pub all_loose : (v : View) → v.pins ≡ [] → (ks : List KeptObject) → AreLoose v ks
all_loose v none ks = all_from (IsLoose v) ks (λ k there. let e = none in rw e refl)

-- ---- an answer that is given for good does not come
pub goes_on_so : (t : Option Cannot) → IsCalm t → stop_behind None t ≡ None
goes_on_so None calm = refl
goes_on_so (Some cannot.NoMemory) calm = refl
goes_on_so (Some (cannot.Refused answer.Freed)) calm = absurd calm
goes_on_so (Some (cannot.Refused r)) calm = refl
goes_on_so (Some (cannot.Foreign handle kept found)) calm = absurd calm

-- ---- the objects of a value that a plan does not write
module _ (c : Config) (first : ℕ) (plan : List Ask) (n : ℕ) (v w : View)
    (x : PlanAdds c first plan n v w) (ks : List KeptObject)
    (objects : AllByRecursion (IsObject v.written) ks)
    (off : (k y : KeptObject) (at : ℕ) (bytes : List ℕ) → Has (AskWrite k at bytes) plan → Has y ks
    → k.handle.n ≢ y.handle.n) (sole : AreSole v ks) where
  entries_off : (y : KeptObject) → Has y ks
      → Each (λ (e : Entry). e.handle ≢ y.handle.n) x.entries
  entries_off y there = each_weaker (IsEntryIn plan v) (λ (e : Entry). e.handle ≢ y.handle.n) one
      x.entries x.entries_are
    where
      one : (e : Entry) → IsEntryIn plan v e → e.handle ≢ y.handle.n
      one e (inl (k, at, bytes, asked, is)) same = off k y at bytes asked there (sym is ∙ same)
      one e (inr (bytes, asked, unknown)) same = unknown (subst (HasWritten v) (sym same)
          (has_wrote v y (all_has (IsObject v.written) ks objects y there)))

  one_sole : (y : KeptObject) → Has y ks → IsSole w y
  one_sole y there = let old = all_has (IsSole v) ks sole y there in record {
    whole = x.same.0 ∙ old.whole;
    last = subst (λ (es : List Entry). IsLast es y) (sym x.wrote)
        (each_both (λ (e : Entry). e.handle ≡ y.handle.n → e.version ≤ y.version) x.entries v.written
        (each_weaker (λ (e : Entry). e.handle ≢ y.handle.n)
        (λ (e : Entry). e.handle ≡ y.handle.n → e.version ≤ y.version)
        (λ e ne same. absurd (ne same)) x.entries (entries_off y there)) old.last);
  }

  pub others_sole : AreSole w ks
  others_sole = all_from (IsSole w) ks one_sole
