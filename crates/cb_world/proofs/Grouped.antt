-- Groups of sets of which no two match: what is known of them stays known once a set has changed,
-- where its number is noted.
use Rattle.std.proofs.Common.{◌≡◌, ◌⊎◌, ℕ, zero, suc, Bool, cond, List, [], ◌∷◌, ◌++◌, length, Option, None, Some, OnOk, OnErr, Result, Ok, Err, refl, sym, ap, ◌∙◌, subst, arith, inl, inr}
use Rattle.std.specs.List.{slice_get}
use Rattle.std.specs.Cmp.{nat_cmp_total}
use Rattle.std.specs.FinMap as map
use Rattle.std.proofs.lemmas.Bool.{cases_eq}
use Rattle.std.proofs.lemmas.Nat.{and_comm}
use Rattle.std.proofs.lemmas.Option.{same_Some, slice_get_within}
use Rattle.cb_set.specs.SetState.{SetState}
use Rattle.cb_world.specs.declared.groups.Group.{Group}
use Rattle.cb_world.specs.Groups.{AreGrouped, DoMatch, IsAmong, NoGroupsMatch, NoSetsMatch, group_of}
use Rattle.cb_world.specs.Sets.{Kept, SetMap, if_committed, set_in}
use Rattle.cb_world.proofs.SetWalk.{other_key}

-- ---- lists
pub among_last : {X : Type 0} (xs : List X) (x : X) → slice_get (xs ++ x ∷ []) (length xs) ≡ Some x
among_last [] x = refl
among_last (y ∷ xs) x = among_last xs x

none_among : {X : Type 0} (i : ℕ) (x : X) → slice_get [] i ≡ Some x → ⊥
none_among i x at = let w = slice_get_within [] i x at in omega (arith, w)

pub among_more : {X : Type 0} (xs : List X) (x : X) (i : ℕ) (y : X) → slice_get xs i ≡ Some y
    → slice_get (xs ++ x ∷ []) i ≡ Some y
among_more [] x i y at = absurd (none_among i y at)
among_more (z ∷ xs) x zero y at = at
among_more (z ∷ xs) x (suc i) y at = among_more xs x i y at

pub among_either : {X : Type 0} (xs : List X) (x y : X) → IsAmong y (xs ++ x ∷ [])
    → (x ≡ y) ⊎ IsAmong y xs
among_either [] x y (zero, at) = inl (same_Some x y at)
among_either [] x y (suc i, at) = absurd (none_among i y at)
among_either (z ∷ xs) x y (zero, at) = inr (0, at)
among_either (z ∷ xs) x y (suc i, at) = later (among_either xs x y (i, at))
  where
    later : (x ≡ y) ⊎ IsAmong y xs → (x ≡ y) ⊎ IsAmong y (z ∷ xs)
    later (inl e) = inl e
    later (inr (j, there)) = inr (suc j, there)

-- ---- one group more
flipped : (g h : Group) → DoMatch g h → DoMatch h g
flipped g h m = record {
  k = sym m.k;
  r = sym m.r;
  pages = sym m.pages;
  apart = and_comm h.live g.live ∙ m.apart;
}

pub one_group_more : (groups new : List Group) (group : Group) → NoGroupsMatch groups
    → ((g : Group) → IsAmong g groups → ¬ (DoMatch g group)) → ¬ (DoMatch group group)
    → new ≡ groups ++ group ∷ [] → NoGroupsMatch new
one_group_more groups new group none others self is =
    subst NoGroupsMatch (sym is) (λ g h at_g at_h m.
    by g h m (among_either groups group g at_g) (among_either groups group h at_h))
  where
    by : (g h : Group) → DoMatch g h → (group ≡ g) ⊎ IsAmong g groups
        → (group ≡ h) ⊎ IsAmong h groups → ⊥
    by g h m (inl e) (inl f) =
        self (subst (λ (x : Group). DoMatch x group) (sym e)
        (subst (λ (x : Group). DoMatch g x) (sym f) m))
    by g h m (inl e) (inr b) =
        others h b (flipped group h (subst (λ (x : Group). DoMatch x h) (sym e) m))
    by g h m (inr a) (inl f) = others g a (subst (λ (x : Group). DoMatch g x) (sym f) m)
    by g h m (inr a) (inr b) = none g h a b m

-- ---- a set that has changed, and no other one
abbrev pub IsSameBeside : SetMap → SetMap → ℕ → Type 0
IsSameBeside old new id = (j : ℕ) → (j ≡ id → ⊥) → set_in new j ≡ set_in old j

pub beside_same : (old new : SetMap) (id : ℕ) → new ≡ old → IsSameBeside old new id
beside_same old new id is j off = ap (λ (m : SetMap). set_in m j) is

pub beside_put : (old new : SetMap) (id : ℕ) (kept : Kept) → new ≡ map.insert old id kept
    → IsSameBeside old new id
beside_put old new id kept is j off =
    ap (λ (m : SetMap). set_in m j) is
    ∙ ap if_committed (map.get-insert nat_cmp_total old id kept j
    ∙ ap (λ (b : Bool). cond b (Some kept) (map.get old j)) (other_key j id off))

pub beside_removed : (old new : SetMap) (id : ℕ) → new ≡ map.remove old id
    → IsSameBeside old new id
beside_removed old new id is j off =
    ap (λ (m : SetMap). set_in m j) is
    ∙ ap if_committed (map.get-remove nat_cmp_total old id j
    ∙ ap (λ (b : Bool). cond b None (map.get old j)) (other_key j id off))

pub beside_changed : (old new : SetMap) (id : ℕ) (change : Kept → Kept)
    → ((kept : Kept) → map.get old id ≡ Some kept → new ≡ map.insert old id (change kept))
    → (map.get old id ≡ None → new ≡ old) → IsSameBeside old new id
beside_changed old new id change some none = by (map.get old id) refl
  where
    by : (o : Option Kept) → map.get old id ≡ o → IsSameBeside old new id
    by None is = beside_same old new id (none is)
    by (Some kept) is = beside_put old new id (change kept) (some kept is)

pub beside_tried : {A E : Type 0} (old new : SetMap) (id : ℕ) (kept : Kept) (r : Result A E)
    → OnOk r (new ≡ map.insert old id kept) → OnErr r (new ≡ old) → IsSameBeside old new id
beside_tried old new id kept (Ok x) ok err = beside_put old new id kept ok
beside_tried old new id kept (Err x) ok err = beside_same old new id err

pub noted_stays : (old new : SetMap) (groups list : List Group) (changed more : List ℕ) (id : ℕ)
    → IsSameBeside old new id → AreGrouped old groups changed → list ≡ groups → IsAmong id more
    → ((other : ℕ) → IsAmong other changed → IsAmong other more) → AreGrouped new list more
noted_stays old new groups list changed more id same x is noted keeps =
    subst (λ (l : List Group). AreGrouped new l more) (sym is) (record {
      apart = x.apart;
      cover = λ j set at. elim (cases_eq j id) [
        | inl e ↦ inr (subst (λ (n : ℕ). IsAmong n more) (sym e) noted)
        | inr off ↦ later j set (x.cover j set (sym (same j off) ∙ at))
      ];
    })
  where
    later : (j : ℕ) (set : SetState) → IsAmong (group_of set) groups ⊎ IsAmong j changed
        → IsAmong (group_of set) groups ⊎ IsAmong j more
    later j set (inl there) = inl there
    later j set (inr there) = inr (keeps j there)

-- ---- a look at those that have changed
pub all_grouped : (sets : SetMap) (groups new : List Group) (changed : List ℕ)
    → AreGrouped sets groups changed → NoGroupsMatch new
    → ((g : Group) → IsAmong g groups → IsAmong g new)
    → ((id : ℕ) (set : SetState) → IsAmong id changed → set_in sets id ≡ Some set
    → IsAmong (group_of set) new) → AreGrouped sets new []
all_grouped sets groups new changed x none keeps among = record {
  apart = none;
  cover = λ id set at. inl (by id set at (x.cover id set at));
}
  where
    by : (id : ℕ) (set : SetState) → set_in sets id ≡ Some set
        → IsAmong (group_of set) groups ⊎ IsAmong id changed → IsAmong (group_of set) new
    by id set at (inl there) = keeps (group_of set) there
    by id set at (inr there) = among id set there at

pub grouped_none : (sets : SetMap) (groups : List Group) → AreGrouped sets groups []
    → NoSetsMatch sets
grouped_none sets groups x i j a b at_a at_b =
    x.apart (group_of a) (group_of b) (by i a (x.cover i a at_a)) (by j b (x.cover j b at_b))
  where
    by : (id : ℕ) (set : SetState) → IsAmong (group_of set) groups ⊎ IsAmong id []
        → IsAmong (group_of set) groups
    by id set (inl there) = there
    by id set (inr (i, at)) = absurd (none_among i id at)
