-- A tree map with numbers as keys, seen as a finite map.
use Rattle.std.proofs.Common.{◌≡◌, ℕ, ◌+◌, false, cond, List, [], ◌∷◌, length, Some, None, is_some, refl, ap, sym, ◌∙◌, arith}
use Rattle.std.specs.Ordering.{nat_cmp, eq_by_cmp, is_eq}
use Rattle.std.specs.declared.cmp.Ordering.TheVariants.{Less}
use Rattle.std.specs.List.{AllByRecursion}
use Rattle.std.specs.List.Sorted.{IsStrictlySortedBy}
use Rattle.std.proofs.lemmas.Map.Keys.{sorted_head, sorted_tail}
use Rattle.std.specs.Cmp.{nat_cmp_total, eq_by_cmp_equiv}
use Rattle.std.specs.FinMap as map
use Rattle.std.specs.FinMap.Entries.{find}
use Rattle.std.specs.Map.{lookup, keys_of}
use Rattle.std.specs.BTreeMap as tree
use Rattle.std.specs.BTreeMap.{BTreeMap, is_at, IsOrdered, Updates}

-- the map that a tree stands for
abbrev pub view : {X : Type 0} → BTreeMap ℕ X → map.FinMap nat_cmp X
view m = map.from_entries m.entries

find-lookup : {X : Type 0} (q : ℕ) (es : List (ℕ × X))
    → find nat_cmp q es ≡ lookup (is_at (nat_cmp q)) es
find-lookup q [] = refl
find-lookup q (e ∷ es) = ap (cond (is_eq (nat_cmp q e.0)) (Some e.1)) (find-lookup q es)

-- both answer alike
pub get-view : {X : Type 0} (m : BTreeMap ℕ X) (q : ℕ) → map.get (view m) q ≡ tree.get nat_cmp m q
get-view m q = map.get-from_entries nat_cmp_total m.entries q ∙ find-lookup q m.entries

-- an insert into the one is an insert into the other
pub view-insert : {X : Type 0} (m n : BTreeMap ℕ X) (k : ℕ) (x : X)
    → Updates nat_cmp m n k (Some x) → view n ≡ map.insert (view m) k x
view-insert m n k x updates =
    map.same_map nat_cmp_total map.nat_cmp-IsAntisymmetric (view n) (map.insert (view m) k x)
    (λ q. get-view n q ∙ updates.0 q
    ∙ ap (λ b. cond b (Some x) (tree.get nat_cmp m q)) ((eq_by_cmp_equiv nat_cmp_total).symm k q)
    ∙ ap (cond (eq_by_cmp nat_cmp q k) (Some x)) (sym (get-view m q))
    ∙ sym (map.get-insert nat_cmp_total (view m) k x q))

-- and so is a removal
pub view-remove : {X : Type 0} (m n : BTreeMap ℕ X) (k : ℕ) → Updates nat_cmp m n k None
    → view n ≡ map.remove (view m) k
view-remove m n k updates =
    map.same_map nat_cmp_total map.nat_cmp-IsAntisymmetric (view n) (map.remove (view m) k)
    (λ q. get-view n q ∙ updates.0 q
    ∙ ap (λ b. cond b None (tree.get nat_cmp m q)) ((eq_by_cmp_equiv nat_cmp_total).symm k q)
    ∙ ap (cond (eq_by_cmp nat_cmp q k) None) (sym (get-view m q))
    ∙ sym (map.get-remove nat_cmp_total (view m) k q))

-- a key below all others is not found among them
none_below : {X : Type 0} (k : ℕ) (es : List (ℕ × X))
    → AllByRecursion (λ y. nat_cmp k y ≡ Less) (keys_of es) → find nat_cmp k es ≡ None
none_below k [] below = refl
none_below k (e ∷ es) below =
    ap (λ r. cond (is_eq r) (Some e.1) (find nat_cmp k es)) below.0 ∙ none_below k es below.1

-- keys in order are counted once each
len_sorted : {X : Type 0} (es : List (ℕ × X)) → IsStrictlySortedBy nat_cmp (keys_of es)
    → map.len (map.from_entries {R = nat_cmp} es) ≡ length es
len_sorted {X} [] sorted = map.len-empty nat_cmp X
len_sorted {X} (e ∷ es) sorted =
    let rest = sorted_tail nat_cmp e.0 (keys_of es) sorted in
    let first = sorted_head nat_cmp e.0 (keys_of es) sorted in
    let tail : map.FinMap nat_cmp X = map.from_entries es in
    let absent : map.contains_key tail e.0 ≡ false =
    ap is_some (map.get-from_entries nat_cmp_total es e.0 ∙ none_below e.0 es first) in
    map.len-insert nat_cmp_total tail e.0 e.1
    ∙ ap (λ b. cond b (map.len tail) (map.len tail + 1)) absent
    ∙ omega (arith, len_sorted es rest)

pub len-view : {X : Type 0} (m : BTreeMap ℕ X) → IsOrdered nat_cmp m
    → map.len (view m) ≡ length m.entries
len-view m ordered = len_sorted m.entries ordered
