-- The entries of a map from a key on, in order.
use Rattle.std.proofs.Common.{◌≡◌, ℕ, ◌+◌, ◌<◌, ◌≤◌, Bool, true, false, cond, List, [], ◌∷◌, None, Some, filter, refl, sym, ap, ◌∙◌, subst, arith}
use Rattle.std.specs.Ordering.{nat_cmp, eq_by_cmp}
use Rattle.std.specs.declared.cmp.Ordering.TheVariants.{Less}
use Rattle.std.specs.declared.ops.Bound.TheVariants.{Included, Unbounded}
use Rattle.std.specs.List.{AllByRecursion}
use Rattle.std.specs.List.Sorted.{IsStrictlySortedBy}
use Rattle.std.specs.Cmp.{nat_cmp_total}
use Rattle.std.specs.FinMap as map
use Rattle.std.specs.FinMap.Entries.{find}
use Rattle.std.specs.Map.{keys_of}
use Rattle.std.specs.BTreeMap.{BTreeMap, IsOrdered}
use Rattle.std.specs.BTreeMap.Range.{range_contains, entries_between}
use Rattle.std.proofs.lemmas.Bool.Decides.{nat_tests}
use Rattle.std.proofs.lemmas.Map.Keys.{sorted_head, sorted_tail}
use Rattle.cb_world.specs.Sets.{Kept, SetMap}
use Rattle.cb_world.specs.SetsFrom.{Ascend, AreFrom}

-- whether a key is in the range from this one on
abbrev is_from : ℕ → ℕ → Bool
is_from from k = range_contains nat_cmp (Included from) Unbounded k

from_le : (from k : ℕ) → is_from from k ≡ true → from ≤ k
from_le from k e = grind (arith, nat_tests)

not_from : (from k : ℕ) → is_from from k ≡ false → k < from
not_from from k e = grind (arith, nat_tests)

less_lt : (a b : ℕ) → nat_cmp a b ≡ Less → a < b
less_lt a b e = grind (arith, nat_tests)

same_key : (a b : ℕ) → a ≡ b → eq_by_cmp nat_cmp a b ≡ true
same_key a b e = grind (arith, nat_tests)

pub other_key : (a b : ℕ) → (a ≡ b → ⊥) → eq_by_cmp nat_cmp a b ≡ false
other_key a b e = grind (arith, nat_tests)

-- keys that are in the range and behind another one are greater
lifted : (from a : ℕ) (ks : List ℕ) → AllByRecursion (λ k. nat_cmp a k ≡ Less) ks
    → AllByRecursion (λ k. is_from from k ≡ true → a + 1 ≤ k) ks
lifted from a [] all = tt
lifted from a (k ∷ ks) all =
    ((λ e. let l = less_lt a k all.0 in omega (arith, l)), lifted from a ks all.1)

begin : (from : ℕ) (ks : List ℕ) → AllByRecursion (λ k. is_from from k ≡ true → from ≤ k) ks
begin from [] = tt
begin from (k ∷ ks) = (from_le from k, begin from ks)

abbrev Filtered : {X : Type 0} → ℕ → List (ℕ × X) → List (ℕ × X)
Filtered from es = filter (λ e. is_from from e.0) es

ascending : {X : Type 0} (from low : ℕ) (es : List (ℕ × X)) → IsStrictlySortedBy nat_cmp
    (keys_of es)
    → AllByRecursion (λ k. is_from from k ≡ true → low ≤ k) (keys_of es)
    → Ascend low (Filtered from es)
ascending from low [] sorted all = tt
ascending {X} from low (e ∷ es) sorted all = by (λ n more. ascending from n es rest more)
    (is_from from e.0) refl
  where
    rest : IsStrictlySortedBy nat_cmp (keys_of es)
    rest = sorted_tail nat_cmp e.0 (keys_of es) sorted

    by : ((n : ℕ) → AllByRecursion (λ k. is_from from k ≡ true → n ≤ k) (keys_of es)
        → Ascend n (Filtered from es))
        → (b : Bool) → is_from from e.0 ≡ b
        → Ascend low (cond b (e ∷ Filtered from es) (Filtered from es))
    by go true is = (
      all.0 is,
      go (e.0 + 1) (lifted from e.0 (keys_of es) (sorted_head nat_cmp e.0 (keys_of es) sorted)),
    )
    by go false is = go low all.1

found_from : {X : Type 0} (from j : ℕ) (es : List (ℕ × X)) → from ≤ j
    → find nat_cmp j es ≡ find nat_cmp j (Filtered from es)
found_from from j [] low = refl
found_from {X} from j (e ∷ es) low = by (found_from from j es low) (is_from from e.0) refl
  where
    by : find nat_cmp j es ≡ find nat_cmp j (Filtered from es) → (b : Bool) → is_from from e.0 ≡ b
        → find nat_cmp j (e ∷ es) ≡ find nat_cmp j
        (cond b (e ∷ Filtered from es) (Filtered from es))
    by same true is = ap (cond (eq_by_cmp nat_cmp j e.0) (Some e.1)) same
    by same false is =
        ap (λ (b : Bool). cond b (Some e.1) (find nat_cmp j es)) (other_key j e.0 (λ q. let l =
        not_from from e.0 is in omega (arith, l, q, low)))
        ∙ same

pub sets_from : (m : BTreeMap ℕ Kept) (from : ℕ) (rest : List (ℕ × Kept)) → IsOrdered nat_cmp m
    → rest ≡ entries_between nat_cmp (Included from) Unbounded m.entries
    → AreFrom (map.from_entries m.entries) from rest
sets_from m from rest ordered is =
    subst (AreFrom (map.from_entries m.entries) from) (sym is) (record {
      ascend = ascending from from m.entries ordered (begin from (keys_of m.entries));
      each = λ j low. map.get-from_entries nat_cmp_total m.entries j ∙ found_from from j m.entries
          low;
    })

-- ---- one set after another
none_before : {X : Type 0} (low j : ℕ) (es : List (ℕ × X)) → Ascend low es → j < low
    → find nat_cmp j es ≡ None
none_before low j [] a less = refl
none_before low j (e ∷ es) a less =
    ap (λ (b : Bool). cond b (Some e.1) (find nat_cmp j es)) (other_key j e.0 (λ q. let l = a.0 in
    omega (arith, l, q, less)))
    ∙ none_before (e.0 + 1) j es a.1 (let l = a.0 in omega (arith, l, less))

-- what the first of the sets says of those up to it, and the rest of those behind it
pub record IsFirst (sets : SetMap) (from : ℕ) (e : ℕ × Kept) (rest : List (ℕ × Kept)) : Type 0 where
  pub above : from ≤ e.0
  pub there : map.get sets e.0 ≡ Some e.1
  pub none : (j : ℕ) → from ≤ j → j < e.0 → map.get sets j ≡ None
  pub more : AreFrom sets (e.0 + 1) rest

pub first_from : (sets : SetMap) (from : ℕ) (e : ℕ × Kept) (rest : List (ℕ × Kept))
    → AreFrom sets from (e ∷ rest) → IsFirst sets from e rest
first_from sets from e rest a = let above = a.ascend.0 in record {
  above = above;
  there = a.each e.0 above
      ∙ ap (λ (b : Bool). cond b (Some e.1) (find nat_cmp e.0 rest)) (same_key e.0 e.0 refl);
  none = λ j low less. a.each j low
      ∙ ap (λ (b : Bool). cond b (Some e.1) (find nat_cmp j rest)) (other_key j e.0 (λ q.
      omega (arith, q, less)))
      ∙ none_before (e.0 + 1) j rest a.ascend.1 (omega (arith, less));
  more = record {
    ascend = a.ascend.1;
    each = λ j low. a.each j (omega (arith, low, above))
        ∙ ap (λ (b : Bool). cond b (Some e.1) (find nat_cmp j rest)) (other_key j e.0 (λ q.
        omega (arith, q, low)));
  };
}
