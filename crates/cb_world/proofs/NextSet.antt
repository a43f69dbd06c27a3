-- The first entry of a tree map from a key on.
use Rattle.std.proofs.Common.{◌≡◌, ℕ, ◌<◌, ◌≤◌, false, IsSome, List, [], ◌∷◌, Option, None, Some, is_some, refl, ap, ◌∙◌, subst, arith}
use Rattle.std.specs.FinMap as map
use Rattle.std.specs.Ordering.{nat_cmp, is_gt}
use Rattle.std.specs.declared.ops.Bound.TheVariants.{Included, Unbounded}
use Rattle.std.specs.BTreeMap as tree
use Rattle.std.specs.BTreeMap.{BTreeMap}
use Rattle.std.specs.BTreeMap.Range.{IsRangeOf}
use Rattle.std.proofs.lemmas.Bool.Decides.{nat_tests}
use Rattle.cb_node.proofs.Laws.{view, get-view}

-- the key is found, from the given one on, and no lower one is
pub record IsNextKey {X : Type 0} (m : BTreeMap ℕ X) (from k : ℕ) : Type 0 where
  pub above : from ≤ k
  pub there : IsSome (map.get (view m) k)
  pub least : (j : ℕ) → from ≤ j → j < k → map.get (view m) j ≡ None

at_least : (a b : ℕ) → is_gt (nat_cmp a b) ≡ false → a ≤ b
at_least a b e = grind (arith, nat_tests)

from_le : (a b : ℕ) → a ≤ b → is_gt (nat_cmp a b) ≡ false
from_le a b l = grind (arith, nat_tests)

pub first_next : {X : Type 0} (m : BTreeMap ℕ X) (from : ℕ) (e : ℕ × X) (r t : List (ℕ × X))
    → IsRangeOf nat_cmp (Included from) Unbounded m r → r ≡ e ∷ t → IsNextKey m from e.0
first_next {X} m from e r t range is =
    let x = subst (IsRangeOf nat_cmp (Included from) Unbounded m) is range in record {
      above = at_least from e.0 x.1.0.0;
      there = ap is_some (get-view m e.0 ∙ x.1.1);
      least = λ j low high. none j low high (tree.get nat_cmp m j) refl;
    }
  where
    none : (j : ℕ) → from ≤ j → j < e.0 → (o : Option X) → tree.get nat_cmp m j ≡ o
        → map.get (view m) j ≡ None
    none j low high None at = get-view m j ∙ at
    none j low high (Some v) at =
        let x = subst (IsRangeOf nat_cmp (Included from) Unbounded m) is range in
        let l = at_least e.0 j (x.2 j (from_le from j low, tt) (ap is_some at)) in
        absurd (omega (arith, l, high))

pub none_next : {X : Type 0} (m : BTreeMap ℕ X) (from : ℕ) (r : List (ℕ × X))
    → IsRangeOf nat_cmp (Included from) Unbounded m r → r ≡ []
    → (j : ℕ) → from ≤ j → map.get (view m) j ≡ None
none_next m from r range is j low = get-view m j ∙ range.5 is j (from_le from j low, tt)
