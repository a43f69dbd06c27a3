-- An array goes on being one of its pass where that is split and takes another in.
use Rattle.std.proofs.Common.{◌≡◌, ℕ, ◌*◌, ◌<◌, ◌≤◌, List, [], ◌∷◌, length, ap, sym, subst, arith}
use Rattle.std.specs.List.{AllByRecursion}
use Rattle.cb_rule.specs.declared.view.View.{View}
use Rattle.cb_rule.specs.Steps.{Knows, joined, left_of}
use Rattle.cb_farmap.specs.declared.array.FarArray.{FarArray}
use Rattle.cb_farmap.specs.declared.kept.KeptObject.{KeptObject}
use Rattle.cb_farmap.specs.Arrays.{IsArrayOf}
use Rattle.cb_farmap.specs.Objects.{IsObject, object_at}
use Rattle.cb_farmap.proofs.Laws.{array_stays, knows_it}

-- ---- a pass that is split and takes another in
pub array_left : (given : ℕ) (v w : View) (a : FarArray) → w ≡ left_of given v → IsArrayOf v a
    → IsArrayOf w a
array_left given v w a e of = array_stays v w a of ([], ap (λ (u : View). u.written) e)

pub array_joined : (v u w : View) (a : FarArray) → w ≡ joined v u → IsArrayOf v a → IsArrayOf w a
array_joined v u w a e of = array_stays v w a of (u.written, ap (λ (x : View). x.written) e)

-- ---- the pass knows the object of the first number
known_first : (v : View) (ks : List KeptObject) → AllByRecursion (IsObject v.written) ks
    → 1 ≤ length ks → Knows (object_at ks 0).handle.n v
known_first v [] all some = absurd (omega (arith, some))
known_first v (k ∷ ks) all some = knows_it v k all.0

some_object : (n : ℕ) (ks : List KeptObject) → n ≤ 128 * length ks → 0 < n → 1 ≤ length ks
some_object n ks within some = omega (arith, within, some)

pub has_object : (v : View) (a : FarArray) → IsArrayOf v a → 0 < a.len → 0 < length a.kept
has_object v a of some = some_object a.len a.kept of.within some

pub array_known : (v : View) (a : FarArray) → IsArrayOf v a → 0 < a.len → (k : KeptObject)
    → k ≡ object_at a.kept 0 → Knows k.handle.n v
array_known v a of some k is = subst (λ (x : KeptObject). Knows x.handle.n v) (sym is)
    (known_first v a.kept of.objects (some_object a.len a.kept of.within some))
