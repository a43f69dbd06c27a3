-- A share is 64 at the most.
use Rattle.std.proofs.Common.{◌≡◌, ℕ, zero, suc, ◌≤◌, List, [], ◌∷◌, set, sym, refl, ap, subst}
use Rattle.std.proofs.Common.{arith}
use mathlib.Core.Option.{some, none, some-injective, some-ne-none}
use lib.ListN.{get_elem?}
use lib.Seq.{set-get_or}
use Rattle.atomic_table.specs.Table.{step, keeps, Allows}
use Rattle.cb_types.specs.declared.config.Config.{Config}
use Rattle.cb_rule.specs.declared.view.View.{View}
use Rattle.cb_rule.specs.Lists.{total}
use Rattle.cb_rule.specs.Locking.{Locked}
use Rattle.cb_rule.specs.Ruled.{Ruled}
use Rattle.cb_rule.specs.Seats.{share_of}
use Rattle.cb_rule.specs.Slot.{Sat, Table}
use Rattle.cb_shared.specs.Turning.{Did}
use Rattle.cb_shared.specs.Tallies.{tallied}

set_same : (vs : List View) (id : ℕ) (v : View) → get_elem? vs id ≡ some v → set vs id v ≡ vs
set_same [] id v e = refl
set_same (x ∷ xs) zero v e = ap (λ (y : View). y ∷ xs) (sym (some-injective x v e))
set_same (x ∷ xs) (suc id) v e = ap (λ (ys : List View). x ∷ ys) (set_same xs id v e)

pub share_within : (vs : List View) (id : ℕ) (v : View) → get_elem? vs id ≡ some v
    → v.share ≤ total share_of vs
share_within [] id v e = absurd (some-ne-none v (sym e))
share_within (x ∷ xs) zero v e =
    let same : x.share ≡ v.share = ap share_of (some-injective x v e) in omega arith
share_within (x ∷ xs) (suc id) v e = let z = share_within xs id v e in omega (arith, z)

-- A load that changes nothing may tell whatever the rule says of the seat's view.
pub loads_same : (first : ℕ) (k : Config) (slots id i : ℕ) (me : Sat) (P : Type 0)
    → ((s : Table) → Ruled (Locked Did) first k s → get_elem? s.views id ≡ some me.0 → P)
    → Allows (Ruled (Locked Did) first k) slots id me i (λ n. n) (λ n m'. (m' ≡ me) × P)
loads_same first k slots id i me P tells s r _ at _ = (
  me.0,
  keeps,
  tt,
  subst (λ (ws : List ℕ). Ruled (Locked Did) first k record {
    words = ws;
    homes = s.homes;
    views = set s.views id me.0;
  }) (sym (set-get_or s.words i 0)) (subst (λ (vs : List View). Ruled (Locked Did) first k record {
    words = s.words;
    homes = s.homes;
    views = vs;
  }) (sym (set_same s.views id me.0 at)) r),
  (refl, tells s r at),
)

pub tallies : (first : ℕ) (k : Config) (slots id i : ℕ) (me : Sat)
    → Allows (Ruled (Locked Did) first k) slots id me i (λ n. n) (tallied (step slots i 0 0 none) me)
tallies first k slots id i me = loads_same first k slots id i me (me.0.share ≤ 64) (λ s r at.
    let z = share_within s.views id me.0 at in omega (arith, z, r.shares.whole))
