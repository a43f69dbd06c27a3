-- The rule says of each view by itself what it has of its own objects.
use Rattle.std.proofs.Common.{◌≡◌, ℕ, zero, suc, List, [], ◌∷◌, ◌++◌, refl, sym, ap, ◌∙◌, subst}
use Rattle.std.proofs.Common.{inl, inr, arith, eqb, eq-eqb, eqb-true}
use Rattle.std.proofs.lemmas.Bool.{eqb-false}
use mathlib.Core.Option.{some, some-injective, some-ne-none}
use lib.ListN.{get_elem?}
use Rattle.cb_types.specs.declared.config.Config.{Config}
use Rattle.cb_world.specs.declared.entry.Entry.{Entry}
use Rattle.cb_rule.specs.declared.view.Seen.{Seen}
use Rattle.cb_rule.specs.declared.view.View.{View}
use Rattle.cb_rule.specs.Lists.{Has}
use Rattle.cb_rule.specs.Own.{AreOwn, traces, writes_it}
use Rattle.cb_rule.specs.OwnStands.{OwnStands, WroteItself}
use Rattle.cb_rule.specs.Promised.{EntriesStand, EntryGoesOn, Wrote}
use Rattle.cb_rule.specs.Ruled.{Beside, Ruled}
use Rattle.cb_rule.specs.Slot.{Table}
use Rattle.cb_rule.proofs.Counts.{by_case, times-append}
use Rattle.cb_rule.proofs.Members.{times_has}
use Rattle.cb_rule.proofs.Promising.{promises}

pub itself : (u w : View) (j : ℕ) → get_elem? (u ∷ []) j ≡ some w → u ≡ w
itself u w zero is = some-injective u w is
itself u w (suc j) is = absurd (some-ne-none w (sym is))

-- what a view wrote itself was written
pub wrote_there : (views : List View) (id : ℕ) (u : View) → get_elem? views id ≡ some u
    → (e : Entry) → WroteItself u e → Wrote views e
wrote_there views id u at e (w, (j, is), has) =
    (u, (id, at), subst (λ (z : View). Has e (z.fresh ++ z.written)) (sym (itself u w j is)) has)

module _ (first : ℕ) (views : List View) (stand : EntriesStand first views) (own : AreOwn first views)
    (id : ℕ) (u : View) (at : get_elem? views id ≡ some u) where
  -- a view that wrote an entry has something of the object
  leaves_trace : (e : Entry) (w : View) → Has e (w.fresh ++ w.written) → traces e.handle w ≡ 0 → ⊥
  leaves_trace e w has none =
      let pos = times_has (writes_it e.handle) e (w.fresh ++ w.written) has
      (eq-eqb e.handle e.handle refl) in
      let parts = times-append (writes_it e.handle) w.fresh w.written in
      absurd (omega (arith, none, pos, parts))

  -- so no other one wrote an entry of an own object of this
  wrote_here : (e : Entry) → Wrote views e → Has e.handle u.own → WroteItself u e
  wrote_here e (w, (j, is), has) mine = by_case (λ b. WroteItself u e) (eqb j id)
      (λ same. let one : u ≡ w = some-injective u w
      (sym at ∙ ap (get_elem? views) (sym (eqb-true j id same)) ∙ is) in
      (u, (0, refl), subst (λ (z : View). Has e (z.fresh ++ z.written)) (sym one) has))
      (λ off. absurd (leaves_trace e w has
      (own.alone id u at j w is (eqb-false j id off) e.handle (inl mine))))

  pub own_stands : OwnStands first u
  own_stands = record {
    read = λ s has mine. let z = stand.read s (u, (id, at), has) in
        (z.0, wrote_here z.0 z.1 (subst (λ (k : Seen). Has k.handle u.own) z.2 mine), z.2);
    looked = λ l found mine full. let z = stand.looked l (u, (id, at), found) full in (
      z.0,
      wrote_here z.0 z.1 (subst (λ (h : ℕ). Has h u.own) (sym z.2) mine),
      z.2,
      z.3,
      z.4,
    );
    born = λ e wrote. stand.born e (wrote_there views id u at e wrote);
    same = λ e x a b.
        stand.same e x (wrote_there views id u at e a) (wrote_there views id u at x b);
    goes_on = λ e wrote mine. here e mine (stand.goes_on e (wrote_there views id u at e wrote));
  }
    where
      here : (e : Entry) → Has e.handle u.own → EntryGoesOn first views e
          → EntryGoesOn first (u ∷ []) e
      here e mine (inl begins) = inl begins
      here e mine (inr (x, wrote, same, next, past, there, long)) = inr (
        x,
        wrote_here x wrote (subst (λ (h : ℕ). Has h u.own) (sym same) mine),
        same,
        next,
        past,
        there,
        long,
      )

-- so of each view between any two steps
pub stands_alone : (beside : Beside) (first : ℕ) (c : Config) (s : Table) → Ruled beside first c s
    → (id : ℕ) (u : View) → get_elem? s.views id ≡ some u → OwnStands first u
stands_alone beside first c s r id u at =
    own_stands first s.views (promises beside first c s r).entries r.own id u at
