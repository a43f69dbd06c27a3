-- Behind the freed version of an object there is none.
use Rattle.std.proofs.Common.{◌≡◌, ℕ, zero, suc, ◌+◌, ◌<◌, ◌≤◌, Bool, true, false, List, [], inl, inr}
use Rattle.std.proofs.Common.{⊎_elim, sym, ap, ◌∙◌, subst, arith}
use Rattle.std.proofs.lemmas.Bool.{cases_lt}
use Rattle.cb_world.specs.declared.entry.Entry.{Entry}
use Rattle.cb_rule.specs.declared.view.Seen.{Seen}
use Rattle.cb_rule.specs.declared.view.View.{View}
use Rattle.cb_rule.specs.Promised.{EntriesStand, Is, Wrote}
use Rattle.cb_rule.specs.RecordStands.{FreedIsLast, HasVersion}
use Rattle.cb_rule.proofs.Growing.{has_more}

true_false : true ≡ false → ⊥
true_false e = cc

module _ (first : ℕ) (views : List View) (entries : EntriesStand first views) (v : View)
    (at : Is views v) where
  -- the entry of a version
  record IsEntryOf (h n : ℕ) (freed : Bool) (e : Entry) : Type 0 where
    pub wrote : Wrote views e
    pub handle : e.handle ≡ h
    pub version : e.version ≡ n
    pub is_freed : e.freed ≡ freed

  entry_of : (h n : ℕ) (freed : Bool) → HasVersion v h n freed → (e : Entry) × IsEntryOf h n freed e
  entry_of h n freed (inl x) = (
    x.0,
    record {
      wrote = (v, at, has_more x.0 v.fresh v.written x.1);
      handle = x.2;
      version = x.3;
      is_freed = x.4;
    },
  )
  entry_of h n freed (inr x) = let z = entries.read x.0 (v, at, x.1) in (
    z.0,
    record {
      wrote = z.1;
      handle = sym (ap (λ (s : Seen). s.handle) z.2) ∙ x.2;
      version = sym (ap (λ (s : Seen). s.version) z.2) ∙ x.3;
      is_freed = sym (ap (λ (s : Seen). s.freed) z.2) ∙ x.4;
    },
  )

  -- two entries of one version are both freed or not
  same_freed : (e x : Entry) → Wrote views e → Wrote views x → e.handle ≡ x.handle
      → e.version ≡ x.version → e.freed ≡ x.freed
  same_freed e x we wx handle version =
      ap (λ (z : Entry). z.freed) (entries.same e x we wx handle version)

  -- from an entry above the freed one the entries go down to one that goes on from it
  none_above : (k : ℕ) (e x : Entry) → Wrote views e → Wrote views x → e.handle ≡ x.handle
      → e.freed ≡ true → x.version ≤ e.version + k → e.version < x.version → ⊥
  none_above zero e x we wx handle gone near above = absurd (omega (arith, near, above))
  none_above (suc k) e x we wx handle gone near above = ⊎_elim
      (λ (begins : (x.version ≡ first) × (x.before ≡ []) × (x.freed ≡ false)). let born = entries.born e we in
      let one = begins.0 in absurd (omega (arith, born, one, above)))
      (λ (goes : (y : Entry) × Wrote views y × (y.handle ≡ x.handle) × (y.version + 1 ≡ x.version)
      × (y.after ≡ x.before) × (y.freed ≡ false) × (x.freed ≡ false → x.len ≡ y.len)). let next = goes.3 in ⊎_elim
      (λ (more : e.version < goes.0.version). none_above k e goes.0 we goes.1 (handle ∙ sym goes.2) gone
      (omega (arith, near, next)) more)
      (λ (up_to : goes.0.version ≤ e.version). true_false (sym gone
      ∙ same_freed e goes.0 we goes.1 (handle ∙ sym goes.2) (omega (arith, up_to, next, above))
      ∙ goes.5)) (cases_lt e.version goes.0.version)) (entries.goes_on x wx)

  -- where the entries stand, the freed one is the last
  pub freed_last : FreedIsLast v
  freed_last h last n freed gone has = (
    ⊎_elim (λ (above : last < n). absurd (none_above x.0.version e.0 x.0 e.1.wrote x.1.wrote
        (e.1.handle ∙ sym x.1.handle) e.1.is_freed (omega arith)
        (subst (λ (m : ℕ). m < x.0.version) (sym e.1.version)
        (subst (λ (m : ℕ). last < m) (sym x.1.version) above))))
        (λ (up_to : n ≤ last). up_to) (cases_lt last n),
    λ same. sym x.1.is_freed ∙ same_freed x.0 e.0 x.1.wrote e.1.wrote (x.1.handle ∙ sym e.1.handle)
        (x.1.version ∙ same ∙ sym e.1.version) ∙ e.1.is_freed,
  )
    where
      e : (e : Entry) × IsEntryOf h last true e
      e = entry_of h last true gone

      x : (e : Entry) × IsEntryOf h n freed e
      x = entry_of h n freed has
