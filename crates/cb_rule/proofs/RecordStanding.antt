-- The rule says of each view by itself what its record has of any object, and that its turns are
-- one history where it has the whole share.
use Rattle.std.proofs.Common.{◌≡◌, ℕ, ◌+◌, false, List, [], ◌∷◌, sym, ap, ◌∙◌, subst, inl, inr}
use Rattle.std.proofs.Common.{arith}
use mathlib.Core.Option.{some}
use lib.ListN.{get_elem?}
use Rattle.cb_types.specs.declared.config.Config.{Config}
use Rattle.cb_world.specs.declared.entry.Entry.{Entry}
use Rattle.cb_rule.specs.declared.view.Seen.{Seen}
use Rattle.cb_rule.specs.declared.view.View.{View}
use Rattle.cb_rule.specs.Lists.{Has}
use Rattle.cb_rule.specs.Locking.{Deeds, Locked}
use Rattle.cb_rule.specs.OneHistory.{IsOneHistory}
use Rattle.cb_rule.specs.OwnStands.{WroteItself}
use Rattle.cb_rule.specs.Promised.{EntriesStand, EntryGoesOn, Wrote}
use Rattle.cb_rule.specs.Records.{seen_of}
use Rattle.cb_rule.specs.RecordStands.{RecordStands}
use Rattle.cb_rule.specs.Ruled.{Beside, Ruled}
use Rattle.cb_rule.specs.Slot.{Table}
use Rattle.cb_rule.proofs.FreedLast.{freed_last}
use Rattle.cb_rule.proofs.Lone.{lone_turns}
use Rattle.cb_rule.proofs.Newest.{others_spent}
use Rattle.cb_rule.proofs.OwnStanding.{wrote_there}
use Rattle.cb_rule.proofs.Promising.{promises}
use Rattle.cb_rule.proofs.Turns.{one_history}

module _ (first : ℕ) (views : List View) (stand : EntriesStand first views)
    (id : ℕ) (u : View) (at : get_elem? views id ≡ some u) where
  wrote : (e : Entry) → WroteItself u e → Wrote views e
  wrote = wrote_there views id u at

  -- what was read is an entry
  of_entry : (s : Seen) → Has s u.seen → (e : Entry) × Wrote views e × (s ≡ seen_of e)
  of_entry s has = stand.read s (u, (id, at), has)

  -- the entry before one, by its version
  goes_on_from : (e x : Entry) → Wrote views x → e.handle ≡ x.handle → e.version ≡ x.version + 1
      → EntryGoesOn first views e
      → (x.after ≡ e.before) × (x.freed ≡ false) × (e.freed ≡ false → e.len ≡ x.len)
  goes_on_from e x wrote_x same next (inl begins) =
      absurd (let low = stand.born x wrote_x in let is = begins.0 in omega (arith, low, is, next))
  goes_on_from e x wrote_x same next (inr (y, wrote_y, on, number, past, there, long)) =
      let one : y ≡ x = stand.same y x wrote_y wrote_x (on ∙ same) (omega (arith, number, next)) in
      subst (λ (z : Entry).
      (z.after ≡ e.before) × (z.freed ≡ false) × (e.freed ≡ false → e.len ≡ z.len))
      one (past, there, long)

  record_stands : RecordStands u
  record_stands = record {
    read = λ s e has wrote_e same version. let z = stand.read s (u, (id, at), has) in
        let one : z.0 ≡ e = stand.same z.0 e z.1 (wrote e wrote_e)
        (sym (ap (λ (k : Seen). k.handle) z.2) ∙ same)
        (sym (ap (λ (k : Seen). k.version) z.2) ∙ version) in
        z.2 ∙ ap seen_of one;
    same = λ e x a b. stand.same e x (wrote e a) (wrote x b);
    goes_on = λ e x a b same next. goes_on_from e x (wrote x b) same next
        (stand.goes_on e (wrote e a));
    ends = freed_last first views stand u (id, at);
    same_read = λ s t a b same version. let z = of_entry s a in let y = of_entry t b in
        let one : z.0 ≡ y.0 = stand.same z.0 y.0 z.1 y.1
        (sym (ap (λ (k : Seen). k.handle) z.2) ∙ same ∙ ap (λ (k : Seen). k.handle) y.2)
        (sym (ap (λ (k : Seen). k.version) z.2) ∙ version ∙ ap (λ (k : Seen). k.version) y.2) in
        z.2 ∙ ap seen_of one ∙ sym y.2;
    keeps_read = λ e s a b same next. let z = of_entry s b in
        let on = goes_on_from e z.0 z.1 (sym same ∙ ap (λ (k : Seen). k.handle) z.2)
        (next ∙ ap (λ (k : Seen). k.version + 1) z.2) (stand.goes_on e (wrote e a)) in
        subst (λ (k : Seen). (k.words ≡ e.before) × (k.freed ≡ false)
        × (e.freed ≡ false → e.len ≡ k.len)) (sym z.2) on;
  }

-- so of each view between any two steps
pub stands_by_itself : (beside : Beside) (first : ℕ) (c : Config) (s : Table)
    → Ruled beside first c s → (id : ℕ) (u : View) → get_elem? s.views id ≡ some u → RecordStands u
stands_by_itself beside first c s r id u at =
    record_stands first s.views (promises beside first c s r).entries id u at

-- with the whole share the turns of the view are all that there are
pub whole_history : (deeds : Deeds) (first : ℕ) (c : Config) (s : Table)
    (r : Ruled (Locked deeds) first c s) (id : ℕ) (u : View) → get_elem? s.views id ≡ some u
    → u.share ≡ 64 → IsOneHistory deeds first c (u ∷ []) r.far.count (r.far.chain r.far.count)
whole_history deeds first c s r id u at whole =
    lone_turns c s.views id u at
    (λ j w ne there. others_spent c s.views id j u w r.shares at whole ne there)
    deeds first r.far.count (r.far.chain r.far.count) (one_history deeds first c s r)
