-- What the pointer word of an object tells of the pins on it, and of its last entry.
use Rattle.std.proofs.Common.{◌≡◌, ◌≢◌, ℕ, ◌<◌, ◌++◌, List, ap, ◌∙◌, sym, subst, inl, ⊎_elim, arith}
use Rattle.std.proofs.Common.{eqb, eqb-true}
use mathlib.Core.Option.{some}
use lib.ListN.{get_elem?}
use Rattle.cb_types.specs.declared.config.Config.{Config}
use Rattle.cb_ptr.specs.declared.word.State.TheVariants as word
use Rattle.cb_ptr.specs.Word.{len_of, state_of}
use Rattle.cb_world.specs.declared.entry.Entry.{Entry}
use Rattle.cb_world.specs.declared.object.Object.{Object}
use Rattle.cb_world.specs.declared.object.Object.TheVariants as is
use Rattle.cb_world.specs.declared.shown.Shown.{Shown}
use Rattle.cb_world.specs.Shown.{Fits, object_at, version_at}
use Rattle.cb_rule.specs.declared.view.View.{View}
use Rattle.cb_rule.specs.History.{is_version, newest, top}
use Rattle.cb_rule.specs.Lists.{total, Has}
use Rattle.cb_rule.specs.Own.{AreOwn, IsAlone}
use Rattle.cb_rule.specs.Rule.{RuleKept}
use Rattle.cb_rule.specs.Ruled.{AreShares}
use Rattle.cb_rule.specs.Seats.{pins_on, claims_on}
use Rattle.cb_rule.specs.Stands.{IsCalm, IsClaimedBySeat, Stands}
use Rattle.cb_rule.specs.Steps.{HasLast, IsNewest, TellsPins}
use Rattle.cb_rule.specs.Words.{pointer}
use Rattle.cb_rule.proofs.Calm.{contents, lies}
use Rattle.cb_rule.proofs.Counts.{each_append, times-append, total-at}
use Rattle.cb_rule.proofs.Histories.{same_entry}
use Rattle.cb_rule.proofs.Members.{each_has, has_times}
use Rattle.cb_rule.proofs.Newest.{is_newest, others_spent, total_alone}
use Rattle.cb_rule.proofs.Owning.{both_true}

module _ (c : Config) (ws : List ℕ) (views : List View) (known : Shown) (es : List Entry)
    (r : RuleKept c ws views known es) where
  -- where no other view has the object all pins are one's own
  pub own_pins : AreShares c views → (first : ℕ) → AreOwn first views → (id h : ℕ) (v : View)
      → get_elem? views id ≡ some v → IsAlone h v → total (pins_on h) views ≡ pins_on h v
  own_pins shares first own id h v at lone = total_alone (pins_on h) views id v at
      (λ j u ne there. ⊎_elim
      (λ (whole : v.share ≡ 64).
      ap (pins_on h) (others_spent c views id j v u shares at whole ne there))
      (λ (mine : Has h v.own). let none = own.alone id v at j u there ne h (inl mine) in
      omega (arith, none)) lone)

  -- an object whose word is not Here has no pins
  no_pins : (h : ℕ) → h < c.handles → state_of (pointer ws h) ≢ word.Here
      → total (pins_on h) views ≡ 0
  no_pins h l off = go (object_at known h) (r.stand h l)
    where
      go : (o : Object)
          → Stands c known.first ws h (total (pins_on h) views) (total (claims_on h) views)
          (top es h) (newest es h) (version_at known h) o
          → total (pins_on h) views ≡ 0
      go (is.Empty v) k = k.no_pins
      go (is.Far len v words) k = k.kept.no_pins
      go (is.Here len place) k = ⊎_elim
          (λ (m : IsCalm c ws h (total (pins_on h) views) (total (claims_on h) views) (top es h)
          (newest es h) len place). absurd (off m.state))
          (λ (m : IsClaimedBySeat ws h (total (pins_on h) views) (total (claims_on h) views)).
          m.no_pins)
          k.word
      go (is.Claimed len place v words) k = k.kept.no_pins

  -- where no other view has an object that has contents, this view wrote its newest entry
  last_alone : AreShares c views → (first : ℕ) → AreOwn first views → (id h : ℕ) (v : View)
      → get_elem? views id ≡ some v → h < c.handles → state_of (pointer ws h) ≢ word.Empty
      → IsAlone h v → HasLast h (len_of (pointer ws h)) v
  last_alone shares first own id h v at l full alone =
      let n = contents c ws views known es r h l full in
      let top_is : IsNewest h (top es h) v =
      is_newest c ws views known es r shares first own id v h at n.made in
      let pos = top_is.lone alone in
      let both = times-append (is_version h (top es h)) v.fresh v.written in
      let mine = has_times (is_version h (top es h)) (v.fresh ++ v.written)
      (omega (arith, pos, both)) in
      let e = mine.0 in
      let is = both_true (eqb e.handle h) (eqb e.version (top es h)) mine.2 in
      let ok = (r.seats id v at).lasting in
      let there = each_has (λ (x : Entry). Has x es) e (v.fresh ++ v.written)
      (each_append (λ (x : Entry). Has x es) v.fresh v.written ok.fresh ok.written) mine.1 in
      let same = same_entry known.first r.begins e n.entry es r.history there n.there
      (eqb-true e.handle h is.0 ∙ sym n.handle)
      (eqb-true e.version (top es h) is.1 ∙ sym n.version) in record {
        last = n.entry;
        wrote = subst (λ (x : Entry). Has x (v.fresh ++ v.written)) same mine.1;
        handle = n.handle;
        newest = subst (λ (k : ℕ). IsNewest h k v) (sym n.version) top_is;
        held = n.held;
        long = n.long;
      }

  pub tells_pins : AreShares c views → (first : ℕ) → AreOwn first views → (id h : ℕ) (v : View)
      → get_elem? views id ≡ some v → h < c.handles → TellsPins h (pointer ws h) v
  tells_pins shares first own id h v at l =
      let many = total-at (pins_on h) views id v at in record {
        here = λ full. let o = lies c ws views known es r h l (inl full) in
            let f = subst (λ (z : Object). Fits z (pointer ws h)) o.here (r.fit h l) in (
              f.0,
              (let n = o.calm.count in omega (arith, many, n)),
              λ lone. o.calm.count ∙ own_pins shares first own id h v at lone,
            );
        away = λ off. let none = no_pins h l off in omega (arith, many, none);
        last = λ full alone. last_alone shares first own id h v at l full alone;
      }
