-- While no seat holds the lock the table shows a sound world.
use Rattle.std.proofs.Common.{◌≡◌, ◌≢◌, ℕ, zero, suc, ◌<◌, ◌≤◌, Bool, true, false, cond, List, sym}
use Rattle.std.proofs.Common.{refl, ◌∙◌, ⊎_elim, arith}
use Rattle.cb_types.specs.declared.config.Config.{Config}
use Rattle.cb_world.specs.declared.entry.Entry.{Entry}
use Rattle.cb_world.specs.declared.object.Object.{Object}
use Rattle.cb_world.specs.declared.object.Object.TheVariants as is
use Rattle.cb_world.specs.FarState.{FarState}
use Rattle.cb_world.specs.Memory.{bytes_in}
use Rattle.cb_world.specs.Now.{is_gone, now}
use Rattle.cb_world.specs.Now.Now.{never as made_never, freed, held, gone}
use Rattle.cb_world.specs.Shown.{object_at, version_at}
use Rattle.cb_world.proofs.Laws.{empty_value}
use Rattle.cb_rule.specs.AsShown.{as_shown}
use Rattle.cb_rule.specs.Closing.{now_of}
use Rattle.cb_rule.specs.History.{newest, no_value, top, value_of}
use Rattle.cb_rule.specs.Lists.{total}
use Rattle.cb_rule.specs.Locking.{Deeds, IsUnlocked, Locked}
use Rattle.cb_rule.specs.Promised.{Wrote}
use Rattle.cb_rule.specs.Rule.{RuleKept}
use Rattle.cb_rule.specs.Ruled.{Ruled}
use Rattle.cb_rule.specs.Seats.{claims_on, holding, pins_on}
use Rattle.cb_rule.specs.ShownWorld.{ShowsWorld}
use Rattle.cb_rule.specs.Slot.{Table}
use Rattle.cb_rule.specs.Stands.{Stands}
use Rattle.cb_rule.proofs.Ordering.{order_left}
use Rattle.cb_rule.proofs.Showing.{orders_shown}
use Rattle.cb_rule.proofs.ClosedWorld.{moved_by_one, now_shown, shown_known, value_now}
use Rattle.cb_rule.proofs.Histories.{begun, entry_within, newest_entry}
use Rattle.cb_rule.proofs.Members.{each_has}
use Rattle.cb_rule.proofs.Promising.{has_wrote, last_newest, last_top, wrote_has}

-- what an entry left, as what the history has of it
left : (lost : Bool) (e : Entry) → 1 ≤ e.version
    → value_now lost e.version (value_of e) ≡ now_of lost e
left lost e pos = by e.version e.freed pos
  where
    by : (v : ℕ) (ended : Bool) → 1 ≤ v
        → cond ended (empty_value v)
        (cond lost (gone v) (held v (bytes_in e.after e.len)))
        ≡ cond ended (freed v) (cond lost (gone v) (held v (bytes_in e.after e.len)))
    by zero ended made = absurd (omega (arith, made))
    by (suc v) true made = refl
    by (suc v) false made = refl

module _ (deeds : Deeds) (first : ℕ) (c : Config) (s : Table)
    (r : Ruled (Locked deeds) first c s) where
  abbrev k : RuleKept c s.words s.views r.known r.history
  k = r.kept

  abbrev es : List Entry
  es = r.history

  abbrev far : FarState
  far = r.far.chain r.far.count

  pub world_shown : total holding s.views ≡ 0 → ShowsWorld c s far
  world_shown nobody = record {
    home = free.home;
    configured = free.stood.configured;
    counted = free.stood.counted;
    shown = as_shown c s.words r.known;
    known = shown_known c s.words s.views r.known es k far free.stood;
    moved = λ h l. moved_by_one c s.words s.views r.known es k far free.stood s.homes h l;
    last = λ e last unclaimed.
        let there = wrote_has c s.words s.views r.known es k e last.0 in
        let low = (entry_within r.known.first k.begins e es k.history there).0 in
        let pos = k.begins in
        now_here e.handle (each_has (λ (x : Entry). x.handle < c.handles) e es k.within there)
        unclaimed
        ∙ (λ i. value_now (is_gone far e.handle)
        (sym (last_top c s.words s.views r.known es k e last) i)
        (sym (last_newest c s.words s.views r.known es k e last) i))
        ∙ left (is_gone far e.handle) e (omega (arith, low, pos));
    none = λ h l none. unmade h l none;
    orders = λ j u at. order_left r.known (as_shown c s.words r.known) far far
        (orders_shown c s.words s.views r.known es k far free.stood.sound) u.order
        (r.far.resting nobody j u at);
  }
    where
      free : IsUnlocked c s r.known r.far.count far
      free = r.far.free nobody

      now_here : (h : ℕ) → h < c.handles → total (claims_on h) s.views ≡ 0
          → now (as_shown c s.words r.known) far h
          ≡ value_now (is_gone far h) (top es h) (newest es h)
      now_here h l unclaimed = now_shown c s.words s.views r.known es k far free.stood h l unclaimed

      -- an object that was never made has no claim
      unmade : (h : ℕ) → h < c.handles → ((e : Entry) → Wrote s.views e → e.handle ≢ h)
          → now (as_shown c s.words r.known) far h ≡ made_never
      unmade h l none = ⊎_elim
          (λ (z : (top es h ≡ 0) × (newest es h ≡ no_value)).
          now_here h l (no_claim h l z.0) ∙ (λ i. value_now (is_gone far h) (z.0 i) (z.1 i)))
          (λ (low : r.known.first ≤ top es h). let pos = k.begins in
          let n = newest_entry es h (omega (arith, low, pos)) in
          absurd (none n.entry (has_wrote c s.words s.views r.known es k n.entry n.there) n.handle))
          (begun r.known.first k.begins es h k.history)
        where
          no_claim : (h : ℕ) → h < c.handles → top es h ≡ 0 → total (claims_on h) s.views ≡ 0
          no_claim h l never = go (object_at r.known h) (k.stand h l)
            where
              go : (o : Object)
                  → Stands c r.known.first s.words h (total (pins_on h) s.views)
                  (total (claims_on h) s.views) (top es h) (newest es h) (version_at r.known h) o
                  → total (claims_on h) s.views ≡ 0
              go (is.Empty v) x = x.no_claims
              go (is.Far len v words) x = x.kept.no_claims
              go (is.Here len place) x = absurd (let a = x.born in let b = k.begins in
                  omega (arith, a, b, never))
              go (is.Claimed len place v words) x = x.kept.no_claims
