use Rattle.std.proofs.Common.{◌≡◌, ℕ, ◌+◌, ◌<◌, List, [], ◌++◌, length, get_or, Option, None, Some, sym, ap, subst, arith, rules}
use Rattle.std.specs.Option.{IfSome}
use Rattle.cb_types.specs.declared.config.Config.{Config}
use Rattle.cb_evict.specs.Looking.{SpanHas}
use Rattle.cb_evict.proofs.Events.{touches_append, touches_more, looks_append, looks_are_first}
use Rattle.cb_evict.proofs.Slots.{HasBelow, slot_handle, slot_more, below_more, below_all, below_has, slot_seen, slot_found, all_found}
use Rattle.cb_evict.proofs.looking.is_loose.Goals as goal

pub loop-slot-init : goal.loop-slot-init
loop-slot-init g c = (
  [],
  g.met.D.Desk.none _,
  tt,
  tt,
  λ h (slot, less, named). absurd (omega (arith, less)),
  λ h (slot, less, named). absurd (omega (arith, less)),
)

pub is_slot_loose-loose-requires : goal.is_slot_loose-loose-requires
is_slot_loose-loose-requires g c = record {
  handle =
      let inv = c.loop-slot.invariant in
      subst (λ (n : Config). IfSome (get_or c.slots-slot-items.result.now c.loop-slot.slot-index None)
      (λ h. h < n.handles)) (sym (g.met.D.Desk.stays _ _ inv.0 inv.1))
      (slot_handle c.args.span.now c.loop-slot.slot-index _ _
      (ap (λ (l : List (Option ℕ)). get_or l c.loop-slot.slot-index None) c.slots-slot-items.ensures.slots)
      c.requires.handles);
}

pub loop-slot-preserved : goal.loop-slot-preserved
loop-slot-preserved g c =
    let inv = c.loop-slot.invariant in let x = c.is_slot_loose-loose.ensures in
    let i = c.loop-slot.slot-index in let span = c.args.span.now in
    let slot = get_or c.slots-slot-items.result.now i None in
    let e = ap (λ (l : List (Option ℕ)). get_or l i None) c.slots-slot-items.ensures.slots in (
      inv.0 ++ x.events,
      g.met.D.Desk.more _ _ _ _ _ inv.1 x.ran,
      looks_append inv.0 x.events inv.2 x.done.0,
      touches_append (HasBelow span (i + 1)) (λ p. ⊥) inv.0 x.events
          (touches_more (HasBelow span i) (HasBelow span (i + 1)) (λ p. ⊥) (λ p. ⊥) inv.0 (below_more span i) (λ p y. y) inv.3)
          (touches_more (λ h. slot ≡ Some h) (HasBelow span (i + 1)) (λ p. ⊥) (λ p. ⊥) x.events
          (slot_more span i slot e) (λ p y. y) x.touches),
      slot_seen span i slot inv.0 x.events e c.requires.apart x.touches c.is_slot_loose-loose.result inv.4 x.done.1,
      slot_found span i slot inv.0 x.events e c.requires.apart x.touches c.loop-slot.loose
          c.is_slot_loose-loose.result inv.5 x.done.1,
    )

pub returns : goal.returns
returns g c =
    let inv = c.loop-slot.invariant in let i = c.loop-slot.slot-index in
    let span = c.args.span.now in
    let count = ap (λ (l : List (Option ℕ)). length l) c.slots-slot-items.ensures.slots in record {
      events = inv.0;
      ran = inv.1;
      touches = touches_more (HasBelow span i) (SpanHas span) (λ p. ⊥) (λ p. ⊥) inv.0 (below_has span i) (λ p y. y) inv.3;
      first = looks_are_first inv.0 inv.2;
      done = (
        inv.2,
        (
          λ h has. inv.4 h (below_all span i h (search rules) has),
          all_found span i inv.0 c.loop-slot.loose (search rules) inv.5,
        ),
      );
    }
