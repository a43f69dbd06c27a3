use Rattle.std.proofs.Common.{ℕ, ◌+◌, ◌<◌, List, [], ◌++◌, length, get_or, All, Option, None, refl, sym, ap, ◌∙◌, subst, arith, rules, length-append}
use Rattle.std.specs.Option.{IfSome}
use Rattle.std.proofs.lemmas.List.{append-nil, append_assoc, take_all}
use Rattle.cb_types.specs.declared.config.Config.{Config}
use Rattle.cb_world.specs.declared.leaving.Former.{Former}
use Rattle.cb_world.specs.Played.{played}
use Rattle.cb_world.proofs.Laws.{found_more}
use Rattle.cb_evict.specs.Claims.{IsHeldAt, AreApart}
use Rattle.cb_evict.specs.Claiming.{GivesBack}
use Rattle.cb_evict.specs.Looking.{SpanHas}
use Rattle.cb_evict.proofs.Events.{touches_more, found_after}
use Rattle.cb_evict.proofs.Claims.{claims_nothing}
use Rattle.cb_evict.proofs.Gathers.{Gathers, gathers_back}
use Rattle.cb_evict.specs.Order.{objects_in}
use Rattle.cb_evict.proofs.Slots.{HasBelow, nothing_yet, noted_more, slot_handle, slot_succeeded, to_undo, below_all, below_has}
use Rattle.cb_evict.proofs.CallParts.{joins}
use Rattle.cb_evict.proofs.claiming.claim_span.Goals as goal

pub loop-slot-init : goal.loop-slot-init
loop-slot-init g c = (
  [],
  [],
  nothing_yet _ _ c.args.span.now (g.met.D.Desk.none _)
      (λ far s a sound. claims_nothing far s [] tt sound),
  sym (append-nil c.args.formers.now.items),
  omega arith,
  omega arith,
  refl,
)

pub claim_slot-requires-clause-handle : goal.claim_slot-requires-clause-handle
claim_slot-requires-clause-handle g c =
    let inv = c.loop-slot.invariant in
    subst (λ (n : Config). IfSome (get_or c.slots-slot-items.result.now c.loop-slot.slot-index None)
    (λ h. h < n.handles)) (sym (g.met.D.Desk.stays _ _ inv.0 inv.2.ran))
    (slot_handle c.args.span.now c.loop-slot.slot-index _ _
    (ap (λ (l : List (Option ℕ)). get_or l c.loop-slot.slot-index None) c.slots-slot-items.ensures.slots)
    c.requires.handles)

pub claim_slot-requires-clause-sound : goal.claim_slot-requires-clause-sound
claim_slot-requires-clause-sound g c =
    let inv = c.loop-slot.invariant in let had = c.requires.sound in (
      played inv.0 had.0,
      (g.met.D.Desk.follows _ _ inv.0 had.0 inv.2.ran had.1).1,
      (had.2.0, (inv.2.claims had.2.0 had.0 had.1 had.2.1).1),
    )

-- where an object could not be claimed, those before it are claimed and noted
pub undo-requires-clause-handles : goal.undo-requires-clause-handles
undo-requires-clause-handles g c =
    let inv = c.loop-slot.invariant in let x = c.if-not-claim_slot.ensures.claims in
    let i = c.loop-slot.slot-index in let span = c.args.span.now in
    let e = ap (λ (l : List (Option ℕ)). get_or l i None) c.slots-slot-items.ensures.slots in
    let z = to_undo {runsC = λ fs. g.D.Desk.run c.args.desk.now fs c.claim_slot.new.desk} {span = span}
    {old = c.args.formers.now.items} {start = c.len-start.result} (joins (λ es fs a b. g.met.D.Desk.more _ _ _ _ _ a b)
    (λ es s ran a. (g.met.D.Desk.follows _ _ es s ran a).1)) inv.2 x e c.requires.apart inv.3 (search rules) in
    subst (λ (l : List Former). All (λ f. f.handle < (g.D.Desk.settings c.claim_slot.new.desk).handles) l)
    (sym z.rest)
    (λ k d l. subst (λ (n : Config). (get_or (inv.1 ++ x.more) k d).handle < n.handles)
    (sym (g.met.D.Desk.stays _ _ (inv.0 ++ x.part.events) z.joint.ran))
    (c.requires.handles (get_or (inv.1 ++ x.more) k d).handle
    (below_has span i (get_or (inv.1 ++ x.more) k d).handle (z.joint.of.only k d l))))

pub undo-requires-clause-apart : goal.undo-requires-clause-apart
undo-requires-clause-apart g c =
    let inv = c.loop-slot.invariant in let x = c.if-not-claim_slot.ensures.claims in
    let i = c.loop-slot.slot-index in let span = c.args.span.now in
    let e = ap (λ (l : List (Option ℕ)). get_or l i None) c.slots-slot-items.ensures.slots in
    let z = to_undo {runsC = λ fs. g.D.Desk.run c.args.desk.now fs c.claim_slot.new.desk} {span = span}
    {old = c.args.formers.now.items} {start = c.len-start.result} (joins (λ es fs a b. g.met.D.Desk.more _ _ _ _ _ a b)
    (λ es s ran a. (g.met.D.Desk.follows _ _ es s ran a).1)) inv.2 x e c.requires.apart inv.3 (search rules) in
    subst AreApart (sym z.rest) z.joint.each_once

pub undo-requires-clause-held : goal.undo-requires-clause-held
undo-requires-clause-held g c =
    let inv = c.loop-slot.invariant in let x = c.if-not-claim_slot.ensures.claims in
    let i = c.loop-slot.slot-index in let span = c.args.span.now in
    let e = ap (λ (l : List (Option ℕ)). get_or l i None) c.slots-slot-items.ensures.slots in
    let z = to_undo {runsC = λ fs. g.D.Desk.run c.args.desk.now fs c.claim_slot.new.desk} {span = span}
    {old = c.args.formers.now.items} {start = c.len-start.result} (joins (λ es fs a b. g.met.D.Desk.more _ _ _ _ _ a b)
    (λ es s ran a. (g.met.D.Desk.follows _ _ es s ran a).1)) inv.2 x e c.requires.apart inv.3 (search rules) in
    let had = c.requires.sound in let es = inv.0 ++ x.part.events in
    let so = z.joint.claims had.2.0 had.0 had.1 had.2.1 in (
      played es had.0,
      (g.met.D.Desk.follows _ _ es had.0 z.joint.ran had.1).1,
      (
        had.2.0,
        so.1,
        subst (λ (l : List Former). All (IsHeldAt (played es had.0)) l) (sym z.rest)
            (λ k d l. (so.0.taken k d l).at),
      ),
    )

pub returns-then-not-claim_slot-clause-claims : goal.returns-then-not-claim_slot-clause-claims
returns-then-not-claim_slot-clause-claims g c =
    let inv = c.loop-slot.invariant in let x = c.if-not-claim_slot.ensures.claims in
    let i = c.loop-slot.slot-index in let span = c.args.span.now in
    let e = ap (λ (l : List (Option ℕ)). get_or l i None) c.slots-slot-items.ensures.slots in
    let z = to_undo {runsC = λ fs. g.D.Desk.run c.args.desk.now fs c.claim_slot.new.desk} {span = span}
    {old = c.args.formers.now.items} {start = c.len-start.result} (joins (λ es fs a b. g.met.D.Desk.more _ _ _ _ _ a b)
    (λ es s ran a. (g.met.D.Desk.follows _ _ es s ran a).1)) inv.2 x e c.requires.apart inv.3 (search rules) in
    let b = subst (λ (l : List Former). GivesBack (λ es. g.D.Desk.run c.claim_slot.new.desk es c.undo.new.desk)
    (λ s. g.D.Desk.shows c.claim_slot.new.desk s) l) z.rest c.undo.ensures.back in
    let es = inv.0 ++ x.part.events in
    let all : Gathers (λ fs. g.D.Desk.run c.args.desk.now fs c.undo.new.desk)
    (λ s. g.D.Desk.shows c.args.desk.now s) (HasBelow span (i + 1)) (λ h. ⊥) (es ++ b.events) [] =
    gathers_back _ _ _ _ _ _ _ es (inv.1 ++ x.more) z.joint b (joins (λ es fs a b. g.met.D.Desk.more _ _ _ _ _ a b)
    (λ es s ran a. (g.met.D.Desk.follows _ _ es s ran a).1)) in
    let held = x.part.done.0.1 in record {
      more = [];
      noted = c.undo.ensures.formers ∙ z.kept ∙ sym (append-nil c.args.formers.now.items);
      each_once = all.each_once;
      part = record {
        events = es ++ b.events;
        ran = all.ran;
        touches = touches_more (HasBelow span (i + 1)) (SpanHas span) (λ p. ⊥) (λ p. ⊥)
            (es ++ b.events)
            (below_has span (i + 1)) (λ p y. y) all.touches;
        first = all.first;
        done = (
          (
            refl,
            (
              held.0,
              held.1,
              (i, sym e ∙ held.2),
              found_more held.0 held.1 es b.events (found_after held.0 held.1 inv.0 x.part.events held.3)
                  (b.done.0 held.0),
              held.4,
            ),
          ),
          all.claims,
        );
      };
    }

pub loop-slot-preserved : goal.loop-slot-preserved
loop-slot-preserved g c =
    let inv = c.loop-slot.invariant in let x = c.if-not-claim_slot.ensures.claims in
    let i = c.loop-slot.slot-index in let span = c.args.span.now in
    let slot = get_or c.slots-slot-items.result.now i None in
    let e = ap (λ (l : List (Option ℕ)). get_or l i None) c.slots-slot-items.ensures.slots in (
      inv.0 ++ x.part.events,
      inv.1 ++ x.more,
      slot_succeeded _ _ _ _ _ span i slot c.loop-slot.formers.items c.claim_slot.new.formers.items
          inv.0 inv.1 inv.2 x e c.requires.apart (joins (λ es fs a b. g.met.D.Desk.more _ _ _ _ _ a b)
          (λ es s ran a. (g.met.D.Desk.follows _ _ es s ran a).1)),
      x.noted ∙ ap (λ (l : List Former). l ++ x.more) inv.3
          ∙ append_assoc c.args.formers.now.items inv.1 x.more,
      omega (arith, inv.4, c.claim_slot.ensures.capacity),
      omega (arith, inv.5, c.claim_slot.ensures.more),
      noted_more span.slots i slot x.part.events inv.1 x.more inv.6 x.part.done.0 e
          (let n = ap (λ (l : List (Option ℕ)). length l) c.slots-slot-items.ensures.slots in
          omega (arith, c.loop-slot-test.true, n)),
    )

pub returns-clause-claims : goal.returns-clause-claims
returns-clause-claims g c =
    let inv = c.loop-slot.invariant in let i = c.loop-slot.slot-index in
    let span = c.args.span.now in
    let all = ap (λ (l : List (Option ℕ)). length l) c.slots-slot-items.ensures.slots in record {
      more = inv.1;
      noted = inv.3;
      each_once = inv.2.each_once;
      part = record {
        events = inv.0;
        ran = inv.2.ran;
        touches = touches_more (HasBelow span i) (SpanHas span) (λ p. ⊥) (λ p. ⊥) inv.0
            (below_has span i) (λ p y. y) inv.2.touches;
        first = inv.2.first;
        done = (
          (
            record {
              all = λ h has. inv.2.of.all h (below_all span i h (search rules) has);
              only = λ k d l. below_has span i (get_or inv.1 k d).handle (inv.2.of.only k d l);
            },
            inv.6 ∙ ap objects_in (take_all i span.slots (search rules)),
          ),
          inv.2.claims,
        );
      };
    }

pub undo-requires-clause-within : goal.undo-requires-clause-within
undo-requires-clause-within g c =
    let more = c.claim_slot.ensures.claims in let inv = c.loop-slot.invariant in omega (
      arith,
      c.len-start.ensures,
      ap (λ (l : List Former). length l) more.noted,
      length-append c.loop-slot.formers.items more.more,
      ap (λ (l : List Former). length l) inv.3,
      length-append c.args.formers.now.items inv.1,
    )
