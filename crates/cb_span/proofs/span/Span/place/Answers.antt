use Rattle.std.proofs.Common.{◌≡◌, ◌<◌, Some, is_none, ap, refl, sym, ◌∙◌, arith, rules}
use Rattle.std.specs.List.{position}
use Rattle.cb_span.specs.Contents.{Contents, least_empty, span_of}
use Rattle.cb_span.proofs.Cursor.{IsKept-with_placed, least_empty-lt}
use Rattle.cb_span.proofs.Laws.{least_empty_full, live_count-le, slots-le}
use Rattle.cb_span.proofs.span.Span.place.Goals as goal

pub returns-then-is_full-clause-least : goal.returns-then-is_full-clause-least
returns-then-is_full-clause-least c =
    sym (least_empty_full c.args.self.now (c.if-is_full.ensures.0 refl))

pub overflow_add-self : goal.overflow_add-self
overflow_add-self c =
    let span : Contents =
    span_of c.self.inside.class c.self.inside.temp c.self.inside.slots.items in
    let small = slots-le span c.self.invariant.valid in
    let most = live_count-le span in
    let room : c.self.inside.live < 257 = omega (arith, small, most, c.self.invariant.counted) in
    search (rules, room)

pub overflow_cast-self : goal.overflow_cast-self
overflow_cast-self c =
    let span : Contents =
    span_of c.self.inside.class c.self.inside.temp c.self.inside.slots.items in
    let found : least_empty span ≡ Some c.in_ok-slot.slot =
    ap (position is_none) (sym c.as_slice.ensures.value) ∙ sym c.in_ok-slot.ensures in
    let small = least_empty-lt span c.in_ok-slot.slot c.self.invariant.valid found in
    search (rules, small)

pub overflow_add-self-2 : goal.overflow_add-self-2
overflow_add-self-2 c =
    let span : Contents =
    span_of c.self.inside.class c.self.inside.temp c.self.inside.slots.items in
    let found : least_empty span ≡ Some c.in_ok-slot.slot =
    ap (position is_none) (sym c.as_slice.ensures.value) ∙ sym c.in_ok-slot.ensures in
    let small = least_empty-lt span c.in_ok-slot.slot c.self.invariant.valid found in
    search (rules, small)

pub overflow_cast-result : goal.overflow_cast-result
overflow_cast-result c =
    let span : Contents =
    span_of c.self.inside.class c.self.inside.temp c.self.inside.slots.items in
    let found : least_empty span ≡ Some c.in_ok-slot.slot =
    ap (position is_none) (sym c.as_slice.ensures.value) ∙ sym c.in_ok-slot.ensures in
    let small = least_empty-lt span c.in_ok-slot.slot c.self.invariant.valid found in
    search (rules, small)

pub invariant_of-self : goal.invariant_of-self
invariant_of-self c =
    let span : Contents =
    span_of c.self.inside.class c.self.inside.temp c.self.inside.slots.items in
    let found : least_empty span ≡ Some c.in_ok-slot.slot =
    ap (position is_none) (sym c.as_slice.ensures.value) ∙ sym c.in_ok-slot.ensures in
    IsKept-with_placed span c.self.inside.live c.self.inside.taken_below c.in_ok-slot.slot
    c.args.handle c.self.invariant found
