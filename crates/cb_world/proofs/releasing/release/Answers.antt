use Rattle.std.proofs.Common.{ℕ, ◌<◌, List, Option, None, length, set, sym, ap, ◌∙◌, subst, arith}
use Rattle.cb_class.specs.declared.class.Class.{Class}
use Rattle.cb_class.specs.Class.{pages_of}
use Rattle.cb_span.specs.Contents.{Contents}
use Rattle.cb_world.specs.FarState.{span_in, class_of, class_in}
use Rattle.std.specs.Option.{IfSome}
use Rattle.cb_world.proofs.SlotFinding.{IsFoundAt, TellsHolder, class_is, frame_is, known_class, left_last, left_more, none_found, place_behind, slot_is}
use Rattle.cb_world.proofs.releasing.release.Goals as goal

pub returns-in_default-clause-spans : goal.returns-in_default-clause-spans
returns-in_default-clause-spans c = λ f slot span x. absurd
    (none_found _ _ c.args.place f slot span c.holder.result x (subst (λ (i : ℕ). TellsHolder c.args.spans.now i c.holder.result) c.place_frame.ensures
    c.holder.ensures.holder) c.in_default.not-Some)

pub returns-in_default-clause-frames : goal.returns-in_default-clause-frames
returns-in_default-clause-frames c = λ f slot span x. absurd
    (none_found _ _ c.args.place f slot span c.holder.result x (subst (λ (i : ℕ). TellsHolder c.args.spans.now i c.holder.result) c.place_frame.ensures
    c.holder.ensures.holder) c.in_default.not-Some)

pub returns-in_default-class-clause-spans : goal.returns-in_default-class-clause-spans
returns-in_default-class-clause-spans c = λ f slot span x.
    let here = frame_is _ _ c.args.place f slot c.in-Some.frame span c.holder.result x (subst (λ (i : ℕ). TellsHolder c.args.spans.now i c.holder.result) c.place_frame.ensures
    c.holder.ensures.holder)
    c.in-Some.is in
    absurd (c.in_default-class.not-Some span.class
    (c.class.ensures.class ∙ ap (class_in c.args.spans.now) here ∙ ap class_of x.there))

pub returns-in_default-class-clause-frames : goal.returns-in_default-class-clause-frames
returns-in_default-class-clause-frames c = λ f slot span x.
    let here = frame_is _ _ c.args.place f slot c.in-Some.frame span c.holder.result x (subst (λ (i : ℕ). TellsHolder c.args.spans.now i c.holder.result) c.place_frame.ensures
    c.holder.ensures.holder)
    c.in-Some.is in
    absurd (c.in_default-class.not-Some span.class
    (c.class.ensures.class ∙ ap (class_in c.args.spans.now) here ∙ ap class_of x.there))

pub place_slot-requires-clause-class : goal.place_slot-requires-clause-class
place_slot-requires-clause-class c = let x = c.requires.slot in
    let at : IsFoundAt c.args.spans.now c.args.place c.in-Some.frame c.in-Some-class.class = record {
      found = c.holder.result;
      held = subst (λ (i : ℕ). TellsHolder c.args.spans.now i c.holder.result)
          c.place_frame.ensures c.holder.ensures.holder;
      framed = c.in-Some.is;
      classed = sym c.class.ensures.class ∙ c.in-Some-class.is;
    } in
    known_class _ _ c.args.place x.0 x.1 c.in-Some.frame x.2 c.in-Some-class.class x.3 at

pub place_slot-requires-clause-behind : goal.place_slot-requires-clause-behind
place_slot-requires-clause-behind c = let x = c.requires.slot in
    let at : IsFoundAt c.args.spans.now c.args.place c.in-Some.frame c.in-Some-class.class = record {
      found = c.holder.result;
      held = subst (λ (i : ℕ). TellsHolder c.args.spans.now i c.holder.result)
          c.place_frame.ensures c.holder.ensures.holder;
      framed = c.in-Some.is;
      classed = sym c.class.ensures.class ∙ c.in-Some-class.is;
    } in
    let here = frame_is _ _ c.args.place x.0 x.1 c.in-Some.frame x.2 at.found x.3 at.held at.framed in
    let behind = place_behind _ _ c.args.place x.0 x.1 x.2 x.3 in omega (arith, here, behind)

pub clear-requires-clause-slot : goal.clear-requires-clause-slot
clear-requires-clause-slot c = let x = c.requires.slot in
    let at : IsFoundAt c.args.spans.now c.args.place c.in-Some.frame c.in-Some-class.class = record {
      found = c.holder.result;
      held = subst (λ (i : ℕ). TellsHolder c.args.spans.now i c.holder.result)
          c.place_frame.ensures c.holder.ensures.holder;
      framed = c.in-Some.is;
      classed = sym c.class.ensures.class ∙ c.in-Some-class.is;
    } in
    let here = frame_is _ _ c.args.place x.0 x.1 c.in-Some.frame x.2 at.found x.3 at.held at.framed in
    let there = slot_is _ _ c.args.place x.0 x.1 c.in-Some.frame c.place_slot.result x.2
    c.in-Some-class.class x.3 at c.place_slot.ensures in
    subst (λ (o : Option Contents). IfSome o (λ span. c.place_slot.result < length span.slots))
    (sym (ap (span_in c.args.spans.now) here ∙ x.3.there))
    (subst (λ (i : ℕ). i < length x.2.slots) (sym there) x.3.inside)

pub pages-requires : goal.pages-requires
pages-requires c = let x = c.requires.slot in
    let at : IsFoundAt c.args.spans.now c.args.place c.in-Some.frame c.in-Some-class.class = record {
      found = c.holder.result;
      held = subst (λ (i : ℕ). TellsHolder c.args.spans.now i c.holder.result)
          c.place_frame.ensures c.holder.ensures.holder;
      framed = c.in-Some.is;
      classed = sym c.class.ensures.class ∙ c.in-Some-class.is;
    } in
    known_class _ _ c.args.place x.0 x.1 c.in-Some.frame x.2 c.in-Some-class.class x.3 at

pub give_run-requires-clause-in_range : goal.give_run-requires-clause-in_range
give_run-requires-clause-in_range c = let x = c.requires.slot in
    let at : IsFoundAt c.args.spans.now c.args.place c.in-Some.frame c.in-Some-class.class = record {
      found = c.holder.result;
      held = subst (λ (i : ℕ). TellsHolder c.args.spans.now i c.holder.result)
          c.place_frame.ensures c.holder.ensures.holder;
      framed = c.in-Some.is;
      classed = sym c.class.ensures.class ∙ c.in-Some-class.is;
    } in
    let here = frame_is _ _ c.args.place x.0 x.1 c.in-Some.frame x.2 at.found x.3 at.held at.framed in
    let many = c.pages.ensures.pages ∙ ap (λ (k : Class). pages_of k)
    (class_is _ _ c.args.place x.0 x.1 c.in-Some.frame x.2 c.in-Some-class.class x.3 at) in
    omega (arith, here, many, x.3.counted)

pub give_run-requires-clause-taken : goal.give_run-requires-clause-taken
give_run-requires-clause-taken c = λ g from to free. let x = c.requires.slot in
    let at : IsFoundAt c.args.spans.now c.args.place c.in-Some.frame c.in-Some-class.class = record {
      found = c.holder.result;
      held = subst (λ (i : ℕ). TellsHolder c.args.spans.now i c.holder.result)
          c.place_frame.ensures c.holder.ensures.holder;
      framed = c.in-Some.is;
      classed = sym c.class.ensures.class ∙ c.in-Some-class.is;
    } in
    let here = frame_is _ _ c.args.place x.0 x.1 c.in-Some.frame x.2 at.found x.3 at.held at.framed in
    let many = c.pages.ensures.pages ∙ ap (λ (k : Class). pages_of k)
    (class_is _ _ c.args.place x.0 x.1 c.in-Some.frame x.2 c.in-Some-class.class x.3 at) in
    x.3.busy g (omega (arith, here, from)) (omega (arith, here, many, to)) free

pub returns-then-clear-clause-spans : goal.returns-then-clear-clause-spans
returns-then-clear-clause-spans c = λ f slot span x.
    let at : IsFoundAt c.args.spans.now c.args.place c.in-Some.frame c.in-Some-class.class = record {
      found = c.holder.result;
      held = subst (λ (i : ℕ). TellsHolder c.args.spans.now i c.holder.result)
          c.place_frame.ensures c.holder.ensures.holder;
      framed = c.in-Some.is;
      classed = sym c.class.ensures.class ∙ c.in-Some-class.is;
    } in
    let frame = c.in-Some.frame in let q = c.place_slot.result in
    let here = frame_is _ _ c.args.place f slot frame span at.found x at.held at.framed in
    let there = slot_is _ _ c.args.place f slot frame q span c.in-Some-class.class x at
    c.place_slot.ensures in
    let held = ap (span_in c.args.spans.now) here ∙ x.there in
    let many = c.pages.ensures.pages ∙ ap (λ (k : Class). pages_of k)
    (class_is _ _ c.args.place f slot frame span c.in-Some-class.class x at) in
    let left = left_last c.args.frames.now c.args.spans.now f slot frame q c.pages.result span here
    there many (sym (c.clear.ensures.last span held) ∙ c.if-clear.true) in
    c.close.ensures
    ∙ ap (λ (l : List (Option Contents)). set l frame None) (c.clear.ensures.cleared span held)
    ∙ left.0

pub returns-then-clear-clause-frames : goal.returns-then-clear-clause-frames
returns-then-clear-clause-frames c = λ f slot span x.
    let at : IsFoundAt c.args.spans.now c.args.place c.in-Some.frame c.in-Some-class.class = record {
      found = c.holder.result;
      held = subst (λ (i : ℕ). TellsHolder c.args.spans.now i c.holder.result)
          c.place_frame.ensures c.holder.ensures.holder;
      framed = c.in-Some.is;
      classed = sym c.class.ensures.class ∙ c.in-Some-class.is;
    } in
    let frame = c.in-Some.frame in let q = c.place_slot.result in
    let here = frame_is _ _ c.args.place f slot frame span at.found x at.held at.framed in
    let there = slot_is _ _ c.args.place f slot frame q span c.in-Some-class.class x at
    c.place_slot.ensures in
    let held = ap (span_in c.args.spans.now) here ∙ x.there in
    let many = c.pages.ensures.pages ∙ ap (λ (k : Class). pages_of k)
    (class_is _ _ c.args.place f slot frame span c.in-Some-class.class x at) in
    let left = left_last c.args.frames.now c.args.spans.now f slot frame q c.pages.result span here
    there many (sym (c.clear.ensures.last span held) ∙ c.if-clear.true) in
    c.give_run.ensures.given ∙ left.1

pub returns-else-clear-clause-spans : goal.returns-else-clear-clause-spans
returns-else-clear-clause-spans c = λ f slot span x.
    let at : IsFoundAt c.args.spans.now c.args.place c.in-Some.frame c.in-Some-class.class = record {
      found = c.holder.result;
      held = subst (λ (i : ℕ). TellsHolder c.args.spans.now i c.holder.result)
          c.place_frame.ensures c.holder.ensures.holder;
      framed = c.in-Some.is;
      classed = sym c.class.ensures.class ∙ c.in-Some-class.is;
    } in
    let frame = c.in-Some.frame in let q = c.place_slot.result in
    let here = frame_is _ _ c.args.place f slot frame span at.found x at.held at.framed in
    let there = slot_is _ _ c.args.place f slot frame q span c.in-Some-class.class x at
    c.place_slot.ensures in
    let held = ap (span_in c.args.spans.now) here ∙ x.there in
    let left = left_more c.args.frames.now c.args.spans.now f slot frame q span here there
    (sym (c.clear.ensures.last span held) ∙ c.if-clear.false) in
    c.clear.ensures.cleared span held ∙ left.0

pub returns-else-clear-clause-frames : goal.returns-else-clear-clause-frames
returns-else-clear-clause-frames c = λ f slot span x.
    let at : IsFoundAt c.args.spans.now c.args.place c.in-Some.frame c.in-Some-class.class = record {
      found = c.holder.result;
      held = subst (λ (i : ℕ). TellsHolder c.args.spans.now i c.holder.result)
          c.place_frame.ensures c.holder.ensures.holder;
      framed = c.in-Some.is;
      classed = sym c.class.ensures.class ∙ c.in-Some-class.is;
    } in
    let frame = c.in-Some.frame in let q = c.place_slot.result in
    let here = frame_is _ _ c.args.place f slot frame span at.found x at.held at.framed in
    let there = slot_is _ _ c.args.place f slot frame q span c.in-Some-class.class x at
    c.place_slot.ensures in
    let held = ap (span_in c.args.spans.now) here ∙ x.there in
    let left = left_more c.args.frames.now c.args.spans.now f slot frame q span here there
    (sym (c.clear.ensures.last span held) ∙ c.if-clear.false) in
    left.1
