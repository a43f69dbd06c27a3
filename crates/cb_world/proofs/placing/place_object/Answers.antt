use Rattle.std.proofs.Common.{List, Option, Some, refl, sym, ap, ◌∙◌, arith, set}
use Rattle.cb_class.specs.declared.class.Class.{Class}
use Rattle.cb_class.specs.Class.{pages_of}
use Rattle.cb_span.specs.Contents.{Contents, with_placed}
use Rattle.cb_world.specs.FarState.{FarState, span_in}
use Rattle.cb_world.proofs.Slots.{placed_in_span, room_is}
use Rattle.cb_world.proofs.placing.place_object.Goals as goal

pub slot_place-requires-clause-frame : goal.slot_place-requires-clause-frame
slot_place-requires-clause-frame c =
    let p = c.in-Some-place.ensures.placed c.in-Some-place.slot refl in
    let f = c.in-Some.frame in
    let there = sym (ap (λ (far : FarState). span_in far.spans f) c.far.view_is) ∙ p.1 in
    let x = room_is c.args.far.now c.args.class c.args.temp f c.in-Some-place.slot p.0
    c.in-Some.ensures.found there p.2 in
    let run = c.requires.frames.within f p.0 there in
    let many = ap (λ (k : Class). pages_of k) x.of_class in
    omega (arith, run, many, c.requires.frames.sized, c.requires.numbered)

pub returns-clause-placed : goal.returns-clause-placed
returns-clause-placed c =
    let p = c.in-Some-place.ensures.placed c.in-Some-place.slot refl in
    let f = c.in-Some.frame in let slot = c.in-Some-place.slot in
    let there = sym (ap (λ (far : FarState). span_in far.spans f) c.far.view_is) ∙ p.1 in
    placed_in_span c.args.far.now _ c.args.class c.args.temp c.args.handle f slot
    c.slot_place.result p.0 c.in-Some.ensures.found c.in-Some.ensures.least
    (room_is c.args.far.now c.args.class c.args.temp f slot p.0 c.in-Some.ensures.found there p.2)
    (ap (λ (far : FarState). let q : FarState = record far { spans = c.place.new.self } in q)
    c.far.view_is
    ∙ ap (λ (l : List (Option Contents)). let q : FarState =
    record c.args.far.now { spans = l } in q) (p.3
    ∙ ap (λ (far : FarState). set far.spans f (Some (with_placed p.0 slot c.args.handle)))
    c.far.view_is))
    c.slot_place.ensures.place
