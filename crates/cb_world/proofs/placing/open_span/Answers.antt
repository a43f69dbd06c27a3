use Rattle.std.proofs.Common.{List, Bool, Option, Some, refl, sym, ap, ◌∙◌, arith, set}
use Rattle.cb_class.specs.Class.{pages_of}
use Rattle.cb_class.proofs.Laws.{slots_at_least}
use Rattle.cb_frame.specs.FreeFrames.{with_run_taken}
use Rattle.cb_frame.specs.Runs.{least_run}
use Rattle.cb_span.specs.Contents.{Contents}
use Rattle.cb_world.specs.FarState.{FarState}
use Rattle.cb_world.proofs.Slots.{placed_in_new, first_taken}
use Rattle.cb_world.proofs.placing.open_span.Goals as goal

pub returns-then-no_run_fits-clause-placed : goal.returns-then-no_run_fits-clause-placed
returns-then-no_run_fits-clause-placed c = (
  record {
    full = c.requires.full;
    taken = c.no_run_fits.ensures.none c.if-no_run_fits.true;
  },
  refl,
)

pub slot_place-requires-clause-slot : goal.slot_place-requires-clause-slot
slot_place-requires-clause-slot c =
    omega (arith, slots_at_least c.args.class c.requires.class)

pub returns-clause-placed : goal.returns-clause-placed
returns-clause-placed c =
    let f = c.in-Some.frame in let h = c.args.handle in
    let span = first_taken c.args.class c.args.temp h c.in_ok-span.span c.place.new.self
    c.place.result c.requires.class c.in_ok-span.ensures.fresh c.place.ensures.least
    c.place.ensures.placed in
    let n = c.pages.result in
    placed_in_new c.args.far.now _ c.args.class c.args.temp h f c.slot_place.result
    c.requires.full
    (ap (least_run c.args.far.now.frames) (sym c.pages.ensures.pages)
    ∙ sym (ap (λ (far : FarState). least_run far.frames n) c.far.view_is)
    ∙ sym c.in-Some.ensures.least)
    (ap (λ (far : FarState). let q : FarState =
    record far { frames = c.take_run.new.self; spans = c.put.new.self } in q) c.far.view_is
    ∙ ap (λ (l : List Bool). let q : FarState =
    record c.args.far.now { frames = l; spans = c.put.new.self } in q) (c.in-Some.ensures.taken
    ∙ ap (λ (far : FarState). with_run_taken far.frames f n) c.far.view_is
    ∙ ap (with_run_taken c.args.far.now.frames f) c.pages.ensures.pages)
    ∙ ap (λ (l : List (Option Contents)). let q : FarState =
    record c.args.far.now {
      frames = with_run_taken c.args.far.now.frames f (pages_of c.args.class);
      spans = l;
    } in q)
    (c.put.ensures
    ∙ ap (λ (far : FarState). set far.spans f (Some c.place.new.self)) c.far.view_is
    ∙ ap (λ (x : Contents). set c.args.far.now.spans f (Some x)) span))
    c.slot_place.ensures.place
