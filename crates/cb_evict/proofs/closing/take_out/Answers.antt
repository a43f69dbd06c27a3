use Rattle.std.proofs.Common.{◌≡◌, rules, length, sym, ap, ◌∙◌, subst, arith}
use Rattle.cb_class.specs.Class.{IsClass}
use Rattle.cb_frame.specs.FreeFrames.{with_run_given}
use Rattle.cb_world.specs.FarState.{pages_at}
use Rattle.cb_evict.proofs.Homing.{slots_below, slots_apart, span_few}
use Rattle.cb_evict.proofs.closing.take_out.Goals as goal

pub pages-count-requires : goal.pages-count-requires
pages-count-requires c = subst IsClass (sym c.class.ensures.class) c.class.ensures.valid.in_table

pub give_run-requires-clause-in_range : goal.give_run-requires-clause-in_range
give_run-requires-clause-in_range c =
    let many : c.pages-count.result ≡ pages_at c.args.spans.now c.args.frame = search rules in
    omega (arith, many, c.requires.within.0)

pub give_run-requires-clause-taken : goal.give_run-requires-clause-taken
give_run-requires-clause-taken c = λ g from to.
    let many : c.pages-count.result ≡ pages_at c.args.spans.now c.args.frame = search rules in
    c.requires.busy g from (omega (arith, many, to))

pub returns-clause-free : goal.returns-clause-free
returns-clause-free c =
    let many : c.pages-count.result ≡ pages_at c.args.spans.now c.args.frame = search rules in
    c.give_run.ensures.given ∙ ap (with_run_given c.args.free.now c.args.frame) many

pub put_homes-requires-clause-below : goal.put_homes-requires-clause-below
put_homes-requires-clause-below c =
    slots_below c.args.spans.now c.args.frame (length c.args.homes.now) c.slots.result.now
    c.requires.unique (search rules)

pub put_homes-requires-clause-apart : goal.put_homes-requires-clause-apart
put_homes-requires-clause-apart c =
    slots_apart c.args.spans.now c.args.frame (length c.args.homes.now) c.slots.result.now
    c.requires.unique (search rules)

pub put_homes-requires-clause-few : goal.put_homes-requires-clause-few
put_homes-requires-clause-few c = span_few _ c.slots.result.now c.slots.ensures.slots c.slots.ensures.valid
