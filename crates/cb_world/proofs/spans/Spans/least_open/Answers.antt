use Rattle.std.proofs.Common.{rules, sym, ◌∙◌}
use Rattle.cb_world.specs.OpenSpans.{IsIndex}
use Rattle.cb_world.proofs.OpenSpans.{looks_on, looks_on_past, looks_no_more}
use Rattle.cb_world.proofs.spans.Spans.least_open.Goals as goal

pub returns-in_default-clause-none : goal.returns-in_default-clause-none
returns-in_default-clause-none c =
    let index : IsIndex c.args.self.now c.self.inside.index =
    rw (sym c.self.view_is) c.self.invariant in
    looks_no_more c.args.self.now c.self.inside.index c.args.class c.args.temp c.args.except.now
    c.kind_of-kind.result c.loop-start.start index c.kind_of-kind.ensures.below
    c.kind_of-kind.ensures.kind c.loop-start.invariant
    (sym c.least_from.ensures.least ∙ (search rules))

pub returns-then-not-is_among-clause-found : goal.returns-then-not-is_among-clause-found
returns-then-not-is_among-clause-found c =
    let index : IsIndex c.args.self.now c.self.inside.index =
    rw (sym c.self.view_is) c.self.invariant in
    let found =
    looks_on c.args.self.now c.self.inside.index c.args.class c.args.temp c.args.except.now
    c.kind_of-kind.result c.loop-start.start c.in-Some.frame index c.kind_of-kind.ensures.below
    c.kind_of-kind.ensures.kind c.loop-start.invariant (sym c.least_from.ensures.least
    ∙ c.in-Some.is) in (
      found.0,
      λ among. let yes' = c.is_among.ensures.1 among in let no' =
          c.if-not-is_among.true in absurd (cc),
    )

pub returns-then-not-is_among-clause-least : goal.returns-then-not-is_among-clause-least
returns-then-not-is_among-clause-least c =
    let index : IsIndex c.args.self.now c.self.inside.index =
    rw (sym c.self.view_is) c.self.invariant in
    (looks_on c.args.self.now c.self.inside.index c.args.class c.args.temp c.args.except.now
    c.kind_of-kind.result c.loop-start.start c.in-Some.frame index c.kind_of-kind.ensures.below
    c.kind_of-kind.ensures.kind c.loop-start.invariant (sym c.least_from.ensures.least
    ∙ c.in-Some.is)).1

pub loop-start-preserved : goal.loop-start-preserved
loop-start-preserved c =
    let index : IsIndex c.args.self.now c.self.inside.index =
    rw (sym c.self.view_is) c.self.invariant in
    looks_on_past c.args.self.now c.self.inside.index c.args.class c.args.temp c.args.except.now
    c.kind_of-kind.result c.loop-start.start c.in-Some.frame index c.kind_of-kind.ensures.below
    c.kind_of-kind.ensures.kind c.loop-start.invariant (sym c.least_from.ensures.least
    ∙ c.in-Some.is)
    (c.is_among.ensures.0 c.if-not-is_among.false)
