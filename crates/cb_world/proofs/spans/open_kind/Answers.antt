use Rattle.cb_world.proofs.OpenSpans.{kind_when_full, kind_when_open}
use Rattle.cb_world.proofs.spans.open_kind.Goals as goal

pub returns-then-is_full-clause-kind : goal.returns-then-is_full-clause-kind
returns-then-is_full-clause-kind c =
    kind_when_full c.args.span.now c.in-Some.span c.in-Some.is
    (c.is_full.ensures.0 c.if-is_full.true)

pub returns-clause-kind : goal.returns-clause-kind
returns-clause-kind c =
    kind_when_open c.args.span.now c.in-Some.span c.class.result c.temp.result c.kind_of.result
    c.in-Some.is (λ full. let yes' = c.is_full.ensures.1 full in let no' =
    c.if-is_full.false in absurd (cc))
    c.class.ensures.class c.temp.ensures c.kind_of.ensures.kind
