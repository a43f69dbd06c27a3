use Rattle.std.proofs.Common.{refl, rules, inl, inr}
use Rattle.cb_evict.specs.Candidates.{SpanNames}
use Rattle.cb_evict.proofs.CallParts.{part_more}
use Rattle.cb_evict.proofs.Filling.{got_span}
use Rattle.cb_evict.proofs.Loose.{has_names, names_has, span_below, span_once}
use Rattle.cb_evict.proofs.looking.look_at.Goals as goal

pub is_loose-requires-clause-handles : goal.is_loose-requires-clause-handles
is_loose-requires-clause-handles g c =
    let there = got_span _ c.args.spans.now c.args.frame c.get.result c.unwrap-span.result
    c.get.ensures.span c.unwrap-span.ensures in
    span_below c.args.spans.now c.args.frame _ c.unwrap-span.result.now there c.requires.unique

pub is_loose-requires-clause-apart : goal.is_loose-requires-clause-apart
is_loose-requires-clause-apart g c =
    let there = got_span _ c.args.spans.now c.args.frame c.get.result c.unwrap-span.result
    c.get.ensures.span c.unwrap-span.ensures in
    span_once c.args.spans.now c.args.frame _ c.unwrap-span.result.now there c.requires.unique

pub returns-then-is_loose-clause-looks : goal.returns-then-is_loose-clause-looks
returns-then-is_loose-clause-looks g c =
    let spans = c.args.spans.now in let f = c.args.frame in let span = c.unwrap-span.result.now in
    let there = got_span _ spans f c.get.result c.unwrap-span.result
    c.get.ensures.span c.unwrap-span.ensures in
    let x = c.if-is_loose.ensures in
    part_more (SpanNames spans f) (λ p. ⊥) _ x (λ h. has_names spans f h span there) (λ p y. y) (
      x.done.0,
      inl (λ h named. x.done.1.1 h (names_has spans f h span there named), search rules),
    )

pub returns-else-is_loose-clause-looks : goal.returns-else-is_loose-clause-looks
returns-else-is_loose-clause-looks g c =
    let spans = c.args.spans.now in let f = c.args.frame in let span = c.unwrap-span.result.now in
    let there = got_span _ spans f c.get.result c.unwrap-span.result
    c.get.ensures.span c.unwrap-span.ensures in
    let x = c.if-is_loose.ensures in let held = x.done.1.1 in
    part_more (SpanNames spans f) (λ p. ⊥) _ x (λ h. has_names spans f h span there) (λ p y. y) (
      x.done.0,
      inr (
        record {
          seen = λ h named. x.done.1.0 h (names_has spans f h span there named);
          barred = (held.0, held.1, has_names spans f held.0 span there held.2, held.3, held.4);
        },
        refl,
      ),
    )
