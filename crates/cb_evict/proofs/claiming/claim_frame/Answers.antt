use Rattle.std.proofs.Common.{◌≡◌, ◌+◌, ◌≤◌, List, Option, length, refl, sym, ap, ◌∙◌, arith, rules, inl, inr}
use Rattle.std.proofs.lemmas.List.{length-append}
use Rattle.cb_span.specs.Contents.{Contents}
use Rattle.cb_world.specs.declared.leaving.Former.{Former}
use Rattle.cb_world.specs.Reserved.{table_of}
use Rattle.cb_evict.specs.Candidates.{SpanNames}
use Rattle.cb_evict.specs.Order.{objects_in}
use Rattle.cb_evict.proofs.CallParts.{part_more}
use Rattle.cb_evict.proofs.Filling.{got_span}
use Rattle.cb_evict.proofs.Loose.{has_names, names_has, span_below, span_once, claimed_loose, span_few_slots}
use Rattle.cb_evict.proofs.claiming.claim_frame.Goals as goal

pub claim_span-requires-clause-handles : goal.claim_span-requires-clause-handles
claim_span-requires-clause-handles g c =
    let there = got_span _ c.args.spans.now c.args.frame c.get.result c.unwrap-span.result
    c.get.ensures.span c.unwrap-span.ensures in
    span_below c.args.spans.now c.args.frame _ c.unwrap-span.result.now there c.requires.unique

pub claim_span-requires-clause-apart : goal.claim_span-requires-clause-apart
claim_span-requires-clause-apart g c =
    let there = got_span _ c.args.spans.now c.args.frame c.get.result c.unwrap-span.result
    c.get.ensures.span c.unwrap-span.ensures in
    span_once c.args.spans.now c.args.frame _ c.unwrap-span.result.now there c.requires.unique

pub claim_span-requires-clause-room : goal.claim_span-requires-clause-room
claim_span-requires-clause-room g c =
    let there = got_span _ c.args.spans.now c.args.frame c.get.result c.unwrap-span.result
    c.get.ensures.span c.unwrap-span.ensures in
    let few = span_few_slots c.args.spans.now c.args.frame c.unwrap-span.result.now there c.requires.there in
    omega (arith, few, c.requires.enough)

pub returns-then-claim_span-clause-claims : goal.returns-then-claim_span-clause-claims
returns-then-claim_span-clause-claims g c =
    let spans = c.args.spans.now in let f = c.args.frame in let span = c.unwrap-span.result.now in
    let there = got_span _ spans f c.get.result c.unwrap-span.result
    c.get.ensures.span c.unwrap-span.ensures in
    let x = c.if-claim_span.ensures.claims in let had = c.requires.sound in
    let y = x.part in let so = y.done.1 had.2.0 had.0 had.1 had.2.1 in record {
      more = x.more;
      noted = x.noted;
      each_once = x.each_once;
      part = part_more (SpanNames spans f) (λ p. ⊥) _ y (λ h. has_names spans f h span there) (λ p z. z) (
        inl (
          record {
            all = λ h named. y.done.0.0.all h (names_has spans f h span there named);
            only = λ k d l. has_names spans f _ span there (y.done.0.0.only k d l);
          },
          search rules,
          λ h named. claimed_loose y.events had.0 _ x.more so.0 h
              (y.done.0.0.all h (names_has spans f h span there named)),
          y.done.0.1 ∙ ap (λ (o : Option Contents). objects_in (table_of o)) (sym there),
        ),
        y.done.1,
      );
    }

pub returns-then-claim_span-clause-more : goal.returns-then-claim_span-clause-more
returns-then-claim_span-clause-more g c =
    let there = got_span _ c.args.spans.now c.args.frame c.get.result c.unwrap-span.result
    c.get.ensures.span c.unwrap-span.ensures in
    let few = span_few_slots c.args.spans.now c.args.frame c.unwrap-span.result.now there c.requires.there in
    let a : length c.claim_span.new.formers.items ≤ length c.args.formers.now.items + length c.unwrap-span.result.now.slots = search rules in
    let b : length c.push.new.self.items ≡ length c.args.frames.now.items + 1 = search rules in
    omega (arith, few, a, b)

pub returns-else-claim_span-clause-claims : goal.returns-else-claim_span-clause-claims
returns-else-claim_span-clause-claims g c =
    let spans = c.args.spans.now in let f = c.args.frame in let span = c.unwrap-span.result.now in
    let there = got_span _ spans f c.get.result c.unwrap-span.result
    c.get.ensures.span c.unwrap-span.ensures in
    let x = c.if-claim_span.ensures.claims in let y = x.part in let held = y.done.0.1 in record {
      more = x.more;
      noted = x.noted;
      each_once = x.each_once;
      part = part_more (SpanNames spans f) (λ p. ⊥) _ y (λ h. has_names spans f h span there) (λ p z. z) (
        inr (
          y.done.0.0,
          refl,
          (held.0, held.1, has_names spans f held.0 span there held.2, held.3, held.4),
        ),
        y.done.1,
      );
    }

pub returns-else-claim_span-clause-more : goal.returns-else-claim_span-clause-more
returns-else-claim_span-clause-more g c =
    let x = c.if-claim_span.ensures.claims in
    let n = length-append c.args.formers.now.items x.more in
    let e = ap (λ (l : List Former). length l) x.noted in
    let z = ap (λ (l : List Former). length l) x.part.done.0.0 in omega (arith, n, e, z)
