use Rattle.std.proofs.Common.{◌+◌, List, sym, subst, arith}
use Rattle.cb_world.specs.FarState.{FarState}
use Rattle.cb_world.specs.SetsFrom.{AreFrom}
use Rattle.cb_world.proofs.Laws.{first_from}
use Rattle.cb_compact.specs.declared.candidates.Candidate.{Candidate}
use Rattle.cb_compact.specs.Candidates.{AreFirsts, AreSeen}
use Rattle.cb_compact.proofs.Choosing.{firsts_all, firsts_to, none_seen, none_yet}
use Rattle.cb_compact.proofs.Groups.{group_cmp}
use Rattle.cb_compact.proofs.Learned.{others_all, others_to}
use Rattle.cb_compact.proofs.candidates.firsts.Goals as goal

pub loop-id-init : goal.loop-id-init
loop-id-init c = (
  0,
  subst (AreFirsts c.args.far.now 0) (sym c.new.ensures.items) (none_yet c.args.far.now),
  subst (λ (f : FarState). AreFrom f.sets 0 c.range_from-sets.result) c.far.view_is
      c.range_from-sets.ensures,
  subst (λ (l : List Candidate). AreSeen group_cmp l c.new-seen.result)
      (sym c.new.ensures.items)
      (none_seen group_cmp c.new-seen.result c.new-seen.ensures.empty),
  λ id set below. absurd (omega (arith, below)),
)

pub add_first-requires-clause-kept : goal.add_first-requires-clause-kept
add_first-requires-clause-kept c =
    let inv = c.loop-id.invariant in let far = c.args.far.now in
    let f = first_from far.sets inv.0 (c.in-Some.id.now, c.in-Some.kept.now) c.next.new.self
    (subst (AreFrom far.sets inv.0) c.in-Some.ensures.steps inv.2) in
    f.there

pub add_first-requires-clause-found : goal.add_first-requires-clause-found
add_first-requires-clause-found c =
    let inv = c.loop-id.invariant in let far = c.args.far.now in
    let f = first_from far.sets inv.0 (c.in-Some.id.now, c.in-Some.kept.now) c.next.new.self
    (subst (AreFrom far.sets inv.0) c.in-Some.ensures.steps inv.2) in
    firsts_to far inv.0 c.in-Some.id.now c.loop-id.firsts.found.items inv.1 f.above f.none

pub add_first-requires-clause-others : goal.add_first-requires-clause-others
add_first-requires-clause-others c =
    let inv = c.loop-id.invariant in let far = c.args.far.now in
    let f = first_from far.sets inv.0 (c.in-Some.id.now, c.in-Some.kept.now) c.next.new.self
    (subst (AreFrom far.sets inv.0) c.in-Some.ensures.steps inv.2) in
    others_to far inv.0 c.in-Some.id.now c.loop-id.firsts.others.items inv.4 f.none

pub add_first-requires-clause-seen : goal.add_first-requires-clause-seen
add_first-requires-clause-seen c = c.loop-id.invariant.3

pub loop-id-preserved : goal.loop-id-preserved
loop-id-preserved c =
    let inv = c.loop-id.invariant in let far = c.args.far.now in
    let f = first_from far.sets inv.0 (c.in-Some.id.now, c.in-Some.kept.now) c.next.new.self
    (subst (AreFrom far.sets inv.0) c.in-Some.ensures.steps inv.2) in (
      c.in-Some.id.now + 1,
      c.in_ok-add_first.ensures.found,
      f.more,
      c.in_ok-add_first.ensures.seen,
      c.in_ok-add_first.ensures.others,
    )

pub returns : goal.returns
returns c =
    let inv = c.loop-id.invariant in let s = c.requires.sound in let far = c.args.far.now in
    let rest = subst (AreFrom far.sets inv.0) c.in_default.ensures.steps.0 inv.2 in record {
      found = firsts_all s.0 far inv.0 c.loop-id.firsts.found.items s.1 inv.1 rest;
      others = others_all far inv.0 far.counts.sets c.loop-id.firsts.others.items inv.4 rest;
    }
