use Rattle.std.proofs.Common.{ℕ, ◌+◌, Some, sym, subst, arith}
use Rattle.cb_world.specs.Sets.{if_committed}
use Rattle.cb_world.specs.SetsFrom.{AreFrom}
use Rattle.cb_world.proofs.Laws.{first_from}
use Rattle.cb_rebuild.specs.declared.finding.Health.{Health}
use Rattle.cb_rebuild.specs.Finding.{HealthAt}
use Rattle.cb_rebuild.proofs.Walking.{WalkedSets, few_gone, kept_members, no_more, passed, past_drawn, weak_here}
use Rattle.cb_rebuild.proofs.finding.find_weak.Goals as goal

pub returns-then-not-is_drawn : goal.returns-then-not-is_drawn
returns-then-not-is_drawn c =
    let inv = c.loop-id.invariant in let far = c.args.far.now in
    let f = first_from far.sets inv.0 (c.in-Some.id.now, c.in-Some.kept.now) c.next.new.self
    (subst (AreFrom far.sets inv.0) c.in-Some.ensures.steps inv.2) in
    past_drawn far inv.0 c.in-Some.id.now c.loop-id.gone c.in-Some.kept.now c.next.new.self inv.1 f
    c.requires.sound.0 c.requires.sound.1 (c.is_drawn.ensures.other c.if-not-is_drawn.true)

pub kept_health-health-requires : goal.kept_health-health-requires
kept_health-health-requires c =
    let inv = c.loop-id.invariant in let far = c.args.far.now in
    let f = first_from far.sets inv.0 (c.in-Some.id.now, c.in-Some.kept.now) c.next.new.self
    (subst (AreFrom far.sets inv.0) c.in-Some.ensures.steps inv.2) in record {
      nodes = kept_members c.requires.sound.0 far c.in-Some.id.now c.in-Some.kept.now
          c.requires.sound.1 f.there;
    }

pub returns-then-is_weak : goal.returns-then-is_weak
returns-then-is_weak c =
    let inv = c.loop-id.invariant in let far = c.args.far.now in let kept = c.in-Some.kept.now in
    let f = first_from far.sets inv.0 (c.in-Some.id.now, kept) c.next.new.self
    (subst (AreFrom far.sets inv.0) c.in-Some.ensures.steps inv.2) in
    weak_here far inv.0 c.in-Some.id.now c.loop-id.gone kept c.next.new.self inv.1 f
    (c.is_drawn.ensures.drawn c.if-not-is_drawn.false)
    (subst (λ (x : Health). HealthAt far.members (if_committed (Some kept)) x)
    (c.is_weak.ensures.weak c.if-is_weak.true) c.kept_health-health.ensures)

pub overflow_add-gone : goal.overflow_add-gone
overflow_add-gone c =
    let inv = c.loop-id.invariant in let far = c.args.far.now in let id = c.in-Some.id.now in
    let f = first_from far.sets inv.0 (id, c.in-Some.kept.now) c.next.new.self
    (subst (AreFrom far.sets inv.0) c.in-Some.ensures.steps inv.2) in
    let x = passed far inv.0 id c.loop-id.gone c.in-Some.kept.now c.next.new.self inv.1 f
    c.kept_health-health.result (c.is_drawn.ensures.drawn c.if-not-is_drawn.false)
    c.kept_health-health.ensures
    (c.is_weak.ensures.other c.if-is_weak.false) in
    let few = few_gone c.requires.sound.0 far (id + 1) c.requires.sound.1 in
    let counted = x.counted in let e = c.gone_number-gone.ensures in let homes = c.requires.homes in
    omega (arith, few, counted, e, homes)

pub loop-id-preserved : goal.loop-id-preserved
loop-id-preserved c =
    let inv = c.loop-id.invariant in let far = c.args.far.now in let id = c.in-Some.id.now in
    let f = first_from far.sets inv.0 (id, c.in-Some.kept.now) c.next.new.self
    (subst (AreFrom far.sets inv.0) c.in-Some.ensures.steps inv.2) in
    let x = passed far inv.0 id c.loop-id.gone c.in-Some.kept.now c.next.new.self inv.1 f
    c.kept_health-health.result (c.is_drawn.ensures.drawn c.if-not-is_drawn.false)
    c.kept_health-health.ensures
    (c.is_weak.ensures.other c.if-is_weak.false) in (
      id + 1,
      subst (λ (n : ℕ). WalkedSets far (id + 1) (c.loop-id.gone + n))
          (sym c.gone_number-gone.ensures) x,
      f.more,
    )

pub returns : goal.returns
returns c =
    let inv = c.loop-id.invariant in
    no_more c.requires.sound.0 c.args.far.now inv.0 c.loop-id.gone c.requires.sound.1 inv.1
    (subst (AreFrom c.args.far.now.sets inv.0) c.in_default.ensures.steps.0 inv.2)
