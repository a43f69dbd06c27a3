use Rattle.std.proofs.Common.{◌≢◌, ◌+◌, ◌<◌, [], ◌∷◌, get_or, refl, sym, subst, ◌∙◌, arith}
use Rattle.cb_erase.proofs.Walking.{Walked, walked_none, walked_present, walked_lost, walked_all, room_for_lost}
use Rattle.cb_erase.proofs.lost.lost_positions.Goals as goal
use Rattle.cb_erase.proofs.lost.lost_positions.Goals.{then-seen-present+then-from-p, else-seen-present, else-seen-present-via-then-seen-present+else-from-p, else-seen-present-via-else-seen-present}

pub loop-p-init : goal.loop-p-init
loop-p-init c = walked_none c.args.k c.args.present.now (0 ∷ (0 ∷ (0 ∷ (0 ∷ [])))) refl

pub overflow_sub-lost : goal.overflow_sub-lost
overflow_sub-lost c = c.loop-p.invariant.behind

pub bounds-lost-p : goal.bounds-lost-p
bounds-lost-p c =
    let present = c.args.present.now in
    let differs : c.loop-p.seen < c.args.k → get_or present c.loop-p.seen 0 ≢ c.loop-p.p =
    elim c.else-seen-present.branch [
      | else-seen-present-via-then-seen-present+else-from-p w ↦ λ l e. w.if-from-p.false (w.from.ensures ∙ e)
      | else-seen-present-via-else-seen-present w ↦ λ l e. absurd (omega (arith, w.if-seen-present.false, c.requires.positions.count))
    ] in
    omega (arith, room_for_lost c.args.k c.args.r present c.loop-p.lost c.loop-p.seen c.loop-p.p c.requires.positions c.loop-p.invariant c.loop-p-test.true differs, c.requires.in_range.parities_most)

pub loop-p-preserved : goal.loop-p-preserved
loop-p-preserved c =
    let k = c.args.k in
    let present = c.args.present.now in
    let seen = c.loop-p.seen in
    let p = c.loop-p.p in
    elim c.if-seen-present.branch [
      | then-seen-present+then-from-p w ↦
          subst (λ s. Walked k present c.if-seen-present.lost s (p + 1)) (sym w.seen-is)
          (subst (λ l. Walked k present l (seen + 1) (p + 1)) (sym w.lost-is)
          (walked_present (k + c.args.r) k present c.loop-p.lost seen p c.requires.positions c.loop-p.invariant (omega (arith, w.if-seen-present.true, c.requires.positions.count)) (sym w.from.ensures ∙ w.if-from-p.true)))
      | else-seen-present w ↦
          let differs : seen < k → get_or present seen 0 ≢ p =
          elim w.else-seen-present.branch [
            | else-seen-present-via-then-seen-present+else-from-p v ↦ λ l e. v.if-from-p.false (v.from.ensures ∙ e)
            | else-seen-present-via-else-seen-present v ↦ λ l e. absurd (omega (arith, v.if-seen-present.false, c.requires.positions.count))
          ] in
          subst (λ s. Walked k present c.if-seen-present.lost s (p + 1)) (sym w.seen-is)
          (subst (λ l. Walked k present l seen (p + 1)) (sym w.lost-is)
          (walked_lost k c.args.r present c.loop-p.lost seen p c.requires.in_range c.requires.positions c.loop-p.invariant c.loop-p-test.true differs))
    ]

pub returns-clause-split : goal.returns-clause-split
returns-clause-split c =
    walked_all c.args.k c.args.r c.args.present.now c.loop-p.lost c.loop-p.seen c.loop-p.p c.requires.positions c.loop-p.invariant (omega arith)
