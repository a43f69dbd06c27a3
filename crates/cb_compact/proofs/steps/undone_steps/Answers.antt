use Rattle.std.proofs.Common.{ℕ, ◌+◌, List, length, set, sym, refl, ap, ◌∙◌, subst, arith}
use Rattle.cb_compact.specs.PatchStep.{is_undone}
use Rattle.cb_compact.proofs.Finding.{FoundPassing, found_more, found_not, passing}
use Rattle.cb_compact.proofs.steps.undone_steps.Goals as goal
use Rattle.cb_compact.proofs.steps.undone_steps.Goals.{then-is_undone, else-is_undone}

pub loop-position-init : goal.loop-position-init
loop-position-init c = record { size = refl; behind = omega arith; counted = refl; listed = refl }

pub bounds-found-count : goal.bounds-found-count
bounds-found-count c =
    let l = c.loop-position-test.true in let e = c.len-position-end.ensures in
    let few = c.requires in let b = c.loop-position.invariant.behind in
    let v = ap (λ q. length q.steps) c.pair.view_is in
    omega (arith, l, e, few, b, v)

pub loop-position-preserved : goal.loop-position-preserved
loop-position-preserved c =
    let f = is_undone c.args.pair.now c.args.k in let n = c.loop-position.position in
    elim c.if-is_undone.branch [
      | then-is_undone w ↦
          subst (λ (l : List ℕ). FoundPassing f (n + 1) l c.if-is_undone.count) (sym w.found-is)
          (subst (λ (k : ℕ). FoundPassing f (n + 1)
          (set c.loop-position.found c.loop-position.count n) k)
          (sym w.count-is)
          (found_more f n c.loop-position.found c.loop-position.count c.loop-position.invariant
          (let l = c.loop-position-test.true in let e = c.len-position-end.ensures in
          let few = c.requires in let v = ap (λ q. length q.steps) c.pair.view_is in
          omega (arith, l, e, few, v))
          (sym c.is_undone.ensures ∙ w.if-is_undone.true)))
      | else-is_undone w ↦
          subst (λ (l : List ℕ). FoundPassing f (n + 1) l c.if-is_undone.count) (sym w.found-is)
          (subst (λ (k : ℕ). FoundPassing f (n + 1) c.loop-position.found k) (sym w.count-is)
          (found_not f n c.loop-position.found c.loop-position.count c.loop-position.invariant
          (sym c.is_undone.ensures ∙ w.if-is_undone.false)))
    ]

pub returns : goal.returns
returns c =
    c.copy_of.ensures.items ∙ ap (λ (l : List ℕ). l) c.loop-position.invariant.listed
    ∙ ap (passing (is_undone c.args.pair.now c.args.k))
    (let l = c.loop-position-test.false in let e = c.len-position-end.ensures in
    let m = c.loop-position.auto.position-end in let v = ap (λ q. length q.steps) c.pair.view_is in
    omega (arith, l, e, m, v))
