use Rattle.std.proofs.Common.{ℕ, get_or, sym, ap, ◌∙◌, arith, inl, inr}
use Rattle.std.proofs.lemmas.Bool.{cases_eq}
use Rattle.cb_compact.proofs.Laws.{takes_none}
use Rattle.cb_local.proofs.putting.place_of.Goals as goal

pub loop-i-init : goal.loop-i-init
loop-i-init c k l e = omega (arith, l)

pub loop-i-preserved : goal.loop-i-preserved
loop-i-preserved c k l e = elim (cases_eq k c.loop-i.i) [
  | inl here ↦ c.if-from-position.false (c.from.ensures
      ∙ ap (λ (i : ℕ). get_or c.args.taken.now i 0) (sym here) ∙ e)
  | inr off ↦ c.loop-i.invariant k (omega (arith, l, off)) e
]

pub returns-clause-none : goal.returns-clause-none
returns-clause-none c =
    takes_none c.args.taken.now c.args.position (λ k below e. c.loop-i.invariant k
    (let l = c.loop-i-test.false in omega (arith, l, below)) e)
