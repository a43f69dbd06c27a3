use Rattle.cb_evict.proofs.Composed.{any_err, any_err}
use Rattle.std.proofs.lemmas.Result.{IfOk-from_err}
use Rattle.std.proofs.Common.{refl, arith, refl, arith}
use Rattle.cb_evict.proofs.beginning.reserve.Goals as goal

pub same-far-inside : goal.same-far-inside
same-far-inside c = refl

pub same-far : goal.same-far
same-far c = refl

pub returns-in_err-parities-clause-err : goal.returns-in_err-parities-clause-err
returns-in_err-parities-clause-err c = any_err _ _ refl

pub returns-in_err-parities-clause-state : goal.returns-in_err-parities-clause-state
returns-in_err-parities-clause-state c = IfOk-from_err _ _ c.from_residual.ensures.0

pub returns-in_err-parities-clause-parities : goal.returns-in_err-parities-clause-parities
returns-in_err-parities-clause-parities c = IfOk-from_err _ _ c.from_residual.ensures.0

pub next_set-requires : goal.next_set-requires
next_set-requires c =
    let k = c.requires.range.data_most in let r = c.requires.range.parities_most in
    let some = c.requires.range.parities_least in
    record {
      spans = record {
        there = c.requires.there;
        few = omega (arith, k, r, some);
        count = omega (arith, k, r, some);
      };
    }

pub same-far-inside-in-Break-branch-2 : goal.same-far-inside-in-Break-branch-2
same-far-inside-in-Break-branch-2 c = refl

pub same-far-in-Break-branch-2 : goal.same-far-in-Break-branch-2
same-far-in-Break-branch-2 c = refl

pub returns-in_err-set-clause-err : goal.returns-in_err-set-clause-err
returns-in_err-set-clause-err c = any_err _ _ refl

pub returns-in_err-set-clause-state : goal.returns-in_err-set-clause-state
returns-in_err-set-clause-state c = IfOk-from_err _ _ c.from_residual-in_err-set.ensures.0

pub returns-in_err-set-clause-parities : goal.returns-in_err-set-clause-parities
returns-in_err-set-clause-parities c = IfOk-from_err _ _ c.from_residual-in_err-set.ensures.0

pub returns-in_err-put-clause-state : goal.returns-in_err-put-clause-state
returns-in_err-put-clause-state c = IfOk-from_err _ _ c.from_residual-in_err-put.ensures.0

pub returns-in_err-put-clause-parities : goal.returns-in_err-put-clause-parities
returns-in_err-put-clause-parities c = IfOk-from_err _ _ c.from_residual-in_err-put.ensures.0

pub same-parities : goal.same-parities
same-parities c = refl

pub returns-clause-err : goal.returns-clause-err
returns-clause-err c = tt
