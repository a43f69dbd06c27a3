use Rattle.cb_evict.proofs.Composed.{any_err, any_err}
use Rattle.std.proofs.lemmas.Result.{IfOk-from_err}
use Rattle.std.proofs.Common.{refl, arith, rules}
use Rattle.cb_evict.proofs.storing.keep_set.Goals as goal

pub same-far : goal.same-far
same-far c = refl

pub returns-in_err-parities-clause-err : goal.returns-in_err-parities-clause-err
returns-in_err-parities-clause-err c = any_err _ _ refl

pub returns-in_err-parities-clause-kept : goal.returns-in_err-parities-clause-kept
returns-in_err-parities-clause-kept c = IfOk-from_err _ _ c.from_residual.ensures.0

pub next_set-requires : goal.next_set-requires
next_set-requires c =
    let k = c.requires.range.data_most in let r = c.requires.range.parities_most in
    let some = c.requires.range.parities_least in
    record {
      spans = record {
        there = c.requires.there;
        few = omega (arith, k, r, some);
        count = omega (arith, k, r, some);
      };
    }

pub returns-in_err-set-clause-err : goal.returns-in_err-set-clause-err
returns-in_err-set-clause-err c = any_err _ _ refl

pub returns-in_err-set-clause-kept : goal.returns-in_err-set-clause-kept
returns-in_err-set-clause-kept c = IfOk-from_err _ _ c.from_residual-in_err-set.ensures.0

pub store_set-requires-clause-stores : goal.store_set-requires-clause-stores
store_set-requires-clause-stores c =
    let k = c.requires.range.data_most in let r = c.requires.range.parities_most in
    let some = c.requires.range.parities_least in record {
      count = search rules;
      few = omega (arith, k, r, some);
      can = c.requires.can;
      fits = c.requires.fits;
    }

pub store_set-requires-clause-counts : goal.store_set-requires-clause-counts
store_set-requires-clause-counts c = c.requires.counts

pub returns-clause-err : goal.returns-clause-err
returns-clause-err c = c.store_set.ensures.err
