use Rattle.std.proofs.Common.{◌≡◌, [], length, arith}
use Rattle.cb_gf256.specs.Rows.{row_at}
use Rattle.cb_scrub.proofs.Telling.{none_told, one_wrong, none_fits, not_both}
use Rattle.cb_scrub.proofs.examining.only_wrong.Goals as goal

pub returns-then-r-lt2-clause-none : goal.returns-then-r-lt2-clause-none
returns-then-r-lt2-clause-none c p one = let two = one.parities in let few = c.if-r-lt2.true in absurd (omega arith)

pub returns-in_default-clause-none : goal.returns-in_default-clause-none
returns-in_default-clause-none c =
    let rows = c.args.rows.now in
    let h = c.requires.rows in
    let more = h.more in
    let size : c.args.len ≡ length (row_at rows 0) = let e = c.requires.lengths 0 [] (omega arith) in omega arith in
    none_told c.args.r c.args.column c.args.len c.syndrome_at-sum.result c.syndrome_at-next.result rows h size c.requires.first c.syndrome_at-sum.ensures c.syndrome_at-next.ensures
    (λ p l e. c.in_default.ensures.none p (let n = c.count.ensures in omega arith) e)

pub returns-then-fits-clause-one : goal.returns-then-fits-clause-one
returns-then-fits-clause-one c =
    let rows = c.args.rows.now in
    let h = c.requires.rows in
    let more = h.more in
    let size : c.args.len ≡ length (row_at rows 0) = let e = c.requires.lengths 0 [] (omega arith) in omega arith in
    let n = c.count.ensures in
    let below = c.in-Some.ensures.some.0 in
    one_wrong c.args.r c.in-Some.position c.args.column c.args.len rows h size (omega arith) (omega arith) c.requires.first (c.fits.ensures.0 c.if-fits.true)

pub returns-clause-none : goal.returns-clause-none
returns-clause-none c =
    let rows = c.args.rows.now in
    let h = c.requires.rows in
    let more = h.more in
    let size : c.args.len ≡ length (row_at rows 0) = let e = c.requires.lengths 0 [] (omega arith) in omega arith in
    let n = c.count.ensures in
    let told = c.in-Some.ensures.some in
    let below = told.0 in
    none_fits c.args.r c.in-Some.position c.args.column c.args.len c.syndrome_at-sum.result c.syndrome_at-next.result rows h size c.requires.first c.syndrome_at-sum.ensures c.syndrome_at-next.ensures
    (omega arith) told.1 told.2 (λ f. not_both c.fits.result (c.fits.ensures.1 f) c.if-fits.false)
