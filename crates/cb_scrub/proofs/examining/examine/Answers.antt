use Rattle.std.proofs.Common.{◌≡◌, [], length, arith}
use Rattle.cb_gf256.specs.Rows.{row_at}
use Rattle.cb_scrub.specs.declared.found.Found.TheVariants.{Clean}
use Rattle.cb_scrub.proofs.Findings.{one_finding, near_word, zeros_are_word, have_parities}
use Rattle.cb_scrub.proofs.examining.examine.Goals as goal

pub examine_from-requires-clause-rows : goal.examine_from-requires-clause-rows
examine_from-requires-clause-rows c = have_parities c.args.r c.args.rows.now c.requires.parities c.requires.rows c.row_len-len.ensures.rows

pub returns-in-None-clause-found : goal.returns-in-None-clause-found
returns-in-None-clause-found c =
    let rows = c.args.rows.now in
    let h = have_parities c.args.r rows c.requires.parities c.requires.rows c.row_len-len.ensures.rows in
    let more = h.more in
    let size : c.row_len-len.result ≡ length (row_at rows 0) = let e = c.row_len-len.ensures.length 0 [] (omega arith) in omega arith in
    zeros_are_word c.args.r c.row_len-len.result rows h size c.in-None.ensures.none

pub returns-in-None-clause-only : goal.returns-in-None-clause-only
returns-in-None-clause-only c other x =
    let rows = c.args.rows.now in
    let h = have_parities c.args.r rows c.requires.parities c.requires.rows c.row_len-len.ensures.rows in
    one_finding c.args.r rows h other Clean x (returns-in-None-clause-found c)

pub returns-in-None-clause-near : goal.returns-in-None-clause-near
returns-in-None-clause-near c p word two w =
    let rows = c.args.rows.now in
    let h = have_parities c.args.r rows c.requires.parities c.requires.rows c.row_len-len.ensures.rows in
    near_word c.args.r p rows word h two w Clean (returns-in-None-clause-found c)

pub returns-in-Some-clause-only : goal.returns-in-Some-clause-only
returns-in-Some-clause-only c other x =
    let rows = c.args.rows.now in
    let h = have_parities c.args.r rows c.requires.parities c.requires.rows c.row_len-len.ensures.rows in
    one_finding c.args.r rows h other c.examine_from.result x c.examine_from.ensures

pub returns-in-Some-clause-near : goal.returns-in-Some-clause-near
returns-in-Some-clause-near c p word two w =
    let rows = c.args.rows.now in
    let h = have_parities c.args.r rows c.requires.parities c.requires.rows c.row_len-len.ensures.rows in
    near_word c.args.r p rows word h two w c.examine_from.result c.examine_from.ensures
