use Rattle.cb_scrub.proofs.Telling.{later_wrong, later_zero}
use Rattle.cb_scrub.proofs.finding.first_wrong_column.Goals as goal

pub returns-clause-wrong : goal.returns-clause-wrong
returns-clause-wrong c =
    later_wrong c.args.r c.zero_front-from.result c.args.len c.args.rows.now c.first_wrong_from.result c.zero_front-from.ensures c.first_wrong_from.ensures.wrong

pub returns-clause-none : goal.returns-clause-none
returns-clause-none c =
    later_zero c.args.r c.zero_front-from.result c.args.len c.args.rows.now c.first_wrong_from.result c.zero_front-from.ensures c.first_wrong_from.ensures.none
