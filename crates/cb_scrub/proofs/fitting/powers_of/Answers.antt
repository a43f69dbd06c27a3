use Rattle.std.proofs.Common.{◌∙◌}
use Rattle.cb_scrub.proofs.FittingLaws.{powers_listed}
use Rattle.cb_scrub.proofs.fitting.powers_of.Goals as goal

pub returns-clause-powers : goal.returns-clause-powers
returns-clause-powers c =
    powers_listed c.args.position c.of.result c.of-2.result c.of-3.result c.of-4.result (c.of.ensures ∙ c.pow.ensures) (c.of-2.ensures ∙ c.pow-2.ensures) (c.of-3.ensures ∙ c.pow-3.ensures) (c.of-4.ensures ∙ c.pow-4.ensures)
