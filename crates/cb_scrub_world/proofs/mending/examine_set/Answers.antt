use Rattle.cb_scrub_world.proofs.After.{made_right_if_ok}
use Rattle.cb_scrub_world.proofs.mending.examine_set.Goals as goal

pub returns-clause-right : goal.returns-clause-right
returns-clause-right c = λ distinct.
    made_right_if_ok c.args.nodes.now c.examine_rows.new.nodes c.args.set.now c.examine_rows.result c.requires.range distinct c.requires.stand c.examine_rows.ensures.examined c.examine_rows.ensures.bytes
