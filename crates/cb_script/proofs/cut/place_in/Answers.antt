use Rattle.cb_script.proofs.Cuts.{place_cut}
use Rattle.cb_script.proofs.cut.place_in.Goals as goal

pub returns-clause-cut : goal.returns-clause-cut
returns-clause-cut c =
    (place_cut c.args.separator c.args.bytes.now c.memchr.result c.memchr.ensures).0

pub returns-clause-within : goal.returns-clause-within
returns-clause-within c =
    (place_cut c.args.separator c.args.bytes.now c.memchr.result c.memchr.ensures).1
