use Rattle.cb_cli.proofs.PutEnds.{at_most, behind_a_line}
use Rattle.cb_cli.proofs.output.put_end.Goals as goal

pub returns-in-Some : goal.returns-in-Some
returns-in-Some c = record {
  end = behind_a_line c.args.bytes.now c.args.done c.min.result c.requires c.min.ensures c.in-Some.last c.in-Some.ensures;
}

pub returns-in-None : goal.returns-in-None
returns-in-None c = record {
  end = at_most c.args.bytes.now c.args.done c.min.result c.requires c.min.ensures c.in-None.ensures;
}
