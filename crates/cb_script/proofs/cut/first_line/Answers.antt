use Rattle.cb_script.proofs.Cuts.{last_line, line_then}
use Rattle.cb_script.proofs.cut.first_line.Goals as goal

pub returns-in-Some-clause-lines : goal.returns-in-Some-clause-lines
returns-in-Some-clause-lines c = line_then c.args.text.now c.in-Some.parts.0.now c.in-Some.parts.1.now c.in-Some.ensures.cut

pub returns-in-None : goal.returns-in-None
returns-in-None c =
    let last = last_line c.args.text.now c.requires c.in-None.ensures.cut in
    record { lines = last.0; shorter = last.1 }
