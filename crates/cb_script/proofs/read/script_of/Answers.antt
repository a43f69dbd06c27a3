use Rattle.std.proofs.Common.{refl, arith}
use Rattle.std.proofs.lemmas.Result.{err_from_is_err_and}
use Rattle.cb_types.specs.declared.config.Field.TheVariants.{Nodes}
use Rattle.cb_script.specs.Spelling.{lines_of}
use Rattle.cb_script.proofs.Scripts.{fault_first}
use Rattle.cb_script.proofs.read.script_of.Goals as goal

pub overflow_cast-limits : goal.overflow_cast-limits
overflow_cast-limits c = let nodes = c.in-Ok.ensures.0 Nodes in omega (arith, nodes)

pub returns-in_err-lines-in-Ok : goal.returns-in_err-lines-in-Ok
returns-in_err-lines-in-Ok c =
    let e = err_from_is_err_and c.from_residual.result c.from_residual.ensures.1 in
    rw (e.1, e.2) (fault_first c.args.bytes.now c.args.mode c.first_line.result.0.now (lines_of c.first_line.result.1.now) c.if-bytes-gt-LONGEST_SCRIPT.false c.first_line.ensures.lines
    c.in-Ok.config c.in-Ok.ensures.0 c.in-Ok.ensures.1 c.in-Ok.config.nodes refl c.in_err-lines-in-Ok.field-0.0 c.in_err-lines-in-Ok.ensures)
