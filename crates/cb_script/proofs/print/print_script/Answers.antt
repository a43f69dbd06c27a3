use Rattle.cb_script.proofs.Printing.{printed_long, printed_same, printed_spells}
use Rattle.cb_script.proofs.print.print_script.Goals as goal

pub returns-clause-spells : goal.returns-clause-spells
returns-clause-spells c = λ mode form allowed. printed_spells c.text_of.result mode c.args.script.now c.text_of.ensures form allowed

pub returns-clause-too_long : goal.returns-clause-too_long
returns-clause-too_long c = λ mode. printed_long c.text_of.result mode

pub returns-clause-again : goal.returns-clause-again
returns-clause-again c = λ bytes mode spells. printed_same c.text_of.result bytes mode c.args.script.now c.text_of.ensures spells
