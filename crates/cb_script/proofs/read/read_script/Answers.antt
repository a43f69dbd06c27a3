use Rattle.cb_script.proofs.OneReading.{only_fault, only_script}
use Rattle.cb_script.proofs.read.read_script.Goals as goal

pub returns-clause-only : goal.returns-clause-only
returns-clause-only c = λ s spells. only_script c.args.bytes.now c.args.mode c.script_of.result s c.script_of.ensures spells

pub returns-clause-first : goal.returns-clause-first
returns-clause-first c = λ line reason first. only_fault c.args.bytes.now c.args.mode c.script_of.result line reason c.script_of.ensures first
