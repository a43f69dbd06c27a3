use Rattle.cb_map_text.proofs.OneReading.{only_read, only_refused}
use Rattle.cb_map_text.proofs.read.read_commands.Goals as goal

pub returns-clause-only : goal.returns-clause-only
returns-clause-only c = λ config commands spells.
    only_read c.args.bytes.now c.text_of.result config commands c.text_of.ensures spells

pub returns-clause-first : goal.returns-clause-first
returns-clause-first c = λ line first. only_refused c.args.bytes.now c.text_of.result line c.text_of.ensures first
