use Rattle.cb_rma_text.proofs.OneReading.{only_told, only_refused}
use Rattle.cb_rma_text.proofs.run.rma_bytes.Goals as goal

pub returns-clause-yields : goal.returns-clause-yields
returns-clause-yields c = λ text told. only_told c.args.bytes.now c.judge.result text c.judge.ensures told

pub returns-clause-refused : goal.returns-clause-refused
returns-clause-refused c = λ text refused. only_refused c.args.bytes.now c.judge.result text c.judge.ensures refused
