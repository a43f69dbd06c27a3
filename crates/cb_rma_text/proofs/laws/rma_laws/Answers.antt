use Rattle.cb_rma_text.proofs.OneReading.{first_unique, schedule_unique, spells_no_fault}
use Rattle.cb_rma_text.proofs.laws.rma_laws.Goals as goal

pub returns-clause-one_schedule : goal.returns-clause-one_schedule
returns-clause-one_schedule c = schedule_unique

pub returns-clause-one_fault : goal.returns-clause-one_fault
returns-clause-one_fault c = first_unique

pub returns-clause-never_both : goal.returns-clause-never_both
returns-clause-never_both c = spells_no_fault
