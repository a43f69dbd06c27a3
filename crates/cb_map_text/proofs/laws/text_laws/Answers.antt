use Rattle.cb_map_text.proofs.OneReading.{first_unique, spells_no_fault, text_unique}
use Rattle.cb_map_text.proofs.laws.text_laws.Goals as goal

pub returns-clause-one_text : goal.returns-clause-one_text
returns-clause-one_text c = text_unique

pub returns-clause-one_fault : goal.returns-clause-one_fault
returns-clause-one_fault c = first_unique

pub returns-clause-never_both : goal.returns-clause-never_both
returns-clause-never_both c = spells_no_fault
