use Rattle.cb_script.proofs.OneReading.{first_unique, same_fault, same_script, script_unique, spells_no_fault}
use Rattle.cb_script.proofs.laws.script_laws.Goals as goal

pub returns-clause-one_script : goal.returns-clause-one_script
returns-clause-one_script c = λ bytes mode s t. script_unique bytes mode s t

pub returns-clause-one_fault : goal.returns-clause-one_fault
returns-clause-one_fault c = λ bytes mode line other reason another. first_unique bytes mode line other reason another

pub returns-clause-never_both : goal.returns-clause-never_both
returns-clause-never_both c = λ bytes mode s line reason. spells_no_fault bytes mode s line reason

pub returns-clause-same_script : goal.returns-clause-same_script
returns-clause-same_script c = λ bytes mode s. same_script bytes mode s

pub returns-clause-same_fault : goal.returns-clause-same_fault
returns-clause-same_fault c = λ bytes mode line reason. same_fault bytes mode line reason
