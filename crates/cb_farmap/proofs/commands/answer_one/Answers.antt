use Rattle.cb_farmap.proofs.commands.answer_one.Goals as goal

pub returns-in-Push-clause-goes : goal.returns-in-Push-clause-goes
returns-in-Push-clause-goes g c = rw c.in-Push.is (c.push.ensures.goes)

pub returns-in-Set-clause-goes : goal.returns-in-Set-clause-goes
returns-in-Set-clause-goes g c = rw c.in-Set.is (c.set.ensures.goes)

pub returns-in-Get-clause-goes : goal.returns-in-Get-clause-goes
returns-in-Get-clause-goes g c = rw c.in-Get.is (c.get.ensures.goes)

pub returns-in-Pop-clause-goes : goal.returns-in-Pop-clause-goes
returns-in-Pop-clause-goes g c = rw c.in-Pop.is (c.pop.ensures.goes)

pub returns-in-Put-clause-goes : goal.returns-in-Put-clause-goes
returns-in-Put-clause-goes g c = rw c.in-Put.is (c.put.ensures.goes)

pub returns-in-Look-clause-goes : goal.returns-in-Look-clause-goes
returns-in-Look-clause-goes g c = rw c.in-Look.is (c.look.ensures.goes)

pub returns-in-Drop-clause-goes : goal.returns-in-Drop-clause-goes
returns-in-Drop-clause-goes g c = rw c.in-Drop.is (c.drop_key.ensures.goes)
