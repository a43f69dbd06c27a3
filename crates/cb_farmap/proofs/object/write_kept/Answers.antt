use Rattle.std.proofs.Common.{◌≡◌, ◌+◌, Ok, IfOk, OnErr, None, Some, sym, subst}
use Rattle.cb_types.specs.declared.reply.Reply.TheVariants as answer
use Rattle.cb_rule.specs.Steps.{Knows}
use Rattle.cb_shared.specs.Calls.{WriteAnswers, WriteStops}
use Rattle.cb_shared.specs.Passes.{record_of}
use Rattle.cb_shared.specs.Recalls.{first_version_of}
use Rattle.cb_farmap.specs.declared.kept.KeptObject.{KeptObject}
use Rattle.cb_farmap.specs.Calls.{AskWrite, IsInOrder, Tells}
use Rattle.cb_farmap.specs.Objects.{object_at}
use Rattle.cb_farmap.proofs.Calm.{write_calm}
use Rattle.cb_farmap.proofs.Going.{goes_write}
use Rattle.cb_farmap.proofs.Keeping.{knows_it, next_tells, next_told}
use Rattle.cb_farmap.proofs.object.write_kept.Goals as goal

pub write-wrote-requires-clause-knows : goal.write-wrote-requires-clause-knows
write-wrote-requires-clause-knows g c =
    subst (λ (k : KeptObject). Knows k.handle.n (record_of c.args.pass.now))
    (sym c.at-object.ensures) (knows_it (record_of c.args.pass.now)
    (object_at c.args.kept.now c.args.o) c.requires.object)

pub unwritten-requires : goal.unwritten-requires
unwritten-requires g c = record {
  other = subst (λ (k : KeptObject). c.write-wrote.result
      ≡ Ok (answer.Version (k.version + 1)) → ⊥) (sym c.at-object.ensures)
      (c.keep_written.ensures.no c.if-keep_written.false).0;
}

pub returns-then-keep_written-clause-goes : goal.returns-then-keep_written-clause-goes
returns-then-keep_written-clause-goes g c = goes_write c.args.shared.now.config
    (first_version_of c.args.shared.now) (object_at c.args.kept.now c.args.o)
    (record_of c.args.pass.now) (record_of c.write-wrote.new.pass) (record_of c.recall.new.pass)
    c.recall.ensures.same c.write-wrote.result None c.args.at c.args.bytes.now
    (next_tells (object_at c.args.kept.now c.args.o)
    c.args.at c.args.bytes.now c.write-wrote.result
    (c.keep_written.ensures.yes c.if-keep_written.true).0)
    (subst (λ (k : KeptObject). IfOk c.write-wrote.result (λ r. WriteAnswers
    c.args.shared.now.config k.handle.n c.args.at c.args.bytes.now r (record_of c.args.pass.now)
    (record_of c.write-wrote.new.pass))) c.at-object.ensures c.write-wrote.ensures.write)
    (subst (λ (k : KeptObject). OnErr c.write-wrote.result (WriteStops c.args.shared.now.config
    k.handle.n c.args.at c.args.bytes.now (record_of c.args.pass.now)
    (record_of c.write-wrote.new.pass))) c.at-object.ensures c.write-wrote.ensures.error)
    (subst (λ (k : KeptObject). IsInOrder (AskWrite k c.args.at c.args.bytes.now)
    (record_of c.args.pass.now) (record_of c.write-wrote.new.pass)) c.at-object.ensures
    c.write-wrote.ensures.jobs)

pub returns-else-keep_written-clause-goes : goal.returns-else-keep_written-clause-goes
returns-else-keep_written-clause-goes g c = goes_write c.args.shared.now.config
    (first_version_of c.args.shared.now) (object_at c.args.kept.now c.args.o)
    (record_of c.args.pass.now) (record_of c.write-wrote.new.pass) (record_of c.recall.new.pass)
    c.recall.ensures.same c.write-wrote.result (Some c.unwritten.result)
    c.args.at c.args.bytes.now (subst (λ (k : KeptObject). Tells
    (AskWrite k c.args.at c.args.bytes.now) c.write-wrote.result (Some c.unwritten.result))
    c.at-object.ensures (c.unwritten.ensures.tells c.args.at c.args.bytes.now))
    (subst (λ (k : KeptObject). IfOk c.write-wrote.result (λ r. WriteAnswers
    c.args.shared.now.config k.handle.n c.args.at c.args.bytes.now r (record_of c.args.pass.now)
    (record_of c.write-wrote.new.pass))) c.at-object.ensures c.write-wrote.ensures.write)
    (subst (λ (k : KeptObject). OnErr c.write-wrote.result (WriteStops c.args.shared.now.config
    k.handle.n c.args.at c.args.bytes.now (record_of c.args.pass.now)
    (record_of c.write-wrote.new.pass))) c.at-object.ensures c.write-wrote.ensures.error)
    (subst (λ (k : KeptObject). IsInOrder (AskWrite k c.args.at c.args.bytes.now)
    (record_of c.args.pass.now) (record_of c.write-wrote.new.pass)) c.at-object.ensures
    c.write-wrote.ensures.jobs)

pub returns-then-keep_written-clause-wrote : goal.returns-then-keep_written-clause-wrote
returns-then-keep_written-clause-wrote g c = next_told c.args.shared.now.config
    (object_at c.args.kept.now c.args.o) c.args.at c.args.bytes.now (record_of c.args.pass.now)
    (record_of c.write-wrote.new.pass) (record_of c.recall.new.pass) c.write-wrote.result (Ok tt)
    (subst (λ (k : KeptObject). IfOk c.write-wrote.result (λ r. WriteAnswers
    c.args.shared.now.config k.handle.n c.args.at c.args.bytes.now r (record_of c.args.pass.now)
    (record_of c.write-wrote.new.pass))) c.at-object.ensures c.write-wrote.ensures.write)
    c.recall.ensures.same c.recall.ensures.own.stands c.requires.object c.requires.within
    (next_tells (object_at c.args.kept.now c.args.o)
    c.args.at c.args.bytes.now c.write-wrote.result
    (c.keep_written.ensures.yes c.if-keep_written.true).0)

pub returns-then-keep_written-clause-done : goal.returns-then-keep_written-clause-done
returns-then-keep_written-clause-done g c =
    (c.keep_written.ensures.yes c.if-keep_written.true).1

pub returns-else-keep_written-clause-stays : goal.returns-else-keep_written-clause-stays
returns-else-keep_written-clause-stays g c =
    (c.keep_written.ensures.no c.if-keep_written.false).1

pub returns-else-keep_written-clause-calm : goal.returns-else-keep_written-clause-calm
returns-else-keep_written-clause-calm g c sole loose = write_calm c.args.shared.now.config
    (object_at c.args.kept.now c.args.o) c.args.at c.args.bytes.now (record_of c.args.pass.now)
    sole c.requires.of.rest.fresh c.requires.object (record_of c.write-wrote.new.pass)
    (record_of c.recall.new.pass) c.recall.ensures.same c.recall.ensures.own.stands
    c.requires.within loose c.write-wrote.result (Some c.unwritten.result)
    (subst (λ (k : KeptObject). Tells
    (AskWrite k c.args.at c.args.bytes.now) c.write-wrote.result (Some c.unwritten.result))
    c.at-object.ensures (c.unwritten.ensures.tells c.args.at c.args.bytes.now))
    (subst (λ (k : KeptObject). IfOk c.write-wrote.result (λ r. WriteAnswers
    c.args.shared.now.config k.handle.n c.args.at c.args.bytes.now r (record_of c.args.pass.now)
    (record_of c.write-wrote.new.pass))) c.at-object.ensures c.write-wrote.ensures.write)
