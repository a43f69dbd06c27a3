use Rattle.cb_shared.specs.Passes.{record_of}
use Rattle.cb_shared.specs.Recalls.{first_version_of}
use Rattle.cb_farmap.specs.Calls.{trouble}
use Rattle.cb_farmap.proofs.Calm.{read_calm}
use Rattle.cb_farmap.proofs.Going.{goes_read}
use Rattle.cb_farmap.proofs.Keeping.{bytes_told, knows_it}
use Rattle.cb_farmap.proofs.object.read_kept.Goals as goal

pub read-read-requires-clause-knows : goal.read-read-requires-clause-knows
read-read-requires-clause-knows g c =
    knows_it (record_of c.args.pass.now) c.args.kept c.requires.object

pub returns-clause-goes : goal.returns-clause-goes
returns-clause-goes g c = goes_read c.args.shared.now.config (first_version_of c.args.shared.now)
    c.args.kept (record_of c.args.pass.now) (record_of c.read-read.new.pass)
    (record_of c.recall.new.pass) c.recall.ensures.same c.read-read.result
    (trouble c.bytes_read.result) c.bytes_read.ensures.tells c.read-read.ensures.read
    c.read-read.ensures.error c.read-read.ensures.jobs

pub returns-clause-bytes : goal.returns-clause-bytes
returns-clause-bytes g c = bytes_told c.args.shared.now.config c.args.kept
    (record_of c.args.pass.now) (record_of c.read-read.new.pass) (record_of c.recall.new.pass)
    c.read-read.result c.bytes_read.result c.read-read.ensures.read c.recall.ensures.same
    c.recall.ensures.own.stands c.requires.object c.bytes_read.ensures.bytes

pub returns-clause-calm : goal.returns-clause-calm
returns-clause-calm g c sole loose = read_calm c.args.shared.now.config c.args.kept
    (record_of c.args.pass.now) (record_of c.read-read.new.pass) (record_of c.recall.new.pass) sole
    c.requires.of.rest.fresh c.requires.object c.recall.ensures.same c.recall.ensures.own.stands
    c.read-read.result (trouble c.bytes_read.result) c.bytes_read.ensures.tells
    c.read-read.ensures.read
