use Rattle.std.proofs.Common.{◌∷◌, [], None, length, ap, ◌∙◌, subst}
use Rattle.cb_shared.specs.Passes.{record_of}
use Rattle.cb_shared.specs.Recalls.{first_version_of}
use Rattle.cb_farmap.specs.declared.kept.KeptObject.{KeptObject}
use Rattle.cb_farmap.specs.Calls.{AskRead, Goes}
use Rattle.cb_farmap.specs.Objects.{bytes_at}
use Rattle.cb_farmap.proofs.FindIn.{long_bytes, seeks_none, seeks_some}
use Rattle.cb_farmap.proofs.bucket.Bucket.find_in.Goals as goal

pub seek-requires-clause-long : goal.seek-requires-clause-long
seek-requires-clause-long g c = ap length (c.as_slice.ensures.items ∙ c.in_ok-bytes.ensures.bytes
    ∙ ap (bytes_at (record_of c.args.pass.now).written) c.at.ensures)
    ∙ long_bytes (record_of c.args.pass.now).written c.args.self.now c.args.o c.requires.bucket c.requires.some

pub returns-in-Some-clause-sought : goal.returns-in-Some-clause-sought
returns-in-Some-clause-sought g c = seeks_some (record_of c.args.pass.now).written c.args.self.now c.args.o
    c.min-few.result c.args.key c.in_ok-bytes.bytes c.requires.bucket c.requires.some c.min-few.ensures
    (c.in_ok-bytes.ensures.bytes ∙ ap (bytes_at (record_of c.args.pass.now).written) c.at.ensures)
    c.in-Some.i (rw c.as_slice.ensures.items at (rw c.in-Some.is at c.seek.ensures))

pub returns-in-None-clause-sought : goal.returns-in-None-clause-sought
returns-in-None-clause-sought g c = seeks_none (record_of c.args.pass.now).written c.args.self.now c.args.o
    c.min-few.result c.args.key c.in_ok-bytes.bytes c.requires.bucket c.requires.some c.min-few.ensures
    (c.in_ok-bytes.ensures.bytes ∙ ap (bytes_at (record_of c.args.pass.now).written) c.at.ensures)
    (rw c.as_slice.ensures.items at (rw c.in-None.is at c.seek.ensures))

pub returns-in-Some-clause-goes : goal.returns-in-Some-clause-goes
returns-in-Some-clause-goes g c = subst (λ (k : KeptObject). Goes c.args.shared.now.config
    (first_version_of c.args.shared.now) (AskRead k ∷ []) None (record_of c.args.pass.now)
    (record_of c.read_kept.new.pass)) c.at.ensures c.in_ok-bytes.ensures.goes

pub returns-in-None-clause-goes : goal.returns-in-None-clause-goes
returns-in-None-clause-goes g c = subst (λ (k : KeptObject). Goes c.args.shared.now.config
    (first_version_of c.args.shared.now) (AskRead k ∷ []) None (record_of c.args.pass.now)
    (record_of c.read_kept.new.pass)) c.at.ensures c.in_ok-bytes.ensures.goes
