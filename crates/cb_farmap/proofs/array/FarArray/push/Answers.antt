use Rattle.std.proofs.Common.{List, Option, Some, Ok, Err, refl, sym, ap, subst}
use Rattle.cb_shared.specs.Passes.{record_of}
use Rattle.cb_shared.specs.Recalls.{first_version_of}
use Rattle.cb_farmap.specs.declared.array.FarArray.{FarArray}
use Rattle.cb_farmap.specs.declared.kept.Cannot.{Cannot}
use Rattle.cb_farmap.specs.declared.kept.KeptObject.{KeptObject}
use Rattle.cb_farmap.specs.declared.kept.Stop.{Stop}
use Rattle.cb_farmap.specs.Arrays.{Keeps, Stays, push_plan}
use Rattle.cb_farmap.proofs.Ends.{keeps_again, push_keeps, push_ok, push_stays, stays_again, stop_is}
use Rattle.cb_farmap.proofs.array.FarArray.push.Goals as goal

abbrev with_these : FarArray → List KeptObject → Option Stop → FarArray
with_these a ks s = record a { kept = ks; stop = s }

pub returns-in-Some-clause-stays : goal.returns-in-Some-clause-stays
returns-in-Some-clause-stays g c = stays_again c.args.shared.now.config
    (first_version_of c.args.shared.now) (push_plan c.args.self.now.kept c.args.self.now.len c.args.x) (record_of c.args.pass.now)
    (record_of c.args.pass.now) c.args.self.now c.requires.array c.in-Some.stop c.in-Some.is refl
    (Some c.from.result) (ap (λ (e : Cannot). Some e) c.from.ensures)

pub returns-in-Some-clause-keeps : goal.returns-in-Some-clause-keeps
returns-in-Some-clause-keeps g c = keeps_again c.args.shared.now.config
    (first_version_of c.args.shared.now) (push_plan c.args.self.now.kept c.args.self.now.len c.args.x) (record_of c.args.pass.now)
    (record_of c.args.pass.now) c.args.self.now c.requires.array c.in-Some.stop c.in-Some.is refl
    (Some c.from.result) (ap (λ (e : Cannot). Some e) c.from.ensures)

pub put_number-requires-clause-objects : goal.put_number-requires-clause-objects
put_number-requires-clause-objects g c = c.requires.array.objects

pub put_number-requires-clause-within : goal.put_number-requires-clause-within
put_number-requires-clause-within g c = c.requires.array.within

pub returns-in-Ok-clause-ok : goal.returns-in-Ok-clause-ok
returns-in-Ok-clause-ok g c = push_ok c.args.shared.now.config (first_version_of c.args.shared.now)
    (record_of c.args.pass.now) (record_of c.put_number.new.pass) c.args.self.now
    c.requires.array c.in_default.is c.args.x c.ranges.x.fits c.put_number.new.kept
    (Ok tt) (rw c.in-Ok.is at (c.put_number.ensures.goes)) (rw c.in-Ok.is at (c.put_number.ensures.put))

pub returns-in-Ok-clause-keeps : goal.returns-in-Ok-clause-keeps
returns-in-Ok-clause-keeps g c = push_keeps c.args.shared.now.config (first_version_of c.args.shared.now)
    (record_of c.args.pass.now) (record_of c.put_number.new.pass) c.args.self.now
    c.requires.array c.in_default.is c.args.x c.ranges.x.fits c.put_number.new.kept
    (Ok tt) (rw c.in-Ok.is at (c.put_number.ensures.goes)) (rw c.in-Ok.is at (c.put_number.ensures.put))
    tt (λ soles loose. rw c.in-Ok.is at (c.put_number.ensures.calm soles loose))

pub returns-in-Err-clause-stays : goal.returns-in-Err-clause-stays
returns-in-Err-clause-stays g c = subst (λ (s : Option Stop). Stays (Some c.in-Err.cannot)
    (record_of c.args.pass.now) c.args.self.now (record_of c.put_number.new.pass)
    (with_these c.args.self.now c.put_number.new.kept s))
    (sym (stop_is c.args.self.now.stop c.in-Err.cannot c.stop-self.result c.in_default.is
    c.stop-self.ensures)) (push_stays c.args.shared.now.config (first_version_of c.args.shared.now)
    (record_of c.args.pass.now) (record_of c.put_number.new.pass) c.args.self.now
    c.requires.array c.in_default.is c.args.x c.ranges.x.fits c.put_number.new.kept
    (Err c.in-Err.cannot) (rw c.in-Err.is at (c.put_number.ensures.goes))
    (rw c.in-Err.is at (c.put_number.ensures.stays)))

pub returns-in-Err-clause-keeps : goal.returns-in-Err-clause-keeps
returns-in-Err-clause-keeps g c = subst (λ (s : Option Stop). Keeps c.args.shared.now.config
    (first_version_of c.args.shared.now)
    (push_plan c.args.self.now.kept c.args.self.now.len c.args.x) (Some c.in-Err.cannot)
    (record_of c.args.pass.now) c.args.self.now (record_of c.put_number.new.pass)
    (with_these c.args.self.now c.put_number.new.kept s))
    (sym (stop_is c.args.self.now.stop c.in-Err.cannot c.stop-self.result c.in_default.is
    c.stop-self.ensures)) (push_keeps c.args.shared.now.config (first_version_of c.args.shared.now)
    (record_of c.args.pass.now) (record_of c.put_number.new.pass) c.args.self.now
    c.requires.array c.in_default.is c.args.x c.ranges.x.fits c.put_number.new.kept
    (Err c.in-Err.cannot) (rw c.in-Err.is at (c.put_number.ensures.goes)) tt
    (rw c.in-Err.is at (c.put_number.ensures.stays))
    (λ soles loose. rw c.in-Err.is at (c.put_number.ensures.calm soles loose)))
