use Rattle.std.proofs.Common.{List, Option, Some, Ok, Err, refl, sym, ap, subst}
use Rattle.cb_shared.specs.Passes.{record_of}
use Rattle.cb_shared.specs.Recalls.{first_version_of}
use Rattle.cb_farmap.specs.declared.array.FarArray.{FarArray}
use Rattle.cb_farmap.specs.declared.kept.Cannot.{Cannot}
use Rattle.cb_farmap.specs.declared.kept.KeptObject.{KeptObject}
use Rattle.cb_farmap.specs.declared.kept.Stop.{Stop}
use Rattle.cb_farmap.specs.Arrays.{Keeps, Stays, set_plan}
use Rattle.cb_farmap.proofs.Arrays.{object_in, place_in}
use Rattle.cb_farmap.proofs.Ends.{keeps_again, set_keeps, set_ok, set_stays, stays_again, stop_is}
use Rattle.cb_farmap.proofs.array.FarArray.set.Goals as goal

abbrev with_these : FarArray → List KeptObject → Option Stop → FarArray
with_these a ks s = record a { kept = ks; stop = s }

pub returns-in-Some-clause-stays : goal.returns-in-Some-clause-stays
returns-in-Some-clause-stays g c = stays_again c.args.shared.now.config
    (first_version_of c.args.shared.now) (set_plan c.args.self.now.kept c.args.i c.args.x) (record_of c.args.pass.now)
    (record_of c.args.pass.now) c.args.self.now c.requires.array c.in-Some.stop c.in-Some.is refl
    (Some c.from.result) (ap (λ (e : Cannot). Some e) c.from.ensures)

pub returns-in-Some-clause-keeps : goal.returns-in-Some-clause-keeps
returns-in-Some-clause-keeps g c = keeps_again c.args.shared.now.config
    (first_version_of c.args.shared.now) (set_plan c.args.self.now.kept c.args.i c.args.x) (record_of c.args.pass.now)
    (record_of c.args.pass.now) c.args.self.now c.requires.array c.in-Some.stop c.in-Some.is refl
    (Some c.from.result) (ap (λ (e : Cannot). Some e) c.from.ensures)

pub write_number-requires-clause-within : goal.write_number-requires-clause-within
write_number-requires-clause-within g c = place_in (record_of c.args.pass.now)
    (record_of c.args.pass.now) c.args.self.now c.requires.array c.args.i c.requires.within

pub write_number-requires-clause-object : goal.write_number-requires-clause-object
write_number-requires-clause-object g c = object_in (record_of c.args.pass.now)
    (record_of c.args.pass.now) c.args.self.now c.requires.array c.args.i c.requires.within

pub returns-in-Ok-clause-ok : goal.returns-in-Ok-clause-ok
returns-in-Ok-clause-ok g c = set_ok c.args.shared.now.config (first_version_of c.args.shared.now)
    (record_of c.args.pass.now) (record_of c.write_number.new.pass) c.args.self.now
    c.requires.array c.in_default.is c.args.i c.args.x c.requires.within c.ranges.x.fits
    c.write_number.new.kept (Ok tt) (rw c.in-Ok.is at (c.write_number.ensures.goes))
    (rw c.in-Ok.is at (c.write_number.ensures.wrote))

pub returns-in-Ok-clause-keeps : goal.returns-in-Ok-clause-keeps
returns-in-Ok-clause-keeps g c = set_keeps c.args.shared.now.config
    (first_version_of c.args.shared.now) (record_of c.args.pass.now)
    (record_of c.write_number.new.pass) c.args.self.now c.requires.array c.in_default.is c.args.i
    c.args.x c.requires.within c.ranges.x.fits c.write_number.new.kept (Ok tt)
    (rw c.in-Ok.is at (c.write_number.ensures.goes))
    (rw c.in-Ok.is at (c.write_number.ensures.wrote)) tt
    (λ sole loose. rw c.in-Ok.is at (c.write_number.ensures.calm sole loose))

pub returns-in-Err-clause-stays : goal.returns-in-Err-clause-stays
returns-in-Err-clause-stays g c = subst (λ (s : Option Stop). Stays (Some c.in-Err.cannot)
    (record_of c.args.pass.now) c.args.self.now (record_of c.write_number.new.pass)
    (with_these c.args.self.now c.write_number.new.kept s))
    (sym (stop_is c.args.self.now.stop c.in-Err.cannot c.stop-self.result c.in_default.is
    c.stop-self.ensures)) (set_stays c.args.shared.now.config
    (first_version_of c.args.shared.now) (record_of c.args.pass.now)
    (record_of c.write_number.new.pass) c.args.self.now c.requires.array c.in_default.is c.args.i
    c.args.x c.requires.within c.ranges.x.fits c.write_number.new.kept (Err c.in-Err.cannot)
    (rw c.in-Err.is at (c.write_number.ensures.goes))
    (rw c.in-Err.is at (c.write_number.ensures.stays)))

pub returns-in-Err-clause-keeps : goal.returns-in-Err-clause-keeps
returns-in-Err-clause-keeps g c = subst (λ (s : Option Stop). Keeps c.args.shared.now.config
    (first_version_of c.args.shared.now) (set_plan c.args.self.now.kept c.args.i c.args.x)
    (Some c.in-Err.cannot) (record_of c.args.pass.now) c.args.self.now
    (record_of c.write_number.new.pass) (with_these c.args.self.now c.write_number.new.kept s))
    (sym (stop_is c.args.self.now.stop c.in-Err.cannot c.stop-self.result c.in_default.is
    c.stop-self.ensures)) (set_keeps c.args.shared.now.config
    (first_version_of c.args.shared.now) (record_of c.args.pass.now)
    (record_of c.write_number.new.pass) c.args.self.now c.requires.array c.in_default.is c.args.i
    c.args.x c.requires.within c.ranges.x.fits c.write_number.new.kept (Err c.in-Err.cannot)
    (rw c.in-Err.is at (c.write_number.ensures.goes)) tt
    (rw c.in-Err.is at (c.write_number.ensures.stays))
    (λ sole loose. rw c.in-Err.is at (c.write_number.ensures.calm sole loose)))
