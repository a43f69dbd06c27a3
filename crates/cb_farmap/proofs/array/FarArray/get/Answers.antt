use Rattle.std.proofs.Common.{Option, None, Some, Ok, Err, refl, sym, ap, subst}
use Rattle.cb_shared.specs.Passes.{record_of}
use Rattle.cb_shared.specs.Recalls.{first_version_of}
use Rattle.cb_farmap.specs.declared.array.FarArray.{FarArray}
use Rattle.cb_farmap.specs.declared.kept.Cannot.{Cannot}
use Rattle.cb_farmap.specs.declared.kept.Stop.{Stop}
use Rattle.cb_farmap.specs.Arrays.{Keeps, Stays, get_plan}
use Rattle.cb_farmap.proofs.Arrays.{object_in, place_in}
use Rattle.cb_farmap.proofs.Ends.{get_keeps, get_ok, get_stays, keeps_again, stays_again, stop_is}
use Rattle.cb_farmap.proofs.array.FarArray.get.Goals as goal

abbrev with_stop : FarArray → Option Stop → FarArray
with_stop a s = record a { stop = s }

pub returns-in-Some-clause-stays : goal.returns-in-Some-clause-stays
returns-in-Some-clause-stays g c = stays_again c.args.shared.now.config
    (first_version_of c.args.shared.now) (get_plan c.args.self.now.kept c.args.i) (record_of c.args.pass.now)
    (record_of c.args.pass.now) c.args.self.now c.requires.array c.in-Some.stop c.in-Some.is refl
    (Some c.from.result) (ap (λ (e : Cannot). Some e) c.from.ensures)

pub returns-in-Some-clause-keeps : goal.returns-in-Some-clause-keeps
returns-in-Some-clause-keeps g c = keeps_again c.args.shared.now.config
    (first_version_of c.args.shared.now) (get_plan c.args.self.now.kept c.args.i) (record_of c.args.pass.now)
    (record_of c.args.pass.now) c.args.self.now c.requires.array c.in-Some.stop c.in-Some.is refl
    (Some c.from.result) (ap (λ (e : Cannot). Some e) c.from.ensures)

pub number_kept-requires-clause-within : goal.number_kept-requires-clause-within
number_kept-requires-clause-within g c = place_in (record_of c.args.pass.now)
    (record_of c.args.pass.now) c.args.self.now c.requires.array c.args.i c.requires.within

pub number_kept-requires-clause-object : goal.number_kept-requires-clause-object
number_kept-requires-clause-object g c = object_in (record_of c.args.pass.now)
    (record_of c.args.pass.now) c.args.self.now c.requires.array c.args.i c.requires.within

pub returns-in-Ok-clause-ok : goal.returns-in-Ok-clause-ok
returns-in-Ok-clause-ok g c = get_ok c.args.shared.now.config (first_version_of c.args.shared.now)
    (record_of c.args.pass.now) (record_of c.number_kept.new.pass) c.args.self.now
    c.requires.array c.in_default.is c.args.i c.requires.within (Ok c.in-Ok.x)
    (rw c.in-Ok.is at (c.number_kept.ensures.goes))
    (rw c.in-Ok.is at (c.number_kept.ensures.number))

pub returns-in-Ok-clause-keeps : goal.returns-in-Ok-clause-keeps
returns-in-Ok-clause-keeps g c = get_keeps c.args.shared.now.config
    (first_version_of c.args.shared.now) (record_of c.args.pass.now)
    (record_of c.number_kept.new.pass) c.args.self.now c.requires.array c.in_default.is c.args.i
    c.requires.within None (rw c.in-Ok.is at (c.number_kept.ensures.goes))
    (λ sole loose. rw c.in-Ok.is at (c.number_kept.ensures.calm sole loose))

pub returns-in-Err-clause-stays : goal.returns-in-Err-clause-stays
returns-in-Err-clause-stays g c = subst (λ (s : Option Stop). Stays (Some c.in-Err.cannot)
    (record_of c.args.pass.now) c.args.self.now (record_of c.number_kept.new.pass)
    (with_stop c.args.self.now s))
    (sym (stop_is c.args.self.now.stop c.in-Err.cannot c.stop-self.result c.in_default.is
    c.stop-self.ensures)) (get_stays c.args.shared.now.config
    (first_version_of c.args.shared.now) (record_of c.args.pass.now)
    (record_of c.number_kept.new.pass) c.args.self.now c.requires.array c.in_default.is c.args.i
    c.requires.within (Err c.in-Err.cannot) (rw c.in-Err.is at (c.number_kept.ensures.goes)))

pub returns-in-Err-clause-keeps : goal.returns-in-Err-clause-keeps
returns-in-Err-clause-keeps g c = subst (λ (s : Option Stop). Keeps c.args.shared.now.config
    (first_version_of c.args.shared.now) (get_plan c.args.self.now.kept c.args.i)
    (Some c.in-Err.cannot) (record_of c.args.pass.now) c.args.self.now
    (record_of c.number_kept.new.pass) (with_stop c.args.self.now s))
    (sym (stop_is c.args.self.now.stop c.in-Err.cannot c.stop-self.result c.in_default.is
    c.stop-self.ensures)) (get_keeps c.args.shared.now.config
    (first_version_of c.args.shared.now) (record_of c.args.pass.now)
    (record_of c.number_kept.new.pass) c.args.self.now c.requires.array c.in_default.is c.args.i
    c.requires.within (Some c.in-Err.cannot) (rw c.in-Err.is at (c.number_kept.ensures.goes))
    (λ sole loose. rw c.in-Err.is at (c.number_kept.ensures.calm sole loose)))
