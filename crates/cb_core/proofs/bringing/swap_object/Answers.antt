use Rattle.std.proofs.Common.{◌∙◌}
use Rattle.cb_core.specs.Turned.{Brings, FindsWhere}
use Rattle.cb_core.proofs.Composing.{bring_lacks_as, brings_as_if, comes_in, err_map, finds_as, holding, shown_after}
use Rattle.cb_core.proofs.PartsFar.{far_has_home}
use Rattle.cb_core.proofs.bringing.swap_object.Goals as goal

pub bring-requires-clause-home : goal.bring-requires-clause-home
bring-requires-clause-home g c =
    let s = c.requires.sound in far_has_home s.0 c.args.far.now c.args.h.n s.2
    (c.find-place.ensures.away (c.is_not_here.ensures.yes c.if-not-is_not_here.false) s.0 s.1)

pub bring-requires-clause-sound : goal.bring-requires-clause-sound
bring-requires-clause-sound g c =
    shown_after _ _ _ _ _ _ _ c.find-place.ensures.finds
    (λ es s ran a. (g.met.D.Desk.follows _ _ es s ran a).1) c.requires.sound

pub returns-clause-comes : goal.returns-clause-comes
returns-clause-comes g c =
    let x = c.find-place.ensures.finds in
    comes_in (FindsWhere g.D.Desk.run g.D.Desk.shows c.args.h.n) (Brings g.D.Desk.run g.D.Desk.shows (g.D.Desk.settings c.args.desk.now) c.args.h.n)
    (holding c.args.desk.now c.args.far.now) (holding c.find-place.new.desk c.args.far.now)
    (holding c.bring.new.desk c.bring.new.far) c.find-place.result c.bring.result x
    (c.is_not_here.ensures.yes c.if-not-is_not_here.false)
    (brings_as_if g.D.Desk.run g.D.Desk.shows (g.D.Desk.settings c.args.desk.now) (g.D.Desk.settings c.find-place.new.desk) c.args.h.n
    (holding c.find-place.new.desk c.args.far.now) (holding c.bring.new.desk c.bring.new.far)
    c.bring.result (g.met.D.Desk.stays _ _ x.events x.ran) c.bring.ensures.brings)

pub returns-clause-error : goal.returns-clause-error
returns-clause-error g c =
    let x = c.find-place.ensures.finds in
    err_map _ _ c.bring.result c.bring.ensures.error (λ y. (
      holding c.find-place.new.desk c.args.far.now,
      finds_as g.D.Desk.run g.D.Desk.shows c.args.h.n (holding c.args.desk.now c.args.far.now)
          (holding c.find-place.new.desk c.args.far.now) c.find-place.result _
          (c.is_not_here.ensures.yes c.if-not-is_not_here.false) x,
      bring_lacks_as g.D.Desk.run g.D.Desk.shows (g.D.Desk.settings c.args.desk.now) (g.D.Desk.settings c.find-place.new.desk) c.args.h.n
          (holding c.find-place.new.desk c.args.far.now) (holding c.bring.new.desk c.bring.new.far)
          (g.met.D.Desk.stays _ _ x.events x.ran) y,
    ))

pub returns-then-not-is_not_here-clause-sound : goal.returns-then-not-is_not_here-clause-sound
returns-then-not-is_not_here-clause-sound g c =
    shown_after _ _ _ _ _ _ _ c.find-place.ensures.finds
    (λ es s ran a. (g.met.D.Desk.follows _ _ es s ran a).1) c.requires.sound

pub returns-clause-settings : goal.returns-clause-settings
returns-clause-settings g c =
    let x = c.find-place.ensures.finds in
    c.bring.ensures.settings ∙ g.met.D.Desk.stays _ _ x.events x.ran
