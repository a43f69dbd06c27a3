use Rattle.std.proofs.Common.{refl}
use Rattle.cb_core.specs.Ordered.FetchRun.{not_far, was_far}
use Rattle.cb_core.proofs.Composing.{finds_as, holding}
use Rattle.cb_core.proofs.OrderTurns.{lack_map, ok_map}
use Rattle.cb_core.proofs.PartsFar.{far_has_home}
use Rattle.cb_core.proofs.fetching.hand_rows.Goals as goal

pub returns-then-not-is_not_here-clause-fetches : goal.returns-then-not-is_not_here-clause-fetches
returns-then-not-is_not_here-clause-fetches g c = not_far c.find-place.result refl
    c.find-place.ensures.finds (c.is_not_here.ensures.other c.if-not-is_not_here.true)

pub returns-then-not-is_not_here-clause-kept : goal.returns-then-not-is_not_here-clause-kept
returns-then-not-is_not_here-clause-kept g c = λ s sound. tt

pub rows_of_home-requires-clause-home : goal.rows_of_home-requires-clause-home
rows_of_home-requires-clause-home g c =
    let s = c.requires.sound in far_has_home s.0 c.args.far.now c.args.h.n s.2
    (c.find-place.ensures.away (c.is_not_here.ensures.yes c.if-not-is_not_here.false) s.0 s.1)

pub rows_of_home-requires-clause-sound : goal.rows_of_home-requires-clause-sound
rows_of_home-requires-clause-sound g c = let s = c.requires.sound in (s.0, s.2)

pub returns-clause-fetches : goal.returns-clause-fetches
returns-clause-fetches g c =
    ok_map _ _ c.rows_of_home.result c.rows_of_home.ensures.step (λ q rows. was_far
    (holding c.find-place.new.desk c.args.far.now)
    (finds_as g.D.Desk.run g.D.Desk.shows c.args.h.n
    (holding c.args.desk.now c.args.far.now) (holding c.find-place.new.desk c.args.far.now)
    c.find-place.result _ (c.is_not_here.ensures.yes c.if-not-is_not_here.false)
    c.find-place.ensures.finds)
    (rows.0, rows.1, g.met.D.Desk.none _, rows.2))

pub returns-clause-error : goal.returns-clause-error
returns-clause-error g c =
    lack_map _ _ c.rows_of_home.result c.rows_of_home.ensures.error (λ same. (
      holding c.find-place.new.desk c.args.far.now,
      finds_as g.D.Desk.run g.D.Desk.shows c.args.h.n
          (holding c.args.desk.now c.args.far.now) (holding c.find-place.new.desk c.args.far.now)
          c.find-place.result _ (c.is_not_here.ensures.yes c.if-not-is_not_here.false)
          c.find-place.ensures.finds,
      (g.met.D.Desk.none _, same),
    ))

pub returns-clause-kept : goal.returns-clause-kept
returns-clause-kept g c = c.rows_of_home.ensures.kept

pub returns-clause-sound : goal.returns-clause-sound
returns-clause-sound g c = c.rows_of_home.ensures.sound
