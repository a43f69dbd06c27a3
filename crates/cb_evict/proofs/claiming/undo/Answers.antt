use Rattle.std.proofs.Common.{List, drop, All, ap, sym, subst, ◌∙◌, ◌<◌, length, arith}
use Rattle.std.proofs.lemmas.List.{take_rest}
use Rattle.cb_world.specs.declared.leaving.Former.{Former}
use Rattle.cb_world.specs.declared.shown.Shown.{Shown}
use Rattle.cb_world.specs.FarState.{FarState}
use Rattle.cb_world.specs.LocalSound.{LocalSound}
use Rattle.cb_evict.specs.Claims.{IsHeldAt, AreApart}
use Rattle.cb_evict.specs.Claiming.{GivesBack}
use Rattle.cb_evict.proofs.claiming.undo.Goals as goal

pub give_back-requires-clause-held : goal.give_back-requires-clause-held
give_back-requires-clause-held g c =
    let part = take_rest c.deref.result.now c.args.start
    ∙ ap (λ (l : List Former). drop c.args.start l) c.deref.ensures.value in
    subst (λ (l : List Former). (s : Shown) × g.D.Desk.shows c.args.desk.now s
    × ((far : FarState) × LocalSound s far × All (IsHeldAt s) l)) (sym part) c.requires.held

pub returns-clause-back : goal.returns-clause-back
returns-clause-back g c =
    let part = take_rest c.deref.result.now c.args.start
    ∙ ap (λ (l : List Former). drop c.args.start l) c.deref.ensures.value in
    subst (λ (l : List Former). GivesBack (λ es. g.D.Desk.run c.args.desk.now es c.give_back.new.desk)
    (λ s. g.D.Desk.shows c.args.desk.now s) l) part c.give_back.ensures

pub slice_bounds-give_back-count : goal.slice_bounds-give_back-count
slice_bounds-give_back-count g c = omega (arith, c.requires.within, ap (λ (l : List Former). length l) c.deref.ensures.value)

pub give_back-requires-clause-handles : goal.give_back-requires-clause-handles
give_back-requires-clause-handles g c =
    let part = take_rest c.deref.result.now c.args.start
    ∙ ap (λ (l : List Former). drop c.args.start l) c.deref.ensures.value in
    subst (λ (l : List Former). All (λ former. former.handle < (g.D.Desk.settings c.args.desk.now).handles) l)
    (sym part) c.requires.handles

pub give_back-requires-clause-apart : goal.give_back-requires-clause-apart
give_back-requires-clause-apart g c =
    let part = take_rest c.deref.result.now c.args.start
    ∙ ap (λ (l : List Former). drop c.args.start l) c.deref.ensures.value in
    subst (λ (l : List Former). AreApart l) (sym part) c.requires.apart
