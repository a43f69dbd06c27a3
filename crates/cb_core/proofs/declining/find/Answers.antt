use Rattle.std.proofs.Common.{[], ◌∷◌, refl, sym, ap, ◌∙◌}
use Rattle.cb_ptr.specs.declared.word.PtrWord.{PtrWord}
use Rattle.cb_world.specs.declared.access.Access.TheVariants.{Told}
use Rattle.cb_mutate.proofs.Laws.{found_far}
use Rattle.cb_core.proofs.DeclinedLooks.{finds_by, is_empty, is_far, is_here, is_moving, never_made, was_freed}
use Rattle.cb_core.proofs.declining.find.Goals as goal

pub returns-in-Here-clause-finds : goal.returns-in-Here-clause-finds
returns-in-Here-clause-finds g c =
    finds_by g.D.Desk.run g.D.Desk.shows c.args.h.n c.args.desk.now
    c.word.new.self c.args.far.now [] c.word.result _ c.word.ensures tt tt
    (is_here c.word.result c.args.h.n _
    (sym (ap (λ (p : PtrWord). p.state) c.unpack.ensures.fields) ∙ c.in-Here.is))

pub returns-in-Far-clause-finds : goal.returns-in-Far-clause-finds
returns-in-Far-clause-finds g c =
    finds_by g.D.Desk.run g.D.Desk.shows c.args.h.n c.args.desk.now
    c.word.new.self c.args.far.now [] c.word.result _ c.word.ensures tt tt
    (is_far c.word.result c.args.h.n _
    (sym (ap (λ (p : PtrWord). p.state) c.unpack.ensures.fields) ∙ c.in-Far.is))

pub returns-in-Far-clause-away : goal.returns-in-Far-clause-away
returns-in-Far-clause-away g c = λ e s shown.
    found_far s [] c.args.h.n c.word.result tt (g.met.D.Desk.follows _ _ _ s c.word.ensures shown).0
    (sym (ap (λ (p : PtrWord). p.state) c.unpack.ensures.fields) ∙ c.in-Far.is)

pub returns-in-Moving-clause-finds : goal.returns-in-Moving-clause-finds
returns-in-Moving-clause-finds g c =
    finds_by g.D.Desk.run g.D.Desk.shows c.args.h.n c.args.desk.now
    c.word.new.self c.args.far.now [] c.word.result _ c.word.ensures tt tt
    (is_moving c.word.result c.args.h.n _
    (sym (ap (λ (p : PtrWord). p.state) c.unpack.ensures.fields) ∙ c.in-Moving.is))

pub returns-in-Empty-clause-finds : goal.returns-in-Empty-clause-finds
returns-in-Empty-clause-finds g c =
    finds_by g.D.Desk.run g.D.Desk.shows c.args.h.n c.args.desk.now
    c.version.new.self c.args.far.now (Told c.args.h.n c.version.result ∷ []) c.word.result _
    (g.met.D.Desk.more _ _ _ _ _ c.word.ensures c.version.ensures) (refl, tt) (refl, tt)
    (is_empty c.word.result c.args.h.n c.version.result _
    (sym (ap (λ (p : PtrWord). p.state) c.unpack.ensures.fields) ∙ c.in-Empty.is)
    (never_made c.version.result c.if-version-eq0.true))

pub returns-in-Empty-2-clause-finds : goal.returns-in-Empty-2-clause-finds
returns-in-Empty-2-clause-finds g c =
    finds_by g.D.Desk.run g.D.Desk.shows c.args.h.n c.args.desk.now
    c.version.new.self c.args.far.now (Told c.args.h.n c.version.result ∷ []) c.word.result _
    (g.met.D.Desk.more _ _ _ _ _ c.word.ensures c.version.ensures) (refl, tt) (refl, tt)
    (is_empty c.word.result c.args.h.n c.version.result _
    (sym (ap (λ (p : PtrWord). p.state) c.unpack.ensures.fields) ∙ c.in-Empty-2.is)
    (was_freed c.version.result c.if-version-eq0.false))
