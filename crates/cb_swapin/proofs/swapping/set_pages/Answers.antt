use Rattle.std.proofs.Common.{ap, sym, ◌∙◌, subst}
use Rattle.cb_class.proofs.Laws.{pages_known}
use Rattle.cb_frame.specs.Runs.{IsRunLength}
use Rattle.cb_set.specs.SetState.{SetState}
use Rattle.cb_world.specs.Sets.{set_in}
use Rattle.cb_world.specs.FarState.{FarState}
use Rattle.cb_swapin.proofs.Committed.{found_set, live_position}
use Rattle.cb_swapin.proofs.swapping.set_pages.Goals as goal

pub returns-clause-pages : goal.returns-clause-pages
returns-clause-pages c set there =
    let same = found_set c.committed.result c.unwrap.result _ set c.committed.ensures
    c.unwrap.ensures (ap (λ (q : FarState). set_in q.sets c.args.id.n) c.far.view_is ∙ there) in
    c.pages.ensures ∙ ap (λ (q : SetState). q.pages) same

pub returns-clause-known : goal.returns-clause-known
returns-clause-known c =
    let far = c.args.far.now in let live = c.requires.live in let set = live.0 in
    let same = found_set c.committed.result c.unwrap.result _ set c.committed.ensures
    c.unwrap.ensures (ap (λ (q : FarState). set_in q.sets c.args.id.n) c.far.view_is ∙ live.1) in
    let x = live_position c.requires.sound.0 far c.args.id.n c.args.position set c.requires.sound.1
    live.1 live.2 in
    subst IsRunLength (sym (c.pages.ensures ∙ ap (λ (q : SetState). q.pages) same ∙ x.paged))
    (pages_known x.class x.in_table)
