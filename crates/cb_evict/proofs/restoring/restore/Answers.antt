use Rattle.std.proofs.Common.{ℕ, ◌<◌, List, [], ◌∷◌, ◌++◌, get_or, refl, sym, subst, rules}
use Rattle.std.proofs.lemmas.List.{take_all}
use Rattle.cb_types.specs.declared.config.Config.{Config}
use Rattle.cb_world.specs.declared.leaving.Former.{Former}
use Rattle.cb_world.specs.declared.access.Access.TheVariants.{Settled}
use Rattle.cb_world.specs.Played.{played}
use Rattle.cb_world.proofs.Laws.{may_put_back}
use Rattle.cb_evict.specs.Claiming.{IsOne}
use Rattle.cb_evict.specs.Restoring.{IsRestoring}
use Rattle.cb_evict.proofs.Events.{touches_append, no_look_append, first_append}
use Rattle.cb_evict.proofs.Claims.{no_former, former_at}
use Rattle.cb_evict.proofs.Restores.{restoring_none, next_claimed, restoring_more}
use Rattle.cb_evict.proofs.restoring.restore.Goals as goal

pub loop-former-init : goal.loop-former-init
loop-former-init g c = (
  [],
  g.met.D.Desk.none _,
  tt,
  (λ k. tt),
  tt,
  λ s far a sound claimed. restoring_none far s sound,
)

pub settle-requires-clause-handle : goal.settle-requires-clause-handle
settle-requires-clause-handle g c =
    let inv = c.loop-former.invariant in
    subst (λ (n : Config). (get_or c.args.formers.now c.loop-former.former-index no_former).handle < n.handles)
    (sym (g.met.D.Desk.stays _ _ inv.0 inv.1))
    (c.requires.handles c.loop-former.former-index no_former c.loop-former-test.true)

pub settle-requires-clause-may : goal.settle-requires-clause-may
settle-requires-clause-may g c =
    let inv = c.loop-former.invariant in let had = c.requires.claimed in let s = had.0 in
    let fs = c.args.formers.now in let i = c.loop-former.former-index in
    let sized = g.met.D.Desk.sized _ s had.1 in
    let far = had.2.0 in
    let so = inv.5 s far had.1 had.2.1 had.2.2 in
    let x = next_claimed far s (played inv.0 s) fs i no_former c.requires.apart
    c.loop-former-test.true so.sound had.2.2 so.restored
    (subst (λ (n : ℕ). (get_or fs i no_former).handle < n) (sym sized.2)
    (c.requires.handles i no_former c.loop-former-test.true)) in (
      played inv.0 s,
      (g.met.D.Desk.follows _ _ inv.0 s inv.1 had.1).1,
      may_put_back (played inv.0 s) (get_or fs i no_former).handle (get_or fs i no_former).word
          x.0.version x.0.words x.1,
    )

pub loop-former-preserved : goal.loop-former-preserved
loop-former-preserved g c =
    let inv = c.loop-former.invariant in let es = inv.0 in
    let fs = c.args.formers.now in let i = c.loop-former.former-index in
    let f = get_or fs i no_former in
    let last = Settled f.handle f.word ∷ [] in
    let one : IsOne fs f.handle = (f, (i, c.loop-former-test.true, former_at fs i c.loop-former-test.true), refl) in (
      es ++ last,
      g.met.D.Desk.more _ _ _ _ _ inv.1 c.settle.ensures,
      touches_append (IsOne fs) (λ p. ⊥) es last inv.2 (one, tt),
      λ k. no_look_append k es last (inv.3 k) ((λ w e. e), tt),
      first_append (IsOne fs) (λ p. ⊥) es last inv.2 inv.4 (tt, tt) (λ h o. ((λ w e. e), tt)),
      λ s far a sound claimed.
          let sized = g.met.D.Desk.sized _ s a in
          restoring_more far es s fs i no_former c.requires.apart c.loop-former-test.true claimed
          (subst (λ (n : ℕ). f.handle < n) (sym sized.2)
          (c.requires.handles i no_former c.loop-former-test.true)) (inv.5 s far a sound claimed),
    )

pub returns : goal.returns
returns g c =
    let inv = c.loop-former.invariant in
    let all = take_all c.loop-former.former-index c.args.formers.now (search rules) in
    record {
      events = inv.0;
      ran = inv.1;
      touches = inv.2;
      first = inv.4;
      done = (
        inv.3,
        λ s far a sound claimed.
            subst (λ (l : List Former). IsRestoring far inv.0 s l) all (inv.5 s far a sound claimed),
      );
    }
