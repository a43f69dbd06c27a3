use Rattle.cb_types.specs.declared.config.Config.{Config}
use Rattle.std.proofs.Common.{ℕ, ◌+◌, [], ◌∷◌, sym, refl, ap, ◌∙◌, arith, inl, inr, subst, ◌<◌}
use Rattle.cb_types.specs.declared.reply.Reply.TheVariants as answer
use Rattle.cb_world.specs.declared.access.Access.TheVariants.{Told, Stamped, Settled}
use Rattle.cb_world.proofs.Laws.{held, may_put_back, settled_here, back_written}
use Rattle.cb_mutate.proofs.Emptied.{with_stamped, may_free, emptied, emptied_once}
use Rattle.cb_mutate.proofs.freeing.free_claimed.Goals as goal

pub settle-requires-clause-may : goal.settle-requires-clause-may
settle-requires-clause-may g c =
    let had = c.requires.claimed in let told = Told c.args.h.n c.version-version.result ∷ [] in (
      had.0,
      (g.met.D.Desk.follows _ _ told had.0 c.version-version.ensures had.1).1,
      may_put_back had.0 c.args.h.n c.args.word had.2.0 had.2.1 had.2.2,
    )

pub returns-then-version-clause-ends : goal.returns-then-version-clause-ends
returns-then-version-clause-ends g c =
    let h = c.args.h.n in let w = c.args.word in let x = c.version-version.result in record {
      events = Told h x ∷ Settled h w ∷ [];
      ran = g.met.D.Desk.more _ _ _ _ _ c.version-version.ensures c.settle.ensures;
      no_look = ((λ w e. e), ((λ w e. e), tt));
      looks_first = (tt, tt);
      touches = (refl, (refl, tt));
      settles_last = (tt, tt, tt, tt);
      quiet = λ s. refl;
      allowed = λ s v words k. (tt, (may_put_back s h w v words k.1, tt));
      ends_so = λ s v words k.
          let told = (g.met.D.Desk.follows _ _ (Told h x ∷ []) s c.version-version.ensures k.0).0.0
          (held s h w v words k.1) ∙ k.1.version in
          inl (
            sym told ∙ c.if-version.true,
            refl,
            record {
              settled = settled_here s h w k.1.free.0;
              nothing = back_written s h w v words k.1;
            },
          );
    }

pub store_version-requires-clause-held : goal.store_version-requires-clause-held
store_version-requires-clause-held g c =
    let had = c.requires.claimed in let told = Told c.args.h.n c.version-version.result ∷ [] in (
      had.0,
      (g.met.D.Desk.follows _ _ told had.0 c.version-version.ensures had.1).1,
      held had.0 c.args.h.n c.args.word had.2.0 had.2.1 had.2.2,
    )

pub settle-requires-2-clause-may : goal.settle-requires-2-clause-may
settle-requires-2-clause-may g c =
    let had = c.requires.claimed in let h = c.args.h.n in let x = c.version-version.result in
    let s = had.0 in
    let told = g.met.D.Desk.follows _ _ (Told h x ∷ []) s c.version-version.ensures had.1 in
    let same = told.0.0 (held s h c.args.word had.2.0 had.2.1 had.2.2) ∙ had.2.2.version in (
      with_stamped s h (x + 1),
      (g.met.D.Desk.follows _ _ (Stamped h (x + 1) ∷ []) s c.store_version.ensures told.1).1,
      may_free s h c.args.word had.2.0 x had.2.1 had.2.2 same,
    )

pub returns-clause-ends : goal.returns-clause-ends
returns-clause-ends g c =
    let h = c.args.h.n in let w = c.args.word in let x = c.version-version.result in record {
      events = Told h x ∷ Stamped h (x + 1) ∷ Settled h 0 ∷ [];
      ran = g.met.D.Desk.more _ _ _ _ _ c.version-version.ensures
          (g.met.D.Desk.more _ _ _ _ _ c.store_version.ensures c.settle-2.ensures);
      no_look = ((λ w e. e), ((λ w e. e), ((λ w e. e), tt)));
      looks_first = (tt, (tt, tt));
      touches = (refl, (refl, (refl, tt)));
      settles_last = (tt, tt, (tt, tt, tt, tt));
      quiet = λ s. refl;
      allowed = λ s v words k.
          let told = g.met.D.Desk.follows _ _ (Told h x ∷ []) s c.version-version.ensures k.0 in
          let same = told.0.0 (held s h w v words k.1) ∙ k.1.version in
          (tt, (held s h w v words k.1, (may_free s h w v x words k.1 same, tt)));
      ends_so = λ s v words k.
          let told = g.met.D.Desk.follows _ _ (Told h x ∷ []) s c.version-version.ensures k.0 in
          let same = told.0.0 (held s h w v words k.1) ∙ k.1.version in
          inr (
            omega (arith, same, c.if-version.false, c.version-version.type_inv),
            ap (λ (u : ℕ). answer.Version (u + 1)) same,
            record {
              settled = emptied s h w v x words k.1 same;
              one = emptied_once s h w v x words k.1 same;
            },
          );
    }

pub version-version-requires : goal.version-version-requires
version-version-requires g c = c.requires.handle

pub settle-requires-clause-handle : goal.settle-requires-clause-handle
settle-requires-clause-handle g c =
    subst (λ (q : Config). c.args.h.n < q.handles)
    (sym (g.met.D.Desk.stays _ _ _ c.version-version.ensures)) c.requires.handle

pub store_version-requires-clause-handle : goal.store_version-requires-clause-handle
store_version-requires-clause-handle g c =
    subst (λ (q : Config). c.args.h.n < q.handles)
    (sym (g.met.D.Desk.stays _ _ _ c.version-version.ensures)) c.requires.handle

pub settle-requires-2-clause-handle : goal.settle-requires-2-clause-handle
settle-requires-2-clause-handle g c =
    subst (λ (q : Config). c.args.h.n < q.handles)
    (sym (g.met.D.Desk.stays _ _ _ c.store_version.ensures ∙ g.met.D.Desk.stays _ _ _ c.version-version.ensures)) c.requires.handle
