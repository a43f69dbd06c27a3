use Rattle.std.proofs.Common.{ℕ, ◌+◌, ◌<◌, [], ◌∷◌, sym, refl, subst, arith, inr}
use Rattle.cb_world.specs.declared.access.Access.TheVariants.{Told, Stamped}
use Rattle.cb_world.proofs.Laws.{are_members, home_within, shards_there}
use Rattle.cb_mutate.proofs.Emptied.{with_stamped}
use Rattle.cb_mutate.proofs.FarFreed.{far_held, far_may_free, far_told, home_known, its_home}
use Rattle.cb_mutate.proofs.freeing.free_far.Goals as goal

pub store_version-requires-clause-held : goal.store_version-requires-clause-held
store_version-requires-clause-held g c =
    let had = c.requires.away in let h = c.args.h.n in let x = c.version-last.result in (
      had.0,
      (g.met.D.Desk.follows _ _ (Told h x ∷ []) had.0 c.version-last.ensures had.1).1,
      far_held had.0 h had.3.0 had.3.1 had.3.2 had.3.3,
    )

pub settle-requires-clause-may : goal.settle-requires-clause-may
settle-requires-clause-may g c =
    let had = c.requires.away in let s = had.0 in let h = c.args.h.n in
    let x = c.version-last.result in let far = c.args.far.now in
    let told = g.met.D.Desk.follows _ _ (Told h x ∷ []) s c.version-last.ensures had.1 in
    let sized = g.met.D.Desk.sized _ s had.1 in
    let same = far_told s far h had.3.0 had.3.1 x had.3.2 had.2 had.3.3 told.0.0 in (
      with_stamped s h (x + 1),
      (g.met.D.Desk.follows _ _ (Stamped h (x + 1) ∷ []) s c.store_version.ensures told.1).1,
      far_may_free s h had.3.0 had.3.1 x had.3.2
          (subst (λ (n : ℕ). h < n) (sym sized.2) c.requires.handle) had.3.3 same,
    )

pub remove_far-requires-clause-home : goal.remove_far-requires-clause-home
remove_far-requires-clause-home g c =
    let had = c.requires.away in let s = had.0 in let h = c.args.h.n in let far = c.args.far.now in
    let k = its_home s far h had.3.0 had.3.1 had.3.2 had.2 had.3.3 in (
      k.home,
      k.set,
      k.lies,
      home_within s far h k.home k.set had.2.away.sound k.lies,
      shards_there s far k.home.set k.set had.2.away.sound k.lies.there,
      are_members far.members k.set
          (had.2.away.sound.sets.shaped k.home.set k.set k.lies.there),
    )

pub remove_far-requires-clause-within : goal.remove_far-requires-clause-within
remove_far-requires-clause-within g c =
    let had = c.requires.away in let s = had.0 in let h = c.args.h.n in let far = c.args.far.now in
    let k = its_home s far h had.3.0 had.3.1 had.3.2 had.2 had.3.3 in
    home_known far h k.home k.lies.at

pub returns-clause-frees : goal.returns-clause-frees
returns-clause-frees g c =
    let x = c.version-last.result in (
      x,
      inr (
        (omega (arith, c.if-last.false, c.version-last.type_inv)),
        refl,
        g.met.D.Desk.more _ _ _ _ _ c.version-last.ensures
            (g.met.D.Desk.more _ _ _ _ _ c.store_version.ensures c.settle.ensures),
      ),
    )
