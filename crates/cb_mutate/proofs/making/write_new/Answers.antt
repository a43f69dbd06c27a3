use Rattle.cb_types.specs.declared.config.Config.{Config}
use Rattle.std.proofs.Common.{ℕ, [], ◌∷◌, ◌++◌, length, sym, subst, arith, ◌<◌, ◌∙◌}
use Rattle.cb_types.specs.declared.config.Field.TheVariants.{Frames}
use Rattle.cb_world.specs.declared.access.Access.TheVariants.{Stamped, Settled}
use Rattle.cb_world.specs.declared.shown.Shown.{Shown}
use Rattle.cb_world.specs.Shown.{IsHeld, object_at}
use Rattle.cb_world.specs.Settling.{MaySettle}
use Rattle.cb_world.specs.Played.{played}
use Rattle.cb_mutate.specs.Stores.{stores_from}
use Rattle.cb_mutate.proofs.NewObject.{new_owned, stores_played, contents_played, new_may_settle, word_is}
use Rattle.cb_mutate.proofs.making.write_new.Goals as goal

pub store_bytes-requires-clause-owned : goal.store_bytes-requires-clause-owned
store_bytes-requires-clause-owned g c = let had = c.requires.new in (
  had.0,
  had.1,
  new_owned had.0 c.args.h.n c.args.version c.args.place (length c.args.bytes.now) had.2,
)

pub store_version-requires-clause-held : goal.store_version-requires-clause-held
store_version-requires-clause-held g c =
    let had = c.requires.new in let r = c.store_bytes.ensures in
    let es = stores_from c.args.place r.0 in (
      played es had.0,
      (g.met.D.Desk.follows _ _ es had.0 r.2 had.1).1,
      subst (λ (t : Shown). IsHeld (object_at t c.args.h.n))
          (sym (stores_played c.args.place r.0 had.0))
          (subst IsHeld (sym had.2.never_made) tt),
    )

pub pack-word-requires : goal.pack-word-requires
pack-word-requires g c =
    let had = c.requires.new in let sized = g.met.D.Desk.sized _ _ had.1 in record {
      pins = omega arith;
      len = omega (arith, c.requires.fits);
      place = omega (
        arith,
        had.2.within,
        sized.3,
        (c.requires.config Frames).1,
        c.requires.some_byte,
      );
    }

pub settle-requires-clause-may : goal.settle-requires-clause-may
settle-requires-clause-may g c =
    let had = c.requires.new in let r = c.store_bytes.ensures in
    let h = c.args.h.n in let v = c.args.version in let place = c.args.place in
    let es = stores_from place r.0 ++ Stamped h v ∷ [] in
    let ran = g.met.D.Desk.more _ _ _ _ _ r.2 c.store_version.ensures in (
      played es had.0,
      (g.met.D.Desk.follows _ _ es had.0 ran had.1).1,
      subst (λ (t : Shown). MaySettle t h c.pack-word.result)
          (sym (contents_played had.0 h v place r.0))
          (new_may_settle had.0 h v place (length c.args.bytes.now) c.pack-word.result r.0 had.2
          r.1.count r.1.packed (word_is c.pack-word.result (length c.args.bytes.now) place
          c.pack-word.ensures.reads_back c.pack-word.ensures.below)),
    )

pub returns : goal.returns
returns g c = let r = c.store_bytes.ensures in let h = c.args.h.n in record {
  words = r.0;
  packed = r.1;
  ran = g.met.D.Desk.more _ _ _ _ _ r.2
      (g.met.D.Desk.more _ _ _ _ _ c.store_version.ensures
      (subst (λ (w : ℕ). g.D.Desk.run c.store_version.new.self (Settled h w ∷ [])
      c.settle.new.self) c.pack-word.ensures.word
      c.settle.ensures));
}

pub store_bytes-requires-clause-fits : goal.store_bytes-requires-clause-fits
store_bytes-requires-clause-fits g c = c.requires.fits

pub store_bytes-requires-clause-config : goal.store_bytes-requires-clause-config
store_bytes-requires-clause-config g c = c.requires.config

pub store_version-requires-clause-handle : goal.store_version-requires-clause-handle
store_version-requires-clause-handle g c =
    subst (λ (q : Config). c.args.h.n < q.handles)
    (sym (g.met.D.Desk.stays _ _ _ c.store_bytes.ensures.2)) c.requires.handle

pub settle-requires-clause-handle : goal.settle-requires-clause-handle
settle-requires-clause-handle g c =
    subst (λ (q : Config). c.args.h.n < q.handles)
    (sym (g.met.D.Desk.stays _ _ _ c.store_version.ensures ∙ g.met.D.Desk.stays _ _ _ c.store_bytes.ensures.2)) c.requires.handle
