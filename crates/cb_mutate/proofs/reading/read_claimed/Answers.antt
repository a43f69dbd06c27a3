use Rattle.cb_types.specs.Config.{IsAccepted}
use Rattle.cb_types.specs.declared.config.Config.{Config}
use Rattle.std.proofs.Common.{[], ◌∷◌, ◌++◌, refl, sym, ap, ◌∙◌, subst, ◌<◌}
use Rattle.cb_ptr.specs.declared.word.PtrWord.{PtrWord}
use Rattle.cb_world.specs.declared.access.Access.TheVariants.{Told, Settled}
use Rattle.cb_world.specs.declared.shown.Shown.{Shown}
use Rattle.cb_ptr.specs.Word.{len_of, place_of}
use Rattle.cb_world.specs.Settling.{MaySettle}
use Rattle.cb_world.proofs.Laws.{touches_append, allowed_append, held}
use Rattle.cb_world.specs.Played.{played}
use Rattle.cb_mutate.proofs.Loaded.{loads_keep}
use Rattle.cb_mutate.proofs.Settling.{same_slot, stores_no_look, stores_told, stores_first, owned_at, touches_at, stores_settle_last}
use Rattle.cb_mutate.proofs.SettledHot.{may_settle_hot, loads_are_stores, loads_allowed, hot_at_end, hot_writes_none, read_bytes, bytes_are}
use Rattle.cb_mutate.proofs.reading.read_claimed.Goals as goal

pub settle-requires-clause-may : goal.settle-requires-clause-may
settle-requires-clause-may g c =
    let had = c.requires.claimed in let h = c.args.h.n in let w = c.args.word in
    let l = c.load_into.ensures in let s = had.0 in let k = had.2.2 in
    let told = g.met.D.Desk.follows _ _ (Told h c.version-version.result ∷ []) s
    c.version-version.ensures had.1 in (
      played l.events s,
      (g.met.D.Desk.follows _ _ l.events s l.ran told.1).1,
      subst (λ (t : Shown). MaySettle t h c.settled.result) (sym (loads_keep l.events s l.loads))
          (may_settle_hot s h w had.2.0 c.settled.result had.2.1 k
          (same_slot w c.claimed.result c.settled.result c.unpack-fields.result.place k.free
          c.claimed.ensures (ap (λ (p : PtrWord). p.place) c.unpack-fields.ensures.fields)
          c.settled.ensures)),
    )

pub returns-clause-ends : goal.returns-clause-ends
returns-clause-ends g c =
    let h = c.args.h.n in let w = c.args.word in let x = c.version-version.result in
    let l = c.load_into.ensures in let n = c.settled.result in
    let f = c.unpack-fields.ensures.fields in
    let tail = Settled h n ∷ [] in let stores = loads_are_stores l.events l.loads in record {
      events = Told h x ∷ (l.events ++ tail);
      ran = g.met.D.Desk.more _ _ _ _ _ c.version-version.ensures
          (g.met.D.Desk.more _ _ _ _ _ l.ran c.settle.ensures);
      no_look = ((λ w e. e), stores_no_look h l.events tail stores ((λ w e. e), tt));
      looks_first = stores_first l.events tail stores tt (tt, tt);
      touches = (
        refl,
        touches_append h (place_of w) (len_of w) l.events tail (touches_at h w c.unpack-fields.result
            f l.events (l.touches h)) (refl, tt),
      );
      settles_last = stores_settle_last l.events tail stores (tt, tt, tt, tt);
      quiet = λ s. stores_told l.events tail s stores;
      allowed = λ s v words k.
          let slot = same_slot w c.claimed.result n c.unpack-fields.result.place k.1.free
          c.claimed.ensures (ap (λ (p : PtrWord). p.place) f) c.settled.ensures in (
            tt,
            allowed_append l.events tail s (loads_allowed l.events s l.loads) (
              subst (λ (t : Shown). MaySettle t h n) (sym (loads_keep l.events s l.loads))
                  (may_settle_hot s h w v n words k.1 slot),
              tt,
            ),
          );
      ends_so = λ s v words k.
          let told = g.met.D.Desk.follows _ _ (Told h x ∷ []) s c.version-version.ensures k.0 in
          let slot = same_slot w c.claimed.result n c.unpack-fields.result.place k.1.free
          c.claimed.ensures (ap (λ (p : PtrWord). p.place) f) c.settled.ensures in record {
            shown = bytes_are (told.0.0 (held s h w v words k.1) ∙ k.1.version)
                (read_bytes s h w v words l.words _ c.unpack-fields.result f k.1 l.bytes
                (l.contents s (
                  told.1,
                  owned_at s h w v words c.unpack-fields.result f k.1,
                )));
            settled = hot_at_end s l.events h w n l.loads slot;
            nothing = hot_writes_none s l.events h w v x n words l.loads k.1 slot;
          };
    }

pub version-version-requires : goal.version-version-requires
version-version-requires g c = c.requires.handle

pub load_into-requires-clause-config : goal.load_into-requires-clause-config
load_into-requires-clause-config g c = subst IsAccepted (sym (g.met.D.Desk.stays _ _ _ c.version-version.ensures)) c.requires.config

pub settle-requires-clause-handle : goal.settle-requires-clause-handle
settle-requires-clause-handle g c =
    subst (λ (q : Config). c.args.h.n < q.handles)
    (sym (g.met.D.Desk.stays _ _ _ c.load_into.ensures.ran ∙ g.met.D.Desk.stays _ _ _ c.version-version.ensures)) c.requires.handle
