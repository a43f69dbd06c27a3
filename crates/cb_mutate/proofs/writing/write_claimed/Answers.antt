use Rattle.cb_types.specs.Config.{IsAccepted}
use Rattle.cb_types.specs.declared.config.Config.{Config}
use Rattle.std.proofs.Common.{ℕ, ◌+◌, ◌≤◌, List, [], ◌∷◌, ◌++◌, length, refl, sym, ap, ◌∙◌, subst, arith, inl, inr, ◌<◌}
use Rattle.cb_types.specs.declared.reply.Reply.TheVariants as answer
use Rattle.cb_ptr.specs.declared.word.PtrWord.{PtrWord}
use Rattle.cb_ptr.specs.Word.{len_of, place_of}
use Rattle.cb_world.specs.declared.access.Access.TheVariants.{Told, Stamped, Settled}
use Rattle.cb_world.specs.declared.shown.Shown.{Shown}
use Rattle.cb_world.specs.Write.{IsWrite}
use Rattle.cb_mutate.specs.Wordwise.{IsWordwise}
use Rattle.cb_world.specs.Shown.{IsHeld, object_at}
use Rattle.cb_world.specs.Played.{after, played}
use Rattle.cb_world.proofs.Laws.{played_append, allowed_append, touches_append, held, may_put_back, settled_here, back_written}
use Rattle.cb_mutate.proofs.Settling.{same_slot, may_settle_written, stores_no_look, stores_told, stores_first, overwrote, owned_at, stamped, settled_at_end, wrote_one, touches_at, stores_settle_last}
use Rattle.cb_mutate.proofs.writing.write_claimed.Goals as goal

pub returns-then-at-bytes-clause-ends : goal.returns-then-at-bytes-clause-ends
returns-then-at-bytes-clause-ends g c =
    let h = c.args.h.n in let w = c.args.word in
    let len = ap (λ (p : PtrWord). p.len) c.unpack-fields.ensures.fields in
    record {
      events = Settled h w ∷ [];
      ran = c.settle.ensures;
      no_look = ((λ w e. e), tt);
      looks_first = (tt, tt);
      touches = (refl, tt);
      settles_last = (tt, tt, tt, tt);
      quiet = λ s. refl;
      allowed = λ s v words k. (may_put_back s h w v words k.1, tt);
      ends_so = λ s v words k. inl (
        omega (arith, len, c.if-at-bytes.true),
        ap answer.Range len,
        record {
          settled = settled_here s h w k.1.free.0;
          nothing = back_written s h w v words k.1;
        },
      );
    }

pub settle-requires-then-version-clause-may : goal.settle-requires-then-version-clause-may
settle-requires-then-version-clause-may g c =
    let had = c.requires.claimed in let told = Told c.args.h.n c.version-version.result ∷ [] in (
      had.0,
      (g.met.D.Desk.follows _ _ told had.0 c.version-version.ensures had.1).1,
      may_put_back had.0 c.args.h.n c.args.word had.2.0 had.2.1 had.2.2,
    )

pub returns-then-version-clause-ends : goal.returns-then-version-clause-ends
returns-then-version-clause-ends g c =
    let h = c.args.h.n in let w = c.args.word in let x = c.version-version.result in
    let len = ap (λ (p : PtrWord). p.len) c.unpack-fields.ensures.fields in
    record {
      events = Told h x ∷ Settled h w ∷ [];
      ran = g.met.D.Desk.more _ _ _ _ _ c.version-version.ensures c.settle-then-version.ensures;
      no_look = ((λ w e. e), ((λ w e. e), tt));
      looks_first = (tt, tt);
      touches = (refl, (refl, tt));
      settles_last = (tt, tt, tt, tt);
      quiet = λ s. refl;
      allowed = λ s v words k. (tt, (may_put_back s h w v words k.1, tt));
      ends_so = λ s v words k.
          let told = (g.met.D.Desk.follows _ _ (Told h x ∷ []) s c.version-version.ensures k.0).0.0
          (held s h w v words k.1) ∙ k.1.version in
          inr (
            omega (arith, c.if-at-bytes.false, len),
            inl (
              sym told ∙ c.if-version.true,
              refl,
              record {
                settled = settled_here s h w k.1.free.0;
                nothing = back_written s h w v words k.1;
              },
            ),
          );
    }

pub overwrite-requires-clause-owned : goal.overwrite-requires-clause-owned
overwrite-requires-clause-owned g c =
    let had = c.requires.claimed in let told = Told c.args.h.n c.version-version.result ∷ [] in (
      had.0,
      (g.met.D.Desk.follows _ _ told had.0 c.version-version.ensures had.1).1,
      owned_at had.0 c.args.h.n c.args.word had.2.0 had.2.1 c.unpack-fields.result
          c.unpack-fields.ensures.fields had.2.2,
    )

pub store_version-requires-clause-held : goal.store_version-requires-clause-held
store_version-requires-clause-held g c =
    let had = c.requires.claimed in let h = c.args.h.n in let x = c.version-version.result in
    let ow = c.overwrite.ensures in let s = had.0 in
    let told = g.met.D.Desk.follows _ _ (Told h x ∷ []) s c.version-version.ensures had.1 in
    let now = ow.rewrites s (
      told.1,
      owned_at s h c.args.word had.2.0 had.2.1 c.unpack-fields.result c.unpack-fields.ensures.fields
          had.2.2,
    ) in (
      played ow.events s,
      (g.met.D.Desk.follows _ _ ow.events s ow.ran told.1).1,
      subst (λ (t : Shown). IsHeld (object_at t h)) (sym now.left)
          (held s h c.args.word had.2.0 had.2.1 had.2.2),
    )

pub settle-requires-2-clause-may : goal.settle-requires-2-clause-may
settle-requires-2-clause-may g c =
    let had = c.requires.claimed in let h = c.args.h.n in let x = c.version-version.result in
    let ow = c.overwrite.ensures in let s = had.0 in let v = had.2.0 in let words = had.2.1 in
    let k = had.2.2 in let f = c.unpack-fields.ensures.fields in let w = c.args.word in
    let told = g.met.D.Desk.follows _ _ (Told h x ∷ []) s c.version-version.ensures had.1 in
    let same = told.0.0 (held s h w v words k) ∙ k.version in
    let now = overwrote s ow.events w c.args.at c.args.bytes.now c.unpack-fields.result f
    (ow.rewrites s (told.1, owned_at s h w v words c.unpack-fields.result f k)) in
    let es = ow.events ++ Stamped h (x + 1) ∷ [] in
    let ran = g.met.D.Desk.more _ _ _ _ _ ow.ran c.store_version.ensures in (
      played es s,
      (g.met.D.Desk.follows _ _ es s ran told.1).1,
      may_settle_written s (played es s) h w v c.settled.result c.args.at words c.args.bytes.now
          now.new k
          (subst (λ (l : List ℕ). IsWrite l c.args.at c.args.bytes.now now.new) k.contents now.write)
          (omega (arith, c.if-at-bytes.false, ap (λ (p : PtrWord). p.len) f))
          (same_slot w c.claimed.result c.settled.result c.unpack-fields.result.place k.free
          c.claimed.ensures (ap (λ (p : PtrWord). p.place) f) c.settled.ensures)
          (stamped s ow.events h v x (place_of w) now.new now.left same),
    )

pub returns-clause-ends : goal.returns-clause-ends
returns-clause-ends g c =
    let h = c.args.h.n in let x = c.version-version.result in let ow = c.overwrite.ensures in
    let f = c.unpack-fields.ensures.fields in let w = c.args.word in
    let n = c.settled.result in
    let tail = Stamped h (x + 1) ∷ Settled h n ∷ [] in
    let inside : c.args.at + length c.args.bytes.now ≤ len_of w =
    omega (arith, c.if-at-bytes.false, ap (λ (p : PtrWord). p.len) f) in
    record {
      events = Told h x ∷ (ow.events ++ tail);
      ran = g.met.D.Desk.more _ _ _ _ _ c.version-version.ensures
          (g.met.D.Desk.more _ _ _ _ _ ow.ran
          (g.met.D.Desk.more _ _ _ _ _ c.store_version.ensures c.settle-2.ensures));
      no_look = ((λ w e. e), stores_no_look h ow.events tail ow.stores ((λ w e. e), ((λ w e. e), tt)));
      looks_first = stores_first ow.events tail ow.stores tt (tt, (tt, tt));
      touches = (
        refl,
        touches_append h (place_of w) (len_of w) ow.events tail
            (touches_at h w c.unpack-fields.result f ow.events (ow.touches h)) (refl, (refl, tt)),
      );
      settles_last = stores_settle_last ow.events tail ow.stores (tt, tt, (tt, tt, tt, tt));
      quiet = λ s. stores_told ow.events tail s ow.stores;
      allowed = λ s v words k.
          let told = g.met.D.Desk.follows _ _ (Told h x ∷ []) s c.version-version.ensures k.0 in
          let same = told.0.0 (held s h w v words k.1) ∙ k.1.version in
          let now = overwrote s ow.events w c.args.at c.args.bytes.now c.unpack-fields.result f
          (ow.rewrites s (told.1, owned_at s h w v words c.unpack-fields.result f k.1)) in
          let slot = same_slot w c.claimed.result n c.unpack-fields.result.place k.1.free
          c.claimed.ensures (ap (λ (p : PtrWord). p.place) f) c.settled.ensures in (
            tt,
            allowed_append ow.events tail s now.allowed (
              subst (λ (t : Shown). IsHeld (object_at t h)) (sym now.left) (held s h w v words k.1),
              (
                may_settle_written s (after (Stamped h (x + 1)) (played ow.events s)) h w v n c.args.at
                    words c.args.bytes.now now.new k.1
                    (subst (λ (l : List ℕ). IsWrite l c.args.at c.args.bytes.now now.new) k.1.contents
                    now.write)
                    inside slot
                    (sym (played_append ow.events (Stamped h (x + 1) ∷ []) s)
                    ∙ stamped s ow.events h v x (place_of w) now.new now.left same),
                tt,
              ),
            ),
          );
      ends_so = λ s v words k.
          let told = g.met.D.Desk.follows _ _ (Told h x ∷ []) s c.version-version.ensures k.0 in
          let same = told.0.0 (held s h w v words k.1) ∙ k.1.version in
          let now = overwrote s ow.events w c.args.at c.args.bytes.now c.unpack-fields.result f
          (ow.rewrites s (told.1, owned_at s h w v words c.unpack-fields.result f k.1)) in
          let slot = same_slot w c.claimed.result n c.unpack-fields.result.place k.1.free
          c.claimed.ensures (ap (λ (p : PtrWord). p.place) f) c.settled.ensures in
          let wrote = subst (λ (l : List ℕ). IsWrite l c.args.at c.args.bytes.now now.new)
          k.1.contents now.write in
          inr (
            inside,
            inr (
              (omega (arith, same, c.if-version.false, c.version-version.type_inv)),
              ap (λ (u : ℕ). answer.Version (u + 1)) same,
              record {
                new = now.new;
                write = wrote;
                wordwise = subst (λ (l : List ℕ).
                    IsWordwise l c.args.at (length c.args.bytes.now) now.new) k.1.contents now.wordwise;
                settled = settled_at_end s ow.events h w v x n now.new now.left same slot;
                one = wrote_one s ow.events h w v x n c.args.at words c.args.bytes.now now.new ow.stores k.1
                    wrote now.left same slot;
              },
            ),
          );
    }

pub settle-requires-clause-handle : goal.settle-requires-clause-handle
settle-requires-clause-handle g c = c.requires.handle

pub settle-requires-clause-may : goal.settle-requires-clause-may
settle-requires-clause-may g c =
    let had = c.requires.claimed in
    (had.0, had.1, may_put_back had.0 c.args.h.n c.args.word had.2.0 had.2.1 had.2.2)

pub version-version-requires : goal.version-version-requires
version-version-requires g c = c.requires.handle

pub settle-requires-then-version-clause-handle : goal.settle-requires-then-version-clause-handle
settle-requires-then-version-clause-handle g c =
    subst (λ (q : Config). c.args.h.n < q.handles)
    (sym (g.met.D.Desk.stays _ _ _ c.version-version.ensures)) c.requires.handle

pub overwrite-requires-clause-config : goal.overwrite-requires-clause-config
overwrite-requires-clause-config g c = subst IsAccepted (sym (g.met.D.Desk.stays _ _ _ c.version-version.ensures)) c.requires.config

pub store_version-requires-clause-handle : goal.store_version-requires-clause-handle
store_version-requires-clause-handle g c =
    subst (λ (q : Config). c.args.h.n < q.handles)
    (sym (g.met.D.Desk.stays _ _ _ c.overwrite.ensures.ran ∙ g.met.D.Desk.stays _ _ _ c.version-version.ensures)) c.requires.handle

pub settle-requires-2-clause-handle : goal.settle-requires-2-clause-handle
settle-requires-2-clause-handle g c =
    subst (λ (q : Config). c.args.h.n < q.handles)
    (sym (g.met.D.Desk.stays _ _ _ c.store_version.ensures ∙ g.met.D.Desk.stays _ _ _ c.overwrite.ensures.ran ∙ g.met.D.Desk.stays _ _ _ c.version-version.ensures)) c.requires.handle
