use Rattle.std.proofs.Common.{ℕ, ◌+◌, ◌*◌, ◌<◌, List, [], ◌∷◌, ◌++◌, length, sym, ap, ◌∙◌, subst, arith}
use Rattle.cb_types.specs.declared.config.Config.{Config}
use Rattle.cb_types.specs.declared.config.Field.TheVariants.{Frames}
use Rattle.cb_world.specs.declared.access.Access.TheVariants.{Loaded, Stored}
use Rattle.cb_world.specs.Memory.{window, words_for}
use Rattle.cb_world.specs.StillDesk.{put_window}
use Rattle.cb_world.specs.declared.shown.Shown.{Shown}
use Rattle.cb_world.specs.Played.{played}
use Rattle.cb_world.proofs.Laws.{played_append, allowed_append, touches_append}
use Rattle.cb_world.specs.Shown.{Covers}
use Rattle.cb_mutate.proofs.Bytes.{write_none, write_all, wordwise_none, wordwise_all, store_one, stores_more, owns_here}
use Rattle.cb_mutate.proofs.overwriting.overwrite.Goals as goal

pub loop-i-init : goal.loop-i-init
loop-i-init g c = (
  [],
  g.met.D.Desk.none _,
  tt,
  λ h. tt,
  λ s a o. (
    window s.memory c.args.place (words_for c.args.len),
    write_none _ c.args.at c.args.bytes.now,
    wordwise_none _ c.args.at (length c.args.bytes.now),
    ap (λ (l : List ℕ). let q : Shown =
        record s { memory = l } in
        q) (sym (put_window s.memory c.args.place (words_for c.args.len))),
    tt,
  ),
)

pub load-old-requires : goal.load-old-requires
load-old-requires g c = let inv = c.loop-i.invariant in
    subst (λ (q : Config).
    c.args.place + c.loop-i.i < 512 * q.frames) (sym (g.met.D.Desk.stays _ _ _ inv.1))
    (omega (
      arith,
      c.loop-i-test.true,
      c.div_ceil-i-end.ensures,
      c.requires.memory,
      c.requires.inside,
    ))

pub store-requires-clause-place : goal.store-requires-clause-place
store-requires-clause-place g c = let inv = c.loop-i.invariant in
    subst (λ (q : Config).
    c.args.place + c.loop-i.i < 512 * q.frames)
    (sym (g.met.D.Desk.stays _ _ _ (g.met.D.Desk.more _ _ _ _ _ inv.1 c.load-old.ensures)))
    (omega (
      arith,
      c.loop-i-test.true,
      c.div_ceil-i-end.ensures,
      c.requires.memory,
      c.requires.inside,
    ))

pub store-requires-clause-owned : goal.store-requires-clause-owned
store-requires-clause-owned g c = let inv = c.loop-i.invariant in let had = c.requires.owned in
    let es = inv.0 ++ Loaded (c.args.place + c.loop-i.i) c.load-old.result ∷ [] in
    let follows =
    g.met.D.Desk.follows _ _ es had.0 (g.met.D.Desk.more _ _ _ _ _ inv.1 c.load-old.ensures)
    had.1 in
    let now = inv.4 had.0 had.1 had.2 in
    let below : c.loop-i.i < words_for c.args.len =
    omega (arith, c.loop-i-test.true, c.div_ceil-i-end.ensures, c.requires.inside) in (
      played es had.0,
      follows.1,
      owns_here had.0 (played es had.0) c.args.place c.args.len c.loop-i.i now.0
          (played_append inv.0 (Loaded (c.args.place + c.loop-i.i) c.load-old.result ∷ []) had.0
          ∙ now.3) had.2 below,
    )

pub loop-i-preserved : goal.loop-i-preserved
loop-i-preserved g c = let inv = c.loop-i.invariant in
    let p = c.args.place + c.loop-i.i in let x = c.load-old.result in let y = c.merged.result in
    let ran = g.met.D.Desk.more _ _ _ _ _ inv.1
    (g.met.D.Desk.more _ _ _ _ _ c.load-old.ensures c.store.ensures) in
    let below : c.loop-i.i < words_for c.args.len =
    omega (arith, c.loop-i-test.true, c.div_ceil-i-end.ensures, c.requires.inside) in
    let here : Covers c.args.place c.args.len p = (omega arith, omega (arith, below)) in (
      inv.0 ++ Loaded p x ∷ Stored p y ∷ [],
      ran,
      stores_more inv.0 (Loaded p x ∷ Stored p y ∷ []) inv.2 tt,
      λ h. touches_append h c.args.place c.args.len inv.0 (Loaded p x ∷ Stored p y ∷ []) (inv.3 h)
          (here, (here, tt)),
      λ s a o. let now = inv.4 s a o in let z =
          store_one inv.0 s c.args.place c.args.len c.loop-i.i c.args.at x y c.args.bytes.now
          (g.met.D.Desk.follows _ _ _ s ran a).0 o below now.0 now.1 now.2
          (omega (arith, c.loop-i-test.true, c.div_ceil-i-end.ensures)) c.merged.type_inv now.3
          c.merged.ensures in (
            z.0,
            z.1,
            z.2,
            z.3,
            allowed_append inv.0 (Loaded p x ∷ Stored p y ∷ []) s now.4 (
              tt,
              (
                owns_here s (played inv.0 s) c.args.place c.args.len c.loop-i.i now.0 now.3 o below,
                tt,
              ),
            ),
          ),
    )

pub returns : goal.returns
returns g c = let inv = c.loop-i.invariant in record {
  events = inv.0;
  ran = inv.1;
  stores = inv.2;
  touches = inv.3;
  rewrites = λ s o. let now = inv.4 s o.0 o.1 in record {
    new = now.0;
    write = write_all (8 * c.loop-i.i) _ c.args.at c.args.bytes.now now.0
        (omega (arith, c.loop-i-test.false, c.div_ceil-i-end.ensures)) now.1;
    wordwise = wordwise_all c.loop-i.i _ c.args.at (length c.args.bytes.now) now.0
        (omega (arith, c.loop-i-test.false, c.div_ceil-i-end.ensures)) now.2;
    left = now.3;
    allowed = now.4;
  };
}

pub overflow_add-place : goal.overflow_add-place
overflow_add-place g c = omega (
  arith,
  (c.requires.config Frames).1,
  c.loop-i-test.true,
  c.div_ceil-i-end.ensures,
  c.requires.memory,
  c.requires.inside,
)

pub overflow_add-place-in-loop-i : goal.overflow_add-place-in-loop-i
overflow_add-place-in-loop-i g c = omega (
  arith,
  (c.requires.config Frames).1,
  c.loop-i-test.true,
  c.div_ceil-i-end.ensures,
  c.requires.memory,
  c.requires.inside,
)
