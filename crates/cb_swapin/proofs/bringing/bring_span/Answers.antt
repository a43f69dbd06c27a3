use Rattle.std.proofs.Common.{◌≡◌, ℕ, List, Option, sym, ap, ◌∙◌, subst, arith}
use Rattle.cb_types.specs.declared.config.Field.TheVariants.{Frames}
use Rattle.cb_class.specs.declared.class.Class.{Class}
use Rattle.cb_class.specs.Class.{pages_of}
use Rattle.cb_world.specs.declared.access.Access.{Access}
use Rattle.cb_world.specs.declared.shown.Shown.{Shown}
use Rattle.cb_world.specs.Played.{played}
use Rattle.cb_swapin.specs.Named.{IsNamed}
use Rattle.cb_swapin.specs.Brings.{BringsSlots, StoresIn}
use Rattle.cb_swapin.specs.Waiting.{AreStored, AreWaiting, IsRunVacant}
use Rattle.cb_swapin.specs.BroughtIn.{Brought, IsSpanBrought}
use Rattle.cb_swapin.proofs.SpanBrought.{span_brought, waiting_stored}
use Rattle.cb_swapin.proofs.bringing.bring_span.Goals as goal

-- a row that was stored in a run, by another count of its frames
abbrev in_run : (runs : List Access → Type 0) (shows : Shown → Type 0)
    (does : Shown → Shown → Type 0) (f n m : ℕ) → n ≡ m
    → Brought runs (λ s. shows s × IsRunVacant s f n) (StoresIn f n) does
    → Brought runs (λ s. shows s × IsRunVacant s f m) (StoresIn f m) does
in_run runs shows does f n m e x =
    let back : (s : Shown) → shows s × IsRunVacant s f m → shows s × IsRunVacant s f n =
    λ s k. (k.0, subst (IsRunVacant s f) (sym e) k.1) in record {
      events = x.events;
      ran = x.ran;
      tells = subst (λ (k : ℕ). StoresIn f k x.events) e x.tells;
      looks_first = x.looks_first;
      allowed = λ s k. x.allowed s (back s k);
      nothing = λ s k. x.nothing s (back s k);
      effect = λ s k. x.effect s (back s k);
    }

pub store_row-requires-clause-frames : goal.store_row-requires-clause-frames
store_row-requires-clause-frames g c =
    let e : c.pages.result ≡ pages_of c.args.span.now.class = c.pages.ensures.pages
    ∙ ap pages_of c.class-class.ensures.class in omega (arith, e, c.requires.frames)

pub store_row-requires-clause-numbered : goal.store_row-requires-clause-numbered
store_row-requires-clause-numbered g c =
    let e : c.pages.result ≡ pages_of c.args.span.now.class = c.pages.ensures.pages
    ∙ ap pages_of c.class-class.ensures.class in
    omega (arith, e, c.requires.frames, (c.requires.config Frames).1)

pub store_row-requires-clause-row : goal.store_row-requires-clause-row
store_row-requires-clause-row g c =
    let e : c.pages.result ≡ pages_of c.args.span.now.class = c.pages.ensures.pages
    ∙ ap pages_of c.class-class.ensures.class in omega (arith, e, c.requires.row)

pub store_row-requires-clause-vacant : goal.store_row-requires-clause-vacant
store_row-requires-clause-vacant g c =
    let had = c.requires.waiting in
    let e : c.pages.result ≡ pages_of c.args.span.now.class = c.pages.ensures.pages
    ∙ ap pages_of c.class-class.ensures.class in
    (had.0, had.1, subst (IsRunVacant had.0 c.args.frame) (sym e) had.2.vacant)

pub bring_all-requires-clause-homes : goal.bring_all-requires-clause-homes
bring_all-requires-clause-homes g c h named =
    c.requires.homes h (subst (λ (l : List (Option ℕ)). IsNamed l h) c.slots.ensures.slots named)

pub bring_all-requires-clause-stored : goal.bring_all-requires-clause-stored
bring_all-requires-clause-stored g c =
    let had = c.requires.waiting in let s = had.0 in
    let span = c.args.span.now in let f = c.args.frame in let class = c.class-class.result in
    let same : class ≡ span.class = c.class-class.ensures.class in
    let a = in_run _ _ _ f c.pages.result (pages_of class) c.pages.ensures.pages
    c.store_row.ensures in
    let t = played a.events s in (
      t,
      (g.met.D.Desk.follows _ _ a.events s a.ran had.1).1,
      subst (λ (l : List (Option ℕ)). AreStored t f class l) (sym c.slots.ensures.slots)
          (subst (λ (k : Class). AreStored t f k span.slots) (sym same)
          (waiting_stored s t f span.class span.slots c.args.row.now c.requires.row
          c.slots.ensures.valid.sized had.2 (a.effect s (
            had.1,
            subst (λ (q : Class). IsRunVacant s f (pages_of q)) (sym same) had.2.vacant,
          )))),
    )

pub returns-clause-brought : goal.returns-clause-brought
returns-clause-brought g c =
    let span = c.args.span.now in let f = c.args.frame in let row = c.args.row.now in
    let slots = c.slots.result.now in let class = c.class-class.result in
    let same : class ≡ span.class = c.class-class.ensures.class in
    let a = in_run _ _ _ f c.pages.result (pages_of class) c.pages.ensures.pages
    c.store_row.ensures in
    let b = c.bring_all.ensures.brought in
    let all : List Access → Type 0 = λ es. g.D.Desk.run c.args.desk.now es c.bring_all.new.desk in
    let knows : Shown → Type 0 = λ s. g.D.Desk.shows c.args.desk.now s
    × AreWaiting s f span.class span.slots row in
    let vacant : (s : Shown) → knows s → IsRunVacant s f (pages_of class) =
    λ s k. subst (λ (q : Class). IsRunVacant s f (pages_of q)) (sym same) k.1.vacant in
    subst (λ (l : List (Option ℕ)).
    Brought all knows (BringsSlots l f (pages_of span.class)) (IsSpanBrought l span.class f row))
    c.slots.ensures.slots
    (subst (λ (k : Class).
    Brought all knows (BringsSlots slots f (pages_of k)) (IsSpanBrought slots k f row)) same
    (span_brought _ _ all _ _ knows slots class f row a b
    (g.met.D.Desk.more _ _ _ _ _ a.ran b.ran) (λ s k. (k.0, vacant s k))
    (λ s k. let t = played a.events s in (
      (g.met.D.Desk.follows _ _ a.events s a.ran k.0).1,
      subst (λ (l : List (Option ℕ)). AreStored t f class l) (sym c.slots.ensures.slots)
          (subst (λ (q : Class). AreStored t f q span.slots) (sym same)
          (waiting_stored s t f span.class span.slots row c.requires.row
          c.slots.ensures.valid.sized k.1 (a.effect s (k.0, vacant s k)))),
    ))))
