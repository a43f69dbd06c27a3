use Rattle.std.proofs.Common.{ℕ, ◌<◌, List, None, get_or, refl, sym, subst, arith}
use Rattle.cb_types.specs.declared.config.Config.{Config}
use Rattle.cb_types.specs.declared.config.Field.TheVariants.{Frames}
use Rattle.cb_class.proofs.Laws.{slots_at_most}
use Rattle.cb_world.specs.declared.access.Access.{Access}
use Rattle.cb_world.specs.declared.shown.Shown.{Shown}
use Rattle.cb_world.specs.Played.{played}
use Rattle.cb_swapin.specs.Waiting.{IsReady}
use Rattle.cb_swapin.specs.BroughtIn.{BringsSlot}
use Rattle.cb_swapin.proofs.SlotNames.{none_cleared, all_cleared, slot_cleared}
use Rattle.cb_swapin.proofs.SlotsBrought.{all_brought, if_some, none_brought, ready_next, slot_brought}
use Rattle.cb_swapin.proofs.bringing.bring_all.Goals as goal

pub loop-slot-init : goal.loop-slot-init
loop-slot-init g c = (
  none_cleared c.args.slots.now c.args.homes.now,
  none_brought _ _ c.args.slots.now c.args.class c.args.frame (g.met.D.Desk.none _),
)

pub overflow_cast-slot : goal.overflow_cast-slot
overflow_cast-slot g c = let most = slots_at_most c.args.class c.requires.class in
    omega (arith, most, c.requires.sized, c.loop-slot-test.true)

pub slot_place-requires-clause-frame : goal.slot_place-requires-clause-frame
slot_place-requires-clause-frame g c =
    omega (arith, (c.requires.config Frames).1, c.requires.frames)

pub bring_slot-requires-clause-handle : goal.bring_slot-requires-clause-handle
bring_slot-requires-clause-handle g c =
    let i = c.loop-slot.slot in let slots = c.args.slots.now in
    let inv = c.loop-slot.invariant in let b = inv.1 in
    let had = c.requires.stored in let s = had.0 in
    let sized = g.met.D.Desk.sized _ s had.1 in
    if_some _ (get_or slots i None) (λ h e. (
      subst (λ (q : Config). h < q.handles) (sym (g.met.D.Desk.stays _ _ _ b.ran))
          (subst (λ (n : ℕ). h < n) sized.0 (had.2.each i h e).handle),
      (let within = c.requires.homes h (i, e) in let n = inv.0.count in
          omega (arith, within, n)),
      (
        played b.events s,
        (g.met.D.Desk.follows _ _ b.events s b.ran had.1).1,
        subst (IsReady (played b.events s) h) (sym c.slot_place.ensures.place)
            (ready_next s (played b.events s) c.args.class c.args.frame i h slots c.requires.class
            c.requires.sized c.requires.apart had.2 (b.effect s (had.1, had.2)) e),
      ),
    ))

pub loop-slot-preserved : goal.loop-slot-preserved
loop-slot-preserved g c =
    let i = c.loop-slot.slot in let slots = c.args.slots.now in
    let inv = c.loop-slot.invariant in let b = inv.1 in
    let last : List Access → Type 0 =
    λ es. g.D.Desk.run c.loop-slot.desk es c.bring_slot.new.desk in
    let later : Shown → Type 0 = λ s. g.D.Desk.shows c.loop-slot.desk s in (
      slot_cleared last later i c.slot_place.result slots c.args.homes.now c.loop-slot.homes
          c.bring_slot.new.homes inv.0 c.requires.homes (get_or slots i None) refl
          c.bring_slot.ensures,
      slot_brought _ last _ _ later i slots c.args.class c.args.frame c.loop-slot.homes
          c.bring_slot.new.homes b
          (λ fs ran. g.met.D.Desk.more _ _ _ _ _ b.ran ran)
          (λ s k. (g.met.D.Desk.follows _ _ b.events s b.ran k.0).1)
          (λ s k. k.1) c.requires.class c.requires.sized c.requires.apart
          (get_or slots i None) refl
          (subst (λ (n : ℕ). BringsSlot last later c.loop-slot.homes c.bring_slot.new.homes n
          (get_or slots i None)) c.slot_place.ensures.place c.bring_slot.ensures),
    )

pub returns-clause-homes : goal.returns-clause-homes
returns-clause-homes g c = all_cleared c.loop-slot.slot c.args.slots.now c.args.homes.now
    c.loop-slot.homes (omega (arith, c.loop-slot-test.false)) c.loop-slot.invariant.0

pub returns-clause-brought : goal.returns-clause-brought
returns-clause-brought g c = all_brought _ _ c.loop-slot.slot c.args.slots.now c.args.class
    c.args.frame (omega (arith, c.loop-slot-test.false)) c.loop-slot.auto.slot-end
    c.loop-slot.invariant.1
