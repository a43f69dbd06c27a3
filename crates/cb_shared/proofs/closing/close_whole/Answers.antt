use Rattle.std.proofs.Common.{◌∙◌, ◌*◌, get_or, ap, sym, subst}
use Rattle.cb_world.specs.Plain.{IsSized, Words}
use Rattle.std.specs.Slots.{slots_items}
use Rattle.cb_rule.specs.Slot.{Sat}
use Rattle.cb_shared.specs.declared.sealed.Sealed.{Sealed}
use Rattle.cb_shared.specs.Joining.{unpinned_all}
use Rattle.cb_shared.specs.Passes.{record_of}
use Rattle.cb_shared.proofs.Closes.{ends_in, is_closed}
use Rattle.cb_shared.proofs.Filled.{all_blank, all_put, empty_sized, objects_sized}
use Rattle.cb_shared.proofs.closing.close_whole.Goals as goal

pub take_far-far-requires-clause-home : goal.take_far-far-requires-clause-home
take_far-far-requires-clause-home c = let s = c.args.shared in
    let e = ends_in s.board.shared.key s.config s.key c.requires.of.accepted
    (record_of c.args.pass) (record_of c.give_back.new.pass) c.requires.of.rest c.requires.whole
    (ap (λ (m : Sat). m.0) c.give_back.ensures.2) c.give_back.new.pass.seat.id _ _
    c.close_with-rows.ensures.values.2 in (e.far, e.there)

pub fill_objects-requires-clause-settings : goal.fill_objects-requires-clause-settings
fill_objects-requires-clause-settings c = ap (λ (d : Words). d.settings) c.requires.desk

pub fill_objects-requires-clause-sized : goal.fill_objects-requires-clause-sized
fill_objects-requires-clause-sized c =
    subst IsSized (sym c.requires.desk) (empty_sized c.args.shared.config)

pub fill_memory-requires-clause-settings : goal.fill_memory-requires-clause-settings
fill_memory-requires-clause-settings c = ap (λ (d : Words). d.settings) c.fill_objects.ensures
    ∙ ap (λ (d : Words). d.settings) c.requires.desk

pub fill_memory-requires-clause-sized : goal.fill_memory-requires-clause-sized
fill_memory-requires-clause-sized c = let k = c.args.shared.config in
    subst IsSized (sym c.fill_objects.ensures) (objects_sized k
    (slots_items c.close_with-rows.result.words) c.args.still.desk
    (ap (λ (d : Words). d.settings) c.requires.desk)
    (subst IsSized (sym c.requires.desk) (empty_sized k)))

pub fill_memory-requires-clause-blank : goal.fill_memory-requires-clause-blank
fill_memory-requires-clause-blank c i =
    ap (λ (d : Words). get_or d.memory i 0) c.fill_objects.ensures
    ∙ ap (λ (d : Words). get_or d.memory i 0) c.requires.desk
    ∙ all_blank (512 * c.args.shared.config.frames) i

pub returns : goal.returns
returns c = let s = c.args.shared in let v = record_of c.args.pass in
    let under = c.seal-seal.ensures in
    let back = ap (λ (m : Sat). m.0) c.give_back.ensures.2 in
    let ws = slots_items c.close_with-rows.result.words in
    let slots = slots_items c.close_with-rows.result.slots in record {
      whole = c.requires.whole;
      view = ap (λ (x : Sealed). x.view) under ∙ c.of-draft.ensures ∙ back;
      world = ap (λ (x : Sealed). x.world) under;
      closed = is_closed s.board.shared.key.first s.config (unpinned_all v) ws slots
          (ends_in s.board.shared.key s.config s.key c.requires.of.accepted v
          (record_of c.give_back.new.pass) c.requires.of.rest c.requires.whole back
          c.give_back.new.pass.seat.id ws slots c.close_with-rows.ensures.values.2)
          _ (all_put s.config ws c.args.still.desk (ap (λ (d : Words). d.settings) c.requires.desk) _ _
          c.fill_objects.ensures c.fill_memory.ensures) c.take_far-far.ensures c.requires.seats;
      orders = c.requires.of.rest.orders;
    }
