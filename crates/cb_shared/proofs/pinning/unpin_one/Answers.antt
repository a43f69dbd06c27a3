use Rattle.std.proofs.Common.{◌∙◌, ℕ, List, sym, ap, subst}
use Rattle.std.specs.List.{remove}
use Rattle.cb_rule.specs.Slot.{Sat}
use Rattle.cb_shared.specs.Handles.{IsFirstAt, handles_of}
use Rattle.cb_shared.specs.Seats.{record_at}
use Rattle.cb_shared.proofs.Unpinned.{first_there, handles_removed}
use Rattle.cb_shared.proofs.pinning.unpin_one.Goals as goal

pub newest-at-requires : goal.newest-at-requires
newest-at-requires c =
    let is = c.as_slice.ensures.value ∙ ap (λ v. v.items) c.deref.ensures ∙ c.requires.pins in
    subst (λ (l : List ℕ). (at : ℕ) × IsFirstAt l c.args.h at) (sym is)
    (first_there (record_at c.args.seat.now).pins c.args.h c.requires.held)

pub returns-clause-pins : goal.returns-clause-pins
returns-clause-pins c =
    let is = c.as_slice.ensures.value ∙ ap (λ v. v.items) c.deref.ensures ∙ c.requires.pins in
    let at = c.newest-at.result in let ps = (record_at c.args.seat.now).pins in
    c.remove.ensures.items ∙ ap (λ v. remove v.items at) c.deref_mut.ensures.value
    ∙ ap (λ (l : List ℕ). remove l at) c.requires.pins
    ∙ sym (handles_removed ps c.args.h at
    (subst (λ (l : List ℕ). IsFirstAt l c.args.h at) is c.newest-at.ensures))
    ∙ ap (λ (m : Sat). handles_of m.0.pins) (sym c.give_pin.ensures.2)
