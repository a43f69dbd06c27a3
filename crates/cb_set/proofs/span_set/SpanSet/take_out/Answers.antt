use Rattle.std.proofs.Common.{◌≡◌, false, List, Option, ℕ, is_some, ap, sym, ◌∙◌}
use Rattle.std.specs.List.{list_any}
use Rattle.cb_set.specs.SetState.{PositionState, SetState, dead_position, position_of, with_cleared, with_position}
use Rattle.cb_set.proofs.Changes.{position_here, position_twice, without_last}
use Rattle.cb_set.proofs.span_set.SpanSet.take_out.Goals as goal

pub returns-then-not-names_a_handle-clause-left : goal.returns-then-not-names_a_handle-clause-left
returns-then-not-names_a_handle-clause-left c =
    let set = c.args.self.now in let p = c.args.position in
    let content = position_of set p in
    let cleared = with_cleared content c.args.slot in
    let slots : c.slots.result.now ≡ cleared.slots = c.slots.ensures
    ∙ ap (λ (s : SetState). (position_of s p).slots) c.clear.ensures.cleared
    ∙ ap (λ (q : PositionState). q.slots) (position_here set p cleared c.requires) in
    let none : list_any (λ x. is_some x) cleared.slots ≡ false =
    sym (ap (λ (l : List (Option ℕ)). list_any (λ x. is_some x) l) slots)
    ∙ sym c.names_a_handle.ensures ∙ c.if-not-names_a_handle.true in
    c.kill.ensures.killed
    ∙ ap (λ (s : SetState). with_position s p dead_position) c.clear.ensures.cleared
    ∙ position_twice set p cleared dead_position
    ∙ ap (with_position set p) (sym (without_last content c.args.slot none))
