-- What a filter leaves of the words of sets: no set changes.
use Rattle.std.proofs.Common.{◌≡◌, ℕ, List, refl, sym, subst, inl, inr}
use Rattle.cb_ptr.specs.declared.word.State.{State}
use Rattle.cb_ptr.specs.declared.word.State.TheVariants as state
use Rattle.cb_ptr.specs.Word.{hot_of, state_of}
use Rattle.cb_types.specs.declared.reply.Reply.{Reply}
use Rattle.cb_world.specs.declared.access.Access.{Access}
use Rattle.cb_world.specs.FarState.{FarState}
use Rattle.cb_world.specs.Orders.{LeavesWords}
use Rattle.cb_world.proofs.Laws.{alike_leaves_words, words_stay}
use Rattle.cb_filter.specs.FilterRule.{FilterAs, FilterRule, FilterSeated}
use Rattle.cb_filter.specs.Seats.{Seat, temp_for, with_moved}

same_leaves : (far new : FarState) → new ≡ far → LeavesWords far new
same_leaves far new e = subst (LeavesWords far) (sym e) (words_stay far)

pub filter_leaves_words : (frames h : ℕ) (far new : FarState) (r : Reply) (es : List Access)
    → FilterRule frames h far new r es → LeavesWords far new
filter_leaves_words frames h far new r es x = by (state_of x.word) x.answer
  where
    seated : (seat : Seat) → FilterSeated frames far new (temp_for (hot_of x.word)) h seat r
        → LeavesWords far new
    seated seat (inl place) = same_leaves far new place.state
    seated seat (inr (inl none)) = same_leaves far new none.state
    seated seat (inr (inr (slot, gets))) = subst (LeavesWords far) (sym gets.state)
        (alike_leaves_words far (with_moved far seat slot h) refl refl refl refl
        (λ id p shard of. refl))

    by : (q : State) → FilterAs q frames h x.word far new r es → LeavesWords far new
    by state.Here (inl z) = same_leaves far new z.2
    by state.Here (inr z) = seated z.1.0 z.1.2
    by state.Empty z = same_leaves far new z.1
    by state.Far z = same_leaves far new z.1
    by state.Moving z = same_leaves far new z.1
