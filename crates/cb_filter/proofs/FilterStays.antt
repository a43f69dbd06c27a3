-- What a filter leaves of the configured sizes and codes, and of what is counted.
use Rattle.std.proofs.Common.{ℕ, List, refl, sym, ◌∙◌, subst, arith, inl, inr, length-set}
use Rattle.cb_ptr.specs.declared.word.State.{State}
use Rattle.cb_ptr.specs.declared.word.State.TheVariants as state
use Rattle.cb_ptr.specs.Word.{hot_of, state_of}
use Rattle.cb_types.specs.declared.config.Config.{Config}
use Rattle.cb_types.specs.declared.reply.Reply.{Reply}
use Rattle.cb_world.specs.declared.access.Access.{Access}
use Rattle.cb_world.specs.FarState.{FarState}
use Rattle.cb_world.specs.Placed.{with_object}
use Rattle.cb_world.proofs.Laws.{codes_stay, IsLike, StaysIf, stays_like, stays_same}
use Rattle.cb_filter.specs.FilterRule.{FilterAs, FilterRule, FilterSeated}
use Rattle.cb_filter.specs.Seats.{Seat, temp_for, with_moved}

pub filter_stays : (c : Config) (frames h : ℕ) (far new : FarState) (r : Reply) (es : List Access)
    → FilterRule frames h far new r es → StaysIf c 1 far new
filter_stays c frames h far new r es x = by (state_of x.word) x.answer
  where
    seated : (seat : Seat) → FilterSeated frames far new (temp_for (hot_of x.word)) h seat r
        → StaysIf c 1 far new
    seated seat (inl place) = stays_same c 1 far new (omega arith) place.state
    seated seat (inr (inl none)) = stays_same c 1 far new (omega arith) none.state
    seated seat (inr (inr (slot, gets))) =
        stays_like c 1 far new (omega arith) (subst (IsLike far) (sym gets.state) (record {
          spans = length-set (with_object far slot h).spans seat.frame _
              ∙ length-set far.spans slot.frame _;
          homes = refl;
          nodes = refl;
          room = refl;
          codes = codes_stay far (with_moved far seat slot h) refl refl refl refl;
          counts = refl;
          note = λ n e. e;
          epoch = omega arith;
          given = refl;
        }))

    by : (q : State) → FilterAs q frames h x.word far new r es → StaysIf c 1 far new
    by state.Here (inl z) = stays_same c 1 far new (omega arith) z.2
    by state.Here (inr z) = seated z.1.0 z.1.2
    by state.Empty z = stays_same c 1 far new (omega arith) z.1
    by state.Far z = stays_same c 1 far new (omega arith) z.1
    by state.Moving z = stays_same c 1 far new (omega arith) z.1
