use Rattle.std.proofs.Common.{ℕ, List, [], ◌∷◌, ◌++◌, refl, sym, ap, ◌∙◌, subst, inl, inr}
use Rattle.cb_ptr.specs.declared.word.PtrWord.{PtrWord}
use Rattle.cb_ptr.specs.Word.{hot_of, place_of}
use Rattle.cb_types.specs.declared.config.Config.{Config}
use Rattle.cb_types.specs.declared.reply.Reply.TheVariants as answer
use Rattle.cb_world.specs.declared.access.Access.TheVariants.{Settled}
use Rattle.cb_world.specs.declared.shown.Shown.{Shown}
use Rattle.cb_world.specs.FarState.{FarState}
use Rattle.cb_world.specs.Played.{played}
use Rattle.cb_world.specs.Released.{IsSlotAt}
use Rattle.cb_world.proofs.Laws.{may_put_back, settled_here, back_written}
use Rattle.cb_filter.specs.Seats.{Seat, temp_for}
use Rattle.cb_filter.specs.Copies.{IsVacant, copied_from}
use Rattle.cb_filter.specs.Plans.{LiesAtPlace, Plans}
use Rattle.cb_filter.specs.ClaimEnds.{IsCarried, IsKnownAt}
use Rattle.cb_filter.proofs.Copied.{copied_no_look, copied_told, copied_first, copied_settle_last}
use Rattle.cb_filter.proofs.Cooled.{may_cool, cooled, IsCopied, carried, carry_allowed, agree_first}
use Rattle.cb_filter.proofs.Berths.{lies_beside, moved_far}
use Rattle.cb_filter.proofs.filtering.filter_claimed.Goals as goal

pub carry-requires-clause-ready : goal.carry-requires-clause-ready
carry-requires-clause-ready g c =
    let far = c.args.far.now in let w = c.args.word in let h = c.args.h.n in
    let seat = c.requires.seat in let had = c.requires.ready in let known = had.2.2 in
    let plan = subst (Plans far c.plan_move.new.far (temp_for (hot_of w)) h seat.0) c.in-Move.is
    (c.in-Ok.ensures.plan seat.0 seat.1) in (
      had.0,
      had.1,
      subst (IsVacant had.0 h w) (sym plan.4)
          (known.vacant seat.0 plan.0 seat.1 plan.1 plan.2),
      (had.2.0, had.2.1, known.claimed),
    )

pub release-requires : goal.release-requires
release-requires g c =
    let far = c.args.far.now in let w = c.args.word in
    let x = c.requires.seat in let seat = x.0 in
    let plan = subst (Plans far c.plan_move.new.far (temp_for (hot_of w)) c.args.h.n seat)
    c.in-Move.is (c.in-Ok.ensures.plan seat x.1) in
    let lies = subst (λ (q : FarState). LiesAtPlace q (place_of w) seat)
    (sym (c.far.view_is ∙ plan.3))
    (lies_beside far (temp_for (hot_of w)) plan.0 c.args.h.n (place_of w) seat c.requires.frames
    plan.2 x.1 plan.1) in
    record {
      slot = (
        seat.frame,
        seat.number,
        seat.span,
        subst (λ (p : ℕ). IsSlotAt c.far.inside.frames c.far.inside.spans p seat.frame seat.number
            seat.span)
            (sym (ap (λ (p : PtrWord). p.place) c.unpack.ensures.fields)) lies,
      );
    }

pub returns-in-Same-clause-ends : goal.returns-in-Same-clause-ends
returns-in-Same-clause-ends g c =
    let far = c.args.far.now in let w = c.args.word in let h = c.args.h.n in
    let n = c.cool.ensures.0 in let k = c.cool.ensures.1 in
    record {
      events = Settled h n ∷ [];
      ran = c.cool.ensures.2;
      no_look = ((λ w e. e), tt);
      looks_first = (tt, tt);
      settles_last = (tt, tt, tt, tt);
      quiet = λ s. refl;
      allowed = λ s v words z. (may_cool s h w v n words z.1.claimed k, tt);
      ends_so = λ s v words z seat lies.
          let plan = subst (Plans far c.plan_move.new.far (temp_for (hot_of w)) h seat)
          c.in-Same.is (c.in-Ok.ensures.plan seat lies) in
          inl (
            record { same = plan.0; reply = refl; state = plan.1 },
            cooled s h w v n words z.1.claimed k,
          );
    }

pub returns-in-NoSlot-clause-ends : goal.returns-in-NoSlot-clause-ends
returns-in-NoSlot-clause-ends g c =
    let far = c.args.far.now in let w = c.args.word in let h = c.args.h.n in
    record {
      events = Settled h w ∷ [];
      ran = c.settle-in-NoSlot.ensures;
      no_look = ((λ w e. e), tt);
      looks_first = (tt, tt);
      settles_last = (tt, tt, tt, tt);
      quiet = λ s. refl;
      allowed = λ s v words z. (may_put_back s h w v words z.1.claimed, tt);
      ends_so = λ s v words z seat lies.
          let plan = subst (Plans far c.plan_move.new.far (temp_for (hot_of w)) h seat)
          c.in-NoSlot.is (c.in-Ok.ensures.plan seat lies) in
          inr (inl (
            record {
              other = plan.0;
              crammed = plan.1;
              reply = ap (λ (q : Config). answer.NoSlot q.frames) c.config-frames.ensures;
              state = plan.2;
            },
            record {
              settled = settled_here s h w z.1.claimed.free.0;
              nothing = back_written s h w v words z.1.claimed;
            },
          ));
    }

pub returns-in-Move-clause-ends : goal.returns-in-Move-clause-ends
returns-in-Move-clause-ends g c =
    let far = c.args.far.now in let w = c.args.word in let h = c.args.h.n in
    let temp = temp_for (hot_of w) in let from = place_of w in let place = c.in-Move.place in
    let did = c.carry.ensures in let copied = did.0 in let n = did.1 in let count = did.2 in
    let k = did.3 in
    let es = copied_from from place copied ++ Settled h n ∷ [] in
    let plans = λ (seat : Seat) (lies : LiesAtPlace far from seat).
    subst (Plans far c.plan_move.new.far temp h seat) c.in-Move.is
    (c.in-Ok.ensures.plan seat lies) in
    let known = λ (s : Shown) (v : ℕ) (words : List ℕ)
    (z : g.D.Desk.shows c.args.desk.now s × IsKnownAt s far h w v words).
    let seat = c.requires.seat in let plan = plans seat.0 seat.1 in
    let x : IsCopied s h w v place words copied = record {
      claimed = z.1.claimed;
      vacant = subst (IsVacant s h w) (sym plan.4)
          (z.1.vacant seat.0 plan.0 seat.1 plan.1 plan.2);
      count = count;
      agree = agree_first (copied_from from place copied) (Settled h n ∷ []) s
          (g.met.D.Desk.follows _ _ es s did.4 z.0).0;
    } in x in
    record {
      events = es;
      ran = did.4;
      no_look = copied_no_look h from place copied (Settled h n ∷ []) ((λ w e. e), tt);
      looks_first = copied_first from place copied (Settled h n ∷ []) tt (tt, tt);
      settles_last = copied_settle_last from place copied (Settled h n ∷ []) (tt, tt, tt, tt);
      quiet = λ s. copied_told from place copied (Settled h n ∷ []) s;
      allowed = λ s v words z. carry_allowed s h w v place n words copied (known s v words z) k;
      ends_so = λ s v words z seat lies.
          let plan = plans seat lies in
          let there = subst (λ (q : FarState). LiesAtPlace q from seat)
          (sym (c.far.view_is ∙ plan.3))
          (lies_beside far temp plan.0 h from seat c.requires.frames plan.2 lies plan.1) in
          let at = subst (λ (p : ℕ). IsSlotAt c.far.inside.frames c.far.inside.spans p seat.frame seat.number
          seat.span)
          (sym (ap (λ (p : PtrWord). p.place) c.unpack.ensures.fields)) there in
          inr (inr (
            plan.0,
            record {
              other = plan.1;
              chosen = plan.2;
              reply = refl;
              state = moved_far far _ c.release.new.frames c.release.new.spans seat
                  plan.0 h (c.far.view_is ∙ plan.3)
                  (c.release.ensures.spans seat.frame seat.number seat.span at)
                  (c.release.ensures.frames seat.frame seat.number seat.span at);
            },
            subst (λ (p : ℕ). IsCarried s h w p words es (played es s)) plan.4
                (carried s h w v place n words copied (known s v words z) k),
          ));
    }
