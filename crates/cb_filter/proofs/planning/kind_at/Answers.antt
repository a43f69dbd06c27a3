use Rattle.std.proofs.Common.{ℕ, ap, ◌∙◌, subst, Some}
use Rattle.cb_span.specs.Contents.{Contents}
use Rattle.cb_span.specs.Places.{frame_of}
use Rattle.cb_world.specs.FarState.{FarState, span_in}
use Rattle.cb_world.proofs.Laws.{TellsHolder}
use Rattle.cb_filter.proofs.Seated.{seat_span, no_seat, not_held}
use Rattle.cb_filter.proofs.planning.kind_at.Goals as goal

pub returns-in_default : goal.returns-in_default
returns-in_default c = λ seat x. absurd
    (not_held c.args.far.now c.args.place c.holder.result seat x
    (subst (λ (far : FarState). TellsHolder far.spans (frame_of c.args.place) c.holder.result)
    c.far.view_is (subst (λ (i : ℕ). TellsHolder c.far.inside.spans i c.holder.result)
    c.place_frame.ensures c.holder.ensures.holder)) c.in_default.not-Some)

pub returns-in-Some-get : goal.returns-in-Some-get
returns-in-Some-get c = λ seat x.
    let held = subst (λ (far : FarState).
    TellsHolder far.spans (frame_of c.args.place) c.holder.result)
    c.far.view_is (subst (λ (i : ℕ). TellsHolder c.far.inside.spans i c.holder.result)
    c.place_frame.ensures c.holder.ensures.holder) in
    let e = seat_span c.args.far.now c.args.place c.in-Some.frame c.holder.result seat
    c.in-Some-get.span.now x held c.in-Some.is (c.in-Some-get.ensures.span
    ∙ ap (λ (far : FarState). span_in far.spans c.in-Some.frame) c.far.view_is) in
    let class = c.class.ensures.class ∙ ap (λ (span : Contents). span.class) e in
    let temp = c.temp.ensures ∙ ap (λ (span : Contents). span.temp) e in
    (λ i. Some (record { class = class i; temp = temp i }))

pub returns-in-None : goal.returns-in-None
returns-in-None c = λ seat x.
    let held = subst (λ (far : FarState).
    TellsHolder far.spans (frame_of c.args.place) c.holder.result)
    c.far.view_is (subst (λ (i : ℕ). TellsHolder c.far.inside.spans i c.holder.result)
    c.place_frame.ensures c.holder.ensures.holder) in
    absurd (no_seat c.args.far.now c.args.place c.in-Some.frame c.holder.result seat x held
    c.in-Some.is (c.in-None.ensures.span
    ∙ ap (λ (far : FarState). span_in far.spans c.in-Some.frame) c.far.view_is))
