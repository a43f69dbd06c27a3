use Rattle.std.proofs.Common.{◌≡◌, length, ap, ◌∙◌, arith}
use Rattle.cb_class.proofs.Laws.{slots_at_most}
use Rattle.cb_set.specs.SetState.{SetState, position_of}
use Rattle.cb_world.specs.Sets.{set_in}
use Rattle.cb_world.specs.FarState.{FarState}
use Rattle.cb_swapin.proofs.Committed.{class_found, found_set, live_position}
use Rattle.cb_swapin.proofs.swapping.span_at.Goals as goal

pub overflow_cast-slots : goal.overflow_cast-slots
overflow_cast-slots c =
    let far = c.args.far.now in let live = c.requires.live in let set = live.0 in
    let p = c.args.position in
    let same : c.unwrap-set.result.now ≡ set =
    found_set c.committed.result c.unwrap-set.result _ set c.committed.ensures c.unwrap-set.ensures
    (ap (λ (q : FarState). set_in q.sets c.args.id.n) c.far.view_is ∙ live.1) in
    let x = live_position c.requires.sound.0 far c.args.id.n p set c.requires.sound.1 live.1 live.2 in
    let most = slots_at_most x.class x.in_table in
    let n : length c.slots-slots.result.now ≡ length (position_of set p).slots =
    ap length c.slots-slots.ensures
    ∙ ap (λ (q : SetState). length (position_of q p).slots) same in
    omega (arith, n, x.sized, most)

pub unwrap-class-requires : goal.unwrap-class-requires
unwrap-class-requires c =
    let far = c.args.far.now in let live = c.requires.live in let set = live.0 in
    let p = c.args.position in
    let same : c.unwrap-set.result.now ≡ set =
    found_set c.committed.result c.unwrap-set.result _ set c.committed.ensures c.unwrap-set.ensures
    (ap (λ (q : FarState). set_in q.sets c.args.id.n) c.far.view_is ∙ live.1) in
    let x = live_position c.requires.sound.0 far c.args.id.n p set c.requires.sound.1 live.1 live.2 in
    class_found c.class_of_span.result c.pages.result (length c.slots-slots.result.now)
    c.class_of_span.ensures.none x.class x.in_table
    (c.pages.ensures ∙ ap (λ (q : SetState). q.pages) same ∙ x.paged)
    (ap length c.slots-slots.ensures
    ∙ ap (λ (q : SetState). length (position_of q p).slots) same ∙ x.sized)
