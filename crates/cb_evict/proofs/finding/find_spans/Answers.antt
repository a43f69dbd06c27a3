use Rattle.std.proofs.lemmas.Result.{IfOk-from_err}
use Rattle.std.proofs.Common.{◌≡◌, ◌≢◌, ℕ, ◌≤◌, List, length, get_or, All, Some, refl, sym, ap, ◌∙◌, subst, arith, inl, inr}
use Rattle.std.specs.List.{AllPairs}
use Rattle.cb_span.specs.Contents.{Contents}
use Rattle.cb_member.specs.declared.names.Code.{Code}
use Rattle.cb_types.specs.declared.config.Field.TheVariants.{Frames, Nodes}
use Rattle.cb_types.specs.declared.reply.Reply.TheVariants as answer
use Rattle.cb_world.specs.Choices.{room_count}
use Rattle.cb_world.specs.FarState.{FarState, span_in}
use Rattle.cb_evict.specs.Candidates.{AreUnique, candidates}
use Rattle.cb_evict.proofs.Composed.{any_err, counted_as, looks_as, looks_tried, most_counted}
use Rattle.cb_evict.proofs.LooseLengths.{enough_some, fewer_none, most_within}
use Rattle.cb_evict.proofs.Ending.{place_in}
use Rattle.cb_evict.proofs.Framing.{candidates_few}
use Rattle.cb_evict.proofs.Loose.{loose_among}
use Rattle.cb_evict.proofs.Standing.{are_unique, is_standing, candidates_apart}
use Rattle.cb_evict.proofs.finding.find_spans.Goals as goal

pub returns-in_err-frames-clause-error : goal.returns-in_err-frames-clause-error
returns-in_err-frames-clause-error g c = any_err _ _ (g.met.D.Desk.none _)

pub returns-in_err-loose-clause-error : goal.returns-in_err-loose-clause-error
returns-in_err-loose-clause-error g c = any_err _ _ (g.met.D.Desk.none _)

pub find_loose-requires-clause-there : goal.find_loose-requires-clause-there
find_loose-requires-clause-there g c =
    subst (λ (l : List ℕ). All (λ f. (span : _) × (span_in c.far.inside.spans f ≡ Some span)) l)
    (sym (c.deref.ensures.value ∙ c.in_ok-frames.ensures.frames))
    (λ k d l.
    let x = is_standing c.args.far.now (get_or (candidates c.args.far.now) k d)
    (place_in (candidates c.args.far.now) k d l) in (
      x.span,
      ap (λ (far : FarState). span_in far.spans (get_or (candidates c.args.far.now) k d)) c.far.view_is ∙ x.there,
    ))

pub find_loose-requires-clause-unique : goal.find_loose-requires-clause-unique
find_loose-requires-clause-unique g c =
    let sized = g.met.D.Desk.sized _ c.requires.sound.0 c.requires.sound.1 in
    subst (λ (far : FarState). AreUnique far.spans (g.D.Desk.settings c.args.desk.now).handles)
    (sym c.far.view_is)
    (are_unique c.args.far.now c.requires.sound.0 _ c.requires.sound.2.here sized.0)

pub candidates-requires : goal.candidates-requires
candidates-requires g c = record {
  count = let n = c.requires.config Frames in omega (arith, n.1, c.requires.configured.frames);
}

pub find_loose-requires-clause-apart : goal.find_loose-requires-clause-apart
find_loose-requires-clause-apart g c =
    subst (λ (l : List ℕ). AllPairs (λ f h. f ≢ h) l)
    (sym (c.deref.ensures.value ∙ c.in_ok-frames.ensures.frames)) (candidates_apart c.args.far.now)

pub returns-then-most-code-clause-found : goal.returns-then-most-code-clause-found
returns-then-most-code-clause-found g c =
    let k = ap (λ (x : Code). x.k) c.in_force-code.ensures in
    let most = most_counted _ _ _ _ (ap (λ (far : FarState). far.spans) c.far.view_is)
    c.deref-2.ensures.value c.count_lengths-counts.ensures c.most-most.ensures in
    let nodes = c.nodes_with_room-nodes.ensures
    ∙ ap (λ (far : FarState). room_count far.nodes far.members) c.far.view_is in record {
      loose = c.find_loose.new.loose.items;
      tries = looks_tried c.args.far.now c.find_loose.new.loose.items
          (looks_as _ _ _ _ _ _ _
          (ap (λ (far : FarState). far.spans) c.far.view_is) (c.deref.ensures.value ∙ c.in_ok-frames.ensures.frames) refl c.find_loose.ensures.looks);
      few = inl (record {
        few = fewer_none c.args.far.now.code.k c.args.far.now.spans c.find_loose.new.loose.items
            (omega (arith, k, c.if-most-code.true, most));
        reply = ap answer.NoSpans most;
        state = refl;
      });
      counts = (most, nodes);
    }

pub overflow_add-code : goal.overflow_add-code
overflow_add-code g c =
    let range = c.requires.configured.codes.force.range in
    let most = range.data_most in let more = range.parities_most in let code = c.in_force-code.ensures in
    let k = ap (λ (x : Code). x.k) code in let r = ap (λ (x : Code). x.r) code in
    omega (arith, most, more, k, r)

pub nodes_with_room-nodes-requires-clause-counted : goal.nodes_with_room-nodes-requires-clause-counted
nodes_with_room-nodes-requires-clause-counted g c =
    subst (λ (far : FarState). length far.nodes.nodes ≡ length far.members.nodes) (sym c.far.view_is)
    c.requires.sound.2.away.sound.rows.counted

pub nodes_with_room-nodes-requires-clause-few : goal.nodes_with_room-nodes-requires-clause-few
nodes_with_room-nodes-requires-clause-few g c =
    let n = c.requires.config Nodes in let nodes = c.requires.configured.nodes in
    subst (λ (far : FarState). length far.nodes.nodes ≤ 256) (sym c.far.view_is)
    (omega (arith, n.1, nodes))

pub returns-then-nodes-code-clause-found : goal.returns-then-nodes-code-clause-found
returns-then-nodes-code-clause-found g c =
    let k = ap (λ (x : Code). x.k) c.in_force-code.ensures in
    let r = ap (λ (x : Code). x.r) c.in_force-code.ensures in
    let most = most_counted _ _ _ _ (ap (λ (far : FarState). far.spans) c.far.view_is)
    c.deref-2.ensures.value c.count_lengths-counts.ensures c.most-most.ensures in
    let nodes = c.nodes_with_room-nodes.ensures
    ∙ ap (λ (far : FarState). room_count far.nodes far.members) c.far.view_is in record {
      loose = c.find_loose.new.loose.items;
      tries = looks_tried c.args.far.now c.find_loose.new.loose.items
          (looks_as _ _ _ _ _ _ _
          (ap (λ (far : FarState). far.spans) c.far.view_is) (c.deref.ensures.value ∙ c.in_ok-frames.ensures.frames) refl c.find_loose.ensures.looks);
      few = inr (record {
        enough = enough_some c.args.far.now.code.k c.args.far.now.spans c.find_loose.new.loose.items
            (omega (arith, k, c.if-most-code.false, most));
        few = omega (arith, nodes, k, r, c.if-nodes-code.true);
        reply = ap answer.NoNodes nodes;
        state = refl;
      });
      counts = (most, nodes);
    }

pub returns-clause-found : goal.returns-clause-found
returns-clause-found g c =
    let k = ap (λ (x : Code). x.k) c.in_force-code.ensures in
    let r = ap (λ (x : Code). x.r) c.in_force-code.ensures in
    let most = most_counted _ _ _ _ (ap (λ (far : FarState). far.spans) c.far.view_is)
    c.deref-2.ensures.value c.count_lengths-counts.ensures c.most-most.ensures in
    let nodes = c.nodes_with_room-nodes.ensures
    ∙ ap (λ (far : FarState). room_count far.nodes far.members) c.far.view_is in record {
      looks = looks_as _ _ _ _ _ _ _ (ap (λ (far : FarState). far.spans) c.far.view_is)
          (c.deref.ensures.value ∙ c.in_ok-frames.ensures.frames) refl c.find_loose.ensures.looks;
      counted = counted_as _ _ _ _ (ap (λ (far : FarState). far.spans) c.far.view_is)
          c.deref-2.ensures.value c.count_lengths-counts.ensures;
      enough = enough_some c.args.far.now.code.k c.args.far.now.spans c.find_loose.new.loose.items
          (omega (arith, k, c.if-most-code.false, most));
      room = omega (arith, nodes, k, r, c.if-nodes-code.false);
      nodes = nodes;
    }

pub returns-in_err-frames-clause-found : goal.returns-in_err-frames-clause-found
returns-in_err-frames-clause-found g c = IfOk-from_err _ _ c.from_residual.ensures.0

pub returns-in_err-loose-clause-found : goal.returns-in_err-loose-clause-found
returns-in_err-loose-clause-found g c = IfOk-from_err _ _ c.from_residual-in_err-loose.ensures.0

pub returns-then-most-code-clause-error : goal.returns-then-most-code-clause-error
returns-then-most-code-clause-error g c = tt

pub returns-then-nodes-code-clause-error : goal.returns-then-nodes-code-clause-error
returns-then-nodes-code-clause-error g c = tt

pub returns-clause-error : goal.returns-clause-error
returns-clause-error g c = tt

pub overflow_cast-most : goal.overflow_cast-most
overflow_cast-most g c =
    let few = candidates_few c.args.far.now in let n = c.requires.config Frames in
    let frames = c.requires.configured.frames in
    let found = ap (λ (l : List ℕ). length l) (c.deref.ensures.value ∙ c.in_ok-frames.ensures.frames) in
    let most = most_counted _ _ _ _ refl c.deref-2.ensures.value c.count_lengths-counts.ensures
    c.most-most.ensures in
    let within = most_within c.far.inside.spans c.find_loose.new.loose.items in
    omega (arith, few, n.1, frames, found, c.find_loose.ensures.few, within, most)

pub count_lengths-counts-requires-clause-there : goal.count_lengths-counts-requires-clause-there
count_lengths-counts-requires-clause-there g c =
    subst (λ (l : List ℕ). All (λ f. (span : Contents) × (span_in c.far.inside.spans f ≡ Some span)) l)
    (sym c.deref-2.ensures.value)
    (λ k d l.
    let loose = c.find_loose.new.loose.items in let far = c.args.far.now in
    let x = looks_as _ _ _ _ _ _ _ (ap (λ (far : FarState). far.spans) c.far.view_is)
    (c.deref.ensures.value ∙ c.in_ok-frames.ensures.frames) refl c.find_loose.ensures.looks in
    let y = is_standing far (get_or loose k d)
    (loose_among x.events far.spans (candidates far) loose (get_or loose k d) x.done.1
    (place_in loose k d l)) in (
      y.span,
      ap (λ (far : FarState). span_in far.spans (get_or loose k d)) c.far.view_is ∙ y.there,
    ))

pub count_lengths-counts-requires-clause-few : goal.count_lengths-counts-requires-clause-few
count_lengths-counts-requires-clause-few g c =
    let few = candidates_few c.args.far.now in let n = c.requires.config Frames in
    let frames = c.requires.configured.frames in
    let found = ap (λ (l : List ℕ). length l) (c.deref.ensures.value ∙ c.in_ok-frames.ensures.frames) in
    let loose = ap (λ (l : List ℕ). length l) c.deref-2.ensures.value in
    omega (arith, few, n.1, frames, found, c.find_loose.ensures.few, loose)
