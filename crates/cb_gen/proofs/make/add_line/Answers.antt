use Rattle.std.proofs.Common.{◌≡◌, ℕ, ◌+◌, ◌<◌, ◌==◌, ◌++◌, List, [], ◌∷◌, cond, get_or, length, ap, sym, subst, ◌∙◌, arith}
use Rattle.std.specs.List.{All}
use Rattle.std.proofs.lemmas.Result.{on_ok_weaker}
use Rattle.cb_types.specs.declared.request.Request.{Request}
use Rattle.cb_gen.specs.Drawn.{length_made, lengths_of}
use Rattle.cb_gen.specs.Draws.{drawn, next_state}
use Rattle.cb_gen.proofs.Actions.{made_short}
use Rattle.cb_gen.proofs.OneLine.{both_ok, line_added, lengths_few, noted_more}
use Rattle.cb_gen.proofs.make.add_line.Goals as goal

pub draw_request-requires : goal.draw_request-requires
draw_request-requires c =
    let lines = c.args.lines.now in
    let lane = 1 + c.below.result in
    let is : c.of.result.now ≡ lengths_of lines lane = c.of.ensures ∙ c.requires.noted.noted lane in
    omega (arith, ap length is, lengths_few lines lane, c.requires.few)

pub of-requires : goal.of-requires
of-requires c =
    omega (arith, c.below.ensures.low, c.requires.lanes.1, c.requires.noted.places)

pub note-requires : goal.note-requires
note-requires c =
    omega (arith, c.below.ensures.low, c.requires.lanes.1, c.requires.noted.places)

pub length_made-len-requires : goal.length_made-len-requires
length_made-len-requires c =
    subst (λ (r : Request). All (λ len. len < 256) (length_made r))
    (sym c.in_ok-request.ensures.request)
    (made_short c.below-action.result c.below-action.new.self.state
    (1 + c.below.result) c.of.result.now)

pub returns-clause-line : goal.returns-clause-line
returns-clause-line c =
    on_ok_weaker c.note.result (λ done.
    line_added c.args.lanes c.args.draws.now.state
    (1 + c.below.result) c.below-action.result c.below-action.new.self.state
    c.draw_request.new.draws.state c.of.result.now c.in_ok-request.request c.args.lines.now
    c.push.new.self
    (ap (λ (n : ℕ). 1 + n) c.below.ensures.drawn) (c.below-action.ensures.drawn
    ∙ ap (λ (s : ℕ). drawn s 0 16) c.below.ensures.left) (c.below-action.ensures.left
    ∙ ap next_state c.below.ensures.left) (c.of.ensures
    ∙ c.requires.noted.noted _) c.in_ok-request.ensures.request c.in_ok-request.ensures.left
    (c.in_ok-push.ensures.ok
    ∙ (λ i. c.args.lines.now ++ record {
      lane = record { n = 1 + c.below.result };
      line = length (c.as_slice.ensures.items i) + 2;
      request = c.in_ok-request.request;
    } ∷ []))) c.note.ensures.places

pub returns-clause-noted : goal.returns-clause-noted
returns-clause-noted c =
    both_ok c.note.result (λ places noted.
    noted_more c.args.made.now c.note.new.self c.args.lines.now c.push.new.self _ c.requires.noted
    places (λ other.
    noted other ∙ ap (λ (len : List ℕ). get_or c.args.made.now other [] ++ cond
    (1 + c.below.result == other) len []) c.length_made-len.ensures) c.in_ok-push.ensures.ok)
    c.note.ensures.places c.note.ensures.noted
