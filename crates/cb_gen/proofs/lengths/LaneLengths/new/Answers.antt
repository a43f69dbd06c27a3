use Rattle.std.proofs.Common.{◌≡◌, ℕ, ◌+◌, List, [], ◌∷◌, ◌++◌, length, get_or, ap, ◌∙◌, length-append}
use Rattle.cb_gen.proofs.OneLine.{blank_more}
use Rattle.cb_gen.proofs.lengths.LaneLengths.new.Goals as goal

pub loop-lane-preserved : goal.loop-lane-preserved
loop-lane-preserved c =
    let lists = c.loop-lane.lanes.items in
    let more : c.push.new.self.items ≡ lists ++ [] ∷ [] =
    c.in_ok-push.ensures.items ∙ ap (λ (made : List ℕ). lists ++ made ∷ []) c.new.ensures.items in
    record {
      places = ap length more ∙ length-append lists ([] ∷ [])
          ∙ ap (λ (n : ℕ). n + 1) c.loop-lane.invariant.places;
      empty = λ lane. ap (λ (made : List (List ℕ)). get_or made lane []) more
          ∙ blank_more lists c.loop-lane.invariant.empty lane;
    }
