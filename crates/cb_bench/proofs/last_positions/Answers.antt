use Rattle.std.proofs.Common.{◌≡◌, ◌+◌, ◌-◌, ◌<◌, ℕ, length, get_or, take, drop, eqb, true, refl, sym, subst, ◌∙◌, arith}
use Rattle.std.proofs.lemmas.List.{get_or-take, get_or-drop, length-take-le, length-drop, get_or_default}
use Rattle.std.proofs.lemmas.Bool.{eqb-true, agree_below_at, agree_below}
use Rattle.cb_gf256.specs.InRange.{IsInRange}
use Rattle.cb_gf256.specs.Positions.{ArePositions}
use Rattle.cb_bench.specs.declared.TheConstants.{POSITIONS}
use Rattle.cb_bench.proofs.last_positions.Goals as goal

listed : agree_below (λ i. eqb (get_or POSITIONS i 0) i) (λ _. true) 20 ≡ true
listed = refl

at : (i : ℕ) → i < 20 → get_or POSITIONS i 0 ≡ i
at i h = eqb-true _ _ (agree_below_at (λ i. eqb (get_or POSITIONS i 0) i) (λ _. true) 20 i listed h)

part : (k r m : ℕ) → IsInRange k r → m ≡ k → ArePositions (k + r) k (take m (drop r POSITIONS))
part k r m range same =
    let long : length (drop r POSITIONS) ≡ 20 - r = length-drop r POSITIONS in
    let count : length (take m (drop r POSITIONS)) ≡ k = length-take-le m (drop r POSITIONS) (omega (arith, long, range.data_most, range.parities_most)) ∙ same in
    let value : (i : ℕ) → i < k → get_or (take m (drop r POSITIONS)) i 0 ≡ r + i = λ i h.
    get_or-take m (drop r POSITIONS) i 0 (omega arith) ∙ get_or-drop r POSITIONS i 0 ∙ at (r + i) (omega (arith, range.data_most, range.parities_most)) in
    record {
      count = count;
      ascend = λ i h. omega (arith, value i (omega arith), value (i + 1) (omega arith));
      below = λ i d h. omega (arith, get_or_default (take m (drop r POSITIONS)) i d 0 h, value i (omega arith));
    }

pub returns : goal.returns
returns c = subst (λ all. ArePositions (c.args.k + c.args.r) c.args.k (take (c.args.k + c.args.r - c.args.r) (drop c.args.r all))) (sym c.as_slice-all.ensures) (part c.args.k c.args.r (c.args.k + c.args.r - c.args.r) c.requires (omega arith))
