use Rattle.std.proofs.Common.{◌≡◌, ℕ, ◌++◌, subst}
use Rattle.std.specs.Prelude.{OnOk, codes, decimal}
use Rattle.cb_text.specs.Line.{spaced}
use Rattle.cb_map_text.proofs.Parts.{two_parts}
use Rattle.cb_map_text.proofs.said.push_outside.Goals as goal

pub returns : goal.returns
returns c =
    subst (λ (n : ℕ). OnOk c.push_number.result (c.push_number.new.text.items ≡ c.args.text.now.items ++ (codes "outside" ++ spaced (decimal n))))
    c.from.ensures (two_parts c.push_number.result _ _ _ _ _ c.in_ok-push_text.ensures c.push_number.ensures.text)
