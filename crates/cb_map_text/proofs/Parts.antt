-- Text that is added in parts.
use Rattle.std.proofs.Common.{◌≡◌, ℕ, List, ◌++◌, append_assoc, ap, ◌∙◌, Result, Ok, Err}
use Rattle.std.specs.Prelude.{OnOk}

-- one part behind another
pub two_parts : {T E : Type 0} (r : Result T E) (old between new first second : List ℕ) → between ≡ old ++ first
    → OnOk r (new ≡ between ++ second) → OnOk r (new ≡ old ++ (first ++ second))
two_parts (Ok done) old between new first second is added =
    added ∙ ap (λ (l : List ℕ). l ++ second) is ∙ append_assoc old first second
two_parts (Err lack) old between new first second is added = tt
