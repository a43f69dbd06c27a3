-- A text to which parts were added one after another.
use Rattle.std.proofs.Common.{◌≡◌, ℕ, List, ◌++◌, ap, ◌∙◌, append_assoc}

-- three parts
pub joined : {two three four : List ℕ} (one a b c : List ℕ) → two ≡ one ++ a → three ≡ two ++ b
    → four ≡ three ++ c → four ≡ one ++ ((a ++ b) ++ c)
joined one a b c first second third =
    third ∙ ap (λ (t : List ℕ). t ++ c) (second ∙ ap (λ (t : List ℕ). t ++ b) first
    ∙ append_assoc one a b)
    ∙ append_assoc one (a ++ b) c
