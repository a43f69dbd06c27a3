-- A text that begins with what it was before.
use Rattle.std.proofs.Common.{◌≡◌, ℕ, ◌≤◌, List, ◌++◌, length, take, sym, ap, ◌∙◌, arith}
use Rattle.std.specs.Prelude.{Result, Ok, Err, OnErr}
use Rattle.std.specs.Io.{StartsWith}
use Rattle.std.proofs.lemmas.List.{length-take, take-take}
use Rattle.std.proofs.Math.Seq.{take-append_seam, take-length}

-- something was added
pub behind : (old added new : List ℕ) → new ≡ old ++ added → StartsWith new old
behind old added new is = rw is (take-append_seam old added)

-- nothing was added
pub same : (old new : List ℕ) → new ≡ old → StartsWith new old
same old new is = rw is (take-length old)

-- one addition behind the other
pub both : (old between new : List ℕ) → StartsWith between old → StartsWith new between
    → StartsWith new old
both old between new first second =
    let least = sym (length-take (length old) between) ∙ ap length first in
    let all : length old ≤ length between = omega (arith, least) in
    sym (take-take (length old) (length between) new all)
    ∙ ap (λ (l : List ℕ). take (length old) l) second
    ∙ first

-- cut to the length that it had it is what it was
pub cut : {T E : Type 0} (r : Result T E) (old new left : List ℕ) (n : ℕ) → StartsWith new old
    → n ≡ length old → left ≡ take n new → OnErr r (left ≡ old)
cut (Ok done) old new left n kept is left_is = tt
cut (Err lack) old new left n kept is left_is =
    left_is ∙ ap (λ (k : ℕ). take k new) is ∙ kept
