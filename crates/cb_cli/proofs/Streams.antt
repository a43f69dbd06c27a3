-- One step on a source or a sink, and then another.
use Rattle.std.proofs.Common.{◌≡◌, ℕ, ◌+◌, ◌≤◌, List, ◌++◌, take, drop, Option, Some, None, sym, ap, ◌∙◌, append_assoc, arith}
use Rattle.std.specs.Io.KnownBytes.{Consumes, Appends}
use Rattle.std.proofs.lemmas.List.{take-append-drop, drop-take, take-take}

-- what was consumed in two steps
pub Consumes-then : (a b c : Option (List ℕ)) (x y : List ℕ) → Consumes a b x → Consumes b c y
    → Consumes a c (x ++ y)
Consumes-then None b c x y p q = tt
Consumes-then (Some xs) None c x y p q = absurd p
Consumes-then (Some xs) (Some ys) None x y p q = absurd q
Consumes-then (Some xs) (Some ys) (Some zs) x y p q =
    p ∙ ap (λ (l : List ℕ). x ++ l) q ∙ sym (append_assoc x y zs)

-- what was appended in two steps
pub Appends-then : (a b c : Option (List ℕ)) (x y : List ℕ) → Appends a b x → Appends b c y
    → Appends a c (x ++ y)
Appends-then None b c x y p q = tt
Appends-then (Some xs) None c x y p q = absurd p
Appends-then (Some xs) (Some ys) None x y p q = absurd q
Appends-then (Some xs) (Some ys) (Some zs) x y p q =
    q ∙ ap (λ (l : List ℕ). l ++ y) p ∙ append_assoc xs x y

-- a longer front is a front and what follows it
pub take-add : (m n : ℕ) (xs : List ℕ) → take m xs ++ take n (drop m xs) ≡ take (m + n) xs
take-add m n xs =
    let shorter : m ≤ m + n = omega arith in
    rw (← drop-take m n xs, ← take-take m (m + n) xs shorter) (take-append-drop m (take (m + n) xs))
