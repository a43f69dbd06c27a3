-- A writer that took nothing.
use Rattle.std.proofs.Common.{ℕ, List, [], Option, Some, None, ◌∙◌}
use Rattle.std.specs.Io.KnownBytes.{Appends, Keeps}
use Rattle.std.proofs.lemmas.List.{append-nil}

-- what is kept, and then has nothing added, is kept
pub nothing_added : (a b c : Option (List ℕ)) → Keeps a b → Appends b c [] → Keeps a c
nothing_added None b c k p = tt
nothing_added (Some xs) None c k p = absurd k
nothing_added (Some xs) (Some ys) None k p = absurd p
nothing_added (Some xs) (Some ys) (Some zs) k p = p ∙ append-nil ys ∙ k
