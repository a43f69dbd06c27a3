-- An option has a value or has none, and one value at the most.
use Rattle.std.proofs.Common.{◌≡◌, None, Some}

pub none_some : {X : Type 0} (a : X) → None ≡ Some a → ⊥
none_some a e = cc

pub some_none : {X : Type 0} (a : X) → Some a ≡ None → ⊥
some_none a e = cc

pub some_same : {X : Type 0} (a b : X) → Some a ≡ Some b → a ≡ b
some_same a b e = cc
