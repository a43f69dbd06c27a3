-- What a take answers.
use Rattle.std.specs.Prelude.{ℕ}
use Rattle.cb_types.specs.declared.source.Took.{Took}
use Rattle.cb_types.specs.declared.source.Took.TheVariants.{Got, Failed}

-- a fact about the number of bytes, where a take gave bytes
abbrev pub IfGot : Took → (ℕ → Type 0) → Type 0
IfGot (Got n) P = P n
IfGot Failed P = Unit {0}

-- a fact, where a take failed
abbrev pub OnTakeFailed : Took → Type 0 → Type 0
OnTakeFailed (Got n) P = Unit {0}
OnTakeFailed Failed P = P
