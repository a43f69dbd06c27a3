-- What a put answers.
use Rattle.std.specs.Prelude.{ℕ}
use Rattle.cb_types.specs.declared.sink.Sent.{Sent as Answered}
use Rattle.cb_types.specs.declared.sink.Sent.TheVariants.{Sent, Failed}

-- a fact about the number of bytes, where a put took bytes
abbrev pub IfSent : Answered → (ℕ → Type 0) → Type 0
IfSent (Sent n) P = P n
IfSent Failed P = Unit {0}

-- a fact, where a put failed
abbrev pub OnPutFailed : Answered → Type 0 → Type 0
OnPutFailed (Sent n) P = Unit {0}
OnPutFailed Failed P = P
