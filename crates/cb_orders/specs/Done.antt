-- What the rows of a done order are.
use Rattle.std.specs.Prelude.{◌≡◌, ℕ, List, ◌++◌}
use Rattle.cb_gf256.specs.CodeWord.{IsCodeWord}
use Rattle.cb_gf256.specs.Rows.{HoldBytes, row_at}
use Rattle.cb_erase.specs.Weights.{IsSolution}
use Rattle.cb_types.specs.declared.order.DecodeOrder.{DecodeOrder}
use Rattle.cb_types.specs.declared.order.EncodeOrder.{EncodeOrder}

-- the order's rows and these parities after them are a code word
abbrev pub IsEncoded : EncodeOrder → List (List ℕ) → Type 0
IsEncoded o parities = IsCodeWord o.k o.r (o.rows ++ parities)

-- the row is that at the wanted position of any code word of bytes which agrees with the order's
-- rows
abbrev pub IsDecoded : DecodeOrder → List ℕ → Type 0
IsDecoded o row = (word : List (List ℕ)) → HoldBytes word
    → IsSolution o.k o.r o.present o.rows word → row ≡ row_at word o.position

-- some code word of bytes agrees with the order's rows and has this row at the wanted position
abbrev pub IsOfWord : DecodeOrder → List ℕ → Type 0
IsOfWord o row = (word : List (List ℕ)) × HoldBytes word
    × IsSolution o.k o.r o.present o.rows word × (row ≡ row_at word o.position)

-- an encode order that was run, and its parities
pub record EncodeDoneState : Type 0 where
  pub order : EncodeOrder
  pub parities : List (List ℕ)

-- a decode order that was run, and the row at its position
pub record DecodeDoneState : Type 0 where
  pub order : DecodeOrder
  pub row : List ℕ
