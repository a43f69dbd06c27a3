use Rattle.std.specs.Prelude.{ℕ, List}
use Rattle.std.specs.Borrow.{Lends, MutBor, Fml, Array, u8}
use Rattle.cb_gf256.specs.Block.{with_row}
use Rattle.cb_gf256.specs.contracts.rows.Rows.{the_row}

-- r lends row i: what is last written through r ends up as row i, and the other rows stay
abbrev pub LendsRow : MutBor (List (List ℕ)) → ℕ → MutBor (List ℕ) → Fml
LendsRow rows i r = Lends the_row (Array u8 0) rows r (with_row rows.now i)
