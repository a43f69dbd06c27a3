use Rattle.std.proofs.Common.{◌≡◌, ℕ, length}
use Rattle.cb_gf256.specs.Rows.{HaveLength, HoldBytes}
use Rattle.cb_scrub_text.proofs.RowsRead.{Filling}
use Rattle.cb_scrub_text.proofs.filling.fill_rows.Given as goal

-- there are as many rows, and those below the place are read
abbrev pub invariant-loop-i : goal.invariant-loop-i
invariant-loop-i l = record {
  count : length l.rows ≡ l.count;
  filling : (len : ℕ) → HaveLength len l.initial.rows → HoldBytes l.initial.rows
      → Filling len (length l.initial.rows) l.i l.text l.rows l.rest;
}
