-- A worked example of a set that left: its rows are a code word, so rows of another width are none.
use Rattle.std.proofs.Common.{◌≡◌, ℕ, ◌*◌, List, length, sym, ◌∙◌, arith}
use Rattle.cb_gf256.specs.Rows.{row_at}
use Rattle.cb_world.specs.FarState.{FarState}
use Rattle.cb_world.specs.Plain.{Words}
use Rattle.cb_evict.specs.EvictStep.{IsEvictedTo}

no_narrow_row : (x y : Words) (far new : FarState) (frames : List ℕ)
    → (a : IsEvictedTo x y far new frames) → length (row_at a.rows 0) ≡ 8 → ⊥
no_narrow_row x y far new frames a narrow =
    let e : 8 ≡ 4096 * a.pages = sym narrow ∙ a.word.wide in absurd (omega (arith, e))
