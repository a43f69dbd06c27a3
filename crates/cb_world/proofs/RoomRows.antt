-- The room of parities: rows that are copied over as many others, and what is shown of a room.
use Rattle.std.proofs.Common.{◌≡◌, ℕ, ◌+◌, ◌<◌, ⊎_elim, Bool, true, false, List, [], length, get_or, set, refl, sym, ap, subst, ◌∙◌, arith}
use Rattle.std.proofs.lemmas.Bool.{cases_eq, false≢true}
use Rattle.std.proofs.lemmas.List.{get_or-set_same, get_or-set_other, ext_get_or, length-map}
use Rattle.cb_gf256.specs.Block.{with_row}
use Rattle.cb_gf256.specs.Rows.{row_at, HaveLength}
use Rattle.cb_gf256.proofs.PublicLaws.{written_row}
use Rattle.cb_world.specs.Leaving.{shown_rows}

-- the row that is written holds what it was given, and the others stay
pub copied_more : (len : ℕ) (from into : List (List ℕ)) (at : ℕ) (bytes : List ℕ)
    → HaveLength len into → length bytes ≡ len → bytes ≡ row_at from at → at < length into
    → ((i : ℕ) → i < at → row_at into i ≡ row_at from i)
    → (i : ℕ) → i < at + 1 → row_at (with_row into at bytes) i ≡ row_at from i
copied_more len from into at bytes long e same within before i l =
    let written = written_row into at bytes
    (subst (λ (n : ℕ). HaveLength n into) (sym e) long) within in
    ap (λ (rows : List (List ℕ)). get_or rows i []) written
    ∙ ⊎_elim
    (λ here. ap (λ (j : ℕ). get_or (set into at bytes) j []) here
    ∙ get_or-set_same into at bytes [] within ∙ same ∙ ap (λ (j : ℕ). get_or from j []) (sym here))
    (λ other. get_or-set_other into at i bytes [] other ∙ before i (omega (arith, other)))
    (cases_eq i at)

-- once all are copied they are the same
pub all_copied : (from into : List (List ℕ)) (n : ℕ) → length into ≡ length from → n ≡ length from
    → ((i : ℕ) → i < n → row_at into i ≡ row_at from i) → into ≡ from
all_copied from into n count all same =
    ext_get_or [] into from count (λ i l. same i (omega (arith, l, count, all)))

-- as many rows are shown as there are
pub shown_count : (made : Bool) (rows : List (List ℕ)) → length (shown_rows made rows) ≡ length rows
shown_count true rows = refl
shown_count false rows = length-map rows (λ (row : List ℕ). [])

-- and once they are made, the rows themselves
pub shown_made : (made : Bool) (rows : List (List ℕ)) → made ≡ true → shown_rows made rows ≡ rows
shown_made true rows is = refl
shown_made false rows is = absurd (false≢true is)
