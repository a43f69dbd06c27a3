-- The rows that an order has, and the row that it makes, are those of the set's word.
use Rattle.std.proofs.Common.{◌≡◌, ℕ, suc, ◌<◌, false, List, [], ◌∷◌, Some, length, get_or, refl, sym, ap, ◌∙◌, subst, arith}
use Rattle.cb_erase.specs.Weights.{IsSolution}
use Rattle.cb_gf256.specs.CodeWord.{IsCodeWord}
use Rattle.cb_gf256.specs.Rows.{row_at, rows_at}
use Rattle.cb_orders.specs.Done.{IsDecoded}
use Rattle.cb_set.specs.SetState.{SetState, parities}
use Rattle.cb_types.specs.declared.order.DecodeOrder.{DecodeOrder}
use Rattle.cb_world.specs.FarState.{FarState}
use Rattle.cb_world.specs.Orders.{IsDecodeKept}
use Rattle.cb_world.specs.Sets.{set_in}
use Rattle.cb_world.specs.SetWord.{IsWordOf, is_broken}

-- rows that are those of a word at some positions, one by one, are the word's rows there
pub rows_agree : (word rows : List (List ℕ)) (ps : List ℕ) → length rows ≡ length ps
    → ((i : ℕ) → i < length ps → row_at rows i ≡ row_at word (get_or ps i 0))
    → rows_at word ps ≡ rows
rows_agree word [] [] n e = refl
rows_agree word (row ∷ rows) [] n e = absurd (omega (arith, n))
rows_agree word [] (p ∷ ps) n e = absurd (omega (arith, n))
rows_agree word (row ∷ rows) (p ∷ ps) n e =
    ap (λ (l : List (List ℕ)). row_at word p ∷ l)
    (rows_agree word rows ps (omega (arith, n)) (λ i l. e (suc i) (omega (arith, l))))
    ∙ ap (λ (r : List ℕ). r ∷ rows) (sym (e 0 (omega arith)))

-- so a word of the set is a solution of a kept order
pub kept_solution : (far : FarState) (o : DecodeOrder) (set : SetState) (word : List (List ℕ))
    → IsDecodeKept far o → set_in far.sets o.set ≡ Some set → is_broken far.members set ≡ false
    → IsWordOf far.nodes far.members set word → IsSolution o.k o.r o.present o.rows word
kept_solution far o set word kept there whole is =
    let code = kept.code set there in
    let by_data : IsCodeWord o.k (parities set) word =
    subst (λ (k : ℕ). IsCodeWord k (parities set) word) (sym code.0) is.code.is_word in record {
      is_word = subst (λ (r : ℕ). IsCodeWord o.k r word) (sym code.1) by_data;
      agrees = rows_agree word o.rows o.present
          (kept.fits.count ∙ sym kept.fits.positions.count) (kept.rows set there whole word is);
    }

-- and the row that the order makes is the word's
pub made_row : (far : FarState) (o : DecodeOrder) (row : List ℕ) → IsDecodeKept far o
    → IsDecoded o row → (set : SetState) → set_in far.sets o.set ≡ Some set
    → is_broken far.members set ≡ false → (word : List (List ℕ))
    → IsWordOf far.nodes far.members set word → row ≡ row_at word o.position
made_row far o row kept made set there whole word is =
    made word is.code.bytes (kept_solution far o set word kept there whole is)
