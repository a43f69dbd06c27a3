-- The header of a schedule: its text has one reading.
use Rattle.std.proofs.Common.{◌≡◌, ℕ, ◌<◌, ◌^◌, List, [], ◌∷◌, get_or, Option, Some, None, refl, sym, ap, ◌∙◌, arith}
use Rattle.std.specs.Prelude.{codes}
use Rattle.std.specs.Fmt.{decimal}
use Rattle.std.specs.List.{join_with_byte}
use Rattle.std.proofs.lemmas.Fmt.{decimal_injective}
use Rattle.std.proofs.lemmas.List.{append_cancel_left}
use Rattle.std.proofs.lemmas.List.Splits.{join_with_byte-slice_split}
use Rattle.cb_script.specs.Found.{Finds}
use Rattle.cb_script.specs.Spelling.{words_of, setting}
use Rattle.cb_script.proofs.PublicLaws.{AreWords, IsWord-setting, word_from_test, words_split}
use Rattle.cb_rma_text.specs.Form.{IsWindow}
use Rattle.cb_rma_text.specs.Spelling.{window_words, window_line}

window_is_words : (window : ℕ) → IsWindow window → AreWords (window_words window)
window_is_words window is = (
  word_from_test 114 (codes "ma") refl,
  (word_from_test 49 [] refl, (IsWord-setting 119 (codes "indow") window refl (omega (arith, is.few)), tt)),
)

pub window_splits : (window : ℕ) → IsWindow window → words_of (window_line window) ≡ window_words window
unfolding window_line
window_splits window is =
    words_split (codes "rma") (codes "1" ∷ setting (codes "window") window ∷ []) (window_is_words window is)

window_joins : (text : List ℕ) (window : ℕ) → words_of text ≡ window_words window → text ≡ window_line window
unfolding window_line
window_joins text window cut = sym (join_with_byte-slice_split 32 text) ∙ ap (join_with_byte 32) cut

pub window_of_words : (text : List ℕ) (words : List (List ℕ)) (found : Option ℕ) → words ≡ words_of text
    → Finds found (λ window. IsWindow window × (words ≡ window_words window))
    → Finds found (λ window. IsWindow window × (text ≡ window_line window))
window_of_words text words None cut none = λ window is.
    none window (is.0, cut ∙ ap words_of is.1 ∙ window_splits window is.0)
window_of_words text words (Some window) cut is = (is.0, window_joins text window (sym cut ∙ is.1))

setting_injective : (name : List ℕ) (m n : ℕ) → m < 10 ^ 9 → n < 10 ^ 9 → setting name m ≡ setting name n → m ≡ n
setting_injective name m n m_small n_small e =
    let behind = append_cancel_left name (61 ∷ decimal m) (61 ∷ decimal n) e in
    let digits : decimal m ≡ decimal n = cc in
    decimal_injective m n (omega arith) (omega arith) digits

-- another word sets no window
pub sets_no_window : (word : List ℕ) (n : ℕ) → (n < 10 ^ 9) × (word ≡ setting (codes "window") n)
    → (IsWindow n → ⊥) → (window : ℕ) → IsWindow window × (word ≡ setting (codes "window") window) → ⊥
sets_no_window word n set wide window is =
    let same : window ≡ n =
    setting_injective (codes "window") window n (omega (arith, is.0.few)) set.0 (sym is.1 ∙ set.1) in
    wide (record { some = omega (arith, is.0.some, same); few = omega (arith, is.0.few, same) })

-- two windows with one header are one window
pub window_unique : (window other : ℕ) → IsWindow window → IsWindow other → window_line window ≡ window_line other
    → window ≡ other
window_unique window other is other_is same =
    let words : window_words window ≡ window_words other =
    sym (window_splits window is) ∙ ap words_of same ∙ window_splits other other_is in
    setting_injective (codes "window") window other (omega (arith, is.few)) (omega (arith, other_is.few))
    (ap (λ (ws : List (List ℕ)). get_or ws 2 []) words)
