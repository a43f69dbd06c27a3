-- The header: its words, and that its text has one reading.
use Rattle.std.proofs.Common.{◌≡◌, ℕ, ◌^◌, ◌<◌, ◌≤◌, List, [], ◌∷◌, Option, Some, None, refl, sym, ap, ◌∙◌, arith, Bor}
use Rattle.std.specs.Prelude.{codes}
use Rattle.std.specs.List.{join_with_byte}
use Rattle.std.proofs.lemmas.List.Splits.{join_with_byte-slice_split}
use Rattle.cb_script.specs.Cut.{texts}
use Rattle.cb_script.specs.Found.{Finds}
use Rattle.cb_script.specs.Spelling.{words_of, setting}
use Rattle.cb_script.proofs.PublicLaws.{setting_injective, AreWords, IsWord-setting, word_from_test, words_split}
use Rattle.cb_scrub_text.specs.declared.header.Sizes.{Sizes}
use Rattle.cb_scrub_text.specs.Form.{AreSizes, header_words, header_line}

header_are_words : (k r : ℕ) → AreSizes k r → AreWords (header_words k r)
header_are_words k r sizes = (
  word_from_test 115 (codes "crub") refl,
  (
    word_from_test 49 [] refl,
    (
      IsWord-setting 107 [] k refl (omega (arith, sizes.few_data)),
      (IsWord-setting 114 [] r refl (omega (arith, sizes.few_parities)), tt),
    ),
  ),
)

pub header_splits : (k r : ℕ) → AreSizes k r → words_of (header_line k r) ≡ header_words k r
unfolding header_line
header_splits k r sizes = words_split (codes "scrub") (codes "1" ∷ setting (codes "k") k ∷ setting (codes "r") r ∷ []) (header_are_words k r sizes)

header_joins : (k r : ℕ) (text : List ℕ) → words_of text ≡ header_words k r → text ≡ header_line k r
unfolding header_line
header_joins k r text cut = sym (join_with_byte-slice_split 32 text) ∙ ap (join_with_byte 32) cut

-- ---- one reading

pub one_header : (k r m n : ℕ) → AreSizes k r → AreSizes m n → header_line k r ≡ header_line m n → (k ≡ m) × (r ≡ n)
one_header k r m n s t e =
    let words : header_words k r ≡ header_words m n = sym (header_splits k r s) ∙ ap words_of e ∙ header_splits m n t in
    let ks : setting (codes "k") k ≡ setting (codes "k") m = cc in
    let rs : setting (codes "r") r ≡ setting (codes "r") n = cc in (
      setting_injective (codes "k") k m (omega (arith, s.few_data)) (omega (arith, t.few_data)) ks,
      setting_injective (codes "r") r n (omega (arith, s.few_parities)) (omega (arith, t.few_parities)) rs,
    )

-- a number that is set is none of those from 1 to the greatest one, where it is less or more
pub out_of_range : (word name : List ℕ) (n most : ℕ) → n < 10 ^ 9 → word ≡ setting name n → most < 10 ^ 9 → ((1 ≤ n) × (n ≤ most) → ⊥)
    → (m : ℕ) → (1 ≤ m) × (m ≤ most) × (word ≡ setting name m) → ⊥
out_of_range word name n most small is few out m set =
    let same : n ≡ m = setting_injective name n m small (omega (arith, few, set.1)) (sym is ∙ set.2) in
    out (omega (arith, same, set.0), omega (arith, same, set.1))

-- ---- the words, as they are read

-- what was read of the words is read of the text
pub text_from_words : (text : List ℕ) (words : List (Bor (List ℕ))) (found : Option Sizes) → texts words ≡ words_of text
    → Finds found (λ s. AreSizes s.k s.r × (texts words ≡ header_words s.k s.r)) → Finds found (λ s. AreSizes s.k s.r × (text ≡ header_line s.k s.r))
text_from_words text words None cut none = λ s is. none s (is.0, cut ∙ ap words_of is.1 ∙ header_splits s.k s.r is.0)
text_from_words text words (Some s) cut some = (some.0, header_joins s.k s.r text (sym cut ∙ some.1))
