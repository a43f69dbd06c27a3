-- The same bytes have one reading, and one text is told of them.
use Rattle.std.proofs.Common.{◌≡◌, ℕ, ◌<◌, List, [], ◌∷◌, ◌++◌, length, map, All, Result, Ok, Err, ◌⊎◌, inl, inr, refl, sym, ap, ◌∙◌, subst, append_assoc, arith}
use Rattle.std.specs.Prelude.{IfOk, IsErr}
use Rattle.std.proofs.lemmas.Bool.{cases_lt}
use Rattle.std.proofs.lemmas.List.{append-nil, length-append}
use Rattle.std.proofs.lemmas.List.Elements.{All-head, All-tail}
use Rattle.hex.specs.Hex.{encode_lower}
use Rattle.cb_gf256.specs.Rows.{HoldBytes, row_at}
use Rattle.cb_types.specs.declared.NoMemory.{NoMemory}
use Rattle.cb_scrub.specs.declared.found.Found.{Found}
use Rattle.cb_scrub.specs.declared.found.Found.TheVariants.{Clean, One, Many}
use Rattle.cb_scrub.specs.Finds.{IsFinding}
use Rattle.cb_scrub.specs.Wrong.{HaveParities}
use Rattle.cb_scrub.proofs.Laws.{one_finding, one_word}
use Rattle.cb_cli.specs.declared.verdict.Verdict.{Verdict}
use Rattle.cb_cli.specs.declared.verdict.Verdict.TheVariants.{Done, Refused}
use Rattle.cb_scrub_text.specs.declared.asked.Asked.{Asked}
use Rattle.cb_scrub_text.specs.Form.{IsAsked, Spells, header_line, asked_lines}
use Rattle.cb_scrub_text.specs.FirstBad.{Begin, StopBefore, IsBadLine, IsFirstBad}
use Rattle.cb_scrub_text.specs.Verdicts.{TellsFound, FindsAndTells, Yields, Refuses, Accepts, IsVerdict, mended_text, refusal_text}
use Rattle.cb_scrub_text.proofs.HeaderText.{one_header}
use Rattle.cb_scrub_text.proofs.RowTexts.{one_row}

-- ---- what is asked

rows_same : (xs ys : List (List ℕ)) → HoldBytes xs → HoldBytes ys → map encode_lower xs ≡ map encode_lower ys → xs ≡ ys
rows_same [] [] hx hy e = refl
rows_same [] (y ∷ ys) hx hy e = absurd cc
rows_same (x ∷ xs) [] hx hy e = absurd cc
rows_same (x ∷ xs) (y ∷ ys) hx hy e =
    let heads : encode_lower x ≡ encode_lower y = cc in
    let tails : map encode_lower xs ≡ map encode_lower ys = cc in
    let first : x ≡ y = one_row x y (All-head (λ row. All (λ b. b < 256) row) x xs hx) (All-head (λ row. All (λ b. b < 256) row) y ys hy) heads in
    let rest : xs ≡ ys = rows_same xs ys (All-tail (λ row. All (λ b. b < 256) row) x xs hx) (All-tail (λ row. All (λ b. b < 256) row) y ys hy) tails in
    cc

asked_same : (a b : Asked) → a.k ≡ b.k → a.r ≡ b.r → a.rows ≡ b.rows → a ≡ b
asked_same a b ks rs rows = λ i. record { k = ks i; r = rs i; rows = rows i }

pub one_asked : (bytes : List ℕ) (a b : Asked) → Spells bytes a → Spells bytes b → a ≡ b
one_asked bytes a b x y =
    let lines : asked_lines a ≡ asked_lines b = sym x.text ∙ y.text in
    let headers : header_line a.k a.r ≡ header_line b.k b.r = cc in
    let rows : map encode_lower a.rows ≡ map encode_lower b.rows = cc in
    let sizes = one_header a.k a.r b.k b.r x.form.sizes y.form.sizes headers in
    asked_same a b sizes.0 sizes.1 (rows_same a.rows b.rows x.form.bytes y.form.bytes rows)

-- ---- the first bad line

not_stopped : (a : Asked) → IsAsked a → (before after : List (List ℕ)) → asked_lines a ≡ before ++ after → StopBefore before after → ⊥
not_stopped a form before [] e stop = stop (record { asked = a; form = form; are = e ∙ append-nil before })
not_stopped a form before (line ∷ after) e stop = stop (record { asked = a; form = form; others = after; are = e ∙ sym (append_assoc before (line ∷ []) after) })

-- bytes that spell something have no bad line
pub spelled_not_bad : (bytes : List ℕ) (a : Asked) (line : ℕ) → Spells bytes a → IsFirstBad bytes line → ⊥
spelled_not_bad bytes a line spelled (inl long) = omega (arith, spelled.short, long.1)
spelled_not_bad bytes a line spelled (inr bad) = not_stopped a spelled.form bad.1.before bad.1.after (sym spelled.text ∙ bad.1.lines) bad.1.stop

-- a longer front of the same lines goes on with the next line
goes_on : (xs : List (List ℕ)) (line : List ℕ) (ls ys zs : List (List ℕ)) → xs ++ line ∷ ls ≡ ys ++ zs → length xs < length ys → (more : List (List ℕ)) × (ys ≡ (xs ++ line ∷ []) ++ more)
goes_on [] line ls [] zs e less = absurd (omega (arith, less))
goes_on [] line ls (y ∷ ys) zs e less = (ys, cc)
goes_on (x ∷ xs) line ls [] zs e less = absurd (omega (arith, less))
goes_on (x ∷ xs) line ls (y ∷ ys) zs e less =
    let tails : xs ++ line ∷ ls ≡ ys ++ zs = cc in
    let rest = goes_on xs line ls ys zs tails (omega (arith, less)) in
    let is : ys ≡ (xs ++ line ∷ []) ++ rest.0 = rest.1 in
    (rest.0, cc)

no_longer : (xs after ys zs : List (List ℕ)) → xs ++ after ≡ ys ++ zs → length xs < length ys → Begin ys → StopBefore xs after → ⊥
no_longer xs [] ys zs e less on stop = let none : List (List ℕ) = [] in omega (arith, less, ap length e, length-append xs none, length-append ys zs)
no_longer xs (line ∷ after) ys zs e less on stop =
    let longer = goes_on xs line after ys zs e less in
    let is : ys ≡ (xs ++ line ∷ []) ++ longer.0 = longer.1 in
    stop (record {
      asked = on.asked;
      form = on.form;
      others = longer.0 ++ on.others;
      are = on.are ∙ ap (λ (l : List (List ℕ)). l ++ on.others) is ∙ append_assoc (xs ++ line ∷ []) longer.0 on.others;
    })

one_bad_line : (bytes : List ℕ) (m n : ℕ) → IsBadLine bytes m → IsBadLine bytes n → m ≡ n
one_bad_line bytes m n x y =
    let lines : x.before ++ x.after ≡ y.before ++ y.after = sym x.lines ∙ y.lines in
    elim (cases_lt (length x.before) (length y.before)) [
      | inl less ↦ absurd (no_longer x.before x.after y.before y.after lines less y.begin x.stop)
      | inr more ↦ elim (cases_lt (length y.before) (length x.before)) [
        | inl less ↦ absurd (no_longer y.before y.after x.before x.after (sym lines) less x.begin y.stop)
        | inr same ↦ omega (arith, more, same, x.number, y.number)
      ]
    ]

pub one_first_bad : (bytes : List ℕ) (m n : ℕ) → IsFirstBad bytes m → IsFirstBad bytes n → m ≡ n
one_first_bad bytes m n (inl x) (inl y) = x.0 ∙ sym y.0
one_first_bad bytes m n (inl x) (inr y) = absurd (omega (arith, x.1, y.0))
one_first_bad bytes m n (inr x) (inl y) = absurd (omega (arith, x.0, y.1))
one_first_bad bytes m n (inr x) (inr y) = one_bad_line bytes m n x.1 y.1

-- ---- what is told

pub have_parities : (a : Asked) → IsAsked a → HaveParities a.r a.rows
have_parities a form =
    let some : 0 < length a.rows = omega (arith, form.count, form.sizes.some_data) in
    let first : length (row_at a.rows 0) ≡ form.len = form.lengths 0 [] some in
    record {
      are_rows = record { equal_lengths = λ i d below. form.lengths i d below ∙ sym first; bytes = form.bytes };
      some = form.sizes.some_parities;
      most = form.sizes.few_parities;
      more = omega (arith, form.count, form.sizes.some_data);
      few = omega (arith, form.count, form.sizes.few_data, form.sizes.few_parities);
    }

one_told : (a : Asked) → IsAsked a → (found : Found) → IsFinding a.r a.rows found → (t u : List ℕ) → TellsFound a found t → TellsFound a found u → t ≡ u
one_told a form Clean is t u x y = x ∙ sym y
one_told a form (One position) is t u x y =
    let same : x.0 ≡ y.0 = one_word a.r position position a.rows x.0 y.0 (have_parities a form) is.parities x.1 y.1 in
    x.2 ∙ ap (λ (word : List (List ℕ)). mended_text position word) same ∙ sym y.2
one_told a form (Many power column sum) is t u x y = x ∙ sym y

finds_one : (a : Asked) → IsAsked a → (t u : List ℕ) → FindsAndTells a t → FindsAndTells a u → t ≡ u
finds_one a form t u x y =
    let same : x.found ≡ y.found = one_finding a.r a.rows (have_parities a form) x.found y.found x.is_found y.is_found in
    one_told a form y.found y.is_found t u (subst (λ (f : Found). TellsFound a f t) same x.told) y.told

pub one_text : (bytes t u : List ℕ) → Yields bytes t → Yields bytes u → t ≡ u
one_text bytes t u x y =
    let same : x.asked ≡ y.asked = one_asked bytes x.asked y.asked x.spelled y.spelled in
    finds_one y.asked y.spelled.form t u (subst (λ (a : Asked). FindsAndTells a t) same x.tells) y.tells

pub one_refusal : (bytes t u : List ℕ) → Refuses bytes t → Refuses bytes u → t ≡ u
one_refusal bytes t u x y = x.text_is ∙ ap refusal_text (one_first_bad bytes x.line y.line x.first y.first) ∙ sym y.text_is

-- bytes that spell rows are not refused
pub accepted_not_refused : (bytes text : List ℕ) → Accepts bytes → Refuses bytes text → ⊥
accepted_not_refused bytes text accepted refused = spelled_not_bad bytes accepted.asked refused.line accepted.spelled refused.first

not_both : (bytes t u : List ℕ) → Yields bytes t → Refuses bytes u → ⊥
not_both bytes t u yields refused = accepted_not_refused bytes u (record { asked = yields.asked; spelled = yields.spelled }) refused

-- ---- what is answered is the only answer

module _ (bytes : List ℕ) where
  pub only_told : (result : Result Verdict NoMemory) (text : List ℕ) → IfOk result (IsVerdict bytes) → Yields bytes text → (result ≡ Ok (Done text)) ⊎ IsErr result
  only_told (Ok (Done t)) text right told = inl (ap (λ (u : List ℕ). Ok (Done u)) (one_text bytes t text right told))
  only_told (Ok (Refused t)) text right told = absurd (not_both bytes text t told right)
  only_told (Err e) text right told = inr refl

  pub only_refused : (result : Result Verdict NoMemory) (text : List ℕ) → IfOk result (IsVerdict bytes) → Refuses bytes text → (result ≡ Ok (Refused text)) ⊎ IsErr result
  only_refused (Ok (Done t)) text right refused = absurd (not_both bytes t text right refused)
  only_refused (Ok (Refused t)) text right refused = inl (ap (λ (u : List ℕ). Ok (Refused u)) (one_refusal bytes t text right refused))
  only_refused (Err e) text right refused = inr refl
