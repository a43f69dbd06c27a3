-- At most one finding is so.
use Rattle.std.proofs.Common.{◌≡◌, ℕ, ◌<◌, ◌≤◌, List, length, refl, sym, ap, subst, ◌∙◌, ⊎_elim, arith}
use Rattle.std.proofs.lemmas.Bool.{cases_order}
use Rattle.cb_gf256.specs.Rows.{row_at, AreRows}
use Rattle.cb_gf256.specs.CodeWord.{syndrome}
use Rattle.cb_scrub.specs.declared.found.Found.{Found}
use Rattle.cb_scrub.specs.declared.found.Found.TheVariants.{Clean, One, Many}
use Rattle.cb_scrub.specs.Wrong.{HaveParities, IsWord, IsWordBut, AreZero}
use Rattle.cb_scrub.specs.Finds.{IsFinding, IsFirstSum, IsMended}
use Rattle.cb_scrub.proofs.Words.{one_position, one_word}

not_word : (r j c s : ℕ) (rows : List (List ℕ)) → IsWord r rows → IsFirstSum r rows j c s → ⊥
not_word r j c s rows word first = first.wrong (first.value ∙ word.syndromes_zero j c first.below first.inside)

first_column : (r j i c d s t : ℕ) (rows : List (List ℕ)) → IsFirstSum r rows j c s → IsFirstSum r rows i d t → c ≡ d
first_column r j i c d s t rows x y =
    ⊎_elim (λ e. e)
    (⊎_elim
    (λ l. absurd (x.wrong (x.value ∙ y.columns j c x.below (omega arith) l)))
    (λ l. absurd (y.wrong (y.value ∙ x.columns i d y.below (omega arith) l))))
    (cases_order c d)

first_power : (r j i c s t : ℕ) (rows : List (List ℕ)) → IsFirstSum r rows j c s → IsFirstSum r rows i c t → j ≡ i
first_power r j i c s t rows x y =
    ⊎_elim (λ e. e)
    (⊎_elim (λ l. absurd (x.wrong (x.value ∙ y.powers j l))) (λ l. absurd (y.wrong (y.value ∙ x.powers i l))))
    (cases_order j i)

one_first : (r j i c d s t : ℕ) (rows : List (List ℕ)) → IsFirstSum r rows j c s → IsFirstSum r rows i d t → Many j c s ≡ Many i d t
one_first r j i c d s t rows x y =
    let column : c ≡ d = first_column r j i c d s t rows x y in
    let z : IsFirstSum r rows i c t = subst (λ m. IsFirstSum r rows i m t) (sym column) y in
    let power : j ≡ i = first_power r j i c s t rows x z in
    let sum : s ≡ t = x.value ∙ ap (λ m. syndrome m rows c) power ∙ sym z.value in
    λ m. Many (power m) (column m) (sum m)

pub one_finding : (r : ℕ) (rows : List (List ℕ)) → HaveParities r rows → (a b : Found) → IsFinding r rows a → IsFinding r rows b → a ≡ b
one_finding r rows h Clean Clean x y = refl
one_finding r rows h Clean (One q) x y = absurd (y.wrong x)
one_finding r rows h Clean (Many j c s) x y = absurd (not_word r j c s rows x y.0)
one_finding r rows h (One p) Clean x y = absurd (x.wrong y)
one_finding r rows h (One p) (One q) x y = ap One (one_position r p q rows h x y)
one_finding r rows h (One p) (Many j c s) x y = absurd (y.1 p x)
one_finding r rows h (Many j c s) Clean x y = absurd (not_word r j c s rows y x.0)
one_finding r rows h (Many j c s) (One q) x y = absurd (x.1 q y)
one_finding r rows h (Many j c s) (Many i d t) x y = one_first r j i c d s t rows x.0 y.0

-- what is found where some word differs from the rows in one row at the most
pub near_word : (r p : ℕ) (rows word : List (List ℕ)) → HaveParities r rows → 2 ≤ r → IsWordBut r rows p word → (f : Found) → IsFinding r rows f → IsMended rows p word f
near_word r p rows word h two w Clean x =
    one_word r p p rows word rows h two w (record { inside = w.inside; code_word = x; bytes = h.are_rows.bytes; agrees = λ i l apart. refl })
near_word r p rows word h two w (One q) x = one_position r q p rows h x (record { parities = two; wrong = x.wrong; agreeing = (word, w) })
near_word r p rows word h two w (Many j c s) x =
    absurd (x.1 p (record { parities = two; wrong = λ z. not_word r j c s rows z x.0; agreeing = (word, w) }))

-- rows whose syndromes are 0 are a word
pub zeros_are_word : (r len : ℕ) (rows : List (List ℕ)) → HaveParities r rows → len ≡ length (row_at rows 0) → AreZero r rows 0 len → IsWord r rows
zeros_are_word r len rows h size zero =
    let more = h.more in
    record {
      count = omega arith;
      equal_lengths = h.are_rows.equal_lengths;
      syndromes_zero = λ j column below within. zero j column below (omega arith) (omega arith);
    }

pub have_parities : (r : ℕ) (rows : List (List ℕ)) → (1 ≤ r) × (r ≤ 4) → (r < length rows) × (length rows ≤ 20) → AreRows rows → HaveParities r rows
have_parities r rows a b h = record { are_rows = h; some = a.0; most = a.1; more = b.0; few = b.1 }
