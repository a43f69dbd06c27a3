-- The length of a batch is the greatest of all that has enough: spans have 1, 2 or 4 pages, and no
-- others are there to be counted.
use Rattle.std.proofs.Common.{◌≡◌, ◌⊎◌, ℕ, ◌<◌, ◌≤◌, Bool, false, List, [], ◌∷◌, length, Option, Some, refl, sym, ap, ◌∙◌, subst, arith, inl, inr}
use Rattle.std.specs.List.{Contains, filter}
use Rattle.std.proofs.lemmas.Bool.{cases_eq, ne_eqb}
use Rattle.cb_class.proofs.Laws.{pages_known}
use Rattle.cb_frame.specs.Runs.{IsRunLength}
use Rattle.cb_span.specs.Contents.{Contents}
use Rattle.cb_world.specs.declared.access.Access.{Access}
use Rattle.cb_world.specs.declared.shown.Shown.{Shown}
use Rattle.cb_world.specs.FarState.{FarState, pages_at, pages_if}
use Rattle.cb_world.specs.LocalSound.{LocalSound}
use Rattle.cb_evict.specs.Candidates.{candidates, AreLoose}
use Rattle.cb_evict.specs.Lengths.{batch_pages, count_of, has_pages, most_loose}
use Rattle.cb_evict.proofs.Loose.{contains_head, contains_tail, loose_among}
use Rattle.cb_evict.proofs.LooseLengths.{Longest, at_false, is_four, is_none, is_one, is_two, longest, most_is}
use Rattle.cb_evict.proofs.Options.{none_some, some_same}
use Rattle.cb_evict.proofs.Standing.{ready_frame}

-- each of these spans has 1, 2 or 4 pages
abbrev pub HaveLengths : List (Option Contents) → List ℕ → Type 0
HaveLengths spans loose = (f : ℕ) → Contains loose f → IsRunLength (pages_at spans f)

-- so have the loose ones of a sound world
pub loose_lengths : (es : List Access) (far : FarState) (loose : List ℕ) (s : Shown)
    → LocalSound s far → AreLoose es far.spans (candidates far) loose → HaveLengths far.spans loose
loose_lengths es far loose s sound found f c =
    let x = ready_frame far s f sound (loose_among es far.spans (candidates far) loose f found c) in
    subst IsRunLength (sym (ap pages_if x.there)) (pages_known x.span.class x.valid.in_table)

is_length : (n : ℕ) → IsRunLength n ⊎ (IsRunLength n → ⊥)
is_length n = elim (cases_eq n 1) [
  | inl one ↦ inl (inl one)
  | inr off ↦ elim (cases_eq n 2) [
    | inl two ↦ inl (inr (inl two))
    | inr away ↦ elim (cases_eq n 4) [
      | inl four ↦ inl (inr (inr four))
      | inr far ↦ inr (λ x. elim x [
        | inl e ↦ off e
        | inr y ↦ elim y [
          | inl e ↦ away e
          | inr e ↦ far e
        ]
      ])
    ]
  ]
]

none_pass : (p : ℕ → Bool) (xs : List ℕ) → ((x : ℕ) → Contains xs x → p x ≡ false)
    → filter p xs ≡ []
none_pass p [] off = refl
none_pass p (x ∷ xs) off = at_false p x xs (off x (contains_head x xs))
    ∙ none_pass p xs (λ y c. off y (contains_tail x y xs c))

module _ (spans : List (Option Contents)) (loose : List ℕ) (lengths : HaveLengths spans loose) where
  -- none has another number of pages
  pub others_none : (pages : ℕ) → (IsRunLength pages → ⊥) → count_of spans pages loose ≡ 0
  others_none pages off = ap (λ (l : List ℕ). length l) (none_pass (has_pages spans pages) loose
      (λ f c. ne_eqb (pages_at spans f) pages (λ e. off (subst IsRunLength e (lengths f c)))))

  -- of no length are there more than the most
  pub most_greatest : (pages : ℕ) → count_of spans pages loose ≤ most_loose spans loose
  most_greatest pages = by (is_length pages)
    where
      at : (n : ℕ) → pages ≡ n → count_of spans n loose ≤ most_loose spans loose
          → count_of spans pages loose ≤ most_loose spans loose
      at n e = subst (λ (m : ℕ). count_of spans m loose ≤ most_loose spans loose) (sym e)

      by : IsRunLength pages ⊎ (IsRunLength pages → ⊥)
          → count_of spans pages loose ≤ most_loose spans loose
      by (inl (inl e)) = at 1 e (omega (arith, most_is spans loose))
      by (inl (inr (inl e))) = at 2 e (omega (arith, most_is spans loose))
      by (inl (inr (inr e))) = at 4 e (omega (arith, most_is spans loose))
      by (inr off) = omega (arith, others_none pages off)

  -- no greater length has enough
  pub longest_greatest : (k p pages : ℕ) → 1 ≤ k → batch_pages k spans loose ≡ Some p → p < pages
      → count_of spans pages loose < k
  longest_greatest k p pages some is more = by (is_length pages) (longest k spans loose)
    where
      same : (n : ℕ) → batch_pages k spans loose ≡ Some n → n ≡ p
      same n e = some_same n p (sym e ∙ is)

      at : (n : ℕ) → pages ≡ n → count_of spans n loose < k → count_of spans pages loose < k
      at n e = subst (λ (m : ℕ). count_of spans m loose < k) (sym e)

      less : (n m : ℕ) → pages ≡ n → batch_pages k spans loose ≡ Some m → n ≤ m
          → count_of spans pages loose < k
      less n m e b low = let q = same m b in absurd (omega (arith, q, e, more, low))

      by : IsRunLength pages ⊎ (IsRunLength pages → ⊥) → Longest k spans loose
          → count_of spans pages loose < k
      by (inr off) x = let none = others_none pages off in omega (arith, none, some)
      by (inl (inl e)) (is_four a b) = less 1 4 e b (omega arith)
      by (inl (inl e)) (is_two few a b) = less 1 2 e b (omega arith)
      by (inl (inl e)) (is_one few fewer a b) = less 1 1 e b (omega arith)
      by (inl (inl e)) (is_none few fewer none b) = absurd (none_some p (sym b ∙ is))
      by (inl (inr (inl e))) (is_four a b) = less 2 4 e b (omega arith)
      by (inl (inr (inl e))) (is_two few a b) = less 2 2 e b (omega arith)
      by (inl (inr (inl e))) (is_one few fewer a b) = at 2 e fewer
      by (inl (inr (inl e))) (is_none few fewer none b) = absurd (none_some p (sym b ∙ is))
      by (inl (inr (inr e))) (is_four a b) = less 4 4 e b (omega arith)
      by (inl (inr (inr e))) (is_two few a b) = at 4 e few
      by (inl (inr (inr e))) (is_one few fewer a b) = at 4 e few
      by (inl (inr (inr e))) (is_none few fewer none b) = absurd (none_some p (sym b ∙ is))
