-- A history of changes that shows worked answers.
use Rattle.std.proofs.Common.{◌≡◌, ℕ, true, Some, zero, suc, ◌≤◌, List, [], ◌∷◌, ◌++◌, length, get_or, eqb, false, refl, sym, ap, ◌∙◌, arith, inl, inr}
use Rattle.std.specs.List.{filter}
use Rattle.std.specs.Str.{bytes_eq}
use Rattle.std.proofs.lemmas.Bool.{cases_Bool, ne_eqb}
use Rattle.std.proofs.lemmas.Slice.Eq.{bytes_eq-Decides}
use Rattle.cb_types.specs.declared.answer.Answer.{Answer}
use Rattle.cb_model.specs.Now.Change.{Create, Overwrite}
use Rattle.cb_model.specs.Called.{calls_of, history}
use Rattle.cb_model.specs.History.{IsHistory}
use Rattle.cb_model.specs.Legal.{IsLegal}
use Rattle.cb_model.proofs.WorkedAnswers.{a}
use Rattle.cb_model.specs.Serial.{IsSerial}
use Rattle.cb_model.specs.Times.{changes_at, untimed}
use Rattle.cb_model.specs.Shown.{HandleChange, HaveKnownNames, AreShownBy, next_of, makes_name, IsMadeBefore}
use Rattle.cb_model.specs.Dated.{AreDated}
use Rattle.cb_model.proofs.Shown.{serial_by_history}
use Rattle.cb_model.proofs.Dated.{serial_by_versions}
use Rattle.cb_model.proofs.WorkedTimes.{b, make_a, make_b, write_a, write_b, read_a, between, none_later, not_told, are_times}

abbrev changes : List HandleChange
changes =
    record { handle = 0; change = (1, Create (1 ∷ [])) }
    ∷ record { handle = 1; change = (1, Create (5 ∷ [])) }
    ∷ record { handle = 0; change = (2, Overwrite 0 (2 ∷ [])) }
    ∷ record { handle = 1; change = (2, Overwrite 0 (6 ∷ [])) }
    ∷ []

no_rest : (n : ℕ) → 0 ≡ length (next_of n [])
no_rest zero = refl
no_rest (suc n) = refl

each_change : (n : ℕ) → length (filter (changes_at n) between) ≡ length (next_of n changes)
each_change zero = refl
each_change (suc zero) = refl
each_change (suc (suc zero)) = refl
each_change (suc (suc (suc zero))) = refl
each_change (suc (suc (suc (suc n)))) =
    let none = none_later (suc (suc (suc (suc n)))) (omega arith) in rw none (no_rest n)

bytes_eq-true : (xs ys : List ℕ) → bytes_eq xs ys ≡ true → xs ≡ ys
bytes_eq-true xs ys e = (bytes_eq-Decides xs ys).0 e

-- no name is both
both_names : (name : List ℕ) → bytes_eq a name ≡ true → bytes_eq b name ≡ true → ⊥
both_names name of_a of_b =
    let e : 97 ≡ 98 = ap (λ (xs : List ℕ). get_or xs 0 0) (bytes_eq-true a name of_a ∙ sym (bytes_eq-true b name of_b)) in omega (arith, e)

once : (name : List ℕ)
    → length (filter (λ (x : Answer). makes_name name x.request) (untimed between)) ≤ 1
once name =
    elim (cases_Bool (bytes_eq a name)) [
      | inl of_a ↦ elim (cases_Bool (bytes_eq b name)) [
        | inl of_b ↦ absurd (both_names name of_a of_b)
        | inr not_b ↦ rw (of_a, not_b) (omega arith)
      ]
      | inr not_a ↦ elim (cases_Bool (bytes_eq b name)) [
        | inl of_b ↦ rw (not_a, of_b) (omega arith)
        | inr not_b ↦ rw (not_a, not_b) (omega arith)
      ]
    ]

-- lane 0 made both
made_a : (lane : ℕ) (name : List ℕ) → Some a ≡ Some name
    → IsMadeBefore (make_a ∷ make_b ∷ []) lane name
made_a lane name e = let same : a ≡ name = cc in inl (rw (← same) (refl, inr refl))

made_b : (lane : ℕ) (name : List ℕ) → Some b ≡ Some name
    → IsMadeBefore (make_a ∷ make_b ∷ []) lane name
made_b lane name e = let same : b ≡ name = cc in inr (inl (rw (← same) (refl, inr refl)))

more_made : (xs ys : List Answer) (lane : ℕ) (name : List ℕ) → IsMadeBefore xs lane name
    → IsMadeBefore (xs ++ ys) lane name
more_made [] ys lane name made = absurd made
more_made (x ∷ xs) ys lane name (inl made) = inl made
more_made (x ∷ xs) ys lane name (inr made) = inr (more_made xs ys lane name made)

names : HaveKnownNames (untimed between)
names = record {
  once = once;
  known = (
    λ name e. absurd cc,
    (
      λ name e. absurd cc,
      (
        λ name e. made_a 1 name e,
        (
          λ name e. more_made (make_a ∷ make_b ∷ []) (write_a ∷ []) 1 name (made_b 1 name e),
          (
            λ name e. more_made (make_a ∷ make_b ∷ []) (write_a ∷ write_b ∷ []) 2 name (made_a 2 name e),
            (
              λ name e. more_made (make_a ∷ make_b ∷ []) (write_a ∷ write_b ∷ read_a ∷ []) 2 name (made_b 2 name e),
              tt,
            ),
          ),
        ),
      ),
    ),
  );
}

are_shown : AreShownBy 1 2 changes between
are_shown = record {
  each = each_change;
  shown = (
    record { reply = (refl, omega arith, refl); unmade = tt; next = λ e. refl },
    (
      record { reply = (refl, omega arith, refl); unmade = tt; next = λ e. refl },
      (
        record { reply = (omega arith, refl); unmade = tt; next = λ e. refl },
        (
          record { reply = (omega arith, refl); unmade = tt; next = λ e. refl },
          (
            record { reply = (refl, refl); unmade = tt; next = λ e. absurd cc },
            (record { reply = (refl, refl); unmade = tt; next = λ e. absurd cc }, tt),
          ),
        ),
      ),
    ),
  );
  in_program_order = are_times.in_program_order;
  zero_first = are_times.zero_first;
  names = names;
}

is_serial : IsSerial 1 2 (untimed between)
is_serial = serial_by_history 1 2 changes between are_shown

-- ---- the same by versions alone
are_legal : IsLegal 1 2 (untimed between)
are_legal = record {
  histories = each_history;
  told = (omega arith, (omega arith, (tt, (tt, (refl, (refl, tt))))));
  rising = (
    (
      λ h teller earlier later. absurd (apart 0 1 h earlier later (λ e. omega (arith, e))),
      (
        λ h teller earlier later v e. (let one : 1 ≡ v = cc in omega arith),
        (
          λ h teller earlier later. absurd (apart 0 1 h earlier later (λ e. omega (arith, e))),
          (
            λ h teller earlier later v e. (let one : 1 ≡ v = cc in omega arith),
            (λ h teller earlier later. absurd (apart 0 1 h earlier later (λ e. omega (arith, e))), tt),
          ),
        ),
      ),
    ),
    (
      (
        λ h teller earlier later. absurd (apart 1 0 h earlier later (λ e. omega (arith, e))),
        (
          λ h teller earlier later v e. (let one : 1 ≡ v = cc in omega arith),
          (
            λ h teller earlier later. absurd (apart 1 0 h earlier later (λ e. omega (arith, e))),
            (λ h teller earlier later v e. (let one : 1 ≡ v = cc in omega arith), tt),
          ),
        ),
      ),
      (
        (
          λ h teller earlier later. absurd (apart 0 1 h earlier later (λ e. omega (arith, e))),
          (λ h teller earlier later. absurd (not_told teller), (λ h teller earlier later. absurd (not_told teller), tt)),
        ),
        (
          (λ h teller earlier later. absurd (not_told teller), (λ h teller earlier later. absurd (not_told teller), tt)),
          (
            (λ h teller earlier later. absurd (apart 0 1 h earlier later (λ e. omega (arith, e))), tt),
            (tt, tt),
          ),
        ),
      ),
    ),
  );
} where
  apart : (k l h : ℕ) → Some k ≡ Some h → Some l ≡ Some h → (k ≡ l → ⊥) → ⊥
  apart k l h a b ne = ne (let e : Some k ≡ Some l = a ∙ sym b in cc)

  each_history : (h : ℕ) → IsHistory 1 (history (calls_of (untimed between)) h)
  each_history zero = (refl, (refl, omega arith, tt))
  each_history (suc zero) = (refl, (refl, omega arith, tt))
  each_history (suc (suc h)) =
      let other : eqb (suc (suc h)) 0 ≡ false = ne_eqb (suc (suc h)) 0 (λ e. omega arith) in
      let no_other : eqb (suc (suc h)) 1 ≡ false = ne_eqb (suc (suc h)) 1 (λ e. omega arith) in
      simp (other, no_other) tt

are_dated : AreDated 1 2 changes between
are_dated = record {
  legal = are_legal;
  each = each_change;
  dated = (
    record { tells = (refl, refl); next = λ e. refl },
    (
      record { tells = (refl, refl); next = λ e. refl },
      (
        record { tells = (1, refl, refl); next = λ e. refl },
        (
          record { tells = (1, refl, refl); next = λ e. refl },
          (
            record { tells = refl; next = λ e. absurd cc },
            (record { tells = refl; next = λ e. absurd cc }, tt),
          ),
        ),
      ),
    ),
  );
  in_program_order = are_times.in_program_order;
  zero_first = are_times.zero_first;
  names = names;
}

is_serial_again : IsSerial 1 2 (untimed between)
is_serial_again = serial_by_versions 1 2 changes between are_dated
