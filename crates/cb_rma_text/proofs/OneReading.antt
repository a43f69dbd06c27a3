-- The same bytes spell one schedule or have one first line outside the form, and never both.
use Rattle.std.proofs.Common.{◌≡◌, ℕ, ◌<◌, ◌≤◌, ◌⊎◌, List, [], ◌∷◌, ◌++◌, length, map, Result, Ok, Err, inl, inr, refl, sym, ap, ◌∙◌, arith}
use Rattle.std.specs.Prelude.{IfOk, IsErr}
use Rattle.std.specs.List.{AllByRecursion}
use Rattle.std.proofs.lemmas.Bool.{cases_lt}
use Rattle.std.proofs.lemmas.List.{append-nil, length-append, length-map}
use Rattle.cb_cli.specs.declared.verdict.Verdict.{Verdict}
use Rattle.cb_cli.specs.declared.verdict.Verdict.TheVariants.{Done, Refused}
use Rattle.cb_types.specs.declared.NoMemory.{NoMemory}
use Rattle.cb_rma.specs.Schedule.{start, replies}
use Rattle.cb_rma.specs.declared.step.Step.{Step}
use Rattle.cb_rma_text.specs.First.{First, HasWindow, IsBadLine, IsNoEvent}
use Rattle.cb_rma_text.specs.First.First.{TooLong, NoHeader, AtLine}
use Rattle.cb_rma_text.specs.Form.{IsInForm, Spells}
use Rattle.cb_rma_text.specs.Spelling.{step_line, window_line}
use Rattle.cb_rma_text.specs.Texts.{said_text, refusal_text}
use Rattle.cb_rma_text.specs.Verdicts.{Accepts, IsVerdict, Refuses, Yields}
use Rattle.cb_rma_text.proofs.Events.{step_unique}
use Rattle.cb_rma_text.proofs.Windows.{window_unique}

-- ---- lines with the same texts

-- no events go on where a line is none
events_end : (before others : List Step) (text : List ℕ) (after rest : List (List ℕ))
    → AllByRecursion IsInForm others → IsNoEvent text → length before < length others
    → map step_line before ++ text ∷ after ≡ map step_line others ++ rest → ⊥
events_end [] [] text after rest form no_event shorter e = absurd (omega (arith, shorter))
events_end [] (event ∷ others) text after rest form no_event shorter e =
    let here : text ≡ step_line event = cc in no_event event form.0 here
events_end (first ∷ before) [] text after rest form no_event shorter e = absurd (omega (arith, shorter))
events_end (first ∷ before) (event ∷ others) text after rest form no_event shorter e =
    let behind : map step_line before ++ text ∷ after ≡ map step_line others ++ rest = cc in
    events_end before others text after rest form.1 no_event (omega (arith, shorter)) behind

bad_ends : (before others : List Step) (text : List ℕ) (after rest : List (List ℕ))
    → AllByRecursion IsInForm others → length others ≤ 20000 → (length before ≡ 20000) ⊎ IsNoEvent text
    → length before < length others → map step_line before ++ text ∷ after ≡ map step_line others ++ rest → ⊥
bad_ends before others text after rest form few (inl many) shorter e = omega (arith, many, few, shorter)
bad_ends before others text after rest form few (inr no_event) shorter e =
    events_end before others text after rest form no_event shorter e

tails_same : (x y : List ℕ) (xs ys : List (List ℕ)) → x ∷ xs ≡ y ∷ ys → xs ≡ ys
tails_same x y xs ys e = cc

heads_same : (x y : List ℕ) (xs ys : List (List ℕ)) → x ∷ xs ≡ y ∷ ys → x ≡ y
heads_same x y xs ys e = cc

-- ---- never both

spells_not_bad : (bytes : List ℕ) (window line : ℕ) (events : List Step) → Spells bytes window events
    → IsBadLine bytes line → ⊥
spells_not_bad bytes window line events spells bad =
    let texts : map step_line bad.before ++ bad.text ∷ bad.after ≡ map step_line events ++ [] =
    tails_same (window_line bad.window) (window_line window) (map step_line bad.before ++ bad.text ∷ bad.after) (map step_line events) (sym bad.lines ∙ spells.text)
    ∙ sym (append-nil (map step_line events)) in
    let counts : length bad.before < length events = omega (
      arith,
      ap length texts,
      length-append (map step_line bad.before) (bad.text ∷ bad.after),
      length-append (map step_line events) [],
      length-map bad.before step_line,
      length-map events step_line,
    ) in
    bad_ends bad.before events bad.text bad.after [] spells.form spells.few bad.bad counts texts

pub spells_no_fault : (bytes : List ℕ) (window line : ℕ) (events : List Step) → Spells bytes window events
    → First bytes line → ⊥
spells_no_fault bytes window line events spells (TooLong at long) = omega (arith, spells.short, long)
spells_no_fault bytes window line events spells (NoHeader at short none) =
    none window (record { window_is = spells.window_is; others = map step_line events; text = spells.text })
spells_no_fault bytes window line events spells (AtLine short bad) =
    spells_not_bad bytes window line events spells bad

-- what is accepted is not refused
pub accepted_not_refused : (bytes text : List ℕ) → Accepts bytes → Refuses bytes text → ⊥
accepted_not_refused bytes text accepted refused =
    spells_no_fault bytes accepted.window refused.line accepted.events accepted.spelled refused.first

-- ---- one fault

bad_after : (bytes : List ℕ) (line other : ℕ) (a : IsBadLine bytes line) (b : IsBadLine bytes other)
    → length a.before < length b.before → ⊥
bad_after bytes line other a b shorter =
    bad_ends a.before b.before a.text a.after (b.text ∷ b.after) b.form b.few a.bad shorter
    (tails_same (window_line a.window) (window_line b.window) (map step_line a.before ++ a.text ∷ a.after) (map step_line b.before ++ b.text ∷ b.after) (sym a.lines ∙ b.lines))

bad_unique : (bytes : List ℕ) (line other : ℕ) → IsBadLine bytes line → IsBadLine bytes other → line ≡ other
bad_unique bytes line other a b =
    elim (cases_lt (length a.before) (length b.before)) [
      | inl shorter ↦ absurd (bad_after bytes line other a b shorter)
      | inr longer ↦ elim (cases_lt (length b.before) (length a.before)) [
        | inl shorter ↦ absurd (bad_after bytes other line b a shorter)
        | inr equal ↦ omega (arith, a.number, b.number, longer, equal)
      ]
    ]

bad_has_window : (bytes : List ℕ) (line : ℕ) (bad : IsBadLine bytes line) → HasWindow bytes bad.window
bad_has_window bytes line bad = record {
  window_is = bad.window_is;
  others = map step_line bad.before ++ bad.text ∷ bad.after;
  text = bad.lines;
}

pub first_unique : (bytes : List ℕ) (line other : ℕ) → First bytes line → First bytes other → line ≡ other
first_unique bytes line other (TooLong at long) (TooLong at2 long2) = at ∙ sym at2
first_unique bytes line other (TooLong at long) (NoHeader at2 short none) = absurd (omega (arith, long, short))
first_unique bytes line other (TooLong at long) (AtLine short bad) = absurd (omega (arith, long, short))
first_unique bytes line other (NoHeader at short none) (TooLong at2 long) = absurd (omega (arith, long, short))
first_unique bytes line other (NoHeader at short none) (NoHeader at2 short2 none2) = at ∙ sym at2
first_unique bytes line other (NoHeader at short none) (AtLine short2 bad) =
    absurd (none bad.window (bad_has_window bytes other bad))
first_unique bytes line other (AtLine short bad) (TooLong at long) = absurd (omega (arith, long, short))
first_unique bytes line other (AtLine short bad) (NoHeader at short2 none) =
    absurd (none bad.window (bad_has_window bytes line bad))
first_unique bytes line other (AtLine short a) (AtLine short2 b) = bad_unique bytes line other a b

-- ---- one schedule

both_same : (x y : Step) (xs ys : List Step) → x ≡ y → xs ≡ ys → x ∷ xs ≡ y ∷ ys
both_same x y xs ys first rest = cc

events_unique : (events others : List Step) → AllByRecursion IsInForm events → AllByRecursion IsInForm others
    → map step_line events ≡ map step_line others → events ≡ others
events_unique [] [] form other_form e = refl
events_unique [] (y ∷ others) form other_form e = absurd cc
events_unique (x ∷ events) [] form other_form e = absurd cc
events_unique (x ∷ events) (y ∷ others) form other_form e =
    both_same x y events others
    (step_unique x y form.0 other_form.0 (heads_same (step_line x) (step_line y) (map step_line events) (map step_line others) e))
    (events_unique events others form.1 other_form.1 (tails_same (step_line x) (step_line y) (map step_line events) (map step_line others) e))

pub schedule_unique : (bytes : List ℕ) (window other : ℕ) (events others : List Step)
    → Spells bytes window events → Spells bytes other others → (window ≡ other) × (events ≡ others)
schedule_unique bytes window other events others a b =
    let texts = sym a.text ∙ b.text in (
      window_unique window other a.window_is b.window_is (heads_same (window_line window) (window_line other) (map step_line events) (map step_line others) texts),
      events_unique events others a.form b.form (tails_same (window_line window) (window_line other) (map step_line events) (map step_line others) texts),
    )

-- ---- what is answered is the only answer

module _ (bytes : List ℕ) where
  one_text : (t u : List ℕ) → Yields bytes t → Yields bytes u → t ≡ u
  one_text t u x y =
      let same = schedule_unique bytes x.window y.window x.events y.events x.spelled y.spelled in
      x.text_is ∙ (λ i. said_text (replies (start (same.0 i)) (same.1 i))) ∙ sym y.text_is

  one_refusal : (t u : List ℕ) → Refuses bytes t → Refuses bytes u → t ≡ u
  one_refusal t u x y = x.text_is ∙ ap refusal_text (first_unique bytes x.line y.line x.first y.first) ∙ sym y.text_is

  not_both : (t u : List ℕ) → Yields bytes t → Refuses bytes u → ⊥
  not_both t u yields refused = spells_no_fault bytes yields.window refused.line yields.events yields.spelled refused.first

  pub only_told : (result : Result Verdict NoMemory) (text : List ℕ) → IfOk result (IsVerdict bytes) → Yields bytes text → (result ≡ Ok (Done text)) ⊎ IsErr result
  only_told (Ok (Done t)) text right told = inl (ap (λ (u : List ℕ). Ok (Done u)) (one_text t text right told))
  only_told (Ok (Refused t)) text right told = absurd (not_both text t told right)
  only_told (Err e) text right told = inr refl

  pub only_refused : (result : Result Verdict NoMemory) (text : List ℕ) → IfOk result (IsVerdict bytes) → Refuses bytes text → (result ≡ Ok (Refused text)) ⊎ IsErr result
  only_refused (Ok (Done t)) text right refused = absurd (not_both t text right refused)
  only_refused (Ok (Refused t)) text right refused = inl (ap (λ (u : List ℕ). Ok (Refused u)) (one_refusal t text right refused))
  only_refused (Err e) text right refused = inr refl
