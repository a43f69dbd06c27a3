-- What the map has under a name, answer by answer.
use Rattle.std.proofs.Common.{◌≡◌, ◌≢◌, ◌⊎◌, ℕ, Bool, true, false, List, [], ◌∷◌, ◌++◌, Option}
use Rattle.std.proofs.Common.{None, Some, refl, sym, ap, ◌∙◌, inl, inr, eq-eqb, ne_eqb, fold}
use Rattle.std.proofs.Common.{if◌then◌else◌}
use Rattle.std.proofs.lemmas.Bool.{cases_eq}
use Rattle.cb_types.specs.declared.answer.Answer.{Answer}
use Rattle.cb_types.specs.declared.handle.Handle.{Handle}
use Rattle.cb_types.specs.declared.request.Request.TheVariants.{Make}
use Rattle.cb_types.specs.declared.reply.Reply.TheVariants.{Made}
use Rattle.cb_model.specs.Now.{MapNow, Change, changed}
use Rattle.cb_model.specs.Event.{event_of, change_of}
use Rattle.cb_model.specs.Called.{Called, first_of, handle_of, handle_for, handle_made, called}
use Rattle.cb_model.specs.Called.{calls_of, change_to, is_about, value, value_at}
use Rattle.cb_model.proofs.Laws.{calls_of-push, handle_of-push, value-push}
use Rattle.cb_lanes.specs.Alone.{now_after}

-- what the map has under a name after these answers
abbrev pub value_named : List Answer → List ℕ → MapNow
value_named answers name = value_at (calls_of answers) (handle_of answers name)

-- ---- one call more

-- what a call changed, where it is about this
abbrev change_by : Called → Bool → List (ℕ × Change)
change_by c b = if b then change_of c.event else []

-- at a handle that the call is not about, or where it changes nothing, all is as it was
same_value : (calls : List Called) (c : Called) (h : ℕ) → change_to h c ≡ []
    → value (calls ++ c ∷ []) h ≡ value calls h
same_value calls c h none = value-push calls c h
    ∙ ap (λ (cs : List (ℕ × Change)). fold changed (value calls h) cs) none

not_about : (c : Called) (h : ℕ) → (c.handle ≡ Some h → ⊥) → change_to h c ≡ []
not_about c h off = by c.handle refl
  where
    by : (o : Option ℕ) → c.handle ≡ o → change_to h c ≡ []
    by None e = ap (λ (o : Option ℕ). change_by c (is_about h o)) e
    by (Some k) e = other (cases_eq h k)
      where
        other : (h ≡ k) ⊎ (h ≢ k) → change_to h c ≡ []
        other (inl same) = absurd (off (e ∙ ap Some (sym same)))
        other (inr apart) = ap (λ (o : Option ℕ). change_by c (is_about h o)) e
            ∙ ap (change_by c) (ne_eqb h k apart)

changes_none : (c : Called) (h : ℕ) → change_of c.event ≡ [] → change_to h c ≡ []
changes_none c h none = by (is_about h c.handle)
  where
    by : (b : Bool) → change_by c b ≡ []
    by true = none
    by false = refl

-- ---- one answer more

module _ (before : List Answer) (a : Answer) where
  -- at a handle that stays
  pushed : (q : List ℕ) → handle_made q a.request a.reply ≡ None
      → ((h : ℕ) → handle_of before q ≡ Some h → change_to h (called before a) ≡ [])
      → value_named (before ++ a ∷ []) q ≡ value_named before q
  pushed q none still =
      (λ i. value_at (calls_of-push before a i)
      ((handle_of-push q before a ∙ ap (λ (o : Option ℕ). first_of o (handle_of before q)) none) i))
      ∙ by (handle_of before q) refl
    where
      by : (o : Option ℕ) → handle_of before q ≡ o
          → value_at ((calls_of before) ++ (called before a) ∷ []) (handle_of before q) ≡ value_at
          (calls_of before) (handle_of before q)
      by None e = ap (value_at ((calls_of before) ++ (called before a) ∷ [])) e
          ∙ sym (ap (value_at (calls_of before)) e)
      by (Some h) e = ap (value_at ((calls_of before) ++ (called before a) ∷ [])) e
          ∙ same_value (calls_of before) (called before a) h (still h e)
          ∙ sym (ap (value_at (calls_of before)) e)

  -- an answer that changes nothing
  pub quiet_value : (q : List ℕ) → handle_made q a.request a.reply ≡ None
      → change_of (event_of a.request a.reply) ≡ []
      → value_named (before ++ a ∷ []) q ≡ value_named before q
  quiet_value q none still = pushed q none (λ h e. changes_none (called before a) h still)

  -- one about another object
  pub other_value : (q : List ℕ) → handle_made q a.request a.reply ≡ None
      → ((h : ℕ) → handle_of before q ≡ Some h → handle_for before a.request a.reply ≡ Some h → ⊥)
      → value_named (before ++ a ∷ []) q ≡ value_named before q
  other_value q none apart = pushed q none (λ h e. not_about (called before a) h (apart h e))

  -- one about the object of the name, which has a handle or changes nothing
  pub own_value : (q : List ℕ) → handle_made q a.request a.reply ≡ None
      → handle_for before a.request a.reply ≡ handle_of before q
      → (handle_of before q ≡ None → change_of (event_of a.request a.reply) ≡ [])
      → value_named (before ++ a ∷ []) q ≡ now_after (value_named before q) a.request a.reply
  own_value q none about still = by (handle_of before q) refl
    where
      changes : List (ℕ × Change)
      changes = change_of (event_of a.request a.reply)

      by : (o : Option ℕ) → handle_of before q ≡ o
          → value_named (before ++ a ∷ []) q ≡ fold changed (value_named before q) changes
      by None e = quiet_value q none (still e)
          ∙ sym (ap (λ (cs : List (ℕ × Change)). fold changed (value_named before q) cs) (still e))
      by (Some h) e =
          (λ i. value_at (calls_of-push before a i)
          ((handle_of-push q before a ∙ ap (λ (o : Option ℕ). first_of o (handle_of before q)) none
          ∙ e) i))
          ∙ value-push (calls_of before) (called before a) h
          ∙ ap (λ (cs : List (ℕ × Change)). fold changed (value (calls_of before) h) cs)
          (ap (λ (o : Option ℕ). change_by (called before a) (is_about h o)) (about ∙ e)
          ∙ ap (change_by (called before a)) (eq-eqb h h refl))
          ∙ sym (ap (λ (o : Option ℕ). fold changed (value_at (calls_of before) o) changes) e)

-- a make's name has the bytes
pub made_value : (before : List Answer) (a : Answer) (name bytes : List ℕ) (handle : Handle) (v : ℕ)
    → a.request ≡ Make name bytes → a.reply ≡ Made handle v
    → handle_made name a.request a.reply ≡ Some handle.n
    → value_named (before ++ a ∷ []) name ≡ now_after (value_named before name) a.request a.reply
made_value before a name bytes handle v asks told at =
    (λ i. value_at (calls_of-push before a i)
    ((handle_of-push name before a ∙ ap (λ (o : Option ℕ). first_of o (handle_of before name)) at)
    i))
    ∙ value-push (calls_of before) (called before a) handle.n
    ∙ ap (λ (o : Option ℕ). fold changed (value (calls_of before) handle.n)
    (change_by (called before a) (is_about handle.n o)))
    (λ i. handle_for before (asks i) (told i))
    ∙ ap (λ (b : Bool). fold changed (value (calls_of before) handle.n)
    (change_by (called before a) b))
    (eq-eqb handle.n handle.n refl)
    ∙ (λ i. fold changed (value (calls_of before) handle.n)
    (change_of (event_of (asks i) (told i))))
    ∙ sym (λ i. fold changed (value_named before name) (change_of (event_of (asks i) (told i))))
