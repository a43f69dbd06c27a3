-- An object that was changed was made, by a call before.
use Rattle.std.proofs.Common.{◌≡◌, ◌⊎◌, ℕ, cond, eqb, List, [], ◌∷◌, ◌++◌, Option, Some, None, sym, ap, ◌∙◌, append_assoc, subst, inl, inr, ⊎_elim, eq-eqb, eqb-true}
use Rattle.std.specs.List.{AllByRecursion}
use Rattle.std.specs.Str.{bytes_eq}
use Rattle.std.proofs.lemmas.List.{append-nil}
use Rattle.std.proofs.lemmas.List.Concat.{flat_map-append}
use Rattle.cb_types.specs.declared.answer.Answer.{Answer}
use Rattle.cb_types.specs.declared.reply.Reply.{Reply}
use Rattle.cb_types.specs.declared.reply.Reply.TheVariants as answer
use Rattle.cb_types.specs.declared.request.Request.{Request}
use Rattle.cb_types.specs.declared.request.Request.TheVariants as request
use Rattle.cb_types.specs.Requests.{name_of}
use Rattle.cb_rule.specs.declared.view.View.{View}
use Rattle.cb_rule.proofs.Laws.{by_case}
use Rattle.cb_model.specs.Now.{Change}
use Rattle.cb_model.specs.Now.Change.{Create}
use Rattle.cb_model.specs.Called.{Called, called, calls_behind, calls_of, change_to, changes_to, first_of, handle_for, handle_made, handle_named, handle_of, is_about}
use Rattle.cb_model.specs.Event.{change_of, event_of}
use Rattle.cb_model.proofs.Laws.{calls_of-push, handle_of-push}
use Rattle.cb_record.specs.Lists.{HasOne}
use Rattle.cb_record.specs.Upheld.{IsUpheld, Upholds}
use Rattle.cb_record.proofs.Links.{Any, IsFirstMake}
use Rattle.cb_record.proofs.Listing.{has_one_left, has_one_right}

split_one : {A : Type 0} (P : A → Type 0) (xs ys : List A) → HasOne P (xs ++ ys)
    → HasOne P xs ⊎ HasOne P ys
split_one P [] ys h = inr h
split_one P (x ∷ xs) ys h = ⊎_elim (λ (p : P x). inl (inl p))
    (λ (q : HasOne P (xs ++ ys)). ⊎_elim (λ (r : HasOne P xs). inl (inr r))
    (λ (r : HasOne P ys). inr r) (split_one P xs ys q)) h

same_handle : (n m : ℕ) → Some n ≡ Some m → m ≡ n
same_handle n m e = cc

module _ (first handles : ℕ) (all : List Called) (v : View) (h : ℕ) where
  -- the changes of an answer, where it is about the object
  abbrev at_it : Option ℕ → List (ℕ × Change) → List (ℕ × Change)
  at_it handle cs = cond (is_about h handle) cs []

  about : (handle : Option ℕ) (cs : List (ℕ × Change)) → HasOne Any (at_it handle cs)
      → handle ≡ Some h
  about None cs one = absurd one
  about (Some k) cs one = by_case (λ b. HasOne Any (cond b cs []) → Some k ≡ Some h) (eqb h k)
      (λ is _. ap (λ (n : ℕ). Some n) (sym (eqb-true h k is))) (λ _ none. absurd none) one

  -- a name has the object: it was made
  abbrev Known : List Answer → Type 0
  Known before = (name : List ℕ) → handle_of before name ≡ Some h
      → HasOne (IsFirstMake first) (changes_to h (calls_of before))

  names : (before : List Answer) (name : Option (List ℕ)) → handle_named before name ≡ Some h
      → (n : List ℕ) × (handle_of before n ≡ Some h)
  names before None e = absurd cc
  names before (Some n) e = (n, e)

  -- a change of an answer is a make, or is about a name that has the object
  by_answer : (before : List Answer) (q : Request) (r : Reply)
      → IsUpheld first handles all v (handle_for before q r) (event_of q r)
      → HasOne Any (at_it (handle_for before q r) (change_of (event_of q r)))
      → HasOne (IsFirstMake first) (at_it (handle_for before q r) (change_of (event_of q r)))
      ⊎ ((n : List ℕ) × (handle_of before n ≡ Some h))
  by_answer before (request.Make name bytes) (answer.Made handle version) up one =
      inl (by_case (λ b. HasOne Any (cond b ((version, Create bytes) ∷ []) [])
      → HasOne (IsFirstMake first) (cond b ((version, Create bytes) ∷ []) [])) (eqb h handle.n)
      (λ _ _. inl up.1) (λ _ none. none) one)
  by_answer before (request.Make name bytes) r up one = absurd one
  by_answer before q r up one = inr (names before (name_of q)
      (about (handle_named before (name_of q)) (change_of (event_of q r)) one))

  -- a name that has the object behind one more answer had it before, or is that of its make
  by_name : (before : List Answer) (name : List ℕ) (q : Request) (r : Reply) (old : Option ℕ)
      → IsUpheld first handles all v (handle_for before q r) (event_of q r)
      → first_of (handle_made name q r) old ≡ Some h
      → (old ≡ Some h) ⊎ HasOne (IsFirstMake first) (at_it (handle_for before q r) (change_of (event_of q r)))
  by_name before name (request.Make made bytes) (answer.Made handle version) old up e =
      by_case (λ b. first_of (cond b (Some handle.n) None) old ≡ Some h
      → (old ≡ Some h) ⊎ HasOne (IsFirstMake first) (at_it (Some handle.n) ((version, Create bytes) ∷ [])))
      (bytes_eq made name)
      (λ _ is. inr (rw (eq-eqb h handle.n (same_handle handle.n h is)) (inl up.1)))
      (λ _ is. inl is) e
  by_name before name (request.Make made bytes) r old up e = inl e
  by_name before name q r old up e = inl e

  one_more : (before : List Answer) (a : Answer) → changes_to h (calls_of (before ++ a ∷ []))
      ≡ changes_to h (calls_of before) ++ change_to h (called before a)
  one_more before a = ap (changes_to h) (calls_of-push before a)
      ∙ flat_map-append (change_to h) (calls_of before) (called before a ∷ [])
      ∙ ap (λ (cs : List (ℕ × Change)). changes_to h (calls_of before) ++ cs)
      (append-nil (change_to h (called before a)))

  known_more : (before : List Answer) (a : Answer) → Upholds first handles all v (called before a)
      → Known before → Known (before ++ a ∷ [])
  known_more before a up known name e =
      subst (HasOne (IsFirstMake first)) (sym (one_more before a))
      (⊎_elim (λ (old : handle_of before name ≡ Some h).
      has_one_left (IsFirstMake first) (changes_to h (calls_of before)) (change_to h (called before a)) (known name old))
      (λ (made : HasOne (IsFirstMake first) (change_to h (called before a))).
      has_one_right (IsFirstMake first) (changes_to h (calls_of before)) (change_to h (called before a)) made)
      (by_name before name a.request a.reply (handle_of before name) up (sym (handle_of-push name before a) ∙ e)))

  pub made : (before after : List Answer) → Known before
      → AllByRecursion (Upholds first handles all v) (calls_behind before after)
      → HasOne Any (changes_to h (calls_behind before after))
      → HasOne (IsFirstMake first) (changes_to h (calls_of before) ++ changes_to h (calls_behind before after))
  made before [] known up one = absurd one
  made before (a ∷ after) known up one =
      let front = changes_to h (calls_of before) in
      let own = change_to h (called before a) in
      let later = changes_to h (calls_behind (before ++ a ∷ []) after) in
      ⊎_elim
      (λ (here : HasOne Any own). ⊎_elim
      (λ (is : HasOne (IsFirstMake first) own).
      has_one_right (IsFirstMake first) front (own ++ later)
      (has_one_left (IsFirstMake first) own later is))
      (λ (n : (n : List ℕ) × (handle_of before n ≡ Some h)).
      has_one_left (IsFirstMake first) front (own ++ later) (known n.0 n.1))
      (by_answer before a.request a.reply up.0 here))
      (λ (more : HasOne Any later).
      subst (HasOne (IsFirstMake first)) (ap (λ (cs : List (ℕ × Change)). cs ++ later) (one_more before a)
      ∙ append_assoc front own later)
      (made (before ++ a ∷ []) after (known_more before a up.0 known) up.1 more))
      (split_one Any own later one)
