-- The changes at an object are its entries in the record, each once.
use Rattle.std.proofs.Common.{◌≡◌, ◌≢◌, ◌⊎◌, ℕ, ◌+◌, ◌&&◌, Bool, cond, eqb, List, [], ◌∷◌, ◌++◌, Option, Some, sym, refl, ap, ◌∙◌, subst, inl, inr, ⊎_elim, eq-eqb, ne_eqb, eqb-true, true≢false, arith}
use Rattle.std.specs.List.{AllByRecursion}
use Rattle.cb_types.specs.declared.answer.Answer.{Answer}
use Rattle.cb_world.specs.declared.entry.Entry.{Entry}
use Rattle.cb_rule.specs.declared.view.View.{View}
use Rattle.cb_rule.specs.History.{is_version}
use Rattle.cb_rule.specs.Lists.{times, Has}
use Rattle.cb_rule.proofs.Laws.{by_case, times-append}
use Rattle.cb_model.specs.Now.{Change}
use Rattle.cb_model.specs.Called.{Called, calls_behind, changes_to, handle_for, is_about}
use Rattle.cb_model.specs.Event.{Event, change_of, event_of}
use Rattle.cb_model.specs.Event.Event.{Makes, Shows, Pins, Writes, Frees, FindsFull, FindsUnmade, FindsFreed, FindsEnd, Refused, Wrong}
use Rattle.cb_record.specs.Backs.{WroteLines}
use Rattle.cb_record.specs.Lists.{HasOne}
use Rattle.cb_record.specs.Told.{tolds}
use Rattle.cb_record.specs.Upheld.{IsUpheld, Upholds}
use Rattle.cb_record.proofs.Entering.{EntersAlike, EntersOne, enters}
use Rattle.cb_record.proofs.Links.{IsEntered, MayStandAt, StandsFor}
use Rattle.cb_record.proofs.Listing.{all_append, has_left, has_one_left, has_one_right, has_right}
use Rattle.cb_record.proofs.Ordering.{changes_at}

module _ (first : ℕ) (es : List Entry) (h : ℕ) where
  -- these changes at an object are those of these entries
  pub record IsPiece (cs : List (ℕ × Change)) (own : List Entry) : Type 0 where
    pub counts : (k : ℕ) → times (changes_at k) cs ≡ times (is_version h k) own
    pub each : AllByRecursion (IsEntered first es h) cs
    pub all : (e : Entry) → Has e own → e.handle ≡ h → HasOne (StandsFor h e) cs

  piece_none : IsPiece [] []
  piece_none = record { counts = λ k. refl; each = tt; all = λ e there on. there }

  split : {A : Type 0} (e : A) (xs ys : List A) → Has e (xs ++ ys) → Has e xs ⊎ Has e ys
  split e [] ys there = inr there
  split e (x ∷ xs) ys there = ⊎_elim (λ (is : x ≡ e). inl (inl is))
      (λ (more : Has e (xs ++ ys)). ⊎_elim (λ (q : Has e xs). inl (inr q))
      (λ (q : Has e ys). inr q) (split e xs ys more)) there

  piece_append : (cs ds : List (ℕ × Change)) (own rest : List Entry) → IsPiece cs own
      → IsPiece ds rest → IsPiece (cs ++ ds) (rest ++ own)
  piece_append cs ds own rest a b = record {
    counts = λ k. let x = a.counts k in let y = b.counts k in
        let l = times-append (changes_at k) cs ds in
        let r = times-append (is_version h k) rest own in omega arith;
    each = all_append (IsEntered first es h) cs ds a.each b.each;
    all = λ e there on. ⊎_elim
        (λ (q : Has e rest). has_one_right (StandsFor h e) cs ds (b.all e q on))
        (λ (q : Has e own). has_one_left (StandsFor h e) cs ds (a.all e q on))
        (split e rest own there);
  }

  piece_one : (n : ℕ) (e : Entry) (c : ℕ × Change) → Has e es → StandsFor n e c → MayStandAt first c
      → IsPiece (cond (eqb h n) (c ∷ []) []) (e ∷ [])
  piece_one n e c there s fits = by_case (λ b. IsPiece (cond b (c ∷ []) []) (e ∷ [])) (eqb h n)
      (λ is. let one : n ≡ h = sym (eqb-true h n is) in
      let on : e.handle ≡ h = s.handle ∙ one in
      record {
        counts = λ k. ap (λ (b : Bool). cond {A = ℕ} b 1 0 + 0)
            (ap (λ (m : ℕ). eqb m k) (sym s.version)
            ∙ ap (λ (b : Bool). b && eqb e.version k) (sym (eq-eqb e.handle h on)));
        each = (
          record {
            entry = e;
            there = there;
            stands = subst (λ (m : ℕ). StandsFor m e c) one s;
            fits = fits;
          },
          tt,
        );
        all = λ x at on_x. ⊎_elim
            (λ (same : e ≡ x). inl (subst (λ (y : Entry). StandsFor h y c) same
            (subst (λ (m : ℕ). StandsFor m e c) one s)))
            (λ (none : ⊥). absurd none) at;
      })
      (λ is. let ne : e.handle ≢ h = (λ q. true≢false (sym (eq-eqb h n (sym q ∙ s.handle)) ∙ is)) in
      record {
        counts = λ k. ap (λ (b : Bool). cond {A = ℕ} (b && eqb e.version k) 1 0 + 0)
            (sym (ne_eqb e.handle h ne));
        each = tt;
        all = λ x at on_x. ⊎_elim
            (λ (same : e ≡ x). absurd (ne (ap (λ (y : Entry). y.handle) same ∙ on_x)))
            (λ (none : ⊥). absurd none) at;
      })

  -- the changes of an answer, where it is about the object
  abbrev at_it : Option ℕ → List (ℕ × Change) → List (ℕ × Change)
  at_it handle cs = cond (is_about h handle) cs []

  piece_of : (handle : Option ℕ) (cs : List (ℕ × Change)) (own : List Entry)
      → EntersAlike handle cs own → ((e : Entry) → Has e own → Has e es)
      → ((n : ℕ) → handle ≡ Some n → AllByRecursion (MayStandAt first) cs)
      → IsPiece (at_it handle cs) own
  piece_of handle cs own alike sub fits = ⊎_elim
      (λ (none : (cs ≡ []) × (own ≡ [])).
      subst (λ (ds : List (ℕ × Change)). IsPiece (at_it handle ds) own) (sym none.0)
      (subst (λ (xs : List Entry). IsPiece (at_it handle []) xs) (sym none.1)
      (by_case (λ b. IsPiece (cond b [] []) []) (is_about h handle)
      (λ _. piece_none) (λ _. piece_none))))
      (λ (one : EntersOne handle cs own).
      let there = sub one.entry (subst (λ (xs : List Entry). Has one.entry xs) (sym one.entries) (inl refl)) in
      let fit = subst (λ (ds : List (ℕ × Change)). AllByRecursion (MayStandAt first) ds) one.changes (fits one.number one.about) in
      subst (λ (k : Option ℕ). IsPiece (at_it k cs) own) (sym one.about)
      (subst (λ (ds : List (ℕ × Change)). IsPiece (at_it (Some one.number) ds) own) (sym one.changes)
      (subst (λ (xs : List Entry). IsPiece (at_it (Some one.number) (one.change ∷ [])) xs) (sym one.entries)
      (piece_one one.number one.entry one.change there one.stands fit.0)))) alike

module _ (first handles : ℕ) (calls : List Called) (v : View) where
  -- a change of an answer that is upheld stands where it may
  fits_upheld : (n : ℕ) (e : Event) → IsUpheld first handles calls v (Some n) e
      → AllByRecursion (MayStandAt first) (change_of e)
  fits_upheld n (Makes bytes version) up = (up.1, tt)
  fits_upheld n (Writes at bytes version) up = (tt, tt)
  fits_upheld n (Frees version) up = (tt, tt)
  fits_upheld n (Shows version bytes) up = tt
  fits_upheld n (Pins version) up = tt
  fits_upheld n (FindsFull number) up = tt
  fits_upheld n FindsUnmade up = tt
  fits_upheld n FindsFreed up = tt
  fits_upheld n (FindsEnd at bytes len) up = tt
  fits_upheld n (Refused subject) up = tt
  fits_upheld n Wrong up = tt

  -- what answers wrote is what they changed at each object
  pub pieces : (h : ℕ) (before after : List Answer) (written : List Entry)
      → WroteLines written (tolds before after)
      → AllByRecursion (Upholds first handles calls v) (calls_behind before after)
      → ((e : Entry) → Has e written → Has e v.written)
      → IsPiece first v.written h (changes_to h (calls_behind before after)) written
  pieces h before [] written wrote up sub =
      subst (IsPiece first v.written h []) (sym wrote) (piece_none first v.written h)
  pieces h before (a ∷ after) written wrote up sub =
      let own = wrote.0 in
      let rest = wrote.1 in
      let handle = handle_for before a.request a.reply in
      let event = event_of a.request a.reply in
      let within : (e : Entry) → Has e (rest ++ own) → Has e v.written =
      λ e there. sub e (subst (Has e) (sym wrote.2) there) in
      subst (λ (ws : List Entry). IsPiece first v.written h
      (changes_to h (calls_behind before (a ∷ after))) ws) (sym wrote.2)
      (piece_append first v.written h (at_it first v.written h handle (change_of event))
      (changes_to h (calls_behind (before ++ a ∷ []) after)) own rest
      (piece_of first v.written h handle (change_of event) own
      (enters first handles calls v before handle a.request a.reply own refl up.0 wrote.3)
      (λ e there. within e (has_right e rest own there))
      (λ n is. fits_upheld n event (subst (λ (k : Option ℕ). IsUpheld first handles calls v k event) is up.0)))
      (pieces h (before ++ a ∷ []) after rest wrote.4 up.1
      (λ e there. within e (has_left e rest own there))))
