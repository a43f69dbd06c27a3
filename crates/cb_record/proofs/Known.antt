-- What answers told of versions stands in the record that backs them.
use Rattle.std.proofs.Common.{◌≡◌, ℕ, Bool, false, List, [], ◌∷◌, ◌++◌, Option, Some, sym, refl, ap, ◌∙◌, subst, inl, inr, ⊎_elim}
use Rattle.std.specs.List.{AllByRecursion}
use Rattle.cb_types.specs.declared.answer.Answer.{Answer}
use Rattle.cb_world.specs.declared.entry.Entry.{Entry}
use Rattle.cb_rule.specs.declared.view.View.{View}
use Rattle.cb_rule.specs.Lists.{Has}
use Rattle.cb_model.specs.Now.{Change}
use Rattle.cb_model.specs.Called.{Called, calls_behind, handle_for}
use Rattle.cb_model.specs.Event.{Event, change_of, event_of}
use Rattle.cb_model.specs.Event.Event.{Makes, Shows, Pins, Writes, Frees, FindsFull, FindsUnmade, FindsFreed, FindsEnd, Refused, Wrong}
use Rattle.cb_record.specs.Backs.{Tells, WroteLines}
use Rattle.cb_record.specs.Lists.{HasOne}
use Rattle.cb_record.specs.Needs.{IsFreedAs, IsPinnedAs, Meets, need_of}
use Rattle.cb_record.specs.Rises.{HasVersion, IsKnownTo, IsOnRecord}
use Rattle.cb_record.specs.Told.{tolds}
use Rattle.cb_record.specs.Upheld.{IsSeenLong, IsUpheld, Upholds, as_part}
use Rattle.cb_record.proofs.Entering.{EntersAlike, EntersOne, enters}
use Rattle.cb_record.proofs.Listing.{has_left, has_right}
use Rattle.cb_record.proofs.Meeting.{IsMet, met}
use Rattle.cb_record.proofs.Replied.{find_one}

abbrev first_version : List (ℕ × Change) → ℕ
first_version [] = 0
first_version (c ∷ cs) = c.0

one_number : (n m : ℕ) → Some n ≡ Some m → n ≡ m
one_number n m e = cc

module _ (v : View) (h : ℕ) where
  -- the version of a change stands as written
  entered : (version n : ℕ) (change : Change) (own : List Entry)
      → EntersAlike (Some h) ((version, change) ∷ []) own
      → ((e : Entry) → Has e own → Has e v.written)
      → Some version ≡ Some n → (freed : Bool) × HasVersion v h n freed
  entered version n change own alike sub e = ⊎_elim
      (λ (none : ((version, change) ∷ [] ≡ []) × (own ≡ [])). absurd (let z = none.0 in cc))
      (λ (one : EntersOne (Some h) ((version, change) ∷ []) own). (
        one.entry.freed,
        inl (
          one.entry,
          sub one.entry (subst (λ (xs : List Entry). Has one.entry xs) (sym one.entries) (inl refl)),
          one.stands.handle ∙ sym (one_number h one.number one.about),
          one.stands.version ∙ sym (ap first_version one.changes) ∙ one_number version n e,
          refl,
        ),
      )) alike

  pinned : (version n : ℕ) → HasOne (IsPinnedAs h version) v.seen → Some version ≡ Some n
      → (freed : Bool) × HasVersion v h n freed
  pinned version n one e = let z = find_one (IsPinnedAs h version) v.seen one in
      (false, inr (z.0, z.1, z.2.0, z.2.1 ∙ one_number version n e, z.2.2))

  shown : (version n len : ℕ) → HasOne (IsSeenLong h version len) v.seen → Some version ≡ Some n
      → (freed : Bool) × HasVersion v h n freed
  shown version n len one e = let z = find_one (IsSeenLong h version len) v.seen one in
      (false, inr (z.0, z.1, z.2.0, z.2.1 ∙ one_number version n e, z.2.2))

  known : (first handles : ℕ) (calls : List Called) (e : Event) (own : List Entry)
      → EntersAlike (Some h) (change_of e) own → ((x : Entry) → Has x own → Has x v.written)
      → IsMet (as_part v) h e → IsUpheld first handles calls v (Some h) e → IsKnownTo v h e
  known first handles calls (Makes bytes version) own alike sub m up =
      λ n is. entered version n _ own alike sub is
  known first handles calls (Writes at bytes version) own alike sub m up =
      λ n is. entered version n _ own alike sub is
  known first handles calls (Frees version) own alike sub m up =
      λ n is. entered version n _ own alike sub is
  known first handles calls (Shows version bytes) own alike sub m up =
      λ n is. shown version n _ up is
  known first handles calls (Pins version) own alike sub m up = λ n is. pinned version n m is
  known first handles calls FindsFreed own alike sub m up =
      let z = find_one (IsFreedAs h) v.seen m in
      (z.0.version, inr (z.0, z.1, z.2.0, refl, z.2.1))
  known first handles calls (FindsFull number) own alike sub m up = λ n is. absurd cc
  known first handles calls FindsUnmade own alike sub m up = λ n is. absurd cc
  known first handles calls (FindsEnd at bytes len) own alike sub m up = λ n is. absurd cc
  known first handles calls (Refused subject) own alike sub m up = λ n is. absurd cc
  known first handles calls Wrong own alike sub m up = λ n is. absurd cc

module _ (first handles : ℕ) (calls : List Called) (v : View) where
  -- what each answer told stands in the record that backs them all
  pub on_record : (before after : List Answer) (written : List Entry)
      → WroteLines written (tolds before after) → ((e : Entry) → Has e written → Has e v.written)
      → AllByRecursion (Tells (as_part v)) (tolds before after)
      → AllByRecursion (Upholds first handles calls v) (calls_behind before after)
      → AllByRecursion (IsOnRecord v) (calls_behind before after)
  on_record before [] written wrote sub m up = tt
  on_record before (a ∷ after) written wrote sub m up =
      let handle = handle_for before a.request a.reply in
      let within : (e : Entry) → Has e (wrote.1 ++ wrote.0) → Has e v.written =
      λ e there. sub e (subst (Has e) (sym wrote.2) there) in (
        λ h on. known v h first handles calls (event_of a.request a.reply) wrote.0
            (subst (λ (k : Option ℕ). EntersAlike k (change_of (event_of a.request a.reply)) wrote.0) on
            (enters first handles calls v before handle a.request a.reply wrote.0 refl up.0 wrote.3))
            (λ e there. within e (has_right e wrote.1 wrote.0 there))
            (met (as_part v) h a.request a.reply
            (subst (λ (k : Option ℕ). Meets (as_part v) (need_of k a.request a.reply)) on m.0))
            (subst (λ (k : Option ℕ). IsUpheld first handles calls v k (event_of a.request a.reply)) on up.0),
        on_record (before ++ a ∷ []) after wrote.1 wrote.4
            (λ e there. within e (has_left e wrote.1 wrote.0 there)) m.1 up.1,
      )
