-- The changes of calls are the entries of their record.
use Rattle.std.proofs.Common.{◌≡◌, ◌⊎◌, ℕ, List, [], ◌∷◌, Option, Some, None, refl, subst, inl, inr}
use Rattle.cb_types.specs.declared.answer.Answer.{Answer}
use Rattle.cb_types.specs.declared.reply.Reply.{Reply}
use Rattle.cb_types.specs.declared.reply.Reply.TheVariants as answer
use Rattle.cb_types.specs.declared.request.Request.{Request}
use Rattle.cb_types.specs.declared.request.Request.TheVariants as request
use Rattle.cb_world.specs.declared.entry.Entry.{Entry}
use Rattle.cb_rule.specs.declared.view.View.{View}
use Rattle.cb_model.specs.Now.{Change}
use Rattle.cb_model.specs.Now.Change.{Create, Overwrite, Remove}
use Rattle.cb_model.specs.Called.{Called, handle_for}
use Rattle.cb_model.specs.Event.{Event, Subject, change_of, event_of, refusal}
use Rattle.cb_model.specs.Event.Subject.{NewObject, Contents, Other, Nothing}
use Rattle.cb_model.specs.Event.Event.{Makes, Shows, Pins, Writes, Frees, FindsFull, FindsUnmade, FindsFreed, FindsEnd, Refused, Wrong}
use Rattle.cb_record.specs.Backs.{EntersAt}
use Rattle.cb_record.specs.Upheld.{IsUpheld}
use Rattle.cb_record.proofs.Links.{StandsFor}

-- an answer changed nothing and entered nothing, or made one change and one entry
pub record EntersOne (handle : Option ℕ) (cs : List (ℕ × Change)) (own : List Entry) : Type 0 where
  pub number : ℕ
  pub about : handle ≡ Some number
  pub entry : Entry
  pub change : ℕ × Change
  pub changes : cs ≡ change ∷ []
  pub entries : own ≡ entry ∷ []
  pub stands : StandsFor number entry change

abbrev pub EntersAlike : Option ℕ → List (ℕ × Change) → List Entry → Type 0
EntersAlike handle cs own = ((cs ≡ []) × (own ≡ [])) ⊎ EntersOne handle cs own

refusal_quiet : (s : Subject) (r : Reply) → change_of (refusal s r) ≡ []
refusal_quiet NewObject answer.Freed = refl
refusal_quiet Contents answer.Freed = refl
refusal_quiet Other answer.Freed = refl
refusal_quiet Nothing answer.Freed = refl
refusal_quiet s r = refl

read_quiet : (name : List ℕ) (r : Reply) → change_of (event_of (request.Read name) r) ≡ []
read_quiet name (answer.Bytes version bytes) = refl
read_quiet name r = refl

peek_quiet : (name : List ℕ) (r : Reply) → change_of (event_of (request.Peek name) r) ≡ []
peek_quiet name (answer.Bytes version bytes) = refl
peek_quiet name r = refl

pin_quiet : (name : List ℕ) (r : Reply) → change_of (event_of (request.Pin name) r) ≡ []
pin_quiet name (answer.Version version) = refl
pin_quiet name r = refl

make_alike : (before : List Answer) (name bytes : List ℕ) (r : Reply) (own : List Entry)
    → EntersAt (handle_for before (request.Make name bytes) r) (request.Make name bytes) r own
    → EntersAlike (handle_for before (request.Make name bytes) r) (change_of (event_of (request.Make name bytes) r)) own
make_alike before name bytes (answer.Made h v) own e = inr (record {
  number = h.n;
  about = refl;
  entry = _;
  change = (v, Create bytes);
  changes = refl;
  entries = e.2;
  stands = record { handle = refl; version = refl; does = (refl, refl, e.1) };
})
make_alike before name bytes r own e = inl (refl, e)

write_alike : (h : ℕ) (name : List ℕ) (at : ℕ) (bytes : List ℕ) (r : Reply) (own : List Entry)
    → EntersAt (Some h) (request.Write name at bytes) r own
    → EntersAlike (Some h) (change_of (event_of (request.Write name at bytes) r)) own
write_alike h name at bytes (answer.Version v) own e = inr (record {
  number = h;
  about = refl;
  entry = _;
  change = (v, Overwrite at bytes);
  changes = refl;
  entries = e.5;
  stands = record { handle = refl; version = refl; does = (refl, e.3, e.4) };
})
write_alike h name at bytes r own e = inl (refl, e)

free_alike : (h : ℕ) (name : List ℕ) (r : Reply) (own : List Entry)
    → EntersAt (Some h) (request.Free name) r own
    → EntersAlike (Some h) (change_of (event_of (request.Free name) r)) own
free_alike h name (answer.Version v) own e = inr (record {
  number = h;
  about = refl;
  entry = _;
  change = (v, Remove);
  changes = refl;
  entries = e.1;
  stands = record { handle = refl; version = refl; does = refl };
})
free_alike h name r own e = inl (refl, e)

module _ (first handles : ℕ) (calls : List Called) (v : View) where
  -- what has no handle changes nothing
  none_quiet : (e : Event) → IsUpheld first handles calls v None e → change_of e ≡ []
  none_quiet (Makes bytes version) up = absurd up
  none_quiet (Writes at bytes version) up = absurd up
  none_quiet (Frees version) up = absurd up
  none_quiet (Shows version bytes) up = refl
  none_quiet (Pins version) up = refl
  none_quiet (FindsFull number) up = refl
  none_quiet FindsUnmade up = refl
  none_quiet FindsFreed up = refl
  none_quiet (FindsEnd at bytes len) up = refl
  none_quiet (Refused subject) up = refl
  none_quiet Wrong up = refl

  -- each answer changed what it entered
  pub enters : (before : List Answer) (handle : Option ℕ) (q : Request) (r : Reply) (own : List Entry)
      → handle_for before q r ≡ handle → IsUpheld first handles calls v handle (event_of q r)
      → EntersAt handle q r own → EntersAlike handle (change_of (event_of q r)) own
  enters before handle (request.Make name bytes) r own is up e =
      subst (λ (h : Option ℕ). EntersAlike h (change_of (event_of (request.Make name bytes) r)) own)
      is
      (make_alike before name bytes r own e)
  enters before None (request.Write name at bytes) r own is up e =
      inl (none_quiet (event_of (request.Write name at bytes) r) up, e)
  enters before (Some h) (request.Write name at bytes) r own is up e =
      write_alike h name at bytes r own e
  enters before None (request.Free name) r own is up e =
      inl (none_quiet (event_of (request.Free name) r) up, e)
  enters before (Some h) (request.Free name) r own is up e = free_alike h name r own e
  enters before None (request.Read name) r own is up e = inl (read_quiet name r, e)
  enters before (Some h) (request.Read name) r own is up e = inl (read_quiet name r, e)
  enters before None (request.Peek name) r own is up e = inl (peek_quiet name r, e)
  enters before (Some h) (request.Peek name) r own is up e = inl (peek_quiet name r, e)
  enters before None (request.Pin name) r own is up e = inl (pin_quiet name r, e)
  enters before (Some h) (request.Pin name) r own is up e = inl (pin_quiet name r, e)
  enters before None (request.Unpin name) r own is up e = inl (refusal_quiet Other r, e)
  enters before (Some h) (request.Unpin name) r own is up e = inl (refusal_quiet Other r, e)
  enters before None (request.Filter name) r own is up e = inl (refusal_quiet Other r, e)
  enters before (Some h) (request.Filter name) r own is up e = inl (refusal_quiet Other r, e)
  enters before None q r own is up e = inl (refusal_quiet Nothing r, e)
  enters before (Some h) q r own is up e = inl (refusal_quiet Nothing r, e)
