-- What a record has for an answer, by what the answer tells.
use Rattle.std.proofs.Common.{◌≡◌, ◌⊎◌, ℕ, List, Some, refl, inl, inr}
use Rattle.cb_types.specs.declared.reply.Reply.{Reply}
use Rattle.cb_types.specs.declared.reply.Reply.TheVariants as answer
use Rattle.cb_types.specs.declared.request.Request.{Request}
use Rattle.cb_types.specs.declared.request.Request.TheVariants as request
use Rattle.cb_model.specs.Event.{Event, Subject, event_of, refusal}
use Rattle.cb_model.specs.Event.Subject.{NewObject, Contents, Other, Nothing}
use Rattle.cb_model.specs.Event.Event.{Shows, Pins, FindsFreed}
use Rattle.cb_record.specs.Lists.{HasOne}
use Rattle.cb_record.specs.Needs.{ArePeeked, IsFreedAs, IsPinnedAs, IsReadAs, Meets, need_of}
use Rattle.cb_record.specs.Parts.{Part}

-- what was shown was read or peeked, what was pinned was read, and so was the freed version
abbrev pub IsMet : Part → ℕ → Event → Type 0
IsMet d h (Shows version bytes) =
    HasOne (IsReadAs h version bytes) d.seen ⊎ ArePeeked h version bytes d.peeked
IsMet d h (Pins version) = HasOne (IsPinnedAs h version) d.seen
IsMet d h FindsFreed = HasOne (IsFreedAs h) d.seen
IsMet d h event = Unit {0}

module _ (d : Part) (h : ℕ) where
  refusal_met : (s : Subject) (r : Reply) → (s ≡ Contents → ⊥) → IsMet d h (refusal s r)
  refusal_met Contents r not = absurd (not refl)
  refusal_met NewObject answer.Freed not = tt
  refusal_met NewObject r not = tt
  refusal_met Other answer.Freed not = tt
  refusal_met Other r not = tt
  refusal_met Nothing answer.Freed not = tt
  refusal_met Nothing r not = tt

  make_met : (name bytes : List ℕ) (r : Reply) → IsMet d h (event_of (request.Make name bytes) r)
  make_met name bytes answer.Freed = tt
  make_met name bytes r = tt

  read_met : (name : List ℕ) (r : Reply) → Meets d (need_of (Some h) (request.Read name) r)
      → IsMet d h (event_of (request.Read name) r)
  read_met name (answer.Bytes version bytes) m = inl m
  read_met name answer.Freed m = m.0
  read_met name r m = tt

  write_met : (name : List ℕ) (at : ℕ) (bytes : List ℕ) (r : Reply)
      → Meets d (need_of (Some h) (request.Write name at bytes) r)
      → IsMet d h (event_of (request.Write name at bytes) r)
  write_met name at bytes answer.Freed m = m.0
  write_met name at bytes r m = tt

  free_met : (name : List ℕ) (r : Reply) → Meets d (need_of (Some h) (request.Free name) r)
      → IsMet d h (event_of (request.Free name) r)
  free_met name answer.Freed m = m.0
  free_met name r m = tt

  pin_met : (name : List ℕ) (r : Reply) → Meets d (need_of (Some h) (request.Pin name) r)
      → IsMet d h (event_of (request.Pin name) r)
  pin_met name (answer.Version version) m = m
  pin_met name answer.Freed m = m.0
  pin_met name r m = tt

  peek_met : (name : List ℕ) (r : Reply) → Meets d (need_of (Some h) (request.Peek name) r)
      → IsMet d h (event_of (request.Peek name) r)
  peek_met name (answer.Bytes version bytes) m = inr m
  peek_met name r m = tt

  pub met : (q : Request) (r : Reply) → Meets d (need_of (Some h) q r) → IsMet d h (event_of q r)
  met (request.Make name bytes) r m = make_met name bytes r
  met (request.Read name) r m = read_met name r m
  met (request.Write name at bytes) r m = write_met name at bytes r m
  met (request.Free name) r m = free_met name r m
  met (request.Pin name) r m = pin_met name r m
  met (request.Peek name) r m = peek_met name r m
  met (request.Unpin name) r m = refusal_met Other r (λ e. absurd cc)
  met (request.Filter name) r m = refusal_met Other r (λ e. absurd cc)
  met q r m = refusal_met Nothing r (λ e. absurd cc)
