-- What an eviction keeps, from the step alone.
use Rattle.std.proofs.Common.{◌≡◌, ◌⊎◌, ℕ, zero, suc, true, List, [], ◌∷◌, get_or, take, Option, Some, None, sym, ap, ◌∙◌, arith, inl, inr}
use Rattle.std.specs.List.{Contains}
use Rattle.std.proofs.lemmas.Bool.{cases_eq}
use Rattle.std.proofs.lemmas.List.Elements.{All-contains, filter_passes}
use Rattle.cb_ptr.specs.Word.{pins_of}
use Rattle.cb_span.specs.Contents.{Contents}
use Rattle.cb_types.specs.declared.handle.SetId.{SetId}
use Rattle.cb_types.specs.declared.reply.Reply.{Reply}
use Rattle.cb_types.specs.declared.reply.Reply.TheVariants as answer
use Rattle.cb_world.specs.FarState.{FarState, span_in, handle_in}
use Rattle.cb_world.specs.Grasped.{IsFree}
use Rattle.cb_world.specs.Plain.{Words}
use Rattle.cb_world.specs.World.{word_at}
use Rattle.cb_world.proofs.Laws.{KeepsPins, StepKeeps, keeps_same}
use Rattle.cb_evict.specs.Candidates.{candidates}
use Rattle.cb_evict.specs.ChangesWords.{ChangesWords}
use Rattle.cb_evict.specs.EvictStep.{is_loose, loose_frames, IsSetMade, IsEvictStep, few_spans, few_nodes, made}
use Rattle.cb_evict.specs.Lengths.{has_pages, loose_of}
use Rattle.cb_evict.specs.Looking.{IsIn}
use Rattle.cb_evict.proofs.ChangedWords.{changes_keep}
use Rattle.cb_evict.proofs.Composed.{few_spans as not_few_spans, few_nodes as not_few_nodes}
use Rattle.cb_evict.proofs.FarRest.{rest_kept, rest_of}
use Rattle.cb_evict.proofs.Loose.{names_has, contains_head, contains_tail}
use Rattle.cb_evict.proofs.LooseLengths.{filter_in}
use Rattle.cb_evict.proofs.LooseSpans.{loose_free}
use Rattle.cb_evict.proofs.Standing.{names_span}
use Rattle.cb_evict.proofs.Trying.{taken_of}
use Rattle.cb_evict.proofs.Options.{none_some, some_same}

-- a set was made where one is answered
pub evict_made : (x y : Words) (far new : FarState) (r : Reply) (id : SetId)
    → IsEvictStep x y far new r → r ≡ answer.Set id → IsSetMade x y far new r
evict_made x y far new r id (few_spans a e) set = absurd (not_few_spans _ r id a.reply set)
evict_made x y far new r id (few_nodes a e) set = absurd (not_few_nodes _ r id a.reply set)
evict_made x y far new r id (made m) set = m

-- ---- the objects that leave
option_is : (o : Option ℕ) (h : ℕ) → (o ≡ Some h) ⊎ (o ≡ Some h → ⊥)
option_is None h = inr (none_some h)
option_is (Some n) h = elim (cases_eq n h) [
  | inl e ↦ inl (ap Some e)
  | inr off ↦ inr (λ e. off (some_same n h e))
]

neither : (o : Option ℕ) (slots : List (Option ℕ)) (h : ℕ) → (o ≡ Some h → ⊥)
    → ((slot : ℕ) → get_or slots slot None ≡ Some h → ⊥) → (slot : ℕ)
    → get_or (o ∷ slots) slot None ≡ Some h → ⊥
neither o slots h here off zero e = here e
neither o slots h here off (suc slot) e = off slot e

in_slots : (slots : List (Option ℕ)) (h : ℕ)
    → ((slot : ℕ) × (get_or slots slot None ≡ Some h))
    ⊎ ((slot : ℕ) → get_or slots slot None ≡ Some h → ⊥)
in_slots [] h = inr (λ slot e. none_some h e)
in_slots (o ∷ slots) h = elim (option_is o h) [
  | inl e ↦ inl (0, e)
  | inr here ↦ elim (in_slots slots h) [
    | inl (slot, e) ↦ inl (suc slot, e)
    | inr off ↦ inr (neither o slots h here off)
  ]
]

in_span : (o : Option Contents) (h : ℕ)
    → ((slot : ℕ) × (handle_in o slot ≡ Some h))
    ⊎ ((slot : ℕ) → handle_in o slot ≡ Some h → ⊥)
in_span None h = inr (λ slot e. none_some h e)
in_span (Some span) h = in_slots span.slots h

not_later : (spans : List (Option Contents)) (f : ℕ) (frames : List ℕ) (h : ℕ)
    → ((slot : ℕ) → handle_in (span_in spans f) slot ≡ Some h → ⊥) → ¬ (IsIn spans frames h)
    → ¬ (IsIn spans (f ∷ frames) h)
not_later spans f frames h off out (g, (zero, l, e), (slot, named)) =
    off slot (ap (λ (n : ℕ). handle_in (span_in spans n) slot) e ∙ named)
not_later spans f frames h off out (g, (suc k, l, e), named) =
    out (g, (k, omega (arith, l), e), named)

-- an object is one of those that leave, or is not
pub in_or_not : (spans : List (Option Contents)) (frames : List ℕ) (h : ℕ)
    → IsIn spans frames h ⊎ ¬ (IsIn spans frames h)
in_or_not spans [] h = inr (λ (f, (k, l, e), named). omega (arith, l))
in_or_not spans (f ∷ frames) h = elim (in_span (span_in spans f) h) [
  | inl named ↦ inl (f, contains_head f frames, named)
  | inr off ↦ elim (in_or_not spans frames h) [
    | inl (g, c, named) ↦ inl (g, contains_tail f g frames c, named)
    | inr out ↦ inr (not_later spans f frames h off out)
  ]
]

-- a frame of those that leave holds a loose span
frame_loose : (x : Words) (far : FarState) (k pages f : ℕ)
    → Contains (take k (loose_of far.spans pages (loose_frames x far))) f
    → is_loose x (span_in far.spans f) ≡ true
frame_loose x far k pages f c = All-contains (λ (g : ℕ). is_loose x (span_in far.spans g) ≡ true)
    (loose_frames x far) f
    (filter_passes (λ (g : ℕ). is_loose x (span_in far.spans g)) (candidates far))
    (filter_in (has_pages far.spans pages) (loose_frames x far) f
    (taken_of (loose_of far.spans pages (loose_frames x far)) k f c))

-- an object that leaves is here, and has no pins
pub leaves_free : (x : Words) (far : FarState) (k pages h : ℕ)
    → IsIn far.spans (take k (loose_of far.spans pages (loose_frames x far))) h → IsFree (word_at x h)
leaves_free x far k pages h (f, c, named) =
    let span = names_span far.spans f h named in
    loose_free x span.0 h (sym (ap (is_loose x) span.1) ∙ frame_loose x far k pages f c)
    (names_has far.spans f h span.0 span.1 named)

-- so pins stay where those that leave have none afterwards, and other words stay
pub taken_keep : (x y : Words) (far : FarState) (k pages : ℕ) (so : Type 0)
    → ChangesWords x y so (λ h. ¬ (IsIn far.spans (take k (loose_of far.spans pages (loose_frames x far))) h))
    → ((h : ℕ) → IsIn far.spans (take k (loose_of far.spans pages (loose_frames x far))) h → pins_of (word_at y h) ≡ 0)
    → KeepsPins x y
taken_keep x y far k pages so change none = changes_keep x y so _ change
    (λ h. elim (in_or_not far.spans (take k (loose_of far.spans pages (loose_frames x far))) h) [
      | inl leaves ↦ inr ((leaves_free x far k pages h leaves).1, none h leaves)
      | inr out ↦ inl out
    ])

-- ---- the step
pub evict_keeps : (x y : Words) (far new : FarState) (r : Reply) → IsEvictStep x y far new r
    → StepKeeps x y far new
evict_keeps x y far new r (few_spans few same) = keeps_same x y far new same few.state
evict_keeps x y far new r (few_nodes few same) = keeps_same x y far new same few.state
evict_keeps x y far new r (made m) = record {
  far = rest_kept far new (ap rest_of m.evicted.state);
  words = taken_keep x y far far.code.k m.pages _ m.evicted.sent
      (λ h i. (m.evicted.sent.changed h i).pins);
}

-- the batch that is leaving stays
pub evict_leaving : (x y : Words) (far new : FarState) (r : Reply) → IsEvictStep x y far new r
    → new.leaving ≡ far.leaving
evict_leaving x y far new r (few_spans few same) = ap (λ (f : FarState). f.leaving) few.state
evict_leaving x y far new r (few_nodes few same) = ap (λ (f : FarState). f.leaving) few.state
evict_leaving x y far new r (made m) = ap (λ (f : FarState). f.leaving) m.evicted.state
