-- The words of spans whose objects are all held.
use Rattle.std.proofs.Common.{◌≡◌, ℕ, ◌*◌, List, length, Some, inl, inr, sym, ◌∙◌, subst, arith}
use Rattle.std.proofs.lemmas.Bool.{cases_lt}
use Rattle.std.proofs.lemmas.List.{get_or_past}
use Rattle.std.proofs.lemmas.List.Elements.{All-contains}
use Rattle.cb_class.specs.Class.{pages_of}
use Rattle.cb_span.specs.Contents.{Contents, handle_at}
use Rattle.cb_world.specs.declared.leaving.Former.{Former}
use Rattle.cb_world.specs.declared.access.Access.{Access}
use Rattle.cb_world.specs.declared.shown.Shown.{Shown}
use Rattle.cb_world.specs.Shown.{IsHeld, object_at}
use Rattle.cb_world.specs.Memory.{window}
use Rattle.cb_world.specs.FarState.{FarState, span_in}
use Rattle.cb_world.specs.LocalSound.{LocalSound}
use Rattle.cb_world.proofs.Laws.{window_same, frame_spares}
use Rattle.cb_evict.specs.Claims.{Keeps, AreClaimed, IsClaimedBy}
use Rattle.cb_evict.specs.Claiming.{IsOne}

-- its words stay while others are claimed
pub span_stays : (far : FarState) (s t : Shown) (f pages : ℕ) (span : Contents) → LocalSound s far
    → span_in far.spans f ≡ Some span → pages_of span.class ≡ pages
    → ((slot h : ℕ) → handle_at span slot ≡ Some h → IsHeld (object_at s h)) → Keeps s t
    → window t.memory (512 * f) (512 * pages) ≡ window s.memory (512 * f) (512 * pages)
span_stays far s t f pages span sound there long held keeps =
    window_same t.memory s.memory (512 * f) (512 * pages) (λ p from to.
    elim (cases_lt p (length s.memory)) [
      | inl within ↦ keeps.words p (
        within,
        frame_spares far s f p span sound there held (from, omega (arith, to, long)),
      )
      | inr past ↦ get_or_past t.memory p 0 (omega (arith, past, keeps.memory))
          ∙ sym (get_or_past s.memory p 0 past)
    ])

-- an object that is claimed is held
pub claimed_held : (es : List Access) (s t : Shown) (formers : List Former) → AreClaimed es s t formers
    → (h : ℕ) → IsOne formers h → IsHeld (object_at t h)
claimed_held es s t formers a h (f, c, e) =
    let x = All-contains (IsClaimedBy es t) formers f a.taken c in
    subst (λ (k : ℕ). IsHeld (object_at t k)) e (subst IsHeld (sym x.at.object) tt)
