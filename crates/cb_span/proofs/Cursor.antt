-- What a span keeps beside its contents, after a handle was placed.
use Rattle.std.proofs.Common.{◌≡◌, ℕ, ◌+◌, ◌<◌, true, false, Some, None, is_none, length, ap, sym, ◌∙◌, arith, inl, inr}
use Rattle.std.proofs.lemmas.Bool.{cases_eq}
use Rattle.std.proofs.lemmas.List.{length-set}
use Rattle.std.proofs.lemmas.List.Quantifiers.{position-Some}
use Rattle.cb_span.specs.Contents.{Contents, IsSpan, handle_at, least_empty, with_placed}
use Rattle.cb_span.specs.Kept.{IsKept}
use Rattle.cb_span.proofs.Laws.{IsSpan-with_placed, handle_at-with_placed, handle_at-with_placed_other, least_empty-Some, live_count-with_placed, slots-le}

-- the least empty slot is one of at most 256
pub least_empty-lt : (span : Contents) (slot : ℕ) → IsSpan span → least_empty span ≡ Some slot
    → slot < 256
least_empty-lt span slot valid found =
    let within : slot < length span.slots = (least_empty-Some span slot found).0 in
    omega (arith, within, slots-le span valid)

pub IsKept-with_placed : (span : Contents) (live taken_below slot handle : ℕ)
    → IsKept span live taken_below → least_empty span ≡ Some slot
    → IsKept (with_placed span slot handle) (live + 1) (slot + 1)
IsKept-with_placed span live taken_below slot handle kept found =
    let first : (slot < length span.slots) × (is_none (handle_at span slot) ≡ true)
    × ((k : ℕ) → k < slot → is_none (handle_at span k) ≡ false) =
    position-Some is_none span.slots slot None found in
    let within : slot < length span.slots = first.0 in
    let empty = (least_empty-Some span slot found).1 in
    record {
      valid = IsSpan-with_placed span slot handle kept.valid;
      counted = ap (λ n. n + 1) kept.counted
          ∙ sym (live_count-with_placed span slot handle within empty);
      within = omega (arith, length-set span.slots slot (Some handle));
      taken = λ k below. elim (cases_eq k slot) [
        | inl same ↦ ap (λ j. is_none (handle_at (with_placed span slot handle) j)) same
            ∙ ap is_none (handle_at-with_placed span slot handle within)
        | inr apart ↦ ap is_none (handle_at-with_placed_other span slot handle k apart)
            ∙ first.2 k (omega arith)
      ];
    }
