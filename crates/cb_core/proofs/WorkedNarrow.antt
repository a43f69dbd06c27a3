-- Worked examples of far states with one page to each span and set, and of long makes: what meets
-- each definition, and what breaks one part.
use Rattle.std.proofs.Common.{◌≡◌, ℕ, Bool, true, false, List, [], ◌∷◌, None, Some, length, refl, sym, ap, ◌∙◌, arith}
use Rattle.std.specs.FinMap as map
use Rattle.cb_class.specs.declared.class.Class.{Class}
use Rattle.cb_class.specs.Class.{pages_of}
use Rattle.cb_set.specs.SetState.{SetState, set_of}
use Rattle.cb_span.specs.declared.temp.Temp.TheVariants.{Hot}
use Rattle.cb_span.specs.Contents.{Contents, span_of}
use Rattle.cb_types.specs.declared.config.Config.{Config}
use Rattle.cb_types.specs.declared.handle.Handle.{Handle}
use Rattle.cb_types.specs.declared.job.Job.TheVariants.{Make, Read}
use Rattle.cb_types.specs.declared.reply.Reply.TheVariants as answer
use Rattle.cb_world.specs.Empty.{empty_far}
use Rattle.cb_world.specs.FarState.{FarState}
use Rattle.cb_world.specs.Leaving.{LeavingState}
use Rattle.cb_world.specs.Sets.{Kept}
use Rattle.cb_world.proofs.Laws.{set_there}
use Rattle.cb_core.specs.Narrow.{IsLongMade, IsLongMadeIf, IsNarrow}
use Rattle.cb_core.proofs.Narrow.{no_set, no_span, pages_low, pages_set, sets_put, some_none, some_same}

-- a far state with a span of a class, a set and a batch of so many pages
abbrev at : ℕ → Class
at i = record { index = i }

abbrev span : ℕ → Contents
span i = span_of (at i) Hot []

abbrev set : ℕ → SetState
set pages = set_of 0 pages [] []

abbrev batch : ℕ → LeavingState
batch pages =
    record {
      set = 1;
      pages = pages;
      frames = [];
      words = [];
      made = true;
      parities = [];
      shards = [];
    }

two_pages : pages_of (at 12) ≡ 2
unfolding pages_of
two_pages = refl

module _ (c : Config) where
  abbrev kept : ℕ → Bool → Kept
  kept pages committed = record { set = set pages; committed = committed }

  abbrev far : ℕ → Kept → ℕ → FarState
  far i one pages = record (empty_far 1 c) {
    spans = Some (span i) ∷ [];
    sets = map.insert map.empty 0 one;
    leaving = Some (batch pages);
  }

  narrow_of : (one : Kept) → (one.committed ≡ true → one.set.pages ≡ 1) → IsNarrow (far 11 one 1)
  narrow_of one is = record {
    spans = pages_set (None ∷ []) 0 (Some (span 11))
        (λ other e. subst_pages other (some_same (span 11) other e))
        (λ f other e. absurd (some_none other (sym (no_span 1 f) ∙ e)));
    sets = sets_put map.empty 0 one is
        (λ id other e. absurd (some_none other (sym (no_set 1 c id) ∙ e)));
    leaving = λ other e. leaves other (some_same (batch 1) other e);
  }
    where
      subst_pages : (other : Contents) → span 11 ≡ other → pages_of other.class ≡ 1
      subst_pages other e = ap (λ (x : Contents). pages_of x.class) (sym e) ∙ pages_low (at 11) (omega arith)

      leaves : (other : LeavingState) → batch 1 ≡ other → other.pages ≡ 1
      leaves other e = ap (λ (b : LeavingState). b.pages) (sym e)

  narrow : IsNarrow (far 11 (kept 1 true) 1)
  narrow = narrow_of (kept 1 true) (λ committed. refl)

  -- a set that is not committed may have more: it is the batch that tells
  not_yet_a_set : IsNarrow (far 11 (kept 2 false) 1)
  not_yet_a_set = narrow_of (kept 2 false) (λ committed. absurd (let z : false ≡ true = committed in cc))

  long_span : IsNarrow (far 12 (kept 1 true) 1) → ⊥
  long_span is = let e = is.spans 0 (span 12) refl in omega (arith, e, two_pages)

  long_set : IsNarrow (far 11 (kept 2 true) 1) → ⊥
  long_set is = let e = is.sets 0 (set 2) (set_there map.empty 0 (set 2)) in omega (arith, e)

  long_batch : IsNarrow (far 11 (kept 1 true) 2) → ⊥
  long_batch is = let e = is.leaving (batch 2) refl in omega (arith, e)

-- ---- long makes
abbrev handle : Handle
handle = record { n = 0 }

long_made : (bytes : List ℕ) → length bytes ≡ 1025 → IsLongMade (Make bytes) (answer.Made handle 1)
long_made bytes n = (omega (arith, n), tt)

short_made : (bytes : List ℕ) → length bytes ≡ 1024
    → IsLongMade (Make bytes) (answer.Made handle 1) → ⊥
short_made bytes n z = let more = z.0 in omega (arith, n, more)

long_refused : (bytes : List ℕ) → IsLongMade (Make bytes) (answer.NoRoom 8 0 0) → ⊥
long_refused bytes z = z.1

no_make : IsLongMade (Read handle) (answer.Made handle 1) → ⊥
no_make z = z

-- of a turn
long_answered : (bytes : List ℕ) → length bytes ≡ 1025
    → IsLongMadeIf (Make bytes) (Some (answer.Made handle 1))
long_answered bytes n = long_made bytes n

unanswered : (bytes : List ℕ) → IsLongMadeIf (Make bytes) None → ⊥
unanswered bytes z = z
