-- Words of some objects change, and all others stay.
use Rattle.std.proofs.Common.{◌≡◌, ◌⊎◌, ℕ, List, length, sym, ap, ◌∙◌, arith, inl, inr}
use Rattle.std.proofs.lemmas.Bool.{cases_lt}
use Rattle.std.proofs.lemmas.List.{ext_get_or, get_or_past}
use Rattle.cb_ptr.specs.Word.{pins_of}
use Rattle.cb_world.specs.declared.access.Access.{Access}
use Rattle.cb_world.specs.declared.shown.Shown.{Shown}
use Rattle.cb_world.specs.Shown.{hot_at, object_at}
use Rattle.cb_world.specs.FarState.{FarState}
use Rattle.cb_world.specs.Plain.{Words, Shows}
use Rattle.cb_world.specs.Played.{played}
use Rattle.cb_world.specs.StillDesk.{plain_follows, plain_stays}
use Rattle.cb_world.specs.World.{word_at}
use Rattle.cb_world.proofs.Laws.{KeepsPins, RunsStill, word_back}
use Rattle.cb_evict.specs.ChangesWords.{ChangesWords}

-- what is known of other objects is as it was, and so are the versions and the words
pub record StaysElse (s t : Shown) (other : ℕ → Type 0) : Type 0 where
  pub objects : length t.objects ≡ length s.objects
  pub others : (h : ℕ) → other h → object_at t h ≡ object_at s h
  pub hots : (h : ℕ) → other h → hot_at t h ≡ hot_at s h
  pub versions : t.versions ≡ s.versions
  pub memory : t.memory ≡ s.memory

module _ (x y : Words) (far : FarState) (s : Shown) (es : List Access) (r : RunsStill x y far s es) where
  pub shows_then : Shows y (played es s)
  shows_then = (plain_follows es x y s r.ran r.known.shows).1

  pub same_count : length (played es s).objects ≡ length s.objects
      → length y.words ≡ length x.words
  same_count objects = sym shows_then.objects ∙ objects ∙ r.known.shows.objects

  -- the word of an object that stays, hot bit included, is as it was
  word_stays : (h : ℕ) → length y.words ≡ length x.words
      → object_at (played es s) h ≡ object_at s h → hot_at (played es s) h ≡ hot_at s h
      → word_at y h ≡ word_at x h
  word_stays h count object hot = elim (cases_lt h (length x.words)) [
    | inl below ↦ word_back x y far s es h r.known r.ran r.allowed below
        (omega (arith, below, count)) object hot
    | inr past ↦ get_or_past y.words h 0 (omega (arith, past, count))
        ∙ sym (get_or_past x.words h 0 past)
  ]

  pub changes_words : (so : Type 0) (other : ℕ → Type 0) → StaysElse s (played es s) other → so
      → ChangesWords x y so other
  changes_words so other e z = let count = same_count e.objects in record {
    changed = z;
    others = λ h out. word_stays h count (e.others h out) (e.hots h out);
    count = count;
    settings = plain_stays x y es r.ran;
    versions = sym shows_then.versions ∙ e.versions ∙ r.known.shows.versions;
    memory = sym shows_then.memory ∙ e.memory ∙ r.known.shows.memory;
  }

-- where the words that change are fixed, all is
pub changes_fixed : (x y z : Words) (so si : Type 0) (other : ℕ → Type 0)
    → ChangesWords x y so other → ChangesWords x z si other
    → ((h : ℕ) → other h ⊎ (word_at y h ≡ word_at z h)) → y ≡ z
changes_fixed x y z so si other a b same =
    let words = ext_get_or 0 y.words z.words (a.count ∙ sym b.count) (λ h within. elim (same h) [
      | inl out ↦ a.others h out ∙ sym (b.others h out)
      | inr e ↦ e
    ]) in
    λ i. record {
      settings = (a.settings ∙ sym b.settings) i;
      words = words i;
      versions = (a.versions ∙ sym b.versions) i;
      memory = (a.memory ∙ sym b.memory) i;
    }

-- where those that change had no pins, and have none, pins stay
pub changes_keep : (x y : Words) (so : Type 0) (other : ℕ → Type 0) → ChangesWords x y so other
    → ((h : ℕ) → other h ⊎ ((pins_of (word_at x h) ≡ 0) × (pins_of (word_at y h) ≡ 0)))
    → KeepsPins x y
changes_keep x y so other c each = record {
  settings = c.settings;
  count = c.count;
  versions = c.versions;
  pins = λ h. elim (each h) [
    | inl out ↦ ap pins_of (c.others h out)
    | inr none ↦ none.1 ∙ sym none.0
  ];
  pinned = λ h some. elim (each h) [
    | inl out ↦ c.others h out
    | inr none ↦ absurd (let zero = none.0 in omega (arith, zero, some))
  ];
}
