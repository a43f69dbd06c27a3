-- The memory words of the objects that a call is not about.
use Rattle.std.proofs.Common.{◌≡◌, ◌≢◌, ℕ, ◌%◌, ◌+◌, ◌<◌, ◌≤◌, List, length, sym, refl, subst, inl, inr}
use Rattle.std.proofs.lemmas.Bool.{cases_lt}
use Rattle.cb_ptr.specs.Word.{len_of, place_of}
use Rattle.cb_world.specs.declared.object.Object.{Object}
use Rattle.cb_world.specs.declared.shown.Shown.{Shown}
use Rattle.cb_world.specs.Memory.{window, words_for}
use Rattle.cb_world.specs.Shown.{Covers, object_at}
use Rattle.cb_world.specs.Plain.{Words, Shows}
use Rattle.cb_world.specs.FarState.{FarState}
use Rattle.cb_world.specs.LocalSound.{LocalSound, LiesAt}
use Rattle.cb_world.specs.World.{word_at}
use Rattle.cb_world.specs.StillWords.{contents_at}
use Rattle.cb_world.proofs.Apart.{apart}
use Rattle.cb_world.proofs.Windows.{window_same}
use Rattle.cb_world.proofs.Beside.{IsOutside, KeepsBeside}
use Rattle.cb_world.proofs.NowSame.{IsNearAt, near_object}

beside : (place len i : ℕ) → (Covers place len i → ⊥) → IsOutside place len i
beside place len i off = elim (cases_lt i place) [
  | inl before ↦ inl before
  | inr behind ↦ elim (cases_lt i (place + words_for len)) [
    | inl within ↦ absurd (off (behind, within))
    | inr past ↦ inr past
  ]
]

pub near_lies : (o : Object) (w : ℕ) → IsNearAt o w → LiesAt o (len_of w) (place_of w)
near_lies o w (inl e) = subst (λ (p : Object). LiesAt p (len_of w) (place_of w)) (sym e)
    (refl, refl)
near_lies o w (inr (v, words, e)) =
    subst (λ (p : Object). LiesAt p (len_of w) (place_of w)) (sym e) (refl, refl)

-- the words of another object stay where only those of one that lies in local memory change
pub contents_beside : (x : Words) (far : FarState) (s : Shown) (new : List ℕ) (h len place k : ℕ)
    → Shows x s → LocalSound s far → LiesAt (object_at s h) len place → k ≢ h → k < length x.words
    → 2 ≤ word_at x k % 4 → KeepsBeside x.memory new place len
    → window new (place_of (word_at x k)) (words_for (len_of (word_at x k))) ≡ contents_at x k
contents_beside x far s new h len place k shows sound lies other below near keeps =
    let w = word_at x k in
    let there = near_lies (object_at s k) w (near_object (object_at s k) w
    (shows.fit k below) near) in
    window_same new x.memory (place_of w) (words_for (len_of w)) (λ i low high.
    keeps i (beside place len i (λ covers.
    apart far s h len place k (len_of w) (place_of w) i sound lies there (λ e. other (sym e)) covers
    (low, high))))
