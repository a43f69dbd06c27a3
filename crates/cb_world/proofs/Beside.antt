-- Words of one object change: those beside it, and so the frames that are leaving, stay.
use Rattle.std.proofs.Common.{◌≡◌, ◌≢◌, ◌⊎◌, ℕ, ◌+◌, ◌*◌, ◌<◌, ◌≤◌, List, Some, Contains, length, get_or, sym, refl, ap, ◌∙◌, subst, arith, inl, inr}
use Rattle.cb_class.specs.Class.{pages_of}
use Rattle.cb_world.specs.declared.object.Object.{Object}
use Rattle.cb_world.specs.declared.object.Object.TheVariants as is
use Rattle.cb_world.specs.declared.shown.Shown.{Shown}
use Rattle.cb_world.specs.Memory.{window, put, words_for}
use Rattle.cb_world.specs.Shown.{object_at, version_at}
use Rattle.cb_world.specs.Leaving.{LeavingState}
use Rattle.cb_world.specs.FarState.{FarState}
use Rattle.cb_world.specs.Sound.{Sound}
use Rattle.cb_world.proofs.Windows.{window_same, put_else}
use Rattle.cb_world.proofs.Apart.{slot_inside}
use Rattle.cb_world.proofs.Kept.{sound_kept}
use Rattle.cb_world.proofs.Lying.{spans_apart}
use Rattle.cb_world.proofs.Claimed.{lies}
use Rattle.cb_world.proofs.Unmoved.{KeepsLeaving, IsAtLarge, keeps_all, not_leaving, sound_near}

-- the words before an object of so many bytes at this place, and those behind it
abbrev pub IsOutside : ℕ → ℕ → ℕ → Type 0
IsOutside place len p = (p < place) ⊎ (place + words_for len ≤ p)

-- the words beside the object are as they were
abbrev pub KeepsBeside : List ℕ → List ℕ → ℕ → ℕ → Type 0
KeepsBeside old new place len = (p : ℕ) → IsOutside place len p → get_or new p 0 ≡ get_or old p 0

pub put_beside : (ms xs : List ℕ) (place len : ℕ) → length xs ≡ words_for len
    → KeepsBeside ms (put ms place xs) place len
put_beside ms xs place len count p (inl before) = put_else ms place xs p (inl before)
put_beside ms xs place len count p (inr behind) =
    put_else ms place xs p (inr (omega (arith, behind, count)))

pub put_twice_beside : (ms xs ys : List ℕ) (place len : ℕ) → length xs ≡ words_for len
    → length ys ≡ words_for len → KeepsBeside ms (put (put ms place xs) place ys) place len
put_twice_beside ms xs ys place len count more p beside =
    put_beside (put ms place xs) ys place len more p beside ∙ put_beside ms xs place len count p beside

-- the words of n frames, none of which is one of the m frames of the object's span
pub other_run : (ms ns : List ℕ) (place len f n g m : ℕ) → (f + n ≤ g) ⊎ (g + m ≤ f)
    → 512 * g ≤ place → place + words_for len ≤ 512 * (g + m) → KeepsBeside ms ns place len
    → window ns (512 * f) (512 * n) ≡ window ms (512 * f) (512 * n)
other_run ms ns place len f n g m other start end beside =
    window_same ns ms (512 * f) (512 * n) (λ i low high. beside i (side i other low high))
  where
    side : (i : ℕ) → (f + n ≤ g) ⊎ (g + m ≤ f) → 512 * f ≤ i → i < 512 * f + 512 * n
        → IsOutside place len i
    side i (inl less) low high = inl (omega (arith, less, start, high))
    side i (inr more) low high = inr (omega (arith, more, end, low))

-- a span that is leaving has other frames than that of an object that is here
pub apart_frames : (far : FarState) (s t : Shown) (h len place f : ℕ) (batch : LeavingState)
    → Sound s far → object_at s h ≡ is.Here len place → KeepsBeside s.memory t.memory place len
    → far.leaving ≡ Some batch → Contains batch.frames f
    → window t.memory (512 * f) (512 * batch.pages) ≡ window s.memory (512 * f) (512 * batch.pages)
apart_frames far s t h len place f batch sound here beside there leaves =
    let c = sound.here.placed.placed h len place (lies s h len place here) in
    let x = slot_inside far s h len place sound.here c in
    let other : f ≢ c.frame = λ e. not_leaving s far batch c.frame c.slot h c.span sound there
    (subst IsAtLarge (sym here) tt) c.there c.named (subst (Contains batch.frames) e leaves) in
    let held = (sound.noted batch there).held f leaves in
    other_run s.memory t.memory place len f batch.pages c.frame (pages_of c.span.class)
    (subst (λ (n : ℕ). (f + n ≤ c.frame) ⊎ (c.frame + pages_of c.span.class ≤ f)) held.2
    (spans_apart far c.frame f c.span held.0 sound.here.frames c.there held.1 other))
    x.0 x.1 beside

pub leaving_beside : (far : FarState) (s t : Shown) (h len place : ℕ) (batch : LeavingState)
    → Sound s far → object_at s h ≡ is.Here len place → KeepsBeside s.memory t.memory place len
    → far.leaving ≡ Some batch → KeepsLeaving s t far far batch
leaving_beside far s t h len place batch sound here beside there = record {
  spans = λ f leaves. refl;
  words = λ f leaves. apart_frames far s t h len place f batch sound here beside there leaves;
}

-- the world stays sound where the words and the version word of one object that is here change
pub sound_beside : (far : FarState) (s t : Shown) (h len place : ℕ) → Sound s far
    → object_at s h ≡ is.Here len place → t.first ≡ s.first → t.objects ≡ s.objects
    → length t.memory ≡ length s.memory
    → ((k : ℕ) → k ≢ h → version_at t k ≡ version_at s k) → version_at s h ≤ version_at t h
    → KeepsBeside s.memory t.memory place len → Sound t far
sound_beside far s t h len place sound here first objects memory versions rises beside =
    sound_near s t far far sound
    (sound_kept far s t h len place sound.here here first objects memory versions rises)
    (keeps_all far)
    (λ k. inl (ap (λ (l : List Object). get_or l k (is.Empty 0)) objects))
    (λ batch there. leaving_beside far s t h len place batch sound here beside there)
