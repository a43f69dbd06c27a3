-- A pin and its end leave what every object holds.
use Rattle.std.proofs.Common.{◌≡◌, ℕ, ◌%◌, ◌<◌, ◌≤◌, length, get_or, sym, ap, ◌∙◌, arith, inl, inr, length-set, get_or-set_same, get_or-set_other}
use Rattle.std.proofs.lemmas.Bool.{cases_lt}
use Rattle.std.proofs.lemmas.List.{get_or_past}
use native.Mathlib.Decide.{ℕ_discrete}
use Rattle.cb_ptr.specs.declared.word.State.TheVariants as word
use Rattle.cb_ptr.specs.Word.{state_of, len_of, place_of}
use Rattle.cb_world.specs.declared.shown.Shown.{Shown}
use Rattle.cb_world.specs.Memory.{window, words_for, bytes_in}
use Rattle.cb_world.specs.Plain.{Words}
use Rattle.cb_world.specs.FarState.{FarState}
use Rattle.cb_world.specs.Now.{now}
use Rattle.cb_world.specs.Now.Now.{held}
use Rattle.cb_world.specs.World.{word_at, IsKnown}
use Rattle.cb_world.specs.Pinned.{IsPinned, IsUnpinned, with_word}
use Rattle.cb_world.proofs.Unmoved.{keeps_all}
use Rattle.cb_world.proofs.NowSame.{bits, near_now, now_by_words}

-- a word that is here names as many bytes at the same place
record NamesSame (v w : ℕ) : Type 0 where
  pub here : state_of w ≡ word.Here
  pub len : len_of w ≡ len_of v
  pub place : place_of w ≡ place_of v

-- another pointer word of one object that names the same words
word_now : (x y : Words) (far : FarState) (s t : Shown) (h w k : ℕ) → IsKnown x far s
    → IsKnown y far t → y ≡ with_word x h w → state_of (word_at x h) ≡ word.Here
    → NamesSame (word_at x h) w → now t far k ≡ now s far k
word_now x y far s t h w k a b changed here same = by (ℕ_discrete k h)
  where
    count : length y.words ≡ length x.words
    count = ap (λ (z : Words). length z.words) changed ∙ length-set x.words h w

    near : (v : ℕ) → state_of v ≡ word.Here → 2 ≤ v % 4
    near v e = let n = bits v word.Here e in omega (arith, n)

    below : h < length x.words
    below = elim (cases_lt h (length x.words)) [
      | inl less ↦ less
      | inr past ↦ absurd (let n = near (word_at x h) here in
          let z : word_at x h ≡ 0 = get_or_past x.words h 0 past in omega (arith, n, z))
    ]

    now_is : word_at y h ≡ w
    now_is = ap (λ (z : Words). word_at z h) changed ∙ get_or-set_same x.words h w 0 below

    by : Dec (k ≡ h) → now t far k ≡ now s far k
    by (yes e) = ap (now t far) e
        ∙ near_now y far t h b.shows b.sound (omega (arith, below, count))
        (near (word_at y h) (ap state_of now_is ∙ same.here))
        ∙ (λ i. let len : ℕ = (ap len_of now_is ∙ same.len) i in
        held (get_or ((ap (λ (z : Words). z.versions) changed) i) h 0)
        (bytes_in (window ((ap (λ (z : Words). z.memory) changed) i)
        ((ap place_of now_is ∙ same.place) i) (words_for len)) len))
        ∙ sym (near_now x far s h a.shows a.sound below (near (word_at x h) here))
        ∙ sym (ap (now s far) e)
    by (no off) = let same_word : word_at y k ≡ word_at x k =
        ap (λ (z : Words). word_at z k) changed ∙ get_or-set_other x.words h k w 0 off in
        now_by_words x y s t far far k a.shows a.sound b.shows b.sound (keeps_all far) count
        same_word (ap (λ (z : Words). get_or z.versions k 0) changed)
        (λ n. λ i. window ((ap (λ (z : Words). z.memory) changed) i) (place_of (same_word i))
        (words_for (len_of (same_word i))))

pub pinned_now : (x y : Words) (far : FarState) (s t : Shown) (h k : ℕ) → IsKnown x far s
    → IsKnown y far t → IsPinned x h y → state_of (word_at x h) ≡ word.Here
    → now t far k ≡ now s far k
pinned_now x y far s t h k a b p here = word_now x y far s t h p.word k a b p.words here
    (record { here = p.takes.state ∙ here; len = p.takes.len; place = p.takes.place })

pub unpinned_now : (x y : Words) (far : FarState) (s t : Shown) (h k : ℕ) → IsKnown x far s
    → IsKnown y far t → IsUnpinned x h y → state_of (word_at x h) ≡ word.Here
    → now t far k ≡ now s far k
unpinned_now x y far s t h k a b p here = word_now x y far s t h p.word k a b p.words here
    (record { here = p.gives.state ∙ here; len = p.gives.len; place = p.gives.place })
