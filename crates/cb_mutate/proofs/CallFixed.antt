-- A step of a call is fixed: one reply, one set of words and one far state.
use Rattle.std.proofs.Common.{◌≡◌, ◌⊎◌, ℕ, ◌+◌, ◌-◌, ◌*◌, ◌<◌, ◌≤◌, List, length, get_or, sym, ap, ◌∙◌, subst, arith, inl, inr}
use Rattle.std.proofs.lemmas.Bool.{cases_lt}
use Rattle.std.proofs.lemmas.List.{ext_get_or}
use Rattle.cb_class.specs.declared.class.Class.{Class}
use Rattle.cb_class.proofs.Laws.{IsClassOf-unique}
use Rattle.cb_ptr.specs.declared.word.State.{State}
use Rattle.cb_ptr.specs.declared.word.State.TheVariants as state
use Rattle.cb_ptr.specs.Word.{state_of}
use Rattle.cb_span.specs.declared.temp.Temp.TheVariants.{Hot}
use Rattle.cb_types.specs.declared.reply.Reply.{Reply}
use Rattle.cb_types.specs.declared.reply.Reply.TheVariants as answer
use Rattle.cb_world.specs.declared.shown.Shown.{Shown}
use Rattle.cb_world.specs.FarState.{FarState}
use Rattle.cb_world.specs.LeftOver.{without_far}
use Rattle.cb_world.specs.LocalSound.{LocalSound}
use Rattle.cb_world.specs.Memory.{memory_byte}
use Rattle.cb_world.specs.Placed.{Slot, IsChosen, IsCrammed, place_in}
use Rattle.cb_world.specs.Plain.{Words}
use Rattle.cb_world.specs.Released.{with_released}
use Rattle.cb_world.specs.StillWords.{contents_at}
use Rattle.cb_world.specs.World.{word_at}
use Rattle.cb_world.specs.Write.{IsWrite}
use Rattle.cb_world.proofs.Laws.{IsOneEnd, refused_alike, chosen_fixed, not_crammed, seat_fixed, home_fixed, place_fixed}
use Rattle.cb_mutate.specs.FreeRule.{IsReleased, IsRemoved, LeavesPlace}
use Rattle.cb_mutate.specs.MakeRule.{HasNoPlace, with_made}
use Rattle.cb_mutate.specs.MakeStep.{IsMakeStep, IsNewObject, with_new}
use Rattle.cb_mutate.specs.CallStep.{IsFreeStep, IsOverwritten, IsReadStep, IsWriteStep, FreeChange, ReadChange, WriteChange, with_contents}
use Rattle.cb_mutate.specs.WordsOf.{AreWordsOf}
use Rattle.cb_mutate.specs.Wordwise.{IsReached, IsWordwise}
use Rattle.cb_mutate.proofs.WrittenBytes.{bytes_at}

-- ---- a make
-- bytes have one list of words
pub words_fixed : (bytes xs ys : List ℕ) → AreWordsOf bytes xs → AreWordsOf bytes ys → xs ≡ ys
words_fixed bytes xs ys a b =
    ext_get_or 0 xs ys (a.count ∙ sym b.count)
    (λ i within. place_fixed xs ys i (a.below i) (b.below i) (λ p from below.
    byte p (omega (arith, within, below)) (cases_lt p (length bytes))))
  where
    byte : (p : ℕ) → p < 8 * length xs → (p < length bytes) ⊎ (length bytes ≤ p)
        → memory_byte xs p ≡ memory_byte ys p
    byte p within (inl less) = sym (bytes_at xs (length bytes) p less)
        ∙ ap (λ (l : List ℕ). get_or l p 0) (a.first_bytes ∙ sym b.first_bytes)
        ∙ bytes_at ys (length bytes) p less
    byte p within (inr past) = a.packed p past within
        ∙ sym (b.packed p past (let m = a.count in let n = b.count in omega (arith, within, m, n)))

module _ (x y z : Words) (far new other : FarState) (bytes : List ℕ) where
  object_fixed : IsNewObject x y far new bytes → IsNewObject x z far other bytes
      → (y ≡ z) × (new ≡ other)
  object_fixed a b =
      let classes : a.class ≡ b.class =
      IsClassOf-unique (length bytes) a.class b.class a.fits b.fits in
      let slots : a.slot ≡ b.slot = chosen_fixed far b.class Hot a.slot b.slot
      (subst (λ (c : Class). IsChosen far c Hot a.slot) classes a.chosen) b.chosen in
      let words = words_fixed bytes a.words b.words a.packed b.packed in (
        a.left
            ∙ ap (λ (s : Slot). with_new x far.made far.first (length bytes) (place_in s) a.words) slots
            ∙ ap (with_new x far.made far.first (length bytes) (place_in b.slot)) words
            ∙ sym b.left,
        a.state ∙ ap (with_made far) slots ∙ sym b.state,
      )

  no_place_or_object : (w : Words) (next : FarState) → HasNoPlace (length bytes) far
      → IsNewObject x w far next bytes → ⊥
  no_place_or_object w next a b =
      let classes : a.0 ≡ b.class = IsClassOf-unique (length bytes) a.0 b.class a.1 b.fits in
      not_crammed far b.class Hot b.slot
      (subst (λ (c : Class). IsCrammed far c Hot) classes a.2) b.chosen

  pub make_step_fixes : (r q : Reply) → IsMakeStep x y far new bytes r
      → IsMakeStep x z far other bytes q → IsOneEnd r q y z new other
  make_step_fixes r q (inl a) (inl b) =
      refused_alike r q (answer.Full x.settings.handles) x y z far new other a.1 b.1 a.2 b.2 a.3 b.3
  make_step_fixes r q (inl a) (inr b) = absurd (let e = a.0 in let l = b.0 in omega (arith, e, l))
  make_step_fixes r q (inr a) (inl b) = absurd (let e = b.0 in let l = a.0 in omega (arith, e, l))
  make_step_fixes r q (inr a) (inr b) = by a.1 b.1
    where
      by : (HasNoPlace (length bytes) far × (r ≡ answer.NoFrame) × (y ≡ x) × (new ≡ far))
          ⊎ ((r ≡ answer.Made (record { n = far.made }) far.first) × IsNewObject x y far new bytes)
          → (HasNoPlace (length bytes) far × (q ≡ answer.NoFrame) × (z ≡ x) × (other ≡ far))
          ⊎ ((q ≡ answer.Made (record { n = far.made }) far.first) × IsNewObject x z far other bytes)
          → IsOneEnd r q y z new other
      by (inl a) (inl b) =
          refused_alike r q answer.NoFrame x y z far new other a.1 b.1 a.2 b.2 a.3 b.3
      by (inl a) (inr b) = absurd (no_place_or_object z other a.0 b.1)
      by (inr a) (inl b) = absurd (no_place_or_object y new b.0 a.1)
      by (inr a) (inr b) = let same = object_fixed a.1 b.1 in
          record { reply = a.0 ∙ sym b.0; words = same.0; far = same.1 }

-- ---- a read
read_change_fixed : (x y z : Words) (h : ℕ) (r : Reply) → ReadChange r x y h → ReadChange r x z h
    → y ≡ z
read_change_fixed x y z h (answer.Bytes version bytes) a b = a ∙ sym b
read_change_fixed x y z h r a b = a ∙ sym b

pub read_step_fixes : (x y z : Words) (far new other : FarState) (h : ℕ) (r q : Reply)
    → IsReadStep x y h r → new ≡ far → IsReadStep x z h q → other ≡ far
    → IsOneEnd r q y z new other
read_step_fixes x y z far new other h r q a e b f =
    let same : r ≡ q = a.reply ∙ sym b.reply in
    record {
      reply = same;
      words = read_change_fixed x y z h q
          (subst (λ (p : Reply). ReadChange p x y h) same a.change) b.change;
      far = e ∙ sym f;
    }

-- ---- a write
reached_or_not : (i at count : ℕ) → IsReached i at count ⊎ ¬ (IsReached i at count)
reached_or_not i at count = elim (cases_lt (8 * i) (at + count)) [
  | inr past ↦ inr (λ r. let l = r.0 in omega (arith, l, past))
  | inl before ↦ elim (cases_lt at (8 * i + 8)) [
    | inl begins ↦ inl (before, begins)
    | inr late ↦ inr (λ r. let l = r.1 in omega (arith, l, late))
  ]
]

-- a write leaves one list of words
pub write_fixed : (old xs ys : List ℕ) (at : ℕ) (bytes : List ℕ) → IsWrite old at bytes xs
    → IsWordwise old at (length bytes) xs → IsWrite old at bytes ys
    → IsWordwise old at (length bytes) ys → xs ≡ ys
write_fixed old xs ys at bytes a c b d =
    ext_get_or 0 xs ys (a.sized ∙ sym b.sized)
    (λ i within. word i within (reached_or_not i at (length bytes)))
  where
    byte : (p : ℕ) → p < 8 * length old → (p < at) ⊎ (at ≤ p)
        → (p < at + length bytes) ⊎ (at + length bytes ≤ p) → memory_byte xs p ≡ memory_byte ys p
    byte p within (inl less) side = a.outside p within (inl less) ∙ sym (b.outside p within (inl less))
    byte p within (inr from) (inl less) =
        let i = p - at in let split : at + i ≡ p = omega (arith, from) in
        let low : i < length bytes = omega (arith, from, less) in
        ap (memory_byte xs) (sym split) ∙ a.inside i low ∙ sym (b.inside i low)
        ∙ ap (memory_byte ys) split
    byte p within (inr from) (inr past) =
        a.outside p within (inr past) ∙ sym (b.outside p within (inr past))

    word : (i : ℕ) → i < length xs → IsReached i at (length bytes) ⊎ ¬ (IsReached i at (length bytes))
        → get_or xs i 0 ≡ get_or ys i 0
    word i within (inl reached) = place_fixed xs ys i (c.small i reached) (d.small i reached)
        (λ p from below.
        byte p (let n = a.sized in omega (arith, within, below, n)) (cases_lt p at)
        (cases_lt p (at + length bytes)))
    word i within (inr off) = c.others i off ∙ sym (d.others i off)

overwritten_fixed : (x y z : Words) (h n at : ℕ) (bytes : List ℕ) → IsOverwritten x y h n at bytes
    → IsOverwritten x z h n at bytes → y ≡ z
overwritten_fixed x y z h n at bytes a b = a.left
    ∙ ap (with_contents x h n)
    (write_fixed (contents_at x h) a.words b.words at bytes a.write a.wordwise b.write b.wordwise)
    ∙ sym b.left

write_change_fixed : (x y z : Words) (h at : ℕ) (bytes : List ℕ) (r : Reply)
    → WriteChange r x y h at bytes → WriteChange r x z h at bytes → y ≡ z
write_change_fixed x y z h at bytes (answer.Version n) a b = overwritten_fixed x y z h n at bytes a b
write_change_fixed x y z h at bytes r a b = a ∙ sym b

pub write_step_fixes : (x y z : Words) (far new other : FarState) (h at : ℕ) (bytes : List ℕ)
    (r q : Reply) → IsWriteStep x y h at bytes r → new ≡ far → IsWriteStep x z h at bytes q
    → other ≡ far → IsOneEnd r q y z new other
write_step_fixes x y z far new other h at bytes r q a e b f =
    let same : r ≡ q = a.reply ∙ sym b.reply in
    record {
      reply = same;
      words = write_change_fixed x y z h at bytes q
          (subst (λ (p : Reply). WriteChange p x y h at bytes) same a.change) b.change;
      far = e ∙ sym f;
    }

-- ---- a free
module _ (s : Shown) (x y z : Words) (far new other : FarState) (h : ℕ)
    (sound : LocalSound s far) where
  released_fixed : IsReleased far new h → IsReleased far other h → new ≡ other
  released_fixed a b =
      let same = seat_fixed far s h a.frame b.frame a.slot b.slot a.span b.span sound a.there a.named
      b.there b.named in
      a.left ∙ (λ i. with_released far (same.frame i) (same.slot i) (same.span i)) ∙ sym b.left

  removed_fixed : IsRemoved far new h → IsRemoved far other h → new ≡ other
  removed_fixed a b =
      let same = home_fixed far h a.home b.home a.set b.set a.lies b.lies in
      a.left ∙ (λ i. without_far far h (same.home i) (same.set i)) ∙ sym b.left

  place_left : (t : State) → LeavesPlace t far new h → LeavesPlace t far other h → new ≡ other
  place_left state.Here a b = released_fixed a b
  place_left state.Far a b = removed_fixed a b
  place_left state.Empty a b = absurd a
  place_left state.Moving a b = absurd a

  free_change_fixed : (r : Reply) → FreeChange r x y far new h → FreeChange r x z far other h
      → (y ≡ z) × (new ≡ other)
  free_change_fixed (answer.Version n) a b =
      (a.left ∙ sym b.left, place_left (state_of (word_at x h)) a.leaves b.leaves)
  free_change_fixed r a b = (a.0 ∙ sym b.0, a.1 ∙ sym b.1)

  pub free_step_fixes : (r q : Reply) → IsFreeStep x y far new h r → IsFreeStep x z far other h q
      → IsOneEnd r q y z new other
  free_step_fixes r q a b =
      let same : r ≡ q = a.reply ∙ sym b.reply in
      let ends = free_change_fixed q
      (subst (λ (p : Reply). FreeChange p x y far new h) same a.change) b.change in
      record { reply = same; words = ends.0; far = ends.1 }
