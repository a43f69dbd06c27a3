-- What a step finds or chooses is one thing: the slot that an object gets and the one that it has, the
-- node of a row, and words by their bytes.
use Rattle.std.proofs.Common.{◌≡◌, ℕ, ◌+◌, ◌*◌, ◌/◌, ◌%◌, ◌^◌, ◌<◌, ◌≤◌, List, get_or, Some, None, sym, refl, ap, ◌∙◌, arith, inl, inr}
use Rattle.std.proofs.lemmas.Bool.{cases_order}
use Rattle.std.proofs.lemmas.List.{ext_get_or}
use Rattle.std.proofs.lemmas.Nat.{from_le_bytes-to_le_bytes_8}
use Rattle.std.specs.Int.{to_le_bytes, from_le_bytes, w64}
use Rattle.cb_class.specs.declared.class.Class.{Class}
use Rattle.cb_class.specs.Class.{pages_of}
use Rattle.cb_frame.specs.FreeFrames.{with_run_taken}
use Rattle.cb_member.specs.declared.names.NodeId.{NodeId}
use Rattle.cb_member.specs.declared.names.Shard.{Shard}
use Rattle.cb_member.specs.Membership.{Membership}
use Rattle.cb_node.specs.NodesState.{NodesState}
use Rattle.cb_set.specs.SetState.{SetState}
use Rattle.cb_span.specs.declared.temp.Temp.{Temp}
use Rattle.cb_span.specs.Contents.{Contents, handle_at, least_empty}
use Rattle.cb_types.specs.declared.reply.Reply.{Reply}
use Rattle.cb_world.specs.declared.homes.Home.{Home}
use Rattle.cb_world.specs.declared.shown.Shown.{Shown}
use Rattle.cb_world.specs.Choices.{IsBefore, IsLeastNode, numbered}
use Rattle.cb_world.specs.FarState.{FarState, span_in}
use Rattle.cb_world.specs.LeftOver.{LiesIn}
use Rattle.cb_world.specs.LocalSound.{LocalSound}
use Rattle.cb_world.specs.Memory.{memory_byte}
use Rattle.cb_world.specs.Placed.{Slot, IsChosen, IsCrammed, IsInNew, IsInSpan}
use Rattle.cb_world.specs.Sets.{set_in}
use Rattle.cb_world.specs.Plain.{Words}
use Rattle.cb_world.proofs.Added.{home_same, set_same}
use Rattle.cb_world.proofs.Apart.{some_same}
use Rattle.cb_world.proofs.Freed.{one_slot}

-- two ends of a step are one: the reply, the words and the far state
pub record IsOneEnd (r q : Reply) (y z : Words) (new other : FarState) : Type 0 where
  pub reply : r ≡ q
  pub words : y ≡ z
  pub far : new ≡ other

-- two refusals that changed nothing
pub refused_alike : (r q p : Reply) (x y z : Words) (far new other : FarState) → r ≡ p → q ≡ p
    → y ≡ x → z ≡ x → new ≡ far → other ≡ far → IsOneEnd r q y z new other
refused_alike r q p x y z far new other a b c d e f =
    record { reply = a ∙ sym b; words = c ∙ sym d; far = e ∙ sym f }

-- ---- the node of a row
pub least_node_fixed : (nodes : NodesState) (m : Membership) (shards : List Shard) (a b : NodeId)
    → IsLeastNode nodes m shards a → IsLeastNode nodes m shards b → a ≡ b
least_node_fixed nodes m shards a b x y =
    ap numbered (by (x.least b y.may) (y.least a x.may))
  where
    by : IsBefore nodes a b → IsBefore nodes b a → a.n ≡ b.n
    by (inl l) (inl k) = absurd (omega (arith, l, k))
    by (inl l) (inr k) = let e = k.0 in absurd (omega (arith, l, e))
    by (inr l) (inl k) = let e = l.0 in absurd (omega (arith, e, k))
    by (inr l) (inr k) = let d = l.1 in let e = k.1 in omega (arith, d, e)

-- ---- the slot that an object gets
module _ (far : FarState) (class : Class) (temp : Temp) (a b : Slot) where
  in_span_fixed : IsInSpan far class temp a → IsInSpan far class temp b → a ≡ b
  in_span_fixed x y =
      let frames : a.frame ≡ b.frame = elim (cases_order a.frame b.frame) [
        | inl e ↦ e
        | inr apart ↦ elim apart [
          | inl less ↦ absurd (y.least a.frame less x.room)
          | inr more ↦ absurd (x.least b.frame more y.room)
        ]
      ] in
      let spans : a.span ≡ b.span =
      some_same a.span b.span (sym x.there ∙ ap (span_in far.spans) frames ∙ y.there) in
      let numbers : a.number ≡ b.number =
      some_same a.number b.number (sym x.number ∙ ap least_empty spans ∙ y.number) in
      let free : a.free ≡ b.free = x.free ∙ sym y.free in
      λ i. record { frame = frames i; number = numbers i; span = spans i; free = free i }

  in_new_fixed : IsInNew far class temp a → IsInNew far class temp b → a ≡ b
  in_new_fixed x y =
      let frames : a.frame ≡ b.frame = some_same a.frame b.frame (sym x.frame ∙ y.frame) in
      let numbers : a.number ≡ b.number = x.number ∙ sym y.number in
      let spans : a.span ≡ b.span = x.span ∙ sym y.span in
      let free : a.free ≡ b.free = x.free
      ∙ ap (λ (f : ℕ). with_run_taken far.frames f (pages_of class)) frames ∙ sym y.free in
      λ i. record { frame = frames i; number = numbers i; span = spans i; free = free i }

  pub chosen_fixed : IsChosen far class temp a → IsChosen far class temp b → a ≡ b
  chosen_fixed (inl x) (inl y) = in_span_fixed x y
  chosen_fixed (inl x) (inr y) = absurd (y.full a.frame x.room)
  chosen_fixed (inr x) (inl y) = absurd (x.full b.frame y.room)
  chosen_fixed (inr x) (inr y) = in_new_fixed x y

-- an object that gets a slot has a place
pub not_crammed : (far : FarState) (class : Class) (temp : Temp) (slot : Slot)
    → IsCrammed far class temp → IsChosen far class temp slot → ⊥
not_crammed far class temp slot x (inl y) = x.full slot.frame y.room
not_crammed far class temp slot x (inr y) = none_some slot.frame (sym x.taken ∙ y.frame)
  where
    none_some : (f : ℕ) → None ≡ Some f → ⊥
    none_some f e = cc

-- ---- the slot that an object has
pub record IsOneSeat (f g i j : ℕ) (c d : Contents) : Type 0 where
  pub frame : f ≡ g
  pub slot : i ≡ j
  pub span : c ≡ d

pub seat_fixed : (far : FarState) (s : Shown) (h f g i j : ℕ) (c d : Contents) → LocalSound s far
    → span_in far.spans f ≡ Some c → handle_at c i ≡ Some h
    → span_in far.spans g ≡ Some d → handle_at d j ≡ Some h → IsOneSeat f g i j c d
seat_fixed far s h f g i j c d sound there named other also =
    let x = sound.placed.named f i h c there named in
    let place = sound.placed.placed h x.len _ x.lies in
    let a = one_slot far s h x.len _ f i c sound x.lies place there named in
    let b = one_slot far s h x.len _ g j d sound x.lies place other also in
    let frames : f ≡ g = a.0 ∙ sym b.0 in
    record {
      frame = frames;
      slot = a.1 ∙ sym b.1;
      span = some_same c d (sym there ∙ ap (span_in far.spans) frames ∙ other);
    }

-- ---- the set in which a far object lies
pub record IsOneHome (a b : Home) (c d : SetState) : Type 0 where
  pub home : a ≡ b
  pub set : c ≡ d

pub home_fixed : (far : FarState) (h : ℕ) (a b : Home) (c d : SetState) → LiesIn far h a c
    → LiesIn far h b d → IsOneHome a b c d
home_fixed far h a b c d x y =
    let homes : a ≡ b = home_same a b (sym x.at ∙ y.at) in
    record {
      home = homes;
      set = set_same c d (sym x.there ∙ ap (λ (q : Home). set_in far.sets q.set) homes ∙ y.there);
    }

-- ---- words by their bytes
-- a word of 64 bits is told by its eight bytes
pub word_fixed : (x y : ℕ) → x < 2 ^ 64 → y < 2 ^ 64
    → ((j : ℕ) → j < 8 → get_or (to_le_bytes w64 x) j 0 ≡ get_or (to_le_bytes w64 y) j 0) → x ≡ y
word_fixed x y low below same = sym (from_le_bytes-to_le_bytes_8 x low)
    ∙ ap (from_le_bytes w64)
    (ext_get_or 0 (to_le_bytes w64 x) (to_le_bytes w64 y) refl (λ j within. same j within))
    ∙ from_le_bytes-to_le_bytes_8 y below

-- so are words at the same place of two lists
pub place_fixed : (xs ys : List ℕ) (i : ℕ) → get_or xs i 0 < 2 ^ 64 → get_or ys i 0 < 2 ^ 64
    → ((p : ℕ) → 8 * i ≤ p → p < 8 * i + 8 → memory_byte xs p ≡ memory_byte ys p)
    → get_or xs i 0 ≡ get_or ys i 0
place_fixed xs ys i low below same =
    word_fixed (get_or xs i 0) (get_or ys i 0) low below (λ j within.
    let word : (8 * i + j) / 8 ≡ i = omega (arith, within) in
    let byte : (8 * i + j) % 8 ≡ j = omega (arith, within) in
    let at : (zs : List ℕ)
    → memory_byte zs (8 * i + j) ≡ get_or (to_le_bytes w64 (get_or zs i 0)) j 0 =
    λ zs. ap (λ (k : ℕ). get_or (to_le_bytes w64 (get_or zs k 0)) ((8 * i + j) % 8) 0) word
    ∙ ap (λ (k : ℕ). get_or (to_le_bytes w64 (get_or zs i 0)) k 0) byte in
    sym (at xs) ∙ same (8 * i + j) (omega arith) (omega (arith, within)) ∙ at ys)
