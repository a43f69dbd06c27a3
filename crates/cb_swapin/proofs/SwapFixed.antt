-- A swap-in is fixed: one reply, one set of words and one far state.
use Rattle.std.proofs.Common.{◌≡◌, ℕ, List, Option, None, Some, set as set_place, sym, ap, ◌∙◌, subst, inl, inr}
use Rattle.std.proofs.lemmas.List.{ext_get_or}
use Rattle.cb_class.specs.declared.class.Class.{Class}
use Rattle.cb_class.proofs.Laws.{pages_and_slots_tell_class}
use Rattle.cb_gf256.specs.Rows.{row_at}
use Rattle.cb_set.specs.SetState.{SetState, position_of}
use Rattle.cb_span.specs.declared.temp.Temp.TheVariants.{Hot}
use Rattle.cb_span.specs.Contents.{span_of}
use Rattle.cb_types.specs.declared.reply.Reply.{Reply}
use Rattle.cb_types.specs.declared.reply.Reply.TheVariants as answer
use Rattle.cb_world.specs.declared.homes.Home.{Home}
use Rattle.cb_world.specs.FarState.{FarState}
use Rattle.cb_world.specs.Plain.{Words}
use Rattle.cb_world.proofs.Laws.{set_same, IsOneEnd}
use Rattle.cb_swapin.specs.Named.{AreCleared}
use Rattle.cb_swapin.specs.SwapRule.{IsSwappedTo, swap_answer}
use Rattle.cb_swapin.specs.SwapStep.{AreBroughtTo, BringsChange, IsBringStep, IsSwapped}
use Rattle.cb_swapin.proofs.SlotNames.{named_or_not}

-- the homes once the named objects have none
cleared_fixed : (slots : List (Option ℕ)) (old a b : List (Option Home)) → AreCleared slots old a
    → AreCleared slots old b → a ≡ b
cleared_fixed slots old a b x y =
    ext_get_or None a b (x.count ∙ sym y.count) (λ h within. elim (named_or_not slots h) [
      | inl named ↦ x.named h named ∙ sym (y.named h named)
      | inr not ↦ x.others h not ∙ sym (y.others h not)
    ])

-- the words once the objects of the slots are here
brought_fixed : (x y z : Words) (slots : List (Option ℕ)) (class : Class) (f : ℕ) (row : List ℕ)
    → AreBroughtTo x y slots class f row → AreBroughtTo x z slots class f row → y ≡ z
brought_fixed x y z slots class f row a b =
    let words : y.words ≡ z.words =
    ext_get_or 0 y.words z.words (a.count ∙ sym b.count) (λ h within. elim (named_or_not slots h) [
      | inl named ↦ a.here named.0 h named.1 ∙ sym (b.here named.0 h named.1)
      | inr not ↦ a.others h not ∙ sym (b.others h not)
    ]) in
    λ i. record {
      settings = (a.settings ∙ sym b.settings) i;
      words = words i;
      versions = (a.versions ∙ sym b.versions) i;
      memory = (a.memory ∙ sym b.memory) i;
    }

module _ (x y z : Words) (far new other : FarState) (id p : ℕ) (set : SetState) where
  swapped_to_fixed : (f n : ℕ) (a : IsSwappedTo far new id p set f n)
      (b : IsSwappedTo far other id p set f n)
      → a.class ≡ b.class → new ≡ other
  swapped_to_fixed f n a b classes =
      let spans : new.spans ≡ other.spans = a.spans
      ∙ ap (λ (c : Class). set_place far.spans f (Some (span_of c Hot (position_of set p).slots))) classes
      ∙ sym b.spans in
      let homes = cleared_fixed (position_of set p).slots far.homes new.homes other.homes a.homes b.homes in
      let frames = a.frames ∙ sym b.frames in
      let sets = a.sets ∙ sym b.sets in
      let nodes = a.nodes ∙ sym b.nodes in
      a.rest
      ∙ (λ i. record far {
        frames = frames i;
        spans = spans i;
        homes = homes i;
        sets = sets i;
        nodes = nodes i;
      })
      ∙ sym b.rest

  swapped_fixed : (f n : ℕ) → IsSwapped x y far new id p set f n
      → IsSwapped x z far other id p set f n
      → (y ≡ z) × (new ≡ other)
  swapped_fixed f n a b =
      let slots = (position_of set p).slots in
      let classes : a.state.class ≡ b.state.class = pages_and_slots_tell_class
      a.state.class b.state.class a.state.in_table b.state.in_table
      (a.state.paged ∙ sym b.state.paged) (sym a.state.sized ∙ b.state.sized) in
      let rows : row_at a.rows p ≡ row_at b.rows p = b.one_row a.rows a.word in
      let words : AreBroughtTo x y slots b.state.class f (row_at b.rows p) =
      subst (λ (l : List ℕ). AreBroughtTo x y slots b.state.class f l) rows
      (subst (λ (c : Class). AreBroughtTo x y slots c f (row_at a.rows p)) classes a.words) in (
        brought_fixed x y z slots b.state.class f (row_at b.rows p) words b.words,
        swapped_to_fixed f n a.state b.state classes,
      )

  change_fixed : (n : ℕ) (r : Reply) → BringsChange n x y far new id p set r
      → BringsChange n x z far other id p set r
      → (y ≡ z) × (new ≡ other)
  change_fixed n (answer.Swapped f) a b = swapped_fixed f n a b
  change_fixed n r a b = (a.0 ∙ sym b.0, a.1 ∙ sym b.1)

pub swap_step_fixes : {rows : SetState → ℕ} (x y z : Words) (far new other : FarState) (id p : ℕ)
    (r q : Reply) → IsBringStep rows x y far new id p r → IsBringStep rows x z far other id p q
    → IsOneEnd r q y z new other
swap_step_fixes {rows = rows} x y z far new other id p r q a b =
    let sets : a.set ≡ b.set = set_same a.set b.set (sym a.there ∙ b.there) in
    let same : r ≡ q = a.reply ∙ ap (swap_answer far id) sets ∙ sym b.reply in
    let change : BringsChange (rows b.set) x y far new id p b.set q =
    subst (λ (c : SetState). BringsChange (rows c) x y far new id p c q) sets
    (subst (λ (o : Reply). BringsChange (rows a.set) x y far new id p a.set o) same a.change) in
    let ends = change_fixed x y z far new other id p b.set (rows b.set) q change b.change in
    record { reply = same; words = ends.0; far = ends.1 }
