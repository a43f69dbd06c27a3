-- Orders stay kept where words of sets and the batch's rows stay.
use Rattle.std.proofs.Common.{◌≡◌, ℕ, ◌<◌, List, length, get_or, Some, sym, ap, ◌∙◌, arith}
use Rattle.std.proofs.lemmas.Bool.{ltb-false}
use Rattle.cb_gf256.specs.Rows.{row_at}
use Rattle.cb_set.specs.SetState.{parities}
use Rattle.cb_set.specs.Lost.{lost}
use Rattle.cb_types.specs.declared.order.DecodeOrder.{DecodeOrder}
use Rattle.cb_types.specs.declared.order.EncodeOrder.{EncodeOrder}
use Rattle.cb_types.specs.declared.order.Kept.TheVariants.{Encode, Decode}
use Rattle.cb_world.specs.declared.shown.Shown.{Shown}
use Rattle.cb_world.specs.FarSound.{rows_in}
use Rattle.cb_world.specs.FarState.{FarState}
use Rattle.cb_world.specs.Leaving.{LeavingState}
use Rattle.cb_world.specs.Orders.{IsDecodeKept, IsEncodeKept, LeavesOrders, LeavesWords}
use Rattle.cb_world.specs.Sound.{Sound}
use Rattle.cb_world.proofs.Surviving.{one_word}

same_rows : (s : Shown) {p q : ℕ} {f g : List ℕ} → p ≡ q → f ≡ g → rows_in s p f ≡ rows_in s q g
same_rows s e h = λ i. rows_in s (e i) (h i)

module _ (s t : Shown) (far new : FarState) (before : Sound s far) (after : Sound t new)
    (leaves : LeavesWords far new) where
  pub decode_left : (o : DecodeOrder) → IsDecodeKept far o → IsDecodeKept new o
  decode_left o k = record {
    fits = k.fits;
    drawn = let d = k.drawn in let m = leaves.drawn in omega (arith, d, m);
    apart = λ b at same. let d = k.drawn in
        let old = leaves.batch b at (omega (arith, same, d)) in
        k.apart old.0 old.1 (old.2 ∙ same);
    code = λ set there.
        let w = leaves.sets o.set set there k.drawn k.apart in
        let was = k.code w.was w.there in
        (was.0 ∙ w.code.0, was.1 ∙ w.code.1);
    rows = λ set there whole word is i l.
        let w = leaves.sets o.set set there k.drawn k.apart in
        let one = before.away.sound.sets.worded o.set w.was w.there in
        let same : word ≡ one.0 = one_word new.nodes new.members set word one.0
        (after.away.sound.sets.shaped o.set set there)
        (ltb-false (parities set) (length (lost new.members set.shards)) whole) is
        (w.words one.0 one.1.word) in
        k.rows w.was w.there (w.whole whole) one.0 one.1.word i l
        ∙ ap (λ (x : List (List ℕ)). row_at x (get_or o.present i 0)) (sym same);
  }

  -- so do orders of parities to be made, where the words in the frames of a batch that goes on leaving
  -- stay
  pub encode_left : ((b : LeavingState) → new.leaving ≡ Some b → b.set < far.counts.sets
      → rows_in t b.pages b.frames ≡ rows_in s b.pages b.frames)
      → (o : EncodeOrder) → IsEncodeKept s far o → IsEncodeKept t new o
  encode_left rows o k = record {
    fits = k.fits;
    drawn = let d = k.drawn in let m = leaves.drawn in omega (arith, d, m);
    code = λ b at same. let d = k.drawn in
        let old = leaves.batch b at (omega (arith, same, d)) in
        let was = k.code old.0 old.1 (old.2 ∙ same) in
        (was.0 ∙ ap (λ (l : List ℕ). length l) old.4, was.1 ∙ old.5);
    rows = λ b at same. let d = k.drawn in
        let below : b.set < far.counts.sets = omega (arith, same, d) in
        let old = leaves.batch b at below in
        k.rows old.0 old.1 (old.2 ∙ same) ∙ same_rows s old.3 old.4
        ∙ sym (rows b at below);
  }

  pub orders_left : ((b : LeavingState) → new.leaving ≡ Some b → b.set < far.counts.sets
      → rows_in t b.pages b.frames ≡ rows_in s b.pages b.frames) → LeavesOrders s far t new
  orders_left rows (Encode o) k = encode_left rows o k
  orders_left rows (Decode o) k = decode_left o k

-- where the far state stays, an order stays kept as long as the words of the frames that are leaving
-- stay: of orders to make a lost row local memory says nothing
pub orders_stay : (s t : Shown) (far : FarState) → ((b : LeavingState) → far.leaving ≡ Some b
    → rows_in t b.pages b.frames ≡ rows_in s b.pages b.frames) → LeavesOrders s far t far
orders_stay s t far rows (Encode o) k = record {
  fits = k.fits;
  drawn = k.drawn;
  code = k.code;
  rows = λ b at same. k.rows b at same ∙ sym (rows b at);
}
orders_stay s t far rows (Decode o) k = k
