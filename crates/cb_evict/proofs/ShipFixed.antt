-- A ship is fixed: one reply and one far state.
use Rattle.std.proofs.Common.{◌≡◌, ℕ, true, false, List, ◌++◌, length, Option, None, Some, sym, ap, ◌∙◌, subst, arith, inl, inr}
use Rattle.cb_gf256.specs.Rows.{row_at}
use Rattle.cb_member.specs.declared.names.Shard.{Shard}
use Rattle.cb_member.specs.Membership.{incarnation}
use Rattle.cb_types.specs.declared.reply.Reply.{Reply}
use Rattle.cb_types.specs.declared.reply.Reply.TheVariants as answer
use Rattle.cb_world.specs.Choices.{IsLeastNode}
use Rattle.cb_world.specs.FarState.{FarState}
use Rattle.cb_world.specs.Leaving.{LeavingState}
use Rattle.cb_world.specs.Plain.{Words}
use Rattle.cb_world.specs.SetWord.{IsSpanWord}
use Rattle.cb_world.proofs.Laws.{IsOneEnd, least_node_fixed, refused_alike, some_same}
use Rattle.cb_evict.specs.BeginStep.{frame_rows}
use Rattle.cb_evict.specs.InstallRule.{with_parities}
use Rattle.cb_evict.specs.ShipRule.{HasNoNode, HasShipped, MadeFor, ShipsRow, is_data, made_before, made_here, other_puts, with_shipped}
use Rattle.cb_evict.specs.ShipStep.{IsShipStep}
use Rattle.cb_evict.specs.Waiting.{least_waiting}
use Rattle.cb_evict.proofs.BeginFixed.{leaving_or_not, parities_fixed}
use Rattle.cb_evict.proofs.Options.{none_some}

true_false : true ≡ false → ⊥
true_false e = cc

-- the batch from which a row is put is one
pub ready_fixed : (batch : LeavingState) (rows : List (List ℕ)) (p : ℕ) (a b : LeavingState)
    → length rows ≡ length batch.frames → MadeFor batch rows p a → MadeFor batch rows p b → a ≡ b
ready_fixed batch rows p a b count (made_before made e) (made_before also f) = e ∙ sym f
ready_fixed batch rows p a b count (made_before made e) (is_data below f) = e ∙ sym f
ready_fixed batch rows p a b count (is_data below e) (made_before made f) = e ∙ sym f
ready_fixed batch rows p a b count (is_data below e) (is_data also f) = e ∙ sym f
ready_fixed batch rows p a b count (made_before made e) (made_here bare behind them x f) =
    absurd (true_false (sym made ∙ bare))
ready_fixed batch rows p a b count (made_here bare behind them x e) (made_before made f) =
    absurd (true_false (sym made ∙ bare))
ready_fixed batch rows p a b count (is_data below e) (made_here bare behind them x f) =
    absurd (omega (arith, below, behind))
ready_fixed batch rows p a b count (made_here bare behind them x e) (is_data below f) =
    absurd (omega (arith, below, behind))
ready_fixed batch rows p a b count (made_here bare behind them x e) (made_here not past others y f) =
    let k = length batch.frames in
    let same = parities_fixed batch.pages k (length batch.parities) rows them others x.range count
    (subst (λ (n : ℕ). IsSpanWord batch.pages k n (rows ++ them)) x.count x.word)
    (subst (λ (n : ℕ). IsSpanWord batch.pages k n (rows ++ others)) y.count y.word) in
    e ∙ ap (with_parities batch) same ∙ sym f

module _ (x y z : Words) (far new other : FarState) (r q : Reply) (left : y ≡ x) (also : z ≡ x) where
  abbrev rows : LeavingState → List (List ℕ)
  rows batch = frame_rows x batch.pages batch.frames

  shipped_fixed : HasShipped far new r rows → HasShipped far other q rows → IsOneEnd r q y z new other
  shipped_fixed a b =
      let batches : a.batch ≡ b.batch = some_same a.batch b.batch (sym a.there ∙ b.there) in
      let at : a.position ≡ b.position = some_same a.position b.position
      (sym a.least ∙ ap (λ (batch : LeavingState). least_of batch) batches ∙ b.least) in
      let nodes : a.shard.node ≡ b.shard.node = least_node_fixed far.nodes far.members
      (other_puts b.batch.shards b.position) a.shard.node b.shard.node
      (subst (λ (l : List Shard). IsLeastNode far.nodes far.members l a.shard.node)
      (λ i. other_puts (batches i).shards (at i)) a.named.node) b.named.node in
      let incarnations : a.shard.incarnation ≡ b.shard.incarnation = a.named.incarnation
      ∙ ap (incarnation far.members) nodes ∙ sym b.named.incarnation in
      let keys : a.shard.key ≡ b.shard.key = a.named.key ∙ sym b.named.key in
      let ready : a.ready ≡ b.ready =
      ready_fixed b.batch (rows b.batch) b.position a.ready b.ready b.count
      (subst (λ (q : ℕ). MadeFor b.batch (rows b.batch) q a.ready) at
      (subst (λ (batch : LeavingState). MadeFor batch (rows batch) a.position a.ready) batches
      a.made)) b.made in
      let shards : a.shard ≡ b.shard = λ i. record {
        node = nodes i;
        incarnation = incarnations i;
        key = keys i;
      } in
      record {
        reply = a.reply ∙ ap answer.Shipped at ∙ sym b.reply;
        words = left ∙ sym also;
        far = a.state
            ∙ (λ i. with_shipped far (ready i) (at i) (shards i)
            (row_at (rows (batches i) ++ (ready i).parities) (at i)))
            ∙ sym b.state;
      }
    where
      least_of : LeavingState → Option ℕ
      least_of batch = least_waiting far.members batch.shards

  alike : (p : Reply) → r ≡ p → q ≡ p → new ≡ far → other ≡ far → IsOneEnd r q y z new other
  alike p a b e f = refused_alike r q p x y z far new other a b left also e f

  -- the same position waits by two accounts of the batch
  waits : (s t : LeavingState) → far.leaving ≡ Some s → far.leaving ≡ Some t
      → least_waiting far.members s.shards ≡ least_waiting far.members t.shards
  waits s t a b = ap (λ (batch : LeavingState). least_waiting far.members batch.shards)
      (some_same s t (sym a ∙ b))

  all_or_some : (s t : LeavingState) (p : ℕ) → far.leaving ≡ Some s → far.leaving ≡ Some t
      → least_waiting far.members s.shards ≡ None → least_waiting far.members t.shards ≡ Some p → ⊥
  all_or_some s t p a b none some = none_some p (sym none ∙ waits s t a b ∙ some)

  node_or_none : (p : Reply) (next : FarState) (o : Reply) (last : FarState) → HasNoNode far next p
      → HasShipped far last o rows → ⊥
  node_or_none p next o last a b =
      let batches : b.batch ≡ a.batch = some_same b.batch a.batch (sym b.there ∙ a.there) in
      let at : b.position ≡ a.position = some_same b.position a.position
      (sym b.least ∙ waits b.batch a.batch b.there a.there ∙ a.least) in
      let node = subst (λ (l : List Shard). IsLeastNode far.nodes far.members l b.shard.node)
      (λ i. other_puts (batches i).shards (at i)) b.named.node in
      a.none b.shard.node node.may

  pub ships_fixed : ShipsRow far new r rows → ShipsRow far other q rows → IsOneEnd r q y z new other
  ships_fixed (inl a) (inl b) = alike answer.NoBatch a.reply b.reply a.state b.state
  ships_fixed (inl a) (inr (inl b)) = absurd (leaving_or_not far b.batch b.there a.none)
  ships_fixed (inl a) (inr (inr (inl b))) = absurd (leaving_or_not far b.batch b.there a.none)
  ships_fixed (inl a) (inr (inr (inr b))) = absurd (leaving_or_not far b.batch b.there a.none)
  ships_fixed (inr (inl a)) (inl b) = absurd (leaving_or_not far a.batch a.there b.none)
  ships_fixed (inr (inr (inl a))) (inl b) = absurd (leaving_or_not far a.batch a.there b.none)
  ships_fixed (inr (inr (inr a))) (inl b) = absurd (leaving_or_not far a.batch a.there b.none)
  ships_fixed (inr (inl a)) (inr (inl b)) = alike answer.AllShipped a.reply b.reply a.state b.state
  ships_fixed (inr (inl a)) (inr (inr (inl b))) =
      absurd (all_or_some a.batch b.batch b.position a.there b.there a.none b.least)
  ships_fixed (inr (inl a)) (inr (inr (inr b))) =
      absurd (all_or_some a.batch b.batch b.position a.there b.there a.none b.least)
  ships_fixed (inr (inr (inl a))) (inr (inl b)) =
      absurd (all_or_some b.batch a.batch a.position b.there a.there b.none a.least)
  ships_fixed (inr (inr (inr a))) (inr (inl b)) =
      absurd (all_or_some b.batch a.batch a.position b.there a.there b.none a.least)
  ships_fixed (inr (inr (inl a))) (inr (inr (inl b))) =
      alike answer.NoNode a.reply b.reply a.state b.state
  ships_fixed (inr (inr (inl a))) (inr (inr (inr b))) = absurd (node_or_none r new q other a b)
  ships_fixed (inr (inr (inr a))) (inr (inr (inl b))) = absurd (node_or_none q other r new b a)
  ships_fixed (inr (inr (inr a))) (inr (inr (inr b))) = shipped_fixed a b

pub ship_step_fixes : (x y z : Words) (far new other : FarState) (r q : Reply)
    → IsShipStep x y far new r → IsShipStep x z far other q → IsOneEnd r q y z new other
ship_step_fixes x y z far new other r q a b =
    ships_fixed x y z far new other r q a.words b.words a.ships b.ships
