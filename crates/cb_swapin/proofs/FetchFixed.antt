-- A fetch is fixed: one answer or order, and one far state.
use Rattle.std.proofs.Common.{◌≡◌, ℕ, true, false, List, [], Some, sym, ap, ◌∙◌, subst, arith}
use Rattle.std.proofs.lemmas.Bool.{false≢true}
use Rattle.std.proofs.lemmas.List.{ext_get_or}
use Rattle.cb_gf256.specs.Rows.{row_at}
use Rattle.cb_member.specs.declared.names.Shard.{Shard}
use Rattle.cb_node.specs.NodesState.{NodesState, row_under}
use Rattle.cb_set.specs.SetState.{SetState}
use Rattle.cb_types.specs.declared.order.DecodeOrder.{DecodeOrder}
use Rattle.cb_types.specs.declared.reply.Reply.{Reply}
use Rattle.cb_world.specs.FarState.{FarState}
use Rattle.cb_world.specs.Fetched.{AreGiven}
use Rattle.cb_world.proofs.Laws.{set_same}
use Rattle.cb_swapin.specs.declared.fetching.Fetching.{Fetching}
use Rattle.cb_swapin.specs.declared.fetching.Fetching.TheVariants.{Order, Answer}
use Rattle.cb_swapin.specs.FetchStep.{FetchFar, FetchStep, IsOrderFetched, hands_out, is_to_make}

row_same : (a b : List ℕ) → Some a ≡ Some b → a ≡ b
row_same a b e = cc

shard_same : (a b : Shard) → Some a ≡ Some b → a ≡ b
shard_same a b e = cc

-- the rows under the shards of some positions
pub given_fixed : (nodes : NodesState) (shards : List Shard) (present : List ℕ)
    (rows others : List (List ℕ)) → AreGiven nodes shards present rows
    → AreGiven nodes shards present others → rows ≡ others
given_fixed nodes shards present rows others a b =
    ext_get_or [] rows others (a.count ∙ sym b.count) (λ i within.
    let x = a.given i (omega (arith, within, a.count)) in
    let y = b.given i (omega (arith, within, a.count)) in
    let same : x.0 ≡ y.0 = shard_same x.0 y.0 (sym x.1 ∙ y.1) in
    row_same (row_at rows i) (row_at others i) (sym x.2
    ∙ ap (λ (s : Shard). row_under nodes s.node s.key) same ∙ y.2))

order_fixed : (far new other : FarState) (id p : ℕ) (set : SetState) (o q : DecodeOrder)
    → IsOrderFetched far new id p set o → IsOrderFetched far other id p set q → o ≡ q
order_fixed far new other id p set o q a b =
    let present : o.present ≡ q.present = a.least ∙ sym b.least in
    let rows : o.rows ≡ q.rows = given_fixed far.nodes set.shards q.present o.rows q.rows
    (subst (λ (l : List ℕ). AreGiven far.nodes set.shards l o.rows) present a.given) b.given in
    λ i. record {
      set = (a.set_is ∙ sym b.set_is) i;
      position = (a.wanted ∙ sym b.wanted) i;
      k = (a.code.0 ∙ sym b.code.0) i;
      r = (a.code.1 ∙ sym b.code.1) i;
      present = present i;
      rows = rows i;
    }

far_fixed : (far new other : FarState) (id p : ℕ) (set : SetState) (g h : Fetching)
    → hands_out g ≡ hands_out h → FetchFar far new id p set g → FetchFar far other id p set h
    → (g ≡ h) × (new ≡ other)
far_fixed far new other id p set (Order o) (Order q) e a b = (
  ap (λ (x : DecodeOrder). Order x) (order_fixed far new other id p set o q a b),
  a.state ∙ sym b.state,
)
far_fixed far new other id p set (Answer r) (Answer q) e a b =
    (ap (λ (x : Reply). Answer x) (a.0 ∙ sym b.0), a.1 ∙ sym b.1)
far_fixed far new other id p set (Order o) (Answer q) e a b = absurd (false≢true (sym e))
far_fixed far new other id p set (Answer r) (Order q) e a b = absurd (false≢true e)

pub fetch_fixes : (id p : ℕ) (far new other : FarState) (g h : Fetching)
    → FetchStep id p far new g → FetchStep id p far other h → (g ≡ h) × (new ≡ other)
fetch_fixes id p far new other g h a b =
    let sets : a.set ≡ b.set = set_same a.set b.set (sym a.there ∙ b.there) in
    far_fixed far new other id p b.set g h
    (a.ordered ∙ ap (λ (c : SetState). is_to_make far c p) sets ∙ sym b.ordered)
    (subst (λ (c : SetState). FetchFar far new id p c g) sets a.state) b.state
