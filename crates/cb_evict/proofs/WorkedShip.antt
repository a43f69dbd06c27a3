-- Worked examples of a ship: values that meet a definition, and for each of its parts one that
-- breaks that part alone.
use Rattle.std.proofs.Common.{◌≡◌, ℕ, zero, suc, ◌+◌, ◌*◌, ◌<◌, ◌≤◌, true, false, List, [], ◌∷◌, ◌++◌, Option, None, Some, get_or, nat_lt, refl, sym, ap, ◌∙◌, subst, lit<, lit≤, arith, inl, inr}
use Rattle.std.specs.FinMap as map
use Rattle.std.proofs.lemmas.Bool.{false≢true}
use Rattle.cb_class.specs.Class.{pages_of}
use Rattle.cb_member.specs.declared.names.Shard.{Shard}
use Rattle.cb_member.specs.Membership.{Membership, fresh_members, with_crash}
use Rattle.cb_node.specs.NodesState.{NodesState, empty_nodes, held, row_under, with_row}
use Rattle.cb_node.proofs.Laws.{row_is_put}
use Rattle.cb_span.specs.declared.temp.Temp.TheVariants.{Cold}
use Rattle.cb_types.specs.declared.reply.Reply.{Reply}
use Rattle.cb_types.specs.declared.reply.Reply.TheVariants as answer
use Rattle.cb_world.specs.declared.access.Access.TheVariants.{Looked, Loaded}
use Rattle.cb_world.specs.Choices.{numbered, MayPut, IsBefore}
use Rattle.cb_world.specs.FarState.{FarState, pages_at}
use Rattle.cb_world.specs.Leaving.{LeavingState}
use Rattle.cb_world.specs.Plain.{Words}
use Rattle.cb_world.specs.Survey.{no_survey}
use Rattle.cb_evict.specs.ShipRule.{HasAllShipped, HasNoNode, HasShipped, IsShardFor, MadeFor, ReadsLeaving, made_before, ShipsRow, other_puts, with_shipped}
use Rattle.cb_evict.specs.ShipStep.{IsShipStep}
use Rattle.cb_evict.specs.Shipping.{Waits}
use Rattle.cb_evict.specs.Waiting.{is_waiting, waits_at, waiting, least_waiting, PutAtMembers}
use Rattle.cb_evict.proofs.Options.{none_some, some_none, some_same}
use Rattle.cb_evict.proofs.ShipFixed.{ready_fixed}
use Rattle.cb_evict.proofs.SmallWorlds.{one_page, span_with}

abbrev at : ℕ → ℕ → Shard
at n key = record { node = numbered n; incarnation = 0; key = key }

-- four nodes without rows, of which the first has crashed
abbrev nodes : NodesState
nodes = empty_nodes 4 2

abbrev members : Membership
members = with_crash (fresh_members 4) (numbered 0)

-- ---- which positions wait
none_put : is_waiting members None ≡ true
none_put = refl

row_lost : is_waiting members (Some (at 0 0)) ≡ true
row_lost = refl

row_stands : is_waiting members (Some (at 1 1)) ≡ false
row_stands = refl

-- the first row stands, the second is lost, and the third was not put
abbrev some_wait : List (Option Shard)
some_wait = Some (at 1 0) ∷ Some (at 0 1) ∷ None ∷ []

stands_at : waits_at members some_wait 0 ≡ false
stands_at = refl

wait_in_order : waiting members some_wait ≡ 1 ∷ 2 ∷ []
wait_in_order = refl

least_of_them : least_waiting members some_wait ≡ Some 1
least_of_them = refl

abbrev all_put : List (Option Shard)
all_put = Some (at 1 0) ∷ Some (at 2 1) ∷ Some (at 3 2) ∷ []

none_waits : waiting members all_put ≡ []
none_waits = refl

no_least : least_waiting members all_put ≡ None
no_least = refl

-- a node beyond the members
not_member : PutAtMembers members (Some (at 4 0) ∷ []) → ⊥
not_member a = let l : 4 < 4 = a 0 None (lit< tt) in absurd (omega (arith, l))

-- ---- the shards of the other positions
-- a lost one stands in the way too
with_lost : other_puts some_wait 2 ≡ at 1 0 ∷ at 0 1 ∷ []
with_lost = refl

-- the position's own one does not
but_own : other_puts some_wait 1 ≡ at 1 0 ∷ []
but_own = refl

-- ---- the shard for a row
abbrev batch : List (Option Shard) → LeavingState
batch shards = record {
  set = 3;
  pages = 1;
  frames = 2 ∷ [];
  words = [];
  made = true;
  parities = (7 ∷ []) ∷ (9 ∷ []) ∷ [];
  shards = shards;
}

abbrev pub far : Option LeavingState → FarState
far leaving = record {
  first = 1;
  made = 0;
  frames = true ∷ true ∷ false ∷ [];
  spans = None ∷ None ∷ Some (span_with Cold 0) ∷ [];
  sets = map.empty;
  homes = [];
  nodes = nodes;
  members = members;
  code = record { k = 1; r = 2 };
  leaving = leaving;
  joining = None;
  counts = record { turns = 0; by_job = []; sets = 4; keys = 5 };
  survey = no_survey;
}

abbrev leaving : FarState
leaving = far (Some (batch some_wait))

-- the first node crashed and the second has another position's row: of the two left, which hold as
-- many rows, the one with the least number
before_others : (n : ℕ) → MayPut nodes members (at 1 0 ∷ []) (numbered n)
    → IsBefore nodes (numbered 2) (numbered n)
before_others zero may = absurd (false≢true may.room)
before_others (suc zero) may = absurd (false≢true (sym may.spare))
before_others (suc (suc zero)) may = inr (refl, lit≤ tt)
before_others (suc (suc (suc zero))) may = inr (refl, lit≤ tt)
before_others (suc (suc (suc (suc n)))) may = let l = may.within in absurd (omega (arith, l))

none_held : held nodes (numbered 2) ≡ 0
none_held = grind (arith, map.gets)

may_second : MayPut nodes members (at 1 0 ∷ []) (numbered 2)
may_second = record {
  within = lit< tt;
  room = ap (λ (n : ℕ). nat_lt n 2) none_held;
  spare = refl;
}

abbrev shard : Shard
shard = at 2 5

shard_for : IsShardFor leaving (batch some_wait) 1 shard
shard_for = record {
  node = record { may = may_second; least = λ other may. before_others other.n may };
  incarnation = refl;
  key = refl;
}

not_after_it : IsShardFor leaving (batch some_wait) 1 (at 3 5) → ⊥
not_after_it a = by (a.node.least (numbered 2) may_second)
  where
    by : IsBefore nodes (numbered 3) (numbered 2) → ⊥
    by (inl less) = absurd (omega (arith, less))
    by (inr x) = let l : 3 ≤ 2 = x.1 in absurd (omega (arith, l))

not_later_incarnation : IsShardFor leaving (batch some_wait) 1 (record shard { incarnation = 1 }) → ⊥
not_later_incarnation a = let e : 1 ≡ 0 = a.incarnation in absurd (omega (arith, e))

not_old_key : IsShardFor leaving (batch some_wait) 1 (at 2 4) → ⊥
not_old_key a = let e : 4 ≡ 5 = a.key in absurd (omega (arith, e))

-- ---- a row that is put
abbrev after : FarState
after = with_shipped leaving (batch some_wait) 1 shard (7 ∷ [])

-- one data row
abbrev rows : LeavingState → List (List ℕ)
rows b = [] ∷ []

is_shipped : HasShipped leaving after (answer.Shipped 1) rows
is_shipped = record {
  batch = batch some_wait;
  there = refl;
  position = 1;
  shard = shard;
  least = refl;
  named = shard_for;
  reply = refl;
  count = refl;
  ready = batch some_wait;
  made = made_before refl refl;
  state = refl;
}

ships : ShipsRow leaving after (answer.Shipped 1) rows
ships = inr (inr (inr is_shipped))

-- what is told as shipped is no refusal
shipped_same : (p q : ℕ) → answer.Shipped p ≡ answer.Shipped q → p ≡ q
shipped_same p q e = cc

only : (new : FarState) (p : ℕ) (row : LeavingState → List (List ℕ))
    → ShipsRow leaving new (answer.Shipped p) row → HasShipped leaving new (answer.Shipped p) row
only new p row (inl x) = absurd (some_none (batch some_wait) x.none)
only new p row (inr (inl x)) = absurd (let e : answer.Shipped p ≡ answer.AllShipped = x.reply in cc)
only new p row (inr (inr (inl x))) = absurd (let e : answer.Shipped p ≡ answer.NoNode = x.reply in cc)
only new p row (inr (inr (inr x))) = x

-- it is the batch that is leaving, and its least position that waits
is_batch : (new : FarState) (r : Reply) (row : LeavingState → List (List ℕ))
    (x : HasShipped leaving new r row) → batch some_wait ≡ x.batch
is_batch new r row x = some_same (batch some_wait) x.batch x.there

is_least : (new : FarState) (r : Reply) (row : LeavingState → List (List ℕ))
    (x : HasShipped leaving new r row) → 1 ≡ x.position
is_least new r row x = some_same 1 x.position
    (ap (λ (b : LeavingState). least_waiting members b.shards) (is_batch new r row x) ∙ x.least)

not_next_position : ShipsRow leaving after (answer.Shipped 2) rows → ⊥
not_next_position s = let x = only after 2 rows s in
    let e = is_least after (answer.Shipped 2) rows x in let f = shipped_same 2 x.position x.reply in
    absurd (omega (arith, e, f))

key_stays : ShipsRow leaving (record after { counts = leaving.counts }) (answer.Shipped 1) rows → ⊥
key_stays s = let x = only (record after { counts = leaving.counts }) 1 rows s in
    let e : 5 ≡ 6 = ap (λ (f : FarState). f.counts.keys) x.state in absurd (omega (arith, e))

-- the shard of its second position, which is the new one afterwards
abbrev second : Option LeavingState → Option Shard
second None = None
second (Some b) = get_or b.shards 1 None

-- from the batch as it was, whose parities are made
is_ready : (new : FarState) (x : HasShipped leaving new (answer.Shipped 1) rows)
    → x.ready ≡ batch some_wait
is_ready new x =
    ready_fixed (batch some_wait) (rows (batch some_wait)) x.position x.ready (batch some_wait) refl
    (subst (λ (b : LeavingState). MadeFor b (rows b) x.position x.ready)
    (sym (is_batch new (answer.Shipped 1) rows x)) x.made) (made_before refl refl)

is_second : (new : FarState) (x : HasShipped leaving new (answer.Shipped 1) rows)
    → second new.leaving ≡ Some x.shard
is_second new x =
    ap (λ (f : FarState). second f.leaving) x.state
    ∙ ap (λ (c : LeavingState). second (with_shipped leaving c x.position x.shard []).leaving)
    (is_ready new x)
    ∙ ap (λ (q : ℕ). second (with_shipped leaving (batch some_wait) q x.shard []).leaving)
    (sym (is_least new (answer.Shipped 1) rows x))

-- no position has the new shard
batch_stays : ShipsRow leaving (record after { leaving = leaving.leaving }) (answer.Shipped 1) rows
    → ⊥
batch_stays s =
    let x = only (record after { leaving = leaving.leaving }) 1 rows s in
    let e = some_same (at 0 1) x.shard (is_second (record after { leaving = leaving.leaving }) x) in
    let k : 1 ≡ x.shard.key = ap (λ (a : Shard). a.key) e in let l = x.named.key in
    absurd (omega (arith, k, l))

-- the row of another position is put
abbrev wrong : FarState
wrong = with_shipped leaving (batch some_wait) 1 shard (9 ∷ [])

abbrev put_at : Shard → List ℕ → Option (List ℕ)
put_at a row = row_under (with_row nodes a.node a.key row) (numbered 2) 5

other_row : ShipsRow leaving wrong (answer.Shipped 1) rows → ⊥
other_row s =
    let x = only wrong 1 rows s in
    let a = some_same shard x.shard (is_second wrong x) in
    let p = is_least wrong (answer.Shipped 1) rows x in
    let e : Some (9 ∷ []) ≡ Some (7 ∷ []) =
    sym (row_is_put nodes (numbered 2) 5 (9 ∷ []) (lit< tt))
    ∙ ap (λ (f : FarState). row_under f.nodes (numbered 2) 5) x.state
    ∙ ap (λ (b : Shard). put_at b (get_or (([] ∷ []) ++ x.ready.parities) x.position [])) (sym a)
    ∙ ap (λ (c : LeavingState). put_at shard (get_or (([] ∷ []) ++ c.parities) x.position []))
    (is_ready wrong x)
    ∙ ap (λ (q : ℕ). put_at shard (get_or ([] ∷ (7 ∷ []) ∷ (9 ∷ []) ∷ []) q [])) (sym p)
    ∙ row_is_put nodes (numbered 2) 5 (7 ∷ []) (lit< tt) in
    let k : 9 ≡ 7 = ap (λ (o : Option (List ℕ)). first_or o) e in absurd (omega (arith, k))
  where
    first_or : Option (List ℕ) → ℕ
    first_or None = 0
    first_or (Some row) = get_or row 0 0

-- ---- refusals
-- a refusal changes nothing, and is told as what it is
abbrev done : FarState
done = far (Some (batch all_put))

all_shipped : HasAllShipped done done answer.AllShipped
all_shipped = record {
  batch = batch all_put;
  there = refl;
  none = refl;
  reply = refl;
  state = refl;
}

all_not_done : HasAllShipped done done answer.Done → ⊥
all_not_done a = let e : answer.Done ≡ answer.AllShipped = a.reply in cc

all_none_made : HasAllShipped done (record done { made = 1 }) answer.AllShipped → ⊥
all_none_made a = let e : 1 ≡ 0 = ap (λ (f : FarState). f.made) a.state in absurd (omega (arith, e))

one_waits : HasAllShipped leaving leaving answer.AllShipped → ⊥
one_waits a = some_none 1
    (ap (λ (b : LeavingState). least_waiting members b.shards)
    (some_same (batch some_wait) a.batch a.there) ∙ a.none)

-- all nodes that are up have rows of other positions
abbrev crowded : FarState
crowded = far (Some (batch (None ∷ Some (at 1 0) ∷ Some (at 2 1) ∷ Some (at 3 2) ∷ [])))

nowhere : (n : ℕ) → MayPut nodes members (at 1 0 ∷ at 2 1 ∷ at 3 2 ∷ []) (numbered n) → ⊥
nowhere zero may = false≢true may.room
nowhere (suc zero) may = false≢true (sym may.spare)
nowhere (suc (suc zero)) may = false≢true (sym may.spare)
nowhere (suc (suc (suc zero))) may = false≢true (sym may.spare)
nowhere (suc (suc (suc (suc n)))) may = let l = may.within in absurd (omega (arith, l))

no_node : HasNoNode crowded crowded answer.NoNode
no_node = record {
  batch = batch (None ∷ Some (at 1 0) ∷ Some (at 2 1) ∷ Some (at 3 2) ∷ []);
  there = refl;
  position = 0;
  least = refl;
  none = λ node. nowhere node.n;
  reply = refl;
  state = refl;
}

node_not_done : HasNoNode crowded crowded answer.Done → ⊥
node_not_done a = let e : answer.Done ≡ answer.NoNode = a.reply in cc

node_none_made : HasNoNode crowded (record crowded { made = 1 }) answer.NoNode → ⊥
node_none_made a = let e : 1 ≡ 0 = ap (λ (f : FarState). f.made) a.state in absurd (omega (arith, e))

-- where a node can take the row it is no refusal
a_node_is_left : HasNoNode leaving leaving answer.NoNode → ⊥
a_node_is_left a =
    let b = some_same (batch some_wait) a.batch a.there in
    let p = some_same 1 a.position
    (ap (λ (c : LeavingState). least_waiting members c.shards) b ∙ a.least) in
    a.none (numbered 2)
    (subst (λ (c : LeavingState). MayPut nodes members (other_puts c.shards a.position) (numbered 2)) b
    (subst (λ (q : ℕ). MayPut nodes members (other_puts some_wait q) (numbered 2)) p may_second))

-- ---- what is read
in_span : (p : ℕ) → p < 1536 → p < 512 * (2 + pages_of (record { index = 0 }))
in_span p l = let one = one_page in omega (arith, l, one)

reads : ReadsLeaving leaving (Loaded 1024 0 ∷ Loaded 1535 0 ∷ [])
reads = (
  (2, (0, lit< tt, refl), (lit≤ tt, in_span 1024 (lit< tt))),
  ((2, (0, lit< tt, refl), (lit≤ tt, in_span 1535 (lit< tt))), tt),
)

-- the word behind the span's last frame is none of its words
not_behind : ReadsLeaving leaving (Loaded 1536 0 ∷ []) → ⊥
not_behind ((f, (zero, l, e), lies), rest) =
    let end : 1536 < 512 * (2 + pages_of (record { index = 0 })) =
    subst (λ (n : ℕ). 1536 < 512 * (n + pages_at leaving.spans n)) (sym e) lies.1 in
    let one = one_page in absurd (omega (arith, end, one))
not_behind ((f, (suc k, l, e), lies), rest) = absurd (omega (arith, l))

not_looks : ReadsLeaving leaving (Looked 0 0 ∷ []) → ⊥
not_looks a = a

-- ---- the step of the still desk
abbrev desk : List ℕ → Words
desk words = record {
  settings = record { k = 1; r = 2; nodes = 4; frames = 3; room = 2; handles = 1; turns = 0 };
  words = words;
  versions = 0 ∷ [];
  memory = [];
}

step : IsShipStep (desk (0 ∷ [])) (desk (0 ∷ [])) leaving after (answer.Shipped 1)
step = record {
  words = refl;
  ships = inr (inr (inr (record {
    batch = batch some_wait;
    there = refl;
    position = 1;
    shard = shard;
    least = refl;
    named = shard_for;
    reply = refl;
    count = refl;
    ready = batch some_wait;
    made = made_before refl refl;
    state = refl;
  })));
}

a_word_changes : IsShipStep (desk (0 ∷ [])) (desk (1 ∷ [])) leaving after (answer.Shipped 1) → ⊥
a_word_changes s = let e : 1 ≡ 0 = ap (λ (w : Words). get_or w.words 0 0) s.words in
    absurd (omega (arith, e))

-- ---- a position that waits
waits_at_one : Waits leaving
waits_at_one = (batch some_wait, 1, refl, refl)

no_one_waits : Waits done → ⊥
no_one_waits (b, p, there, least) = some_none p (sym least
    ∙ sym (ap (λ (x : LeavingState). least_waiting members x.shards)
    (some_same (batch all_put) b there)) ∙ no_least)

none_leaves : Waits (far None) → ⊥
none_leaves (b, p, there, least) = none_some b there
