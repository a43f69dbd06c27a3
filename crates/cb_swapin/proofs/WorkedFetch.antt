-- Worked examples of a fetch and of a landing: what meets each definition, and what breaks one of its
-- parts alone.
use Rattle.std.proofs.Common.{◌≡◌, ℕ, zero, suc, true, false, ◌<◌, List, [], ◌∷◌, Option, None, Some, length, get_or, refl, sym, ap, ◌∙◌, subst, arith}
use Rattle.std.specs.FinMap as map
use Rattle.std.specs.List.{slice_get}
use Rattle.std.specs.Option.{option_map_or}
use Rattle.std.proofs.lemmas.Bool.{false≢true}
use Rattle.std.proofs.lemmas.Option.{same_Some}
use Rattle.cb_class.specs.Class.{bytes_of, pages_of, slots_of}
use Rattle.cb_gf256.specs.Rows.{row_at}
use Rattle.cb_member.specs.declared.names.Loss.{Loss}
use Rattle.cb_member.specs.declared.names.Shard.{Shard}
use Rattle.cb_node.specs.NodesState.{NodesState, row_under}
use Rattle.cb_set.specs.SetState.{SetState, live_at}
use Rattle.cb_types.specs.declared.order.DecodeOrder.{DecodeOrder}
use Rattle.cb_types.specs.declared.reply.Reply.{Reply}
use Rattle.cb_types.specs.declared.reply.Reply.TheVariants as answer
use Rattle.cb_world.specs.declared.access.Access.TheVariants.{Looked}
use Rattle.cb_world.specs.FarState.{FarState}
use Rattle.cb_world.specs.Sets.{set_in}
use Rattle.cb_world.proofs.Laws.{at, rows}
use Rattle.cb_swapin.specs.declared.fetching.Fetching.TheVariants.{Order, Answer}
use Rattle.cb_swapin.specs.Fetching.{far_given}
use Rattle.cb_swapin.specs.FetchStep.{FetchStep, IsOrderFetched, is_to_make, unfetched_answer}
use Rattle.cb_swapin.specs.LandRule.{HasNoOrder, IsLanding, IsOutdated, LandRule, live_in}
use Rattle.cb_swapin.specs.SwapRule.{IsSwappedTo}
use Rattle.cb_swapin.proofs.WorkedSwap.{class, far, new, old, on, set, some_free, swapped}
use Rattle.cb_swapin.proofs.WorkedWord.{is_word, nodes}

-- ---- which row has to be made: that of the parity, whose node has crashed
abbrev here : FarState
here = record old { nodes = nodes }

there : set_in here.sets 5 ≡ Some set
there = grind (arith, map.gets)

of_the_lost : is_to_make here set 2 ≡ true
of_the_lost = refl

not_of_one_that_stands : is_to_make here set 0 ≡ false
not_of_one_that_stands = refl

not_of_a_broken_set : is_to_make (far some_free (on 1 2 0)) (on 1 2 0) 0 ≡ false
not_of_a_broken_set = refl

stands : unfetched_answer here 5 set ≡ answer.Direct
stands = refl

abbrev loss : ℕ → ℕ → Loss
loss n epoch = record { node = record { n = n }; epoch = record { n = epoch } }

broken : unfetched_answer (far some_free (on 1 2 0)) 5 (on 1 2 0)
    ≡ answer.Unavailable (record { n = 5 }) (loss 1 1 ∷ loss 2 3 ∷ [])
broken = refl

-- ---- the order: the rows at positions 0 and 1
abbrev order : DecodeOrder
order = record {
  set = 5;
  position = 2;
  k = 2;
  r = 1;
  present = 0 ∷ 1 ∷ [];
  rows = row_at rows 0 ∷ row_at rows 1 ∷ [];
}

given_at : (i : ℕ) → i < 2 → (shard : Shard)
    × (slice_get set.shards (get_or (0 ∷ 1 ∷ []) i 0) ≡ Some shard)
    × (row_under nodes shard.node shard.key ≡ Some (row_at order.rows i))
given_at zero l = (at 0 7, refl, is_word.survive 0 (at 0 7) refl refl)
given_at (suc zero) l = (at 3 8, refl, is_word.survive 1 (at 3 8) refl refl)
given_at (suc (suc i)) l = absurd (omega (arith, l))

fetched : IsOrderFetched here (far_given here 2) 5 2 set order
fetched = record {
  set_is = refl;
  wanted = refl;
  code = (refl, refl);
  least = refl;
  given = record { count = refl; given = given_at };
  state = refl;
}

-- not this order, nor this state
abbrev Refuted : DecodeOrder → FarState → Type 0
Refuted o next = IsOrderFetched here next 5 2 set o → ⊥

of_another_set : Refuted (record order { set = 6 }) (far_given here 2)
of_another_set x = let e = x.set_is in omega (arith, e)

for_another_position : Refuted (record order { position = 1 }) (far_given here 2)
for_another_position x = let e = x.wanted in omega (arith, e)

of_more_data : Refuted (record order { k = 3 }) (far_given here 2)
of_more_data x = let e = x.code.0 in omega (arith, e)

of_more_parities : Refuted (record order { r = 2 }) (far_given here 2)
of_more_parities x = let e = x.code.1 in omega (arith, e)

from_a_lost_position : Refuted (record order { present = 0 ∷ 2 ∷ [] }) (far_given here 2)
from_a_lost_position x = let e : 2 ≡ 1 = ap (λ (l : List ℕ). get_or l 1 0) x.least in omega (arith, e)

with_a_row_less : Refuted (record order { rows = row_at rows 0 ∷ [] }) (far_given here 2)
with_a_row_less x = let e : 1 ≡ 2 = x.given.count in omega (arith, e)

shard_same : (a b : Shard) → Some a ≡ Some b → a ≡ b
shard_same a b e = cc

with_another_row : Refuted (record order { rows = row_at rows 0 ∷ [] ∷ [] }) (far_given here 2)
with_another_row x =
    let y = x.given.given 1 (omega arith) in
    let e : row_at rows 1 ≡ [] = same_Some (row_at rows 1) []
    (sym (is_word.survive 1 (at 3 8) refl refl)
    ∙ ap (λ (q : Shard). row_under nodes q.node q.key) (shard_same (at 3 8) y.0 y.1) ∙ y.2) in
    let n : 4096 ≡ 0 = sym (is_word.code.is_word.equal_lengths 1 []
    (let c = is_word.code.is_word.count in omega (arith, c)) ∙ is_word.code.wide) ∙ ap length e in
    omega (arith, n)

gives_one_row : Refuted order (far_given here 1)
gives_one_row x = let e : 1 ≡ 2 = ap (λ (q : FarState). q.nodes.given) x.state in omega (arith, e)

-- ---- a fetch
fetches : FetchStep 5 2 here (far_given here 2) (Order order)
fetches = record { set = set; there = there; ordered = refl; state = fetched }

answers : FetchStep 5 0 here here (Answer answer.Direct)
answers = record { set = set; there = there; ordered = refl; state = (refl, refl) }

answers_and_gives_a_row : FetchStep 5 0 here (far_given here 1) (Answer answer.Direct) → ⊥
answers_and_gives_a_row x =
    let e : 1 ≡ 0 = ap (λ (q : FarState). q.nodes.given) x.state.1 in omega (arith, e)

answers_where_the_row_is_lost : FetchStep 5 2 here here (Answer answer.Direct) → ⊥
answers_where_the_row_is_lost x = false≢true (x.ordered
    ∙ ap (λ (q : SetState). is_to_make here q 2) (same_Some x.set set (sym x.there ∙ there)))

orders_where_the_row_stands : (next : FarState) (o : DecodeOrder) → FetchStep 5 0 here next (Order o)
    → ⊥
orders_where_the_row_stands next o x = false≢true (sym (x.ordered
    ∙ ap (λ (q : SetState). is_to_make here q 0) (same_Some x.set set (sym x.there ∙ there))))

-- ---- a landing: of no order, of one whose position is not live, and of one
no_order : LandRule None old old answer.NoOrder []
no_order = record { reply = refl; same = refl; none = refl }

no_order_and_a_row : HasNoOrder old (far_given old 1) answer.NoOrder [] → ⊥
no_order_and_a_row x =
    let e : 1 ≡ 0 = ap (λ (q : FarState). q.nodes.given) x.same in omega (arith, e)

no_order_and_a_look : HasNoOrder old old answer.NoOrder (Looked 0 1 ∷ []) → ⊥
no_order_and_a_look x = let e : 1 ≡ 0 = ap (λ l. length l) x.none in omega (arith, e)

live_of : (p : ℕ) → live_in old 5 p ≡ live_at set p
live_of p = ap (λ (o : Option SetState). option_map_or (λ s. live_at s p) o false) there

outdated : IsOutdated order old old (answer.Changed (record { n = 5 })) []
outdated = record { gone = live_of 2; reply = refl; same = refl; none = refl }

outdated_where_it_is_live : (r : Reply) → IsOutdated (record order { position = 0 }) old old r [] → ⊥
outdated_where_it_is_live r x = false≢true (sym x.gone ∙ live_of 0)

abbrev landed : FarState
landed = record new { nodes = old.nodes }

brought : IsSwappedTo old landed 5 0 set 1 0
unfolding slots_of pages_of bytes_of
brought = record {
  class = class;
  in_table = omega arith;
  paged = refl;
  sized = refl;
  frames = refl;
  spans = refl;
  homes = swapped.homes;
  sets = refl;
  nodes = refl;
  rest = refl;
}

lands : IsLanding (record order { position = 0 }) old landed (answer.Swapped 1) []
lands = record {
  live = live_of 0;
  brings = record { set = set; there = there; reply = refl; state = (brought, tt) };
}

-- a row is given out
lands_and_gives_a_row : IsLanding (record order { position = 0 }) old new (answer.Swapped 1) [] → ⊥
lands_and_gives_a_row x = by x.brings.set (same_Some x.brings.set set (sym x.brings.there ∙ there))
    x.brings.state.0
  where
    by : (s : SetState) → s ≡ set → IsSwappedTo old new 5 0 s 1 0 → ⊥
    by s e y =
        let z = subst (λ (q : SetState). IsSwappedTo old new 5 0 q 1 0) e y in
        let n : 1 ≡ 0 = ap (λ (q : NodesState). q.given) z.nodes in omega (arith, n)

lands_where_it_is_not_live : (next : FarState) (r : Reply) → IsLanding order old next r [] → ⊥
lands_where_it_is_not_live next r x = false≢true (sym (live_of 2) ∙ x.live)
