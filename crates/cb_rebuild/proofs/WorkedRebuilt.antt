-- Worked examples of a row that stands again: the shard that it gets, the row, and the far state then,
-- with what breaks one part of that alone.
use Rattle.std.proofs.Common.{◌≡◌, ℕ, zero, suc, List, [], length, Option, None, Some, get_or, nat_lt, refl, sym, ap, ◌∙◌, subst, arith, lit<, lit≤, inl, inr}
use Rattle.std.specs.FinMap as map
use Rattle.std.proofs.lemmas.Bool.{false≢true}
use Rattle.std.proofs.lemmas.Option.{none-some, same_Some}
use Rattle.cb_member.specs.declared.names.NodeId.{NodeId}
use Rattle.cb_member.specs.declared.names.Shard.{Shard}
use Rattle.cb_gf256.specs.Rows.{row_at}
use Rattle.cb_node.specs.NodesState.{held, with_row, row_under}
use Rattle.cb_set.specs.SetState.{SetState, with_shard}
use Rattle.cb_set.specs.Nodes.{other_shards}
use Rattle.cb_types.specs.declared.reply.Reply.{Reply}
use Rattle.cb_types.specs.declared.reply.Reply.TheVariants as answer
use Rattle.cb_world.specs.Choices.{IsBefore, IsLeastNode, MayPut}
use Rattle.cb_world.specs.Sets.{set_in}
use Rattle.cb_world.specs.FarState.{FarState}
use Rattle.cb_world.proofs.Laws.{set_there, at, node, row, row_byte, rows}
use Rattle.cb_rebuild.specs.RebuildStep.{IsFirstWeak, IsNewShard, IsRebuilt, IsRowOf, KeepWords, RebuildStep, far_given, with_put, with_shard_named}
use Rattle.cb_rebuild.proofs.WorkedWord.{is_word, members, nodes, one_row, set}
use Rattle.cb_rebuild.proofs.WorkedWeak.{far, one, only_of, weak_is}

-- the world with the set of the worked word: its parity at position 2 is lost
abbrev pub old : FarState
old = record (far (one 0 set) 2) { nodes = nodes }

-- the shard of the parity's row: on node 4, since nodes 0 and 3 are named, and 1 and 2 are down
abbrev shard : Shard
shard = at 4 10

held_none : held nodes (node 4) ≡ 0
held_none = grind (arith, map.gets)

held_none_after : held nodes (node 5) ≡ 0
held_none_after = grind (arith, map.gets)

abbrev others : List Shard
others = other_shards set.shards 2

may_put : MayPut nodes members others (node 4)
may_put = record {
  within = lit< tt;
  room = ap (λ (n : ℕ). nat_lt n 2) held_none;
  spare = refl;
}

before : (n : ℕ) → MayPut nodes members others (node n) → IsBefore nodes (node 4) (node n)
before zero may = absurd (false≢true (sym may.spare))
before (suc zero) may = absurd (false≢true may.room)
before (suc (suc zero)) may = absurd (false≢true may.room)
before (suc (suc (suc zero))) may = absurd (false≢true (sym may.spare))
before (suc (suc (suc (suc zero)))) may = inr (refl, lit≤ tt)
before (suc (suc (suc (suc (suc zero))))) may = inr (held_none ∙ sym held_none_after, lit≤ tt)
before (suc (suc (suc (suc (suc (suc n)))))) may =
    let l = may.within in absurd (omega (arith, l))

new_shard : IsNewShard old set 2 shard
new_shard = record {
  node = record { may = may_put; least = λ other may. before other.n may };
  incarnation = refl;
  key = refl;
}

not_a_greater_node : IsNewShard old set 2 (at 5 10) → ⊥
not_a_greater_node x = go (x.node.least (node 4) may_put)
  where
    go : IsBefore nodes (node 5) (node 4) → ⊥
    go (inl l) = absurd (omega (arith, l, held_none, held_none_after))
    go (inr e) = let l = e.1 in absurd (omega (arith, l))

-- the node of another position has room, and is not taken
not_a_named_node : IsNewShard old set 2 (at 3 10) → ⊥
not_a_named_node x = false≢true (sym x.node.may.spare)

not_of_another_incarnation : IsNewShard old set 2 (record shard { incarnation = 1 }) → ⊥
not_of_another_incarnation x = let e : 1 ≡ 0 = x.incarnation in omega (arith, e)

not_under_a_drawn_key : IsNewShard old set 2 (at 4 9) → ⊥
not_under_a_drawn_key x = let e : 9 ≡ 10 = x.key in omega (arith, e)

-- ---- the row
row_of_parity : IsRowOf old set 2 (row 7)
row_of_parity = λ others word. sym (one_row others word)

-- the row of position 1 is another one
not_another_row : IsRowOf old set 2 (row 0) → ⊥
not_another_row x =
    let e = ap (λ (l : List ℕ). get_or l 0 0) (x rows is_word) in
    let a = row_byte 0 0 (lit< tt) in let b = row_byte 7 0 (lit< tt) in omega (arith, e, a, b)

-- ---- the far state
given_two : (far_given old 2).nodes.given ≡ 2
given_two = refl

given_alone : (far_given old 2).nodes.nodes ≡ nodes.nodes
given_alone = refl

abbrev put : FarState
put = with_put old set shard (row 7)

put_gives_two : put.nodes.given ≡ 2
put_gives_two = refl

put_there : row_under put.nodes (node 4) 10 ≡ Some (row 7)
put_there = grind (arith, map.gets)

put_keeps_the_sets : put.sets ≡ old.sets
put_keeps_the_sets = refl

abbrev after : FarState
after = with_shard_named put 0 set 2 shard

named_there : set_in after.sets 0 ≡ Some (with_shard set 2 shard)
named_there = set_there old.sets 0 (with_shard set 2 shard)

named_draws_a_key : after.counts.keys ≡ 11
named_draws_a_key = refl

-- ---- the step
abbrev reply : Reply
reply = answer.Rebuilt (record { n = 0 }) 2 (node 4)

rebuilt : IsRebuilt old 0 set after reply
rebuilt = record {
  position = 2;
  shard = shard;
  row = row 7;
  lost = refl;
  named = new_shard;
  some_word = (rows, is_word);
  of_word = row_of_parity;
  state = refl;
  reply = refl;
}

-- a set with a row of no bytes has no word: no row of it stands again
abbrev blank : FarState
blank = record old { nodes = with_row nodes (node 0) 7 [] }

blank_row : row_under blank.nodes (node 0) 7 ≡ Some []
blank_row = grind (arith, map.gets)

not_without_a_word : (new : FarState) (r : Reply) → IsRebuilt blank 0 set new r → ⊥
not_without_a_word new r x =
    let word = x.some_word in
    let none : [] ≡ row_at word.0 0 = same_Some [] (row_at word.0 0)
    (sym blank_row ∙ word.1.survive 0 (at 0 7) refl refl) in
    let e : 0 ≡ length (row_at word.0 0) = ap (λ (l : List ℕ). length l) none in
    let wide = word.1.code.wide in omega (arith, e, wide)

-- the node and the position in a reply
abbrev node_in : Reply → ℕ
node_in (answer.Rebuilt _ _ n) = n.n
node_in _ = 0

abbrev position_in : Reply → ℕ
position_in (answer.Rebuilt _ p _) = p
position_in _ = 0

tells_another_position : IsRebuilt old 0 set after (answer.Rebuilt (record { n = 0 }) 1 (node 4)) → ⊥
tells_another_position x = let e : 1 ≡ x.position = ap position_in x.reply in
    let l = same_Some 2 x.position x.lost in omega (arith, e, l)

tells_a_greater_node : IsRebuilt old 0 set after (answer.Rebuilt (record { n = 0 }) 2 (node 5)) → ⊥
tells_a_greater_node x = let e : 5 ≡ x.shard.node.n = ap node_in x.reply in
    go (x.shard.node) e (subst (λ (p : ℕ). IsLeastNode nodes members (other_shards set.shards p) x.shard.node)
    (sym (same_Some 2 x.position x.lost)) x.named.node)
  where
    go : (n : NodeId) → 5 ≡ n.n → IsLeastNode nodes members others n → ⊥
    go n e least = not_a_greater_node (record {
      node = subst (IsLeastNode nodes members others) (ap node (sym e)) least;
      incarnation = refl;
      key = refl;
    })

gives_no_row : IsRebuilt old 0 set (record after { nodes = record after.nodes { given = 0 } }) reply
    → ⊥
gives_no_row x = let e : 0 ≡ 2 = ap (λ (f : FarState). f.nodes.given) x.state in omega (arith, e)

draws_no_key : IsRebuilt old 0 set (record after { counts = old.counts }) reply → ⊥
draws_no_key x = let e : 10 ≡ 11 = ap (λ (f : FarState). f.counts.keys) x.state in omega (arith, e)

-- the key of the parity's shard
abbrev parity_key : Option SetState → ℕ
parity_key None = 0
parity_key (Some s) = (get_or s.shards 2 (at 0 0)).key

leaves_the_name : IsRebuilt old 0 set (record after { sets = old.sets }) reply → ⊥
leaves_the_name x = let e : 9 ≡ x.shard.key =
    ap (λ (o : Option SetState). parity_key o) (sym (only_of set)
    ∙ ap (λ (f : FarState). set_in f.sets 0) x.state ∙ set_there old.sets 0 (with_shard set x.position x.shard))
    ∙ ap (λ (p : ℕ). parity_key (Some (with_shard set p x.shard))) (sym (same_Some 2 x.position x.lost)) in
    let k : x.shard.key ≡ 10 = x.named.key in omega (arith, e, k)

first : IsFirstWeak old 0 set
first = record {
  there = only_of set;
  weak = weak_is;
  least = λ j c l. absurd (omega (arith, l));
}

-- no set was looked at before the first one: the survey stays
step : RebuildStep old after reply
step = inr (record { id = 0; set = set; first = first; restores = inr rebuilt })

-- ---- words
-- a set that is gone from the sets has no word there
loses_the_set : KeepWords old (record old { sets = map.empty }) → ⊥
loses_the_set x = let y = x 0 set rows (only_of set) is_word in none-some y.0 (sym gone ∙ y.1)
  where
    gone : set_in map.empty 0 ≡ None
    gone = grind (arith, map.gets)

-- where nothing changes every word stays
keeps_words : KeepWords old old
keeps_words = λ id c rows there word. (c, there, word)
