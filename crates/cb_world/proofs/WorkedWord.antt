-- A worked word: three rows that are a code word of two data rows and a parity. They are the word of
-- a set where the rows of the first two stand at their nodes and that of the parity is lost, and its
-- only word.
use Rattle.std.proofs.Common.{◌≡◌, ℕ, zero, suc, true, ◌*◌, ◌^◌, ◌<◌, ◌≤◌, All, List, [], ◌∷◌, Some, length, get_or, replicate, refl, sym, ap, ◌∙◌, subst, arith, length-set, lit<, lit≤}
use Rattle.std.specs.FinMap as map
use Rattle.std.proofs.lemmas.Bool.{false≢true}
use Rattle.std.proofs.lemmas.List.{get_or-replicate, length-replicate}
use Rattle.std.proofs.lemmas.List.Elements.{All-replicate}
use Rattle.std.proofs.lemmas.Option.{none-some, same_Some}
use Rattle.cb_gf256.specs.CodeWord.{IsCodeWord, syndrome}
use Rattle.cb_gf256.specs.Power.{power}
use Rattle.cb_gf256.specs.Product.{◌⊗◌}
use Rattle.cb_gf256.specs.Rows.{HaveLength, HoldBytes}
use Rattle.cb_gf256.specs.Sum.{sum_over}
use Rattle.cb_member.specs.declared.names.NodeId.{NodeId}
use Rattle.cb_member.specs.declared.names.Shard.{Shard}
use Rattle.cb_member.specs.Membership.{Membership, incarnation}
use Rattle.cb_node.specs.NodesState.{NodesState, rows_of_node, with_row, row_under}
use Rattle.cb_node.proofs.Laws.{row_is_put, put_keeps_other_rows}
use Rattle.cb_set.specs.SetState.{PositionState, SetState, set_of}
use Rattle.cb_set.specs.Lost.{is_lost, lost}
use Rattle.cb_set.specs.Nodes.{OnDistinctNodes}
use Rattle.cb_world.specs.SetWord.{AreCurrent, HasRows, IsShaped, IsWordOf}
use Rattle.cb_world.proofs.Surviving.{one_word}

abbrev pub node : ℕ → NodeId
node n = record { n = n }

abbrev pub at : ℕ → ℕ → Shard
at n key = record { node = node n; incarnation = 0; key = key }

-- those of two data positions and a parity
abbrev pub shards : List Shard
shards = at 0 7 ∷ at 3 8 ∷ at 1 9 ∷ []

-- a row of 4,096 bytes n
pub row : ℕ → List ℕ
row n = replicate 4096 n

pub row_long : (n : ℕ) → length (row n) ≡ 4096
unfolding row
row_long n = length-replicate 4096 n

pub row_byte : (n column : ℕ) → column < 4096 → get_or (row n) column 0 ≡ n
unfolding row
row_byte n column below = get_or-replicate 4096 column n 0 below

row_bytes : (n : ℕ) → n < 2 ^ 8 → All (λ (x : ℕ). x < 2 ^ 8) (row n)
unfolding row
row_bytes n below = All-replicate (λ (x : ℕ). x < 2 ^ 8) 4096 n below

-- the bytes of a position add up to 0: 7, 0 and 7
abbrev pub rows : List (List ℕ)
rows = row 7 ∷ row 0 ∷ row 7 ∷ []

lengths : HaveLength (length (row 7)) rows
lengths zero d within = refl
lengths (suc zero) d within = row_long 0 ∙ sym (row_long 7)
lengths (suc (suc zero)) d within = refl
lengths (suc (suc (suc p))) d within = absurd (omega (arith, within))

pub bytes : HoldBytes rows
bytes zero d within = row_bytes 7 (lit< tt)
bytes (suc zero) d within = row_bytes 0 (lit< tt)
bytes (suc (suc zero)) d within = row_bytes 7 (lit< tt)
bytes (suc (suc (suc p))) d within = absurd (omega (arith, within))

adds_up : sum_over 3 (λ p. power 2 (p * 0) ⊗ get_or (7 ∷ 0 ∷ 7 ∷ []) p 0) ≡ 0
unfolding ◌⊗◌ power
adds_up = refl

syndromes : (j column : ℕ) → j < 1 → column < length (row 7) → syndrome j rows column ≡ 0
syndromes j column power_zero within =
    let zero_power : j ≡ 0 = omega (arith, power_zero) in
    let below : column < 4096 = (let n = row_long 7 in omega (arith, within, n)) in
    let first = row_byte 7 column below in
    let second = row_byte 0 column below in
    (λ i. sum_over 3 (λ p. power 2 (p * zero_power i) ⊗ get_or (first i ∷ second i ∷ first i ∷ [])
    p 0))
    ∙ adds_up

pub is_code_word : IsCodeWord 2 1 rows
is_code_word =
    record { count = refl; equal_lengths = lengths; syndromes_zero = syndromes }

-- the first two stand at the nodes of their shards, beside other rows
abbrev pub with_two_rows : NodesState → NodesState
with_two_rows others = with_row (with_row others (node 0) 7 (row 7)) (node 3) 8 (row 0)

module _ (others : NodesState) (m : Membership) (id : ℕ) (a b : PositionState)
    (many : 4 ≤ length others.nodes) (lost_third : is_lost m (at 1 9) ≡ true) where
  abbrev nodes : NodesState
  nodes = with_two_rows others

  abbrev set : SetState
  set = set_of id 1 shards (a ∷ b ∷ [])

  within : 3 < length (with_row others (node 0) 7 (row 7)).nodes
  within = let n = length-set others.nodes 0 (map.insert (rows_of_node others (node 0)) 7 (row 7)) in omega (arith, n, many)

  first_there : row_under nodes (node 0) 7 ≡ Some (row 7)
  first_there =
      put_keeps_other_rows (with_row others (node 0) 7 (row 7)) (node 3) (node 0) 8 7 (row 0) within
      (λ same. let e = same.0 in omega (arith, e))
      ∙ row_is_put others (node 0) 7 (row 7) (omega (arith, many))

  second_there : row_under nodes (node 3) 8 ≡ Some (row 0)
  second_there = row_is_put (with_row others (node 0) 7 (row 7)) (node 3) 8 (row 0) within

  survive : HasRows nodes m shards rows
  survive zero shard e kept = subst (λ (s : Shard). row_under nodes s.node s.key ≡ Some (row 7))
      (same_Some (at 0 7) shard e) first_there
  survive (suc zero) shard e kept =
      subst (λ (s : Shard). row_under nodes s.node s.key ≡ Some (row 0))
      (same_Some (at 3 8) shard e) second_there
  survive (suc (suc zero)) shard e kept =
      absurd (false≢true (sym kept ∙ ap (is_lost m) (sym (same_Some (at 1 9) shard e)) ∙ lost_third))
  survive (suc (suc (suc p))) shard e kept = absurd (none-some shard e)

  pub is_word : IsWordOf nodes m set rows
  is_word = record {
    code = record { is_word = is_code_word; bytes = bytes; wide = row_long 7 };
    survive = survive;
  }

  is_shaped : 4 ≤ length m.nodes → IsShaped m set
  is_shaped members = record {
    range = record {
      data_least = lit≤ tt;
      data_most = lit≤ tt;
      parities_least = lit≤ tt;
      parities_most = lit≤ tt;
    };
    data_first = lit≤ tt;
    pages = lit≤ tt;
    distinct = distinct;
    current = current;
  }
    where
      distinct : OnDistinctNodes shards
      distinct zero zero d before within = absurd (omega (arith, before))
      distinct zero (suc zero) d before within = λ same. omega (arith, same)
      distinct zero (suc (suc zero)) d before within = λ same. omega (arith, same)
      distinct (suc zero) zero d before within = absurd (omega (arith, before))
      distinct (suc zero) (suc zero) d before within = absurd (omega (arith, before))
      distinct (suc zero) (suc (suc zero)) d before within = λ same. omega (arith, same)
      distinct (suc (suc i)) j d before within = absurd (omega (arith, before, within))
      distinct i (suc (suc (suc j))) d before within = absurd (omega (arith, within))

      fresh : (n key : ℕ) (shard : Shard) → Some (at n key) ≡ Some shard → n < 4
          → (shard.node.n < length m.nodes) × (shard.incarnation ≤ incarnation m shard.node)
      fresh n key shard e below =
          let same = same_Some (at n key) shard e in
          let number : n ≡ shard.node.n = ap (λ (s : Shard). s.node.n) same in
          let age : 0 ≡ shard.incarnation = ap (λ (s : Shard). s.incarnation) same in
          (omega (arith, number, below, members), omega (arith, age))

      current : AreCurrent m shards
      current zero shard e = fresh 0 7 shard e (lit< tt)
      current (suc zero) shard e = fresh 3 8 shard e (lit< tt)
      current (suc (suc zero)) shard e = fresh 1 9 shard e (lit< tt)
      current (suc (suc (suc p))) shard e = absurd (none-some shard e)

  -- each word of the set has these rows
  pub only_word : 4 ≤ length m.nodes → length (lost m shards) ≤ 1 → (words : List (List ℕ))
      → IsWordOf nodes m set words → words ≡ rows
  only_word members few words word =
      sym (one_word nodes m set rows words (is_shaped members) few is_word word)
