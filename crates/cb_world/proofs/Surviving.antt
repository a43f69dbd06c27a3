-- The positions of the shards that are not lost, and that their rows fix one word.
use Rattle.std.proofs.Common.{◌≡◌, ℕ, ◌+◌, ◌<◌, ◌≤◌, List, length, take, get_or, Some, sym, ◌∙◌, subst, arith}
use Rattle.std.proofs.lemmas.List.{length-take, length-take-le, get_or-take, get_or_default}
use Rattle.std.proofs.lemmas.Option.{slice_get_within}
use Rattle.cb_gf256.specs.Rows.{row_at}
use Rattle.cb_gf256.specs.Positions.{ArePositions}
use Rattle.cb_gf256.proofs.PublicLaws.{agreeing_words_are_equal}
use Rattle.cb_member.specs.declared.names.Shard.{Shard}
use Rattle.cb_member.specs.Membership.{Membership}
use Rattle.cb_node.specs.NodesState.{NodesState}
use Rattle.cb_set.specs.SetState.{SetState}
use Rattle.cb_set.specs.Lost.{lost}
use Rattle.cb_world.specs.SetWord.{IsWordOf, IsShaped}
use Rattle.cb_set.specs.SetState.{parities}
use Rattle.cb_set.specs.Surviving.{surviving}
use Rattle.cb_set.proofs.Laws.{SurvivesFirst, lost_and_surviving, survives, surviving_ascend}

-- the k least positions whose shards survive
pub are_positions : (m : Membership) (shards : List Shard) (k n : ℕ) → length shards ≡ n
    → k + length (lost m shards) ≤ n → ArePositions n k (take k (surviving m shards))
are_positions m shards k n count few =
    let enough : k ≤ length (surviving m shards) =
    omega (arith, lost_and_surviving m shards, count, few) in
    let taken : length (take k (surviving m shards)) ≡ k =
    length-take-le k (surviving m shards) enough in
    record {
      count = taken;
      ascend = λ i l. let a =
          get_or-take k (surviving m shards) i 0 (omega (arith, l, taken)) in let b =
          get_or-take k (surviving m shards) (i + 1) 0 (omega (arith, l, taken)) in
          let c = surviving_ascend m 0 shards i (omega (arith, l, taken, enough)) in
          omega (arith, a, b, c);
      below = λ i d l. let s = survives m 0 shards i (omega (arith, l, taken, enough)) in
          let a = get_or_default (take k (surviving m shards)) i d 0 l in let b =
          get_or-take k (surviving m shards) i 0 (omega (arith, l, taken)) in
          let w = slice_get_within shards s.at s.shard s.there in
          omega (arith, a, b, s.place, w, count);
    }

-- a position among these has a shard that survives
pub taken_survives : (m : Membership) (shards : List Shard) (k i : ℕ)
    → i < length (take k (surviving m shards))
    → SurvivesFirst m 0 shards (get_or (take k (surviving m shards)) i 0)
taken_survives m shards k i l =
    subst (SurvivesFirst m 0 shards)
    (sym (get_or-take k (surviving m shards) i 0 (fewer m shards k i l)))
    (survives m 0 shards i (longer m shards k i l))
  where
    fewer : (m : Membership) (shards : List Shard) (k i : ℕ)
        → i < length (take k (surviving m shards)) → i < k
    fewer m shards k i l = omega (arith, l, length-take k (surviving m shards))

    longer : (m : Membership) (shards : List Shard) (k i : ℕ)
        → i < length (take k (surviving m shards)) → i < length (surviving m shards)
    longer m shards k i l = omega (arith, l, length-take k (surviving m shards))

-- the data positions and the parities are all positions
pub counted : (m : Membership) (set : SetState) → IsShaped m set
    → length set.positions + parities set ≡ length set.shards
counted m set shaped = let a = shaped.data_first in omega (arith, a)

some_same : (a b : List ℕ) → Some a ≡ Some b → a ≡ b
some_same a b e = cc

-- Where at most r shards are lost, the set has one word
pub one_word : (nodes : NodesState) (m : Membership) (set : SetState) (a b : List (List ℕ))
    → IsShaped m set → length (lost m set.shards) ≤ parities set
    → IsWordOf nodes m set a → IsWordOf nodes m set b → a ≡ b
one_word nodes m set a b shaped few one other =
    let k = length set.positions in let r = parities set in
    let all = counted m set shaped in
    let range = shaped.range in
    agreeing_words_are_equal k r a b (take k (surviving m set.shards)) (omega (
      arith,
      range.data_most,
      range.parities_most,
    )) (omega (arith, range.data_least))
    (are_positions m set.shards k (k + r) (omega (arith, all)) (omega (arith, all, few)))
    one.code.is_word one.code.bytes other.code.is_word other.code.bytes
    (λ i d l. let s = taken_survives m set.shards k i l in
    let q : get_or (take k (surviving m set.shards)) i d ≡ s.at =
    get_or_default (take k (surviving m set.shards)) i d 0 l ∙ s.place ∙ omega arith in
    subst (λ p.
    row_at a p ≡ row_at b p) (sym q)
    (some_same (row_at a s.at) (row_at b s.at) (sym (one.survive s.at s.shard s.there s.kept)
    ∙ other.survive s.at s.shard s.there s.kept)))
