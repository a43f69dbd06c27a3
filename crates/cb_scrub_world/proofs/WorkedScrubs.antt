-- Worked examples: which set comes next, what a set has to be, and what a scrub leaves.
use Rattle.std.proofs.Common.{◌≡◌, ℕ, ◌<◌, ◌≤◌, true, false, length, Option, None, Some, is_some, refl, sym, ap, ◌∙◌, subst, arith}
use Rattle.std.specs.FinMap as map
use Rattle.std.specs.Ordering.{nat_cmp}
use Rattle.cb_member.specs.declared.names.Shard.{Shard}
use Rattle.cb_node.specs.NodesState.{NodesState, has, known_row}
use Rattle.cb_scrub.specs.declared.found.Found.TheVariants.{Clean, One, Many}
use Rattle.cb_scrub.proofs.Laws.{word, one, many, word_but, is_word, no_word, but_no_word, parities, one_word}
use Rattle.cb_scrub.specs.Wrong.{IsWord}
use Rattle.cb_types.specs.declared.handle.SetId.{SetId}
use Rattle.cb_world.specs.FarState.{FarState}
use Rattle.cb_world.specs.Sets.{SetMap, if_committed, set_in}
use Rattle.cb_scrub_world.specs.Next.{Above, IsNextSet, AreNone}
use Rattle.cb_scrub_world.specs.Standing.{RowStands}
use Rattle.cb_scrub_world.specs.Scrub.{AreRight, MakesRight, MayScrub, Skips}

-- ---- which set comes next

above_third : Above (Some (record { n = 3 })) 4
above_third = omega arith

not_above_itself : Above (Some (record { n = 3 })) 3 → ⊥
not_above_itself above = omega (arith, above)

above_none : Above None 0
above_none = tt

-- a world without sets
none_there : (after : Option SetId) → AreNone after map.empty
none_there after id few above = ap if_committed (map.get-empty nat_cmp id)

not_committed : (after : Option SetId) (id : ℕ) → IsNextSet after map.empty id → ⊥
not_committed after id next = absurd (let none : set_in map.empty id ≡ None = ap if_committed (map.get-empty nat_cmp id) in is_none (set_in map.empty id) none next.committed)
  where
    is_none : {X : Type 0} (o : Option X) → o ≡ None → is_some o ≡ true → ⊥
    is_none None e some = absurd cc
    is_none (Some x) e some = absurd cc

-- one that is not above, and one that is passed over
not_above : (sets : SetMap) → IsNextSet (Some (record { n = 3 })) sets 2 → ⊥
not_above sets next = omega (arith, next.above)

passed_over : (sets : SetMap) (id j : ℕ) → j < id → (set_in sets j ≡ None → ⊥) → IsNextSet None sets id → ⊥
passed_over sets id j less there next = there (next.least j tt less)

-- ---- a row that stands
on_no_node : (nodes : NodesState) (shard : Shard) → length nodes.nodes ≤ shard.node.n → RowStands nodes 1 shard → ⊥
on_no_node nodes shard past stands = omega (arith, past, stands.node)

not_there : (nodes : NodesState) (shard : Shard) → has nodes shard.node shard.key ≡ false → RowStands nodes 1 shard → ⊥
not_there nodes shard none stands = absurd (let e : true ≡ false = sym stands.there ∙ none in cc)

too_short : (nodes : NodesState) (shard : Shard) → length (known_row nodes shard.node shard.key) ≡ 1 → RowStands nodes 1 shard → ⊥
too_short nodes shard one_byte stands = omega (arith, one_byte, stands.wide)

-- a row of one page is none of a span of two
too_short_for_two : (nodes : NodesState) (shard : Shard) → length (known_row nodes shard.node shard.key) ≡ 4096 → RowStands nodes 2 shard → ⊥
too_short_for_two nodes shard one_page stands = omega (arith, one_page, stands.wide)

too_many_given : (far : FarState) → far.nodes.given ≡ 4611686018427387904 → MayScrub far → ⊥
too_many_given far given may = omega (arith, given, may.given)

-- ---- the rows afterwards: two data rows and two parities of one byte, of which one is wrong
made_right : MakesRight 2 one (One 1) word
made_right = record {
  right = word_but;
  near = λ p other two w. one_word 2 1 p one word other (parities 0x01 0x05 0xC8 0xC9 (omega arith) (omega arith) (omega arith) (omega arith)) two word_but w;
}

left_wrong : MakesRight 2 one (One 1) one → ⊥
left_wrong is = but_no_word is.right

clean : AreRight 2 word Clean word
clean = (is_word, refl)

clean_but_changed : AreRight 2 one Clean word → ⊥
clean_but_changed is = no_word (subst (IsWord 2) is.1 is_word)

many_stay : AreRight 2 many (Many 0 0 0x04) many
many_stay = refl

-- ---- a set that is skipped
skipped_for_nothing : (after : Option SetId) (far new : FarState) (id : ℕ) → Skips after far id 0 new → ⊥
skipped_for_nothing after far new id skips = omega (arith, skips.some)
