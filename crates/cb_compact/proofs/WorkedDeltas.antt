-- Worked examples of how the row of a step is put: a value that meets each definition, and for each
-- of its parts one that breaks that part alone.
use Rattle.std.proofs.Common.{◌≡◌, ℕ, zero, suc, ◌*◌, ◌<◌, ◌≤◌, List, [], ◌∷◌, Some, get_or, length, refl, sym, ap, ◌∙◌, subst, arith, lit<, lit≤}
use Rattle.std.specs.List.{slice_get}
use Rattle.std.proofs.lemmas.Option.{none-some, same_Some}
use Rattle.cb_member.specs.declared.names.Shard.{Shard}
use Rattle.cb_node.specs.NodesState.{NodesState, held, row_under, with_row}
use Rattle.cb_node.specs.declared.nodes.PutAnswer.TheVariants.{Full, Stored}
use Rattle.cb_node.proofs.Laws.{row_is_put}
use Rattle.cb_set.specs.SetState.{SetState}
use Rattle.cb_world.specs.declared.shown.Shown.{Shown}
use Rattle.cb_world.specs.FarState.{FarState}
use Rattle.cb_world.specs.Fetched.{StandsAt}
use Rattle.cb_world.specs.Joining.{JoiningState}
use Rattle.cb_world.specs.Stored.{AreThere}
use Rattle.cb_world.proofs.Laws.{node, row, row_byte, rows}
use Rattle.cb_compact.specs.Deltas.{CanPatch, HaveAllRows, IsOfCode, IsReadyToPut, NoneNames, PutsMerged, StandTogether}
use Rattle.cb_compact.specs.PatchStep.{shard_beside}
use Rattle.cb_compact.proofs.WorkedGround.{all_up, far, ground, has_row, holds_one, merged_word, two, word_a, word_b}
use Rattle.cb_compact.proofs.WorkedPair.{begun, not_the_parity_yet, on_node, set_a, set_b}
use Rattle.cb_compact.proofs.WorkedPatch.{row_of_b}
use Rattle.cb_compact.proofs.WorkedTurns.{not_fresh, put}

rows_differ : row 7 ≡ row 0 → ⊥
rows_differ same =
    let e = ap (λ (l : List ℕ). get_or l 0 0) same in let a = row_byte 7 0 (lit< tt) in
    let b = row_byte 0 0 (lit< tt) in omega (arith, e, a, b)

one_shard : (p : ℕ) (c d : Shard) → slice_get (c ∷ []) p ≡ Some d → c ≡ d
one_shard zero c d e = same_Some c d e
one_shard (suc p) c d e = absurd (none-some d e)

-- ---- shards that do not name a row: another node's, or under another key
not_of_the_node : NoneNames (on_node 0 ∷ []) (node 1) 0
not_of_the_node p shard at names =
    let e : 0 ≡ shard.node.n = ap (λ (s : Shard). s.node.n) (one_shard p (on_node 0) shard at) in
    let f : shard.node.n ≡ 1 = names.0 in omega (arith, e, f)

not_of_the_key : NoneNames (on_node 0 ∷ []) (node 0) 6
not_of_the_key p shard at names =
    let e : 0 ≡ shard.key = ap (λ (s : Shard). s.key) (one_shard p (on_node 0) shard at) in
    let f : shard.key ≡ 6 = names.1 in omega (arith, e, f)

one_names_it : NoneNames (on_node 0 ∷ on_node 1 ∷ []) (node 1) 1 → ⊥
one_names_it x = x 1 (on_node 1) refl (refl, refl)

-- ---- the rows of the sets' words
a_rows : HaveAllRows ground.nodes begun.shards_a rows
a_rows zero shard e = subst (λ (s : Shard). row_under ground.nodes s.node s.key ≡ Some (row 7))
    (same_Some (on_node 0) shard e) (has_row 0 7)
a_rows (suc zero) shard e = subst (λ (s : Shard). row_under ground.nodes s.node s.key
    ≡ Some (row 0)) (same_Some (on_node 1) shard e) (has_row 1 0)
a_rows (suc (suc zero)) shard e = subst (λ (s : Shard). row_under ground.nodes s.node s.key
    ≡ Some (row 7)) (same_Some (on_node 2) shard e) (has_row 2 7)
a_rows (suc (suc (suc p))) shard e = absurd (none-some shard e)

b_rows : HaveAllRows ground.nodes begun.shards_b rows
b_rows zero shard e = subst (λ (s : Shard). row_under ground.nodes s.node s.key ≡ Some (row 7))
    (same_Some (on_node 3) shard e) (has_row 3 7)
b_rows (suc zero) shard e = subst (λ (s : Shard). row_under ground.nodes s.node s.key
    ≡ Some (row 0)) (same_Some (on_node 4) shard e) (has_row 4 0)
b_rows (suc (suc zero)) shard e = subst (λ (s : Shard). row_under ground.nodes s.node s.key
    ≡ Some (row 7)) (same_Some (on_node 5) shard e) (has_row 5 7)
b_rows (suc (suc (suc p))) shard e = absurd (none-some shard e)

abbrev others : List (List ℕ)
others = row 0 ∷ row 0 ∷ row 7 ∷ []

not_other_rows : HaveAllRows ground.nodes begun.shards_a others → ⊥
not_other_rows x = rows_differ (same_Some (row 7) (row 0)
    (sym (has_row 0 7) ∙ x 0 (on_node 0) refl))

together : StandTogether ground.nodes begun 1 2 1 rows rows
together = record {
  a_word = word_a.code;
  b_word = word_b.code;
  a_rows = a_rows;
  b_rows = b_rows;
}

-- a row too many, for a or for b
abbrev longer : List (List ℕ)
longer = row 7 ∷ row 0 ∷ row 7 ∷ row 0 ∷ []

no_word_of_a : StandTogether ground.nodes begun 1 2 1 longer rows → ⊥
no_word_of_a x = let e : 4 ≡ 3 = x.a_word.is_word.count in omega (arith, e)

no_word_of_b : StandTogether ground.nodes begun 1 2 1 rows longer → ⊥
no_word_of_b x = let e : 4 ≡ 3 = x.b_word.is_word.count in omega (arith, e)

not_the_rows_of_a : StandTogether ground.nodes begun 1 2 1 others rows → ⊥
not_the_rows_of_a x = not_other_rows x.a_rows

not_the_rows_of_b : StandTogether ground.nodes begun 1 2 1 rows others → ⊥
not_the_rows_of_b x = rows_differ (same_Some (row 7) (row 0)
    (sym (has_row 3 7) ∙ x.b_rows 0 (on_node 3) refl))

-- ---- two sets of two data positions and one parity
a_there : AreThere ground.nodes begun.shards_a
a_there zero shard e = subst (λ (s : Shard). s.node.n < 6) (same_Some (on_node 0) shard e) (lit< tt)
a_there (suc zero) shard e =
    subst (λ (s : Shard). s.node.n < 6) (same_Some (on_node 1) shard e) (lit< tt)
a_there (suc (suc zero)) shard e =
    subst (λ (s : Shard). s.node.n < 6) (same_Some (on_node 2) shard e) (lit< tt)
a_there (suc (suc (suc p))) shard e = absurd (none-some shard e)

b_there : AreThere ground.nodes begun.shards_b
b_there zero shard e = subst (λ (s : Shard). s.node.n < 6) (same_Some (on_node 3) shard e) (lit< tt)
b_there (suc zero) shard e =
    subst (λ (s : Shard). s.node.n < 6) (same_Some (on_node 4) shard e) (lit< tt)
b_there (suc (suc zero)) shard e =
    subst (λ (s : Shard). s.node.n < 6) (same_Some (on_node 5) shard e) (lit< tt)
b_there (suc (suc (suc p))) shard e = absurd (none-some shard e)

of_code : IsOfCode ground.nodes begun 2 1
of_code = record {
  range = record {
    data_least = lit≤ tt;
    data_most = lit≤ tt;
    parities_least = lit≤ tt;
    parities_most = lit≤ tt;
  };
  taken = (lit< tt, refl, tt);
  a_count = refl;
  b_count = refl;
  a_nodes = a_there;
  b_nodes = b_there;
}

not_without_parities : IsOfCode ground.nodes begun 3 0 → ⊥
not_without_parities x = let l : 1 ≤ 0 = x.range.parities_least in omega (arith, l)

no_parity_is_taken : IsOfCode ground.nodes (record begun { taken = 2 ∷ [] }) 2 1 → ⊥
no_parity_is_taken x = let l : 2 < 2 = x.taken.0 in omega (arith, l)

not_fewer_of_a : IsOfCode ground.nodes (record begun { shards_a = [] }) 2 1 → ⊥
not_fewer_of_a x = let e : 0 ≡ 3 = x.a_count in omega (arith, e)

not_fewer_of_b : IsOfCode ground.nodes (record begun { shards_b = [] }) 2 1 → ⊥
not_fewer_of_b x = let e : 0 ≡ 3 = x.b_count in omega (arith, e)

abbrev on_none : List Shard
on_none = on_node 6 ∷ on_node 1 ∷ on_node 2 ∷ []

no_such_node_of_a : IsOfCode ground.nodes (record begun { shards_a = on_none }) 2 1 → ⊥
no_such_node_of_a x = let l : 6 < 6 = x.a_nodes 0 (on_node 6) refl in omega (arith, l)

no_such_node_of_b : IsOfCode ground.nodes (record begun { shards_b = on_none }) 2 1 → ⊥
no_such_node_of_b x = let l : 6 < 6 = x.b_nodes 0 (on_node 6) refl in omega (arith, l)

-- ---- a row to which the deltas of b's position can be added: a's parity
seven_wide : length (row 7) ≡ 4096
seven_wide = word_a.code.wide

zero_wide : length (row 0) ≡ 4096
zero_wide = word_a.code.is_word.equal_lengths 1 [] (lit< tt) ∙ seven_wide

abbrev patch : NodesState → List (List ℕ) → List (List ℕ) → List ℕ → Type 0
patch nodes wa wb put = CanPatch nodes (node 2) 2 begun.shards_a begun.shards_b (1 ∷ []) wa wb put

can_patch : patch ground.nodes rows rows (row 7)
can_patch = record {
  pages = 1;
  target = has_row 2 7;
  wide = seven_wide;
  a_rows = in_a;
  b_rows = in_b;
}
  where
    in_a : (i : ℕ) → i < 1 → StandsAt 1 ground.nodes begun.shards_a rows (get_or (1 ∷ []) i 0)
    in_a zero l = record {
      shard = on_node 1;
      at = refl;
      node = lit< tt;
      row = has_row 1 0;
      wide = zero_wide;
    }
    in_a (suc i) l = absurd (omega (arith, l))

    in_b : (i : ℕ) → i < 1 → StandsAt 1 ground.nodes begun.shards_b rows (get_or (1 ∷ []) i 0)
    in_b zero l = record {
      shard = on_node 4;
      at = refl;
      node = lit< tt;
      row = has_row 4 0;
      wide = zero_wide;
    }
    in_b (suc i) l = absurd (omega (arith, l))

not_another_target : patch ground.nodes rows rows (row 0) → ⊥
not_another_target x = rows_differ (same_Some (row 7) (row 0) (sym (has_row 2 7) ∙ x.target))

not_a_short_one : (nodes : NodesState) → patch nodes rows rows [] → ⊥
not_a_short_one nodes x =
    let e : 0 ≡ 4096 * x.pages = x.wide in let w = (x.a_rows 0 (lit< tt)).wide in
    let z = zero_wide in omega (arith, e, w, z)

-- where the word has another row at position 1
abbrev sevens : List (List ℕ)
sevens = row 7 ∷ row 7 ∷ row 7 ∷ []

not_another_of_a : patch ground.nodes sevens rows (row 7) → ⊥
not_another_of_a x =
    let y = x.a_rows 0 (lit< tt) in
    let there = subst (λ (s : Shard). row_under ground.nodes s.node s.key ≡ Some (row 7))
    (same_Some y.shard (on_node 1) (sym y.at)) y.row in
    rows_differ (same_Some (row 7) (row 0) (sym there ∙ has_row 1 0))

not_another_of_b : patch ground.nodes rows sevens (row 7) → ⊥
not_another_of_b x =
    let y = x.b_rows 0 (lit< tt) in
    let there = subst (λ (s : Shard). row_under ground.nodes s.node s.key ≡ Some (row 7))
    (same_Some y.shard (on_node 4) (sym y.at)) y.row in
    rows_differ (same_Some (row 7) (row 0) (sym there ∙ has_row 4 0))

-- ---- what a put leaves
abbrev beside : Shard
beside = shard_beside ground (on_node 1)

is_put : PutsMerged ground begun set_a set_b 1 beside Stored
    (with_row ground.nodes (node 1) 6 (row 0))
is_put = (let h = holds_one 2 in omega (arith, h), row 0, row_of_b, refl)

no_other_is_put : PutsMerged ground begun set_a set_b 1 beside Stored
    (with_row ground.nodes (node 1) 6 (row 7)) → ⊥
no_other_is_put x =
    let same : row 7 ≡ x.1 = same_Some (row 7) x.1
    (sym (row_is_put ground.nodes (node 1) 6 (row 7) (lit< tt))
    ∙ ap (λ (n : NodesState). row_under n (node 1) 6) x.3
    ∙ row_is_put ground.nodes (node 1) 6 x.1 (lit< tt)) in
    rows_differ (same ∙ x.2 rows rows rows word_a word_b merged_word)

abbrev full : FarState
full = far (two set_a set_b) all_up 1 (Some begun)

is_full : PutsMerged full begun set_a set_b 1 beside (Full 1) full.nodes
is_full = (holds_one 1, refl)

none_is_put_where_it_is : (new : NodesState) → PutsMerged full begun set_a set_b 1 beside Stored new
    → ⊥
none_is_put_where_it_is new x = let l : held full.nodes (node 1) < 1 = x.0 in
    let h = holds_one 1 in omega (arith, l, h)

not_full_where_room_is : PutsMerged ground begun set_a set_b 1 beside (Full 1) ground.nodes → ⊥
not_full_where_room_is x = let e : held ground.nodes (node 1) ≡ 2 = x.0 in let h = holds_one 2 in
    omega (arith, e, h)

full_puts_none : PutsMerged full begun set_a set_b 1 beside (Full 1)
    (record full.nodes { given = 1 }) → ⊥
full_puts_none x = let e : 1 ≡ 0 = ap (λ (n : NodesState). n.given) x.1 in omega (arith, e)

-- ---- the shard of the next step alone is ready
not_of_a_later_position : (s : Shown) (shard : Shard)
    → IsReadyToPut s ground begun set_a set_b 2 shard → ⊥
not_of_a_later_position s shard x = not_the_parity_yet x.next

not_beside_another : (s : Shown)
    → IsReadyToPut s ground begun set_a set_b 1 (shard_beside ground (on_node 0)) → ⊥
not_beside_another s x =
    let old = same_Some x.old (on_node 1) (sym x.at) in
    let e : 0 ≡ x.old.node.n = ap (λ (h : Shard). h.node.n) x.beside in
    let f : x.old.node.n ≡ 1 = ap (λ (h : Shard). h.node.n) old in omega (arith, e, f)

not_under_another_key : (s : Shown) → IsReadyToPut s ground begun set_a set_b 1 (on_node 1) → ⊥
not_under_another_key s x = let e : 1 ≡ 6 = ap (λ (h : Shard). h.key) x.beside in omega (arith, e)

not_of_a_stale_pair : (s : Shown) (p : JoiningState) (a b : SetState) (shard : Shard)
    → IsReadyToPut s put p a b 2 shard → ⊥
not_of_a_stale_pair s p a b shard x = not_fresh p a b x.fresh
