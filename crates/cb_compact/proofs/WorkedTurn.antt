-- A worked turn that joins two sets: the pair begins, both of its steps are taken, and it is one
-- set.
use Rattle.std.proofs.Common.{◌≡◌, ℕ, zero, suc, ◌<◌, false, List, [], ◌∷◌, refl, sym, ap, ◌∙◌, arith, inr, lit<, lit≤}
use Rattle.std.proofs.lemmas.Option.{same_Some}
use Rattle.std.specs.FinMap as map
use Rattle.cb_gf256.specs.InRange.{IsInRange}
use Rattle.cb_gf256.specs.Rows.{row_at}
use Rattle.cb_node.specs.NodesState.{held}
use Rattle.cb_types.specs.declared.reply.Reply.TheVariants as answer
use Rattle.cb_world.specs.FarState.{FarState}
use Rattle.cb_world.specs.Joining.{JoiningState}
use Rattle.cb_world.specs.JoinSteps.{with_step}
use Rattle.cb_world.proofs.Laws.{node, row, rows, same_data}
use Rattle.cb_compact.specs.MergeStep.{MergeStep, with_merged}
use Rattle.cb_compact.specs.CompactStep.{AreStepped, CompactStep, GoesThrough}
use Rattle.cb_compact.specs.PairStep.{set_numbered}
use Rattle.cb_compact.specs.PatchStep.{IsMergedRow, IsNext, IsOneStep, PatchStep, is_undone, shard_beside, with_stepped}
use Rattle.cb_compact.proofs.WorkedCommit.{is_merged}
use Rattle.cb_compact.proofs.WorkedGround.{first_of, ground, has_row, homes_in, merged_word, second_of}
use Rattle.cb_compact.proofs.WorkedMerge.{all_done}
use Rattle.cb_compact.proofs.WorkedPair.{begun, on_node, set_a, set_b}
use Rattle.cb_compact.proofs.WorkedPatch.{done_at, one_step}
use Rattle.cb_compact.proofs.WorkedTurns.{fresh, idle, paired}

-- ---- the first step: b's row is copied beside a's of position 1
abbrev once : JoiningState
once = with_step begun 1 (shard_beside ground (on_node 1))

abbrev first_put : FarState
first_put = with_stepped ground begun 1 (shard_beside ground (on_node 1)) (row 0)

first_step : PatchStep ground first_put (answer.Stepped 1)
first_step = inr (inr (record {
  pair = begun;
  a = set_a;
  b = set_b;
  fresh = fresh;
  takes = inr (inr one_step);
}))

-- ---- the second one: the parity of the merged word
range : IsInRange 2 1
range = record {
  data_least = lit≤ tt;
  data_most = lit≤ tt;
  parities_least = lit≤ tt;
  parities_most = lit≤ tt;
}

parity : IsMergedRow first_put once set_a set_b 2 (row 7)
parity wa wb m xa xb merged =
    ap (λ (w : List (List ℕ)). row_at w 2) (same_data 2 1 rows m range merged_word.word.is_word
    merged_word.word.bytes merged.word.is_word merged.word.bytes of_both)
  where
    of_a : row_at wa 0 ≡ row 7
    of_a = same_Some (row_at wa 0) (row 7)
        (sym (xa.survive 0 (on_node 0) refl refl) ∙ has_row 0 7)

    of_b : row_at wb 1 ≡ row 0
    of_b = same_Some (row_at wb 1) (row 0)
        (sym (xb.survive 1 (on_node 4) refl refl) ∙ has_row 4 0)

    of_both : (i : ℕ) → i < 2 → row_at rows i ≡ row_at m i
    of_both zero l = sym (merged.chosen 0 (lit< tt) ∙ of_a)
    of_both (suc zero) l = sym (merged.chosen 1 (lit< tt) ∙ of_b)
    of_both (suc (suc i)) l = absurd (omega (arith, l))

parity_is_next : IsNext once 2 2
parity_is_next = record { within = omega arith; undone = refl; least = none_before }
  where
    none_before : (q : ℕ) → q < 2 → is_undone once 2 q ≡ false
    none_before zero l = refl
    none_before (suc zero) l = refl
    none_before (suc (suc q)) l = absurd (omega (arith, l))

abbrev second_put : FarState
second_put = with_stepped first_put once 2 (shard_beside first_put (on_node 2)) (row 7)

holds_one : held first_put.nodes (node 2) ≡ 1
holds_one = grind (arith, map.gets)

parity_step : IsOneStep first_put once set_a set_b second_put (answer.Stepped 2)
parity_step = record {
  position = 2;
  next = parity_is_next;
  old = on_node 2;
  at = refl;
  room = let h = holds_one in omega (arith, h);
  row = row 7;
  merged = parity;
  reply = refl;
  state = refl;
}

second_step : PatchStep first_put second_put (answer.Stepped 2)
second_step = inr (inr (record {
  pair = once;
  a = set_a;
  b = set_b;
  fresh = record {
    was = refl;
    a_stands = record { there = first_of set_a set_b; same = refl; whole = refl };
    b_stands = record { there = second_of set_a set_b; same = refl; whole = refl };
  };
  takes = inr (inr parity_step);
}))

both_taken : AreStepped ground (1 ∷ 2 ∷ []) second_put
both_taken = (first_put, first_step, (second_put, second_step, refl))

-- ---- the commit
abbrev one_set : FarState
one_set = with_merged second_put all_done set_a set_b (homes_in 2 2)

merge : MergeStep second_put one_set (answer.Merged (set_numbered 2) 1)
merge = inr (inr (record {
  pair = all_done;
  a = set_a;
  b = set_b;
  fresh = record {
    was = refl;
    a_stands = record { there = first_of set_a set_b; same = refl; whole = refl };
    b_stands = record { there = second_of set_a set_b; same = refl; whole = refl };
  };
  merges = inr (record { done = done_at; homes = is_merged.homes; reply = refl; state = refl });
}))

goes : GoesThrough idle one_set (answer.Merged (set_numbered 2) 1)
goes = record {
  a = set_numbered 0;
  b = set_numbered 1;
  begun = ground;
  paired = inr (inr paired);
  done = 1 ∷ 2 ∷ [];
  stepped = second_put;
  steps = both_taken;
  ends = inr (record { set = set_numbered 2; moved = 1; merged = merge; reply = refl });
}

whole_turn : CompactStep idle one_set (answer.Merged (set_numbered 2) 1)
whole_turn = inr (inr goes)
