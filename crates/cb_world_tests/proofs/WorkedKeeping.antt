-- Worked examples of seats that keep an order while its rows are still there: those of a batch that is
-- leaving, and those of a committed set.
use Rattle.std.proofs.Common.{◌≡◌, ℕ, zero, suc, ◌<◌, true, false, List, [], ◌∷◌, None, Some, get_or, length, refl, sym, ap, ◌∙◌, subst, lit<, lit≤, arith}
use Rattle.std.proofs.lemmas.Option.{same_Some}
use Rattle.std.specs.FinMap as map
use Rattle.std.specs.List.{slice_index}
use Rattle.std.specs.List.Sorted.{IsStrictlyIncreasing}
use Rattle.cb_gf256.specs.Rows.{HaveLength, row_at}
use Rattle.cb_member.specs.Membership.{Membership, fresh_members, with_crash}
use Rattle.cb_node.specs.NodesState.{empty_nodes}
use Rattle.cb_set.specs.SetState.{SetState, dead_position, parities, set_of}
use Rattle.cb_types.specs.declared.config.Config.{Config}
use Rattle.cb_types.specs.declared.order.DecodeOrder.{DecodeOrder}
use Rattle.cb_types.specs.declared.order.EncodeOrder.{EncodeOrder}
use Rattle.cb_types.specs.declared.order.Kept.TheVariants.{Decode, Encode}
use Rattle.cb_world.specs.declared.shown.Shown.{Shown}
use Rattle.cb_world.specs.Empty.{empty_far, empty_shown}
use Rattle.cb_world.specs.FarSound.{rows_in}
use Rattle.cb_world.specs.FarState.{FarState}
use Rattle.cb_world.specs.Leaving.{LeavingState}
use Rattle.cb_world.specs.Memory.{window}
use Rattle.cb_world.specs.Orders.{AreOrdersKept, IsDecodeKept, IsEncodeKept}
use Rattle.cb_world.specs.RowWords.{row_of}
use Rattle.cb_world.specs.Sets.{SetMap, set_in}
use Rattle.cb_world.specs.SetWord.{IsWordOf}
use Rattle.cb_world.proofs.Laws.{at, node, only_word, row, row_long, rows, with_two_rows}
use Rattle.cb_world_tests.proofs.WorkedPacked.{each_keeps, none_some, seats}

-- two data rows and a parity at four nodes
abbrev config : Config
config = record { k = 2; r = 1; nodes = 4; frames = 1; room = 2; handles = 1; turns = 0 }

abbrev shown : Shown
shown = empty_shown 1 config

-- one number was drawn
abbrev drawn : FarState
drawn = record (empty_far 1 config) {
  counts = record { turns = 1; by_job = []; sets = 1; keys = 10 };
}

-- ---- the batch of one span of one page is leaving, and its parity is not made
abbrev batch : LeavingState
batch = record {
  set = 0;
  pages = 1;
  frames = 0 ∷ [];
  words = [];
  made = false;
  parities = [] ∷ [];
  shards = None ∷ None ∷ [];
}

abbrev leaving : FarState
leaving = record drawn { leaving = Some batch }

abbrev to_encode : EncodeOrder
to_encode = record { set = 0; k = 1; r = 1; rows = rows_in shown 1 (0 ∷ []) }

one_long : (xs : List ℕ) → HaveLength (length xs) (xs ∷ [])
one_long xs zero d below = refl
one_long xs (suc k) d below = absurd (omega (arith, below))

kept_to_encode : IsEncodeKept shown leaving to_encode
kept_to_encode = record {
  fits = record {
    range = record {
      data_least = lit≤ tt;
      data_most = lit≤ tt;
      parities_least = lit≤ tt;
      parities_most = lit≤ tt;
    };
    count = refl;
    lengths = λ k d below. one_long (row_of (window shown.memory 0 512)) k d below;
  };
  drawn = lit< tt;
  code = λ b there same. subst (λ (x : LeavingState). (1 ≡ length x.frames) × (1 ≡ length x.parities))
      (same_Some batch b there) (refl, refl);
  rows = λ b there same. subst (λ (x : LeavingState). to_encode.rows ≡ rows_in shown x.pages x.frames)
      (same_Some batch b there) refl;
}

each_encodes : AreOrdersKept shown leaving (seats (Some (Encode to_encode)))
each_encodes = each_keeps shown leaving (Some (Encode to_encode)) kept_to_encode

-- ---- the set is committed, its two data rows stand at their nodes, and its parity is lost
abbrev members : Membership
members = with_crash (fresh_members 4) (node 1)

abbrev set : SetState
set = set_of 0 1 (at 0 7 ∷ at 3 8 ∷ at 1 9 ∷ []) (dead_position ∷ dead_position ∷ [])

abbrev sets : SetMap
sets = map.insert map.empty 0 (record { set = set; committed = true })

abbrev committed : FarState
committed = record drawn {
  sets = sets;
  nodes = with_two_rows (empty_nodes 4 2);
  members = members;
}

abbrev to_decode : DecodeOrder
to_decode = record {
  set = 0;
  position = 2;
  k = 2;
  r = 1;
  present = 0 ∷ 1 ∷ [];
  rows = row 7 ∷ row 0 ∷ [];
}

in_sets : set_in sets 0 ≡ Some set
in_sets = grind (arith, map.gets)

the_set : (other : SetState) → set_in sets 0 ≡ Some other → set ≡ other
the_set other there = same_Some set other (sym in_sets ∙ there)

both_long : HaveLength (length (row 7)) (row 7 ∷ row 0 ∷ [])
both_long zero d below = refl
both_long (suc zero) d below = row_long 0 ∙ sym (row_long 7)
both_long (suc (suc k)) d below = absurd (omega (arith, below))

-- the rows at hand are those of the set's word
of_word : (other : SetState) → set ≡ other → (word : List (List ℕ))
    → IsWordOf committed.nodes members other word → (i : ℕ) → i < 2
    → row_at (row 7 ∷ row 0 ∷ []) i ≡ row_at word (slice_index (0 ∷ 1 ∷ []) i)
of_word other same word is i below = at_place i below
    ∙ ap (λ (l : List (List ℕ)). row_at l (slice_index (0 ∷ 1 ∷ []) i)) (sym its_rows)
  where
    its_rows : word ≡ rows
    its_rows = only_word (empty_nodes 4 2) members 0 dead_position dead_position (lit≤ tt) refl
        (lit≤ tt) (lit≤ tt) word
        (subst (λ (s : SetState). IsWordOf committed.nodes members s word) (sym same) is)

    at_place : (i : ℕ) → i < 2
        → row_at (row 7 ∷ row 0 ∷ []) i ≡ row_at rows (slice_index (0 ∷ 1 ∷ []) i)
    at_place zero below = refl
    at_place (suc zero) below = refl
    at_place (suc (suc i)) below = absurd (omega (arith, below))

kept_to_decode : IsDecodeKept committed to_decode
kept_to_decode = record {
  fits = record {
    range = record {
      data_least = lit≤ tt;
      data_most = lit≤ tt;
      parities_least = lit≤ tt;
      parities_most = lit≤ tt;
    };
    positions = record { count = refl; ascend = ascend; below = below };
    wanted = lit< tt;
    count = refl;
    lengths = both_long;
  };
  drawn = lit< tt;
  apart = λ b there same. none_some b there;
  code = λ other there. subst (λ (s : SetState). (2 ≡ length s.positions) × (1 ≡ parities s))
      (the_set other there) (refl, refl);
  rows = λ other there whole word is i below. of_word other (the_set other there) word is i below;
}
  where
    ascend : IsStrictlyIncreasing (0 ∷ 1 ∷ [])
    ascend zero below = lit< tt
    ascend (suc i) below = absurd (omega (arith, below))

    below : (i d : ℕ) → i < 2 → get_or (0 ∷ 1 ∷ []) i d < 3
    below zero d first = lit< tt
    below (suc zero) d first = lit< tt
    below (suc (suc i)) d first = absurd (omega (arith, first))

each_decodes : AreOrdersKept shown committed (seats (Some (Decode to_decode)))
each_decodes = each_keeps shown committed (Some (Decode to_decode)) kept_to_decode
