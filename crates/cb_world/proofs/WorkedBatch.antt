-- Worked examples of a batch that is leaving, and of the word that is noted for one of its objects:
-- what meets each definition, and for each of its parts what breaks that part alone.
use Rattle.std.proofs.Common.{◌≡◌, ℕ, zero, suc, ◌<◌, true, false, List, [], ◌∷◌, None, Some, length, refl, sym, ap, ◌∙◌, subst, arith, lit<}
use Rattle.std.proofs.lemmas.Bool.{false≢true}
use Rattle.std.specs.FinMap as map
use Rattle.std.specs.List.{slice_get}
use Rattle.cb_gf256.specs.Rows.{row_at}
use Rattle.cb_member.specs.declared.names.Shard.{Shard}
use Rattle.cb_member.specs.Membership.{fresh_members}
use Rattle.cb_node.specs.NodesState.{NodesState, nodes_of, row_under}
use Rattle.cb_ptr.specs.Word.{pins_of}
use Rattle.cb_set.specs.Lost.{is_lost}
use Rattle.cb_world.specs.declared.leaving.Former.{Former}
use Rattle.cb_world.specs.declared.object.Object.{Object}
use Rattle.cb_world.specs.declared.object.Object.TheVariants as is
use Rattle.cb_world.specs.declared.shown.Shown.{Shown}
use Rattle.cb_world.specs.FarSound.{IsBatch}
use Rattle.cb_world.specs.FarState.{FarState}
use Rattle.cb_world.specs.Grasped.{IsFree}
use Rattle.cb_world.specs.Leaving.{LeavingState}
use Rattle.cb_world.specs.Memory.{window}
use Rattle.cb_world.specs.RowWords.{row_of}
use Rattle.cb_world.specs.SetWord.{IsSpanWord}
use Rattle.cb_world.specs.Sound.{IsNoted}
use Rattle.cb_world.proofs.Apart.{some_same}
use Rattle.cb_world.proofs.WorkedAdded.{is_word, row, zero_row}
use Rattle.cb_world.proofs.WorkedFar.{known}
use Rattle.cb_world.proofs.WorkedJoin.{got, one_row, two_rows}
use Rattle.cb_world.proofs.WorkedReserved.{alone}
use Rattle.cb_world.proofs.WorkedSteps.{at, none_some}
use Rattle.cb_world.proofs.WorkedWorld.{far}

-- ---- the span in frame 0, all of zeros, leaves with its parity; both rows were put
abbrev batch : LeavingState
batch = record {
  set = 5;
  pages = 1;
  frames = 0 ∷ [];
  words = [];
  made = true;
  parities = row ∷ [];
  shards = Some (at 0 2) ∷ Some (at 1 3) ∷ [];
}

abbrev with_nodes : NodesState → FarState
with_nodes nodes = record far { nodes = nodes; members = fresh_members 2 }

abbrev leaving : FarState
leaving = with_nodes (nodes_of 2 0 (one_row 2 row ∷ one_row 3 row ∷ []))

first_row : row_under leaving.nodes (record { n = 0 }) 2 ≡ Some (row_of (window [] 0 512))
first_row = got 2 row ∙ ap (λ (r : List ℕ). Some r) (sym zero_row)

is_batch : IsBatch known leaving batch
is_batch = record {
  word = λ made. subst (λ (r : List ℕ). IsSpanWord 1 1 1 (r ∷ row ∷ [])) (sym zero_row) is_word;
  bare = λ unmade. absurd (false≢true (sym unmade));
  count = refl;
  put = put;
  apart = apart;
}
  where
    put : (p : ℕ) (shard : Shard) → slice_get batch.shards p ≡ Some (Some shard)
        → is_lost leaving.members shard ≡ false → row_under leaving.nodes shard.node shard.key
        ≡ Some (row_at (row_of (window [] 0 512) ∷ row ∷ []) p)
    put zero shard e up =
        subst (λ (s : Shard). row_under leaving.nodes s.node s.key
        ≡ Some (row_of (window [] 0 512)))
        (some_same (at 0 2) shard (some_same (Some (at 0 2)) (Some shard) e)) first_row
    put (suc zero) shard e up =
        subst (λ (s : Shard). row_under leaving.nodes s.node s.key ≡ Some row)
        (some_same (at 1 3) shard (some_same (Some (at 1 3)) (Some shard) e)) (got 3 row)
    put (suc (suc p)) shard e up = absurd (none_some (Some shard) e)

    node_of : (s t : Shard) → Some (Some s) ≡ Some (Some t) → s.node.n ≡ t.node.n
    node_of s t e =
        ap (λ (x : Shard). x.node.n) (some_same s t (some_same (Some s) (Some t) e))

    apart : (p q : ℕ) (a b : Shard) → slice_get batch.shards p ≡ Some (Some a)
        → slice_get batch.shards q ≡ Some (Some b) → a.node.n ≡ b.node.n → p ≡ q
    apart zero zero a b d e same = refl
    apart zero (suc zero) a b d e same =
        let m = node_of (at 0 2) a d in let n = node_of (at 1 3) b e in
        absurd (omega (arith, m, n, same))
    apart (suc zero) zero a b d e same =
        let m = node_of (at 1 3) a d in let n = node_of (at 0 2) b e in
        absurd (omega (arith, m, n, same))
    apart (suc zero) (suc zero) a b d e same = refl
    apart (suc (suc p)) q a b d e same = absurd (none_some (Some a) d)
    apart p (suc (suc q)) a b d e same = absurd (none_some (Some b) e)

-- its parity is not made, and the span's row alone was put
abbrev unmade : LeavingState
unmade = record batch { made = false; parities = [] ∷ []; shards = Some (at 0 2) ∷ None ∷ [] }

is_unmade_batch : IsBatch known leaving unmade
is_unmade_batch = record {
  word = λ made. absurd (false≢true made);
  bare = below;
  count = refl;
  put = put;
  apart = apart;
}
  where
    below : false ≡ false → (p : ℕ) (shard : Shard) → slice_get unmade.shards p ≡ Some (Some shard)
        → p < 1
    below is zero shard e = lit< tt
    below is (suc zero) shard e = absurd (none_some shard (some_same None (Some shard) e))
    below is (suc (suc p)) shard e = absurd (none_some (Some shard) e)

    put : (p : ℕ) (shard : Shard) → slice_get unmade.shards p ≡ Some (Some shard)
        → is_lost leaving.members shard ≡ false → row_under leaving.nodes shard.node shard.key
        ≡ Some (row_at (row_of (window [] 0 512) ∷ [] ∷ []) p)
    put zero shard e up =
        subst (λ (s : Shard). row_under leaving.nodes s.node s.key
        ≡ Some (row_of (window [] 0 512)))
        (some_same (at 0 2) shard (some_same (Some (at 0 2)) (Some shard) e)) first_row
    put (suc zero) shard e up = absurd (none_some shard (some_same None (Some shard) e))
    put (suc (suc p)) shard e up = absurd (none_some (Some shard) e)

    apart : (p q : ℕ) (a b : Shard) → slice_get unmade.shards p ≡ Some (Some a)
        → slice_get unmade.shards q ≡ Some (Some b) → a.node.n ≡ b.node.n → p ≡ q
    apart zero zero a b d e same = refl
    apart (suc zero) q a b d e same = absurd (none_some a (some_same None (Some a) d))
    apart p (suc zero) a b d e same = absurd (none_some b (some_same None (Some b) e))
    apart (suc (suc p)) q a b d e same = absurd (none_some (Some a) d)
    apart p (suc (suc q)) a b d e same = absurd (none_some (Some b) e)

-- its parity was put, and is not made
put_unmade : ¬ (IsBatch known leaving (record batch { made = false }))
put_unmade x = absurd (let l : 1 < 1 = x.bare refl 1 (at 1 3) refl in omega (arith, l))

-- the parity is no row of the word, and was not put
short_parity : ¬ (IsBatch known leaving (record batch {
  parities = [] ∷ [];
  shards =
      Some (at 0 2) ∷ None ∷ [];
}))
short_parity x = absurd (let e : 0 ≡ length (row_of (window [] 0 512)) =
    (x.word refl).is_word.equal_lengths 1 [] (lit< tt) in
    let l : length (row_of (window [] 0 512)) ≡ 4096 = (x.word refl).wide in omega (arith, e, l))

place_too_many : ¬ (IsBatch known leaving (record batch {
  shards = Some (at 0 2) ∷ Some (at 1 3) ∷ None ∷ [];
}))
place_too_many x = absurd (let e : 3 ≡ 2 = x.count in omega (arith, e))

parity_nowhere :
    ¬ (IsBatch known (with_nodes (nodes_of 2 0 (one_row 2 row ∷ map.empty ∷ []))) batch)
parity_nowhere x = none_some row (sym (nothing 3) ∙ x.put 1 (at 1 3) refl refl)
  where
    nothing : (key : ℕ) → row_under (nodes_of 2 0 (one_row 2 row ∷ map.empty ∷ []))
        (record { n = 1 }) key ≡ None
    nothing key = grind (arith, map.gets)

both_on_one_node :
    ¬ (IsBatch known (with_nodes (nodes_of 2 0 (two_rows 2 row 3 row ∷ map.empty ∷ [])))
    (record batch { shards = Some (at 0 2) ∷ Some (at 0 3) ∷ [] }))
both_on_one_node x =
    absurd (let e : 0 ≡ 1 = x.apart 0 1 (at 0 2) (at 0 3) refl refl refl in omega (arith, e))

-- ---- the word that is noted for an object
abbrev noting : List Former → LeavingState
noting words = record batch { words = words }

abbrev former : ℕ → ℕ → Former
former h word = record { handle = h; word = word }

abbrev with_object : Object → Shown
with_object object = record known { objects = object ∷ [] }

-- hot, here and without pins: two bytes at place 512
abbrev calm : ℕ
calm = 274877923334

-- what is noted is the one word
the_word : (h word : ℕ) (s : Shown) (x : IsNoted s (noting (former h word ∷ [])) 0)
    → former h word ≡ x.former
the_word h word s x =
    sym (alone (former h word) x.former x.noted.0 x.noted.1) ∙ x.noted.2

not_noted : ¬ (IsNoted (with_object (is.Claimed 2 512 1 [])) (noting []) 0)
not_noted x = absurd (let l = x.noted.1 in omega (arith, l))

noted_for_another :
    ¬ (IsNoted (with_object (is.Claimed 2 512 1 [])) (noting (former 1 calm ∷ [])) 0)
noted_for_another x =
    absurd (let e = ap (λ (f : Former). f.handle) (the_word 1 calm _ x) in
    let h = x.handle in omega (arith, e, h))

-- the same word with one pin
pinned_word : ¬ (IsNoted (with_object (is.Claimed 2 512 1 [])) (noting (former 0 274877923342 ∷ [])) 0)
pinned_word x = absurd (let e : 1 ≡ 0 =
    ap (λ (f : Former). pins_of f.word) (the_word 0 274877923342 _ x) ∙ x.free.1 in
    omega (arith, e))

-- the least word past all fields that is here and has no pins: it tells length 0 and place 0
abbrev past_all_fields : ℕ
past_all_fields = 9007199254740994

past_is_free : IsFree past_all_fields
past_is_free = (refl, refl)

noted_past_all_fields : ¬ (IsNoted (with_object (is.Claimed 0 0 1 []))
    (noting (former 0 past_all_fields ∷ [])) 0)
noted_past_all_fields x = absurd (let e : 9007199254740994 ≡ x.former.word =
    ap (λ (f : Former). f.word) (the_word 0 past_all_fields _ x) in
    let l : x.former.word < 9007199254740992 = x.below in omega (arith, e, l))

-- the object is not claimed
noted_but_here : ¬ (IsNoted (with_object (is.Here 2 512)) (noting (former 0 calm ∷ [])) 0)
noted_but_here x = here _ _ _ _ x.claimed
  where
    here : (l p v : ℕ) (w : List ℕ) → is.Here 2 512 ≡ is.Claimed l p v w → ⊥
    here l p v w e = cc
