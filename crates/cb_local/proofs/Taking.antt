-- What a step of a pair that has begun leaves as it was at the begin.
use Rattle.std.proofs.Common.{◌≡◌, ℕ, ◌+◌, ◌<◌, false, List, length, Option, Some, None, refl, sym, ap, ◌∙◌, arith, inl, inr, length-set}
use Rattle.std.specs.List.{slice_get}
use Rattle.std.proofs.lemmas.Option.{get_or_from_slice_get, slice_get_within}
use Rattle.cb_member.specs.declared.names.NodeId.{NodeId}
use Rattle.cb_member.specs.declared.names.Shard.{Shard}
use Rattle.cb_node.specs.NodesState.{held}
use Rattle.cb_node.proofs.Laws.{other_nodes_hold_as_many, put_keeps_other_rows}
use Rattle.cb_set.specs.SetState.{SetState}
use Rattle.cb_set.specs.Nodes.{OnDistinctNodes}
use Rattle.cb_types.specs.declared.reply.Reply.TheVariants as answer
use Rattle.cb_world.specs.declared.shown.Shown.{Shown}
use Rattle.cb_world.specs.FarSound.{of_set}
use Rattle.cb_world.specs.FarState.{FarState}
use Rattle.cb_world.specs.Joining.{JoiningState}
use Rattle.cb_world.specs.JoinSteps.{with_step}
use Rattle.cb_world.specs.Sets.{set_in}
use Rattle.cb_world.specs.SetWord.{IsWordOf}
use Rattle.cb_world.specs.Sound.{Sound}
use Rattle.cb_compact.specs.NowGoing.{IsUndone, TriesStep}
use Rattle.cb_compact.specs.PartStep.{IsFreshPair}
use Rattle.cb_compact.specs.PatchStep.{IsMergedRow, IsNext, IsOneStep, is_undone, shard_beside, with_stepped}
use Rattle.cb_compact.proofs.Laws.{as_fresh, fresh_code, gone_on, gone_sound, none_gone, step_other}
use Rattle.cb_local.specs.Putting.{HasTakenSteps}

no_shard : Shard
no_shard = record { node = record { n = 0 }; incarnation = 0; key = 0 }

-- at the begin
pub none_taken : (begun : FarState) (pair : JoiningState) (a b : SetState)
    → IsFreshPair begun pair a b → IsUndone pair → HasTakenSteps begun pair a b begun 0
none_taken begun pair a b fresh undone = record {
  gone = none_gone begun pair a b fresh undone;
  pair = pair;
  fresh = fresh;
  shards = refl;
  taken = refl;
  count = refl;
  undone = λ q l. refl;
  room = refl;
  held_same = λ q old l at. refl;
  a_words = λ rows x. x;
  b_words = λ rows x. x;
}

-- shards at two places stand on two nodes
apart : (shards : List Shard) (i j : ℕ) (x y : Shard) → OnDistinctNodes shards → i < j
    → slice_get shards i ≡ Some x → slice_get shards j ≡ Some y → x.node.n ≡ y.node.n → ⊥
apart shards i j x y distinct less at other same =
    distinct i j no_shard less (slice_get_within shards j y other)
    (ap (λ (s : Shard). s.node.n) (get_or_from_slice_get shards i x no_shard at) ∙ same
    ∙ sym (ap (λ (s : Shard). s.node.n) (get_or_from_slice_get shards j y no_shard other)))

module _ (s : Shown) (begun : FarState) (first : JoiningState) (a b : SetState) (far : FarState)
    (n : ℕ) (sound : Sound s begun) (x : HasTakenSteps begun first a b far n) where
  pub taken_sound : Sound s far
  taken_sound = gone_sound s begun far n sound x.gone

  -- no step below is left
  pub taken_below : (q : ℕ) → q < n → is_undone x.pair (length a.positions) q ≡ false
  taken_below q l =
      as_fresh far x.gone.pair x.pair x.gone.a x.gone.b a b
      (λ (p : JoiningState) (c d : SetState). is_undone p (length c.positions) q ≡ false)
      x.gone.fresh x.fresh (x.gone.below q l)

  goes : (new : FarState) (full : Option NodeId) → TriesStep far x.pair a b n new full
      → TriesStep far x.gone.pair x.gone.a x.gone.b n new full
  goes new full tried =
      as_fresh far x.pair x.gone.pair a b x.gone.a x.gone.b
      (λ (p : JoiningState) (c d : SetState). TriesStep far p c d n new full)
      x.fresh x.gone.fresh tried

  -- nothing was to be done
  pub taken_past : is_undone x.pair (length a.positions) n ≡ false
      → HasTakenSteps begun first a b far (n + 1)
  taken_past e = record {
    gone = gone_on s begun far far n None taken_sound x.gone (goes far None (inl (e, refl, refl)));
    pair = x.pair;
    fresh = x.fresh;
    shards = x.shards;
    taken = x.taken;
    count = x.count;
    undone = λ q l. x.undone q (omega (arith, l));
    room = x.room;
    held_same = λ q old l at. x.held_same q old (omega (arith, l)) at;
    a_words = x.a_words;
    b_words = x.b_words;
  }

  -- a row was put
  module _ (old : Shard) (row : List ℕ) (next : IsNext x.pair (length a.positions) n)
      (at : slice_get x.pair.shards_a n ≡ Some old)
      (fits : held far.nodes old.node < far.nodes.room)
      (merged : IsMergedRow far x.pair a b n row) where
    abbrev shard : Shard
    shard = shard_beside far old

    abbrev after : FarState
    after = with_stepped far x.pair n shard row

    step : IsOneStep far x.pair a b after (answer.Stepped n)
    step = record {
      position = n;
      next = next;
      old = old;
      at = at;
      room = fits;
      row = row;
      merged = merged;
      reply = refl;
      state = refl;
    }

    within : old.node.n < length far.nodes.nodes
    within = (fresh_code s far x.pair a b taken_sound.away x.fresh).a_nodes n old at

    -- a set's own rows are those of before
    word_back : (id : ℕ) (set : SetState) (rows : List (List ℕ)) → set_in far.sets id ≡ Some set
        → IsWordOf after.nodes after.members set rows → IsWordOf far.nodes far.members set rows
    word_back id set rows there w = record {
      code = w.code;
      survive = λ p other here kept.
          let drawn = taken_sound.away.sound.rows.drawn (of_set id p) other (set, there, here) in
          sym (put_keeps_other_rows far.nodes shard.node other.node shard.key other.key row within
          (λ both. let e = both.1 in omega (arith, drawn, e))) ∙ w.survive p other here kept;
    }

    other_node : (q : ℕ) (other : Shard) → n < q → slice_get first.shards_a q ≡ Some other
        → other.node.n ≡ old.node.n → ⊥
    other_node q other l here same =
        let shape = taken_sound.away.sound.sets.shaped x.pair.a a x.fresh.a_stands.there in
        let e = x.fresh.a_stands.same in
        apart a.shards n q old other shape.distinct l
        (ap (λ (t : List Shard). slice_get t n) e ∙ at)
        (ap (λ (t : List Shard). slice_get t q) (e ∙ x.shards) ∙ here) (sym same)

    pub taken_one : HasTakenSteps begun first a b after (n + 1)
    taken_one = record {
      gone = gone_on s begun far after n None taken_sound x.gone
          (goes after None (inr (next, step)));
      pair = with_step x.pair n shard;
      fresh = record {
        was = refl;
        a_stands = record {
          there = x.fresh.a_stands.there;
          same = x.fresh.a_stands.same;
          whole = x.fresh.a_stands.whole;
        };
        b_stands = record {
          there = x.fresh.b_stands.there;
          same = x.fresh.b_stands.same;
          whole = x.fresh.b_stands.whole;
        };
      };
      shards = x.shards;
      taken = x.taken;
      count = length-set x.pair.steps n (Some shard) ∙ x.count;
      undone = λ q l. step_other x.pair (length a.positions) n q shard (λ e. omega (arith, e, l))
          ∙ x.undone q (omega (arith, l));
      room = x.room;
      held_same = λ q other l here.
          other_nodes_hold_as_many far.nodes shard.node other.node _
          (other_node q other (omega (arith, l)) here)
          ∙ x.held_same q other (omega (arith, l)) here;
      a_words = λ rows w. x.a_words rows (word_back x.pair.a a rows x.fresh.a_stands.there w);
      b_words = λ rows w. x.b_words rows (word_back x.pair.b b rows x.fresh.b_stands.there w);
    }
