-- The parts of a begin one after another.
use Rattle.std.proofs.Common.{◌≡◌, ◌⊎◌, ℕ, Bool, true, List, [], replicate, Option, Some, None, sym, refl, ap, ◌∙◌, subst, inl, inr}
use Rattle.std.specs.Option.{option_map}
use Rattle.cb_member.specs.declared.names.Shard.{Shard}
use Rattle.cb_types.specs.declared.handle.SetId.{SetId}
use Rattle.cb_types.specs.declared.order.EncodeOrder.{EncodeOrder}
use Rattle.cb_types.specs.declared.reply.Reply.{Reply}
use Rattle.cb_types.specs.declared.reply.Reply.TheVariants as answer
use Rattle.cb_world.specs.declared.access.Access.{Access}
use Rattle.cb_world.specs.declared.leaving.Former.{Former}
use Rattle.cb_world.specs.declared.shown.Shown.{Shown}
use Rattle.cb_world.specs.Choices.{room_count}
use Rattle.cb_world.specs.FarState.{FarState}
use Rattle.cb_world.specs.Leaving.{LeavingState}
use Rattle.cb_world.specs.Orders.{IsEncodeKept}
use Rattle.cb_world.specs.Performs.{Performs}
use Rattle.cb_world.specs.Played.{played}
use Rattle.cb_world.specs.Sound.{Sound}
use Rattle.cb_evict.specs.EvictEffect.{EvictEffect}
use Rattle.cb_evict.specs.EvictRule.{HasFewSpans, HasFewNodes, HasBoth, EvictRule}
use Rattle.cb_evict.specs.declared.eviction.Eviction.{Eviction}
use Rattle.cb_evict.specs.Eviction.{reply_of}
use Rattle.cb_evict.specs.BeginRule.{HasBatch, BeginRule, BeginsBy}
use Rattle.cb_evict.specs.BeginEffect.{BeginEffect}
use Rattle.cb_evict.specs.Beginning.{BeginsClaimed, HasOrdered}
use Rattle.cb_evict.specs.declared.gathering.Gathered.{Gathered}
use Rattle.cb_evict.specs.declared.gathering.Gathered.TheVariants as gathered
use Rattle.cb_evict.specs.Gathering.{GatherEffect, HandsOut, gathered_reply}
use Rattle.cb_evict.specs.Lengths.{most_loose}
use Rattle.cb_evict.specs.Taking.{AreLooseNow, TakesEnough, TakesFew}
use Rattle.cb_evict.proofs.CallParts.{Joins}
use Rattle.cb_evict.proofs.Composed.{all_tried, ended_from, few_nodes, few_spans, replied, takes_few, tried_end}
use Rattle.cb_evict.proofs.Still.{does_nothing, still_none}
use Rattle.cb_evict.proofs.Options.{none_some}

-- ---- the batch that is leaving
abbrev pub number_of : LeavingState → SetId
number_of batch = record { n = batch.set }

pub none_leaving : (o : Option LeavingState) → option_map number_of o ≡ None → o ≡ None
none_leaving None e = refl
none_leaving (Some batch) e = absurd (none_some (number_of batch) (sym e))

pub some_leaving : (o : Option LeavingState) (id : SetId) → option_map number_of o ≡ Some id
    → (batch : LeavingState) × (o ≡ Some batch) × (id ≡ number_of batch)
some_leaving None id e = absurd (none_some id e)
some_leaving (Some batch) id e = (batch, refl, same (number_of batch) id e)
  where
    same : (a b : SetId) → Some a ≡ Some b → b ≡ a
    same a b e = cc

-- places without a shard
abbrev pub no_names : ℕ → List (Option Shard)
no_names n = replicate n None

-- ---- the replies
pub leaving_batch : (set id : SetId) (r : Reply) → r ≡ answer.Leaving set → r ≡ answer.Batch id → ⊥
leaving_batch set id r a b = cc

pub spans_batch : (n : ℕ) (r : Reply) (id : SetId) → r ≡ answer.NoSpans n → r ≡ answer.Batch id → ⊥
spans_batch n r id a b = cc

pub nodes_batch : (n : ℕ) (r : Reply) (id : SetId) → r ≡ answer.NoNodes n → r ≡ answer.Batch id → ⊥
nodes_batch n r id a b = cc

-- ---- the refusals, which are those of an eviction
-- a reply that says neither that a set was made nor that a batch is leaving
pub record IsFrontRefusal (r : Reply) : Type 0 where
  pub no_set : (id : SetId) → r ≡ answer.Set id → ⊥
  pub no_batch : (id : SetId) → r ≡ answer.Batch id → ⊥

pub spans_refusal : (n : ℕ) (r : Reply) → r ≡ answer.NoSpans n → IsFrontRefusal r
spans_refusal n r e = record {
  no_set = λ id f. few_spans n r id e f;
  no_batch = λ id f. spans_batch n r id e f;
}

nodes_refusal : (n : ℕ) (r : Reply) → r ≡ answer.NoNodes n → IsFrontRefusal r
nodes_refusal n r e = record {
  no_set = λ id f. few_nodes n r id e f;
  no_batch = λ id f. nodes_batch n r id e f;
}

refused_rule : (far : FarState) (made : Bool) (so : List (List ℕ) → Type 0) (r : Reply)
    (es : List Access) → far.leaving ≡ None → IsFrontRefusal r → EvictRule far far r es
    → BeginsBy far far made so r es
refused_rule far made so r es none off x = inr (record {
  none = none;
  loose = x.loose;
  found = x.found;
  answered = by x.answered;
  touches = x.touches;
})
  where
    by : HasFewSpans far far r x.loose ⊎ (HasFewNodes far far r x.loose
        ⊎ HasBoth far far r x.loose es)
        → HasFewSpans far far r x.loose ⊎ (HasFewNodes far far r x.loose
        ⊎ HasBatch far far made so r x.loose es)
    by (inl a) = inl a
    by (inr (inl a)) = inr (inl a)
    by (inr (inr a)) = absurd (off.no_set (record { n = far.counts.sets }) a.reply)

-- a refusal hands out no order
answer_order : (r : Reply) (o : EncodeOrder) → gathered.Answer r ≡ gathered.Order o → ⊥
answer_order r o e = cc

refused_effect : (far : FarState) (r : Reply) (es : List Access) (s t : Shown) → IsFrontRefusal r
    → EvictEffect far far r es s t → GatherEffect far far (gathered.Answer r) es s t
refused_effect far r es s t off x = record {
  did = record {
    begun = λ id e. absurd (off.no_batch id e);
    left = λ e. x.left off.no_set;
  };
  kept = λ o e. absurd (answer_order r o e);
}

pub refuses : (far : FarState) (made : Bool) (r : Reply) (runs : List Access → Type 0)
    (knows sound : Shown → Type 0) → far.leaving ≡ None → IsFrontRefusal r
    → Performs runs knows (EvictRule far far r) sound (EvictEffect far far r)
    → Performs runs knows (BeginsBy far far made (HandsOut far (gathered.Answer r)) r) sound
    (GatherEffect far far (gathered.Answer r))
refuses far made r runs knows sound none off x = record {
  events = x.events;
  ran = x.ran;
  looks_first = x.looks_first;
  rule = refused_rule far made (HandsOut far (gathered.Answer r)) r x.events none off x.rule;
  allowed = x.allowed;
  sound_after = x.sound_after;
  effect = λ s k. refused_effect far r x.events s (played x.events s) off (x.effect s k);
}

few_refusal : (far : FarState) (r : Reply) (loose : List ℕ)
    → HasFewSpans far far r loose ⊎ HasFewNodes far far r loose → IsFrontRefusal r
few_refusal far r loose (inl a) = spans_refusal (most_loose far.spans loose) r a.reply
few_refusal far r loose (inr a) = nodes_refusal (room_count far.nodes far.members) r a.reply

pub begin_few : (far : FarState) (made : Bool) (r : Reply) (e : Eviction)
    (runs : List Access → Type 0) (shows : Shown → Type 0) → far.leaving ≡ None → r ≡ reply_of e
    → TakesFew runs shows far (AreLooseNow far) e
    → Performs runs (λ s. shows s × Sound s far)
    (BeginsBy far far made (HandsOut far (gathered.Answer r)) r) (λ t. Sound t far)
    (GatherEffect far far (gathered.Answer r))
begin_few far made r e runs shows none is x =
    refuses far made r runs (λ s. shows s × Sound s far) (λ t. Sound t far) none
    (subst IsFrontRefusal (sym is) (few_refusal far (reply_of e) x.loose x.few))
    (replied far far e r runs (λ s. shows s × Sound s far) (λ t. Sound t far) is
    (takes_few far e runs shows x))

-- ---- a batch is leaving already
pub begins_not : (far : FarState) (made : Bool) (r : Reply) (id : SetId)
    (runs : List Access → Type 0) (knows : Shown → Type 0)
    → option_map number_of far.leaving ≡ Some id → r ≡ answer.Leaving id → runs []
    → Performs runs (λ s. knows s × Sound s far)
    (BeginsBy far far made (HandsOut far (gathered.Answer r)) r) (λ t. Sound t far)
    (GatherEffect far far (gathered.Answer r))
begins_not far made r id runs knows e is ran =
    let b = some_leaving far.leaving id e in
    does_nothing runs knows far far (BeginsBy far far made (HandsOut far (gathered.Answer r)) r)
    (GatherEffect far far (gathered.Answer r)) ran refl
    (inl (record {
      batch = b.0;
      there = b.1;
      reply = is ∙ ap answer.Leaving b.2;
      state = refl;
      nothing = refl;
    }))
    (λ s. record {
      did = record {
        begun = λ other f. absurd (leaving_batch id other r is f);
        left = λ f. still_none s;
      };
      kept = λ o f. absurd (answer_order r o f);
    })

-- ---- k spans were claimed and are leaving from here
same_order : (o q : EncodeOrder) → gathered.Order o ≡ gathered.Order q → o ≡ q
same_order o q e = cc

pub takes_begin : {runsA runsB runsC : List Access → Type 0} {showsA showsB : Shown → Type 0}
    {far new : FarState} {made : Bool} {o : EncodeOrder} {frames : List ℕ}
    {formers : List Former} → Joins runsA runsB runsC showsA showsB
    → TakesEnough runsA showsA far (AreLooseNow far) frames formers
    → BeginsClaimed runsB showsB far new made o frames formers
    → far.leaving ≡ None → (s : Shown) × showsA s × Sound s far
    → Performs runsC (λ s. showsA s × Sound s far)
    (BeginsBy far new made (HandsOut far (gathered.Order o)) (gathered_reply (gathered.Order o)))
    (λ t. Sound t new) (GatherEffect far new (gathered.Order o))
takes_begin {far = far} {new = new} {made = made} {o = o} j x y none (s, knows, sound) =
    let all = all_tried j x y in
    let begun = subst (λ (l : List ℕ). HasOrdered far new made o l all.events) x.first
    (ended_from j x y s knows sound).rule in
    let is : gathered_reply (gathered.Order o) ≡ answer.Batch (record { n = far.counts.sets }) =
    ap (λ (q : EncodeOrder). answer.Batch (record { n = q.set })) begun.order in
    tried_end j x y
    (BeginsBy far new made (HandsOut far (gathered.Order o)) (gathered_reply (gathered.Order o)))
    (GatherEffect far new (gathered.Order o))
    (inr (record {
      none = none;
      loose = x.loose;
      found = all.done;
      answered = inr (inr (record {
        pages = x.pages;
        longest = x.longest;
        room = x.room;
        reply = is;
        begun = begun.begun;
        given = ap gathered.Order begun.order;
      }));
      touches = all.touches;
    }))
    (λ a b did. record {
      did = record {
        begun = λ id e. did.begun;
        left = λ off. absurd (off (record { n = far.counts.sets }) is);
      };
      kept = λ q e. subst (IsEncodeKept b new) (same_order o q e) did.kept;
    })

-- ---- a begin, which forgets the order
begun_as : (far new : FarState) (made : Bool) (so : List (List ℕ) → Type 0) (r : Reply)
    (es : List Access) → BeginsBy far new made so r es
    → BeginsBy far new made (λ rows. Unit {0}) r es
begun_as far new made so r es (inl a) = inl a
begun_as far new made so r es (inr a) = inr (record {
  none = a.none;
  loose = a.loose;
  found = a.found;
  answered = by a.answered;
  touches = a.touches;
})
  where
    by : HasFewSpans far new r a.loose ⊎ (HasFewNodes far new r a.loose
        ⊎ HasBatch far new made so r a.loose es)
        → HasFewSpans far new r a.loose ⊎ (HasFewNodes far new r a.loose
        ⊎ HasBatch far new made (λ rows. Unit {0}) r a.loose es)
    by (inl b) = inl b
    by (inr (inl b)) = inr (inl b)
    by (inr (inr b)) = inr (inr (record {
      pages = b.pages;
      longest = b.longest;
      room = b.room;
      reply = b.reply;
      begun = b.begun;
      given = tt;
    }))

pub forgets : (far new : FarState) (g : Gathered) (r : Reply) (runs : List Access → Type 0)
    (knows sound : Shown → Type 0) → r ≡ gathered_reply g
    → Performs runs knows (BeginsBy far new true (HandsOut far g) (gathered_reply g)) sound
    (GatherEffect far new g)
    → Performs runs knows (BeginRule far new r) sound (BeginEffect far new r)
forgets far new g r runs knows sound is x =
    subst (λ (q : Reply). Performs runs knows (BeginRule far new q) sound (BeginEffect far new q))
    (sym is) (record {
      events = x.events;
      ran = x.ran;
      looks_first = x.looks_first;
      rule = begun_as far new true (HandsOut far g) (gathered_reply g) x.events x.rule;
      allowed = x.allowed;
      sound_after = x.sound_after;
      effect = λ s k. (x.effect s k).did;
    })
