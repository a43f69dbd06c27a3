-- An eviction and a swap-in do the same however many turns were counted, and as whichever jobs.
use Rattle.std.proofs.Common.{◌≡◌, ℕ, suc, List, refl, sym, ap, ◌∙◌, subst}
use Rattle.cb_types.specs.declared.reply.Reply.{Reply}
use Rattle.cb_types.specs.declared.reply.Reply.TheVariants as answer
use Rattle.cb_types.specs.declared.handle.SetId.{SetId}
use Rattle.cb_set.specs.SetState.{SetState}
use Rattle.cb_world.specs.declared.shown.Shown.{Shown}
use Rattle.cb_world.specs.FarState.{FarState}
use Rattle.cb_world.specs.Plain.{Words}
use Rattle.cb_world.specs.World.{IsKnown}
use Rattle.cb_world.proofs.Laws.{open_same, recounted_sound}
use Rattle.cb_evict.specs.declared.eviction.Eviction.TheVariants.{Set}
use Rattle.cb_evict.specs.EvictStep.{IsEvictStep, few_spans, few_nodes, made}
use Rattle.cb_swapin.specs.SwapStep.{IsSwapped}
use Rattle.cb_core.specs.Parts.{Holding, WithRoom, at_once, no_room, won, most_evictions}
use Rattle.cb_core.specs.Step.{HoldOn, StillBring, StillEvict, StillRoom, StillSwap}
use Rattle.cb_core.proofs.OrdersCounted.{recounted_kept}
use Rattle.cb_core.proofs.StillFarJobs.{known_far}

-- the far state, where so many turns were counted, by job in this way
abbrev pub rejobbed : ℕ → List ℕ → FarState → FarState
rejobbed turns by_job far = record far {
  counts = record far.counts { turns = turns; by_job = by_job };
}

abbrev pub held_as : ℕ → List ℕ → Holding Words → Holding Words
held_as turns by_job a = record { desk = a.desk; far = rejobbed turns by_job a.far }

module _ (turns : ℕ) (by_job : List ℕ) where
  known_as : (x : Words) (far : FarState) (s : Shown) → IsKnown x far s
      → IsKnown x (rejobbed turns by_job far) s
  known_as x far s k = known_far x far (rejobbed turns by_job far) s k
      (recounted_sound s far turns by_job far.nodes.given k.sound)

  known_back : (x : Words) (far : FarState) (s : Shown) → IsKnown x (rejobbed turns by_job far) s
      → IsKnown x far s
  known_back x far s k = known_far x (rejobbed turns by_job far) far s k
      (recounted_sound s (rejobbed turns by_job far) far.counts.turns far.counts.by_job
      far.nodes.given k.sound)

  holds_as : (a b : Holding Words) → HoldOn a b → HoldOn (held_as turns by_job a)
      (held_as turns by_job b)
  holds_as a b hold s k =
      let before = known_back a.desk a.far s k in let then = hold s before in
      let after = known_as b.desk b.far then.0 then.1 in (
        then.0,
        after,
        then.2,
        λ seats ongoing. open_same b.desk b.far (rejobbed turns by_job b.far) then.0 seats then.1
            after
            (then.3 seats
            (open_same a.desk (rejobbed turns by_job a.far) a.far s seats k before ongoing)),
        λ o kept. recounted_kept then.0 b.far turns by_job o (then.4 o
            (recounted_kept s (rejobbed turns by_job a.far) a.far.counts.turns a.far.counts.by_job o
            kept)),
      )

  -- an eviction
  evict_as : (x y : Words) (far new : FarState) (r : Reply) → IsEvictStep x y far new r
      → IsEvictStep x y (rejobbed turns by_job far) (rejobbed turns by_job new) r
  evict_as x y far new r (few_spans z same) = few_spans (record {
    few = z.few;
    reply = z.reply;
    state = ap (rejobbed turns by_job) z.state;
  }) same
  evict_as x y far new r (few_nodes z same) = few_nodes (record {
    enough = z.enough;
    few = z.few;
    reply = z.reply;
    state = ap (rejobbed turns by_job) z.state;
  }) same
  evict_as x y far new r (made z) = let e = z.evicted in made (record {
    pages = z.pages;
    longest = z.longest;
    room = z.room;
    reply = z.reply;
    evicted = record {
      pages = e.pages;
      long = e.long;
      shards = e.shards;
      rows = e.rows;
      chosen = record {
        count = e.chosen.count;
        each = λ p shard at. let c = e.chosen.each p shard at in record {
          node = c.node;
          incarnation = c.incarnation;
          key = c.key;
        };
      };
      word = e.word;
      contents = e.contents;
      of_frames = e.of_frames;
      homes = record { count = e.homes.count; here = e.homes.here; others = e.homes.others };
      state = ap (rejobbed turns by_job) e.state;
      sent = record {
        changed = e.sent.changed;
        others = e.sent.others;
        count = e.sent.count;
        settings = e.sent.settings;
        versions = e.sent.versions;
        memory = e.sent.memory;
      };
    };
  })

  pub room_evicts : (a b : Holding Words) (id : SetId) → StillRoom a (Set id) b
      → StillEvict (held_as turns by_job a) (answer.Set id) (held_as turns by_job b)
  room_evicts a b id (step, hold) =
      (evict_as a.desk b.desk a.far b.far (answer.Set id) step.step, holds_as a b hold)

  room_as : (a b : Holding Words) (id : SetId) → StillRoom a (Set id) b
      → StillRoom (held_as turns by_job a) (Set id) (held_as turns by_job b)
  room_as a b id (step, hold) = (
    record { step = evict_as a.desk b.desk a.far b.far (answer.Set id) step.step; counts = tt },
    holds_as a b hold,
  )

  -- a swap-in
  swapped_as : (x y : Words) (far new : FarState) (id p : ℕ) (set : SetState) (f n : ℕ)
      → IsSwapped x y far new id p set f n
      → IsSwapped x y (rejobbed turns by_job far) (rejobbed turns by_job new) id p set f n
  swapped_as x y far new id p set f n z = record {
    state = record {
      class = z.state.class;
      in_table = z.state.in_table;
      paged = z.state.paged;
      sized = z.state.sized;
      frames = z.state.frames;
      spans = z.state.spans;
      homes = z.state.homes;
      sets = z.state.sets;
      nodes = z.state.nodes;
      rest = ap (rejobbed turns by_job) z.state.rest;
    };
    rows = z.rows;
    word = z.word;
    one_row = z.one_row;
    words = z.words;
  }

  swap_as : (a b : Holding Words) (h f : ℕ) → StillSwap h a (answer.Swapped f) b
      → StillSwap h (held_as turns by_job a) (answer.Swapped f) (held_as turns by_job b)
  swap_as a b h f (home, at, z, hold) = (
    home,
    at,
    record {
      set = z.set;
      there = z.there;
      reply = z.reply;
      change = swapped_as a.desk b.desk a.far b.far home.set home.position z.set f _ z.change;
    },
    holds_as a b hold,
  )

  full_as : (a b : Holding Words) (h : ℕ) → StillSwap h a answer.NoFrame b
      → StillSwap h (held_as turns by_job a) answer.NoFrame (held_as turns by_job b)
  full_as a b h (home, at, z, hold) = (
    home,
    at,
    record {
      set = z.set;
      there = z.there;
      reply = z.reply;
      change = (z.change.0, ap (rejobbed turns by_job) z.change.1);
    },
    holds_as a b hold,
  )

  not_crammed : (f frames loose nodes : ℕ) → answer.Swapped f ≡ answer.NoRoom frames loose nodes → ⊥
  not_crammed f frames loose nodes e = cc

  brought_as : (h room left : ℕ) (a b : Holding Words) (r : Reply) (f : ℕ) → r ≡ answer.Swapped f
      → WithRoom room (StillSwap h) StillRoom left a r b
      → WithRoom room (StillSwap h) StillRoom left (held_as turns by_job a) (answer.Swapped f)
      (held_as turns by_job b)
  brought_as h room left a b r f is (at_once swap never) = at_once
      (swap_as a b h f (subst (λ (q : Reply). StillSwap h a q b) is swap)) (λ e. never (is ∙ e))
  brought_as h room left a b r f is (no_room m why loose nodes swap evict e) =
      absurd (not_crammed f room loose nodes (sym is ∙ e))
  brought_as h room (suc fewer) a b r f is (won m n id swap evict again) =
      won (held_as turns by_job m) (held_as turns by_job n) id (full_as a m h swap)
      (room_as m n id evict)
      (brought_as h room fewer n b r f is again)

  pub bring_as : (a b : Holding Words) (h f : ℕ) → StillBring h a (answer.Swapped f) b
      → StillBring h (held_as turns by_job a) (answer.Swapped f) (held_as turns by_job b)
  bring_as a b h f bring = brought_as h a.desk.settings.frames most_evictions a b
      (answer.Swapped f) f refl
      bring
