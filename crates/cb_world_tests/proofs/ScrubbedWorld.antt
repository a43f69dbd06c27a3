-- A sound world is scrubbed, and sound again.
use Rattle.std.proofs.Common.{◌≡◌, ℕ, ◌*◌, ◌^◌, ◌<◌, ◌≤◌, Result, Ok, Err, refl, sym, subst, arith}
use Rattle.std.specs.Prelude.{IfOk}
use Rattle.cb_member.specs.declared.names.Shard.{Shard}
use Rattle.cb_node.specs.NodesState.{with_spoiled}
use Rattle.cb_world.specs.Codes.{IsCodeOf}
use Rattle.cb_world.specs.FarState.{FarState}
use Rattle.cb_world.specs.Sound.{Sound}
use Rattle.cb_world.specs.World.{WorldState, IsSoundWorld}
use Rattle.cb_world.specs.declared.shown.Shown.{Shown}
use Rattle.cb_world.proofs.Laws.{alike_leaves_words, codes_stay, have_codes, none_again, orders_left, orders_then}
use Rattle.cb_scrub_world.specs.Scrub.{MayScrub, with_nodes}
use Rattle.cb_scrub_world.specs.Spoilt.{IsSoundAgain, IsSpoilt}
use Rattle.cb_scrub_world.proofs.Laws.{byte_is_spoilt, sound_may_scrub}
use Rattle.cb_world_tests.specs.Shards.{IsFirstSets}

few_given : (w : WorldState) → IsSoundWorld w → w.far.nodes.given < 2 ^ 61
few_given w sound = omega (arith, sound.counted.given, sound.counted.turns)

pub world_may : (w : WorldState) → IsSoundWorld w → MayScrub w.far
world_may w sound = sound_may_scrub sound.shown w.far sound.known.sound.away.sound
    (let few = few_given w sound in omega (arith, few))

-- a row of a page at least has a byte
pub has_bytes : (n pages : ℕ) → 1 ≤ pages → n ≡ 4096 * pages → 0 < n
has_bytes n pages some wide = omega (arith, some, wide)

pub row_is_spoilt : (far : FarState) (position : ℕ) (shard : Shard) (at with : ℕ)
    → IsFirstSets far position shard
    → IsSpoilt far 0 (with_nodes far (with_spoiled far.nodes shard.node shard.key at with))
row_is_spoilt far position shard at with is =
    byte_is_spoilt far 0 is.set position shard at with is.committed is.two is.at

pub both_ok : {T E A B C : Type 0} (result : Result T E) → (A → B → C) → IfOk result (λ _. A)
    → IfOk result (λ _. B) → IfOk result (λ _. C)
both_ok (Ok x) f a b = f a b
both_ok (Err e) f a b = tt

module _ (w : WorldState) (new : FarState) (sound : IsSoundWorld w)
    (given : new.nodes.given ≤ 2 ^ 20 * w.far.counts.turns)
    (again : (s : Shown) → Sound s w.far → IsSoundAgain s w.far new) where
  -- the far state as it was, but for the count of rows given
  abbrev was : FarState
  was = with_nodes w.far (record w.far.nodes { given = new.nodes.given })

  far_again : IsSoundAgain sound.shown w.far new
  far_again = again sound.shown sound.known.sound

  with_given_sound : IsSoundWorld (record w { far = was })
  with_given_sound = record {
    config = sound.config;
    configured = record {
      frames = sound.configured.frames;
      homes = sound.configured.homes;
      nodes = sound.configured.nodes;
      room = sound.configured.room;
      codes = have_codes (IsCodeOf w.desk.settings) w.far was
          (codes_stay w.far was refl refl refl refl) sound.configured.codes;
    };
    shown = sound.shown;
    known = record {
      sized = sound.known.sized;
      shows = sound.known.shows;
      hots = sound.known.hots;
      sound = subst (Sound sound.shown) far_again.as_was far_again.sound;
      packed = sound.known.packed;
      freed = sound.known.freed;
    };
    pinned = sound.pinned;
    ongoing = record {
      each = sound.ongoing.each;
      once = sound.ongoing.once;
      apart = sound.ongoing.apart;
      moving = sound.ongoing.moving;
    };
    one = sound.one;
    orders = orders_then sound.shown sound.shown w.far was w.seats
        (orders_left sound.shown sound.shown w.far was sound.known.sound
        (subst (Sound sound.shown) far_again.as_was far_again.sound)
        (alike_leaves_words w.far was refl refl refl refl (λ id p shard of. refl))
        (λ b at below. refl)) sound.orders;
    counted = record {
      kinds = sound.counted.kinds;
      jobs = sound.counted.jobs;
      turns = sound.counted.turns;
      sets = sound.counted.sets;
      keys = sound.counted.keys;
      epoch = sound.counted.epoch;
      given = given;
      no_pair = λ n noted. let held = sound.counted.no_pair n noted in
          (held.0, λ now. none_again w.far was refl refl (held.1 now));
    };
  }

  -- a world whose far state is sound again is so, where few rows were given out
  pub world_again : IsSoundWorld (record w { far = new })
  world_again =
      subst (λ (far : FarState). IsSoundWorld (record w { far = far })) (sym far_again.as_was)
      with_given_sound
