-- Far states that differ alone in counts of turns and of rows given out, and in what is known of how
-- the sets stand, are sound alike.
use Rattle.std.proofs.Common.{ℕ, List, refl, arith}
use Rattle.cb_member.specs.declared.names.Shard.{Shard}
use Rattle.cb_set.specs.SetState.{SetState}
use Rattle.cb_world.specs.declared.shown.Shown.{Shown}
use Rattle.cb_world.specs.declared.survey.Survey.{Survey}
use Rattle.cb_world.specs.FarState.{FarState}
use Rattle.cb_world.specs.Surveyed.{IsSurvey}
use Rattle.cb_world.specs.FarSound.{AwaySound, Owner, of_set, of_leaving, of_joining, IsShardOf}
use Rattle.cb_world.specs.Join.{IsFresh, IsJoin}
use Rattle.cb_world.specs.Joining.{JoiningState}
use Rattle.cb_world.specs.Sound.{Sound}
use Rattle.cb_world.proofs.Joined.{pair_kept}
use Rattle.cb_world.proofs.NodeJoin.{local_stays, noted_stays, claimed_stay}

-- the far state, where so many turns were counted, by job, and so many rows given out, and this is
-- known of the sets
abbrev pub retold : FarState → ℕ → List ℕ → ℕ → Survey → FarState
retold far turns by_job given survey = record far {
  nodes = record far.nodes { given = given };
  counts = record far.counts { turns = turns; by_job = by_job };
  survey = survey;
}

-- the far state where what is known of the sets stays
abbrev pub recounted : FarState → ℕ → List ℕ → ℕ → FarState
recounted far turns by_job given = retold far turns by_job given far.survey

there : (far : FarState) (turns : ℕ) (by_job : List ℕ) (given : ℕ) (survey : Survey) (o : Owner) (a : Shard)
    → IsShardOf far o a → IsShardOf (retold far turns by_job given survey) o a
there far turns by_job given survey (of_set id p) a is = is
there far turns by_job given survey (of_leaving p) a is = is
there far turns by_job given survey (of_joining p) a is = is

back : (far : FarState) (turns : ℕ) (by_job : List ℕ) (given : ℕ) (survey : Survey) (o : Owner) (a : Shard)
    → IsShardOf (retold far turns by_job given survey) o a → IsShardOf far o a
back far turns by_job given survey (of_set id p) a is = is
back far turns by_job given survey (of_leaving p) a is = is
back far turns by_job given survey (of_joining p) a is = is

away_alike : (s : Shown) (far : FarState) (turns : ℕ) (by_job : List ℕ) (given : ℕ) (survey : Survey)
    → AwaySound s far → AwaySound s (retold far turns by_job given survey)
away_alike s far turns by_job given survey sound = record {
  sets = record {
    shaped = sound.sets.shaped;
    worded = λ id set at. let x = sound.sets.worded id set at in (
      x.0,
      record {
        word = record { code = x.1.word.code; survive = x.1.word.survive };
        holds = x.1.holds;
      },
    );
    live = sound.sets.live;
    kept = sound.sets.kept;
    numbered = sound.sets.numbered;
  };
  away = record { away = sound.away.away; home = sound.away.home; named = sound.away.named };
  rows = record {
    members = sound.rows.members;
    counted = sound.rows.counted;
    room = sound.rows.room;
    owned = λ q key row at. let x = sound.rows.owned q key row at in
        (x.0, x.1, there far turns by_job given survey x.0 x.1 x.2, x.3, x.4, x.5);
    one = λ o q a b x y same. sound.rows.one o q a b (back far turns by_job given survey o a x)
        (back far turns by_job given survey q b y) same;
    drawn = λ o a x. sound.rows.drawn o a (back far turns by_job given survey o a x);
    current = λ o a x. sound.rows.current o a (back far turns by_job given survey o a x);
  };
  batch = λ b at. let x = sound.batch b at in record {
    word = x.word;
    bare = x.bare;
    count = x.count;
    put = x.put;
    apart = x.apart;
  };
}

pair_alike : (far : FarState) (turns : ℕ) (by_job : List ℕ) (given : ℕ) (survey : Survey) (pair : JoiningState)
    → IsJoin far pair → IsJoin (retold far turns by_job given survey) pair
pair_alike far turns by_job given survey pair j = pair_kept far (retold far turns by_job given survey) pair
    (record {
      more_sets = omega arith;
      more_keys = omega arith;
      fresh = λ c d f. (c, d, before c d f, λ pages k fit. fit);
      a_stay = λ c d f p shard at. refl;
      b_stay = λ c d f p shard at. refl;
      new_stay = λ c d f p shard at. refl;
    }) j
  where
    before : (c d : SetState) → IsFresh (retold far turns by_job given survey) pair c d
        → IsFresh far pair c d
    before c d f = record {
      a_there = f.a_there;
      b_there = f.b_there;
      a_shards = f.a_shards;
      b_shards = f.b_shards;
      a_whole = f.a_whole;
      b_whole = f.b_whole;
    }

-- a survey that holds may take the place of another
pub retold_sound : (s : Shown) (far : FarState) (turns : ℕ) (by_job : List ℕ) (given : ℕ)
    (survey : Survey) → IsSurvey far survey → Sound s far
    → Sound s (retold far turns by_job given survey)
retold_sound s far turns by_job given survey holds x = record {
  here = local_stays s far (retold far turns by_job given survey) refl refl refl refl x.here;
  noted = noted_stays s far (retold far turns by_job given survey) refl refl refl (omega arith)
      (λ batch at. refl) x.noted;
  claimed = claimed_stay s far (retold far turns by_job given survey) refl refl x.claimed;
  away = record {
    sound = away_alike s far turns by_job given survey x.away.sound;
    join = λ pair at. pair_alike far turns by_job given survey pair (x.away.join pair at);
    survey = record { drawn = holds.drawn; none = holds.none; counted = holds.counted };
  };
}

pub recounted_sound : (s : Shown) (far : FarState) (turns : ℕ) (by_job : List ℕ) (given : ℕ)
    → Sound s far → Sound s (recounted far turns by_job given)
recounted_sound s far turns by_job given x =
    retold_sound s far turns by_job given far.survey x.away.survey x
