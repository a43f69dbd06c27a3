-- Which two sets begin to join, and the far state then.
use Rattle.std.specs.Prelude.{◌≡◌, ◌⊎◌, ℕ, ◌<◌, ◌≤◌, List, None, Some, length, filter, replicate}
use Rattle.std.specs.List.{range_with_len}
use Rattle.cb_set.specs.SetState.{SetState, live_at}
use Rattle.cb_types.specs.declared.handle.SetId.{SetId}
use Rattle.cb_types.specs.declared.reply.Reply.{Reply}
use Rattle.cb_types.specs.declared.reply.Reply.TheVariants as answer
use Rattle.cb_world.specs.Joining.{JoiningState}
use Rattle.cb_world.specs.FarState.{FarState}
pub use Rattle.cb_world.specs.Pairs.{CanJoin, NoneCanJoin}
use Rattle.cb_world.specs.Pairs.{with_no_pair}

-- x is the least number of a set that can be joined with one of a greater number, and y is the
-- least number of such another one
pub record IsFirstPair (far : FarState) (x y : ℕ) (a b : SetState) : Type 0 where
  pub above : x < y
  pub can : CanJoin far x y a b
  pub least_a : (i j : ℕ) (c d : SetState) → i < j → CanJoin far i j c d → x ≤ i
  pub least_b : (j : ℕ) (c d : SetState) → x < j → CanJoin far x j c d → y ≤ j

-- the live positions of a set, in order
abbrev pub live_positions : SetState → List ℕ
live_positions set = filter (live_at set) (range_with_len 0 (length set.positions))

-- the pair at its begin: b's live positions are taken, and no step is done
abbrev pub begun_pair : ℕ → ℕ → SetState → SetState → JoiningState
begun_pair x y a b = record {
  a = x;
  b = y;
  shards_a = a.shards;
  shards_b = b.shards;
  taken = live_positions b;
  steps = replicate (length a.shards) None;
}

-- the number of a set, as a reply carries it
abbrev pub set_numbered : ℕ → SetId
set_numbered n = record { n = n }

-- the far state once this pair joins
abbrev pub with_pair : FarState → JoiningState → FarState
with_pair far pair = record far { joining = Some pair }

-- a pair is joining already, stale or not
pub record IsJoining (far new : FarState) (r : Reply) : Type 0 where
  pub pair : JoiningState
  pub there : far.joining ≡ Some pair
  pub reply : r ≡ answer.Joining (set_numbered pair.a) (set_numbered pair.b)
  pub state : new ≡ far

-- no two sets can be joined, and that is noted
pub record FindsNoPair (far new : FarState) (r : Reply) : Type 0 where
  pub none : far.joining ≡ None
  pub no_two : NoneCanJoin far
  pub reply : r ≡ answer.NoPair
  pub state : new ≡ with_no_pair far

-- the first two sets that can be joined begin to
pub record IsPaired (far new : FarState) (r : Reply) : Type 0 where
  pub none : far.joining ≡ None
  pub x : ℕ
  pub y : ℕ
  pub a : SetState
  pub b : SetState
  pub first : IsFirstPair far x y a b
  pub reply : r ≡ answer.Pair (set_numbered x) (set_numbered y)
  pub state : new ≡ with_pair far (begun_pair x y a b)

-- the begin of a pair: the reply and the far state after it
abbrev pub PairStep : FarState → FarState → Reply → Type 0
PairStep far new r = IsJoining far new r ⊎ FindsNoPair far new r ⊎ IsPaired far new r
