-- Which two sets can be joined, and what is noted of a search that found none.
use Rattle.std.specs.Prelude.{◌≡◌, ℕ, ◌+◌, ◌-◌, ◌<◌, ◌≤◌, Some, length, slice_index}
use Rattle.cb_set.specs.SetState.{SetState, parities}
use Rattle.cb_set.specs.Matched.{IsMatched}
use Rattle.cb_types.specs.declared.job.Job.TheVariants.{Pair, Compact}
use Rattle.cb_types.specs.Jobs.{job_index}
use Rattle.cb_world.specs.Counts.{CountsState}
use Rattle.cb_world.specs.Sets.{set_in}
use Rattle.cb_world.specs.FarState.{FarState}

-- two committed sets can be joined: they are of one code, both whole, and no position is live in
-- both
pub record CanJoin (far : FarState) (x y : ℕ) (a b : SetState) : Type 0 where
  pub a_there : set_in far.sets x ≡ Some a
  pub b_there : set_in far.sets y ≡ Some b
  pub data_count : length b.positions ≡ length a.positions
  pub parity_count : parities b ≡ parities a
  pub matched : IsMatched far.members a b

-- no two sets can be joined
abbrev pub NoneCanJoin : FarState → Type 0
NoneCanJoin far = (i j : ℕ) (c d : SetState) → i < j → ¬ (CanJoin far i j c d)

-- the turns that look for no two sets to join: all but those of the two jobs that do
abbrev pub others : CountsState → ℕ
others counts =
    counts.turns - (slice_index counts.by_job (job_index Pair)
    + slice_index counts.by_job (job_index Compact))

-- Where it is noted that none were found after so many turns that look for none, there were no more
-- of these yet; and as long as there are no more, no two sets can be joined.
abbrev pub HoldsNoPair : FarState → Type 0
HoldsNoPair far = (n : ℕ) → far.survey.no_pair ≡ Some n
    → (n ≤ others far.counts) × (n ≡ others far.counts → NoneCanJoin far)

-- it is noted now that none were found
abbrev pub with_no_pair : FarState → FarState
with_no_pair far = record far {
  survey = record far.survey { no_pair = Some (others far.counts) };
}
