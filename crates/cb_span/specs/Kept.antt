use Rattle.std.specs.Prelude.{◌≡◌, ℕ, ◌<◌, ◌≤◌, false, is_none, length}
use Rattle.cb_span.specs.Contents.{Contents, IsSpan, handle_at, live_count}

-- what a span keeps beside its contents: the count of taken slots, and a slot below which all are
-- taken
pub record IsKept (span : Contents) (live taken_below : ℕ) : Type 0 where
  pub valid : IsSpan span
  pub counted : live ≡ live_count span
  pub within : taken_below ≤ length span.slots
  pub taken : (k : ℕ) → k < taken_below → is_none (handle_at span k) ≡ false
