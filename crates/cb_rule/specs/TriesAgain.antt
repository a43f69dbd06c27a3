-- Turns that were refused for want of loose spans, and that are made again.
use Rattle.std.specs.Prelude.{ℕ, ◌+◌, ◌*◌, ◌&&◌, ◌||◌, Bool, false, leb, ltb, not, length}
use Rattle.std.specs.Prelude.{Option, None, Some, slice_index}
use Rattle.std.specs.List.{list_any, position_or_len}
use Rattle.cb_class.specs.Class.{page_counts, sizes}
use Rattle.cb_types.specs.declared.job.Job.{Job}
use Rattle.cb_types.specs.declared.job.Job.TheVariants.{Land, Make, Read, Write, Swap}
use Rattle.cb_types.specs.declared.order.Kept.{Kept}
use Rattle.cb_types.specs.declared.order.Kept.TheVariants.{Decode}
use Rattle.cb_types.specs.declared.reply.Reply.{Reply}
use Rattle.cb_types.specs.declared.reply.Reply.TheVariants.{NoRoom}
use Rattle.cb_set.specs.SetState.{SetState}
use Rattle.cb_world.specs.declared.homes.Home.{Home}
use Rattle.cb_world.specs.FarState.{FarState, pages_if}
use Rattle.cb_world.specs.Homes.{home_at}
use Rattle.cb_world.specs.Sets.{set_in}
use Rattle.cb_rule.specs.declared.turn.Turn.{Turn}

-- the pages of a span of objects of this length: of the least class whose slots hold it
abbrev pub pages_for : ℕ → ℕ
pages_for len = slice_index page_counts (position_or_len (λ size. leb len size) sizes)

-- the pages of each span of a set, and 0 where there is none
abbrev pub set_pages : Option SetState → ℕ
set_pages None = 0
set_pages (Some set) = set.pages

-- the pages of the span in which a far object lies
abbrev pub home_pages : FarState → Option Home → ℕ
home_pages far None = 0
home_pages far (Some home) = set_pages (set_in far.sets home.set)

-- the pages of each span of the set whose row an order makes
abbrev pub order_pages : FarState → Option Kept → ℕ
order_pages far (Some (Decode order)) = set_pages (set_in far.sets order.set)
order_pages far order = 0

-- the pages of the span for which a job needs frames, where its seat keeps this order
abbrev pub job_pages : FarState → Option Kept → Job → ℕ
job_pages far order (Make bytes) = pages_for (length bytes)
job_pages far order (Read handle) = home_pages far (home_at far.homes handle.n)
job_pages far order (Write handle at bytes) = home_pages far (home_at far.homes handle.n)
job_pages far order (Swap handle) = home_pages far (home_at far.homes handle.n)
job_pages far order Land = order_pages far order
job_pages far order job = 0

-- a span of so many pages, or one in local memory, has more than one
abbrev pub is_wide : FarState → ℕ → Bool
is_wide far pages = ltb 1 pages || list_any (λ span. ltb 1 (pages_if span)) far.spans

-- Fewer spans than an eviction takes were loose, but with so many frames the next one may find
-- enough for a span of so many pages. 20 passes with 16 pins, a read and a write each keep at most
-- 360 spans from being loose, beside k of a batch that leaves, and less than k are loose: 2k + 359.
-- Of three lengths of spans there may be less than k loose ones each, and one span in seven frames
-- leaves no run of four free: 7 (4k + 357) + 3.
abbrev pub may_come_loose : FarState → ℕ → ℕ → ℕ → Bool
may_come_loose far pages frames loose = ltb loose far.code.k && (leb (2 * far.code.k + 360) frames
    && (leb (28 * far.code.k + 2600) frames || not (is_wide far pages)))

-- a turn of this job, after this order and so answered, that gave this far state is made again
abbrev pub is_to_try_again : FarState → Option Kept → Job → Option Reply → Bool
is_to_try_again gave order job (Some (NoRoom frames loose nodes)) =
    may_come_loose gave (job_pages gave order job) frames loose
is_to_try_again gave order job reply = false

abbrev pub tries_again : Turn → Bool
tries_again t = is_to_try_again t.gave t.order t.job t.reply
