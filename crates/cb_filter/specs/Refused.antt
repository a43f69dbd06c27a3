-- Why an object that can't be claimed is not filtered.
use Rattle.std.specs.Prelude.{◌≡◌, ℕ, ◌≤◌, List}
use Rattle.cb_ptr.specs.declared.word.State.{State}
use Rattle.cb_ptr.specs.declared.word.State.TheVariants as word
use Rattle.cb_ptr.specs.Word.{pins_of}
use Rattle.cb_types.specs.declared.reply.Reply.{Reply}
use Rattle.cb_types.specs.declared.reply.Reply.TheVariants as answer
use Rattle.cb_world.specs.declared.access.Access.{Access}
use Rattle.cb_filter.specs.FilterRule.{AbsentToFilter}

-- by the state of its word: one that is here is pinned
abbrev pub RefusedAs : State → ℕ → ℕ → List Access → Reply → Type 0
RefusedAs word.Here h w es r = (1 ≤ pins_of w) × (r ≡ answer.Pinned (pins_of w))
RefusedAs state h w es r = AbsentToFilter state h es r
