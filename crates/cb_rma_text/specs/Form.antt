-- Which schedules there are, and which bytes spell one.
use Rattle.std.specs.Prelude.{◌≡◌, ℕ, ◌<◌, ◌≤◌, ◌^◌, List, ◌∷◌, length, map, All}
use Rattle.std.specs.List.{AllByRecursion}
use Rattle.cb_script.specs.Spelling.{lines_of}
use Rattle.cb_rma.specs.declared.order.Order.{Order}
use Rattle.cb_rma.specs.declared.order.Order.TheVariants.{Put, Add, Drop}
use Rattle.cb_rma.specs.declared.step.Step.{Step}
use Rattle.cb_rma.specs.declared.step.Step.TheVariants.{Submit, Send, Ask, Ack, Restart, Show}
use Rattle.cb_rma_text.specs.Spelling.{window_line, step_line}

-- a number of at most nine digits
abbrev pub IsOfNineDigits : ℕ → Type 0
IsOfNineDigits n = n < 10 ^ 9

-- 1 to 4,096 bytes
pub record IsRow (row : List ℕ) : Type 0 where
  pub some : 1 ≤ length row
  pub few : length row ≤ 4096
  pub each : All (λ b. b < 256) row

-- 1 to 64 orders
pub record IsWindow (window : ℕ) : Type 0 where
  pub some : 1 ≤ window
  pub few : window ≤ 64

-- the order's numbers and bytes have their forms
abbrev pub IsOrderInForm : Order → Type 0
IsOrderInForm (Put key row) = IsOfNineDigits key × IsRow row
IsOrderInForm (Add key c row) = IsOfNineDigits key × (c < 256) × IsRow row
IsOrderInForm (Drop key) = IsOfNineDigits key

-- the event's numbers and bytes have their forms
abbrev pub IsInForm : Step → Type 0
IsInForm (Submit order) = IsOrderInForm order
IsInForm (Send number) = IsOfNineDigits number
IsInForm (Ask packet) = IsOfNineDigits packet
IsInForm (Ack packet) = IsOfNineDigits packet
IsInForm Restart = Unit {0}
IsInForm (Show key) = IsOfNineDigits key

-- The bytes spell the schedule, and they are no longer than they may be.
pub record Spells (bytes : List ℕ) (window : ℕ) (events : List Step) : Type 0 where
  pub short : length bytes ≤ 1048576
  pub window_is : IsWindow window
  pub few : length events ≤ 20000
  pub form : AllByRecursion IsInForm events
  pub text : lines_of bytes ≡ window_line window ∷ map step_line events
