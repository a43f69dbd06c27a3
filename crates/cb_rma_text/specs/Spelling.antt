-- How a schedule is spelled.
use Rattle.std.specs.Prelude.{ℕ, List, [], ◌∷◌, codes}
use Rattle.std.specs.List.{join_with_byte}
use Rattle.std.specs.Fmt.{decimal}
use Rattle.hex.specs.Hex.{encode_lower}
use Rattle.cb_script.specs.Spelling.{setting}
use Rattle.cb_rma.specs.declared.order.Order.{Order}
use Rattle.cb_rma.specs.declared.order.Order.TheVariants.{Put, Add, Drop}
use Rattle.cb_rma.specs.declared.step.Step.{Step}
use Rattle.cb_rma.specs.declared.step.Step.TheVariants.{Submit, Send, Ask, Ack, Restart, Show}

-- the words of the header
abbrev pub window_words : ℕ → List (List ℕ)
window_words window = codes "rma" ∷ codes "1" ∷ setting (codes "window") window ∷ []

-- the header, its words with one space between them
unfoldable pub window_line : ℕ → List ℕ
window_line window = join_with_byte 32 (window_words window)

-- the words of an order
abbrev pub order_words : Order → List (List ℕ)
order_words (Put key row) = codes "put" ∷ decimal key ∷ encode_lower row ∷ []
order_words (Add key c row) =
    codes "add" ∷ decimal key ∷ encode_lower (c ∷ []) ∷ encode_lower row ∷ []
order_words (Drop key) = codes "drop" ∷ decimal key ∷ []

-- the words of an event
abbrev pub step_words : Step → List (List ℕ)
step_words (Submit order) = order_words order
step_words (Send number) = codes "send" ∷ decimal number ∷ []
step_words (Ask packet) = codes "ask" ∷ decimal packet ∷ []
step_words (Ack packet) = codes "ack" ∷ decimal packet ∷ []
step_words Restart = codes "restart" ∷ []
step_words (Show key) = codes "show" ∷ decimal key ∷ []

-- an event's line, its words with one space between them
abbrev pub step_line : Step → List ℕ
step_line event = join_with_byte 32 (step_words event)
