-- One order of the answers of all lanes.
use Rattle.std.specs.Prelude.{◌≡◌, ℕ, nat_eq, List, ◌++◌, filter}
use Rattle.cb_types.specs.declared.answer.Answer.{Answer}
use Rattle.cb_model.specs.Legal.{IsLegalInOrder}

-- the answers of a lane
abbrev pub answers_of : ℕ → List Answer → List Answer
answers_of lane answers = filter (λ a. nat_eq a.lane.n lane) answers

-- The answers in another order: each lane has the same ones, in its own order, and those of lane 0
-- come first.
pub record IsOrderOf (answers order : List Answer) : Type 0 where
  pub kept : (lane : ℕ) → answers_of lane order ≡ answers_of lane answers
  pub others : List Answer
  pub begins : order ≡ answers_of 0 answers ++ others

-- There is one order of all answers in which each is the map's reply after those before it: a plain
-- map that answers these lines one after the other, in that order, gives exactly these answers
-- (sequential consistency; Lamport 1979).
pub record IsSerial (first handles : ℕ) (answers : List Answer) : Type 0 where
  pub order : List Answer
  pub is : IsOrderOf answers order
  pub legal : IsLegalInOrder first handles order
