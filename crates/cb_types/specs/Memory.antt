-- What a source and a sink in memory keep.
use Rattle.std.specs.Prelude.{ℕ, List}

-- the bytes that are left, the most that one call gives, the calls that fail, how many calls there
-- were, how many failed
pub record MemInput : Type 0 where
  pub left : List ℕ
  pub piece : ℕ
  pub failing : List ℕ
  pub calls : ℕ
  pub faults : ℕ

-- the bytes held, the most that one call takes, the calls that fail, how many calls there were, how
-- many failed
pub record MemOutput : Type 0 where
  pub held : List ℕ
  pub piece : ℕ
  pub failing : List ℕ
  pub calls : ℕ
  pub faults : ℕ
