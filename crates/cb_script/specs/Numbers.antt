-- Which numbers a script has.
use Rattle.std.specs.Prelude.{◌<◌, ◌^◌}
use Rattle.cb_types.specs.declared.config.Config.{Config}

-- each field is a number of at most nine digits
pub record AreNumbers (c : Config) : Type 0 where
  pub k : c.k < 10 ^ 9
  pub r : c.r < 10 ^ 9
  pub nodes : c.nodes < 10 ^ 9
  pub frames : c.frames < 10 ^ 9
  pub room : c.room < 10 ^ 9
  pub handles : c.handles < 10 ^ 9
  pub turns : c.turns < 10 ^ 9
