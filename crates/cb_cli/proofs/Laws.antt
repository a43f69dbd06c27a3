-- The lemmas of this crate that other crates cite.
pub use Rattle.cb_cli.proofs.CommandWords.{one_command}
pub use Rattle.cb_cli.proofs.FourWords.{no_command_draws}
pub use Rattle.cb_cli.proofs.Statuses.{same_outcome, status_of-le}
pub use Rattle.cb_cli.proofs.Whole.{taken_is}
pub use Rattle.cb_cli.proofs.WorkedTexts.{lane_line}
pub use Rattle.cb_cli.proofs.WorkedWords.{check_named, local_named, no_word, seq_named}
