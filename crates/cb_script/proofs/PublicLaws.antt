-- The lemmas of this crate that other crates cite.
pub use Rattle.cb_script.proofs.AtEase.{roomy_at_ease}
pub use Rattle.cb_script.proofs.Cuts.{HasFirst, split_has, without_empty_end-more}
pub use Rattle.cb_script.proofs.Decimals.{decimal_value}
pub use Rattle.cb_script.proofs.Front.{AreLines-push}
pub use Rattle.cb_script.proofs.Headers.{header_refused, header_unique, setting_injective}
pub use Rattle.cb_script.proofs.HexText.{bytes_at, lower_encoded}
pub use Rattle.cb_script.proofs.Makers.{made_before, made_cases, made_here}
pub use Rattle.cb_script.proofs.OneReading.{script_unique, spells_no_fault}
pub use Rattle.cb_script.proofs.Phrases.{differ}
pub use Rattle.cb_script.proofs.Words.{AreWords, IsWord-decimal, IsWord-encoded, IsWord-setting, word_from_test, words_split}
pub use Rattle.cb_script.proofs.WorkedFaults.{empty_input}
pub use Rattle.cb_script.proofs.WorkedScript.{made_and_read, make_a, read_a, script, small, spelled}
