-- The lemmas of this crate that other crates cite.
pub use Rattle.cb_scrub.proofs.Differing.{length-others, mended_row}
pub use Rattle.cb_scrub.proofs.Findings.{have_parities, near_word, one_finding}
pub use Rattle.cb_scrub.proofs.MendingLaws.{mended_word}
pub use Rattle.cb_scrub.proofs.Words.{one_word}
pub use Rattle.cb_scrub.proofs.WorkedScrub.{but_no_word, bytes, found_many, is_word, lengths, many, no_word, one, one_is_wrong, parities, word, word_but}
