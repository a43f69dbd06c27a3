-- The lemmas of this crate that other crates cite.
pub use Rattle.cb_swapin.proofs.FarHomes.{given_known, gone_is_broken}
pub use Rattle.cb_swapin.proofs.FetchFixed.{fetch_fixes}
pub use Rattle.cb_swapin.proofs.FetchKeeps.{fetch_gives, fetch_kept, fetch_sound}
pub use Rattle.cb_swapin.proofs.LandKeeps.{land_cases, land_codes, land_keeps, land_keeps_far, land_leaving_stays, land_rule_cases, land_settings_stay, land_stays, land_step_codes, land_step_fixes, land_step_stays}
pub use Rattle.cb_swapin.proofs.LandStep.{land_step, land_unwritten, lands_swaps}
pub use Rattle.cb_swapin.proofs.OrderRow.{kept_solution, made_row}
pub use Rattle.cb_swapin.proofs.SlotNames.{named_within}
pub use Rattle.cb_swapin.proofs.SwapAnswers.{by_answer, unavailable_answer}
pub use Rattle.cb_swapin.proofs.SwapFixed.{swap_step_fixes}
pub use Rattle.cb_swapin.proofs.SwapKeeps.{keeps_far, leaving_stays, settings_stay, step_cases, step_only_no_frame}
pub use Rattle.cb_swapin.proofs.SwapLeaves.{fetch_leaves_words, given_leaves_words, land_leaves_words, swap_leaves_words}
pub use Rattle.cb_swapin.proofs.SwapPins.{home_comes_in, named_far, swap_keeps}
pub use Rattle.cb_swapin.proofs.SwapStays.{given_stays, swap_codes, swap_stays, swap_step_codes, swap_step_stays}
pub use Rattle.cb_swapin.proofs.SwapStep.{swap_step}
pub use Rattle.cb_swapin.proofs.SwapUnwritten.{swap_unwritten}
