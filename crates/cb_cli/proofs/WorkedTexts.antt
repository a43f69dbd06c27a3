-- Worked examples: how lanes are counted, and the texts that a run puts.
use Rattle.std.proofs.Common.{◌≡◌, ℕ, [], ◌∷◌, refl}
use Rattle.std.specs.Prelude.{codes}
use Rattle.std.specs.Fmt.{digits}
use Rattle.cb_types.specs.declared.config.Config.{Config}
use Rattle.cb_types.specs.declared.request.Request.{Request}
use Rattle.cb_types.specs.declared.request.Request.TheVariants.{Compact, Leave}
use Rattle.cb_script.specs.declared.fault.Reason.TheVariants as reasons
use Rattle.cb_script.specs.declared.script.Line.{Line}
use Rattle.cb_cli.specs.Lanes.{lane_count}
use Rattle.cb_cli.specs.Texts.{fault_text, words_refused, check_text, given_line}

-- ---- lanes

abbrev pub lane_line : ℕ → ℕ → Request → Line
lane_line lane line r = record { lane = record { n = lane }; line = line; request = r }

no_lane : lane_count [] ≡ 0
no_lane = refl

-- a lane that stands twice counts once, also where others stand between
lane_twice : lane_count (lane_line 1 2 Compact ∷ lane_line 1 3 Leave ∷ []) ≡ 1
lane_twice = refl

lanes_in_turn : lane_count (lane_line 1 2 Compact ∷ lane_line 2 3 Compact ∷ lane_line 1 4 Compact ∷ lane_line 2 5 Compact ∷ []) ≡ 2
lanes_in_turn = refl

-- lane 0 counts
first_and_last : lane_count (lane_line 0 2 Compact ∷ lane_line 15 3 Compact ∷ lane_line 15 4 Compact ∷ []) ≡ 2
first_and_last = refl

-- ---- texts

refused_words : words_refused ≡ codes "words refused\n"
refused_words = refl

a_fault : fault_text 8 reasons.Hex ≡ codes "script line 8 reason 10 hex\n"
unfolding digits
a_fault = refl

ten_given : given_line 10 ≡ codes "given 10\n"
unfolding digits
ten_given = refl

none_given : given_line 0 ≡ codes "given 0\n"
unfolding digits
none_given = refl

-- the header is no line, and a lane that stands twice counts once
checked_lines : (config : Config)
    → check_text (record { config = config; lines = lane_line 3 2 Compact ∷ lane_line 3 3 Leave ∷ [] }) ≡ codes "script ok lines 2 lanes 1\n"
unfolding digits
checked_lines config = refl
