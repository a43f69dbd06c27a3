-- Worked examples: the first bad line and its least reason.
use Rattle.std.proofs.Common.{◌≡◌, ℕ, List, [], ◌∷◌, ◌++◌, length, refl, arith}
use Rattle.std.specs.Prelude.{codes}
use Rattle.std.specs.Fmt.{decimal, digits}
use Rattle.cb_types.specs.Config.{IsAccepted}
use Rattle.cb_types.specs.declared.config.Config.{Config}
use Rattle.cb_types.specs.declared.config.Field.TheVariants.{K, R, Nodes, Frames, Room, Handles, Turns}
use Rattle.cb_types.specs.declared.request.Request.TheVariants.{Begin, Evict}
use Rattle.cb_script.specs.declared.fault.Reason.TheVariants as reasons
use Rattle.cb_script.specs.declared.script.Mode.TheVariants.{Seq, Threads}
use Rattle.cb_script.specs.declared.script.Script.{Script}
use Rattle.cb_script.specs.declared.verb.NameVerb.TheVariants as on_name
use Rattle.cb_script.specs.declared.verb.BareVerb.TheVariants as bare
use Rattle.cb_script.specs.First.{First, place_behind}
use Rattle.cb_script.specs.Form.{IsScript, Spells}
use Rattle.cb_script.specs.Phrase.{Phrase}
use Rattle.cb_script.specs.Rules.{IsLeast, IsLineShaped, Rule, RuleHolds}
use Rattle.cb_script.specs.Spelling.{header_line}
use Rattle.cb_script.proofs.LineRules.{lane_fault, line_refused}
use Rattle.cb_script.specs.declared.fault.Refusal.TheVariants.{Broken}
use Rattle.cb_script.proofs.Least.{least_mode}
use Rattle.cb_script.proofs.OneReading.{first_unique}
use Rattle.cb_script.proofs.Scripts.{no_header}
use Rattle.cb_script.proofs.WorkedRules.{sixteenth_word}
use Rattle.cb_script.proofs.WorkedSpelling.{worked_config, worked_lane}

abbrev header : List ℕ
header = codes "carbink 1 k=2 r=2 nodes=6 frames=8 room=64 handles=16 turns=0" ++ 10 ∷ []

accepted : IsAccepted worked_config
unfolding worked_config
accepted K = (omega arith, omega arith)
accepted R = (omega arith, omega arith)
accepted Nodes = (omega arith, omega arith)
accepted Frames = (omega arith, omega arith)
accepted Room = (omega arith, omega arith)
accepted Handles = (omega arith, omega arith)
accepted Turns = omega arith

-- ---- the input as a whole, and the header

longest : (bytes : List ℕ) (line : ℕ) → length bytes ≡ 1048576 → First bytes Seq line reasons.TooLong → ⊥
longest bytes line long first = omega (arith, long, first.1)

longer : (bytes : List ℕ) → length bytes ≡ 1048577 → First bytes Seq 0 reasons.TooLong
longer bytes long = (refl, omega (arith, long))

pub empty_input : First [] Seq 1 reasons.Header
empty_input = no_header [] Seq refl

-- k is out of its range
abbrev no_data : Config
no_data = record { k = 0; r = 2; nodes = 6; frames = 8; room = 64; handles = 16; turns = 0 }

bad_config : First (codes "carbink 1 k=0 r=2 nodes=6 frames=8 room=64 handles=16 turns=0") Seq 1 reasons.Config
unfolding header_line digits
bad_config = (
  refl,
  omega arith,
  no_data,
  record {
    numbers = record { k = omega arith; r = omega arith; nodes = omega arith; frames = omega arith; room = omega arith; handles = omega arith; turns = omega arith };
    others = [];
    text = refl;
  },
  λ is. omega (arith, (is K).0),
)

-- ---- one bad line

abbrev only_header : Script
only_header = record { config = worked_config; lines = [] }

header_form : IsScript only_header
header_form = record { config = accepted; few = omega arith; lines = tt }

-- LANE and NAME are broken: the lesser reason is told
abbrev two_faults : List ℕ
two_faults = header ++ codes "16 read A"

lane_first : First two_faults Seq 2 reasons.Lane
unfolding header_line worked_config digits
lane_first = (
  omega arith,
  record {
    before = only_header;
    form = header_form;
    allowed = tt;
    text = codes "16 read A";
    after = [];
    lines = refl;
    number = refl;
    least = lane_fault (place_behind Seq only_header) (codes "16 read A") (omega arith) (codes "16") (Phrase.Naming on_name.Read (codes "A"))
        (record { words = refl; full = (omega arith, (omega arith, (omega arith, tt))) }) (λ some. sixteenth_word some.0 some.1 some.2.low);
  },
)

not_the_name : First two_faults Seq 2 reasons.Name → ⊥
not_the_name first = let same : reasons.Lane ≡ reasons.Name = (first_unique two_faults Seq 2 2 reasons.Lane reasons.Name lane_first first).1 in absurd cc

not_the_next_line : First two_faults Seq 3 reasons.Lane → ⊥
not_the_next_line first = let same : 2 ≡ 3 = (first_unique two_faults Seq 2 3 reasons.Lane reasons.Lane lane_first first).0 in omega (arith, same)

-- ---- a step in mode Threads

-- the header and `1 evict`
abbrev evicting : Script
evicting = record { config = worked_config; lines = worked_lane 1 Evict 2 ∷ [] }

evicting_form : IsScript evicting
evicting_form = record {
  config = accepted;
  few = omega arith;
  lines = (record { lane = record { low = omega arith; first = λ e. absurd (omega (arith, e)) }; line = refl; request = tt; known = tt }, tt);
}

abbrev step_input : List ℕ
step_input = header ++ codes "1 evict" ++ 10 ∷ (codes "1 begin" ++ 10 ∷ [])

begin_shaped : IsLineShaped (codes "1 begin") (decimal 1) (Phrase.Alone bare.Begin)
unfolding digits
begin_shaped = record { words = refl; full = (omega arith, (omega arith, tt)) }

begin_refused : IsLeast (RuleHolds (place_behind Threads evicting) (codes "1 begin")) reasons.Mode
begin_refused =
    line_refused (place_behind Threads evicting) (codes "1 begin") (omega arith) 1 (Phrase.Alone bare.Begin) begin_shaped (record { low = omega arith; first = λ e. absurd (omega (arith, e)) })
    (Broken reasons.Mode) (least_mode (Rule (place_behind Threads evicting) 1 (Phrase.Alone bare.Begin)) tt tt tt tt tt tt tt tt tt tt tt (λ fits. fits tt))

step_refused : First step_input Threads 3 reasons.Mode
unfolding header_line worked_config digits
step_refused = (
  omega arith,
  record { before = evicting; form = evicting_form; allowed = (λ is. is, tt); text = codes "1 begin"; after = []; lines = refl; number = refl; least = begin_refused },
)

-- the same input is a script in mode Seq, so it has no fault there
step_script : Spells step_input Seq (record { config = worked_config; lines = worked_lane 1 Evict 2 ∷ worked_lane 1 Begin 3 ∷ [] })
unfolding header_line worked_config digits
step_script = record {
  short = omega arith;
  form = record {
    config = accepted;
    few = omega arith;
    lines = (
      record { lane = record { low = omega arith; first = λ e. absurd (omega (arith, e)) }; line = refl; request = tt; known = tt },
      (record { lane = record { low = omega arith; first = λ e. absurd (omega (arith, e)) }; line = refl; request = tt; known = tt }, tt),
    );
  };
  allowed = (tt, (tt, tt));
  text = refl;
}
