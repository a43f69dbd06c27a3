-- What a command accepts it does not refuse, and the verdicts that leave the ending.
use Rattle.std.proofs.Common.{◌≡◌, ℕ, List, Some, refl, sym, subst}
use Rattle.cb_script.specs.declared.fault.Reason.{Reason}
use Rattle.cb_script.specs.declared.fault.ScriptFault.{ScriptFault}
use Rattle.cb_script.specs.declared.fault.ScriptFault.TheVariants.{Bad}
use Rattle.cb_script.specs.declared.script.Mode.TheVariants as scripts
use Rattle.cb_script.specs.declared.script.Script.{Script}
use Rattle.cb_script.specs.First.{First}
use Rattle.cb_script.specs.Reading.{FaultIs}
use Rattle.cb_script.proofs.PublicLaws.{spells_no_fault}
use Rattle.cb_text.specs.Line.{text_of}
use Rattle.cb_cli.specs.Texts.{fault_text}
use Rattle.cb_cli.specs.declared.words.Command.{Command}
use Rattle.cb_cli.specs.declared.words.Command.TheVariants.{Seq, Threads, Local, Check, Rma, Scrub, Map}
use Rattle.cb_cli.specs.declared.verdict.Verdict.{Verdict}
use Rattle.cb_cli.specs.declared.verdict.Verdict.TheVariants.{Done, Refused}
use Rattle.cb_lanes.specs.declared.side.Side.{Side}
use Rattle.cb_lanes.specs.declared.side.Side.TheVariants.{Nodes, Compute}
use Rattle.cb_rma_text.specs.Verdicts as schedules
use Rattle.cb_rma_text.proofs.PublicLaws.{accepted_not_refused as schedule_not_refused}
use Rattle.cb_map_text.proofs.PublicLaws.{accepted_not_refused as commands_not_refused}
use Rattle.cb_scrub_text.specs.Verdicts as scrubs
use Rattle.cb_scrub_text.proofs.Laws.{accepted_not_refused as rows_not_refused}
use Rattle.cb_app.specs.declared.ending.Ending.{Ending}
use Rattle.cb_app.specs.Modes.{Accepts, Refuses, IsVerdict, YieldsAnswers, command_of}
use Rattle.cb_app.specs.Scripts.{IsAnswered, TellsFault, ending_text}
use Rattle.cb_app.specs.Threaded.{IsRun, IsThreaded}
use Rattle.cb_app.specs.declared.threads.ThreadsEnd.{ThreadsEnd}

-- what a command accepts it does not refuse: a row for each command
pub not_both : (command : Command) (bytes text : List ℕ) → Accepts command bytes
    → Refuses command bytes text → ⊥
not_both Seq bytes text accepted refused =
    spells_no_fault bytes scripts.Seq accepted.0 refused.0 refused.1 accepted.1 refused.2
not_both Threads bytes text accepted refused =
    spells_no_fault bytes scripts.Threads accepted.0 refused.0 refused.1 accepted.1 refused.2
not_both Local bytes text accepted refused =
    spells_no_fault bytes scripts.Seq accepted.0 refused.0 refused.1 accepted.1 refused.2
not_both Check bytes text accepted refused =
    spells_no_fault bytes scripts.Seq accepted.0 refused.0 refused.1 accepted.1 refused.2
not_both Rma bytes text accepted refused = schedule_not_refused bytes text accepted refused
not_both Scrub bytes text accepted refused = rows_not_refused bytes text accepted refused
not_both Map bytes text accepted refused = commands_not_refused bytes text accepted refused

-- the verdict on a script that was answered, and on bytes that are none, with parities of each side
pub answered_verdict : (side : Side) (bytes : List ℕ) (old new : Ending) (text : List ℕ)
    → YieldsAnswers side bytes new text → IsVerdict (command_of side) bytes old new (Done text)
answered_verdict Nodes bytes old new text yields = ((yields.0, yields.1), yields)
answered_verdict Compute bytes old new text yields = ((yields.0, yields.1), yields)

fault_told : (side : Side) (bytes : List ℕ) (end : Ending) (text : List ℕ)
    → TellsFault (First bytes scripts.Seq) text
    → IsVerdict (command_of side) bytes end end (Refused text)
fault_told Nodes bytes end text tells = (tells, refl)
fault_told Compute bytes end text tells = (tells, refl)

pub fault_verdict : (side : Side) (bytes : List ℕ) (end : Ending) (fault : ScriptFault)
    → FaultIs fault (First bytes scripts.Seq) → (verdict : Verdict)
    → (line : ℕ) × (reason : Reason) × (fault ≡ Bad line reason)
    × (verdict ≡ Refused (fault_text line reason))
    → IsVerdict (command_of side) bytes end end verdict
fault_verdict side bytes end fault is verdict (line, reason, bad, told) =
    let first : First bytes scripts.Seq line reason =
    subst (λ (f : ScriptFault). FaultIs f (First bytes scripts.Seq)) bad is in
    subst (IsVerdict (command_of side) bytes end end) (sym told)
    (fault_told side bytes end (fault_text line reason) (line, reason, first, refl))

-- the verdict on bytes that are no script for threads
pub thread_fault_verdict : (bytes : List ℕ) (end : Ending) (fault : ScriptFault)
    → FaultIs fault (First bytes scripts.Threads) → (verdict : Verdict)
    → (line : ℕ) × (reason : Reason) × (fault ≡ Bad line reason)
    × (verdict ≡ Refused (fault_text line reason))
    → IsVerdict Threads bytes end end verdict
thread_fault_verdict bytes end fault is verdict (line, reason, bad, told) =
    let first : First bytes scripts.Threads line reason =
    subst (λ (f : ScriptFault). FaultIs f (First bytes scripts.Threads)) bad is in
    subst (IsVerdict Threads bytes end end) (sym told) ((line, reason, first, refl), refl)

-- the ending that is left of a script that was answered, and of one that threads answered, and the
-- text that tells it
pub answered_told : (side : Side) (script : Script) (made left : Ending) → IsAnswered side script made
    → (text : List ℕ) → (left ≡ made) × (text ≡ ending_text side made)
    → IsAnswered side script left × (text ≡ ending_text side left)
answered_told side script made left answered text (left_is, text_is) =
    subst (λ (e : Ending). IsAnswered side script e × (text ≡ ending_text side e)) (sym left_is) (answered, text_is)

pub threaded_told : (script : Script) (told : ThreadsEnd) (made left : Ending)
    → made ≡ record {
      config = Some script.config;
      answers = told.answers;
      losses = told.losses;
      world = Some told.world;
      seal = Some told.seal;
    }
    → IsRun script told
    → (text : List ℕ) → (left ≡ made) × (text ≡ text_of made.answers)
    → IsThreaded script left × (text ≡ text_of left.answers)
threaded_told script told made left made_is run text (left_is, text_is) =
    subst (λ (e : Ending). IsThreaded script e × (text ≡ text_of e.answers)) (sym left_is) (
      subst (λ (e : Ending). IsThreaded script e) (sym made_is) (record {
        told = told;
        run = run;
        config = refl;
        answers = refl;
        losses = refl;
        world = refl;
        seal = refl;
      }),
      text_is,
    )

-- the verdict on a schedule, which leaves the ending
pub rma_verdict : (bytes : List ℕ) (end : Ending) (verdict : Verdict) → schedules.IsVerdict bytes verdict
    → IsVerdict Rma bytes end end verdict
rma_verdict bytes end (Done text) yields = (
  record { window = yields.window; events = yields.events; spelled = yields.spelled },
  (yields, refl),
)
rma_verdict bytes end (Refused text) refuses = (refuses, refl)

-- the verdict on rows, which leaves the ending
pub scrub_verdict : (bytes : List ℕ) (end : Ending) (verdict : Verdict) → scrubs.IsVerdict bytes verdict
    → IsVerdict Scrub bytes end end verdict
scrub_verdict bytes end (Done text) yields = (
  record { asked = yields.asked; spelled = yields.spelled },
  (yields, refl),
)
scrub_verdict bytes end (Refused text) refuses = (refuses, refl)
