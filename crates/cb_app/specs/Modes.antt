-- What each command does with the bytes that were taken, a row for each command. The two endings
-- are the one before and the one that is left.
use Rattle.std.specs.Prelude.{◌≡◌, ℕ, List}
use Rattle.cb_script.specs.declared.script.Script.{Script}
use Rattle.cb_script.specs.declared.script.Mode.TheVariants as scripts
use Rattle.cb_script.specs.First.{First}
use Rattle.cb_script.specs.Form.{Spells}
use Rattle.cb_cli.specs.Texts.{check_text}
use Rattle.cb_cli.specs.declared.words.Command.{Command}
use Rattle.cb_cli.specs.declared.words.Command.TheVariants.{Seq, Threads, Local, Check, Rma, Scrub, Map}
use Rattle.cb_cli.specs.declared.verdict.Verdict.{Verdict}
use Rattle.cb_cli.specs.declared.verdict.Verdict.TheVariants.{Done, Refused}
use Rattle.cb_lanes.specs.declared.side.Side.{Side}
use Rattle.cb_lanes.specs.declared.side.Side.TheVariants.{Nodes, Compute}
use Rattle.cb_rma_text.specs.Verdicts as schedules
use Rattle.cb_scrub_text.specs.Verdicts as scrubs
use Rattle.cb_map_text.specs.declared.command.FarAnswer.{FarAnswer}
use Rattle.cb_map_text.specs.declared.command.FarCommand.{FarCommand}
use Rattle.cb_map_text.specs.Form as far
use Rattle.cb_map_text.specs.Texts.{said_text}
use Rattle.cb_map_text.specs.Verdicts as commands
use Rattle.cb_types.specs.declared.config.Config.{Config}
use Rattle.cb_app.specs.declared.ending.Ending.{Ending}
use Rattle.cb_text.specs.Line.{text_of}
use Rattle.cb_app.specs.Scripts.{IsAnswered, IsChecked, TellsFault, ending_text}
use Rattle.cb_app.specs.Mapped.{IsMapped}
use Rattle.cb_app.specs.Threaded.{IsThreaded}

-- the command that answers a script where this side makes the parities of a compaction
abbrev pub command_of : Side → Command
command_of Nodes = Seq
command_of Compute = Local

-- the bytes spell a script that was answered, where this side makes the parities of a compaction,
-- and the text tells the ending
abbrev pub YieldsAnswers : Side → List ℕ → (new : Ending) → List ℕ → Type 0
YieldsAnswers side bytes new text =
    (script : Script) × Spells bytes scripts.Seq script
    × IsAnswered side script new × (text ≡ ending_text side new)

-- the ending and the text that a command yields for bytes
abbrev pub Yields : Command → List ℕ → (old new : Ending) → List ℕ → Type 0
Yields Seq bytes old new text = YieldsAnswers Nodes bytes new text
Yields Threads bytes old new text =
    (script : Script) × Spells bytes scripts.Threads script
    × IsThreaded script new × (text ≡ text_of new.answers)
Yields Local bytes old new text = YieldsAnswers Compute bytes new text
Yields Check bytes old new text =
    (script : Script) × Spells bytes scripts.Seq script
    × IsChecked script new × (text ≡ check_text script)
Yields Rma bytes old new text = schedules.Yields bytes text × (new ≡ old)
Yields Scrub bytes old new text = scrubs.Yields bytes text × (new ≡ old)
Yields Map bytes old new text =
    (c : Config) × (asks : List FarCommand) × (saids : List FarAnswer)
    × far.Spells bytes c asks × IsMapped c asks saids new × (text ≡ said_text saids)

-- the command refuses the bytes, and this text tells where and why
abbrev pub Refuses : Command → List ℕ → List ℕ → Type 0
Refuses Seq bytes text = TellsFault (First bytes scripts.Seq) text
Refuses Threads bytes text = TellsFault (First bytes scripts.Threads) text
Refuses Local bytes text = TellsFault (First bytes scripts.Seq) text
Refuses Check bytes text = TellsFault (First bytes scripts.Seq) text
Refuses Rma bytes text = schedules.Refuses bytes text
Refuses Scrub bytes text = scrubs.Refuses bytes text
Refuses Map bytes text = commands.Refuses bytes text

-- the bytes have the form that the command wants: `seq`, `local` and `check` want a script,
-- `threads` one without steps, `rma` a schedule, `scrub` rows, and `map` commands
abbrev pub Accepts : Command → List ℕ → Type 0
Accepts Seq bytes = (script : Script) × Spells bytes scripts.Seq script
Accepts Threads bytes = (script : Script) × Spells bytes scripts.Threads script
Accepts Local bytes = (script : Script) × Spells bytes scripts.Seq script
Accepts Check bytes = (script : Script) × Spells bytes scripts.Seq script
Accepts Rma bytes = schedules.Accepts bytes
Accepts Scrub bytes = scrubs.Accepts bytes
Accepts Map bytes = commands.Accepts bytes

-- The verdict on bytes is right: they are accepted and done with, or refused, and the ending stays.
abbrev pub IsVerdict : Command → List ℕ → (old new : Ending) → Verdict → Type 0
IsVerdict command bytes old new (Done text) =
    Accepts command bytes × Yields command bytes old new text
IsVerdict command bytes old new (Refused text) = Refuses command bytes text × (new ≡ old)
