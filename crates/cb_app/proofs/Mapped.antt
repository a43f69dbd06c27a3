-- What commands leave, by what was said to them and by the runtime that was closed.
use Rattle.std.proofs.Common.{◌≡◌, ℕ, ◌≤◌, List, [], length, Some, Result, Ok, Err, IfOk, refl, sym, ◌∙◌, subst}
use Rattle.cb_member.specs.declared.no_memory.NoMemory.{NoMemory}
use Rattle.cb_types.specs.Config.{IsAccepted}
use Rattle.cb_types.specs.declared.config.Config.{Config}
use Rattle.cb_world.specs.World.{WorldState}
use Rattle.cb_rule.specs.declared.view.View.{View}
use Rattle.cb_rule.specs.Closing.{IsClosed}
use Rattle.cb_rule.specs.Steps.{opener}
use Rattle.cb_map_text.specs.First.{First}
use Rattle.cb_map_text.specs.Form.{Spells}
use Rattle.cb_map_text.specs.Reading.{FaultIs}
use Rattle.cb_map_text.specs.Texts.{refusal_text, said_text}
use Rattle.cb_map_text.specs.declared.command.FarAnswer.{FarAnswer}
use Rattle.cb_map_text.specs.declared.command.FarCommand.{FarCommand}
use Rattle.cb_map_text.specs.declared.read.TextFault.{TextFault}
use Rattle.cb_map_text.specs.declared.read.TextFault.TheVariants.{Line}
use Rattle.cb_cli.specs.declared.words.Command.TheVariants.{Map}
use Rattle.cb_cli.specs.declared.verdict.Verdict.{Verdict}
use Rattle.cb_cli.specs.declared.verdict.Verdict.TheVariants.{Done, Refused}
use Rattle.cb_shared.specs.declared.pass.Pass.{Pass}
use Rattle.cb_shared.specs.declared.runtime.Shared.{Shared}
use Rattle.cb_shared.specs.declared.seal.Seal.{Seal}
use Rattle.cb_shared.specs.Closing.{IsClosedBy}
use Rattle.cb_shared.specs.Joining.{unpinned_all}
use Rattle.cb_shared.specs.Passes.{IsRuntimeBegun, record_of}
use Rattle.cb_shared.specs.Sealing.{sealed_record}
use Rattle.cb_shared.specs.Turning.{Did}
use Rattle.cb_farmap.specs.Commands.{HaveGone}
use Rattle.cb_app.specs.declared.ending.Ending.{Ending}
use Rattle.cb_app.specs.declared.mapping.MapEnd.{MapEnd}
use Rattle.cb_app.specs.Mapped.{AreAnswered, IsMapped}
use Rattle.cb_app.specs.Modes.{IsVerdict}
use Rattle.cb_app.proofs.CommandsTold.{objects_made, told, turns_are}

-- without pins there are none to give back
none_given_back : (v : View) → v.pins ≡ [] → unpinned_all v ≡ v
none_given_back v none = λ i. record v { pins = sym none i }

-- commands that were run on a runtime of this configuration, which was closed behind them
module _ (c : Config) (ok : IsAccepted c) (asks : List FarCommand) (few : length asks ≤ 20000)
    (s : Shared) (p q : Pass) (begun : IsRuntimeBegun 1 c s p) (saids : List FarAnswer)
    (gone : HaveGone s.config 1 asks saids (record_of p) (record_of q))
    (loose : (record_of q).pins ≡ [])
    (w : WorldState) (seal : Seal) (closed : IsClosedBy s q w seal) where
  abbrev last : View
  last = sealed_record seal

  closed_so : IsClosed Did 1 c last w
  closed_so = subst (λ (v : View). IsClosed Did 1 c v w) (sym closed.view)
      (subst (λ (d : Config). IsClosed Did 1 d (unpinned_all (record_of q)) w) begun.config
      (subst (λ (n : ℕ). IsClosed Did n s.config (unpinned_all (record_of q)) w) begun.first_is
      closed.closed))

  gone_so : HaveGone c 1 asks saids (opener c) last
  gone_so = subst (HaveGone c 1 asks saids (opener c))
      (sym (closed.view ∙ none_given_back (record_of q) loose))
      (subst (λ (v : View). HaveGone c 1 asks saids v (record_of q)) begun.begun
      (subst (λ (d : Config). HaveGone d 1 asks saids (record_of p) (record_of q)) begun.config gone))

  pub answered : AreAnswered c asks saids w seal
  answered = record {
    shows = closed.world;
    closed = closed_so;
    gone = gone_so;
    turns_are = turns_are c ok last w asks saids few closed_so gone_so;
    told = told c ok last w asks saids few closed_so gone_so;
    made = objects_made c ok last w asks saids few closed_so gone_so;
  }

-- so behind the call that closed it, unless there was no memory
pub if_answered : (c : Config) → IsAccepted c → (asks : List FarCommand) → length asks ≤ 20000
    → (s : Shared) (p q : Pass) → IsRuntimeBegun 1 c s p → (saids : List FarAnswer)
    → HaveGone s.config 1 asks saids (record_of p) (record_of q) → (record_of q).pins ≡ []
    → (r : Result MapEnd NoMemory) → IfOk r (λ left. left.saids ≡ saids)
    → IfOk r (λ left. IsClosedBy s q left.world left.seal)
    → IfOk r (λ left. AreAnswered c asks left.saids left.world left.seal)
if_answered c ok asks few s p q begun saids gone loose (Ok left) same closed =
    subst (λ (l : List FarAnswer). AreAnswered c asks l left.world left.seal) (sym same)
    (answered c ok asks few s p q begun saids gone loose left.world left.seal closed)
if_answered c ok asks few s p q begun saids gone loose (Err e) same closed = tt

-- the ending that has them
pub is_mapped : (c : Config) (asks : List FarCommand) (saids : List FarAnswer) (w : WorldState)
    (seal : Seal) → AreAnswered c asks saids w seal → (end : Ending)
    → end ≡ record {
      config = Some c;
      answers = [];
      losses = [];
      world = Some w;
      seal = Some seal;
    }
    → IsMapped c asks saids end
is_mapped c asks saids w seal answered end is = subst (IsMapped c asks saids) (sym is) (record {
  world = w;
  seal = seal;
  answered = answered;
  config = refl;
  no_answers = refl;
  no_losses = refl;
  left = refl;
  sealed = refl;
})

-- so behind the call that leaves it, unless there was no memory
pub if_mapped : (c : Config) (asks : List FarCommand) (left : MapEnd)
    → AreAnswered c asks left.saids left.world left.seal → (end : Ending)
    → (r : Result (List ℕ) NoMemory) → IfOk r (λ said. said ≡ said_text left.saids)
    → IfOk r (λ _. end ≡ record {
      config = Some c;
      answers = [];
      losses = [];
      world = Some left.world;
      seal = Some left.seal;
    })
    → IfOk r (λ said. (saids : List FarAnswer) × IsMapped c asks saids end × (said ≡ said_text saids))
if_mapped c asks left so end (Ok said) is left_so =
    (left.saids, is_mapped c asks left.saids left.world left.seal so end left_so, is)
if_mapped c asks left so end (Err e) is left_so = tt

-- the verdict on bytes that spell commands, and on others
pub map_done : (bytes : List ℕ) (c : Config) (asks : List FarCommand) → Spells bytes c asks
    → (old new : Ending) (text : List ℕ) → (saids : List FarAnswer) × IsMapped c asks saids new
    × (text ≡ said_text saids) → IsVerdict Map bytes old new (Done text)
map_done bytes c asks spells old new text (saids, mapped, is) = (
  record { config = c; commands = asks; spelled = spells },
  (c, asks, saids, spells, mapped, is),
)

pub map_refused : (bytes : List ℕ) (end : Ending) (fault : TextFault) → FaultIs fault (First bytes)
    → (verdict : Verdict) → (line : ℕ) × (fault ≡ Line line) × (verdict ≡ Refused (refusal_text line))
    → IsVerdict Map bytes end end verdict
map_refused bytes end fault is verdict (line, at, told) =
    let first : First bytes line = subst (λ (f : TextFault). FaultIs f (First bytes)) at is in
    subst (IsVerdict Map bytes end end) (sym told)
    (record { line = line; first = first; text_is = refl }, refl)
