-- What a command comes to whose calls went as was told, on whichever value.
use Rattle.std.proofs.Common.{◌≡◌, ℕ, ◌+◌, ◌-◌, ◌^◌, ◌<◌, ◌≤◌, List, [], ◌∷◌, length, Option, None, Some, Result, Ok, Err, IfOk, refl, sym, ap, ◌∙◌, subst, arith}
use Rattle.cb_types.specs.declared.config.Config.{Config}
use Rattle.cb_types.specs.declared.reply.Reply.{Reply}
use Rattle.cb_world.specs.declared.entry.Entry.{Entry}
use Rattle.cb_rule.specs.declared.view.View.{View}
use Rattle.cb_rule.specs.Lists.{Each}
use Rattle.cb_map_text.specs.Plain.{Plain, after_said, objects, plain_after, plain_said}
use Rattle.cb_map_text.specs.Tallied.{IsTallied}
use Rattle.cb_map_text.proofs.PublicLaws.{stays_tallied}
use Rattle.cb_map_text.specs.declared.command.FarAnswer.{FarAnswer}
use Rattle.cb_map_text.specs.declared.command.FarAnswer.TheVariants as saying
use Rattle.cb_map_text.specs.declared.command.FarCommand.{FarCommand}
use Rattle.cb_farmap.specs.declared.array.FarArray.{FarArray}
use Rattle.cb_farmap.specs.declared.kept.Cannot.{Cannot}
use Rattle.cb_farmap.specs.declared.kept.Cannot.TheVariants as cannot
use Rattle.cb_farmap.specs.declared.map.FarMap.{FarMap}
use Rattle.cb_farmap.specs.BothNow.{AreBothNow, AreOther, IsArrayNow, IsMapNow}
use Rattle.cb_farmap.specs.Calls.{Ask, Goes, trouble}
use Rattle.cb_farmap.specs.Changes.{GoesOn, IsCalm}
use Rattle.cb_farmap.specs.Commands.{CommandGoes, HasOneHistory, calls_of, made_by_all, refusal_in}
use Rattle.cb_farmap.specs.Maps.{kept_of}
use Rattle.cb_farmap.specs.Stands.{IsRecordAfter, Says, Stands}
use Rattle.cb_farmap.proofs.PlanAdds.{IsPlanFor, PlanGoes, after_is, low_after, refused_goes, said_goes, written_same}

-- what is said of the calls of a command: what the list and the map say, or why one was refused
pub data SaidBy (s : Plain) (ask : FarCommand) (t : Option Cannot) (said : FarAnswer) : Type 0 where
  well : t ≡ None → refusal_in said ≡ None → said ≡ plain_said s ask → SaidBy s ask t said
  ill : (r : Reply) → t ≡ Some (cannot.Refused r) → said ≡ saying.Refused r → SaidBy s ask t said

-- so of what is said of an answer
pub said_by : {X : Type 0} → (f : X → FarAnswer) → ((x : X) → refusal_in (f x) ≡ None) → (s : Plain)
    (ask : FarCommand) (r : Result X Cannot) → IfOk r (λ x. f x ≡ plain_said s ask)
    → (said : FarAnswer) → Says f r said → SaidBy s ask (trouble r) said
said_by f plain s ask (Ok x) tells said is = well refl (ap refusal_in is ∙ plain x) (is ∙ tells)
said_by f plain s ask (Err cannot.NoMemory) tells said is = absurd is
said_by f plain s ask (Err (cannot.Refused r)) tells said is = ill r refl is
said_by f plain s ask (Err (cannot.Foreign handle kept found)) tells said is = absurd is

-- the array and the map are this list and map, after so many commands
pub record AreNow (n : ℕ) (s : Plain) (v : View) (a : FarArray) (m : FarMap) : Type 0 where
  pub array_is : IsArrayNow s v a
  pub map_is : IsMapNow s v m
  pub other : AreOther a.kept (kept_of m.buckets)
  pub few : length s.list ≤ n
  pub few_keys : m.len ≤ n

module _ (c : Config) (n : ℕ) (s : Plain) (ask : FarCommand) (v w : View) (a : FarArray)
    (m : FarMap) (plan : List Ask) (its : calls_of v a m ask ≡ plan) (t : Option Cannot) (before : IsRecordAfter n s v) (tallied : IsTallied s)
    (small : n < 1000000000) (suits : IsPlanFor v (n + 2) s ask plan)
    (goes : Goes c 1 plan t v w) (calm : IsCalm t) (on : GoesOn v w) (history : HasOneHistory c 1 w)
    (idle : w.fresh ≡ []) where
  rise : (es : List Entry) → Each (λ (e : Entry). e.version ≤ n + 1) es
      → Each (λ (e : Entry). e.version ≤ n + 2) es
  rise [] each = tt
  rise (e ∷ es) each = (let le = each.0 in omega (arith, le), rise es each.1)

  next : (es : List Entry) → Each (λ (e : Entry). e.version ≤ n + 2) es
      → Each (λ (e : Entry). e.version ≤ (n + 1) + 1) es
  next [] each = tt
  next (e ∷ es) each = (let le = each.0 in omega (arith, le), next es each.1)

  old_low : Each (λ (e : Entry). e.version ≤ n + 2) v.written
  old_low = rise v.written before.low

  one_low : 1 ≤ n + 2
  one_low = omega arith

  record_now : (later : Plain) → made_by_all w.turns ≡ objects later
      → Each (λ (e : Entry). e.version ≤ n + 2) w.written → IsRecordAfter (n + 1) later w
  record_now later made rises = record {
    whole = on.share ∙ before.whole;
    loose = on.pins ∙ before.loose;
    idle = idle;
    low = next w.written rises;
    made = made;
  }

  -- the command goes, and what stands behind it
  abbrev pub Ends : FarAnswer → FarArray → FarMap → Type 0
  Ends said b o = CommandGoes c 1 s ask said v a m w b o × Stands (n + 1) (after_said s ask said) w b o

  stand : (later : Plain) (b : FarArray) (o : FarMap) → IsRecordAfter (n + 1) later w
      → IsTallied later → AreNow (n + 1) later w b o → Stands (n + 1) later w b o
  stand later b o record_is tallied x = record {
    record_is = record_is;
    array_is = x.array_is;
    map_is = x.map_is;
    other = x.other;
    tallied = tallied;
    few = x.few;
    few_keys = x.few_keys;
  }

  both : (later : Plain) (b : FarArray) (o : FarMap) → AreNow (n + 1) later w b o
      → AreBothNow later w b o
  both later b o x = record {
    array_is = x.array_is;
    map_is = x.map_is;
    other = x.other;
  }

  -- the calls of the plan are those of the command
  goes_so : (said : FarAnswer) (b : FarArray) (o : FarMap) → PlanGoes c 1 s ask plan said v w
      → AreNow (n + 1) (after_said s ask said) w b o → CommandGoes c 1 s ask said v a m w b o
  goes_so said b o x now = record {
    calls = subst (λ (p : List Ask). Goes c 1 p (refusal_in said) v w) (sym its) x.calls;
    both = both (after_said s ask said) b o now;
    entries = x.entries;
    wrote = x.wrote;
    few = x.few;
    more = x.more;
    turned = x.turned;
    jobs_are = x.jobs_are;
    history = x.history;
    made = x.made;
    is_said = x.is_said;
  }

  went_well : (said : FarAnswer) (b : FarArray) (o : FarMap) → refusal_in said ≡ None
      → said ≡ plain_said s ask → Goes c 1 plan None v w
      → AreNow (n + 1) (plain_after s ask) w b o → Ends said b o
  went_well said b o none is go now =
      let x = said_goes c 1 (n + 2) one_low s tallied ask plan v w suits before.made history said none
      is go in
      let after = after_is c 1 (n + 2) one_low s tallied ask plan v w suits before.made history said
      none in
      let there = subst (λ (p : Plain). AreNow (n + 1) p w b o) (sym after) now in (
        goes_so said b o x there,
        stand (after_said s ask said) b o (record_now (after_said s ask said) x.made
            (low_after c 1 (n + 2) one_low s tallied ask plan v w suits before.made history go old_low))
            (subst IsTallied (sym after) (stays_tallied s ask tallied)) there,
      )

  went_ill : (r : Reply) (b : FarArray) (o : FarMap) → IsCalm (Some (cannot.Refused r))
      → Goes c 1 plan (Some (cannot.Refused r)) v w → AreNow (n + 1) s w b o
      → Ends (saying.Refused r) b o
  went_ill r b o quiet go now =
      let top : n + 2 < 2 ^ 64 - 1 = omega (arith, small) in
      let x = refused_goes c 1 (n + 2) one_low s tallied ask plan v w suits before.made history r go
      quiet top before.whole before.idle old_low in (
        goes_so (saying.Refused r) b o x now,
        stand s b o (record_now s x.made (subst
            (λ (es : List Entry). Each (λ (e : Entry). e.version ≤ n + 2) es)
            (sym (written_same c 1 (n + 2) one_low s tallied ask plan v w suits before.made history r go
            quiet top before.whole before.idle old_low)) old_low)) tallied now,
      )

  -- by what is said
  pub ends_so : (said : FarAnswer) (b : FarArray) (o : FarMap) → SaidBy s ask t said
      → (t ≡ None → AreNow (n + 1) (plain_after s ask) w b o)
      → ((r : Reply) → t ≡ Some (cannot.Refused r) → AreNow (n + 1) s w b o) → Ends said b o
  ends_so said b o (well at none is) now same = went_well said b o none is
      (subst (λ (e : Option Cannot). Goes c 1 plan e v w) at goes) (now at)
  ends_so said b o (ill r at is) now same = subst (λ (q : FarAnswer). Ends q b o) (sym is)
      (went_ill r b o (subst IsCalm at calm)
      (subst (λ (e : Option Cannot). Goes c 1 plan e v w) at goes) (same r at))
