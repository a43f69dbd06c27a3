-- An object that a lane makes is new to the record of its pass, and has the version 1.
use Rattle.std.proofs.Common.{◌≡◌, ℕ, List, inl, inr, sym, refl, ap, ◌∙◌, subst, arith}
use Rattle.cb_types.specs.declared.config.Config.{Config}
use Rattle.cb_types.specs.declared.handle.Handle.{Handle}
use Rattle.cb_types.specs.declared.job.Job.TheVariants as job
use Rattle.cb_types.specs.declared.reply.Reply.TheVariants as answer
use Rattle.cb_world.specs.declared.entry.Entry.{Entry}
use Rattle.cb_rule.specs.declared.turn.Turn.{Turn}
use Rattle.cb_rule.specs.declared.view.Seen.{Seen}
use Rattle.cb_rule.specs.declared.view.View.{View}
use Rattle.cb_rule.specs.Lists.{Has}
use Rattle.cb_rule.specs.Steps.{Knows}
use Rattle.cb_record.specs.Parts.{Part}
use Rattle.cb_record.proofs.Laws.{has_left}
use Rattle.cb_shared.specs.Calls.{TurnGives}
use Rattle.cb_lanes.specs.KeepsOwn.{AreMadeFirst, KeepsOwn}
use Rattle.cb_lanes.proofs.OwnObjects.{born}
use Rattle.cb_lanes.proofs.TellingNew.{IsAbove}

pub made_first : (c : Config) (bytes : List ℕ) (handle : Handle) (version : ℕ) (v m all : View)
    → TurnGives c (job.Make bytes) (answer.Made handle version) v m
    → ((t : Turn) → Has t m.turns → Has t all.turns) → AreMadeFirst all.turns → version ≡ 1
made_first c bytes handle version v m all (d, y, is) turns makes =
    let x = y.ends_so.1 in makes x.turn
    (turns x.turn (subst (λ (z : View). Has x.turn z.turns) (sym is)
    (has_left x.turn d.turns v.turns (subst (λ (p : Part). Has x.turn p.turns) (sym y.part)
    (has_left x.turn y.last.turns y.before.turns
    (subst (λ (p : Part). Has x.turn p.turns) (sym x.part) (inl refl)))))))
    bytes handle version x.job_is x.reply_is

-- versions of an own object begin with 1, and the version 1 is above all that the record had of it
pub made_fresh : (h version : ℕ) (v all : View) → version ≡ 1 → IsAbove v h version → Has h all.own
    → KeepsOwn all → ((e : Entry) → Has e v.written → Has e all.written)
    → ((s : Seen) → Has s v.seen → Has s all.seen) → Knows h v → ⊥
made_fresh h version v all first above own keeps written seen (inl (e, has, same)) =
    let low = born (λ k. Has k all.own) h own all.written e keeps.order (written e has) same in
    let less = above e.version e.freed (inl (e, has, same, refl, refl)) in omega
    (arith, first, low, less)
made_fresh h version v all first above own keeps written seen (inr (s, has, same)) =
    let z = keeps.read s (seen s has) (subst (λ (k : ℕ). Has k all.own) (sym same) own) in
    let low = born (λ k. Has k all.own) h own all.written z.0 keeps.order z.1
    (sym (ap (λ (k : Seen). k.handle) z.2) ∙ same) in
    let is : s.version ≡ z.0.version = ap (λ (k : Seen). k.version) z.2 in
    let less = above s.version s.freed (inr (s, has, same, refl, refl)) in
    omega (arith, first, low, is, less)
