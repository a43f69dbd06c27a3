-- A call whose turns neither hand an order out nor take one leaves its pass the order that it kept.
use Rattle.std.proofs.Common.{◌≡◌, ◌⊎◌, ℕ, List, [], ◌∷◌, Option, Result, Ok, sym, refl, ap}
use Rattle.std.proofs.Common.{◌∙◌, subst, inl, inr}
use Rattle.cb_member.specs.declared.no_memory.NoMemory.{NoMemory}
use Rattle.cb_types.specs.declared.config.Config.{Config}
use Rattle.cb_types.specs.declared.job.Job.{Job}
use Rattle.cb_types.specs.declared.job.Job.TheVariants as jobs
use Rattle.cb_types.specs.declared.order.Kept.{Kept}
use Rattle.cb_types.specs.declared.reply.Reply.{Reply}
use Rattle.cb_core.specs.Jobs.{NeedsNoOrder}
use Rattle.cb_rule.specs.declared.turn.Turn.{Turn}
use Rattle.cb_rule.specs.declared.view.View.{View}
use Rattle.cb_rule.specs.Lists.{Each}
use Rattle.cb_record.specs.Parts.{Part, grown, keeps_after}
use Rattle.cb_shared.specs.Calls.{IsInVain, IsUnanswered, LooksOf, OfThis, TriesInVain, TurnGives}
use Rattle.cb_shared.specs.Calls.{TurnLacks, TurnStops}
use Rattle.cb_shared.specs.OrdersKept.{KeepInTurn, LeavesOrder}
use Rattle.cb_shared.specs.Turning.{TurnAdds}
use Rattle.cb_shared.proofs.DidAlone.{turn_keeps_order}
use Rattle.cb_shared.proofs.ReadParts.{grown_sum}

none_taken : (job : Job) (r : Reply) (order keeps : Option Kept) → NeedsNoOrder job
    → LeavesOrder job r order keeps → keeps ≡ order
none_taken jobs.Gather r order keeps alone x = absurd alone
none_taken jobs.Install r order keeps alone x = absurd alone
none_taken (jobs.Fetch handle) r order keeps alone x = absurd alone
none_taken jobs.Land r order keeps alone x = absurd alone
none_taken job r order keeps alone x = x

-- a turn of such a job, whatever it came to
one_keeps : (c : Config) (job : Job) (r : Result Reply NoMemory) (v : View) (d : Part)
    → NeedsNoOrder job → TurnAdds c job r v d → keeps_after d.turns v.order ≡ v.order
one_keeps c job r v d alone x = ap (λ (p : Part). keeps_after p.turns v.order) x.part
    ∙ turn_keeps_order c x.turn (subst NeedsNoOrder (sym x.job_is) alone) x.did ∙ x.before

module _ (may : Job → Type 0) (alone : (job : Job) → may job → NeedsNoOrder job) where
  all_keep : (o : Option Kept) (ts : List Turn) → Each (IsUnanswered may) ts → KeepInTurn o ts
      → keeps_after ts o ≡ o
  all_keep o [] each kept = refl
  all_keep o (t ∷ ts) each kept = let x = each.0.1 in
      none_taken t.job x.0 t.order t.keeps (alone t.job each.0.0) x.3 ∙ kept.0
      ∙ all_keep o ts each.1 kept.1

  vain_keeps : (o : Option Kept) (on : ℕ → Type 0) (d : Part) → IsInVain o on (IsUnanswered may) d
      → keeps_after d.turns o ≡ o
  vain_keeps o on d x = ap (λ (p : Part). keeps_after p.turns o) x.part
      ∙ all_keep o x.turns x.of x.kept

  -- tries that came to nothing
  pub tries_keep_order : (on : ℕ → Type 0) (v w : View) → TriesInVain on (IsUnanswered may) v w
      → w.order ≡ v.order
  tries_keep_order on v w (d, x, grew) =
      ap (λ (z : View). z.order) grew ∙ vain_keeps v.order on d x

-- so a make and a free, and where there was no memory
module _ (c : Config) (job : Job) (alone : NeedsNoOrder job) where
  of_this : (j : Job) → OfThis job j → NeedsNoOrder j
  of_this j is = subst NeedsNoOrder (sym is) alone

  pub call_keeps_order : (r : Reply) (v w : View) → TurnGives c job r v w → w.order ≡ v.order
  call_keeps_order r v w (d, x, is) =
      let before = vain_keeps (OfThis job) of_this v.order (LooksOf job) x.before x.in_vain in
      ap (λ (z : View). z.order) is
      ∙ ap (λ (z : Part). (grown z v).order) x.part
      ∙ ap (λ (z : View). z.order) (sym (grown_sum x.before x.last v))
      ∙ one_keeps c job (Ok r) (grown x.before v) x.last alone x.ends_so.1 ∙ before

  lacks_keep : (j : Job) (v w : View) → OfThis job j → TurnLacks c j v w → w.order ≡ v.order
  lacks_keep j v w is (e, (d, x, left)) =
      ap (λ (z : View). z.order) left ∙ one_keeps c j _ v d (of_this j is) x

  pub stop_keeps_order : (v w : View) → TurnStops c job v w → w.order ≡ v.order
  stop_keeps_order v w x = by x.lacks ∙ tries_keep_order (OfThis job) of_this (LooksOf job) v
      x.between x.tries
    where
      by : (w ≡ x.between) ⊎ ((j : Job) × OfThis job j × TurnLacks c j x.between w)
          → w.order ≡ x.between.order
      by (inl same) = ap (λ (z : View). z.order) same
      by (inr (j, is, lacks)) = lacks_keep j x.between w is lacks
