-- Worked examples of the order of a batch between its gather and its install: what meets each
-- definition, and what breaks one part alone.
use Rattle.std.proofs.Common.{◌≡◌, ℕ, suc, [], Option, None, Some, refl, sym, ap, subst, arith}
use Rattle.std.proofs.lemmas.Option.{none-some, same_Some}
use Rattle.cb_types.specs.declared.job.Job.TheVariants as job
use Rattle.cb_types.specs.declared.order.EncodeOrder.{EncodeOrder}
use Rattle.cb_types.specs.declared.order.Kept.{Kept}
use Rattle.cb_types.specs.declared.order.Kept.TheVariants.{Encode}
use Rattle.cb_types.specs.declared.reply.Reply.TheVariants as answer
use Rattle.cb_types.specs.Orders.{IsEncodable}
use Rattle.cb_rule.specs.declared.view.View.{View}
use Rattle.cb_workers.specs.Bodies.{HandsOver, HasOrder, IsAtHand, TellsNoBatch}

tells_none : TellsNoBatch answer.Done × TellsNoBatch (answer.Set (record { n = 3 }))
tells_none = (λ set is. cc, λ set is. cc)

tells_one : TellsNoBatch (answer.Batch (record { n = 3 })) → ⊥
tells_one none = none (record { n = 3 }) refl

-- the number of the set of an order, one more than it; 0 where there is none
abbrev number : Option EncodeOrder → ℕ
number None = 0
number (Some o) = suc o.set

abbrev kept_number : Option Kept → ℕ
kept_number (Some (Encode o)) = suc o.set
kept_number kept = 0

-- an order that can be run, and a record
module _ (o : EncodeOrder) (runs : IsEncodable o) (v : View) where
  abbrev keeps : EncodeOrder → View
  keeps kept = record v { order = Some (Encode kept) }

  at_hand : IsAtHand (Some o) (keeps o)
  at_hand = record { given = o; there = refl; kept = refl; runs = runs }

  -- it was dropped
  not_there : IsAtHand None (keeps o) → ⊥
  not_there x = none-some x.given x.there

  -- the record keeps another one, or none
  not_that : IsAtHand (Some o) (keeps (record o { set = suc o.set })) → ⊥
  not_that x = let at_hand : suc o.set ≡ suc x.given.set = ap number x.there in
      let kept : suc (suc o.set) ≡ suc x.given.set = ap kept_number x.kept in
      omega (arith, at_hand, kept)

  not_kept : IsAtHand (Some o) (record v { order = None }) → ⊥
  not_kept x = let e : 0 ≡ suc x.given.set = ap kept_number x.kept in omega (arith, e)

  -- it has no rows
  not_run : IsAtHand (Some (record o { rows = [] })) (keeps (record o { rows = [] })) → ⊥
  not_run x = let bare : IsEncodable (record o { rows = [] }) =
      subst IsEncodable (sym (same_Some _ _ x.there)) x.runs in
      let none : 0 ≡ o.k = bare.count in let some = runs.range.data_least in
      omega (arith, none, some)

  -- an install alone asks for one
  is_due : HasOrder job.Install (Some o) (keeps o) × HasOrder job.Gather None v
      × HasOrder job.Ship None v
  is_due = (at_hand, tt, tt)

  none_for_it : HasOrder job.Install None (keeps o) → ⊥
  none_for_it x = not_there x

  -- a gather that began a batch hands one over
  hands_over : HandsOver job.Gather (answer.Batch (record { n = 3 })) (Some o) (keeps o)
  hands_over own set is = at_hand

  hands_none : HandsOver job.Gather (answer.Batch (record { n = 3 })) None (keeps o) → ⊥
  hands_none x = not_there (x refl (record { n = 3 }) refl)

  -- a refusal hands none over, nor does a job of no worker
  refused : HandsOver job.Gather (answer.Leaving (record { n = 3 })) None v
  refused own set is = cc

  of_another : HandsOver job.Begin (answer.Batch (record { n = 3 })) None v
  of_another own set is = cc
