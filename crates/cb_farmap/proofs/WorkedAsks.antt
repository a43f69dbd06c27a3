-- Worked examples of calls and plans: what meets each definition, and what breaks one part.
use Rattle.std.proofs.Common.{◌≡◌, ℕ, false, [], ◌∷◌, None, Some, Result, Ok, Err, refl, sym, ap, ◌∙◌, subst, arith}
use Rattle.std.proofs.lemmas.List.{append-nil}
use Rattle.cb_member.specs.declared.no_memory.NoMemory.{NoMemory as Want}
use Rattle.cb_types.specs.declared.config.Config.{Config}
use Rattle.cb_types.specs.declared.handle.Handle.{Handle}
use Rattle.cb_types.specs.declared.job.Job.{Job}
use Rattle.cb_types.specs.declared.job.Job.TheVariants as jobs
use Rattle.cb_types.specs.declared.reply.Reply.{Reply}
use Rattle.cb_types.specs.declared.reply.Reply.TheVariants as answer
use Rattle.cb_rule.specs.declared.turn.Turn.{Turn}
use Rattle.cb_rule.specs.declared.view.View.{View}
use Rattle.cb_shared.specs.Fetching.{AreFetches}
use Rattle.cb_farmap.specs.declared.kept.Cannot.{Cannot}
use Rattle.cb_farmap.specs.declared.kept.Cannot.TheVariants as cannot
use Rattle.cb_farmap.specs.declared.kept.Stop.TheVariants as stop
use Rattle.cb_farmap.specs.Calls.{Answers, Ask, AskMake, AskRead, AskWrite, Goes, IsForeign, IsInOrder, IsOfObject, IsRefusal, IsSuccess, Tells, trouble}
use Rattle.cb_farmap.specs.Changes.{IsCalm}
use Rattle.cb_farmap.proofs.Going.{no_place}
use Rattle.cb_farmap.proofs.WorkedObjects.{kept}

abbrev read : Ask
read = AskRead (kept 5 1)

abbrev write : Ask
write = AskWrite (kept 5 1) 8 (7 ∷ [])

abbrev make : Ask
make = AskMake (7 ∷ [])

-- ---- successes
read_well : IsSuccess read (answer.Bytes 1 (7 ∷ []))
read_well = (7 ∷ [], refl)

read_later : IsSuccess read (answer.Bytes 2 []) → ⊥
read_later (bytes, is) = let e : ◌≡◌ {A = ℕ} 2 1 = cc in omega (arith, e)

written_well : IsSuccess write (answer.Version 2)
written_well = refl

written_later : IsSuccess write (answer.Version 3) → ⊥
written_later is = let e : ◌≡◌ {A = ℕ} 3 2 = cc in omega (arith, e)

made_well : IsSuccess make (answer.Made (record { n = 6 }) 1)
made_well = (record { n = 6 }, 1, refl)

-- ---- refusals
read_refused : IsRefusal read answer.Freed
read_refused version bytes is = cc

read_not_refused : IsRefusal read (answer.Bytes 2 []) → ⊥
read_not_refused off = off 2 [] refl

write_refused : IsRefusal write (answer.Bytes 1 [])
write_refused version is = cc

write_not_refused : IsRefusal write (answer.Version 3) → ⊥
write_not_refused off = off 3 refl

make_refused : IsRefusal make (answer.Full 1)
make_refused handle version is = cc

make_not_refused : IsRefusal make (answer.Made (record { n = 6 }) 1) → ⊥
make_not_refused off = off (record { n = 6 }) 1 refl

-- ---- writes of somebody else
read_foreign : IsForeign read 2 (answer.Bytes 2 [])
read_foreign = ((λ e. absurd (omega (arith, e))), [], refl)

read_own : IsForeign read 1 (answer.Bytes 1 []) → ⊥
read_own x = x.0 refl

-- a write that goes on from version 2
write_foreign : IsForeign write 2 (answer.Version 3)
write_foreign = (3, (λ e. absurd (omega (arith, e))), refl, refl)

write_own : IsForeign write 1 (answer.Version 2) → ⊥
write_own (version, ne, less, is) = let e : version ≡ 2 = cc in absurd (ne e)

-- a make is never one
make_foreign : IsForeign make 1 (answer.Version 2) → ⊥
make_foreign x = x

this_object : IsOfObject read (record { n = 5 }) 1
this_object = (refl, refl)

other_object : IsOfObject read (record { n = 6 }) 1 → ⊥
other_object x = let e : ◌≡◌ {A = ℕ} 6 5 = ap (λ (h : Handle). h.n) x.0 in omega (arith, e)

-- ---- what is told
abbrev found : Result ℕ Cannot
found = Ok 7

abbrev lacking : Result ℕ Cannot
lacking = Err cannot.NoMemory

no_trouble : trouble found ≡ None
no_trouble = refl

want : trouble lacking ≡ Some cannot.NoMemory
want = refl

abbrev replied : Reply → Result Reply Want
replied r = Ok r

told_well : Tells write (replied (answer.Version 2)) None
told_well = refl

told_refused : Tells write (replied answer.Worn) (Some (cannot.Refused answer.Worn))
told_refused = (refl, (λ version is. cc))

-- a version that was written is no refusal, and none that is not the next one a success
told_no_refusal :
    Tells write (replied (answer.Version 3)) (Some (cannot.Refused (answer.Version 3))) → ⊥
told_no_refusal x = x.1 3 refl

told_foreign : Tells write (replied (answer.Version 3))
    (Some (cannot.Foreign (record { n = 5 }) 1 2))
told_foreign = ((refl, refl), write_foreign)

-- ---- plans
module _ (c : Config) (v : View) where
  nothing_planned : Goes c 1 [] None v v
  nothing_planned = refl

  never_refused : Goes c 1 [] (Some (cannot.Refused answer.Worn)) v v → ⊥
  never_refused x = x

  -- no memory for the place of an object, before any try
  no_room_kept : Goes c 1 (make ∷ []) (Some cannot.NoMemory) v v
  no_room_kept = no_place c 1 (7 ∷ []) v v refl

  again : Answers c 1 (Some stop.Freed) (read ∷ []) (Some (cannot.Refused answer.Freed)) v v
  again = (refl, refl)

  not_again : Answers c 1 (Some stop.Freed) (read ∷ []) None v v → ⊥
  not_again x = none_some x.0
    where
      none_some : None ≡ Some (cannot.Refused answer.Freed) → ⊥
      none_some is = cc

  going : Answers c 1 None [] None v v
  going = refl

-- ---- the order of a call's turns
module _ (v : View) (t : Turn) where
  abbrev still : View
  still = record v { turns = [] }

  abbrev turned : Job → View
  turned j = record v { turns = record t { job = j } ∷ [] }

  abbrev five : Handle
  five = record { n = 5 }

  fetch_first : IsInOrder read still (turned (jobs.Fetch five))
  fetch_first = (record t { job = jobs.Fetch five } ∷ [], refl, (refl, tt))

  -- a read does not begin with a swap
  first_is : (j : Job) → IsInOrder read still (turned j) → j ≡ jobs.Fetch five
  first_is j (ts, grew, order) =
      (subst (AreFetches 5 false) (sym (append-nil ts) ∙ sym grew) order).0

  swap_first : IsInOrder read still (turned (jobs.Swap five)) → ⊥
  swap_first x = let z : jobs.Swap five ≡ jobs.Fetch five = first_is (jobs.Swap five) x in cc

-- ---- what is never told where nobody else has the objects
calm_full : IsCalm (Some (cannot.Refused (answer.Full 1)))
calm_full = tt

never_foreign : IsCalm (Some (cannot.Foreign (record { n = 5 }) 1 2)) → ⊥
never_foreign x = x

never_freed : IsCalm (Some (cannot.Refused answer.Freed)) → ⊥
never_freed x = x

never_range : IsCalm (Some (cannot.Refused (answer.Range 1024))) → ⊥
never_range x = x

never_pinned : IsCalm (Some (cannot.Refused (answer.Pinned 1))) → ⊥
never_pinned x = x
