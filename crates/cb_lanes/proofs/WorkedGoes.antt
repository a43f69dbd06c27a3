-- Worked examples: what a line asks, what it may ask, and a line that was answered.
use Rattle.std.proofs.Common.{◌≡◌, ℕ, ◌<◌, List, [], ◌∷◌, length, None, Some, refl, ap, arith, sym}
use Rattle.std.proofs.Common.{◌∙◌}
use Rattle.cb_types.specs.declared.answer.Answer.{Answer}
use Rattle.cb_types.specs.declared.handle.Handle.{Handle}
use Rattle.cb_types.specs.declared.job.Job.{Job}
use Rattle.cb_types.specs.declared.job.Job.TheVariants as job
use Rattle.cb_types.specs.declared.request.Request.TheVariants.{Make, Read, Write, Pin, Peek, Unpin}
use Rattle.cb_types.specs.declared.request.Request.TheVariants.{Evict, Leave}
use Rattle.cb_types.specs.declared.reply.Reply.{Reply}
use Rattle.cb_types.specs.declared.reply.Reply.TheVariants as answer
use Rattle.cb_script.specs.declared.script.Line.{Line}
use Rattle.cb_lanes.specs.Asked.{answer_to}
use Rattle.cb_lanes.specs.AnsweredBy.{AnsweredBy}
use Rattle.cb_lanes.specs.LineGoes.{Ask, Goes, Calls, Pins, Peeks, Unpins, Leaves, LineGoes}
use Rattle.cb_lanes.specs.MayAsk.{IsNamedIfMade, MayCall, StayNamed}
use Rattle.cb_lanes.specs.Names.{KeptNames, kept_number}

-- a caller that notes what it was asked, the newest first, and answers anything
abbrev noted : Goes (List Ask)
noted ask a r b = b ≡ ask ∷ a

abbrev a : List ℕ
a = 97 ∷ []

abbrev on : ℕ → Handle
on h = record { n = h }

-- ---- what each line asks

a_make : LineGoes noted None (Make a (1 ∷ [])) [] answer.Done (Calls (job.Make (1 ∷ [])) ∷ [])
a_make = refl

an_eviction : LineGoes noted None Evict [] answer.Done (Calls job.Evict ∷ [])
an_eviction = refl

a_read : LineGoes noted (Some 4) (Read a) [] answer.Done (Calls (job.Read (on 4)) ∷ [])
a_read = refl

a_write : LineGoes noted (Some 4) (Write a 2 (9 ∷ [])) [] answer.Done
    (Calls (job.Write (on 4) 2 (9 ∷ [])) ∷ [])
a_write = refl

a_pin : LineGoes noted (Some 4) (Pin a) [] answer.Done (Pins 4 ∷ [])
a_pin = refl

a_peek : LineGoes noted (Some 4) (Peek a) [] answer.Done (Peeks 4 ∷ [])
a_peek = refl

an_unpin : LineGoes noted (Some 4) (Unpin a) [] answer.Done (Unpins 4 ∷ [])
an_unpin = refl

a_leave : LineGoes noted None Leave [] answer.Done (Leaves ∷ [])
a_leave = refl

-- a name without a handle asks for nothing
unmade : LineGoes noted None (Peek a) [] answer.Unmade []
unmade = (refl, refl)

-- ---- each of them off

-- the number of what was asked last, and its handle
abbrev kind : List Ask → ℕ
kind [] = 0
kind (Calls j ∷ older) = 1
kind (Pins h ∷ older) = 2
kind (Peeks h ∷ older) = 3
kind (Unpins h ∷ older) = 4
kind (Leaves ∷ older) = 5

abbrev handle_of_read : Job → ℕ
handle_of_read (job.Read handle) = handle.n
handle_of_read j = 0

abbrev last_handle : List Ask → ℕ
last_handle [] = 0
last_handle (Calls j ∷ older) = handle_of_read j
last_handle (Pins h ∷ older) = h
last_handle (Peeks h ∷ older) = h
last_handle (Unpins h ∷ older) = h
last_handle (Leaves ∷ older) = 0

a_make_asks : LineGoes noted None (Make a (1 ∷ [])) [] answer.Done [] → ⊥
a_make_asks e = omega (arith, ap kind e)

an_eviction_is_no_leave : LineGoes noted None Evict [] answer.Done (Leaves ∷ []) → ⊥
an_eviction_is_no_leave e = omega (arith, ap kind e)

of_another_object : LineGoes noted (Some 4) (Read a) [] answer.Done (Calls (job.Read (on 5)) ∷ [])
    → ⊥
of_another_object e = omega (arith, ap last_handle e)

a_pin_is_no_peek : LineGoes noted (Some 4) (Pin a) [] answer.Done (Peeks 4 ∷ []) → ⊥
a_pin_is_no_peek e = omega (arith, ap kind e)

a_peek_is_no_pin : LineGoes noted (Some 4) (Peek a) [] answer.Done (Pins 4 ∷ []) → ⊥
a_peek_is_no_pin e = omega (arith, ap kind e)

an_unpin_is_no_leave : LineGoes noted (Some 4) (Unpin a) [] answer.Done (Leaves ∷ []) → ⊥
an_unpin_is_no_leave e = omega (arith, ap kind e)

a_leave_is_no_unpin : LineGoes noted (Some 4) Leave [] answer.Done (Unpins 4 ∷ []) → ⊥
a_leave_is_no_unpin e = omega (arith, ap kind e)

unmade_says_so : LineGoes noted None (Peek a) [] answer.NotPinned [] → ⊥
unmade_says_so x = absurd (let e = x.0 in cc)

unmade_asks_nothing : LineGoes noted None (Peek a) [] answer.Unmade (Peeks 4 ∷ []) → ⊥
unmade_asks_nothing x = omega (arith, ap kind x.1)

-- ---- what may be asked, where handles below 2 may be named and there are 6 nodes

abbrev low : ℕ → Type 0
low h = h < 2

a_read_of_1 : MayCall 6 low (job.Read (on 1))
a_read_of_1 = omega arith

a_read_of_2 : MayCall 6 low (job.Read (on 2)) → ⊥
a_read_of_2 below = omega (arith, below)

a_crash_of_5 : MayCall 6 low (job.Crash (record { n = 5 }))
a_crash_of_5 = omega arith

a_crash_of_6 : MayCall 6 low (job.Crash (record { n = 6 })) → ⊥
a_crash_of_6 below = omega (arith, below)

one_byte : MayCall 6 low (job.Make (7 ∷ []))
one_byte = (omega arith, omega arith)

no_byte : MayCall 6 low (job.Make []) → ⊥
no_byte may = omega (arith, may.0)

more_stay : StayNamed low (λ h. h < 3)
more_stay h below = omega (arith, below)

fewer_do_not : StayNamed low (λ h. h < 1) → ⊥
fewer_do_not stay = omega (arith, stay 1 (omega arith))

made_high : IsNamedIfMade low (job.Make a) (answer.Made (on 2) 1) → ⊥
made_high named = omega (arith, named a (on 2) 1 refl refl)

-- ---- a line that was answered

abbrev leaving : Line
leaving = record { lane = record { n = 1 }; line = 2; request = Leave }

abbrev left_answers : Reply → List Answer
left_answers r = answer_to leaving Leave r ∷ []

module _ (names : KeptNames) where
  is_answered : AnsweredBy noted leaving [] names [] (Leaves ∷ []) names
      (left_answers (answer.Left 0))
  is_answered = record { reply = answer.Left 0; line_goes = refl; holds = λ q. refl; answer = refl }

  -- a line that asked for nothing, one whose answer was not added, and one that forgot a name
  not_asked : (b : List Ask) (kept : KeptNames) (all : List Answer)
      → AnsweredBy noted leaving [] names [] b kept all → b ≡ [] → ⊥
  not_asked b kept all x none = omega (arith, ap kind (sym none ∙ x.line_goes))

  not_added : (b : List Ask) (kept : KeptNames) → AnsweredBy noted leaving [] names [] b kept [] → ⊥
  not_added b kept x = omega (arith, ap length x.answer)

  forgotten : (b : List Ask) (kept : KeptNames) (all : List Answer) (h : ℕ)
      → AnsweredBy noted leaving [] names [] b kept all → kept_number names a ≡ Some h
      → kept_number kept a ≡ None → ⊥
  forgotten b kept all h x there gone = absurd (let e = sym gone ∙ x.holds a ∙ there in cc)
