-- Worked lanes in threads of their own: what meets each definition, and what breaks one of its
-- parts alone.
use Rattle.std.proofs.Common.{◌≡◌, ◌≢◌, ℕ, ◌+◌, false, List, [], ◌∷◌, length, Option, None, Some}
use Rattle.std.proofs.Common.{inl, inr, refl, sym, ap, ◌∙◌, subst, lit<, arith}
use Rattle.std.proofs.lemmas.Bool.{eqb-false}
use Rattle.cb_types.specs.declared.answer.Answer.{Answer}
use Rattle.cb_types.specs.declared.handle.Handle.{Handle}
use Rattle.cb_types.specs.declared.job.Job.TheVariants as job
use Rattle.cb_types.specs.declared.request.Request.{Request}
use Rattle.cb_types.specs.declared.request.Request.TheVariants.{Make, Read, Peek, Crash, Leave}
use Rattle.cb_types.specs.declared.reply.Reply.{Reply}
use Rattle.cb_types.specs.declared.reply.Reply.TheVariants as answer
use Rattle.cb_world.specs.Memory.{bytes_in}
use Rattle.cb_world.specs.Written.{entry}
use Rattle.cb_script.specs.declared.script.Line.{Line}
use Rattle.cb_rule.specs.declared.view.View.{View}
use Rattle.cb_rule.specs.Steps.{Knows, blank, with_look}
use Rattle.cb_record.specs.Backs.{Backs}
use Rattle.cb_record.specs.Parts.{Part, nothing_more}
use Rattle.cb_record.specs.Told.{Told}
use Rattle.cb_lanes.specs.declared.body.Named.{Named}
use Rattle.cb_lanes.specs.Bodies.{AddsBacked, AnswersOne, AreLinesOf, AreNamesOf, IsFront, IsLineOf}
use Rattle.cb_lanes.specs.Bodies.{KeepHandles, KnowsKept, KnowsNames, LaneGoes, LinesGo}
use Rattle.cb_lanes.specs.Bodies.{handle_among, handle_behind}
use Rattle.cb_lanes.specs.LineGoes.{Ask, Calls, Goes, LineGoes}
use Rattle.cb_lanes.specs.Names.{KeptNames, kept_number}
use Rattle.cb_lanes.specs.Passing.{PeekGoes, goes_in}
use Rattle.cb_lanes.proofs.WorkedPassing.{pinning, two}

abbrev a : List ℕ
a = 97 ∷ []

abbrev b : List ℕ
b = 98 ∷ []

abbrev of : ℕ → Handle
of h = record { n = h }

abbrev by : ℕ → Request → Line
by lane request = record { lane = record { n = lane }; line = 2; request = request }

abbrev own_answer : Request → Reply → Answer
own_answer request reply =
    record { lane = record { n = 1 }; line = 2; request = request; reply = reply }

some_none : {h : ℕ} → ◌≢◌ {A = Option ℕ} (Some h) None
some_none e = cc

some_some : {g h : ℕ} → ◌≡◌ {A = Option ℕ} (Some g) (Some h) → g ≡ h
some_some e = cc

-- ---- the lines of lane 1, where there are two nodes
abbrev crash : ℕ → Request
crash n = Crash (record { n = n })

is_of_lane : IsLineOf 2 1 (by 1 (crash 1))
is_of_lane = (refl, lit< tt)

of_another_lane : IsLineOf 2 1 (by 0 (crash 1)) → ⊥
of_another_lane x = eqb-false 0 1 refl x.0

of_no_form : IsLineOf 2 1 (by 1 (crash 2)) → ⊥
of_no_form x = let below = x.1 in omega (arith, below)

are_of_lane : AreLinesOf 2 1 (by 1 (crash 1) ∷ by 1 Leave ∷ [])
are_of_lane = ((refl, lit< tt), ((refl, tt), tt))

last_of_another : AreLinesOf 2 1 (by 1 (crash 1) ∷ by 2 Leave ∷ []) → ⊥
last_of_another x = eqb-false 2 1 refl x.1.0.0

-- ---- names that were made
abbrev named : List ℕ → ℕ → Named
named name h = record { name = name; handle = Some (of h) }

abbrev refused : List ℕ → Named
refused name = record { name = name; handle = None }

the_last_make_wins : handle_among (named a 4 ∷ named b 6 ∷ named a 5 ∷ []) a ≡ Some 5
the_last_make_wins = refl

a_refused_make_gives_none : handle_among (refused a ∷ named b 6 ∷ []) a ≡ None
a_refused_make_gives_none = refl

it_hides_none : handle_among (named a 4 ∷ refused a ∷ []) a ≡ Some 4
it_hides_none = refl

another_name_gives_none : handle_among (named b 6 ∷ []) a ≡ None
another_name_gives_none = refl

-- ---- and the answers that gave them
abbrev made : ℕ → Answer
made h = own_answer (Make a []) (answer.Made (of h) 1)

are_names : AreNamesOf (named a 4 ∷ []) (made 4 ∷ [])
are_names name = refl

of_another_handle : AreNamesOf (named a 5 ∷ []) (made 4 ∷ []) → ⊥
of_another_handle same = eqb-false 4 5 refl (some_some (same a))

one_name_more : AreNamesOf (named a 4 ∷ named b 6 ∷ []) (made 4 ∷ []) → ⊥
one_name_more same = some_none (sym (same b))

one_name_less : AreNamesOf [] (made 4 ∷ []) → ⊥
one_name_less same = some_none (same a)

-- ---- a record that has an entry of object 1
abbrev pub part : View
part = record (blank two) { written = entry 1 3 8 [] (2826 ∷ []) ∷ [] }

pub knows_one : Knows 1 part
knows_one = inl (_, inl refl, refl)

pub knows_no_other : {h : ℕ} → ◌≢◌ {A = ℕ} 1 h → Knows h part → ⊥
knows_no_other n (inl (e, inl is, at)) = n (ap (λ x. x.handle) is ∙ at)
knows_no_other n (inl (e, inr has, at)) = absurd has
knows_no_other n (inr (s, has, at)) = absurd has

knows_names : KnowsNames part (refused b ∷ named a 1 ∷ [])
knows_names = (tt, (knows_one, tt))

knows_not_the_last : KnowsNames part (named a 1 ∷ named b 0 ∷ []) → ⊥
knows_not_the_last x = knows_no_other (eqb-false 1 0 refl) x.1.0

-- ---- a part of the record that backs a read of no bytes
no_bytes : bytes_in [] 0 ≡ []
unfolding bytes_in
no_bytes = refl

abbrev read : Answer
read = own_answer (Read a) (answer.Bytes 1 [])

abbrev read_part : Part
read_part = record nothing_more {
  seen = record { handle = 4; version = 1; len = 0; freed = false; words = [] } ∷ [];
  ever = 1;
}

abbrev read_told : Option ℕ → List Told
read_told h = record { handle = h; request = Read a; reply = answer.Bytes 1 [] } ∷ []

backs_read : Backs read_part (read_told (Some 4))
backs_read = record {
  wrote = ([], [], refl, refl, refl);
  tells = (inl (refl, refl, refl, sym no_bytes), tt);
  pins = omega arith;
  turned = Rattle.cb_record.specs.Lists.IsSublist.ended;
  happens = refl;
}

-- what the pass may have beside it is its own handles
abbrev after : View
after = record (blank two) { seen = read_part.seen; ever = 1; own = 4 ∷ [] }

adds : AddsBacked (named a 4 ∷ []) (read ∷ []) (blank two) after
adds = record {
  part = read_part;
  own = 4 ∷ [];
  grows = refl;
  backs = λ given same.
      subst (λ (h : Option ℕ). Backs read_part (read_told h)) (sym (same a)) backs_read;
}

adds_no_pin : AddsBacked (named a 4 ∷ []) (read ∷ []) (blank two) (record after { ever = 0 }) → ⊥
adds_no_pin x = let b = x.backs (made 4 ∷ []) (λ name. refl) in let some = b.pins in
    let none : 0 ≡ 0 + x.part.ever = ap (λ (v : View). v.ever) x.grows in
    omega (arith, some, none)

adds_and_pins : AddsBacked [] [] (blank two) pinning → ⊥
adds_and_pins x = eqb-false 2 0 refl (ap (λ (v : View). length v.pins) x.grows)

-- ---- the handle of a name behind answers: its own make wins over the names that were given
given_before : handle_behind (named a 4 ∷ []) [] (Some a) ≡ Some 4
given_before = refl

made_since : handle_behind (named a 4 ∷ []) (made 5 ∷ []) (Some a) ≡ Some 5
made_since = refl

made_by_none : handle_behind (named a 4 ∷ []) (made 5 ∷ []) (Some b) ≡ None
made_by_none = refl

without_a_name : handle_behind (named a 4 ∷ []) (made 5 ∷ []) None ≡ None
without_a_name = refl

-- ---- lines one after the other, by a caller that notes what it was asked, the newest first
abbrev noted : Goes (List Ask)
noted ask x r y = y ≡ ask ∷ x

abbrev a_make : Ask
a_make = Calls (job.Make [])

abbrev a_read : ℕ → Ask
a_read h = Calls (job.Read (of h))

-- the name has the handle 4 at first, and 5 behind its make
abbrev lines : List Answer
lines = read ∷ made 5 ∷ read ∷ []

lines_go : LinesGo noted (named a 4 ∷ []) [] [] lines (a_read 5 ∷ a_make ∷ a_read 4 ∷ [])
lines_go = (_, refl, (_, refl, (_, refl, refl)))

abbrev last_handle : List Ask → ℕ
last_handle (Calls (job.Read handle) ∷ asks) = handle.n
last_handle asks = 0

go_by_the_first_make :
    LinesGo noted (named a 4 ∷ []) [] [] lines (a_read 4 ∷ a_make ∷ a_read 4 ∷ []) → ⊥
go_by_the_first_make (x, first, (y, second, (z, third, last))) =
    eqb-false 4 5 refl (ap last_handle (last ∙ third))

go_without_the_last : LinesGo noted (named a 4 ∷ []) [] [] lines (a_make ∷ a_read 4 ∷ []) → ⊥
go_without_the_last (x, first, (y, second, (z, third, last))) =
    eqb-false 2 3 refl (ap length (last ∙ third ∙ ap (a_read 5 ∷◌) (second ∙ ap (a_make ∷◌) first)))

go_further : LinesGo noted [] [] [] [] (a_make ∷ []) → ⊥
go_further e = eqb-false 1 0 refl (ap length e)

-- ---- handles that are kept
module _ (kept : KeptNames) where
  keep : ((name : List ℕ) → kept_number kept name ≡ handle_among (named a 4 ∷ []) name)
      → KeepHandles kept (named a 4 ∷ []) []
  keep is name = is name

  keep_too_few : kept_number kept a ≡ None → KeepHandles kept (named a 4 ∷ []) [] → ⊥
  keep_too_few none keeps = some_none (sym (sym none ∙ keeps a))

  keep_too_many : kept_number kept b ≡ Some 6 → KeepHandles kept (named a 4 ∷ []) [] → ⊥
  keep_too_many six keeps = some_none (sym six ∙ keeps b)

  keep_the_first : kept_number kept a ≡ Some 4 → KeepHandles kept (named a 4 ∷ []) (made 5 ∷ []) → ⊥
  keep_the_first four keeps = eqb-false 4 5 refl (some_some (sym four ∙ keeps a))

  knows_kept : ((name : List ℕ) (h : ℕ) → kept_number kept name ≡ Some h → h ≡ 1)
      → KnowsKept kept part
  knows_kept one name h is = subst (λ (n : ℕ). Knows n part) (sym (one name h is)) knows_one

  knows_not_kept : kept_number kept b ≡ Some 0 → KnowsKept kept part → ⊥
  knows_not_kept zero known = knows_no_other (eqb-false 1 0 refl) (known b 0 zero)

-- ---- a front of a list
front : IsFront {A = ℕ} (1 ∷ []) (1 ∷ 2 ∷ [])
front = (2 ∷ [], refl)

no_front : IsFront {A = ℕ} (2 ∷ []) (1 ∷ 2 ∷ []) → ⊥
no_front (rest, e) = eqb-false 1 2 refl (ap head e)
  where
    head : List ℕ → ℕ
    head [] = 0
    head (x ∷ xs) = x

-- ---- the lines of a lane, and the end of its pins
lane_goes : LaneGoes two [] pinning (own_answer (Read a) answer.Unmade ∷ [])
    (record pinning { pins = [] })
lane_goes = (pinning, (pinning, (refl, refl), refl), refl)

lane_keeps_pins : LaneGoes two [] pinning (own_answer (Read a) answer.Unmade ∷ []) pinning → ⊥
lane_keeps_pins (v, lines, e) = eqb-false 2 0 refl (ap (λ (w : View). length w.pins) e)

-- a look that no line asked for
lane_looks : LaneGoes two [] pinning [] (with_look 1 6 (record pinning { pins = [] })) → ⊥
lane_looks (v, e, is) = eqb-false 1 0 refl
    (ap (λ (w : View). length w.looks) is ∙ ap (λ (w : View). length w.looks) e)

-- ---- one line more
abbrev first_reply : List Answer → Reply
first_reply [] = answer.Done
first_reply (x ∷ xs) = x.reply

unpeeked : (r : Reply) (w : View) → answer.Unmade ≡ r → PeekGoes 1 pinning r w → ⊥
unpeeked r w e (inl x) = absurd (let f = e ∙ x.told in cc)
unpeeked r w e (inr x) = absurd (let f = e ∙ x.peeks.told in cc)

module _ (kept : KeptNames) where
  abbrev Answers : KeptNames → List Answer → View → Type 0
  Answers later all w = AnswersOne two (by 1 Leave) kept later (made 5 ∷ []) all pinning w

  abbrev left_two : List Answer
  left_two = made 5 ∷ own_answer Leave (answer.Left 2) ∷ []

  answers : Answers kept left_two (record pinning { pins = [] })
  answers = record {
    reply = answer.Left 2;
    goes = (refl, refl);
    keeps = λ name. refl;
    answer = refl;
  }

  answers_nothing : Answers kept left_two pinning → ⊥
  answers_nothing x = eqb-false 2 0 refl (ap (λ (w : View). length w.pins) x.goes.1)

  answers_unsaid : Answers kept (made 5 ∷ []) (record pinning { pins = [] }) → ⊥
  answers_unsaid x = eqb-false 1 2 refl (ap length x.answer)

  forgets_a_name : (later : KeptNames) (h : ℕ) → kept_number kept a ≡ Some h
      → kept_number later a ≡ None
      → Answers later left_two (record pinning { pins = [] }) → ⊥
  forgets_a_name later h there gone x = some_none (sym there ∙ sym (x.keeps a) ∙ gone)

  -- a name that has a handle is not unmade
  peeks_unmade : (later : KeptNames) (w : View) → kept_number kept a ≡ Some 1
      → AnswersOne two (by 1 (Peek a)) kept later []
      (own_answer (Peek a) answer.Unmade ∷ []) pinning w → ⊥
  peeks_unmade later w one x = unpeeked x.reply w (ap first_reply x.answer)
      (subst (λ (o : Option ℕ). LineGoes (goes_in two) o (Peek a) pinning x.reply w) one x.goes)
