-- Worked lanes that found no memory: what meets each definition, and what breaks one of its parts
-- alone.
use Rattle.std.proofs.Common.{◌≡◌, ◌≢◌, ◌⊎◌, ℕ, ◌<◌, List, [], ◌∷◌, ◌++◌, length, length-append}
use Rattle.std.proofs.Common.{Option, None, Some, inl, inr, refl, sym, ap, ◌∙◌, subst, arith}
use Rattle.std.proofs.lemmas.Bool.{eqb-false}
use Rattle.std.proofs.lemmas.List.{append-nil}
use Rattle.cb_types.specs.declared.answer.Answer.{Answer}
use Rattle.cb_types.specs.declared.request.Request.{Request}
use Rattle.cb_types.specs.declared.job.Job.{Job}
use Rattle.cb_types.specs.declared.job.Job.TheVariants as job
use Rattle.cb_types.specs.Jobs.{job_index}
use Rattle.cb_types.specs.declared.request.Request.TheVariants.{Evict, Leave, Peek, Read}
use Rattle.cb_types.specs.declared.reply.Reply.{Reply}
use Rattle.cb_types.specs.declared.order.DecodeOrder.{DecodeOrder}
use Rattle.cb_types.specs.declared.order.Kept.TheVariants.{Decode}
use Rattle.cb_types.specs.declared.reply.Reply.TheVariants as answer
use Rattle.cb_script.specs.declared.script.Line.{Line}
use Rattle.cb_ptr.specs.Word.{state_number, state_of}
use Rattle.cb_world.specs.declared.entry.Entry.{Entry}
use Rattle.cb_rule.specs.declared.turn.Turn.{Turn}
use Rattle.cb_rule.specs.declared.view.View.{View}
use Rattle.cb_rule.specs.Lists.{Each}
use Rattle.cb_rule.specs.Steps.{blank, look_at, with_look}
use Rattle.cb_rule.specs.TriesAgain.{tries_again}
use Rattle.cb_record.specs.Deeds.{Deed, deed, happened, happening}
use Rattle.cb_record.specs.Parts.{Part, grown, nothing_more}
use Rattle.cb_shared.specs.OrdersKept.{LeavesOrder}
use Rattle.cb_shared.specs.Calls.{AtNone, AtThis, Brings, IsAnswerTo, IsInVain, IsUnanswered}
use Rattle.cb_shared.specs.Calls.{TurnLacks, the_handle}
use Rattle.cb_shared.proofs.Laws.{so_far, stops_idle}
use Rattle.cb_shared.specs.Joining.{unpinned_all}
use Rattle.cb_shared.specs.Recalls.{Recalls}
use Rattle.cb_lanes.specs.LaneStops.{AddsIdly, LaneStops, LinesStop}
use Rattle.cb_lanes.specs.LineGoes.{Leaves, Peeks, Pins}
use Rattle.cb_lanes.specs.Scoped.{AreOneToOne, IsMadeAs}
use Rattle.cb_lanes.specs.Stopping.{AskStops, BringsNot, LineStops, PinStops, stops_in}
use Rattle.cb_lanes.proofs.LaneStopping.{lane_stops}
use Rattle.cb_lanes.proofs.Stopping.{idle_next, idle_pin}
use Rattle.cb_lanes.proofs.WorkedBodies.{part}
use Rattle.cb_lanes.proofs.WorkedPassing.{pinning, two}
use Rattle.cb_lanes.proofs.WorkedPinTurns.{gets_a_fetch, gets_a_swap}

abbrev a : List ℕ
a = 97 ∷ []

abbrev by : ℕ → Request → Line
by lane request = record { lane = record { n = lane }; line = 2; request = request }

abbrev told : ℕ → Request → Reply → Answer
told lane request reply =
    record { lane = record { n = lane }; line = 2; request = request; reply = reply }

abbrev pins_in : View → ℕ
pins_in v = length v.pins

abbrev looks_in : View → ℕ
looks_in v = length v.looks

abbrev entries_in : View → ℕ
entries_in v = length v.written

one_zero : ◌≢◌ {A = ℕ} 1 0
one_zero = eqb-false 1 0 refl

two_zero : ◌≢◌ {A = ℕ} 2 0
two_zero = eqb-false 2 0 refl

-- ---- what is asked of a pass
not_asked : AskStops (stops_in two) Leaves pinning pinning
not_asked = inl refl

gives_its_pins_back : AskStops (stops_in two) Leaves pinning (record pinning { pins = [] }) → ⊥
gives_its_pins_back (inl e) = two_zero (sym (ap pins_in e))
gives_its_pins_back (inr x) = x

peeks_at_nothing : stops_in two (Peeks 1) pinning pinning
peeks_at_nothing = refl

looks_while_it_peeks : stops_in two (Peeks 1) pinning (with_look 1 6 pinning) → ⊥
looks_while_it_peeks e = one_zero (ap looks_in e)

-- ---- a line on a name that has no handle
asks_for_nothing : LineStops (stops_in two) None (Peek a) pinning pinning
asks_for_nothing = (refl, refl)

asks_for_a_look : LineStops (stops_in two) None (Peek a) pinning (with_look 1 6 pinning) → ⊥
asks_for_a_look x = one_zero (ap looks_in x.1)

-- ---- looks and turns alone
one_look : AddsIdly (blank two) (with_look 1 6 (blank two))
one_look = record {
  looks = record { handle = 1; word = 6 } ∷ [];
  turns = [];
  idle = tt;
  grows = refl;
}

an_entry : AddsIdly (blank two) part → ⊥
an_entry x = one_zero (ap entries_in x.grows)

a_pin : AddsIdly (blank two) pinning → ⊥
a_pin x = two_zero (ap pins_in x.grows)

a_share : AddsIdly (blank two) (record (blank two) { share = 1 }) → ⊥
a_share x = one_zero (ap (λ (v : View). v.share) x.grows)

some_deed : (d : Deed) (ds : List Deed) → d ∷ ds ≡ [] → ⊥
some_deed d ds e = one_zero (ap first e)
  where
    first : List Deed → ℕ
    first [] = 0
    first (d ∷ ds) = 1

-- one of the turns made an object, or a node crashed or joined
a_turn_of_them : (t : Turn) (ts us : List Turn) → t ∷ us ≡ ts
    → Each (λ (u : Turn). happened (deed u) ≡ []) ts → happened (deed t) ≡ []
a_turn_of_them t ts us is each =
    (subst (Each (λ (u : Turn). happened (deed u) ≡ [])) (sym is) each).0

an_object : (t : Turn) (d : Deed) → happened (deed t) ≡ d ∷ []
    → AddsIdly (blank two) (record (blank two) { turns = t ∷ [] }) → ⊥
an_object t d made x = some_deed d [] (sym made ∙ a_turn_of_them t x.turns []
    (ap (λ (v : View). v.turns) x.grows ∙ append-nil x.turns) x.idle)

-- ---- a pin whose object is far
abbrev away : ℕ
away = 65537

abbrev far : View
far = with_look 1 away (blank two)

abbrev turned : Turn → Part
turned t = record nothing_more { turns = t ∷ [] }

-- a turn found no memory that was to bring it in
lacks_by : (j : Job) → Brings 1 j → (w : View) → TurnLacks two j far w
    → BringsNot two 1 (blank two) w
lacks_by j of w lacks = record {
  word = away;
  away = refl;
  lacks = record {
    between = far;
    tries = so_far AtNone (IsUnanswered (Brings 1)) far;
    lacks = inr (j, of, lacks);
  };
}

no_memory : (w : View) → TurnLacks two (job.Fetch (the_handle 1)) far w
    → BringsNot two 1 (blank two) w
no_memory w lacks = lacks_by (job.Fetch (the_handle 1)) (inr (inl refl)) w lacks

-- or there was none for the row, behind a fetch that handed out its order
no_memory_for_a_row : (t : Turn) (o : DecodeOrder) → t.job ≡ job.Fetch (the_handle 1)
    → t.reply ≡ Some (answer.Fetched (record { n = 3 }) 0) → t.order ≡ None
    → t.keeps ≡ Some (Decode o) → o.set ≡ 3 → o.position ≡ 0
    → BringsNot two 1 (blank two) (grown (turned t) far)
no_memory_for_a_row t o is told kept keeps set position = record {
  word = away;
  away = refl;
  lacks = record {
    between = grown (turned t) far;
    tries = (turned t, fetched, refl);
    lacks = inl refl;
  };
}
  where
    fetched : IsInVain None AtNone (IsUnanswered (Brings 1)) (turned t)
    fetched = record {
      looks = [];
      turns = t ∷ [];
      at = tt;
      of = (
        (
          inr (inl is),
          (
            answer.Fetched (record { n = 3 }) 0,
            told,
            no_answer,
            subst (λ (j : Job). LeavesOrder j (answer.Fetched (record { n = 3 }) 0) t.order t.keeps)
                (sym is) (o, keeps, set, position),
          ),
        ),
        tt,
      );
      idle = ((λ i. happening (is i) (told i)), tt);
      kept = (kept, tt);
      part = refl;
    }
      where
        no_answer : IsAnswerTo (tries_again t) t.job (answer.Fetched (record { n = 3 }) 0) → ⊥
        no_answer x = subst (λ (j : Job). IsAnswerTo (tries_again t) j
            (answer.Fetched (record { n = 3 }) 0)) is x

-- it was a turn of another job
abbrev newest_job : List Turn → Job
newest_job [] = job.Compact
newest_job (t ∷ ts) = t.job

by_an_eviction : (t : Turn) → t.job ≡ job.Evict → BringsNot two 1 (blank two) (grown (turned t) far)
    → ⊥
by_an_eviction t is x = no_eviction (subst (Brings 1) is (newest x.lacks.lacks))
  where
    tried : (ts : List Turn) → t ∷ [] ≡ ts ++ [] → Each (IsUnanswered (Brings 1)) ts
        → Brings 1 t.job
    tried [] e of = absurd (one_zero (ap (λ (us : List Turn). length us) e))
    tried (u ∷ us) e of = subst (Brings 1) (sym (ap newest_job e)) of.0.0

    newest : (grown (turned t) far ≡ x.lacks.between)
        ⊎ ((j : Job) × Brings 1 j × TurnLacks two j x.lacks.between (grown (turned t) far))
        → Brings 1 t.job
    newest (inl same) = let z = x.lacks.tries in
        tried z.1.turns (ap (λ (v : View). v.turns) (same ∙ z.2)
        ∙ ap (λ (p : Part). p.turns ++ []) z.1.part) z.1.of
    newest (inr (j, of, (e, (d, adds, is)))) = subst (Brings 1)
        (sym (ap newest_job (ap (λ (v : View). v.turns) is
        ∙ ap (λ (p : Part). p.turns ++ x.lacks.between.turns) adds.part) ∙ adds.job_is)) of

    no_eviction : Brings 1 job.Evict → ⊥
    no_eviction (inl e) = eqb-false 6 4 refl (ap job_index e)
    no_eviction (inr (inl e)) = eqb-false 6 21 refl (ap job_index e)
    no_eviction (inr (inr e)) = eqb-false 6 22 refl (ap job_index e)

found_here : (w : View) → (x : BringsNot two 1 (blank two) w) → x.word ≡ 2684420098 → ⊥
found_here w x is = eqb-false 1 2 refl
    (ap state_number (sym x.away ∙ ap (λ (n : ℕ). state_of n) is))

looks_more : (v w : View) → BringsNot two 1 v w → looks_in v < looks_in w
looks_more v w x =
    let z = stops_idle two AtNone (Brings 1) (with_look 1 x.word v) w x.lacks in
    let all : looks_in w ≡ length (z.0.looks ++ look_at 1 x.word ∷ v.looks) = ap looks_in z.2 in
    let both = length-append z.0.looks (look_at 1 x.word ∷ v.looks) in
    omega (arith, all, both)

unlooked : BringsNot two 1 (blank two) (blank two) → ⊥
unlooked x = let less = looks_more (blank two) (blank two) x in omega (arith, less)

-- behind looks and turns that came to nothing
stops_a_pin : (j : Job) → Brings 1 j → (w : View) → TurnLacks two j far w
    → PinStops two 1 (blank two) w
stops_a_pin j of w lacks = record {
  between = blank two;
  in_vain = so_far (AtThis 1) (IsUnanswered (Brings 1)) (blank two);
  lacks = lacks_by j of w lacks;
}

stops_without_a_look : PinStops two 1 (blank two) (blank two) → ⊥
stops_without_a_look x = let less = looks_more x.between (blank two) x.lacks in omega (arith, less)

-- the turns of a pin come in their order
stops_fetching : (w : View) → TurnLacks two (job.Fetch (the_handle 1)) far w
    → stops_in two (Pins 1) (blank two) w
stops_fetching w (e, (d, adds, is)) = (
  stops_a_pin (job.Fetch (the_handle 1)) (inr (inl refl)) w (e, (d, adds, is)),
  gets_a_fetch adds.turn (blank two) w
      (ap (λ (z : View). z.turns) is ∙ ap (λ (p : Part). p.turns ++ []) adds.part) adds.job_is,
)

stops_swapping : (w : View) → TurnLacks two (job.Swap (the_handle 1)) far w
    → stops_in two (Pins 1) (blank two) w → ⊥
stops_swapping w (e, (d, adds, is)) x = gets_a_swap adds.turn (blank two) w
    (ap (λ (z : View). z.turns) is ∙ ap (λ (p : Part). p.turns ++ []) adds.part) adds.job_is x.1

-- behind an entry
stops_behind_an_entry : (w : View) (e : Entry) → w.written ≡ e ∷ []
    → PinStops two 1 (blank two) w → ⊥
stops_behind_an_entry w e is x = one_zero (ap (λ (es : List Entry). length es)
    (sym is ∙ ap (λ (v : View). v.written) (idle_pin two 1 (blank two) w x).grows))

-- ---- the line behind those that were answered
abbrev lines : List Line
lines = by 1 Leave ∷ by 1 (Peek a) ∷ []

abbrev left : Answer
left = told 1 Leave (answer.Left 0)

at_the_second : LinesStop two [] lines (blank two) (left ∷ []) (blank two)
at_the_second = record {
  behind = blank two;
  goes = (blank two, (refl, refl), refl);
  stops = inr (by 1 (Peek a), [], refl, (refl, refl));
}

at_none : LinesStop two [] lines (blank two) [] (blank two)
at_none = record { behind = blank two; goes = refl; stops = inl refl }

no_line : (l : Line) (ls : List Line) → [] ≡ l ∷ ls → ⊥
no_line l ls e = one_zero (sym (ap first e))
  where
    first : List Line → ℕ
    first [] = 0
    first (l ∷ ls) = 1

-- a look of no line
behind_the_last : LinesStop two [] [] (blank two) [] (with_look 1 6 (blank two)) → ⊥
behind_the_last x = elim x.stops [
  | inl e ↦ one_zero (ap looks_in (e ∙ x.goes))
  | inr y ↦ no_line y.0 y.1 y.2
]

-- an answer was not handed back: what its line wrote stands there
an_answer_kept_back : LinesStop two [] lines (blank two) [] part → ⊥
an_answer_kept_back x = an_entry (subst (λ (v : View). AddsIdly v part) x.goes
    (idle_next two [] lines [] x.behind part x.stops))

-- ---- a lane
abbrev own_lines : List Line
own_lines = by 1 Leave ∷ by 1 Evict ∷ []

abbrev Stops : List Answer → View → Type 0
Stops answers w = LaneStops 1 two 1 [] own_lines (blank two) answers w

stopped : Recalls 1 (blank two) → Stops (left ∷ []) (blank two)
stopped own = lane_stops 1 two 1 [] own_lines (left ∷ []) (blank two) (blank two)
    (blank two) refl refl tt
    ((refl, tt), ((refl, tt), tt)) (by 1 Evict ∷ [], refl)
    (record { behind = blank two; goes = (blank two, (refl, refl), refl); stops = inl refl }) refl
    own refl

abbrev first_request : List Line → Request
first_request [] = Evict
first_request (l ∷ ls) = l.request

of_another_line : (w : View) → Stops (told 1 Evict answer.Worn ∷ []) w → ⊥
of_another_line w x = absurd
    (let e : ◌≡◌ {A = Request} Leave Evict = ap first_request x.front.1 in cc)

no_reply_of_its_line : (w : View) → Stops (told 1 Leave answer.Freed ∷ []) w → ⊥
no_reply_of_its_line w x = x.answered.0

told_of_a_move : (ls : List Line) (v w : View)
    → LaneStops 1 two 1 [] ls v (told 1 (Read a) answer.Moving ∷ []) w → ⊥
told_of_a_move ls v w x = x.last.0

keeps_its_pins : (answers : List Answer) → Stops answers pinning → ⊥
keeps_its_pins answers x = two_zero (ap pins_in x.left)

hands_no_answer_back : Stops [] part → ⊥
hands_no_answer_back x =
    an_entry (subst (λ (v : View). AddsIdly (unpinned_all v) part) x.lines_stop.goes x.adds)

-- no make told a handle
none_made : (lane n : ℕ) (p : List ℕ) (g : ℕ) → IsMadeAs (told lane Leave (answer.Left n) ∷ []) p g
    → ⊥
none_made lane n p g (inl e) = absurd (let z : ◌≡◌ {A = Option ℕ} None (Some g) = e in cc)
none_made lane n p g (inr x) = absurd x

told_of_a_pin : (w : View) → Stops (told 1 Leave (answer.Left 1) ∷ []) w → ⊥
told_of_a_pin w x = absurd (let e : ◌≡◌ {A = Reply} (answer.Left 1) (answer.Left 0) =
    (x.scoped [] (λ name. refl) refl none_given
    (λ p g h is_p is_q. absurd (none_made 1 1 p g is_p))).0 in cc)
  where
    none_given : AreOneToOne []
    none_given p q g h is_p is_q = absurd is_p

answers_of_another_lane : (ls : List Line) (w : View)
    → LaneStops 1 two 1 [] ls (blank two) (told 2 Leave (answer.Left 0) ∷ []) w → ⊥
answers_of_another_lane ls w x = eqb-false 2 1 refl (x.rises [] (λ name. refl)).own.0
