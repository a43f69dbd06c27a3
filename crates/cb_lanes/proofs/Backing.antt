-- What a part of a record backs of one answer.
use Rattle.std.proofs.Common.{Bool}
use Rattle.std.proofs.Common.{◌≡◌, ℕ, ◌≤◌, false, List, [], ◌∷◌, ◌++◌, map, Option, None, Some, Ok}
use Rattle.std.proofs.Common.{inl, inr, sym, refl, ap, ◌∙◌, subst, arith}
use Rattle.std.specs.List.{flat_map, sum_by}
use Rattle.std.proofs.lemmas.List.{append-nil}
use Rattle.std.proofs.lemmas.List.Sums.{sum_by-cons}
use Rattle.cb_types.specs.declared.config.Config.{Config}
use Rattle.cb_types.specs.declared.job.Job.{Job}
use Rattle.cb_types.specs.declared.order.Kept.{Kept}
use Rattle.cb_types.specs.declared.reply.Reply.{Reply}
use Rattle.cb_types.specs.declared.request.Request.{Request}
use Rattle.cb_world.specs.declared.entry.Entry.{Entry}
use Rattle.cb_mutate.specs.JobWrites.{TurnWrites}
use Rattle.cb_rule.specs.declared.turn.Turn.{Turn}
use Rattle.cb_rule.specs.declared.view.Stand.{Stand}
use Rattle.cb_rule.specs.declared.view.View.{View}
use Rattle.cb_rule.specs.Lists.{Each}
use Rattle.cb_rule.specs.Steps.{Knows}
use Rattle.cb_rule.specs.TriesAgain.{is_to_try_again, tries_again}
use Rattle.cb_record.specs.Backs.{Backs, Enters, EntersAt, Tells, happened_at, happened_for}
use Rattle.cb_record.specs.Backs.{pins_at, pins_for, turn_at, turn_needed}
use Rattle.cb_record.specs.Deeds.{Deed, deed, happened, happening}
use Rattle.cb_record.specs.Lists.{HasOne, IsSublist, ended}
use Rattle.cb_record.specs.Needs.{IsJobFor, IsTurnFor, IsWornLanding, Meets, need_of}
use Rattle.cb_record.specs.Parts.{Grows, Part, grown, nothing_more, sum}
use Rattle.cb_record.specs.Told.{Told}
use Rattle.cb_record.proofs.Laws.{backs_sum, grown-nothing_more, grown-sum, idle_backs}
use Rattle.cb_shared.specs.Calls.{Brings, EndsAtLast, IsAnswerTo, IsInVain, again_in}
use Rattle.cb_shared.specs.Turning.{TurnAdds, turn_part}
use Rattle.cb_shared.proofs.Laws.{known_grown, part_again}

-- the record grew by this part, but for its pins and the handles that are its own
abbrev pub Adds : View → Part → View → Type 0
Adds v d w = w ≡ record (grown d v) { own = w.own; pins = w.pins }

pub adds_by : (v w : View) (d : Part) (own : List ℕ) (pins : List Stand)
    → w ≡ record (grown d v) { own = own; pins = pins } → Adds v d w
adds_by v w d own pins is =
    is ∙ (λ i. record (grown d v) { own = (sym is i).own; pins = (sym is i).pins })

pub adds_grown : (v w : View) (d : Part) → Grows v d w → Adds v d w
adds_grown v w d is = adds_by v w d v.own v.pins is

pub adds_pins : (v w : View) (pins : List Stand) → w ≡ record v { pins = pins }
    → Adds v nothing_more w
adds_pins v w pins is = adds_by v w nothing_more v.own pins
    (is ∙ ap (λ (z : View). let y : View = record z { pins = pins } in y)
    (sym (grown-nothing_more v)))

pub adds_none : (v w : View) → w ≡ v → Adds v nothing_more w
adds_none v w is = adds_grown v w nothing_more (is ∙ sym (grown-nothing_more v))

pub adds_sum : (v m w : View) (d e : Part) → Adds v d m → Adds m e w → Adds v (sum d e) w
adds_sum v m w d e x y = y ∙ (λ i. record (grown e (x i)) { own = w.own; pins = w.pins })
    ∙ ap (λ (z : View). let u : View = record z { own = w.own; pins = w.pins } in u)
    (sym (grown-sum d e v))

pub adds_knows : (h : ℕ) (v w : View) (d : Part) → Adds v d w → Knows h v → Knows h w
adds_knows h v w d x knows = subst (Knows h) (sym x) (known_grown h d v knows)

-- ---- one answer
pub one_backs : (d : Part) (t : Told) → Enters t d.written → Tells d t → pins_for t ≤ d.ever
    → IsSublist (turn_needed t) (map deed d.turns)
    → flat_map (λ (u : Turn). happened (deed u)) d.turns ≡ happened_for t → Backs d (t ∷ [])
one_backs d t enters tells pins turned happens = record {
  wrote = (d.written, [], refl, enters, refl);
  tells = (tells, tt);
  pins = let e = sum_by-cons pins_for t [] in let z : sum_by pins_for [] ≡ 0 = refl in
      omega (arith, e, z, pins);
  turned = turned;
  happens = happens;
}

pub idle_turns : (ts : List Turn) → Each (λ (u : Turn). happened (deed u) ≡ []) ts
    → flat_map (λ (u : Turn). happened (deed u)) ts ≡ []
idle_turns [] idle = refl
idle_turns (t ∷ ts) idle =
    ap (λ (l : List Deed). l ++ flat_map (λ (u : Turn). happened (deed u)) ts) idle.0
    ∙ idle_turns ts idle.1

pub vain_backs : {o : Option Kept} (on : ℕ → Type 0) (j : Turn → Type 0) (d : Part)
    → IsInVain o on j d → Backs d []
vain_backs on j d x = idle_backs d (ap (λ (z : Part). z.written) x.part)
    (ap (λ (z : Part). flat_map (λ (u : Turn). happened (deed u)) z.turns) x.part
    ∙ idle_turns x.turns x.idle)

-- tries that came to nothing stand before what answers the line
pub ends_back : (on : ℕ → Type 0) (j : Turn → Type 0) (P : View → Part → Type 0) (v : View)
    (d : Part) (t : Told)
    → (x : EndsAtLast on j P v d) → Backs x.last (t ∷ []) → Backs d (t ∷ [])
ends_back on j P v d t x b = subst (λ (z : Part). Backs z (t ∷ [])) (sym x.part)
    (backs_sum x.before x.last [] (t ∷ []) (vain_backs on j x.before x.in_vain) b)

-- ---- an answer by a turn
-- what a line needs to know of the turns of a job that answer it
pub record IsByTurn (j : Job) (h : Option ℕ) (q : Request) (r : Reply) : Type 0 where
  pub enters : (es : List Entry) → TurnWrites j r es → EntersAt h q r es
  pub no_pin : pins_at q r ≡ 0
  pub turned : IsSublist (turn_at h q r) (record { job = j; reply = Some r } ∷ [])
  pub happens : happening j (Some r) ≡ happened_at q r

pub turn_backs : (c : Config) (j : Job) (h : Option ℕ) (q : Request) (r : Reply) (v : View)
    (d : Part)
    → (x : TurnAdds c j (Ok r) v d) → IsByTurn j h q r
    → Meets (turn_part x.turn x.more x.within x.later) (need_of h q r)
    → Backs d (record { handle = h; request = q; reply = r } ∷ [])
turn_backs c j h q r v d x by meets = subst (λ (z : Part). Backs z (t ∷ [])) (sym x.part)
    (one_backs e t (by.enters x.more x.wrote) meets
    (let z = by.no_pin in omega (arith, z))
    (subst (λ (u : Deed). IsSublist (turn_at h q r) (u ∷ [])) (sym same) by.turned)
    (append-nil (happened (deed x.turn)) ∙ ap happened same ∙ by.happens))
  where
    t : Told
    t = record { handle = h; request = q; reply = r }

    e : Part
    e = turn_part x.turn x.more x.within x.later

    same : deed x.turn ≡ record { job = j; reply = Some r }
    same = λ i. record { job = x.job_is i; reply = x.reply_is i }

pub job_for : (own : Option Job) (h : Option ℕ) (r : Reply) (j k : Job) → own ≡ Some j → k ≡ j
    → IsJobFor own h r k
job_for own (Some h) r j k is same = inl (is ∙ ap (λ (z : Job). Some z) (sym same))
job_for own None r j k is same = is ∙ ap (λ (z : Job). Some z) (sym same)

-- a turn that brings an object in, and answers its call, is one on this object; or a landing that
-- tells of wear by the count of turns
brings_for : (own : Option Job) (h : ℕ) (again : Bool) (j : Job) (r : Reply) → Brings h j
    → IsAnswerTo again j r → IsJobFor own (Some h) r j
brings_for own h again j r (inl is) x = inr (inl (inl is))
brings_for own h again j r (inr (inl is)) x = inr (inl (inr is))
brings_for own h again j r (inr (inr is)) x = inr (inr (subst (λ (z : Reply). IsWornLanding z j)
    (sym (subst (λ (k : Job). IsAnswerTo again k r) is x)) is))

-- the turn itself is what the line needs, where it is not made again
abbrev pub IsLast : Turn → Reply → Type 0
IsLast t r = is_to_try_again t.gave t.order t.job (Some r) ≡ false

last_turn : (t : Turn) (r : Reply) → t.reply ≡ Some r → IsLast t r → tries_again t ≡ false
last_turn t r reply last = ap (is_to_try_again t.gave t.order t.job) reply ∙ last

pub its_turn : (c : Config) (own : Option Job) (h : Option ℕ) (j : Job) (r : Reply) (v : View)
    (d : Part)
    → own ≡ Some j → (x : TurnAdds c j (Ok r) v d) → IsLast x.turn r
    → HasOne (IsTurnFor own h r) (x.turn ∷ [])
its_turn c own h j r v d is x last = inl (
  x.reply_is,
  job_for own h r j x.turn.job is x.job_is,
  last_turn x.turn r x.reply_is last,
)

pub its_bringing : (c : Config) (own : Option Job) (h : ℕ) (again : Bool) (j : Job) (r : Reply)
    (v : View) (d : Part) → Brings h j → IsAnswerTo again j r → (x : TurnAdds c j (Ok r) v d) → IsLast x.turn r
    → HasOne (IsTurnFor own (Some h) r) (x.turn ∷ [])
its_bringing c own h again j r v d brings answers x last = inl (
  x.reply_is,
  subst (IsJobFor own (Some h) r) (sym x.job_is) (brings_for own h again j r brings answers),
  last_turn x.turn r x.reply_is last,
)

-- a turn that answers its call is not
pub is_last : (c : Config) (j : Job) (r : Reply) (v : View) (d : Part)
    → (x : TurnAdds c j (Ok r) v d) → again_in d.turns ≡ false → IsLast x.turn r
is_last c j r v d x off =
    sym (ap (is_to_try_again x.turn.gave x.turn.order x.turn.job) x.reply_is)
    ∙ sym (part_again c j (Ok r) v d x) ∙ off

-- ---- what a line adds that was answered so
abbrev pub told_as : Option ℕ → Request → Reply → Told
told_as h q r = record { handle = h; request = q; reply = r }

abbrev pub LineAdds : View → View → Told → Type 0
LineAdds v w t = (d : Part) × Adds v d w × Backs d (t ∷ [])

-- nothing: no call was made
pub still_backs : (h : Option ℕ) (q : Request) (r : Reply) → EntersAt h q r []
    → Meets nothing_more (need_of h q r)
    → pins_at q r ≡ 0 → turn_at h q r ≡ [] → happened_at q r ≡ []
    → Backs nothing_more (told_as h q r ∷ [])
still_backs h q r enters meets pins turned happens =
    one_backs nothing_more (told_as h q r) enters meets (omega (arith, pins))
    (subst (λ (l : List Deed). IsSublist l []) (sym turned) ended) (sym happens)
