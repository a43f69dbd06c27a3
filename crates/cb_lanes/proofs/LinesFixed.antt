-- The lines of a script are answered in one way, and lead to one world.
use Rattle.std.proofs.Common.{◌≡◌, ℕ, zero, suc, List, [], ◌∷◌, ◌++◌, length, map, reverse, Option}
use Rattle.std.proofs.Common.{None, Some, refl, sym, ap, ◌∙◌, subst, arith}
use Rattle.std.specs.List.{slice_get}
use Rattle.std.proofs.lemmas.Option.{same_Some}
use Rattle.cb_ptr.specs.Word.{len_of}
use Rattle.cb_types.specs.declared.answer.Answer.{Answer}
use Rattle.cb_types.specs.declared.job.Job.{Job}
use Rattle.cb_types.specs.declared.job.Job.TheVariants as job
use Rattle.cb_types.specs.declared.reply.Reply.{Reply}
use Rattle.cb_types.specs.declared.reply.Reply.TheVariants as answer
use Rattle.cb_types.specs.declared.request.Request.{Request}
use Rattle.cb_types.specs.declared.request.Request.TheVariants.{Make, Read, Write, Free, Pin, Peek}
use Rattle.cb_types.specs.declared.request.Request.TheVariants.{Unpin, Filter, Leave}
use Rattle.cb_types.specs.Requests.{name_of}
use Rattle.cb_script.specs.declared.script.Line.{Line}
use Rattle.cb_model.specs.Called.{handle_named}
use Rattle.cb_world.specs.declared.seats.SeatPin.{SeatPin}
use Rattle.cb_world.specs.Memory.{bytes_in}
use Rattle.cb_world.specs.Seats.{pins_of_seat}
use Rattle.cb_world.specs.StillWords.{contents_at}
use Rattle.cb_world.specs.World.{WorldState, IsSoundWorld, word_at}
use Rattle.cb_core.specs.declared.event.Event.TheVariants.{Turn}
use Rattle.cb_core.specs.OnceHere.{IsThere}
use Rattle.cb_core.specs.Step.{Leads, Step}
use Rattle.cb_core.specs.Turned.{counted}
use Rattle.cb_core.proofs.Laws.{newest_fixed, step_fixes, unpin_fixed}
use Rattle.cb_core.proofs.Laws as core
use Rattle.cb_local.proofs.Laws.{beside_fixed}
use Rattle.cb_lanes.specs.Asked.{asked}
use Rattle.cb_lanes.specs.GivingBack.{GivesAll, Rests, unpin_event, lines_by}
use Rattle.cb_lanes.specs.LineGoes.{job_of}
use Rattle.cb_lanes.specs.LineStep.{LinesLead, LineStep, ObjectStep, OtherStep, TurnAt}
use Rattle.cb_lanes.specs.LineStep.{PeekStep, not_pinned, shown, PinEvent, PinLine, at_once}
use Rattle.cb_lanes.specs.LineStep.{stays_far, swapped_in, SwapEvent}
use Rattle.cb_lanes.specs.LinesSoundly.{AreOnlyAnswers, LinesLeadSoundly}
use Rattle.cb_lanes.specs.CompactsHere.{CompactsHere}
use Rattle.cb_lanes.specs.declared.side.Side.{Side}
use Rattle.cb_lanes.specs.declared.side.Side.TheVariants as parities
use Rattle.cb_lanes.proofs.FarPins.{far_not_here}
use Rattle.cb_lanes.proofs.Lists.{heads_same}

-- two replies and two worlds are one
abbrev AreOneEnd : Reply → Reply → WorldState → WorldState → Type 0
AreOneEnd r q a b = (r ≡ q) × (a ≡ b)

-- ---- pins that are given back
ends_fixed : (seat : ℕ) (pins : List SeatPin) (rs qs : List Reply) (w a b : WorldState)
    → Leads w (map (unpin_event seat) pins) rs a → Leads w (map (unpin_event seat) pins) qs b
    → a ≡ b
ends_fixed seat [] [] [] w a b x y = x ∙ sym y
ends_fixed seat [] [] (q ∷ qs) w a b x y = absurd y
ends_fixed seat [] (r ∷ rs) qs w a b x y = absurd x
ends_fixed seat (pin ∷ pins) [] qs w a b x y = absurd x
ends_fixed seat (pin ∷ pins) (r ∷ rs) [] w a b x y = absurd y
ends_fixed seat (pin ∷ pins) (r ∷ rs) (q ∷ qs) w a b x y =
    let same = unpin_fixed seat pin.handle w x.0 y.0 r q x.1 y.1 in
    ends_fixed seat pins rs qs y.0 a b
    (subst (λ (v : WorldState). Leads v (map (unpin_event seat) pins) rs a) same.1 x.2) y.2

all_fixed : (seat : ℕ) (w a b : WorldState) → GivesAll seat w a → GivesAll seat w b → a ≡ b
all_fixed seat w a b x y = ends_fixed seat (reverse (pins_of_seat w.seats seat)) _ _ w a b x y

rests_fixed : (left seat : ℕ) (w a b : WorldState) → Rests left seat w a → Rests left seat w b
    → a ≡ b
rests_fixed zero seat w a b x y = all_fixed seat w a b x y
rests_fixed (suc left) seat w a b x y = x ∙ sym y

-- ---- a line on an object
peek_fixed : (seat h : ℕ) (w a b : WorldState) (r q : Reply) → PeekStep seat h w r a
    → PeekStep seat h w q b → AreOneEnd r q a b
peek_fixed seat h w a b r q (not_pinned n e s) (not_pinned m f t) = (e ∙ sym f, s ∙ sym t)
peek_fixed seat h w a b r q (not_pinned n e s) (shown at x f t) =
    absurd (n at x.pin x.there x.on)
peek_fixed seat h w a b r q (shown at x e s) (not_pinned n f t) =
    absurd (n at x.pin x.there x.on)
peek_fixed seat h w a b r q (shown at x e s) (shown to y f t) =
    let pins = pins_of_seat w.seats seat in
    let same : x.pin ≡ y.pin = same_Some x.pin y.pin
    (sym x.there ∙ ap (λ (i : ℕ). slice_get pins i) (newest_fixed pins h at to x y) ∙ y.there) in (
      e
          ∙ ap (λ (pin : SeatPin). answer.Bytes pin.version
          (bytes_in (contents_at w.desk h) (len_of (word_at w.desk h)))) same
          ∙ sym f,
      s ∙ sym t,
    )

pin_event : (seat h : ℕ) (w a b : WorldState) (r q : Reply) → PinEvent seat h w r a
    → PinEvent seat h w q b → AreOneEnd r q a b
pin_event seat h w a b r q x y = core.pin_fixed seat h w a b r q x y

module _ (seat h : ℕ) (w a b : WorldState) (r q : Reply) (sound : IsSoundWorld w) where
  swap_event : (m n : WorldState) (p o : Reply) → SwapEvent seat h w p m → SwapEvent seat h w o n
      → AreOneEnd p o m n
  swap_event m n p o x y = step_fixes w m n (Turn seat (job.Swap (record { n = h }))) p o sound x y

  pin_fixed : PinLine seat h w r a → PinLine seat h w q b → AreOneEnd r q a b
  pin_fixed (at_once e off) (at_once f on) = pin_event seat h w a b r q e f
  pin_fixed (at_once e off) (stays_far away y on) = absurd (off (far_not_here seat h w a r away e))
  pin_fixed (at_once e off) (swapped_in n o away y is z) =
      absurd (off (far_not_here seat h w a r away e))
  pin_fixed (stays_far away x off) (at_once f on) = absurd (on (far_not_here seat h w b q away f))
  pin_fixed (swapped_in m p away x is u) (at_once f on) =
      absurd (on (far_not_here seat h w b q away f))
  pin_fixed (stays_far away x off) (stays_far still y on) = swap_event a b r q x y
  pin_fixed (stays_far away x off) (swapped_in n o still y is z) =
      absurd (off (subst IsThere (sym (swap_event a n r o x y).0) is))
  pin_fixed (swapped_in m p away x is u) (stays_far still y on) =
      absurd (on (subst IsThere (swap_event m b p q x y).0 is))
  pin_fixed (swapped_in m p away x is u) (swapped_in n o still y also z) =
      let same = swap_event m n p o x y in
      pin_event seat h n a b r q (subst (λ (v : WorldState). PinEvent seat h v r a) same.1 u) z

  turn_fixed : (j : Job) → Step w (Turn seat j) r a → Step w (Turn seat j) q b → AreOneEnd r q a b
  turn_fixed j x y = step_fixes w a b (Turn seat j) r q sound x y

object_fixed : (side : Side) (seat : ℕ) (handle : Option ℕ) (request : Request) (w a b : WorldState)
    (r q : Reply)
    → IsSoundWorld w → ObjectStep side seat handle request w r a
    → ObjectStep side seat handle request w q b
    → AreOneEnd r q a b
object_fixed side seat None request w a b r q sound x y = (x.0 ∙ sym y.0, x.1 ∙ sym y.1)
object_fixed side seat (Some h) (Pin name) w a b r q sound x y =
    pin_fixed seat h w a b r q sound x y
object_fixed side seat (Some h) (Peek name) w a b r q sound x y = peek_fixed seat h w a b r q x y
object_fixed side seat (Some h) (Unpin name) w a b r q sound x y =
    unpin_fixed seat h w a b r q x y
object_fixed side seat (Some h) (Read name) w a b r q sound x y =
    turn_fixed seat h w a b r q sound (job.Read (record { n = h })) x y
object_fixed side seat (Some h) (Write name at bytes) w a b r q sound x y =
    turn_fixed seat h w a b r q sound (job.Write (record { n = h }) at bytes) x y
object_fixed side seat (Some h) (Free name) w a b r q sound x y =
    turn_fixed seat h w a b r q sound (job.Free (record { n = h })) x y
object_fixed side seat (Some h) (Filter name) w a b r q sound x y =
    turn_fixed seat h w a b r q sound (job.Filter (record { n = h })) x y
object_fixed side seat (Some h) request w a b r q sound x y = absurd x

here_fixed : (seat : ℕ) (w a b : WorldState) (r q : Reply) → IsSoundWorld w
    → CompactsHere seat w r a → CompactsHere seat w q b → AreOneEnd r q a b
here_fixed seat w a b r q sound x y =
    let one = step_fixes w x.mid y.mid (Turn seat job.Compact) r q sound x.there y.there in
    let far = beside_fixed (counted w.far job.Compact) x.mid.far y.mid.far a.far b.far r q one.0
    (ap (λ (v : WorldState). v.far) one.1) x.beside y.beside in
    let desk = x.desk ∙ ap (λ (v : WorldState). v.desk) one.1 ∙ sym y.desk in
    let seats = x.seats ∙ ap (λ (v : WorldState). v.seats) one.1 ∙ sym y.seats in
    (one.0, λ i. record { desk = desk i; far = far i; seats = seats i })

turn_at_fixed : (j : Job) (side : Side) (seat : ℕ) (w a b : WorldState) (r q : Reply)
    → IsSoundWorld w → TurnAt j side seat w r a → TurnAt j side seat w q b → AreOneEnd r q a b
turn_at_fixed job.Compact parities.Nodes seat w a b r q sound x y =
    step_fixes w a b (Turn seat job.Compact) r q sound x y
turn_at_fixed job.Compact parities.Compute seat w a b r q sound x y =
    here_fixed seat w a b r q sound x y
turn_at_fixed j side seat w a b r q sound x y = step_fixes w a b (Turn seat j) r q sound x y

other_fixed : (side : Side) (seat : ℕ) (handle : Option ℕ) (request : Request) (o : Option Job)
    (w a b : WorldState) (r q : Reply) → IsSoundWorld w
    → OtherStep side seat handle request o w r a → OtherStep side seat handle request o w q b
    → AreOneEnd r q a b
other_fixed side seat handle request (Some j) w a b r q sound x y =
    turn_at_fixed j side seat w a b r q sound x y
other_fixed side seat handle request None w a b r q sound x y =
    object_fixed side seat handle request w a b r q sound x y

-- ---- a line
-- A line has one reply, and leads from a sound world to one world.
pub line_fixes : (side : Side) (seat : ℕ) (handle : Option ℕ) (request : Request)
    (w a b : WorldState) (r q : Reply) → IsSoundWorld w → LineStep side seat handle request w r a
    → LineStep side seat handle request w q b → AreOneEnd r q a b
line_fixes side seat handle (Make name bytes) w a b r q sound x y =
    step_fixes w a b (Turn seat (job.Make bytes)) r q sound x y
line_fixes side seat handle Leave w a b r q sound x y =
    (x.0 ∙ sym y.0, all_fixed seat w a b x.1 y.1)
line_fixes side seat handle request w a b r q sound x y =
    other_fixed side seat handle request (job_of request) w a b r q sound x y

-- ---- lines one after another
-- a line as it was asked
abbrev AskedStep : Side → List Answer → Line → WorldState → Reply → WorldState → Type 0
AskedStep side before l w r new =
    LineStep side l.lane.n (handle_named before (name_of l.request)) l.request w r new

lanes_asked : (answers : List Answer) → map (λ (a : Answer). a.lane.n) answers
    ≡ map (λ (l : Line). l.lane.n) (map asked answers)
lanes_asked [] = refl
lanes_asked (a ∷ answers) = ap (λ (l : List ℕ). a.lane.n ∷ l) (lanes_asked answers)

-- what remains once both lists begin with one answer
pub lines_fix : (side : Side) (before : List Answer) (w a b : WorldState) (xs ys : List Answer)
    → IsSoundWorld w → LinesLeadSoundly side before w xs a → LinesLead side before w ys b
    → map asked xs ≡ map asked ys
    → (xs ≡ ys) × (a ≡ b)
lines_fix side before w a b [] [] sound x y lines = (refl, x ∙ sym y)
lines_fix side before w a b [] (d ∷ ys) sound x y lines =
    absurd (let n : 0 ≡ suc (length (map asked ys)) = ap
    (λ (l : List Line). length l) lines in omega (arith, n))
lines_fix side before w a b (c ∷ xs) [] sound x y lines =
    absurd (let n : suc (length (map asked xs)) ≡ 0 = ap
    (λ (l : List Line). length l) lines in omega (arith, n))
lines_fix side before w a b (c ∷ xs) (d ∷ ys) sound x y lines =
    let split = heads_same (asked c) (asked d) (map asked xs) (map asked ys) lines in
    let line = split.0 in
    let done = line_fixes side d.lane.n (handle_named before (name_of d.request)) d.request w x.0
    y.0 c.reply
    d.reply sound (subst (λ (l : Line). AskedStep side before l w c.reply x.0) line x.2) y.2 in
    let same : c ≡ d = λ i. record {
      lane = (line i).lane;
      line = (line i).line;
      request = (line i).request;
      reply = done.0 i;
    } in
    let lanes : map (λ (e : Answer). e.lane.n) xs ≡ map (λ (e : Answer). e.lane.n) ys =
    lanes_asked xs
    ∙ ap (map (λ (l : Line). l.lane.n)) split.1 ∙ sym (lanes_asked ys) in
    let left : lines_by c.lane.n (map (λ (e : Answer). e.lane.n) xs)
    ≡ lines_by d.lane.n (map (λ (e : Answer). e.lane.n) ys) =
    λ i. lines_by (same i).lane.n (lanes i) in
    let rested = rests_fixed (lines_by d.lane.n (map (λ (e : Answer). e.lane.n) ys)) d.lane.n y.0
    x.1 y.1
    (subst (λ (v : WorldState). Rests (lines_by d.lane.n (map (λ (e : Answer). e.lane.n) ys))
    d.lane.n v x.1)
    done.1
    (subst (λ (n : ℕ). Rests n d.lane.n x.0 x.1) left
    (subst (λ (e : Answer). Rests (lines_by c.lane.n (map (λ (f : Answer). f.lane.n) xs)) e.lane.n
    x.0 x.1)
    same x.3))) y.3 in
    let rest = lines_fix side (before ++ c ∷ []) x.1 a b xs ys x.4.sound x.5
    (subst (λ (v : WorldState). LinesLead side (before ++ c ∷ []) v ys b) (sym rested)
    (subst (λ (e : Answer). LinesLead side (before ++ e ∷ []) y.1 ys b) (sym same) y.4)) split.1 in
    ((λ i. same i ∷ rest.0 i), rest.1)

pub only_lines : (side : Side) (w new : WorldState) (answers : List Answer) → IsSoundWorld w
    → LinesLeadSoundly side [] w answers new → AreOnlyAnswers side w answers new
only_lines side w new answers sound along others v lines leads =
    let z = lines_fix side [] w new v answers others sound along leads (sym lines) in
    (sym z.0, sym z.1)
