-- The scopes of all lanes, line after line, and the lanes that have come to their end.
use Rattle.std.proofs.Common.{◌≡◌, ◌≢◌, ◌⊎◌, ℕ, zero, suc, ◌+◌, ◌<◌, ◌≤◌, Bool, true, false, List}
use Rattle.std.proofs.Common.{[], ◌∷◌, ◌++◌, length, map, get_or, set, take, drop, replicate}
use Rattle.std.proofs.Common.{Option, None, Some, refl, sym, ap, ◌∙◌, subst, arith, inl, inr}
use Rattle.std.proofs.Common.{eq-eqb, ne_eqb, if◌then◌else◌, nat_eq, append_assoc}
use Rattle.std.specs.Str.{bytes_eq}
use native.Mathlib.Decide.{ℕ_discrete}
use Rattle.std.proofs.lemmas.Bool.{cases_lt}
use Rattle.std.proofs.lemmas.List.{append-nil, map_push, drop_more, get_or_past, length-replicate}
use Rattle.std.proofs.lemmas.List.{length-set, get_or-set_same, get_or-set_other, get_or-replicate}
use Rattle.std.proofs.lemmas.List.Sums.{fold_push, sum_by-cons}
use Rattle.cb_types.specs.declared.answer.Answer.{Answer}
use Rattle.cb_types.specs.declared.request.Request.{Request}
use Rattle.cb_types.specs.declared.request.Request.TheVariants.{Make}
use Rattle.cb_types.specs.declared.reply.Reply.{Reply}
use Rattle.cb_types.specs.declared.reply.Reply.TheVariants.{Made}
use Rattle.cb_types.specs.Requests.{name_of}
use Rattle.cb_model.specs.Called.{first_of, handle_of, handle_for, handle_made, handle_named}
use Rattle.cb_model.specs.Event.{event_of}
use Rattle.cb_model.specs.Now.{MapNow}
use Rattle.cb_model.specs.Replies.{MapReplies}
use Rattle.cb_script.specs.declared.script.Line.{Line}
use Rattle.cb_script.specs.Form.{MakesName, IsNameNew, IsNameKnown, AreLines}
use Rattle.cb_world.specs.Seats.{SeatState, idle_seat, pins_of_seat}
use Rattle.cb_world.specs.World.{WorldState, IsSoundWorld}
use Rattle.cb_lanes.specs.Asked.{asked}
use Rattle.cb_lanes.specs.GivingBack.{Rests, lines_by}
use Rattle.cb_lanes.specs.LineStep.{LineStep, LinesLead}
use Rattle.cb_lanes.specs.LinesSoundly.{LinesLeadSoundly}
use Rattle.cb_lanes.specs.LineTells.{LineLeaves}
use Rattle.cb_lanes.specs.declared.side.Side.{Side}
use Rattle.cb_lanes.specs.LinesLeft.{AreLanes, AreLeft, lanes_of}
use Rattle.cb_lanes.specs.Names.{KeptNames, kept_number, number_after}
use Rattle.cb_lanes.specs.Scopes.{Scope, scope_after, scope_more, scope_of, ScopeSays, KeepScopes}
use Rattle.cb_lanes.proofs.GivingBack.{StandsWithout, stands_same, gives_all}
use Rattle.cb_lanes.proofs.Lists.{one_if}
use Rattle.cb_lanes.proofs.PinLists.{AreHandlesApart, ArePinsOf, name_cases, pins_kept}
use Rattle.cb_lanes.proofs.Scoping.{Scoped}

-- ---- counts of lines

pub lines_own : (lane : ℕ) (later : List ℕ) → lines_by lane (lane ∷ later) ≡ 1 + lines_by lane later
lines_own lane later = sum_by-cons (λ (x : ℕ). one_if (nat_eq lane x)) lane later
    ∙ ap (λ (b : Bool). one_if b + lines_by lane later) (eq-eqb lane lane refl)

pub lines_other : (k lane : ℕ) (later : List ℕ) → k ≢ lane
    → lines_by k (lane ∷ later) ≡ lines_by k later
lines_other k lane later off =
    let one = sum_by-cons (λ (x : ℕ). one_if (nat_eq k x)) lane later in
    let none : one_if (nat_eq k lane) ≡ 0 = ap one_if (ne_eqb k lane off) in
    omega (arith, one, none)

-- without lines of the lanes from 16 on
lines_low : (lanes : List ℕ) → AreLanes lanes → (k : ℕ) → 16 ≤ k → lines_by k lanes ≡ 0
lines_low [] are k high = refl
lines_low (x ∷ lanes) are k high =
    let low = are.0 in
    lines_other k x lanes (λ e. omega (arith, low, high, e)) ∙ lines_low lanes are.1 k high

-- ---- behind a line

-- the lane's pins are given back where it has no line to come, and stay where it has one
pub record Rested (left seat : ℕ) (between rested : WorldState) : Type 0 where
  pub stands : StandsWithout seat between rested
  pub gone : left ≡ 0 → pins_of_seat rested.seats seat ≡ []
  pub stay : 1 ≤ left → pins_of_seat rested.seats seat ≡ pins_of_seat between.seats seat

pub rests : (left seat : ℕ) (between rested : WorldState) → IsSoundWorld between → seat < 64
    → Rests left seat between rested → Rested left seat between rested
rests zero seat between rested sound lt leads =
    let gave = gives_all seat between rested sound lt leads in
    record { stands = gave.0; gone = λ e. gave.1; stay = λ some. absurd (omega (arith, some)) }
rests (suc left) seat between rested sound lt same = record {
  stands = stands_same seat between rested sound same;
  gone = λ e. absurd (omega (arith, e));
  stay = λ some. ap (λ (v : WorldState). pins_of_seat v.seats seat) same;
}

-- ---- the scopes of all lanes

-- Each lane that has a line to come has the pins of its scope, and no other seat has a pin.
pub record AreScopes (number : List ℕ → Option ℕ) (later : List ℕ) (answers : List Answer)
    (w : WorldState)
    : Type 0 where
  pub apart : AreHandlesApart number
  pub low : (k : ℕ) → 16 ≤ k → lines_by k later ≡ 0
  pub are : (k : ℕ) → 1 ≤ lines_by k later
      → ArePinsOf number (scope_of k answers) (pins_of_seat w.seats k)
  pub gone : (k : ℕ) → lines_by k later ≡ 0 → pins_of_seat w.seats k ≡ []

pub scopes_none : (number : List ℕ → Option ℕ) (later : List ℕ) (w : WorldState)
    → AreHandlesApart number
    → AreLanes later → w.seats ≡ replicate 64 idle_seat → AreScopes number later [] w
scopes_none number later w apart lanes idle = record {
  apart = apart;
  low = lines_low later lanes;
  are = λ k some. none k;
  gone = λ k zero_. none k;
}
  where
    none : (k : ℕ) → pins_of_seat w.seats k ≡ []
    none k = ap (λ (xs : List SeatState). pins_of_seat xs k) idle ∙ by (cases_lt k 64)
      where
        by : (k < 64) ⊎ (64 ≤ k) → pins_of_seat (replicate 64 idle_seat) k ≡ []
        by (inl lt) = ap (λ (x : SeatState). x.pins) (get_or-replicate 64 k idle_seat idle_seat lt)
        by (inr past) = ap (λ (x : SeatState). x.pins)
            (get_or_past (replicate 64 idle_seat) k idle_seat
            (omega (arith, past, length-replicate 64 idle_seat)))

pub scopes_push : (number other : List ℕ → Option ℕ) (later : List ℕ) (answers : List Answer)
    (a : Answer)
    (handle : Option ℕ) (w between new : WorldState)
    → AreScopes number (a.lane.n ∷ later) answers w
    → Scoped number handle (scope_of a.lane.n answers) a.request a.reply a.lane.n w between
    → ((q : List ℕ) (h : ℕ) → number q ≡ Some h → other q ≡ Some h) → AreHandlesApart other
    → Rested (lines_by a.lane.n later) a.lane.n between new
    → AreScopes other later (answers ++ a ∷ []) new
scopes_push number other later answers a handle w between new scopes line kept apart rested =
    record {
      apart = apart;
      low = λ k high. low k high (ℕ_discrete k a.lane.n);
      are = λ k some. are k some (ℕ_discrete k a.lane.n);
      gone = λ k zero_. gone k zero_ (ℕ_discrete k a.lane.n);
    }
  where
    lane : ℕ
    lane = a.lane.n

    more : (k : ℕ) → scope_of k (answers ++ a ∷ []) ≡ scope_more k (scope_of k answers) a
    more k = fold_push (scope_more k) [] answers a

    own_more : scope_of lane (answers ++ a ∷ []) ≡ scope_after
        (scope_of lane answers) a.request a.reply
    own_more = more lane ∙ ap
        (λ (b : Bool). if b then scope_after (scope_of lane answers) a.request a.reply
        else scope_of lane answers) (eq-eqb lane lane refl)

    other_more : (k : ℕ) → k ≢ lane → scope_of k (answers ++ a ∷ []) ≡ scope_of k answers
    other_more k off = more k
        ∙ ap (λ (b : Bool). if b then scope_after (scope_of k answers) a.request a.reply
        else scope_of k answers) (ne_eqb lane k (λ e. off (sym e)))

    same_pins : (k : ℕ) → k ≢ lane → pins_of_seat new.seats k ≡ pins_of_seat w.seats k
    same_pins k off = rested.stands.others k off ∙ line.others k off

    low : (k : ℕ) → 16 ≤ k → Dec (k ≡ lane) → lines_by k later ≡ 0
    low k high (yes e) = absurd (let n = scopes.low k high in
        let one : lines_by k (lane ∷ later) ≡ 1 + lines_by k later =
        subst (λ (j : ℕ). lines_by j (lane ∷ later) ≡ 1 + lines_by j later) (sym e)
        (lines_own lane later) in
        omega (arith, n, one))
    low k high (no off) = sym (lines_other k lane later off) ∙ scopes.low k high

    are : (k : ℕ) → 1 ≤ lines_by k later → Dec (k ≡ lane)
        → ArePinsOf other (scope_of k (answers ++ a ∷ [])) (pins_of_seat new.seats k)
    are k some (yes e) = subst (λ (j : ℕ). ArePinsOf other (scope_of j (answers ++ a ∷ []))
        (pins_of_seat new.seats j)) (sym e)
        (subst (λ (s : Scope). ArePinsOf other s (pins_of_seat new.seats lane)) (sym own_more)
        (rw (rested.stay (subst (λ (j : ℕ). 1 ≤ lines_by j later) e some))
        (pins_kept number other (scope_after (scope_of lane answers) a.request a.reply)
        (pins_of_seat between.seats lane) kept line.pins)))
    are k some (no off) =
        subst (λ (s : Scope). ArePinsOf other s (pins_of_seat new.seats k)) (sym (other_more k off))
        (rw (same_pins k off)
        (pins_kept number other (scope_of k answers) (pins_of_seat w.seats k) kept
        (scopes.are k (let n = lines_other k lane later off in omega (arith, n, some)))))

    gone : (k : ℕ) → lines_by k later ≡ 0 → Dec (k ≡ lane) → pins_of_seat new.seats k ≡ []
    gone k zero_ (yes e) = ap (pins_of_seat new.seats) e
        ∙ rested.gone (ap (λ (j : ℕ). lines_by j later) (sym e) ∙ zero_)
    gone k zero_ (no off) = same_pins k off
        ∙ scopes.gone k (lines_other k lane later off ∙ zero_)

-- each answer is as its lane's scope says
pub keep_push : (before after : List Answer) (a : Answer) → KeepScopes before after
    → ScopeSays (handle_named (before ++ after) (name_of a.request))
    (scope_of a.lane.n (before ++ after))
    a.request a.reply
    → KeepScopes before (after ++ a ∷ [])
keep_push before [] a keep says = (
  subst (λ (xs : List Answer).
      ScopeSays (handle_named xs (name_of a.request)) (scope_of a.lane.n xs) a.request a.reply)
      (append-nil before) says,
  tt,
)
keep_push before (b ∷ after) a keep says = (
  keep.0,
  keep_push (before ++ b ∷ []) after a keep.1
      (subst (λ (xs : List Answer).
      ScopeSays (handle_named xs (name_of a.request)) (scope_of a.lane.n xs) a.request a.reply)
      (sym (append_assoc before (b ∷ []) after)) says),
)

-- ---- the lines lead, with more to come

-- the lanes of answers
abbrev pub answered_lanes : List Answer → List ℕ
answered_lanes answers = map (λ (a : Answer). a.lane.n) answers

-- as LinesLeadSoundly, where these lanes have lines behind the answers
abbrev pub LeadsOn : Side → List ℕ → List Answer → WorldState → List Answer → WorldState → Type 0
LeadsOn side later before w [] new = new ≡ w
LeadsOn side later before w (a ∷ after) new = (between : WorldState) × (rested : WorldState)
    × LineStep side a.lane.n (handle_named before (name_of a.request)) a.request w a.reply between
    × Rests (lines_by a.lane.n (answered_lanes after ++ later)) a.lane.n between rested
    × LineLeaves a.lane.n (handle_named before (name_of a.request)) a.request w a.reply between
    rested
    × LeadsOn side later (before ++ a ∷ []) rested after new

pub leads_push : (side : Side) (later : List ℕ) (before after : List Answer)
    (w mid between new : WorldState) (a : Answer)
    → LeadsOn side (a.lane.n ∷ later) before w after mid
    → LineStep side a.lane.n (handle_named (before ++ after) (name_of a.request)) a.request mid
    a.reply between
    → Rests (lines_by a.lane.n later) a.lane.n between new
    → LineLeaves a.lane.n (handle_named (before ++ after) (name_of a.request)) a.request mid a.reply
    between new
    → LeadsOn side later before w (after ++ a ∷ []) new
leads_push side later before [] w mid between new a leads step rest leaves = (
  between,
  new,
  subst (λ (v : WorldState).
      LineStep side a.lane.n (handle_named before (name_of a.request)) a.request v a.reply between)
      leads
      (subst (λ (xs : List Answer).
      LineStep side a.lane.n (handle_named xs (name_of a.request)) a.request mid a.reply between)
      (append-nil before) step),
  rest,
  subst (λ (v : WorldState).
      LineLeaves a.lane.n (handle_named before (name_of a.request)) a.request v a.reply between new)
      leads
      (subst (λ (xs : List Answer).
      LineLeaves a.lane.n (handle_named xs (name_of a.request)) a.request mid a.reply between new)
      (append-nil before) leaves),
  refl,
)
leads_push side later before (b ∷ after) w mid between new a leads step rest leaves = (
  leads.0,
  leads.1,
  leads.2,
  subst (λ (lanes : List ℕ). Rests (lines_by b.lane.n lanes) b.lane.n leads.0 leads.1) moved
      leads.3,
  leads.4,
  leads_push side later (before ++ b ∷ []) after leads.1 mid between new a leads.5
      (subst (λ (xs : List Answer).
      LineStep side a.lane.n (handle_named xs (name_of a.request)) a.request mid a.reply between)
      (sym (append_assoc before (b ∷ []) after)) step) rest
      (subst (λ (xs : List Answer).
      LineLeaves a.lane.n (handle_named xs (name_of a.request)) a.request mid a.reply between new)
      (sym (append_assoc before (b ∷ []) after)) leaves),
)
  where
    moved : answered_lanes after ++ a.lane.n ∷ later ≡ answered_lanes (after ++ a ∷ []) ++ later
    moved = sym (append_assoc (answered_lanes after) (a.lane.n ∷ []) later)
        ∙ ap (λ (xs : List ℕ). xs ++ later) (sym (map_push (λ (x : Answer). x.lane.n) after a))

-- without lines to come
pub leads_end : (side : Side) (before after : List Answer) (w new : WorldState)
    → LeadsOn side [] before w after new → LinesLead side before w after new
leads_end side before [] w new leads = leads
leads_end side before (a ∷ after) w new leads = (
  leads.0,
  leads.1,
  leads.2,
  subst (λ (lanes : List ℕ). Rests (lines_by a.lane.n lanes) a.lane.n leads.0 leads.1)
      (append-nil (answered_lanes after)) leads.3,
  leads_end side (before ++ a ∷ []) after leads.1 new leads.5,
)

pub soundly_end : (side : Side) (before after : List Answer) (w new : WorldState)
    → LeadsOn side [] before w after new → LinesLeadSoundly side before w after new
soundly_end side before [] w new leads = leads
soundly_end side before (a ∷ after) w new leads = (
  leads.0,
  leads.1,
  leads.2,
  subst (λ (lanes : List ℕ). Rests (lines_by a.lane.n lanes) a.lane.n leads.0 leads.1)
      (append-nil (answered_lanes after)) leads.3,
  leads.4,
  soundly_end side (before ++ a ∷ []) after leads.1 new leads.5,
)

-- ---- names and their handles

-- a make's name has no handle yet
abbrev pub IsFreshName : (List ℕ → Option ℕ) → Request → Type 0
IsFreshName number (Make name bytes) = number name ≡ None
IsFreshName number request = Unit {0}

-- names keep their handles
pub grown : (names : KeptNames) (request : Request) (reply : Reply) (q : List ℕ) (h : ℕ)
    → IsFreshName (kept_number names) request → kept_number names q ≡ Some h
    → number_after names request reply q ≡ Some h
grown names (Make name bytes) (Made handle version) q h fresh e = by (name_cases name q)
  where
    by : ((bytes_eq name q ≡ true) × (name ≡ q)) ⊎ ((bytes_eq name q ≡ false) × (name ≢ q))
        → (if bytes_eq name q then Some handle.n else kept_number names q) ≡ Some h
    by (inl same) = absurd (let both : None ≡ Some h = sym fresh ∙ ap (kept_number names) same.1
        ∙ e in cc)
    by (inr off) = ap (λ (b : Bool). if b then Some handle.n else kept_number names q) off.0 ∙ e
grown names (Make name bytes) reply q h fresh e = e
grown names request reply q h fresh e = e

-- no two names have one handle: a make gets one that no name had
pub apart_after : (names : KeptNames) (answers : List Answer) (first handles made : ℕ)
    (now : MapNow)
    (request : Request) (reply : Reply) → AreHandlesApart (kept_number names)
    → ((q : List ℕ) (k : ℕ) → kept_number names q ≡ Some k → k < made)
    → MapReplies first handles made (handle_for answers request reply) now (event_of request reply)
    → AreHandlesApart (number_after names request reply)
apart_after names answers first handles made now (Make text bytes)
    (Made handle version) apart within m =
    λ a b h x y. by a b h x y (name_cases text a) (name_cases text b)
  where
    at : handle.n ≡ made
    at = let both : Some handle.n ≡ Some made = m.0 in cc

    of : List ℕ → Option ℕ
    of q = if bytes_eq text q then Some handle.n else kept_number names q

    own : (q : List ℕ) (h : ℕ) → bytes_eq text q ≡ true → of q ≡ Some h → h ≡ made
    own q h is e = let both : Some handle.n ≡ Some h =
        sym (ap (λ (b : Bool). if b then Some handle.n else kept_number names q) is) ∙ e in
        let same : handle.n ≡ h = cc in sym same ∙ at

    old : (q : List ℕ) (h : ℕ) → bytes_eq text q ≡ false → of q ≡ Some h
        → kept_number names q ≡ Some h
    old q h is e = sym (ap (λ (b : Bool). if b then Some handle.n else kept_number names q) is) ∙ e

    by : (a b : List ℕ) (h : ℕ) → of a ≡ Some h → of b ≡ Some h
        → ((bytes_eq text a ≡ true) × (text ≡ a)) ⊎ ((bytes_eq text a ≡ false) × (text ≢ a))
        → ((bytes_eq text b ≡ true) × (text ≡ b)) ⊎ ((bytes_eq text b ≡ false) × (text ≢ b)) → a ≡ b
    by a b h x y (inl p) (inl q) = sym p.1 ∙ q.1
    by a b h x y (inl p) (inr q) = absurd (let n = own a h p.0 x in
        let lt = within b h (old b h q.0 y) in omega (arith, n, lt))
    by a b h x y (inr p) (inl q) = absurd (let n = own b h q.0 y in
        let lt = within a h (old a h p.0 x) in omega (arith, n, lt))
    by a b h x y (inr p) (inr q) = apart a b h (old a h p.0 x) (old b h q.0 y)
apart_after names answers first handles made now (Make text bytes) reply apart within m = apart
apart_after names answers first handles made now request reply apart within m = apart

not_made : (name : List ℕ) (request : Request) (reply : Reply) → (MakesName request name → ⊥)
    → handle_made name request reply ≡ None
not_made name (Make made bytes) (Made handle version) never = by (name_cases made name)
  where
    by : ((bytes_eq made name ≡ true) × (made ≡ name))
        ⊎ ((bytes_eq made name ≡ false) × (made ≢ name))
        → (if bytes_eq made name then Some handle.n else None) ≡ None
    by (inl same) = absurd (never same.1)
    by (inr off) = ap (λ (b : Bool). if b then Some handle.n else None) off.0
not_made name (Make made bytes) reply never = refl
not_made name request reply never = refl

-- a name that no line before makes has no handle
never_made : (answers : List Answer) (name : List ℕ) → IsNameNew (map asked answers) name
    → handle_of answers name ≡ None
never_made [] name new = refl
never_made (a ∷ later) name new =
    (λ i. first_of (never_made later name (λ lane made. new lane (inr made)) i)
    (not_made name a.request a.reply (λ makes. new a.lane.n (inl (refl, makes))) i))

-- the request of a line is known behind the lines before it
pub line_known : (nodes : ℕ) (before lines : List Line) (i : ℕ) (l : Line)
    → AreLines nodes before lines
    → i < length lines → l ≡ get_or lines i l
    → IsNameKnown (before ++ take i lines) l.lane.n l.request
line_known nodes before (x ∷ lines) zero l all below at =
    subst (λ (ls : List Line). IsNameKnown ls l.lane.n l.request) (sym (append-nil before))
    (subst (λ (y : Line). IsNameKnown before y.lane.n y.request) (sym at) all.0.known)
line_known nodes before (x ∷ lines) (suc i) l all below at =
    subst (λ (ls : List Line). IsNameKnown ls l.lane.n l.request)
    (append_assoc before (x ∷ []) (take i lines))
    (line_known nodes (before ++ x ∷ []) lines i l all.1 (omega (arith, below)) at)
line_known nodes before [] i l all below at = absurd (omega (arith, below))

-- so a make's name has no handle
pub fresh_by : (answers : List Answer) (lines : List Line) (lane : ℕ) (request : Request)
    (number : List ℕ → Option ℕ) → ((name : List ℕ) → handle_of answers name ≡ number name)
    → map asked answers ≡ lines → IsNameKnown lines lane request → IsFreshName number request
fresh_by answers lines lane (Make name bytes) number same asked_are known =
    sym (same name) ∙ never_made answers name
    (subst (λ (ls : List Line). IsNameNew ls name) (sym asked_are) known)
fresh_by answers lines lane request number same asked_are known = tt

-- the lanes of the lines
pub lines_lanes : (nodes : ℕ) (before lines : List Line) → AreLines nodes before lines
    → AreLanes (lanes_of lines)
lines_lanes nodes before [] all = tt
lines_lanes nodes before (x ∷ lines) all = (
  let low = all.0.lane.low in omega (arith, low),
  lines_lanes nodes
      (before ++ x ∷ []) lines all.1,
)

-- ---- the counts of lines that are left

-- and one less
pub left_less : (later left : List ℕ) (lane n : ℕ) → lane < 16 → n + 1 ≡ get_or left lane 0
    → AreLeft (lane ∷ later) left → AreLeft later (set left lane n) × (n ≡ lines_by lane later)
left_less later left lane n lt is are = (
  record {
    sized = length-set left lane n ∙ are.sized;
    counts = λ k below. by k below (ℕ_discrete k lane);
  },
  own,
)
  where
    own : n ≡ lines_by lane later
    own = let a = are.counts lane lt in let b = lines_own lane later in omega (arith, a, b, is)

    by : (k : ℕ) → k < 16 → Dec (k ≡ lane) → get_or (set left lane n) k 0 ≡ lines_by k later
    by k below (yes e) = ap (λ (j : ℕ). get_or (set left lane n) j 0) e
        ∙ get_or-set_same left lane n 0 (omega (arith, lt, are.sized)) ∙ own
        ∙ ap (λ (j : ℕ). lines_by j later) (sym e)
    by k below (no off) = get_or-set_other left lane k n 0 off ∙ are.counts k below
        ∙ lines_other k lane later off

-- ---- the lines that are left

-- the next line's lane, and then those of the lines behind it
pub split_line : (lines : List Line) (i : ℕ) (l : Line) → i < length lines → l ≡ get_or lines i l
    → lanes_of (drop i lines) ≡ l.lane.n ∷ lanes_of (drop (i + 1) lines)
split_line lines i l lt at = ap lanes_of (drop_more lines i l lt)
    ∙ ap (λ (x : Line). x.lane.n ∷ lanes_of (drop (i + 1) lines)) (sym at)

pub lane_below : (lines : List Line) (i : ℕ) (l : Line) → AreLanes (lanes_of lines)
    → i < length lines
    → l ≡ get_or lines i l → l.lane.n < 16
lane_below [] i l are lt at = absurd (omega (arith, lt))
lane_below (x ∷ lines) zero l are lt at = subst (λ (y : Line). y.lane.n < 16) (sym at) are.0
lane_below (x ∷ lines) (suc i) l are lt at = lane_below lines i l are.1 (omega (arith, lt)) at
