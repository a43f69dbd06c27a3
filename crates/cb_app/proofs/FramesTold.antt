-- A turn that was told that there is no room found no free frame, where no object is long, and so as
-- many objects as frames; and a make that was told so found fewer objects than there are handles.
use Rattle.std.proofs.Common.{◌≡◌, ◌⊎◌, ℕ, ◌^◌, ◌<◌, ◌≤◌, Bool, true, false, List, length, Option, None, Some, refl, sym, ap, ◌∙◌, subst, arith, inl, inr}
use Rattle.std.proofs.lemmas.Bool.{cases_lt, false≢true, true≢false}
use Rattle.cb_class.specs.declared.class.Class.{Class}
use Rattle.cb_class.specs.Class.{IsClassOf, pages_of}
use Rattle.cb_frame.specs.Runs.{least_run}
use Rattle.cb_ptr.specs.Word.{state_of}
use Rattle.cb_types.specs.declared.config.Config.{Config}
use Rattle.cb_types.specs.declared.handle.Handle.{Handle}
use Rattle.cb_types.specs.declared.job.Job.{Job}
use Rattle.cb_types.specs.declared.job.Job.TheVariants as job
use Rattle.cb_types.specs.declared.order.Kept.{Kept}
use Rattle.cb_types.specs.declared.order.Kept.TheVariants.{Decode, Encode}
use Rattle.cb_types.specs.declared.reply.Reply.{Reply}
use Rattle.cb_types.specs.declared.reply.Reply.TheVariants as answer
use Rattle.cb_world.specs.declared.access.Access.{Access}
use Rattle.cb_world.specs.declared.shown.Shown.{Shown}
use Rattle.cb_world.specs.FarState.{FarState}
use Rattle.cb_mutate.specs.MakeRule.{MakeRule}
use Rattle.cb_swapin.specs.LandRule.{LandRule}
use Rattle.cb_swapin.specs.SwapRule.{BringsRule}
use Rattle.cb_swapin.proofs.Laws.{by_answer}
use Rattle.cb_set.specs.SetState.{SetState}
use Rattle.cb_core.specs.Narrow.{IsLong, IsNarrow}
use Rattle.cb_core.proofs.Laws.{short_page}
use Rattle.cb_core.specs.OnceHere.{OnceHere, away, here}
use Rattle.cb_core.specs.Parts.{Holding, WithRoom, WhereItIs, at_once, no_room, won, most_evictions, near, declined, stays_far, brought, not_far, was_far}
use Rattle.cb_core.specs.Ordered.{Lands, desk_orders}
use Rattle.cb_core.specs.Ordered.TurnedWith.{done as with_done, worn as with_worn}
use Rattle.cb_core.specs.OrderParts.{FetchesBy}
use Rattle.cb_core.specs.OrderParts.FetchesBy.{not_far as was_near, was_far as was_away}
use Rattle.cb_core.specs.Turned.{Brings, ComesIn, Declines, FindsWhere, Makes, WinsRoom, WritesObject}
use Rattle.cb_core.specs.Turned.{counted, done, worn}
use Rattle.cb_core.proofs.Laws.{TellsNoLack, answered, declined_plain, fetch_told, lack_off, off, write_plain}
use Rattle.cb_rule.specs.Locking.{Stood}
use Rattle.cb_shared.specs.Turning.{DidAs, DidBy, IsReadReply, ReadsByPin, Slate, slate_run}
use Rattle.cb_shared.specs.Turning.{slate_shows}
use Rattle.cb_lanes.proofs.Laws.{frames_made}

abbrev Hold : Type 0
Hold = Holding Slate

abbrev is_room : Reply → Bool
is_room (answer.NoRoom frames loose nodes) = true
is_room r = false

-- the reply is another one
abbrev IsOther : Reply → Type 0
IsOther r = is_room r ≡ false

plain_other : (r : Reply) → TellsNoLack r → IsOther r
plain_other (answer.NoRoom frames loose nodes) plain = absurd (true≢false plain)
plain_other r plain = refl

-- no frame is free
abbrev pub IsShort : FarState → Type 0
IsShort far = least_run far.frames 1 ≡ None

-- so it is, or the reply is another one
abbrev Unless : Reply → FarState → Type 0
Unless r far = is_room r ≡ true → IsShort far

other_unless : (r : Reply) (far : FarState) → IsOther r → Unless r far
other_unless r far other is = absurd (true≢false (sym is ∙ other))

-- ---- one operation
bring_other : {rows : SetState → ℕ} (id p : ℕ) (far new : FarState) (r : Reply) (es : List Access)
    → BringsRule rows id p far new r es → IsOther r
bring_other id p far new r es x = subst IsOther (sym x.reply)
    (by_answer IsOther far id x.set (λ broken. refl) (λ fine free. refl) (λ f fine free. refl))

no_frame : {rows : SetState → ℕ} (id p : ℕ) (far new : FarState) (es : List Access)
    (x : BringsRule rows id p far new answer.NoFrame es) → least_run far.frames x.set.pages ≡ None
no_frame id p far new es x = by_answer
    (λ (q : Reply). is_none q ≡ true → least_run far.frames x.set.pages ≡ None) far id x.set
    (λ broken is. absurd (false≢true is)) (λ fine free is. free)
    (λ f fine free is. absurd (false≢true is)) (sym (ap is_none x.reply))
  where
    is_none : Reply → Bool
    is_none answer.NoFrame = true
    is_none r = false

-- each set has one page
no_span : {rows : SetState → ℕ} (id p : ℕ) (far new : FarState) (es : List Access) → IsNarrow far
    → BringsRule rows id p far new answer.NoFrame es → IsShort far
no_span id p far new es narrow x = subst (λ (pages : ℕ). least_run far.frames pages ≡ None)
    (narrow.sets id x.set x.there) (no_frame id p far new es x)

-- so where a row that was made is landed
landed_other : (order : Option Kept) (far new : FarState) (r : Reply) (es : List Access)
    → LandRule order far new r es → IsOther r
landed_other None far new r es x = subst IsOther (sym x.reply) refl
landed_other (Some (Encode o)) far new r es x = subst IsOther (sym x.reply) refl
landed_other (Some (Decode o)) far new r es (inl x) = subst IsOther (sym x.reply) refl
landed_other (Some (Decode o)) far new r es (inr x) =
    bring_other o.set o.position far new r es x.brings

no_place : (order : Option Kept) (far new : FarState) (es : List Access) → IsNarrow far
    → LandRule order far new answer.NoFrame es → IsShort far
no_place None far new es narrow x = absurd (let e = x.reply in cc)
no_place (Some (Encode o)) far new es narrow x = absurd (let e = x.reply in cc)
no_place (Some (Decode o)) far new es narrow (inl x) = absurd (let e = x.reply in cc)
no_place (Some (Decode o)) far new es narrow (inr x) =
    no_span o.set o.position far new es narrow x.brings

-- where no run is free for an object that is not long, no frame is free
no_run : (bytes : List ℕ) (class : Class) (far : FarState) → (IsLong bytes → ⊥)
    → IsClassOf (length bytes) class → least_run far.frames (pages_of class) ≡ None → IsShort far
no_run bytes class far short of none = subst (λ (pages : ℕ). least_run far.frames pages ≡ None)
    (short_page (length bytes) class (by (cases_lt 1024 (length bytes))) of) none
  where
    by : (1024 < length bytes) ⊎ (length bytes ≤ 1024) → length bytes ≤ 1024
    by (inl long) = absurd (short long)
    by (inr few) = few

make_other : (handles : ℕ) (bytes : List ℕ) (far new : FarState) (r : Reply) (es : List Access)
    → MakeRule handles bytes far new r es → IsOther r
make_other handles bytes far new (answer.Full n) es x = refl
make_other handles bytes far new answer.NoFrame es x = refl
make_other handles bytes far new (answer.Made h version) es x = refl
make_other handles bytes far new r es x = absurd x

read_other : (r : Reply) → IsReadReply r → IsOther r
read_other (answer.NoRoom frames loose nodes) x = absurd x
read_other r x = refl

-- ---- by parts
module _ (c : Config) where
  brings : (h : ℕ) (a b : Hold) (r : Reply) → IsNarrow a.far
      → Brings slate_run slate_shows c h a r b → Unless r a.far
  brings h a b r narrow (at_once (home, at, x) never) =
      other_unless r a.far (bring_other home.set home.position a.far b.far r x.events x.rule)
  brings h a b r narrow (no_room m why loose nodes (home, at, x) evict e) = λ is.
      no_span home.set home.position a.far m.far x.events narrow x.rule
  brings h a b r narrow (won m n id (home, at, x) evict again) = λ is.
      no_span home.set home.position a.far m.far x.events narrow x.rule

  -- behind what left the far state
  behind : (a m : FarState) (r : Reply) → m ≡ a → IsNarrow a → (IsNarrow m → Unless r m)
      → Unless r a
  behind a m r same narrow x = subst (Unless r) same (x (subst IsNarrow (sym same) narrow))

  finds : (h : ℕ) (a b : Hold) (r : Reply) → FindsWhere slate_run slate_shows h a r b → IsOther r
  finds h a b r x = plain_other r (lack_off r (answered (λ w. r ≡ answer.Stays)
      (state_of x.rule.1.word) x.rule.1.word h x.events r (λ e. off r answer.Stays refl e)
      x.rule.1.answer))

  comes : (h : ℕ) (a b : Hold) (r : Reply) → IsNarrow a.far
      → ComesIn slate_run slate_shows c h a r b → Unless r a.far
  comes h a b r narrow (not_far x never) = other_unless r a.far (finds h a b r x)
  comes h a b r narrow (was_far m x bring) =
      behind a.far m.far r x.rule.0 narrow (λ then. brings h m b r then bring)

  once : (h : ℕ) (a b : Hold) (r : Reply) → IsNarrow a.far
      → OnceHere (ComesIn slate_run slate_shows c h) (ReadsByPin h) a r b → Unless r a.far
  once h a b r narrow (away come off) = comes h a b r narrow come
  once h a b r narrow (here m place come there call) = other_unless r a.far (read_other r call.1)

  writes : (h at : ℕ) (bytes : List ℕ) (a b : Hold) (r : Reply) → IsNarrow a.far
      → WhereItIs (WritesObject slate_run slate_shows h at bytes)
      (Declines slate_run slate_shows h at (length bytes)) (Brings slate_run slate_shows c h) a r b
      → Unless r a.far
  writes h at bytes a b r narrow (near x never) =
      other_unless r a.far (plain_other r (write_plain h at bytes r x.events x.rule.1))
  writes h at bytes a b r narrow (declined m x look) = other_unless r a.far (plain_other r
      (declined_plain h at (length bytes) m.far r look.1.events look.1.rule))
  writes h at bytes a b r narrow (stays_far m n x look bring never) =
      behind a.far n.far r (look.0 ∙ x.rule.0) narrow (λ then. brings h n b r then bring)
  writes h at bytes a b r narrow (brought m n o f x look bring y) =
      other_unless r a.far (plain_other r (write_plain h at bytes r y.events y.rule.1))

  -- a fetch takes no frame
  fetches : (h : ℕ) (order keeps : Option Kept) (a b : Hold) (r : Reply)
      → FetchesBy (desk_orders slate_run slate_shows c) h order a r keeps b → IsOther r
  fetches h order keeps a b r (was_near x never same) = finds h a b r x
  fetches h order keeps a b r (was_away m g find rows is same) = subst IsOther (sym is)
      (fetch_told IsOther (λ id p. refl) m.far b.far rows.0.set rows.0.position rows.3.set g
      (λ broken. refl) refl rows.3.state)

  lands : (order : Option Kept) (a b : Hold) (r : Reply) → IsNarrow a.far
      → WithRoom c.frames (Lands slate_run slate_shows order) (WinsRoom slate_run slate_shows c)
      most_evictions a r b → Unless r a.far
  lands order a b r narrow (at_once x never) =
      other_unless r a.far (landed_other order a.far b.far r x.events x.rule)
  lands order a b r narrow (no_room m why loose nodes x evict e) =
      λ is. no_place order a.far m.far x.events narrow x.rule
  lands order a b r narrow (won m n id x evict again) =
      λ is. no_place order a.far m.far x.events narrow x.rule

  -- a make finds a handle too
  abbrev Lacks : FarState → Type 0
  Lacks far = (far.made < c.handles) × IsShort far

  makes : (bytes : List ℕ) (a b : Hold) (r : Reply) → (IsLong bytes → ⊥)
      → WithRoom c.frames (Makes slate_run slate_shows c bytes) (WinsRoom slate_run slate_shows c)
      most_evictions a r b → is_room r ≡ true → Lacks a.far
  makes bytes a b r short (at_once x never) is = absurd (true≢false (sym is
      ∙ make_other c.handles bytes a.far b.far r x.events x.rule))
  makes bytes a b r short (no_room m why loose nodes x evict e) is = (
    x.rule.0,
    no_run bytes x.rule.1.0 a.far short x.rule.1.1 x.rule.1.2.taken,
  )
  makes bytes a b r short (won m n id x evict again) is = (
    x.rule.0,
    no_run bytes x.rule.1.0 a.far short x.rule.1.1 x.rule.1.2.taken,
  )

  -- ---- a turn
  module _ (s : Shown) (es : List Access) (took gave : FarState) (frames loose nodes : ℕ) where
    abbrev DidSo : Job → Type 0
    DidSo j = DidAs c j (Some (answer.NoRoom frames loose nodes)) s es took gave

    counted_narrow : (j : Job) → IsNarrow took → IsNarrow (counted took j)
    counted_narrow j narrow = record {
      spans = narrow.spans;
      sets = narrow.sets;
      leaving = narrow.leaving;
    }

    worn_off : answer.NoRoom frames loose nodes ≡ answer.Worn → ⊥
    worn_off e = true≢false (ap is_room e)

    -- fewer turns were counted than may be
    pub make_counted : (bytes : List ℕ) → DidSo (job.Make bytes) → took.counts.turns < 2 ^ 40
    make_counted bytes (worn last is same ran) = absurd (worn_off is)
    make_counted bytes (done less does) = less

    pub make_lacks : (bytes : List ℕ) → (IsLong bytes → ⊥) → DidSo (job.Make bytes) → Lacks took
    make_lacks bytes short (worn last is same ran) = absurd (worn_off is)
    make_lacks bytes short (done less does) =
        makes bytes _ _ (answer.NoRoom frames loose nodes) short does refl

    pub swap_lacks : (h : Handle) → IsNarrow took → DidSo (job.Swap h) → IsShort took
    swap_lacks h narrow (worn last is same ran) = absurd (worn_off is)
    swap_lacks h narrow (done less does) = comes h.n _ _ (answer.NoRoom frames loose nodes)
        (counted_narrow (job.Swap h) narrow) does refl

    pub read_lacks : (h : Handle) → IsNarrow took → DidSo (job.Read h) → IsShort took
    read_lacks h narrow (worn last is same ran) = absurd (worn_off is)
    read_lacks h narrow (done less does) = once h.n _ _ (answer.NoRoom frames loose nodes)
        (counted_narrow (job.Read h) narrow) does refl

    pub write_lacks : (h : Handle) (at : ℕ) (bytes : List ℕ) → IsNarrow took
        → DidSo (job.Write h at bytes) → IsShort took
    write_lacks h at bytes narrow (worn last is same ran) = absurd (worn_off is)
    write_lacks h at bytes narrow (done less does) = writes h.n at bytes _ _
        (answer.NoRoom frames loose nodes) (counted_narrow (job.Write h at bytes) narrow) does refl

    -- so with the order that its seat keeps
    abbrev DidSoBy : Job → Option Kept → Option Kept → Type 0
    DidSoBy j order keeps =
        DidBy c j order (Some (answer.NoRoom frames loose nodes)) keeps s es took gave

    pub fetch_lacks : (h : Handle) (order keeps : Option Kept) → DidSoBy (job.Fetch h) order keeps → ⊥
    fetch_lacks h order keeps (inl (worn last is same ran, kept)) = worn_off is
    fetch_lacks h order keeps (inl (done less does, kept)) = does.1
    fetch_lacks h order keeps (inr (with_worn last is kept same ran)) = worn_off is
    fetch_lacks h order keeps (inr (with_done less does)) = true≢false
        (fetches h.n order keeps _ _ (answer.NoRoom frames loose nodes) does)

    pub land_lacks : (order keeps : Option Kept) → IsNarrow took → DidSoBy job.Land order keeps
        → IsShort took
    land_lacks order keeps narrow (inl (worn last is same ran, kept)) = absurd (worn_off is)
    land_lacks order keeps narrow (inl (done less does, kept)) = absurd does.1
    land_lacks order keeps narrow (inr (with_worn last is kept same ran)) = absurd (worn_off is)
    land_lacks order keeps narrow (inr (with_done less does)) = lands order _ _
        (answer.NoRoom frames loose nodes) (counted_narrow job.Land narrow) does.0 refl

-- so as many objects were made as there are frames
pub frames_taken : (c : Config) (known : Shown) (far : FarState) → Stood c known far → IsNarrow far
    → IsShort far → c.frames ≤ far.made
frames_taken c known far stood narrow short =
    let all = frames_made known far stood.sound.here narrow short in
    let spans = stood.configured.frames in
    let sized = stood.sound.here.frames.sized in omega (arith, all, spans, sized)
