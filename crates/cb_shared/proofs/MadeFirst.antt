-- What a turn makes is one of the handles, at the first version, so it is its pass's own.
use Rattle.std.proofs.Common.{◌≡◌, ℕ, suc, ◌<◌, ◌&&◌, Bool, List, [], Ok, Err, Result, Option, Some}
use Rattle.std.proofs.Common.{refl, sym, ap, ◌∙◌, subst, eqb, eq-eqb, arith, inl, inr}
use Rattle.std.specs.Prelude.{IfOk}
use Rattle.cb_member.specs.declared.no_memory.NoMemory.{NoMemory}
use Rattle.cb_types.specs.declared.config.Config.{Config}
use Rattle.cb_types.specs.declared.handle.Handle.{Handle}
use Rattle.cb_types.specs.declared.job.Job.{Job}
use Rattle.cb_types.specs.declared.job.Job.TheVariants.{Make}
use Rattle.cb_types.specs.declared.order.Kept.{Kept}
use Rattle.cb_types.specs.declared.reply.Reply.{Reply}
use Rattle.cb_types.specs.declared.reply.Reply.TheVariants as answer
use Rattle.cb_types.specs.declared.request.Request.TheVariants as request
use Rattle.cb_world.specs.declared.entry.Entry.{Entry}
use Rattle.cb_world.specs.declared.access.Access.{Access}
use Rattle.cb_world.specs.declared.shown.Shown.{Shown}
use Rattle.cb_world.specs.FarState.{FarState}
use Rattle.cb_world.specs.Played.{played}
use Rattle.cb_world.specs.World.{WorldState}
use Rattle.cb_mutate.specs.MakeRule.{MakeRule}
use Rattle.cb_evict.specs.EvictRule.{EvictRule}
use Rattle.cb_core.specs.Parts.{Holding, WithRoom, at_once, no_room, won, most_evictions}
use Rattle.cb_core.specs.Turned.{Makes, Turned, WinsRoom, done, worn}
use Rattle.cb_core.specs.TurnLeaves.{OutcomeWrites}
use Rattle.cb_core.proofs.Laws.{RoomEnds, operated, room_ends, was_refused}
use Rattle.cb_rule.specs.declared.turn.Turn.{Turn}
use Rattle.cb_rule.specs.declared.view.View.{View}
use Rattle.cb_rule.specs.Closing.{IsClosed}
use Rattle.cb_rule.specs.Lists.{Each, Has}
use Rattle.cb_rule.specs.OneHistory.{IsOneHistory}
use Rattle.cb_rule.specs.Own.{Make as IsMadeIn}
use Rattle.cb_rule.specs.Promised.{Is}
use Rattle.cb_rule.specs.Steps.{Knows}
use Rattle.cb_rule.proofs.Laws.{hit}
use Rattle.cb_record.specs.Backs.{Backs}
use Rattle.cb_record.specs.Told.{Told}
use Rattle.cb_record.specs.Upheld.{as_part}
use Rattle.cb_record.proofs.Laws.{turn_of_make}
use Rattle.cb_shared.specs.Making.{MakesNew}
use Rattle.cb_shared.specs.Recalls.{MakesFirst}
use Rattle.cb_shared.specs.Turning.{Did, DidAs, DidBy, ReadsByPin, Slate, answer_of, held_by}
use Rattle.cb_shared.specs.Turning.{made_by_turn, slate_run, slate_shows}
use Rattle.cb_shared.proofs.DidAlone.{did_alone}

-- whether a reply is Made
abbrev is_made : Reply → ℕ
is_made (answer.Made h n) = 1
is_made r = 0

-- one of so many handles, at the first version of the far state
abbrev IsFirst : Config → Handle → ℕ → FarState → Type 0
IsFirst c h n far = (h.n < c.handles) × (n ≡ far.first)

-- a make that was answered Made gave one, by the far state that it left
make_is_first : (c : Config) (bytes : List ℕ) (h : Handle) (n : ℕ) (a b : Holding Slate)
    → Makes slate_run slate_shows c bytes a (answer.Made h n) b → IsFirst c h n b.far
make_is_first c bytes h n a b p = let low = p.rule.0 in let m = p.rule.1 in let next = m.next in
    (omega (arith, low, next), m.first ∙ sym (ap (λ (f : FarState). f.first) m.state))

roomed : (c : Config) (bytes : List ℕ) (h : Handle) (n : ℕ) (b : Holding Slate)
    → RoomEnds c.frames (Makes slate_run slate_shows c bytes) (WinsRoom slate_run slate_shows c)
    (answer.Made h n) b → IsFirst c h n b.far
roomed c bytes h n b (operated q op ne) = make_is_first c bytes h n q b op
roomed c bytes h n b (was_refused m why loose nodes ev is) =
    absurd (let e : 1 ≡ 0 = ap is_made is in omega (arith, e))

made_is_first : (c : Config) (bytes : List ℕ) (h : Handle) (n : ℕ) (a b : Holding Slate)
    → Turned slate_run slate_shows ReadsByPin c (Make bytes) a (answer.Made h n) b
    → IsFirst c h n b.far
made_is_first c bytes h n a b (worn last is same ran) =
    absurd (let e : 1 ≡ 0 = ap is_made is in omega (arith, e))
made_is_first c bytes h n a b (done less does) =
    roomed c bytes h n b (room_ends _ _ _ most_evictions _ b _ does)

-- ---- the next handle of the far state that was taken, at its first version
abbrev IsNextOf : Handle → ℕ → FarState → Type 0
IsNextOf h n far = (h.n ≡ far.made) × (n ≡ far.first)

make_is_next : (c : Config) (bytes : List ℕ) (h : Handle) (n : ℕ) (a b : Holding Slate)
    → Makes slate_run slate_shows c bytes a (answer.Made h n) b → IsNextOf h n a.far
make_is_next c bytes h n a b p = let m = p.rule.1 in (m.next, m.first)

-- one that found no room left the far state as it was, and an eviction leaves what was made
make_found_none : (c : Config) (bytes : List ℕ) (far new : FarState) (es : List Access)
    → MakeRule c.handles bytes far new answer.NoFrame es → new ≡ far
make_found_none c bytes far new es (less, place, left) = left.0

evicted_still : (c : Config) (far new : FarState) (r : Reply) (es : List Access)
    → EvictRule far new r es → (new.made ≡ far.made) × (new.first ≡ far.first)
evicted_still c far new r es x = elim x.answered [
  | inl few ↦ (ap (λ (f : FarState). f.made) few.state, ap (λ (f : FarState). f.first) few.state)
  | inr (inl few) ↦ (ap (λ (f : FarState). f.made) few.state, ap (λ (f : FarState). f.first) few.state)
  | inr (inr both) ↦ (
    ap (λ (f : FarState). f.made) both.evicted.state,
    ap (λ (f : FarState). f.first) both.evicted.state,
  )
]

roomed_next : (c : Config) (bytes : List ℕ) (h : Handle) (n left : ℕ) (a b : Holding Slate)
    (r : Reply)
    → r ≡ answer.Made h n
    → WithRoom c.frames (Makes slate_run slate_shows c bytes) (WinsRoom slate_run slate_shows c)
    left a r b
    → IsNextOf h n a.far
roomed_next c bytes h n left a b r made (at_once op ne) = make_is_next c bytes h n a b
    (subst (λ (q : Reply). Makes slate_run slate_shows c bytes a q b) made op)
roomed_next c bytes h n left a b r made (no_room m why loose nodes op ev is) =
    absurd (let e : 1 ≡ 0 = ap is_made (sym made ∙ is) in omega (arith, e))
roomed_next c bytes h n (suc fewer) a b r made (won m q id op ev again) =
    let z = roomed_next c bytes h n fewer q b r made again in
    let e = evicted_still c m.far q.far _ ev.events ev.rule.rule in
    let s = make_found_none c bytes a.far m.far op.events op.rule in
    (z.0 ∙ e.0 ∙ ap (λ (f : FarState). f.made) s, z.1 ∙ e.1 ∙ ap (λ (f : FarState). f.first) s)

made_is_next : (c : Config) (bytes : List ℕ) (h : Handle) (n : ℕ) (a b : Holding Slate)
    → Turned slate_run slate_shows ReadsByPin c (Make bytes) a (answer.Made h n) b
    → IsNextOf h n a.far
made_is_next c bytes h n a b (worn last is same ran) =
    absurd (let e : 1 ≡ 0 = ap is_made is in omega (arith, e))
made_is_next c bytes h n a b (done less does) = roomed_next c bytes h n most_evictions _ b _ refl
    does

-- so the record did not know it, where all that it knew was made by then
of_new : (first : ℕ) (c : Config) (bytes : List ℕ) (r : Result Reply NoMemory) (start : Shown)
    (es : List Access) (took gave : FarState) (v : View)
    → DidAs c (Make bytes) (answer_of r) start es took gave → took.first ≡ first
    → ((h : ℕ) → Knows h v → h < took.made) → IfOk r (λ reply. MakesNew first (Make bytes) reply v)
of_new first c bytes (Ok (answer.Made h n)) start es took gave v did is made =
    let z = made_is_next c bytes h n _ _ did in
    (z.1 ∙ is, λ knows. let less = made h.n knows in let at = z.0 in omega (arith, less, at))
of_new first c bytes (Ok r) start es took gave v did is made = tt
of_new first c bytes (Err e) start es took gave v did is made = tt

pub makes_new : (first : ℕ) (c : Config) (job : Job) (r : Result Reply NoMemory) (start : Shown)
    (es : List Access) (took gave : FarState) (v : View)
    → DidAs c job (answer_of r) start es took gave → took.first ≡ first
    → ((h : ℕ) → Knows h v → h < took.made) → IfOk r (λ reply. MakesNew first job reply v)
makes_new first c (Make bytes) r start es took gave v did is made =
    of_new first c bytes r start es took gave v did is made
makes_new first c job (Ok r) start es took gave v did is made = tt
makes_new first c job (Err e) start es took gave v did is made = tt

-- whether a reply is Full
abbrev is_full : Reply → ℕ
is_full (answer.Full n) = 1
is_full r = 0

-- so many handles there are, and as many were made
abbrev IsFull : Config → ℕ → FarState → Type 0
IsFull c n far = (far.made ≡ c.handles) × (n ≡ c.handles)

full_told : (c : Config) (bytes : List ℕ) (n : ℕ) (a b : Holding Slate)
    → Makes slate_run slate_shows c bytes a (answer.Full n) b → IsFull c n b.far
full_told c bytes n a b p = by p.rule
  where
    by : MakeRule c.handles bytes a.far b.far (answer.Full n) p.events → IsFull c n b.far
    by (made, told, left) = (ap (λ (f : FarState). f.made) left.0 ∙ made, told)

full_roomed : (c : Config) (bytes : List ℕ) (n : ℕ) (b : Holding Slate)
    → RoomEnds c.frames (Makes slate_run slate_shows c bytes) (WinsRoom slate_run slate_shows c)
    (answer.Full n) b → IsFull c n b.far
full_roomed c bytes n b (operated q op ne) = full_told c bytes n q b op
full_roomed c bytes n b (was_refused m why loose nodes ev is) =
    absurd (let e : 1 ≡ 0 = ap is_full is in omega (arith, e))

full_turned : (c : Config) (bytes : List ℕ) (n : ℕ) (a b : Holding Slate)
    → Turned slate_run slate_shows ReadsByPin c (Make bytes) a (answer.Full n) b
    → IsFull c n b.far
full_turned c bytes n a b (worn last is same ran) =
    absurd (let e : 1 ≡ 0 = ap is_full is in omega (arith, e))
full_turned c bytes n a b (done less does) =
    full_roomed c bytes n b (room_ends _ _ _ most_evictions _ b _ does)

-- the first version of what it made is among what it wrote
of_make : (c : Config) (bytes : List ℕ) (r : Result Reply NoMemory) (start known : Shown)
    (es : List Access) (took gave : FarState) (more : List Entry)
    → DidAs c (Make bytes) (answer_of r) start es took gave → OutcomeWrites (Make bytes) r more
    → known.first ≡ gave.first
    → Each (λ h. IsMadeIn known.first h more) (made_by_turn (Make bytes) (answer_of r))
of_make c bytes (Ok (answer.Made h n)) start known es took gave more did wrote first = (
  subst (λ (l : List Entry). IsMadeIn known.first h.n l) (sym wrote.2)
      (let e = (made_is_first c bytes h n _ _ did).1 in
      let one = hit (eqb h.n h.n && eqb n known.first)
      (ap (λ (b : Bool). b && eqb n known.first) (eq-eqb h.n h.n refl)
      ∙ eq-eqb n known.first (e ∙ sym first)) in omega (arith, one)),
  tt,
)
of_make c bytes (Ok r) start known es took gave more did wrote first = tt
of_make c bytes (Err e) start known es took gave more did wrote first = tt

pub makes_own_by : (c : Config) (job : Job) (order : Option Kept) (r : Result Reply NoMemory)
    (keeps : Option Kept) (start known : Shown) (es : List Access) (took gave : FarState)
    (more : List Entry) → DidBy c job order (answer_of r) keeps start es took gave
    → OutcomeWrites job r more → known.first ≡ gave.first
    → Each (λ h. IsMadeIn known.first h more) (made_by_turn job (answer_of r))
makes_own_by c (Make bytes) order r keeps start known es took gave more did wrote first =
    of_make c bytes r start known es took gave more
    (did_alone c (Make bytes) order (answer_of r) keeps start es took gave tt did) wrote first
makes_own_by c job order r keeps start known es took gave more did wrote first = tt

-- what a make did
make_did : (c : Config) (t : Turn) → Did c t → (bytes : List ℕ) (r : Reply) → t.job ≡ Make bytes
    → t.reply ≡ Some r → Turned slate_run slate_shows ReadsByPin c (Make bytes)
    (held_by t.start [] t.took) r (held_by (played t.acts t.start) t.acts t.gave)
make_did c t did bytes r job reply =
    did_alone c (Make bytes) t.order (Some r) t.keeps t.start t.acts t.took t.gave tt
    (subst (λ (j : Job). DidBy c j t.order (Some r) t.keeps t.start t.acts t.took t.gave) job
    (subst (λ (o : Option Reply). DidBy c t.job t.order o t.keeps t.start t.acts t.took t.gave) reply
    did))

-- so of one that stands in a record that closed a runtime
did_make : (first : ℕ) (c : Config) (v : View) (w : WorldState) → IsClosed Did first c v w
    → (t : Turn) → Has t v.turns → (bytes : List ℕ) (r : Reply) → t.job ≡ Make bytes
    → t.reply ≡ Some r → Turned slate_run slate_shows ReadsByPin c (Make bytes)
    (held_by t.start [] t.took) r (held_by (played t.acts t.start) t.acts t.gave)
did_make first c v w closed t there bytes r job reply =
    make_did c t (closed.turns.did t (v, (0, refl), there)) bytes r job reply

-- in each view the makes told the first version, while passes run
pub turns_first : (first : ℕ) (c : Config) (views : List View) (count : ℕ) (last : FarState)
    → IsOneHistory Did first c views count last → (u : View) → Is views u
    → MakesFirst first u.turns
turns_first first c views count last h u is t there bytes handle n job reply =
    (made_is_first c bytes handle n (held_by t.start [] t.took)
    (held_by (played t.acts t.start) t.acts t.gave)
    (make_did c t (h.did t (u, is, there)) bytes (answer.Made handle n) job reply)).1
    ∙ h.starts t (u, is, there)

-- its handle and its version
pub makes_first : (first : ℕ) (c : Config) (v : View) (w : WorldState) → IsClosed Did first c v w
    → (t : Turn) → Has t v.turns → (bytes : List ℕ) (h : Handle) (n : ℕ) → t.job ≡ Make bytes
    → t.reply ≡ Some (answer.Made h n) → (h.n < c.handles) × (n ≡ first)
makes_first first c v w closed t there bytes h n job reply =
    let z = made_is_first c bytes h n (held_by t.start [] t.took)
    (held_by (played t.acts t.start) t.acts t.gave)
    (did_make first c v w closed t there bytes (answer.Made h n) job reply) in
    (z.0, z.1 ∙ closed.turns.starts t (v, (0, refl), there))

-- and how many it told that there are
pub makes_full : (first : ℕ) (c : Config) (v : View) (w : WorldState) → IsClosed Did first c v w
    → (t : Turn) → Has t v.turns → (bytes : List ℕ) (n : ℕ) → t.job ≡ Make bytes
    → t.reply ≡ Some (answer.Full n) → (t.gave.made ≡ c.handles) × (n ≡ c.handles)
makes_full first c v w closed t there bytes n job reply =
    full_turned c bytes n (held_by t.start [] t.took)
    (held_by (played t.acts t.start) t.acts t.gave)
    (did_make first c v w closed t there bytes (answer.Full n) job reply)

-- and with each make that such a record backs
pub makes_backed : (first : ℕ) (c : Config) (v : View) (w : WorldState) → IsClosed Did first c v w
    → (ts : List Told) → Backs (as_part v) ts → (a : Told) → Has a ts → (name bytes : List ℕ)
    (h : Handle) (n : ℕ) → a.request ≡ request.Make name bytes → a.reply ≡ answer.Made h n
    → (h.n < c.handles) × (n ≡ first)
makes_backed first c v w closed ts backs a there name bytes h n asked told =
    let t = turn_of_make v ts backs a there name bytes h n asked told in
    makes_first first c v w closed t.0 t.1 bytes h n t.2 t.3
