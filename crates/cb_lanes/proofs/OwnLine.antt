-- One line of a lane: where it is the lane's own it is answered as the lane is by itself, and what
-- the lane has by itself stays what the record of its pass has.
use Rattle.std.proofs.Common.{◌≡◌, ◌≢◌, ◌⊎◌, ℕ, ◌+◌, ◌*◌, ◌≤◌, Bool, true, false, List, [], ◌∷◌}
use Rattle.std.proofs.Common.{◌++◌, length, Option, None, Some, inl, inr, sym, refl, ap, ◌∙◌, subst}
use Rattle.std.proofs.Common.{arith, if◌then◌else◌}
use Rattle.std.specs.Str.{bytes_eq}
use Rattle.std.proofs.lemmas.Bool.{true≢false}
use Rattle.cb_types.specs.declared.config.Config.{Config}
use Rattle.cb_types.specs.declared.job.Job.TheVariants as job
use Rattle.cb_types.specs.declared.reply.Reply.{Reply}
use Rattle.cb_types.specs.declared.reply.Reply.TheVariants as answer
use Rattle.cb_types.specs.declared.request.Request.{Request}
use Rattle.cb_types.specs.declared.request.Request.TheVariants.{Read, Write, Free, Pin, Peek, Unpin}
use Rattle.cb_types.specs.Table.{IsReplyOf}
use Rattle.cb_model.specs.declared.object.Object.TheVariants.{Held, Freed}
use Rattle.cb_model.specs.Now.{MapNow, overwritten}
use Rattle.cb_script.specs.declared.script.Line.{Line}
use Rattle.cb_mutate.proofs.Laws.{write_bytes}
use Rattle.cb_world.specs.declared.entry.Entry.{Entry}
use Rattle.cb_world.specs.Memory.{bytes_in}
use Rattle.cb_world.specs.Write.{IsWrite}
use Rattle.cb_rule.specs.declared.turn.Turn.{Turn}
use Rattle.cb_rule.specs.declared.view.Look.{Look}
use Rattle.cb_rule.specs.declared.view.Seen.{Seen}
use Rattle.cb_rule.specs.declared.view.View.{View}
use Rattle.cb_rule.specs.Lists.{Has, removed}
use Rattle.cb_rule.specs.Promised.{FoundBy}
use Rattle.cb_rule.specs.Seats.{pins_it, pins_on}
use Rattle.cb_record.specs.Backs.{Enters}
use Rattle.cb_record.specs.Told.{Told}
use Rattle.cb_lanes.specs.Alone.{AloneSays, LaneState, NamedNow, alone_after, free_alone, is_maker}
use Rattle.cb_lanes.specs.Alone.{now_after, now_named, peek_alone, pin_alone, read_alone}
use Rattle.cb_lanes.specs.Alone.{unpin_alone, write_alone}
use Rattle.cb_lanes.specs.AloneUntil.{is_lack}
use Rattle.cb_lanes.specs.KeepsOwn.{KeepsOwn, last_in}
use Rattle.cb_lanes.specs.LineGoes.{Calls}
use Rattle.cb_lanes.specs.Passing.{PeekGoes, PinGoes, UnpinGoes}
use Rattle.cb_lanes.specs.Scopes.{named_on, newest_on, without_newest}
use Rattle.cb_shared.proofs.Laws.{brings_lack}
use Rattle.cb_lanes.proofs.LineParts.{LineAdds, told_as}
use Rattle.cb_lanes.proofs.OwnObjects.{last_hit}
use Rattle.cb_lanes.proofs.OwnSays.{OwnAt, comes_next, free_one, free_reply, goes_own, peek_reply}
use Rattle.cb_lanes.proofs.OwnSays.{pin_reply, pin_shows, read_reply, unpin_reply, write_one}
use Rattle.cb_lanes.proofs.OwnSays.{write_reply}
use Rattle.cb_lanes.proofs.OwnStands.{IsObject, LanePinsStand, LaneStands, ShowsLast, given_back}
use Rattle.cb_lanes.proofs.OwnStands.{named_pins, newest_none, newest_some, scope_long}
use Rattle.cb_lanes.proofs.OwnSteps.{Grew, OwnMore, pinned_held, pins_still}
use Rattle.cb_lanes.proofs.OwnSteps.{stands_changed, stands_still}
use Rattle.cb_lanes.proofs.PinLists.{name_cases}
use Rattle.cb_lanes.proofs.Trying.{call_pins}

-- The record in the end: it has all that the record m has, and keeps what it has of its own
-- objects.
pub record LeadsTo (m all : View) : Type 0 where
  pub keeps : KeepsOwn all
  pub rest : List Entry
  pub grows : all.written ≡ rest ++ m.written
  pub seen : (s : Seen) → Has s m.seen → Has s all.seen
  pub looks : (l : Look) → Has l m.looks → Has l all.looks
  pub turns : (t : Turn) → Has t m.turns → Has t all.turns
  pub own : OwnMore m all

-- what a look of it or a turn found is found by the record in the end
found_later : (m all : View) → LeadsTo m all → (l : Look) → FoundBy l m → FoundBy l all
found_later m all leads l (inl has) = inl (leads.looks l has)
found_later m all leads l (inr x) = inr (x.0, leads.turns x.0 x.1, x.2, x.3, x.4)

-- ---- entries
-- a line that enters none
no_entry : (v m : View) (t : Told) → LineAdds v m t → ((es : List Entry) → Enters t es → es ≡ [])
    → m.written ≡ v.written
no_entry v m t y none = let b = y.2.wrote in ap (λ (z : View). z.written) y.1
    ∙ ap (λ (l : List Entry). l ++ v.written) (b.2 ∙ (λ i. b.4 i ++ none b.0 b.3 i))

-- ---- names
nows_same : (p : List ℕ) (objects : List NamedNow) (now : MapNow) → now ≡ now_named p objects
    → (q : List ℕ)
    → now_named q (record { name = p; now = now } ∷ objects) ≡ now_named q objects
nows_same p objects now same q = by (name_cases p q)
  where
    by : ((bytes_eq p q ≡ true) × (p ≡ q)) ⊎ ((bytes_eq p q ≡ false) × (p ≢ q))
        → (if bytes_eq p q then now else now_named q objects) ≡ now_named q objects
    by (inl x) = ap (λ (b : Bool). if b then now else now_named q objects) x.0 ∙ same
        ∙ ap (λ (n : List ℕ). now_named n objects) x.1
    by (inr x) = ap (λ (b : Bool). if b then now else now_named q objects) x.0

module _ (c : Config) (lines : List Line) (lane : ℕ) (named : Option (List ℕ) → Option ℕ)
    (later : List ℕ → Option ℕ) (state : LaneState) (v m all : View)
    (z : LaneStands lines lane (λ q. named (Some q)) state v) (leads : LeadsTo m all)
    (grew : Grew v m) where
  abbrev handle : List ℕ → Option ℕ
  handle q = named (Some q)

  abbrev Same : Type 0
  Same = (q : List ℕ) → later q ≡ handle q

  abbrev Later : LaneState → Type 0
  Later new = LaneStands lines lane later new m

  -- what a line on an own name comes to
  abbrev Comes : Request → Reply → Type 0
  Comes q r = AloneSays state q r × Later (alone_after state q r)

  own_at : (h : ℕ) (now : MapNow) (t : Told) → LineAdds v m t → (o : IsObject h v now)
      → OwnAt (λ k. Has k all.own) h o.last v m all
  own_at h now t y o = record {
    is_mine = leads.own h (grew.own h o.own);
    own = o.own;
    fresh = z.fresh;
    last = o.is_last;
    order = leads.keeps.order;
    read = leads.keeps.read;
    more = y.0.written;
    adds = ap (λ (k : View). k.written) y.1;
    rest = leads.rest;
    grows = leads.grows;
    seen = leads.seen;
    long = leads.keeps.long;
    found = found_later m all leads;
  }

  -- no entry was written
  pub quiet : (new : LaneState) → Same
      → ((q : List ℕ) → now_named q new.objects ≡ now_named q state.objects) → m.written ≡ v.written
      → LanePinsStand lines lane handle v.written new.scope m.pins → Later new
  quiet new same nows wrote pins = stands_still lines lane handle later state new v m grew same nows
      (λ q k own at. ap (λ (l : List Entry). last_in l k) wrote)
      (pins_still lines lane handle later v.written m.written new.scope m.pins same
      (λ q k own at. ap (λ (l : List Entry). last_in l k) wrote) pins) z

  pub pins_kept : m.pins ≡ v.pins → LanePinsStand lines lane handle v.written state.scope m.pins
  pins_kept same = subst (LanePinsStand lines lane handle v.written state.scope) (sym same) z.pins

  -- a line on an own name that changes nothing
  pub quiet_own : (p : List ℕ) (now : MapNow) → Same → now ≡ now_named p state.objects
      → m.written ≡ v.written
      → m.pins ≡ v.pins
      → Later (record {
        objects = record { name = p; now = now } ∷ state.objects;
        scope = state.scope;
      })
  quiet_own p now same is wrote pins =
      quiet _ same (nows_same p state.objects now is) wrote (pins_kept pins)

  module _ (p : List ℕ) (h : ℕ) (own : is_maker lines lane p ≡ true) (at : handle p ≡ Some h)
      (o : IsObject h v (now_named p state.objects)) (same : Same) where
    apart : (q : List ℕ) → handle q ≡ Some h → p ≡ q
    apart q is = z.apart p q h own at is

    pins_are : named_on p state.scope ≡ pins_on h v
    pins_are = named_pins lines lane handle v.written p h at apart state.scope v.pins z.pins

    held : 1 ≤ pins_on h v → o.last.freed ≡ false
    held some_one = pinned_held lines lane handle v.written h o.last o.is_last state.scope v.pins
        z.pins some_one

    -- a read
    pub own_read : (r : Reply) → goes_own c (Calls (job.Read (record { n = h }))) v r m
        → LineAdds v m (told_as (Some h) (Read p) r) → is_lack r ≡ false → Comes (Read p) r
    own_read r x adds room = (
      read_reply (λ k. Has k all.own) h o.last v m all (own_at h _ _ adds o) c p r x.0 adds room
          ∙ ap read_alone (sym o.is_now),
      quiet_own p (now_after (now_named p state.objects) (Read p) r) same (still r)
          (no_entry v m _ adds (λ es e. e)) (call_pins c (job.Read (record { n = h })) r v m x.0),
    )
      where
        still : (r : Reply) → now_after (now_named p state.objects)
            (Read p) r ≡ now_named p state.objects
        still (answer.Bytes version bytes) = refl
        still answer.Freed = refl
        still answer.Unmade = refl
        still r = refl

    -- a write
    writes : (at_ : ℕ) (bytes : List ℕ) (n : ℕ)
        → (x : goes_own c (Calls (job.Write (record { n = h }) at_ bytes)) v
        (answer.Version n) m) → LineAdds v m
        (told_as (Some h) (Write p at_ bytes) (answer.Version n))
        → Later (alone_after state (Write p at_ bytes) (answer.Version n))
    writes at_ bytes n x adds =
        let a = own_at h _ _ adds o in
        let w = write_one (λ k. Has k all.own) h o.last v m all a p bytes at_ n adds in
        let e = w.0.entry_is in
        let next = comes_next (λ k. Has k all.own) h o.last v m all a n w.0 in
        let long = o.long next.there in
        let same_len = next.same_len w.1 in
        let fits = w.3 in
        let sized = w.2.sized in
        let past : length e.before ≡ length o.last.after =
        ap (λ (l : List ℕ). length l) next.past in
        let now = now_after (now_named p state.objects) (Write p at_ bytes) (answer.Version n) in
        stands_changed lines lane handle later state
        (alone_after state (Write p at_ bytes) (answer.Version n)) v m p h
        e now grew same refl own at w.0.written w.0.handle
        (call_pins c (job.Write (record { n = h }) at_ bytes) (answer.Version n) v m x.0)
        (x.1 o.own) (record {
          own = grew.own h o.own;
          last = e;
          is_last = ap (λ (l : List Entry). last_in l h) w.0.written
              ∙ last_hit e v.written h w.0.handle;
          long = λ _. omega (arith, long, same_len, sized, past);
          is_now = ap (λ (i : MapNow). now_after i (Write p at_ bytes) (answer.Version n)) o.is_now
              ∙ ap (λ (b : Bool). now_after (Some (if b then Freed o.last.version
              else Held o.last.version (bytes_in o.last.after o.last.len))) (Write p at_ bytes)
              (answer.Version n)) next.there
              ∙ (λ i. Some (Held (sym w.0.number i)
              (sym (written e w.2 fits (omega (arith, long, same_len, past))
              ∙ (λ j. overwritten (bytes_in (next.past j) (same_len j)) at_ bytes)) i)))
              ∙ sym (ap (λ (b : Bool). Some
              (if b then Freed e.version else Held e.version (bytes_in e.after e.len))) w.1);
        }) z
      where
        written : (e : Entry) → IsWrite e.before at_ bytes e.after → at_ + length bytes ≤ e.len
            → e.len ≤ 8 * length e.before
            → bytes_in e.after e.len ≡ overwritten (bytes_in e.before e.len) at_ bytes
        written e w fits long = write_bytes e.before e.after at_ e.len bytes w fits long

    pub own_write : (at_ : ℕ) (bytes : List ℕ) (r : Reply)
        → goes_own c (Calls (job.Write (record { n = h }) at_ bytes)) v r m
        → LineAdds v m (told_as (Some h) (Write p at_ bytes) r) → IsReplyOf (Write p at_ bytes) r
        → is_lack r ≡ false
        → Comes (Write p at_ bytes) r
    own_write at_ bytes r x adds line room = (
      write_reply (λ k. Has k all.own) h o.last v m all (own_at h _ _ adds o) c p bytes at_ r x.0
          (x.1 o.own) adds
          line held room
          ∙ (λ i. write_alone (sym o.is_now i) (sym pins_are i) at_ (length bytes)),
      moves r x adds,
    )
      where
        moves : (r : Reply) → goes_own c (Calls (job.Write (record { n = h }) at_ bytes)) v r m
            → LineAdds v m (told_as (Some h) (Write p at_ bytes) r)
            → Later (alone_after state (Write p at_ bytes) r)
        moves (answer.Version n) x adds = writes at_ bytes n x adds
        moves r x adds = quiet_own p (now_after (now_named p state.objects) (Write p at_ bytes) r)
            same refl
            (no_entry v m _ adds (λ es e. e))
            (call_pins c (job.Write (record { n = h }) at_ bytes) r v m x.0)

    -- a free
    frees : (n : ℕ) → (x : goes_own c (Calls (job.Free (record { n = h }))) v (answer.Version n) m)
        → LineAdds v m (told_as (Some h) (Free p) (answer.Version n))
        → Later (alone_after state (Free p) (answer.Version n))
    frees n x adds =
        let a = own_at h _ _ adds o in
        let w = free_one (λ k. Has k all.own) h o.last v m all a p n adds in
        let e = w.0.entry_is in
        let next = comes_next (λ k. Has k all.own) h o.last v m all a n w.0 in
        stands_changed lines lane handle later state
        (alone_after state (Free p) (answer.Version n)) v m p h
        e (Some (Freed n)) grew same
        (ap (λ (i : MapNow). record
        { objects = record { name = p; now = i } ∷ state.objects; scope = state.scope })
        (gone n (now_named p state.objects))) own at w.0.written w.0.handle
        (call_pins c (job.Free (record { n = h })) (answer.Version n) v m x.0) (x.1 o.own) (record {
          own = grew.own h o.own;
          last = e;
          is_last = ap (λ (l : List Entry). last_in l h) w.0.written
              ∙ last_hit e v.written h w.0.handle;
          long = λ off. absurd (true≢false (sym w.1 ∙ off));
          is_now = (λ i. Some (Freed (sym w.0.number i)))
              ∙ sym (ap (λ (b : Bool). Some
              (if b then Freed e.version else Held e.version (bytes_in e.after e.len))) w.1);
        }) z
      where
        gone : (n : ℕ) (now : MapNow) → now_after now (Free p) (answer.Version n) ≡ Some (Freed n)
        gone n None = refl
        gone n (Some (Held a b)) = refl
        gone n (Some (Freed a)) = refl

    pub own_free : (r : Reply) → goes_own c (Calls (job.Free (record { n = h }))) v r m
        → LineAdds v m (told_as (Some h) (Free p) r) → IsReplyOf (Free p) r → is_lack r ≡ false
        → Comes (Free p) r
    own_free r x adds line room = (
      free_reply (λ k. Has k all.own) h o.last v m all (own_at h _ _ adds o) c p r x.0
          (x.1 o.own) adds line held room
          ∙ (λ i. free_alone (sym o.is_now i) (sym pins_are i)),
      moves r x adds,
    )
      where
        moves : (r : Reply) → goes_own c (Calls (job.Free (record { n = h }))) v r m
            → LineAdds v m (told_as (Some h) (Free p) r) → Later (alone_after state (Free p) r)
        moves (answer.Version n) x adds = frees n x adds
        moves r x adds = quiet_own p (now_after (now_named p state.objects) (Free p) r) same refl
            (no_entry v m _ adds (λ es e. e)) (call_pins c (job.Free (record { n = h })) r v m x.0)

    -- a pin
    pub own_pin : (r : Reply) → PinGoes c h v r m → LineAdds v m (told_as (Some h) (Pin p) r)
        → is_lack r ≡ false
        → Comes (Pin p) r
    own_pin r x adds room = (
      pin_reply (λ k. Has k all.own) h o.last v m all (own_at h _ _ adds o) c r x room
          ∙ (λ i. pin_alone (sym o.is_now i)
          (sym (scope_long lines lane handle v.written state.scope v.pins z.pins) i)),
      moves r x adds room,
    )
      where
        wrote : (r : Reply) → LineAdds v m (told_as (Some h) (Pin p) r) → m.written ≡ v.written
        wrote r adds = no_entry v m _ adds (λ es e. e)

        moves : (r : Reply) → PinGoes c h v r m → LineAdds v m (told_as (Some h) (Pin p) r)
            → is_lack r ≡ false
            → Later (alone_after state (Pin p) r)
        moves (answer.Version n) x adds room =
            let y = pin_shows (λ k. Has k all.own) h o.last v m all (own_at h _ _ adds o) c n x in
            quiet (alone_after state (Pin p) (answer.Version n)) same
            (nows_same p state.objects (now_named p state.objects) refl) (wrote _ adds)
            (subst (LanePinsStand lines lane handle v.written
            (record { name = p; version = n } ∷ state.scope))
            (sym y.0.pins) (
              record {
                own = own;
                handle_is = at ∙ ap (λ (i : ℕ). Some i) (sym y.0.handle);
                shows = subst (λ (i : ℕ). ShowsLast i n v.written y.0.pin) (sym y.0.handle) y.1;
              },
              z.pins,
            ))
        moves answer.Freed x adds room = quiet_own p (now_named p state.objects) same refl
            (wrote _ adds)
            (ap (λ (k : View). k.pins) x.1.ends_so.4 ∙ ap (λ (k : View). k.pins) x.1.in_vain.2)
        moves answer.ScopeFull x adds room = quiet_own p (now_named p state.objects) same refl
            (wrote _ adds)
            (ap (λ (k : View). k.pins) x.1)
        moves (answer.NoRoom f l n) x adds room = absurd (true≢false room)
        moves (answer.Unavailable s l) x adds room = absurd (true≢false room)
        moves answer.Worn x adds room = absurd (true≢false room)
        moves r x adds room = let e = x.1.ends_so in absurd (brings_lack c h r _ e.0 e.1.turned)

    -- a peek
    pub own_peek : (r : Reply) → PeekGoes h v r m → LineAdds v m (told_as (Some h) (Peek p) r)
        → Comes (Peek p) r
    own_peek r x adds = (
      peek_reply h o.last v m (newest_on p state.scope) r o.is_last
          (λ none. newest_none lines lane handle v.written p h at apart state.scope v.pins z.pins
          none)
          (λ q is. newest_some lines lane handle v.written p h at apart state.scope v.pins q z.pins
          is) x
          ∙ ap (λ (i : MapNow). peek_alone i (newest_on p state.scope)) (sym o.is_now),
      quiet_own p (now_after (now_named p state.objects) (Peek p) r) same (still r)
          (no_entry v m _ adds (λ es e. e)) (pins x),
    )
      where
        still : (r : Reply) → now_after (now_named p state.objects)
            (Peek p) r ≡ now_named p state.objects
        still (answer.Bytes version bytes) = refl
        still answer.Freed = refl
        still answer.Unmade = refl
        still r = refl

        pins : PeekGoes h v r m → m.pins ≡ v.pins
        pins (inl y) = ap (λ (k : View). k.pins) y.left
        pins (inr y) = ap (λ (k : View). k.pins) y.peeks.left

    -- an unpin
    pub own_unpin : (r : Reply) → UnpinGoes h v r m → LineAdds v m (told_as (Some h) (Unpin p) r)
        → Comes (Unpin p) r
    own_unpin r x adds = (
      unpin_reply h o.last v m (newest_on p state.scope) r
          (λ none. newest_none lines lane handle v.written p h at apart state.scope v.pins z.pins
          none)
          (λ some_one. (given some_one).0) x
          ∙ ap (λ (i : MapNow). unpin_alone i (newest_on p state.scope)) (sym o.is_now),
      moves x,
    )
      where
        given : 1 ≤ pins_on h v → ((version : ℕ) × (newest_on p state.scope ≡ Some version))
            × LanePinsStand lines lane handle v.written (without_newest p state.scope)
            (removed (pins_it h) v.pins)
        given some_one = given_back lines lane handle v.written p h at apart state.scope v.pins
            z.pins some_one

        wrote : m.written ≡ v.written
        wrote = no_entry v m _ adds (λ es e. e)

        moves : UnpinGoes h v r m → Later (alone_after state (Unpin p) r)
        moves (inl y) = subst (λ (q : Reply). Later (alone_after state (Unpin p) q)) (sym y.told)
            (quiet_own p (now_named p state.objects) same refl wrote
            (ap (λ (k : View). k.pins) y.left))
        moves (inr y) = subst (λ (q : Reply). Later (alone_after state (Unpin p) q)) (sym y.told)
            (quiet (alone_after state (Unpin p) answer.Done) same
            (nows_same p state.objects (now_named p state.objects) refl) wrote
            (subst (LanePinsStand lines lane handle v.written (without_newest p state.scope))
            (sym (ap (λ (k : View). k.pins) y.left)) (given y.some).1))
