-- Each line of a lane, by its request.
use Rattle.std.proofs.Common.{◌≡◌, ◌≢◌, ◌⊎◌, ℕ, Bool, true, false, List, [], ◌∷◌, ◌++◌, length}
use Rattle.std.proofs.Common.{Option, None, Some, inl, inr, sym, refl, ap, ◌∙◌, subst, arith}
use Rattle.std.proofs.Common.{if◌then◌else◌}
use Rattle.std.specs.Str.{bytes_eq}
use Rattle.std.proofs.lemmas.Bool.{true≢false, false≢true}
use Rattle.cb_types.specs.declared.config.Config.{Config}
use Rattle.cb_types.specs.declared.job.Job.TheVariants as job
use Rattle.cb_types.specs.declared.reply.Reply.{Reply}
use Rattle.cb_types.specs.declared.reply.Reply.TheVariants as answer
use Rattle.cb_types.specs.declared.request.Request.{Request}
use Rattle.cb_types.specs.declared.request.Request.TheVariants.{Make, Read, Write, Free, Pin, Peek}
use Rattle.cb_types.specs.declared.request.Request.TheVariants.{Unpin, Leave}
use Rattle.cb_types.specs.Requests.{name_of}
use Rattle.cb_types.specs.Table.{IsReplyOf}
use Rattle.cb_model.specs.declared.object.Object.TheVariants.{Held}
use Rattle.cb_model.specs.Called.{first_of, handle_made}
use Rattle.cb_model.specs.Now.{MapNow}
use Rattle.cb_script.specs.declared.script.Line.{Line}
use Rattle.cb_mutate.specs.WordsOf.{AreWordsOf}
use Rattle.cb_world.specs.declared.entry.Entry.{Entry}
use Rattle.cb_world.specs.Written.{entry, gone}
use Rattle.cb_rule.specs.declared.view.View.{View}
use Rattle.cb_rule.specs.Lists.{Has}
use Rattle.cb_rule.specs.Steps.{Knows}
use Rattle.cb_record.specs.Backs.{EntersAt}
use Rattle.cb_record.proofs.Laws.{has_right}
use Rattle.cb_shared.specs.Joining.{unpinned_all}
use Rattle.cb_lanes.specs.Alone.{AloneSays, LaneState, alone_after, is_leave, is_maker, is_maker_of}
use Rattle.cb_lanes.specs.Alone.{now_named, own_name, peek_alone, pin_alone, read_alone, free_alone}
use Rattle.cb_lanes.specs.Alone.{unpin_alone, write_alone}
use Rattle.cb_lanes.specs.AloneUntil.{is_lack}
use Rattle.cb_lanes.specs.KeepsOwn.{last_in}
use Rattle.cb_lanes.specs.LineGoes.{Ask, Calls, Leaves, LineGoes, ObjectGoes, Peeks, Pins, Unpins}
use Rattle.cb_lanes.specs.Passing.{PeekGoes, goes_in}
use Rattle.cb_lanes.specs.Scopes.{named_on, newest_on}
use Rattle.cb_lanes.proofs.ByAsk.{IsAskOf, line_less, of_line}
use Rattle.cb_lanes.proofs.LineParts.{LineAdds, about, make_handle, told_as}
use Rattle.cb_lanes.proofs.OwnLine.{LeadsTo, pins_kept, quiet, quiet_own, own_free, own_peek}
use Rattle.cb_lanes.proofs.OwnLine.{own_pin, own_read, own_unpin, own_write}
use Rattle.cb_lanes.proofs.OwnMade.{made_first, made_fresh}
use Rattle.cb_lanes.proofs.OwnObjects.{last_hit, last_past}
use Rattle.cb_lanes.proofs.OwnSays.{goes_own}
use Rattle.cb_lanes.proofs.OwnStands.{LanePinsStand, LaneStands, ObjectStands, none_shared}
use Rattle.cb_lanes.proofs.OwnSteps.{Grew, pins_still, stands_made, stands_still}
use Rattle.cb_lanes.proofs.PinLists.{name_cases}
use Rattle.cb_lanes.proofs.TellingNew.{ask_new}
use Rattle.cb_lanes.proofs.Trying.{call_pins}

-- the request neither makes an object nor changes the scope
abbrev pub KeepsScope : Request → Type 0
KeepsScope (Make name bytes) = ⊥
KeepsScope (Pin name) = ⊥
KeepsScope (Unpin name) = ⊥
KeepsScope Leave = ⊥
KeepsScope q = Unit {0}

-- one entry, of the object of this handle
abbrev IsOneEntryOf : Option ℕ → List Entry → Type 0
IsOneEntryOf o es = (g : ℕ) × (o ≡ Some g) × (e : Entry) × (es ≡ e ∷ []) × (e.handle ≡ g)

write_enters : (o : Option ℕ) (p : List ℕ) (at : ℕ) (bytes : List ℕ) (r : Reply) (es : List Entry)
    → EntersAt o (Write p at bytes) r es → (es ≡ []) ⊎ IsOneEntryOf o es
write_enters None p at bytes r es x = inl x
write_enters (Some g) p at bytes (answer.Version n) es x =
    inr (g, refl, entry g n x.0 x.1 x.2, x.5, refl)
write_enters (Some g) p at bytes r es x = inl x

free_enters : (o : Option ℕ) (p : List ℕ) (r : Reply) (es : List Entry)
    → EntersAt o (Free p) r es → (es ≡ []) ⊎ IsOneEntryOf o es
free_enters None p r es x = inl x
free_enters (Some g) p (answer.Version n) es x = inr (g, refl, gone g n x.0, x.1, refl)
free_enters (Some g) p r es x = inl x

-- the request neither makes, writes nor frees an object
abbrev ChangesNone : Request → Type 0
ChangesNone (Make name bytes) = ⊥
ChangesNone (Write name at bytes) = ⊥
ChangesNone (Free name) = ⊥
ChangesNone q = Unit {0}

pub enters_none : (o : Option ℕ) (q : Request) (r : Reply) (es : List Entry) → ChangesNone q
    → EntersAt o q r es
    → es ≡ []
enters_none o (Make p bytes) r es idle x = absurd idle
enters_none o (Write p at bytes) r es idle x = absurd idle
enters_none o (Free p) r es idle x = absurd idle
enters_none None q r es idle x = x
enters_none (Some g) q r es idle x = x

module _ (c : Config) (v m : View) (r : Reply) where
  peek_pins : (h : ℕ) → PeekGoes h v r m → m.pins ≡ v.pins
  peek_pins h (inl y) = ap (λ (k : View). k.pins) y.left
  peek_pins h (inr y) = ap (λ (k : View). k.pins) y.peeks.left

  ask_pins : (o : Option ℕ) (q : Request) (ask : Ask) → KeepsScope q → IsAskOf o q ask
      → goes_in c ask v r m → m.pins ≡ v.pins
  ask_pins o q (Calls j) plain is x = call_pins c j r v m x
  ask_pins o q (Pins h) plain (named, (p, is)) x = absurd (subst KeepsScope is plain)
  ask_pins o q (Peeks h) plain is x = peek_pins h x
  ask_pins o q (Unpins h) plain (named, (p, is)) x = absurd (subst KeepsScope is plain)
  ask_pins o q Leaves plain is x = absurd (subst KeepsScope is plain)

  -- such a line leaves the pins
  plain_pins : (o : Option ℕ) (q : Request) → KeepsScope q → LineGoes (goes_in c) o q v r m
      → m.pins ≡ v.pins
  plain_pins o q plain x = of_line (goes_in c) v m r (m.pins ≡ v.pins) o q
      (λ ask is y. ask_pins o q ask plain is y) (λ unmade same. ap (λ (k : View). k.pins) same) x

-- What is known of a line of a lane, where names have these handles: its reply is one that it may
-- have, what it makes is the lane's own and new, and what it pins the lane's own.
pub record IsLaneLine (lines : List Line) (lane : ℕ) (handle : List ℕ → Option ℕ) (q : Request)
    (r : Reply)
    : Type 0 where
  pub line : IsReplyOf q r
  pub makes : (p bytes : List ℕ) → q ≡ Make p bytes
      → (is_maker lines lane p ≡ true) × (handle p ≡ None)
  pub pins : (p : List ℕ) → q ≡ Pin p → is_maker lines lane p ≡ true

module _ (c : Config) (lines : List Line) (lane : ℕ) (named : Option (List ℕ) → Option ℕ)
    (later : List ℕ → Option ℕ) (state : LaneState) (v m all : View)
    (z : LaneStands lines lane (λ q. named (Some q)) state v) (leads : LeadsTo m all)
    (grew : Grew v m) where
  abbrev handle : List ℕ → Option ℕ
  handle q = named (Some q)

  abbrev Same : Type 0
  Same = (q : List ℕ) → later q ≡ handle q

  abbrev Later : LaneState → Type 0
  Later new = LaneStands lines lane later new m

  -- what a line on an own name comes to
  abbrev Comes : Request → Reply → Type 0
  Comes q r = AloneSays state q r × Later (alone_after state q r)

  -- ---- a make
  own_make : (p bytes : List ℕ) (r : Reply) → goes_own c (Calls (job.Make bytes)) v r m
      → LineAdds v m (told_as (make_handle r) (Make p bytes) r) → IsReplyOf (Make p bytes) r
      → is_lack r ≡ false
      → handle p ≡ None
      → ((q : List ℕ) → later q ≡ first_of (handle_made q (Make p bytes) r) (handle q))
      → Comes (Make p bytes) r
  own_make p bytes (answer.Made hd version) ((d, y, is), tells) adds line room none more = (
    (hd, ap (answer.Made hd) first),
    stands_made lines lane handle later state
        (alone_after state (Make p bytes) (answer.Made hd version)) v m p hd.n e
        (Some (Held version bytes)) grew (λ q off. more q ∙ other q off (name_cases p q))
        (more p ∙ made (name_cases p p))
        refl none fresh wrote refl
        (call_pins c (job.Make bytes) (answer.Made hd version) v m (d, y, is)) (record {
          own = subst (λ (k : View). Has hd.n k.own) (sym is) (inl refl);
          last = e;
          is_last = ap (λ (l : List Entry). last_in l hd.n) wrote ∙ last_hit e v.written hd.n refl;
          long = λ _. let count = entered.1.count in omega (arith, count);
          is_now = λ i. Some (Held version (sym entered.1.first_bytes i));
        }) z,
  )
    where
      entered : (words : List ℕ) × AreWordsOf bytes words
          × (adds.2.wrote.0 ≡ entry hd.n version (length bytes) [] words ∷ [])
      entered = adds.2.wrote.3

      e : Entry
      e = entry hd.n version (length bytes) [] entered.0

      wrote : m.written ≡ e ∷ v.written
      wrote = let b = adds.2.wrote in ap (λ (k : View). k.written) adds.1
          ∙ ap (λ (l : List Entry). l ++ v.written) (b.2 ∙ (λ i. b.4 i ++ entered.2 i))

      first : version ≡ 1
      first = made_first c bytes hd version v m all (d, y, is) leads.turns leads.keeps.makes

      fresh : Knows hd.n v → ⊥
      fresh = made_fresh hd.n version v all first
          (ask_new c (Calls (job.Make bytes)) v (answer.Made hd version) m (d, y, is))
          (leads.own hd.n (subst (λ (k : View). Has hd.n k.own) (sym is) (inl refl))) leads.keeps
          (λ x has. subst (Has x) (sym
          (leads.grows ∙ ap (λ (l : List Entry). leads.rest ++ l) wrote))
          (has_right x leads.rest (e ∷ v.written) (inr has)))
          (λ s has. leads.seen s (subst (λ (k : View). Has s k.seen) (sym is)
          (has_right s d.seen v.seen has)))

      other : (q : List ℕ) → p ≢ q → ((bytes_eq p q ≡ true) × (p ≡ q))
          ⊎ ((bytes_eq p q ≡ false) × (p ≢ q))
          → first_of (if bytes_eq p q then Some hd.n else None) (handle q) ≡ handle q
      other q off (inl x) = absurd (off x.1)
      other q off (inr x) = ap (λ (b : Bool). first_of (if b then Some hd.n else None) (handle q))
          x.0

      made : ((bytes_eq p p ≡ true) × (p ≡ p)) ⊎ ((bytes_eq p p ≡ false) × (p ≢ p))
          → first_of (if bytes_eq p p then Some hd.n else None) (handle p) ≡ Some hd.n
      made (inl x) = ap (λ (b : Bool). first_of (if b then Some hd.n else None) (handle p)) x.0
      made (inr x) = absurd (x.1 refl)
  own_make p bytes (answer.Full n) x adds line room none more = absurd (true≢false room)
  own_make p bytes (answer.NoRoom f l n) x adds line room none more = absurd (true≢false room)
  own_make p bytes answer.Worn x adds line room none more = absurd (true≢false room)
  own_make p bytes r x adds line room none more = absurd line

  -- ---- a line on an own name that was not made
  unmade_stands : (q : Request) (p : List ℕ) (r : Reply)
      → alone_after state q answer.Unmade ≡ record {
        objects = record { name = p; now = now_named p state.objects } ∷ state.objects;
        scope = state.scope;
      } → Same → (r ≡ answer.Unmade) × (m ≡ v) → Later (alone_after state q r)
  unmade_stands q p r is same x = subst (λ (k : Reply). Later (alone_after state q k)) (sym x.0)
      (subst Later (sym is) (quiet_own c lines lane named later state v m all z leads grew p
      (now_named p state.objects)
      same refl (ap (λ (k : View). k.written) x.1) (ap (λ (k : View). k.pins) x.1)))

  module _ (p : List ℕ) (r : Reply) (own : is_maker lines lane p ≡ true) (same : Same)
      (room : is_lack r ≡ false)
    where
      stood : (o : Option ℕ) → handle p ≡ o → ObjectStands o v (now_named p state.objects)
      stood o at = subst (λ (k : Option ℕ). ObjectStands k v (now_named p state.objects)) at
          (z.objects p own)

      read_comes : (o : Option ℕ) → handle p ≡ o → ObjectGoes (goes_own c) o (Read p) v r m
          → LineAdds v m (told_as o (Read p) r) → Comes (Read p) r
      read_comes None at x adds =
          (x.0 ∙ ap read_alone (sym (stood None at)), unmade_stands (Read p) p r refl same x)
      read_comes (Some h) at x adds =
          own_read c lines lane named later state v m all z leads grew p h own at
          (stood (Some h) at) same r x adds room

      write_comes : (at_ : ℕ) (bytes : List ℕ) (o : Option ℕ) → handle p ≡ o
          → ObjectGoes (goes_own c) o (Write p at_ bytes) v r m
          → LineAdds v m (told_as o (Write p at_ bytes) r) → IsReplyOf (Write p at_ bytes) r
          → Comes (Write p at_ bytes) r
      write_comes at_ bytes None at x adds line = (
        x.0 ∙ ap (λ (i : MapNow). write_alone i (named_on p state.scope) at_ (length bytes))
            (sym (stood None at)),
        unmade_stands (Write p at_ bytes) p r refl same x,
      )
      write_comes at_ bytes (Some h) at x adds line =
          own_write c lines lane named later state v m all z leads grew p h own at
          (stood (Some h) at) same at_ bytes r x
          adds line room

      free_comes : (o : Option ℕ) → handle p ≡ o → ObjectGoes (goes_own c) o (Free p) v r m
          → LineAdds v m (told_as o (Free p) r) → IsReplyOf (Free p) r → Comes (Free p) r
      free_comes None at x adds line = (
        x.0 ∙ ap (λ (i : MapNow). free_alone i (named_on p state.scope)) (sym (stood None at)),
        unmade_stands (Free p) p r refl same x,
      )
      free_comes (Some h) at x adds line =
          own_free c lines lane named later state v m all z leads grew p h own at
          (stood (Some h) at) same r x adds line
          room

      pin_comes : (o : Option ℕ) → handle p ≡ o → ObjectGoes (goes_own c) o (Pin p) v r m
          → LineAdds v m (told_as o (Pin p) r) → Comes (Pin p) r
      pin_comes None at x adds = (
        x.0 ∙ ap (λ (i : MapNow). pin_alone i (length state.scope)) (sym (stood None at)),
        unmade_stands (Pin p) p r refl same x,
      )
      pin_comes (Some h) at x adds =
          own_pin c lines lane named later state v m all z leads grew p h own at
          (stood (Some h) at) same r
          x.0.0 adds room

      peek_comes : (o : Option ℕ) → handle p ≡ o → ObjectGoes (goes_own c) o (Peek p) v r m
          → LineAdds v m (told_as o (Peek p) r) → Comes (Peek p) r
      peek_comes None at x adds = (
        x.0 ∙ ap (λ (i : MapNow). peek_alone i (newest_on p state.scope)) (sym (stood None at)),
        unmade_stands (Peek p) p r refl same x,
      )
      peek_comes (Some h) at x adds =
          own_peek c lines lane named later state v m all z leads grew p h own at
          (stood (Some h) at) same r x.0 adds

      unpin_comes : (o : Option ℕ) → handle p ≡ o → ObjectGoes (goes_own c) o (Unpin p) v r m
          → LineAdds v m (told_as o (Unpin p) r) → Comes (Unpin p) r
      unpin_comes None at x adds = (
        x.0 ∙ ap (λ (i : MapNow). unpin_alone i (newest_on p state.scope)) (sym (stood None at)),
        unmade_stands (Unpin p) p r refl same x,
      )
      unpin_comes (Some h) at x adds =
          own_unpin c lines lane named later state v m all z leads grew p h own at
          (stood (Some h) at) same r x.0 adds

  -- ---- a line that is not the lane's own
  -- what it enters is of no own object
  last_other : (o : Option ℕ) (es : List Entry) → m.written ≡ es ++ v.written → (es ≡ [])
      ⊎ IsOneEntryOf o es
      → ((q : List ℕ) (g : ℕ) → is_maker lines lane q ≡ true → handle q ≡ Some g → o ≡ Some g → ⊥)
      → (q : List ℕ) (k : ℕ) → is_maker lines lane q ≡ true → handle q ≡ Some k
      → last_in m.written k ≡ last_in v.written k
  last_other o es grew_by (inl none) off q k own at =
      ap (λ (l : List Entry). last_in l k) (grew_by ∙ ap (λ (l : List Entry). l ++ v.written) none)
  last_other o es grew_by (inr (g, is, e, one, on)) off q k own at =
      ap (λ (l : List Entry). last_in l k) (grew_by ∙ ap (λ (l : List Entry). l ++ v.written) one)
      ∙ last_past e v.written k
      (λ same. off q k own at (is ∙ ap (λ (i : ℕ). Some i) (sym on ∙ same)))

  other_last : (q : Request) (r : Reply) (es : List Entry) → KeepsScope q
      → m.written ≡ es ++ v.written
      → EntersAt (about (named (name_of q)) q r) q r es
      → is_maker_of lines lane (own_name q) ≡ false
      → (n : List ℕ) (k : ℕ) → is_maker lines lane n ≡ true → handle n ≡ Some k
      → last_in m.written k ≡ last_in v.written k
  other_last (Write p at bytes) r es plain wrote enters not =
      last_other (handle p) es wrote (write_enters (handle p) p at bytes r es enters)
      (λ n g own is there. true≢false
      (sym own ∙ ap (is_maker lines lane) (z.apart n p g own is there) ∙ not))
  other_last (Free p) r es plain wrote enters not =
      last_other (handle p) es wrote (free_enters (handle p) p r es enters)
      (λ n g own is there. true≢false
      (sym own ∙ ap (is_maker lines lane) (z.apart n p g own is there) ∙ not))
  other_last (Make p bytes) r es plain wrote enters not = absurd plain
  other_last q r es plain wrote enters not = λ n k own is. ap (λ (l : List Entry). last_in l k)
      (wrote ∙ ap (λ (l : List Entry). l ++ v.written)
      (enters_none (about (named (name_of q)) q r) q r es tt enters))

  -- no own object changes, nor does the scope
  other_stands : (q : Request) (r : Reply) → KeepsScope q
      → LineGoes (goes_in c) (named (name_of q)) q v r m
      → LineAdds v m (told_as (about (named (name_of q)) q r) q r) → Same
      → is_maker_of lines lane (own_name q) ≡ false → Later state
  other_stands q r plain x adds same not =
      let b = adds.2.wrote in
      let wrote : m.written ≡ b.0 ++ v.written = ap (λ (k : View). k.written) adds.1
      ∙ ap (λ (l : List Entry). l ++ v.written) (b.2 ∙ ap (λ (l : List Entry). l ++ b.0) b.4) in
      let last = other_last q r b.0 plain wrote b.3 not in
      stands_still lines lane handle later state state v m grew same (λ n. refl) last
      (pins_still lines lane handle later v.written m.written state.scope m.pins same last
      (subst (LanePinsStand lines lane handle v.written state.scope)
      (sym (plain_pins c v m r (named (name_of q)) q plain x)) z.pins)) z

  -- an unpin of another lane's object finds no pin
  unpin_other : (p : List ℕ) (r : Reply) → ObjectGoes (goes_in c) (handle p) (Unpin p) v r m
      → LineAdds v m (told_as (handle p) (Unpin p) r) → Same → is_maker lines lane p ≡ false
      → Later state
  unpin_other p r x adds same not = by (handle p) refl x
    where
      still : m ≡ v → Later state
      still is = quiet c lines lane named later state v m all z leads grew state same (λ n. refl)
          (ap (λ (k : View). k.written) is)
          (pins_kept c lines lane named later state v m all z leads grew
          (ap (λ (k : View). k.pins) is))

      by : (o : Option ℕ) → handle p ≡ o → ObjectGoes (goes_in c) o (Unpin p) v r m → Later state
      by None at x = still x.1
      by (Some g) at (inl y) = still y.left
      by (Some g) at (inr y) = absurd (let some_one = y.some in
          let none = none_shared lines lane handle v.written p g
          (λ n own is. true≢false (sym own ∙ ap (is_maker lines lane) (z.apart n p g own is at)
          ∙ not))
          state.scope v.pins z.pins in omega (arith, some_one, none))

  -- ---- a leave
  leave_stands : (r : Reply) → (r ≡ answer.Left (length v.pins)) × (m ≡ unpinned_all v) → Same
      → Later (alone_after state Leave r)
  leave_stands r x same = subst (λ (k : Reply). Later (alone_after state Leave k)) (sym x.0)
      (quiet c lines lane named later state v m all z leads grew
      (alone_after state Leave (answer.Left (length v.pins))) same (λ n. refl)
      (ap (λ (k : View). k.written) x.1)
      (subst (LanePinsStand lines lane handle v.written []) (sym (ap (λ (k : View). k.pins) x.1))
      tt))

  -- ---- all of them
  -- what a line comes to, by whose it is
  pub record LineStepsOn (q : Request) (r : Reply) : Type 0 where
    pub own : is_maker_of lines lane (own_name q) ≡ true → is_lack r ≡ false → Comes q r
    pub leave : is_leave q ≡ true → Later (alone_after state q r)
    pub other : is_maker_of lines lane (own_name q) ≡ false → is_leave q ≡ false → Later state

  plain_steps : (q : Request) (r : Reply) → KeepsScope q → is_leave q ≡ false
      → (is_maker_of lines lane (own_name q) ≡ true → is_lack r ≡ false → Comes q r)
      → LineGoes (goes_in c) (named (name_of q)) q v r m
      → LineAdds v m (told_as (about (named (name_of q)) q r) q r) → Same → LineStepsOn q r
  plain_steps q r plain stays own x adds same = record {
    own = own;
    leave = λ e. absurd (true≢false (sym e ∙ stays));
    other = λ not off. other_stands q r plain x adds same not;
  }

  line_old : (q : Request) (r : Reply) → LineGoes (goes_own c) (named (name_of q)) q v r m
      → LineGoes (goes_in c) (named (name_of q)) q v r m
  line_old q r x = line_less (goes_own c) (goes_in c) v m r (λ ask y. y.0) (named (name_of q)) q x

  pub line_steps : (q : Request) (r : Reply) → LineGoes (goes_own c) (named (name_of q)) q v r m
      → LineAdds v m (told_as (about (named (name_of q)) q r) q r)
      → IsLaneLine lines lane handle q r
      → ((p : List ℕ) → later p ≡ first_of (handle_made p q r) (handle p)) → LineStepsOn q r
  line_steps (Make p bytes) r x adds is more = record {
    own = λ own room. own_make p bytes r x adds is.line room (is.makes p bytes refl).1 more;
    leave = λ e. absurd (false≢true e);
    other = λ not off. absurd (true≢false (sym (is.makes p bytes refl).0 ∙ not));
  }
  line_steps (Read p) r x adds is more = plain_steps (Read p) r tt refl
      (λ own room. read_comes p r own more room (handle p) refl x adds)
      (line_old (Read p) r x) adds more
  line_steps (Write p at bytes) r x adds is more = plain_steps (Write p at bytes) r tt refl
      (λ own room. write_comes p r own more room at bytes (handle p) refl x adds is.line)
      (line_old (Write p at bytes) r x) adds more
  line_steps (Free p) r x adds is more = plain_steps (Free p) r tt refl
      (λ own room. free_comes p r own more room (handle p) refl x adds is.line)
      (line_old (Free p) r x) adds more
  line_steps (Peek p) r x adds is more = plain_steps (Peek p) r tt refl
      (λ own room. peek_comes p r own more room (handle p) refl x adds)
      (line_old (Peek p) r x) adds more
  line_steps (Pin p) r x adds is more = record {
    own = λ own room. pin_comes p r own more room (handle p) refl x adds;
    leave = λ e. absurd (false≢true e);
    other = λ not off. absurd (true≢false (sym (is.pins p refl) ∙ not));
  }
  line_steps (Unpin p) r x adds is more = record {
    own = λ own room. unpin_comes p r own more room (handle p) refl x adds;
    leave = λ e. absurd (false≢true e);
    other = λ not off. unpin_other p r (line_old (Unpin p) r x) adds more not;
  }
  line_steps Leave r x adds is more = record {
    own = λ own room. absurd (false≢true own);
    leave = λ e. leave_stands r x.0 more;
    other = λ not off. absurd (true≢false off);
  }
  line_steps q r x adds is more = plain_steps q r tt refl (λ own room. absurd (false≢true own))
      (line_old q r x) adds more
