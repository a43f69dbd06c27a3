-- The pins on an object of a lane are the lane's own.
use Rattle.std.proofs.Common.{◌≡◌, ◌≢◌, ◌⊎◌, ℕ, ◌<◌, ◌≤◌, true, List, [], length, map, take, Option}
use Rattle.std.proofs.Common.{None, Some, refl, sym, ap, ◌∙◌, subst, arith, inl, inr}
use Rattle.std.proofs.lemmas.Bool.{cases_lt}
use Rattle.std.proofs.lemmas.Option.{same_Some}
use Rattle.cb_ptr.specs.declared.word.State.TheVariants as state
use Rattle.cb_ptr.specs.Word.{len_of, pins_of}
use Rattle.cb_types.specs.declared.answer.Answer.{Answer}
use Rattle.cb_types.specs.declared.job.Job.TheVariants as job
use Rattle.cb_types.specs.declared.request.Request.{Request}
use Rattle.cb_types.specs.declared.request.Request.TheVariants.{Write, Free}
use Rattle.cb_types.specs.declared.reply.Reply.{Reply}
use Rattle.cb_types.specs.declared.reply.Reply.TheVariants as answer
use Rattle.cb_types.specs.Requests.{name_of}
use Rattle.cb_model.specs.declared.object.Object.TheVariants.{Held}
use Rattle.cb_model.specs.Now.{MapNow}
use Rattle.cb_model.specs.Called.{calls_of, handle_of, value, value_at}
use Rattle.cb_script.specs.declared.script.Line.{Line}
use Rattle.cb_script.specs.Form.{AreLines}
use Rattle.cb_world.specs.Memory.{bytes_in}
use Rattle.cb_world.specs.Now.{now}
use Rattle.cb_world.specs.Now.Now.{held}
use Rattle.cb_world.specs.Seats.{SeatState, idle_seat, pins_among, pins_of_seat}
use Rattle.cb_world.specs.StillWords.{contents_at, stamp_at}
use Rattle.cb_world.specs.World.{WorldState, word_at}
use Rattle.cb_world.proofs.Laws.{bits, near_now}
use Rattle.cb_mutate.specs.MapCalls.{IsValue}
use Rattle.cb_mutate.proofs.Laws.{bytes_length}
use Rattle.cb_core.specs.Step.{TurnStep}
use Rattle.cb_core.proofs.Laws.{free_counts, free_unpinned, write_counts, write_fits}
use Rattle.cb_core.proofs.Laws.{write_unpinned}
use Rattle.cb_lanes.specs.Asked.{asked}
use Rattle.cb_lanes.specs.GivingBack.{lines_by}
use Rattle.cb_lanes.specs.LineStep.{LineStep}
use Rattle.cb_lanes.specs.declared.side.Side.{Side}
use Rattle.cb_lanes.specs.Alone.{is_maker}
use Rattle.cb_lanes.specs.Scopes.{named_on, scope_of}
use Rattle.cb_lanes.proofs.AloneLines.{named_none}
use Rattle.cb_lanes.proofs.AloneReplies.{ChangeTells, PinsTell}
use Rattle.cb_lanes.proofs.AloneValues.{value_named}
use Rattle.cb_lanes.proofs.FewPins.{sum_one}
use Rattle.cb_lanes.proofs.Lone.{turn_alone}
use Rattle.cb_lanes.proofs.PinLists.{scope_count}
use Rattle.cb_lanes.proofs.ScopesKept.{AreScopes}
use Rattle.cb_lanes.proofs.Turning.{Turning, within}

module _ (nodes i : ℕ) (lines : List Line) (answers : List Answer) (w new : WorldState)
    (number : List ℕ → Option ℕ) (later : List ℕ) (own : ℕ) (name : List ℕ) (h : ℕ)
    (are : AreLines nodes [] lines) (so_far : map asked answers ≡ take i lines)
    (scopes : AreScopes number later answers w) (c : Turning answers w new)
    (some : 1 ≤ own) (low : own < 16) (comes : 1 ≤ lines_by own later)
    (maker : is_maker lines own name ≡ true) (at_name : number name ≡ Some h)
    (below : h < w.desk.settings.handles) where
  -- no other seat has a pin on it
  none_else : (k : ℕ) → k ≢ own → pins_among h (pins_of_seat w.seats k) ≡ 0
  none_else k off = by (cases_lt 0 (lines_by k later))
    where
      by : (0 < lines_by k later) ⊎ (lines_by k later ≤ 0)
          → pins_among h (pins_of_seat w.seats k) ≡ 0
      by (inl more) = sym (scope_count number scopes.apart name h at_name (scope_of k answers)
          (pins_of_seat w.seats k) (scopes.are k (omega (arith, more))))
          ∙ named_none nodes lines i own k name answers are so_far some off maker
      by (inr none) = ap (pins_among h) (scopes.gone k (omega (arith, none)))

  pub pins_are : pins_of (word_at w.desk h) ≡ named_on name (scope_of own answers)
  pins_are = c.before.pinned.counted h (within w h c.before below)
      ∙ sum_one (λ (x : SeatState). pins_among h x.pins) w.seats own idle_seat
      (let n = c.before.pinned.count in omega (arith, low, n)) (λ k off lt. none_else k off)
      ∙ sym (scope_count number scopes.apart name h at_name (scope_of own answers)
      (pins_of_seat w.seats own) (scopes.are own comes))

  -- a pinned object is here, and the map has as many bytes as its word says
  pub pinned_length : (version : ℕ) (bytes : List ℕ)
      → value (calls_of answers) h ≡ Some (Held version bytes)
      → 1 ≤ pins_of (word_at w.desk h) → len_of (word_at w.desk h) ≡ length bytes
  pinned_length version bytes has pinned =
      let inside = within w h c.before below in
      let here = (c.before.pinned.here h inside pinned).0 in
      let two = bits (word_at w.desk h) state.Here here in
      let near : now c.before.shown w.far h ≡ held (stamp_at w.desk h) contents =
      near_now w.desk w.far c.before.shown h c.before.known.shows c.before.known.sound inside
      (omega (arith, two)) in
      let is : IsValue (Some (Held version bytes)) (held (stamp_at w.desk h) contents) =
      (subst (λ (m : MapNow). IsValue m (held (stamp_at w.desk h) contents)) has
      (subst (IsValue (value (calls_of answers) h)) near (c.beside.values h))) in
      sym (bytes_length (contents_at w.desk h) (len_of (word_at w.desk h)))
      ∙ ap (λ (xs : List ℕ). length xs) is.1
    where
      contents : List ℕ
      contents = bytes_in (contents_at w.desk h) (len_of (word_at w.desk h))

  -- so a change tells the lane's own pins
  pub write_tells : (at : ℕ) (bytes : List ℕ) (r : Reply) → handle_of answers name ≡ Some h
      → TurnStep (job.Write (record { n = h }) at bytes) w r new
      → PinsTell (value_named answers name) (named_on name (scope_of own answers))
      (Write name at bytes) r
  write_tells at bytes r named step = (
    record {
      pinned = λ count e. (write_counts w new h at bytes count c.before c.few (told e)).is
          ∙ pins_are;
      done = λ version e. sym pins_are ∙ write_unpinned w new h at bytes version c.before c.few
          (told e);
    },
    λ count version held_bytes e has.
        let fits = write_fits w new h at bytes count c.before c.few (told e) in
        let pins = write_counts w new h at bytes count c.before c.few (told e) in
        let len = pinned_length version held_bytes
        (sym (ap (value_at (calls_of answers)) named) ∙ has)
        (let n = pins.is in let m = pins.some in omega (arith, n, m)) in
        omega (arith, fits, len),
  )
    where
      told : {q : Reply} → r ≡ q → TurnStep (job.Write (record { n = h }) at bytes) w q new
      told e = subst (λ (q : Reply). TurnStep (job.Write (record { n = h }) at bytes) w q new) e
          step

  pub free_tells : (r : Reply) → TurnStep (job.Free (record { n = h })) w r new
      → ChangeTells (named_on name (scope_of own answers)) r
  free_tells r step = record {
    pinned = λ count e. (free_counts w new h count c.before c.few (told e)).is ∙ pins_are;
    done = λ version e. sym pins_are ∙ free_unpinned w new h version c.before c.few (told e);
  }
    where
      told : {q : Reply} → r ≡ q → TurnStep (job.Free (record { n = h })) w q new
      told e = subst (λ (q : Reply). TurnStep (job.Free (record { n = h })) w q new) e step

-- a line on a name whose make was refused is told so, and nothing of pins
unmade_tells : (own : ℕ) (r : Reply) → r ≡ answer.Unmade → ChangeTells own r
unmade_tells own r is = record {
  pinned = λ count e. absurd (let z : answer.Unmade ≡ answer.Pinned count = sym is ∙ e in cc);
  done = λ version e. absurd (let z : answer.Unmade ≡ answer.Version version = sym is ∙ e in cc);
}

module _ (side : Side) (nodes i : ℕ) (lines : List Line) (answers : List Answer)
    (w new : WorldState)
    (number : List ℕ → Option ℕ) (later : List ℕ) (own : ℕ)
    (are : AreLines nodes [] lines) (so_far : map asked answers ≡ take i lines)
    (scopes : AreScopes number later answers w) (c : Turning answers w new)
    (some : 1 ≤ own) (low : own < 16) (comes : 1 ≤ lines_by own later)
    (same : (name : List ℕ) → handle_of answers name ≡ number name)
    (ready : (name : List ℕ) (h : ℕ) → number name ≡ Some h → h < w.desk.settings.handles) where
  write_by : (name : List ℕ) (at : ℕ) (bytes : List ℕ) (r : Reply) → is_maker lines own name ≡ true
      → (o : Option ℕ) → number name ≡ o → LineStep side own o (Write name at bytes) w r new
      → PinsTell (value_named answers name) (named_on name (scope_of own answers))
      (Write name at bytes) r
  write_by name at bytes r maker None e step = (
    unmade_tells (named_on name (scope_of own answers)) r step.0,
    λ count version held_bytes told has.
        absurd (let z : answer.Unmade ≡ answer.Pinned count = sym step.0 ∙ told in cc),
  )
  write_by name at bytes r maker (Some h) e step =
      write_tells nodes i lines answers w new number later own name h are so_far scopes c some low
      comes maker e
      (ready name h e) at bytes r (same name ∙ e)
      (turn_alone own (job.Write (record { n = h }) at bytes) w new r tt c.lone step)

  free_by : (name : List ℕ) (r : Reply) → is_maker lines own name ≡ true
      → (o : Option ℕ) → number name ≡ o → LineStep side own o (Free name) w r new
      → ChangeTells (named_on name (scope_of own answers)) r
  free_by name r maker None e step = unmade_tells (named_on name (scope_of own answers)) r step.0
  free_by name r maker (Some h) e step =
      free_tells nodes i lines answers w new number later own name h are so_far scopes c some low
      comes maker e
      (ready name h e) r (turn_alone own (job.Free (record { n = h })) w new r tt c.lone step)

  pub line_tells : (request : Request) (r : Reply) (handle : Option ℕ)
      → ((name : List ℕ) → name_of request ≡ Some name → number name ≡ handle)
      → LineStep side own handle request w r new → (name : List ℕ) → name_of request ≡ Some name
      → is_maker lines own name ≡ true
      → PinsTell (value_named answers name) (named_on name (scope_of own answers)) request r
  line_tells (Write written at bytes) r handle at_name step name e maker =
      let is : written ≡ name = same_Some written name e in
      subst (λ (q : List ℕ). PinsTell (value_named answers q) (named_on q (scope_of own answers))
      (Write written at bytes) r) is
      (write_by written at bytes r (ap (is_maker lines own) is ∙ maker) handle
      (at_name written refl) step)
  line_tells (Free freed) r handle at_name step name e maker =
      let is : freed ≡ name = same_Some freed name e in
      subst (λ (q : List ℕ). ChangeTells (named_on q (scope_of own answers)) r) is
      (free_by freed r (ap (is_maker lines own) is ∙ maker) handle (at_name freed refl) step)
  line_tells request r handle at_name step name e maker = tt
