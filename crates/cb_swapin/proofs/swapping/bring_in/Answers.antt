use Rattle.std.proofs.Common.{◌≡◌, ℕ, ◌+◌, ◌<◌, ◌≤◌, List, [], Option, None, Some, length, refl, sym, ap, ◌∙◌, subst, arith}
use Rattle.cb_class.specs.Class.{pages_of}
use Rattle.cb_class.proofs.Laws.{pages_some}
use Rattle.cb_frame.specs.Runs.{least_run}
use Rattle.cb_set.specs.SetState.{SetState, dead_position, position_of, with_position}
use Rattle.cb_set.specs.Lost.{NodesAreMembers}
use Rattle.cb_world.specs.declared.shown.Shown.{Shown}
use Rattle.cb_world.specs.Played.{played}
use Rattle.cb_world.specs.Sets.{set_in}
use Rattle.cb_world.specs.Sound.{Sound}
use Rattle.cb_world.specs.Stored.{AreThere}
use Rattle.cb_world.specs.FarState.{FarState}
use Rattle.cb_swapin.specs.Brings.{BringsSlots}
use Rattle.cb_swapin.specs.Fetching.{far_given, rows_lacked, rows_taken}
use Rattle.cb_world.proofs.Laws.{are_members}
use Rattle.cb_swapin.proofs.Committed.{live_within}
use Rattle.cb_swapin.proofs.Waits.{CanArrive, free_run, waiting}
use Rattle.cb_swapin.proofs.SwapSound.{sound_arrived, there_of}
use Rattle.cb_swapin.proofs.Swapped.{by_frame, has_arrived, is_whole, swapped_in, swapped_to, unavailable, with_arrived}
use Rattle.cb_swapin.proofs.RowGiven.{any_err}
use Rattle.cb_swapin.proofs.swapping.bring_in.Goals as goal

pub returns-in-Some-clause-swap : goal.returns-in-Some-clause-swap
returns-in-Some-clause-swap g c =
    let far = c.args.far.now in let live = c.requires.live in let set = live.0 in record {
      events = [];
      ran = g.met.D.Desk.none _;
      looks_first = tt;
      rule = record {
        set = set;
        there = live.1;
        reply = unavailable far c.args.id.n set c.in-Some.lost
            (sym (c.in_ok-lost.ensures set live.1) ∙ c.in-Some.is);
        state = (refl, refl);
      };
      allowed = λ s k. tt;
      sound_after = λ s k. k.1;
      effect = λ s k. refl;
    }

pub returns-in_default-least_run-clause-swap : goal.returns-in_default-least_run-clause-swap
returns-in_default-least_run-clause-swap g c =
    let far = c.args.far.now in let live = c.requires.live in let set = live.0 in
    let whole = is_whole far set (sym (c.in_ok-lost.ensures set live.1) ∙ c.in_default.is) in
    let least : least_run far.frames set.pages ≡ None =
    sym (ap (λ (q : FarState). least_run q.frames c.set_pages-pages.result) c.far.view_is
    ∙ ap (least_run far.frames) (c.set_pages-pages.ensures.pages set live.1))
    ∙ sym c.least_run.ensures.least ∙ c.in_default-least_run.is in record {
      events = [];
      ran = g.met.D.Desk.none _;
      looks_first = tt;
      rule = record {
        set = set;
        there = live.1;
        reply = by_frame far c.args.id.n set None whole least;
        state = (refl, refl);
      };
      allowed = λ s k. tt;
      sound_after = λ s k. k.1;
      effect = λ s k. refl;
    }

pub bring_row-requires-clause-least : goal.bring_row-requires-clause-least
bring_row-requires-clause-least g c =
    let far = c.args.far.now in let live = c.requires.live in let set = live.0 in
    ap (least_run far.frames) (c.in_ok-span.ensures set live.1).pages
    ∙ sym (ap (λ (q : FarState). least_run q.frames c.set_pages-pages.result) c.far.view_is
    ∙ ap (least_run far.frames) (c.set_pages-pages.ensures.pages set live.1))
    ∙ sym c.least_run.ensures.least ∙ c.in-Some-least_run.is

pub bring_row-requires-clause-frames : goal.bring_row-requires-clause-frames
bring_row-requires-clause-frames g c =
    let far = c.args.far.now in let live = c.requires.live in let set = live.0 in
    let had = c.requires.sound in let span = c.in_ok-span.span in
    let x = c.in_ok-span.ensures set live.1 in
    let least : least_run far.frames (pages_of span.class) ≡ Some c.in-Some-least_run.frame =
    ap (least_run far.frames) x.pages
    ∙ sym (ap (λ (q : FarState). least_run q.frames c.set_pages-pages.result) c.far.view_is
    ∙ ap (least_run far.frames) (c.set_pages-pages.ensures.pages set live.1))
    ∙ sym c.least_run.ensures.least ∙ c.in-Some-least_run.is in
    let room = free_run far c.in-Some-least_run.frame (pages_of span.class) had.2.here.frames
    (pages_some span.class x.valid.in_table) least in
    let sized = (g.met.D.Desk.sized _ had.0 had.1).3 in
    omega (arith, room.stands.within, had.2.here.placed.memory, sized)

pub bring_row-requires-clause-live : goal.bring_row-requires-clause-live
bring_row-requires-clause-live g c =
    let far = c.args.far.now in let live = c.requires.live in let set = live.0 in (
      set,
      live.1,
      live.2,
      is_whole far set (sym (c.in_ok-lost.ensures set live.1) ∙ c.in_default.is),
    )

pub bring_row-requires-clause-span : goal.bring_row-requires-clause-span
bring_row-requires-clause-span g c = λ set there. c.in_ok-span.ensures set there

pub keep_span-requires-clause-frame : goal.keep_span-requires-clause-frame
keep_span-requires-clause-frame g c =
    let far = c.args.far.now in let live = c.requires.live in let set = live.0 in
    let span = c.in_ok-span.span in
    ap (λ (q : FarState). least_run q.frames (pages_of span.class))
    (c.in_ok-bring_row.ensures.row set live.1).state
    ∙ ap (least_run far.frames) (c.in_ok-span.ensures set live.1).pages
    ∙ sym (ap (λ (q : FarState). least_run q.frames c.set_pages-pages.result) c.far.view_is
    ∙ ap (least_run far.frames) (c.set_pages-pages.ensures.pages set live.1))
    ∙ sym c.least_run.ensures.least ∙ c.in-Some-least_run.is

pub keep_span-requires-clause-within : goal.keep_span-requires-clause-within
keep_span-requires-clause-within g c =
    let far = c.args.far.now in let live = c.requires.live in let had = c.requires.sound in
    let f = c.in-Some-least_run.frame in let set = live.0 in let span = c.in_ok-span.span in
    let x = c.in_ok-span.ensures set live.1 in
    let least : least_run far.frames (pages_of span.class) ≡ Some f =
    ap (least_run far.frames) x.pages
    ∙ sym (ap (λ (q : FarState). least_run q.frames c.set_pages-pages.result) c.far.view_is
    ∙ ap (least_run far.frames) (c.set_pages-pages.ensures.pages set live.1))
    ∙ sym c.least_run.ensures.least ∙ c.in-Some-least_run.is in
    let some = pages_some span.class x.valid.in_table in
    let room = free_run far f (pages_of span.class) had.2.here.frames some least in
    subst (λ (q : FarState). f < length q.spans)
    (sym (c.in_ok-bring_row.ensures.row live.0 live.1).state)
    (omega (arith, some, room.stands.within))

pub keep_span-requires-clause-set : goal.keep_span-requires-clause-set
keep_span-requires-clause-set g c =
    let far = c.args.far.now in let live = c.requires.live in let set = live.0 in
    let had = c.requires.sound in
    let now = (c.in_ok-bring_row.ensures.row set live.1).state in (
      set,
      ap (λ (q : FarState). set_in q.sets c.args.id.n) now ∙ live.1,
      live_within set c.args.position live.2,
      subst (λ (q : FarState). AreThere q.nodes set.shards) (sym now)
          (there_of had.0 far c.args.id.n set had.2.away.sound live.1),
      subst (λ (q : FarState). NodesAreMembers q.members set.shards) (sym now)
          (are_members far.members set (had.2.away.sound.sets.shaped c.args.id.n set live.1)),
    )

pub returns-in_err-span-clause-far : goal.returns-in_err-span-clause-far
returns-in_err-span-clause-far g c =
    let far = c.args.far.now in
    let e : far.nodes.given ≡ far.nodes.given + 0 = omega arith in
    any_err ((set : SetState) → set_in far.sets c.args.id.n ≡ Some set → (n : ℕ)
    × (n ≤ rows_lacked c.args.given set) × (far ≡ far_given far n)) _ (λ set there.
    (0, omega arith, ap (λ (n : ℕ). record far { nodes = record far.nodes { given = n } }) e))

pub returns-clause-swap : goal.returns-clause-swap
returns-clause-swap g c =
    let far = c.args.far.now in let live = c.requires.live in let set = live.0 in
    let id = c.args.id.n in let p = c.args.position in let f = c.in-Some-least_run.frame in
    let span = c.in_ok-span.span in
    let x = c.in_ok-bring_row.ensures.row set live.1 in let row = x.row in
    let n = rows_taken c.args.given far set p in
    let whole = is_whole far set (sym (c.in_ok-lost.ensures set live.1) ∙ c.in_default.is) in
    let least : least_run far.frames set.pages ≡ Some f =
    sym (ap (λ (q : FarState). least_run q.frames c.set_pages-pages.result) c.far.view_is
    ∙ ap (least_run far.frames) (c.set_pages-pages.ensures.pages set live.1))
    ∙ sym c.least_run.ensures.least ∙ c.in-Some-least_run.is in
    let fetched = x.fetched in
    let homes = c.bring_row.new.far.homes in
    let new = c.keep_span.new.far in
    let rest = with_position set p dead_position in
    let left : new ≡ with_arrived (far_given far n) homes id rest f span =
    c.keep_span.ensures set (ap (λ (q : FarState). set_in q.sets id) x.state ∙ live.1)
    ∙ ap (λ (q : FarState). with_arrived q homes id rest f span) x.state in
    let cleared = x.homes in
    let b = x.brought in
    let arrives = λ (s : Shown) (a : g.D.Desk.shows c.args.desk.now s) (sound : Sound s far).
    let sized = g.met.D.Desk.sized _ s a in
    let x : CanArrive s far id p set f span row = record {
      sound = sound;
      there = live.1;
      live = live.2;
      whole = whole;
      least = ap (least_run far.frames) fetched.pages ∙ least;
      flags = sized.1 ∙ sym sized.0;
      fetched = fetched;
    } in x in
    let knows = λ (s : Shown) (a : g.D.Desk.shows c.args.desk.now s) (sound : Sound s far).
    waiting s far id p set f span row (arrives s a sound) in
    let arrived = λ (s : Shown) (a : g.D.Desk.shows c.args.desk.now s) (sound : Sound s far).
    has_arrived s (played b.events s) far new homes id p set f n span row left whole cleared
    (b.effect s (a, knows s a sound)) in record {
      events = b.events;
      ran = b.ran;
      looks_first = b.looks_first;
      rule = record {
        set = set;
        there = live.1;
        reply = by_frame far id set (Some f) whole least;
        state = (
          swapped_to far new homes id p set f n span row fetched left whole cleared,
          subst (λ (n : ℕ). BringsSlots (position_of set p).slots f n b.events) fetched.pages
              (subst (λ (l : List (Option ℕ)). BringsSlots l f (pages_of span.class) b.events)
              fetched.slots b.tells),
        );
      };
      allowed = λ s k. b.allowed s (k.0, knows s k.0 k.1);
      sound_after = λ s k. sound_arrived s (played b.events s) far new id p set f n span row
          (arrives s k.0 k.1) (arrived s k.0 k.1);
      effect = λ s k. swapped_in c.args.given s (played b.events s) far new id p set f n span row
          b.events (arrives s k.0 k.1) (arrived s k.0 k.1) (b.nothing s (k.0, knows s k.0 k.1))
          x.at_hand;
    }
