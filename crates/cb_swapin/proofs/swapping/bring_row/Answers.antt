use Rattle.std.proofs.Common.{ℕ, ◌*◌, ◌<◌, List, Option, length, refl, sym, ap, ◌∙◌, subst}
use Rattle.cb_world.specs.declared.homes.Home.{Home}
use Rattle.cb_world.specs.FarState.{FarState}
use Rattle.cb_world.specs.SetWord.{is_broken}
use Rattle.cb_world.specs.contracts.far.Far.{the_view}
use Rattle.cb_swapin.specs.Named.{AreCleared}
use Rattle.cb_swapin.proofs.Committed.{live_within, set_same}
use Rattle.cb_swapin.proofs.Waits.{homes_within, names_apart, waiting}
use Rattle.cb_swapin.proofs.RowGiven.{at_hand_given, it_is_at_hand, row_at_hand, word_is_wide}
use Rattle.cb_swapin.proofs.swapping.bring_row.Goals as goal

pub bring_own_row-requires-clause-given : goal.bring_own_row-requires-clause-given
bring_own_row-requires-clause-given g c = rw c.in_default.is at c.requires.given

pub returns-in_default-clause-row : goal.returns-in_default-clause-row
returns-in_default-clause-row g c = rw c.in_default.is c.bring_own_row.ensures.row

pub returns-in_default-clause-far : goal.returns-in_default-clause-far
returns-in_default-clause-far g c = rw c.in_default.is c.bring_own_row.ensures.far

pub bring_span-requires-clause-apart : goal.bring_span-requires-clause-apart
bring_span-requires-clause-apart g c =
    let far = c.args.far.now in let live = c.requires.live in let had = c.requires.sound in
    names_apart had.0 far c.args.id.n c.args.position live.0 c.args.span.now.slots
    had.2.away.sound live.1 (c.requires.span live.0 live.1).slots

pub bring_span-requires-clause-homes : goal.bring_span-requires-clause-homes
bring_span-requires-clause-homes g c h named =
    let far = c.args.far.now in let live = c.requires.live in let had = c.requires.sound in
    subst (λ (l : List (Option Home)). h < length l)
    (sym (ap (λ (q : FarState). q.homes) c.far.view_is))
    (homes_within had.0 far c.args.id.n c.args.position live.0 c.args.span.now.slots
    had.2.away.sound live.1 (c.requires.span live.0 live.1).slots h named)

pub bring_span-requires-clause-row : goal.bring_span-requires-clause-row
bring_span-requires-clause-row g c =
    let far = c.args.far.now in let live = c.requires.live in let set = live.0 in
    let id = c.args.id.n in let p = c.args.position in
    let w = c.requires.sound.2.away.sound.sets.worded id set live.1 in
    let of_word = row_at_hand c.args.given c.in-Some.row far id p c.in-Some.is c.requires.row in
    ap length (of_word set live.1 live.3 w.0 w.1.word)
    ∙ (word_is_wide far.nodes far.members set p w.0 w.1.word (live_within set p live.2)).1
    ∙ ap (λ (n : ℕ). 4096 * n) (sym (c.requires.span set live.1).pages)

pub bring_span-requires-clause-waiting : goal.bring_span-requires-clause-waiting
bring_span-requires-clause-waiting g c =
    let far = c.args.far.now in let live = c.requires.live in let set = live.0 in
    let id = c.args.id.n in let p = c.args.position in
    let had = c.requires.sound in let s = had.0 in
    let sized = g.met.D.Desk.sized _ s had.1 in
    let x = c.requires.span set live.1 in
    let of_word = row_at_hand c.args.given c.in-Some.row far id p c.in-Some.is c.requires.row in (
      s,
      had.1,
      waiting s far id p set c.args.frame c.args.span.now c.in-Some.row.now (record {
        sound = had.2;
        there = live.1;
        live = live.2;
        whole = live.3;
        least = c.requires.least;
        flags = sized.1 ∙ sym sized.0;
        fetched = record {
          valid = x.valid;
          hot = x.hot;
          pages = x.pages;
          slots = x.slots;
          row_of = λ rows word. of_word set live.1 live.3 rows word;
        };
      }),
    )

pub returns-clause-row : goal.returns-clause-row
returns-clause-row g c = λ set there.
    let far = c.args.far.now in let x = c.requires.span set there in
    let id = c.args.id.n in let p = c.args.position in let live = c.requires.live in
    let of_word = row_at_hand c.args.given c.in-Some.row far id p c.in-Some.is c.requires.row in
    record {
      row = c.in-Some.row.now;
      fetched = record {
        valid = x.valid;
        hot = x.hot;
        pages = x.pages;
        slots = x.slots;
        row_of = λ rows word. of_word set there (ap (is_broken far.members) (set_same set live.0 (sym there ∙ live.1)) ∙ live.3) rows word;
      };
      at_hand = it_is_at_hand c.args.given c.in-Some.row c.in-Some.is;
      homes = subst (λ (l : List (Option Home)). AreCleared c.args.span.now.slots l
          c.bring_span.new.homes) (ap (λ (q : FarState). q.homes) c.far.view_is)
          c.bring_span.ensures.homes;
      state = at_hand_given (the_view c.far.inside) far _ c.bring_span.new.homes c.args.given
          c.in-Some.row set p c.far.view_is c.in-Some.is refl;
      brought = c.bring_span.ensures.brought;
    }
