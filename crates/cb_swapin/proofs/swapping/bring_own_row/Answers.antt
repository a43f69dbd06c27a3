use Rattle.std.proofs.Common.{◌≡◌, ℕ, ◌*◌, ◌<◌, List, Option, true, length, refl, sym, ap, ◌∙◌, subst}
use Rattle.std.specs.List.{slice_get}
use Rattle.cb_gf256.specs.Rows.{row_at}
use Rattle.cb_node.specs.NodesState.{has, known_row}
use Rattle.cb_set.specs.SetState.{SetState}
use Rattle.cb_set.specs.Lost.{is_lost}
use Rattle.cb_world.specs.declared.homes.Home.{Home}
use Rattle.cb_world.specs.FarState.{FarState}
use Rattle.cb_world.specs.Sets.{set_in}
use Rattle.cb_world.specs.SetWord.{IsWordOf}
use Rattle.cb_world.specs.contracts.far.Far.{the_view}
use Rattle.cb_swapin.specs.Named.{AreCleared}
use Rattle.cb_swapin.proofs.Committed.{found_set, live_within}
use Rattle.cb_swapin.proofs.Waits.{homes_within, names_apart, waiting}
use Rattle.cb_swapin.proofs.RowGiven.{all_needed, given_at, one_needed, row_is_there, row_is_wide, row_of_word, word_is_wide}
use Rattle.cb_swapin.proofs.swapping.bring_own_row.Goals as goal

pub is_lost-requires : goal.is_lost-requires
is_lost-requires g c =
    let far = c.args.far.now in let live = c.requires.live in let set = live.0 in
    let had = c.requires.sound in
    let same : c.unwrap-set.result.now ≡ set =
    found_set c.committed.result c.unwrap-set.result _ set c.committed.ensures c.unwrap-set.ensures
    (ap (λ (q : FarState). set_in q.sets c.args.id.n) c.far.view_is ∙ live.1) in
    let shard = c.shard-shard.result in
    subst (λ (q : FarState). shard.node.n < length q.members.nodes) (sym c.far.view_is)
    ((had.2.away.sound.sets.shaped c.args.id.n set live.1).current c.args.position shard
    (ap (λ (y : SetState). slice_get y.shards c.args.position) (sym same) ∙ c.shard-shard.ensures)).0

pub bring_span-requires-clause-apart : goal.bring_span-requires-clause-apart
bring_span-requires-clause-apart g c =
    let far = c.args.far.now in let live = c.requires.live in let had = c.requires.sound in
    names_apart had.0 far c.args.id.n c.args.position live.0 c.args.span.now.slots
    had.2.away.sound live.1 (c.requires.span live.0 live.1).slots

pub bring_span-requires-else-is_lost-clause-apart :
    goal.bring_span-requires-else-is_lost-clause-apart
bring_span-requires-else-is_lost-clause-apart g c =
    let far = c.args.far.now in let live = c.requires.live in let had = c.requires.sound in
    names_apart had.0 far c.args.id.n c.args.position live.0 c.args.span.now.slots
    had.2.away.sound live.1 (c.requires.span live.0 live.1).slots

pub bring_span-requires-clause-homes : goal.bring_span-requires-clause-homes
bring_span-requires-clause-homes g c h named =
    let far = c.args.far.now in let live = c.requires.live in let had = c.requires.sound in
    subst (λ (l : List (Option Home)). h < length l)
    (sym (ap (λ (q : FarState). q.homes) c.far.view_is))
    (homes_within had.0 far c.args.id.n c.args.position live.0 c.args.span.now.slots
    had.2.away.sound live.1 (c.requires.span live.0 live.1).slots h named)

pub bring_span-requires-else-is_lost-clause-homes :
    goal.bring_span-requires-else-is_lost-clause-homes
bring_span-requires-else-is_lost-clause-homes g c h named =
    let far = c.args.far.now in let live = c.requires.live in let had = c.requires.sound in
    subst (λ (l : List (Option Home)). h < length l)
    (sym (ap (λ (q : FarState). q.homes) c.far.view_is))
    (homes_within had.0 far c.args.id.n c.args.position live.0 c.args.span.now.slots
    had.2.away.sound live.1 (c.requires.span live.0 live.1).slots h named)

pub row-requires : goal.row-requires
row-requires g c =
    let far = c.args.far.now in let live = c.requires.live in let set = live.0 in
    let had = c.requires.sound in
    let same : c.unwrap-set.result.now ≡ set =
    found_set c.committed.result c.unwrap-set.result _ set c.committed.ensures c.unwrap-set.ensures
    (ap (λ (q : FarState). set_in q.sets c.args.id.n) c.far.view_is ∙ live.1) in
    let w = had.2.away.sound.sets.worded c.args.id.n set live.1 in
    subst (λ (l : List (List ℕ)). c.args.position < length l)
    (c.in_ok-rows.ensures.rows w.0
    (subst (λ (q : FarState). IsWordOf q.nodes q.members c.unwrap-set.result.now w.0)
    (sym c.far.view_is)
    (subst (λ (y : SetState). IsWordOf far.nodes far.members y w.0) (sym same) w.1.word)))
    (word_is_wide far.nodes far.members set c.args.position w.0 w.1.word
    (live_within set c.args.position live.2)).0

pub bring_span-requires-clause-row : goal.bring_span-requires-clause-row
bring_span-requires-clause-row g c =
    let far = c.args.far.now in let live = c.requires.live in let set = live.0 in
    let had = c.requires.sound in
    let same : c.unwrap-set.result.now ≡ set =
    found_set c.committed.result c.unwrap-set.result _ set c.committed.ensures c.unwrap-set.ensures
    (ap (λ (q : FarState). set_in q.sets c.args.id.n) c.far.view_is ∙ live.1) in
    let w = had.2.away.sound.sets.worded c.args.id.n set live.1 in
    ap length c.row.ensures.value
    ∙ sym (ap (λ (l : List (List ℕ)). length (row_at l c.args.position))
    (c.in_ok-rows.ensures.rows w.0
    (subst (λ (q : FarState). IsWordOf q.nodes q.members c.unwrap-set.result.now w.0)
    (sym c.far.view_is)
    (subst (λ (y : SetState). IsWordOf far.nodes far.members y w.0) (sym same) w.1.word))))
    ∙ (word_is_wide far.nodes far.members set c.args.position w.0 w.1.word
    (live_within set c.args.position live.2)).1
    ∙ ap (λ (n : ℕ). 4096 * n) (sym (c.requires.span set live.1).pages)

pub bring_span-requires-clause-waiting : goal.bring_span-requires-clause-waiting
bring_span-requires-clause-waiting g c =
    let far = c.args.far.now in let live = c.requires.live in let set = live.0 in
    let had = c.requires.sound in let s = had.0 in
    let sized = g.met.D.Desk.sized _ s had.1 in
    let x = c.requires.span set live.1 in
    let same : c.unwrap-set.result.now ≡ set =
    found_set c.committed.result c.unwrap-set.result _ set c.committed.ensures c.unwrap-set.ensures
    (ap (λ (q : FarState). set_in q.sets c.args.id.n) c.far.view_is ∙ live.1) in (
      s,
      had.1,
      waiting s far c.args.id.n c.args.position set c.args.frame c.args.span.now
          c.row.result.now (record {
            sound = had.2;
            there = live.1;
            live = live.2;
            whole = live.3;
            least = c.requires.least;
            flags = sized.1 ∙ sym sized.0;
            fetched = record {
              valid = x.valid;
              hot = x.hot;
              pages = x.pages;
              slots = x.slots;
              row_of = λ rows word. c.row.ensures.value
                  ∙ sym (ap (λ (l : List (List ℕ)). row_at l c.args.position)
                  (c.in_ok-rows.ensures.rows rows
                  (subst (λ (q : FarState).
                  IsWordOf q.nodes q.members c.unwrap-set.result.now rows) (sym c.far.view_is)
                  (subst (λ (y : SetState). IsWordOf far.nodes far.members y rows) (sym same) word))));
            };
          }),
    )

pub lend_row-row-requires-clause-there : goal.lend_row-row-requires-clause-there
lend_row-row-requires-clause-there g c =
    let far = c.args.far.now in let live = c.requires.live in let set = live.0 in
    let had = c.requires.sound in let shard = c.shard-shard.result in
    let same : c.unwrap-set.result.now ≡ set =
    found_set c.committed.result c.unwrap-set.result _ set c.committed.ensures c.unwrap-set.ensures
    (ap (λ (q : FarState). set_in q.sets c.args.id.n) c.far.view_is ∙ live.1) in
    let w = had.2.away.sound.sets.worded c.args.id.n set live.1 in
    subst (λ (q : FarState). has q.nodes shard.node shard.key ≡ true) (sym c.far.view_is)
    (row_is_there far.nodes far.members set c.args.position shard w.0 w.1.word
    (ap (λ (y : SetState). slice_get y.shards c.args.position) (sym same) ∙ c.shard-shard.ensures)
    (ap (λ (q : FarState). is_lost q.members shard) (sym c.far.view_is)
    ∙ sym c.is_lost.ensures ∙ c.if-is_lost.false))

pub bring_span-requires-else-is_lost-clause-row : goal.bring_span-requires-else-is_lost-clause-row
bring_span-requires-else-is_lost-clause-row g c =
    let far = c.args.far.now in let live = c.requires.live in let set = live.0 in
    let had = c.requires.sound in let shard = c.shard-shard.result in
    let same : c.unwrap-set.result.now ≡ set =
    found_set c.committed.result c.unwrap-set.result _ set c.committed.ensures c.unwrap-set.ensures
    (ap (λ (q : FarState). set_in q.sets c.args.id.n) c.far.view_is ∙ live.1) in
    let w = had.2.away.sound.sets.worded c.args.id.n set live.1 in
    ap length (c.lend_row-row.ensures.row
    ∙ ap (λ (q : FarState). known_row q.nodes shard.node shard.key) c.far.view_is)
    ∙ row_is_wide far.nodes far.members set c.args.position shard w.0 w.1.word
    (ap (λ (y : SetState). slice_get y.shards c.args.position) (sym same) ∙ c.shard-shard.ensures)
    (ap (λ (q : FarState). is_lost q.members shard) (sym c.far.view_is)
    ∙ sym c.is_lost.ensures ∙ c.if-is_lost.false) (live_within set c.args.position live.2)
    ∙ ap (λ (n : ℕ). 4096 * n) (sym (c.requires.span set live.1).pages)

pub bring_span-requires-else-is_lost-clause-waiting :
    goal.bring_span-requires-else-is_lost-clause-waiting
bring_span-requires-else-is_lost-clause-waiting g c =
    let far = c.args.far.now in let live = c.requires.live in let set = live.0 in
    let had = c.requires.sound in let s = had.0 in let shard = c.shard-shard.result in
    let sized = g.met.D.Desk.sized _ s had.1 in
    let x = c.requires.span set live.1 in
    let same : c.unwrap-set.result.now ≡ set =
    found_set c.committed.result c.unwrap-set.result _ set c.committed.ensures c.unwrap-set.ensures
    (ap (λ (q : FarState). set_in q.sets c.args.id.n) c.far.view_is ∙ live.1) in (
      s,
      had.1,
      waiting s far c.args.id.n c.args.position set c.args.frame c.args.span.now
          c.lend_row-row.result.now (record {
            sound = had.2;
            there = live.1;
            live = live.2;
            whole = live.3;
            least = c.requires.least;
            flags = sized.1 ∙ sym sized.0;
            fetched = record {
              valid = x.valid;
              hot = x.hot;
              pages = x.pages;
              slots = x.slots;
              row_of = λ rows word. c.lend_row-row.ensures.row
                  ∙ ap (λ (q : FarState). known_row q.nodes shard.node shard.key) c.far.view_is
                  ∙ row_of_word far.nodes far.members set c.args.position shard rows word
                  (ap (λ (y : SetState). slice_get y.shards c.args.position) (sym same)
                  ∙ c.shard-shard.ensures)
                  (ap (λ (q : FarState). is_lost q.members shard) (sym c.far.view_is)
                  ∙ sym c.is_lost.ensures ∙ c.if-is_lost.false);
            };
          }),
    )

pub returns-in_ok-rows-clause-row : goal.returns-in_ok-rows-clause-row
returns-in_ok-rows-clause-row g c = λ set there.
    let far = c.args.far.now in let x = c.requires.span set there in
    let same : c.unwrap-set.result.now ≡ set =
    found_set c.committed.result c.unwrap-set.result _ set c.committed.ensures c.unwrap-set.ensures
    (ap (λ (q : FarState). set_in q.sets c.args.id.n) c.far.view_is ∙ there) in record {
      row = c.row.result.now;
      fetched = record {
        valid = x.valid;
        hot = x.hot;
        pages = x.pages;
        slots = x.slots;
        row_of = λ rows word. c.row.ensures.value
            ∙ sym (ap (λ (l : List (List ℕ)). row_at l c.args.position)
            (c.in_ok-rows.ensures.rows rows
            (subst (λ (q : FarState). IsWordOf q.nodes q.members c.unwrap-set.result.now rows)
            (sym c.far.view_is)
            (subst (λ (y : SetState). IsWordOf far.nodes far.members y rows) (sym same) word))));
      };
      at_hand = tt;
      homes = subst (λ (l : List (Option Home)).
          AreCleared c.args.span.now.slots l c.bring_span.new.homes)
          (ap (λ (q : FarState). q.homes) c.far.view_is) c.bring_span.ensures.homes;
      state = given_at (the_view c.far.inside) far _ c.bring_span.new.homes c.solved.new.nodes
          c.unwrap-set.result.now set c.args.position c.far.view_is same
          (all_needed (the_view c.far.inside).nodes c.solved.new.nodes
          (the_view c.far.inside).members c.unwrap-set.result.now c.args.position
          c.shard-shard.result c.shard-shard.ensures (sym c.is_lost.ensures ∙ c.if-is_lost.true)
          c.in_ok-rows.ensures.nodes) refl;
      brought = c.bring_span.ensures.brought;
    }

pub returns-else-is_lost-clause-row : goal.returns-else-is_lost-clause-row
returns-else-is_lost-clause-row g c = λ set there.
    let far = c.args.far.now in let x = c.requires.span set there in
    let shard = c.shard-shard.result in
    let same : c.unwrap-set.result.now ≡ set =
    found_set c.committed.result c.unwrap-set.result _ set c.committed.ensures c.unwrap-set.ensures
    (ap (λ (q : FarState). set_in q.sets c.args.id.n) c.far.view_is ∙ there) in
    let kept = sym c.is_lost.ensures ∙ c.if-is_lost.false in record {
      row = c.lend_row-row.result.now;
      fetched = record {
        valid = x.valid;
        hot = x.hot;
        pages = x.pages;
        slots = x.slots;
        row_of = λ rows word. c.lend_row-row.ensures.row
            ∙ ap (λ (q : FarState). known_row q.nodes shard.node shard.key) c.far.view_is
            ∙ row_of_word far.nodes far.members set c.args.position shard rows word
            (ap (λ (y : SetState). slice_get y.shards c.args.position) (sym same)
            ∙ c.shard-shard.ensures)
            (ap (λ (q : FarState). is_lost q.members shard) (sym c.far.view_is) ∙ kept);
      };
      at_hand = tt;
      homes = subst (λ (l : List (Option Home)).
          AreCleared c.args.span.now.slots l c.bring_span-else-is_lost.new.homes)
          (ap (λ (q : FarState). q.homes) c.far.view_is) c.bring_span-else-is_lost.ensures.homes;
      state = given_at (the_view c.far.inside) far _ c.bring_span-else-is_lost.new.homes
          c.lend_row-row.follows.lender-at-none
          c.unwrap-set.result.now set c.args.position c.far.view_is same
          (one_needed (the_view c.far.inside).nodes c.lend_row-row.follows.lender-at-none
          (the_view c.far.inside).members c.unwrap-set.result.now c.args.position shard
          c.shard-shard.ensures kept c.lend_row-row.follows.holds-at-none) refl;
      brought = c.bring_span-else-is_lost.ensures.brought;
    }
