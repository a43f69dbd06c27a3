-- Worked examples of a swap-in as a step of the still desk: what meets each definition, and what
-- breaks one of its parts alone.
use Rattle.std.proofs.Common.{◌≡◌, ◌≢◌, ℕ, zero, suc, Bool, true, false, ◌+◌, ◌/◌, ◌≤◌, List, [], ◌∷◌, None, Some, length, get_or, refl, sym, ap, ◌∙◌, subst, arith, inl, inr}
use Rattle.std.specs.FinMap as map
use Rattle.std.proofs.lemmas.Option.{none-some, same_Some}
use Rattle.cb_class.specs.Class.{bytes_of, pages_of, slots_of, words_of}
use Rattle.cb_gf256.specs.Rows.{row_at}
use Rattle.cb_node.specs.NodesState.{NodesState, row_under}
use Rattle.cb_ptr.specs.declared.word.State.TheVariants as pointer
use Rattle.cb_ptr.specs.Word.{state_of, hot_of, len_of, place_of, pins_of}
use Rattle.cb_set.specs.SetState.{SetState}
use Rattle.cb_span.specs.Places.{slot_place}
use Rattle.cb_types.specs.declared.config.Config.{Config}
use Rattle.cb_types.specs.declared.reply.Reply.{Reply}
use Rattle.cb_types.specs.declared.reply.Reply.TheVariants as answer
use Rattle.cb_world.specs.Fetched.{rows_needed, with_rows_given}
use Rattle.cb_world.specs.FarState.{FarState}
use Rattle.cb_world.specs.Memory.{put}
use Rattle.cb_world.specs.Plain.{Words}
use Rattle.cb_world.specs.RowWords.{words_in}
use Rattle.cb_world.specs.Sets.{set_in}
use Rattle.cb_world.specs.SetWord.{IsWordOf}
use Rattle.cb_world.specs.World.{word_at}
use Rattle.cb_world.proofs.Laws.{length_words, length_put, put_at-windows as put_at, put_else, at, row, rows}
use Rattle.cb_swapin.specs.Named.{IsNamed}
use Rattle.cb_swapin.specs.Fetching.{far_given}
use Rattle.cb_swapin.specs.SwapRule.{IsSwappedTo, swap_answer}
use Rattle.cb_swapin.specs.SwapStep.{AreBroughtTo, IsSwapped, IsSwapStep, brought_word}
use Rattle.cb_swapin.proofs.WorkedWord.{is_word, nodes, one_row}
use Rattle.cb_swapin.proofs.WorkedSwap.{members, first, on, refused, class, set, old, new, swapped, the_one}

-- ---- words: of an object of two bytes that is far, of one that came to place 640, and of one that
-- is here and hot with a pin
abbrev away : ℕ
away = 16385

abbrev came : ℕ
came = 343597400066

abbrev pinned : ℕ
pinned = 16398

it_came : brought_word 2 640 ≡ came
it_came = refl

is_here : state_of came ≡ pointer.Here
is_here = refl

is_cold : hot_of came ≡ false
is_cold = refl

has_no_pins : pins_of came ≡ 0
has_no_pins = refl

has_its_length : len_of came ≡ 2
has_its_length = refl

has_its_place : place_of came ≡ 640
has_its_place = refl

-- ---- objects 0 and 1 are far, and slot 1 of the position names object 0: it comes into frame 1,
-- of slots of 128 words
abbrev desk : Config → List ℕ → List ℕ → List ℕ → Words
desk c words versions memory =
    record { settings = c; words = words; versions = versions; memory = memory }

abbrev before : Config → List ℕ → Words
before c memory = desk c (away ∷ away ∷ pinned ∷ []) (1 ∷ 4 ∷ 2 ∷ []) memory

abbrev afterwards : Config → List ℕ → Words
afterwards c memory = desk c (came ∷ away ∷ pinned ∷ []) (1 ∷ 4 ∷ 2 ∷ []) memory

brought : (c : Config) (memory row : List ℕ)
    → AreBroughtTo (before c memory) (afterwards c (put memory 512 (words_in row))) first.slots class
    1 row
unfolding words_of bytes_of
brought c memory row = record {
  settings = refl;
  versions = refl;
  memory = refl;
  count = refl;
  here = λ slot h e. let z = the_one slot h e in
      ap (λ (i : ℕ). word_at (afterwards c memory) i) z.1
      ∙ sym (λ i. brought_word (len_of (word_at (before c memory) (z.1 i)))
      (slot_place class 1 (z.0 i)));
  others = others;
}
  where
    others : (h : ℕ) → (IsNamed first.slots h → ⊥)
        → word_at (afterwards c memory) h ≡ word_at (before c memory) h
    others zero off = absurd (off (1, refl))
    others (suc zero) off = refl
    others (suc (suc zero)) off = refl
    others (suc (suc (suc h))) off = refl

-- the words and versions are not those after it
abbrev Refuted : Config → List ℕ → List ℕ → Type 0
Refuted c words versions = AreBroughtTo (before c [])
    (desk c words versions (put [] 512 (words_in []))) first.slots class 1 []
    → ⊥

not_named : (h : ℕ) → h ≢ 0 → IsNamed first.slots h → ⊥
not_named h some n = some (the_one n.0 h n.1).1

-- what the first word has to be
first_is : (c : Config) (w : ℕ)
    → AreBroughtTo (before c [])
    (desk c (w ∷ away ∷ pinned ∷ []) (1 ∷ 4 ∷ 2 ∷ []) (put [] 512 (words_in []))) first.slots class 1
    []
    → w ≡ came
unfolding words_of bytes_of
first_is c w x = x.here 1 0 refl

brings_it_hot : (c : Config) → Refuted c ((came + 4) ∷ away ∷ pinned ∷ []) (1 ∷ 4 ∷ 2 ∷ [])
brings_it_hot c x = let e = first_is c (came + 4) x in omega (arith, e)

brings_it_with_a_pin : (c : Config) → Refuted c ((came + 8) ∷ away ∷ pinned ∷ []) (1 ∷ 4 ∷ 2 ∷ [])
brings_it_with_a_pin c x = let e = first_is c (came + 8) x in omega (arith, e)

brings_it_moving : (c : Config) → Refuted c ((came + 1) ∷ away ∷ pinned ∷ []) (1 ∷ 4 ∷ 2 ∷ [])
brings_it_moving c x = let e = first_is c (came + 1) x in omega (arith, e)

brings_it_longer : (c : Config) → Refuted c ((came + 8192) ∷ away ∷ pinned ∷ []) (1 ∷ 4 ∷ 2 ∷ [])
brings_it_longer c x = let e = first_is c (came + 8192) x in omega (arith, e)

brings_it_to_the_word_behind : (c : Config)
    → Refuted c ((came + 536870912) ∷ away ∷ pinned ∷ []) (1 ∷ 4 ∷ 2 ∷ [])
brings_it_to_the_word_behind c x = let e = first_is c (came + 536870912) x in omega (arith, e)

leaves_it_far : (c : Config) → Refuted c (away ∷ away ∷ pinned ∷ []) (1 ∷ 4 ∷ 2 ∷ [])
leaves_it_far c x = let e = first_is c away x in omega (arith, e)

brings_another : (c : Config) → Refuted c (came ∷ came ∷ pinned ∷ []) (1 ∷ 4 ∷ 2 ∷ [])
brings_another c x = let e : came ≡ away =
    x.others 1 (not_named 1 (λ n. omega (arith, n))) in omega (arith, e)

unpins_another : (c : Config) → Refuted c (came ∷ away ∷ 16390 ∷ []) (1 ∷ 4 ∷ 2 ∷ [])
unpins_another c x = let e : 16390 ≡ pinned =
    x.others 2 (not_named 2 (λ n. omega (arith, n))) in omega (arith, e)

stamps_it : (c : Config) → Refuted c (came ∷ away ∷ pinned ∷ []) (2 ∷ 4 ∷ 2 ∷ [])
stamps_it c x = let e : 2 ≡ 1 = ap (λ (l : List ℕ). get_or l 0 0) x.versions in omega (arith, e)

loses_a_handle : (c : Config) → Refuted c (came ∷ away ∷ []) (1 ∷ 4 ∷ 2 ∷ [])
loses_a_handle c x = let e : 2 ≡ 3 = x.count in omega (arith, e)

gains_a_handle : (c : Config) → Refuted c (came ∷ away ∷ pinned ∷ 0 ∷ []) (1 ∷ 4 ∷ 2 ∷ [])
gains_a_handle c x = let e : 4 ≡ 3 = x.count in omega (arith, e)

shortens_the_memory : (c : Config) (row : List ℕ)
    → AreBroughtTo (before c (7 ∷ [])) (afterwards c []) first.slots class 1 row → ⊥
shortens_the_memory c row x = let e : 0 ≡ 1 = ap (λ (l : List ℕ). length l) x.memory
    ∙ length_put (7 ∷ []) 512 (words_in row) in omega (arith, e)

changes_a_word_behind : (c : Config) (m n row : List ℕ) → length row ≡ 4096
    → get_or n 1024 0 ≢ get_or m 1024 0
    → AreBroughtTo (before c m) (afterwards c n) first.slots class 1 row → ⊥
changes_a_word_behind c m n row long other x = other (ap (λ (l : List ℕ). get_or l 1024 0) x.memory
    ∙ put_else m 512 (words_in row) 1024
    (inr (let w = length_words (length row / 8) row in omega (arith, w, long))))

changes_a_word_before : (c : Config) (m n row : List ℕ) → get_or n 511 0 ≢ get_or m 511 0
    → AreBroughtTo (before c m) (afterwards c n) first.slots class 1 row → ⊥
changes_a_word_before c m n row other x = other (ap (λ (l : List ℕ). get_or l 511 0) x.memory
    ∙ put_else m 512 (words_in row) 511 (inl (omega arith)))

has_another_row : (c : Config) (m n row : List ℕ) → 1024 ≤ length m → length row ≡ 4096
    → get_or n 512 0 ≢ get_or (words_in row) 0 0
    → AreBroughtTo (before c m) (afterwards c n) first.slots class 1 row → ⊥
has_another_row c m n row room long other x =
    let w = length_words (length row / 8) row in
    other (ap (λ (l : List ℕ). get_or l 512 0) x.memory
    ∙ put_at m 512 (words_in row) 0 (omega (arith, w, long)) (omega (arith, w, long, room)))

has_more_frames : (c : Config) (m n row : List ℕ)
    → AreBroughtTo (before c m) (afterwards (record c { frames = c.frames + 1 }) n) first.slots class
    1 row → ⊥
has_more_frames c m n row x = let e : c.frames + 1 ≡ c.frames =
    ap (λ (q : Config). q.frames) x.settings in omega (arith, e)

-- ---- position 0 of the set comes into frame 1, whatever rows stand at the nodes
abbrev old_at : NodesState → FarState
old_at nodes = record old { nodes = nodes }

abbrev new_at : NodesState → FarState
new_at nodes = record new { nodes = with_rows_given nodes 1 }

swapped_at : (nodes : NodesState) → IsSwappedTo (old_at nodes) (new_at nodes) 5 0 set 1 1
unfolding slots_of pages_of bytes_of
swapped_at nodes = record {
  class = class;
  in_table = omega arith;
  paged = refl;
  sized = refl;
  frames = refl;
  spans = refl;
  homes = swapped.homes;
  sets = refl;
  nodes = refl;
  rest = refl;
}

there : set_in old.sets 5 ≡ Some set
there = grind (arith, map.gets)

is_swapped : (c : Config) (memory : List ℕ) → IsSwapped (before c memory)
    (afterwards c (put memory 512 (words_in (row 7)))) (old_at nodes) (new_at nodes) 5 0 set 1 1
unfolding swapped_at
is_swapped c memory = record {
  state = swapped_at nodes;
  rows = rows;
  word = is_word;
  one_row = one_row;
  words = brought c memory (row 7);
}

swaps_in : (c : Config) (memory : List ℕ) → IsSwapStep (before c memory)
    (afterwards c (put memory 512 (words_in (row 7)))) (old_at nodes) (new_at nodes) 5 0
    (answer.Swapped 1)
swaps_in c memory = record {
  set = set;
  there = there;
  reply = refl;
  change = is_swapped c memory;
}

-- another row stands in the frame than that of the set's word
has_another_rows_words : (c : Config) (m n : List ℕ) → 1024 ≤ length m
    → get_or n 512 0 ≢ get_or (words_in (row 7)) 0 0
    → IsSwapped (before c m) (afterwards c n) (old_at nodes) (new_at nodes) 5 0 set 1 1 → ⊥
has_another_rows_words c m n room other z =
    let found = row_at z.rows 0 in
    let w = length_words (length found / 8) found in
    let long : length found ≡ 4096 = z.word.code.wide in
    other (ap (λ (l : List ℕ). get_or l 512 0) z.words.memory
    ∙ put_at m 512 (words_in found) 0 (omega (arith, w, long)) (omega (arith, w, long, room))
    ∙ ap (λ (l : List ℕ). get_or (words_in l) 0 0) (sym (z.one_row rows is_word)))

-- the objects are here, and the far state is as it was
leaves_the_far_state : (x y : Words) (nodes : NodesState) (n : ℕ)
    → IsSwapped x y (old_at nodes) (old_at nodes) 5 0 set 1 n → ⊥
leaves_the_far_state x y nodes n z =
    true_false (ap (λ (l : List Bool). get_or l 1 false) z.state.frames)
  where
    true_false : true ≡ false → ⊥
    true_false e = cc

-- the far state has the span, and the object is far as before
leaves_the_words : (c : Config) (memory : List ℕ) (far new : FarState)
    → IsSwapped (before c memory) (before c memory) far new 5 0 set 1 1 → ⊥
leaves_the_words c memory far new z = here_or_far (len_of away) _ (z.words.here 1 0 refl)
  where
    here_or_far : (len place : ℕ) → away ≡ brought_word len place → ⊥
    here_or_far len place e = omega (arith, e)

-- no row of the set stands at its nodes
has_no_word : (x y : Words) → IsSwapped x y old new 5 0 set 1 1 → ⊥
has_no_word x y z = none-some (row_at z.rows 0) (sym none ∙ z.word.survive 0 (at 0 7) refl refl)
  where
    none : row_under old.nodes (at 0 7).node 7 ≡ None
    none = grind (arith, map.gets)

-- two words of the set differ in the row
has_two_rows : (x y : Words) (held : NodesState) (one other : List (List ℕ))
    → IsWordOf held members set one → IsWordOf held members set other
    → row_at one 0 ≢ row_at other 0
    → IsSwapped x y (old_at held) (new_at held) 5 0 set 1 1 → ⊥
has_two_rows x y held one other a b differ z =
    differ (z.one_row one a ∙ sym (z.one_row other b))

-- ---- a step: the set is there, the reply is the one, and the change is that of the reply
of_no_set : (x y : Words) (far : FarState) (r : Reply) → IsSwapStep x y old far 6 0 r → ⊥
of_no_set x y far r z = none-some z.set (sym none ∙ z.there)
  where
    none : set_in old.sets 6 ≡ None
    none = grind (arith, map.gets)

abbrev frame_in : Reply → ℕ
frame_in (answer.Swapped f) = f
frame_in r = 0

into_another_frame : (x y : Words) (far : FarState) → IsSwapStep x y old far 5 0 (answer.Swapped 2)
    → ⊥
into_another_frame x y far z = by z.set (same_Some set z.set (sym there ∙ z.there)) z.reply
  where
    by : (s : SetState) → set ≡ s → answer.Swapped 2 ≡ swap_answer old 5 s → ⊥
    by s e reply = let n : 2 ≡ 1 =
        ap frame_in (reply ∙ ap (swap_answer old 5) (sym e)) in omega (arith, n)

into_the_frame_without_change : (x : Words) → IsSwapStep x x old old 5 0 (answer.Swapped 1) → ⊥
into_the_frame_without_change x z = by z.set (same_Some set z.set (sym there ∙ z.there)) z.change
  where
    by : (s : SetState) → set ≡ s → IsSwapped x x old old 5 0 s 1 (rows_needed members s 0) → ⊥
    by s e change = leaves_the_far_state x x old.nodes (rows_needed members set 0)
        (subst (λ (q : SetState). IsSwapped x x old old 5 0 q 1 (rows_needed members q 0)) (sym e)
        change)

-- ---- a refusal, where no frame is free
refuses : (x : Words) → IsSwapStep x x refused refused 5 0 answer.NoFrame
refuses x = record {
  set = on 1 0 3;
  there = grind (arith, map.gets);
  reply = refl;
  change = (refl, refl);
}

refuses_and_brings_it : (c : Config) (memory : List ℕ)
    → IsSwapStep (before c memory) (afterwards c memory) refused refused 5 0 answer.NoFrame → ⊥
refuses_and_brings_it c memory z =
    let e : came ≡ away = ap (λ (q : Words). word_at q 0) z.change.0 in omega (arith, e)

refuses_and_gives_a_row : (x : Words)
    → IsSwapStep x x refused (far_given refused 1) 5 0 answer.NoFrame → ⊥
refuses_and_gives_a_row x z =
    let e : 1 ≡ 0 = ap (λ (q : FarState). q.nodes.given) z.change.1 in omega (arith, e)
