-- A worked example of a begin that leads from a world where all is known to one where nothing is: a
-- word of the object that leaves has 65 bits.
use Rattle.std.proofs.lemmas.Bool.{false≢true}
use Rattle.std.proofs.Common.{◌≡◌, ◌↔◌, ℕ, zero, suc, ◌+◌, ◌^◌, ◌<◌, ◌≤◌, Bool, true, false, List, [], ◌∷◌, get_or, All, None, Some, replicate, refl, sym, ap, ◌∙◌, subst, lit<, lit≤, arith, inl}
use Rattle.std.specs.FinMap as map
use Rattle.std.proofs.lemmas.Bool.{agree_below_at, ltb-true}
use Rattle.std.proofs.lemmas.List.Elements.{All-nil, All-cons}
use Rattle.std.proofs.Math.Dec.{ltb}
use Rattle.cb_class.specs.declared.class.Class.{Class}
use Rattle.cb_class.specs.Class.{IsClassOf, bytes_of, pages_of, slots_of, words_of}
use Rattle.cb_frame.specs.FreeFrames.{IsFreeFrame}
use Rattle.cb_member.specs.declared.names.Shard.{Shard}
use Rattle.cb_member.specs.Membership.{fresh_members}
use Rattle.cb_member.proofs.Laws.{fresh-IsMembership}
use Rattle.cb_node.specs.NodesState.{empty_nodes, row_under}
use Rattle.cb_ptr.specs.Steps.{Claims}
use Rattle.cb_ptr.specs.Word.{hot_of, len_of, place_of}
use Rattle.cb_ptr.proofs.Laws.{claims}
use Rattle.cb_set.specs.SetState.{SetState}
use Rattle.cb_span.specs.declared.temp.Temp.TheVariants.{Cold}
use Rattle.cb_span.specs.Contents.{Contents, IsSpan, handle_at, live_count, span_of}
use Rattle.cb_span.specs.Places.{slot_place}
use Rattle.cb_types.specs.declared.reply.Reply.TheVariants as answer
use Rattle.cb_world.specs.declared.homes.Home.{Home}
use Rattle.cb_world.specs.declared.leaving.Former.{Former}
use Rattle.cb_world.specs.declared.object.Object.{Object}
use Rattle.cb_world.specs.declared.object.Object.TheVariants as is
use Rattle.cb_world.specs.declared.shown.Shown.{Shown}
use Rattle.cb_world.specs.Choices.{room_count}
use Rattle.cb_world.specs.FarSound.{AreAway, AreShardRows, AreSets, Owner, of_set, of_leaving, of_joining, IsShardOf}
use Rattle.cb_world.specs.FarState.{FarState, handle_in, pages_at, span_in}
use Rattle.cb_world.specs.Homes.{home_at}
use Rattle.cb_world.specs.LocalSound.{AreFrames, AreKnown, ArePlaced, HasSlot, IsStamped, LiesAt, LiesOver, NamesObject}
use Rattle.cb_world.specs.Memory.{window, words_for}
use Rattle.cb_world.specs.Plain.{Words}
use Rattle.cb_world.specs.RowWords.{row_of}
use Rattle.cb_world.specs.Sets.{set_in}
use Rattle.cb_world.specs.SetWord.{IsSpanWord}
use Rattle.cb_world.specs.Shown.{Fits, object_at, version_at, never}
use Rattle.cb_world.specs.Sound.{Sound}
use Rattle.cb_world.specs.Survey.{no_survey}
use Rattle.cb_world.specs.Packed.{ArePacked, AreFreedLater}
use Rattle.cb_world.specs.StillDesk.{window_length}
use Rattle.cb_world.specs.World.{IsKnown, word_at}
use Rattle.cb_world.proofs.Laws.{some_same, room_empty, unsurveyed}
use Rattle.cb_evict.specs.Lengths.{batch_pages}
use Rattle.cb_evict.specs.BeginRule.{with_batch, new_batch}
use Rattle.cb_evict.specs.BeginStep.{AreSpansClaimed, IsBegunTo, IsBeginStep, begins}
use Rattle.cb_evict.specs.Looking.{IsIn}
use Rattle.cb_evict.proofs.Options.{none_some}
use Rattle.cb_evict.proofs.SmallWorlds.{is_word, row, zero_row}

-- ---- one object of 1,024 bytes, in the first slot of the one frame; its first word has 65 bits
abbrev largest : Class
largest = record { index = 11 }

abbrev span : Contents
span = span_of largest Cold (Some 0 ∷ None ∷ None ∷ None ∷ [])

abbrev memory : List ℕ
memory = 2 ^ 64 ∷ replicate 511 0

-- the object's word: here, of 1,024 bytes, at place 0
abbrev pub calm : ℕ
calm = 8388610

abbrev pub desk : ℕ → Words
desk word = record {
  settings = record { k = 1; r = 1; nodes = 2; frames = 1; room = 2; handles = 1; turns = 0 };
  words = word ∷ [];
  versions = 3 ∷ [];
  memory = memory;
}

abbrev pub known : Shown
known = record {
  first = 1;
  objects = is.Here 1024 0 ∷ [];
  hots = false ∷ [];
  versions = 3 ∷ [];
  memory = memory;
}

abbrev pub far : FarState
far = record {
  first = 1;
  made = 1;
  frames = false ∷ [];
  spans = Some span ∷ [];
  sets = map.empty;
  homes = None ∷ [];
  nodes = empty_nodes 2 2;
  members = fresh_members 2;
  code = record { k = 1; r = 1 };
  leaving = None;
  joining = None;
  counts = record { turns = 0; by_job = []; sets = 0; keys = 0 };
  survey = no_survey;
}

-- ---- all is known before
class_of_1024 : IsClassOf 1024 largest
unfolding bytes_of
class_of_1024 = record {
  in_table = lit< tt;
  holds = lit≤ tt;
  least = λ smaller less.
      let test : ℕ → Bool = λ (i : ℕ). ltb (bytes_of (record { index = i })) 1024 in
      ltb-true (bytes_of smaller) 1024
      (agree_below_at test (λ _. true) 11 smaller.index refl less);
}

first_slot : 0 ≡ slot_place largest 0 0
unfolding words_of bytes_of
first_slot = refl

are_known : AreKnown known far
are_known = record {
  first = refl;
  least = lit≤ tt;
  bounded = lit≤ tt;
  made = made;
  stamped = stamped;
  versioned = λ h below. let least : h ≡ 0 = omega (arith, below) in
      subst (λ (i : ℕ). 1 ≤ version_at known i) (sym least) (lit≤ tt);
}
  where
    made : (h : ℕ) → h < 1 → 1 ≤ h ↔ (object_at known h ≡ never)
    made zero below = (λ most. absurd (omega (arith, most)), λ e. absurd (cc))
    made (suc h) below = absurd (omega (arith, below))

    stamped : (h : ℕ) → IsStamped (object_at known h) (version_at known h)
    stamped zero = tt
    stamped (suc h) = refl

is_span : IsSpan span
unfolding slots_of pages_of bytes_of
is_span = record { in_table = lit< tt; sized = refl }

one_frame : pages_of largest ≡ 1
unfolding pages_of
one_frame = refl

are_frames : AreFrames far
are_frames = record {
  sized = refl;
  within = within;
  apart = apart;
  free = free;
  valid = valid;
  taken = taken;
}
  where
    within : (f : ℕ) (x : Contents) → span_in far.spans f ≡ Some x → f + pages_of x.class ≤ 1
    within zero x e = subst (λ (y : Contents). 0 + pages_of y.class ≤ 1) (some_same span x e)
        (omega (arith, one_frame))
    within (suc f) x e = absurd (none_some x e)

    apart : (f g : ℕ) (x y : Contents) → span_in far.spans f ≡ Some x
        → span_in far.spans g ≡ Some y → f < g → f + pages_of x.class ≤ g
    apart f zero x y d e less = absurd (omega (arith, less))
    apart f (suc g) x y d e less = absurd (none_some y e)

    free : (f : ℕ) → f < 1 → IsFreeFrame far.frames f ↔ ¬ ((g : ℕ) × LiesOver far.spans g f)
    free zero below = (
      (λ e. absurd (cc)),
      (λ none. absurd (none (
        0,
        record {
          span = span;
          there = refl;
          from = lit≤ tt;
          to = omega (arith, one_frame);
        },
      ))),
    )
    free (suc f) below = absurd (omega (arith, below))

    valid : (f : ℕ) (x : Contents) → span_in far.spans f ≡ Some x → IsSpan x
    valid zero x e = subst IsSpan (some_same span x e) is_span
    valid (suc f) x e = absurd (none_some x e)

    taken : (f : ℕ) (x : Contents) → span_in far.spans f ≡ Some x → 1 ≤ live_count x
    taken zero x e = subst (λ (y : Contents). 1 ≤ live_count y) (some_same span x e) (lit≤ tt)
    taken (suc f) x e = absurd (none_some x e)

are_placed : ArePlaced known far
are_placed = record { memory = refl; placed = placed; named = named }
  where
    placed : (h len place : ℕ) → LiesAt (object_at known h) len place
        → HasSlot far.spans h len place
    placed zero len place lies = record {
      frame = 0;
      slot = 0;
      span = span;
      there = refl;
      named = refl;
      at = lies.1 ∙ first_slot;
      fits = subst (λ (n : ℕ). IsClassOf n largest) (sym lies.0) class_of_1024;
    }
    placed (suc h) len place lies = absurd lies

    in_span : (slot h : ℕ) → handle_at span slot ≡ Some h → NamesObject known 0 slot h span
    in_span zero h e =
        subst (λ (k : ℕ). NamesObject known 0 0 k span) (some_same 0 h e)
        (record { len = 1024; lies = (refl, sym first_slot) })
    in_span (suc zero) h e = absurd (none_some h e)
    in_span (suc (suc zero)) h e = absurd (none_some h e)
    in_span (suc (suc (suc zero))) h e = absurd (none_some h e)
    in_span (suc (suc (suc (suc slot)))) h e = absurd (none_some h e)

    named : (f slot h : ℕ) (x : Contents) → span_in far.spans f ≡ Some x
        → handle_at x slot ≡ Some h → NamesObject known f slot h x
    named zero slot h x e =
        subst (λ (y : Contents). handle_at y slot ≡ Some h → NamesObject known 0 slot h y)
        (some_same span x e) (in_span slot h)
    named (suc f) slot h x e = absurd (none_some x e)

no_set : (id : ℕ) → set_in far.sets id ≡ None
no_set id = grind (arith, map.gets)

not_there : (id : ℕ) (set : SetState) → set_in far.sets id ≡ Some set → ⊥
not_there id set e = none_some set (sym (no_set id) ∙ e)

are_sets : AreSets known far
are_sets = record {
  shaped = λ id set e. absurd (not_there id set e);
  worded = λ id set e. absurd (not_there id set e);
  live = λ id p set e. absurd (not_there id set e);
  kept = λ id set e. absurd (not_there id set e);
  numbered = λ id set e. absurd (not_there id set e);
}

are_away : AreAway known far
are_away = record {
  away = λ h len v words e. absurd (not_far h len v words e);
  home = λ h home e. absurd (no_home h home e);
  named = λ id p slot h set e named. absurd (not_there id set e);
}
  where
    not_far : (h len v : ℕ) (words : List ℕ) → object_at known h ≡ is.Far len v words → ⊥
    not_far zero len v words e = cc
    not_far (suc h) len v words e = cc

    no_home : (h : ℕ) (home : Home) → home_at far.homes h ≡ Some home → ⊥
    no_home zero home e = none_some home e
    no_home (suc h) home e = none_some home e

are_rows : AreShardRows far
are_rows = record {
  members = fresh-IsMembership 2 (lit< tt);
  counted = refl;
  room = room_empty 2 2;
  owned = λ node key row e. absurd (none_some row (sym (no_row node.n key) ∙ e));
  one = λ o q a b x y same. absurd (nobody o a x);
  drawn = λ o a x. absurd (nobody o a x);
  current = λ o a x. absurd (nobody o a x);
}
  where
    no_row : (n key : ℕ) → row_under far.nodes (record { n = n }) key ≡ None
    no_row zero key = grind (arith, map.gets)
    no_row (suc zero) key = grind (arith, map.gets)
    no_row (suc (suc n)) key = grind (arith, map.gets)

    nobody : (o : Owner) (shard : Shard) → IsShardOf far o shard → ⊥
    nobody (of_set id p) shard (x, e, y) = not_there id x e
    nobody (of_leaving p) shard (x, e, y) = none_some x e
    nobody (of_joining p) shard (x, e, y) = none_some x e

sound : Sound known far
sound = record {
  here = record { known = are_known; frames = are_frames; placed = are_placed };
  noted = λ batch e. absurd (none_some batch e);
  claimed = λ h len place v words e. absurd (unclaimed h len place v words e);
  away = record {
    sound = record {
      sets = are_sets;
      away = are_away;
      rows = are_rows;
      batch = λ batch e. absurd (none_some batch e);
    };
    join = λ pair e. absurd (none_some pair e);
    survey = unsurveyed far;
  };
}
  where
    unclaimed : (h len place v : ℕ) (words : List ℕ)
        → object_at known h ≡ is.Claimed len place v words → ⊥
    unclaimed zero len place v words e = cc
    unclaimed (suc h) len place v words e = cc

pub all_known : IsKnown (desk calm) far known
all_known = record {
  sized = record { words = refl; versions = refl; memory = refl };
  shows = record {
    objects = refl;
    versions = refl;
    hots = refl;
    hot = λ h below e. absurd (never_hot h e);
    memory = refl;
    fit = fit;
  };
  hots = hots;
  sound = sound;
  packed = packed;
  freed = freed;
}
  where
    -- the object fills its words, so no byte lies behind it
    packed : ArePacked (desk calm) known
    packed zero below = λ here p past inside.
        let n = window_length known.memory 0 128 in absurd (omega (arith, past, inside, n))
    packed (suc h) below = absurd (omega (arith, below))

    freed : AreFreedLater known
    freed zero = tt
    freed (suc h) = tt

    false_true : false ≡ true → ⊥
    false_true e = cc

    never_hot : (h : ℕ) → get_or (false ∷ []) h false ≡ true → ⊥
    never_hot zero e = false_true e
    never_hot (suc h) e = false_true e

    fit : (h : ℕ) → h < 1 → Fits (object_at known h) (word_at (desk calm) h)
    fit zero below = (lit< tt, refl, refl, inl refl)
    fit (suc h) below = absurd (omega (arith, below))

    hots : (h : ℕ) → h < 1 → get_or (false ∷ []) h false ≡ hot_of (word_at (desk calm) h)
    hots zero below = refl
    hots (suc h) below = absurd (omega (arith, below))

-- ---- the begin
abbrev former : Former
former = record { handle = 0; word = calm }

abbrev pub after : FarState
after = with_batch far 1 (0 ∷ []) (former ∷ []) true (row ∷ [])

-- the frame's bytes are zeros
zeros : row_of (window memory 0 512) ≡ row_of (window [] 0 512)
unfolding window
zeros = refl

first_object : IsIn far.spans (0 ∷ []) 0
first_object = (0, (0, lit< tt, refl), (0, refl))

only_object : (h : ℕ) → IsIn far.spans (0 ∷ []) h → 0 ≡ h
only_object h (f, (zero, l, e), (slot, named)) =
    go slot (ap (λ (n : ℕ). handle_in (span_in far.spans n) slot) e ∙ named)
  where
    go : (slot : ℕ) → handle_at span slot ≡ Some h → 0 ≡ h
    go zero e = some_same 0 h e
    go (suc zero) e = absurd (none_some h e)
    go (suc (suc zero)) e = absurd (none_some h e)
    go (suc (suc (suc zero))) e = absurd (none_some h e)
    go (suc (suc (suc (suc n)))) e = absurd (none_some h e)
only_object h (f, (suc k, l, e), named) = absurd (omega (arith, l))

held : AreSpansClaimed (desk calm) (desk (calm + 1)) far (0 ∷ [])
held = record {
  changed = λ h i. subst (λ (k : ℕ). Claims (word_at (desk calm) k) (word_at (desk (calm + 1)) k))
      (only_object h i) (claims calm refl refl);
  others = other;
  count = refl;
  settings = refl;
  versions = refl;
  memory = refl;
}
  where
    other : (h : ℕ) → ¬ (IsIn far.spans (0 ∷ []) h)
        → word_at (desk (calm + 1)) h ≡ word_at (desk calm) h
    other zero out = absurd (out first_object)
    other (suc h) out = refl

begun : IsBegunTo (desk calm) (desk (calm + 1)) far after true (0 ∷ [])
begun = record {
  pages = 1;
  long = All-cons (λ (f : ℕ). pages_at far.spans f ≡ 1) 0 [] one_frame
      (All-nil (λ (f : ℕ). pages_at far.spans f ≡ 1));
  words = former ∷ [];
  parities = row ∷ [];
  of = record {
    all = λ h i. (former, (0, lit< tt, refl), only_object h i);
    only = All-cons (λ (f : Former). IsIn far.spans (0 ∷ []) f.handle) former [] first_object
        (All-nil (λ (f : Former). IsIn far.spans (0 ∷ []) f.handle));
  };
  order = refl;
  each_once = λ i j d less within. absurd (omega (arith, less, within));
  noted = All-cons (λ (f : Former). f.word ≡ word_at (desk calm) f.handle) former [] refl
      (All-nil (λ (f : Former). f.word ≡ word_at (desk calm) f.handle));
  count = refl;
  word = λ same. subst (λ (r : List ℕ). IsSpanWord 1 1 1 (r ∷ row ∷ [])) (sym (zeros ∙ zero_row))
      is_word;
  bare = λ other. absurd (false≢true (sym other));
  state = refl;
  held = held;
}

two_nodes : room_count far.nodes far.members ≡ 2
two_nodes = grind (arith, map.gets)

pub step : IsBeginStep (desk calm) (desk (calm + 1)) far after (answer.Batch (record { n = 0 }))
unfolding pages_of batch_pages
step = begins (record {
  none = refl;
  pages = 1;
  longest = refl;
  room = omega (arith, two_nodes);
  reply = refl;
  begun = begun;
  given = tt;
})

-- ---- nothing is known after it: a noted object has words of 64 bits
first_word : (ws : List ℕ) → ws ≡ window memory 0 128 → All (λ w. w < 2 ^ 64) ws → ⊥
unfolding window
first_word ws e small = let l = subst (λ (l : List ℕ). All (λ w. w < 2 ^ 64) l) e small 0 0 (lit< tt) in
    omega (arith, l)

pub none_known : (t : Shown) → IsKnown (desk (calm + 1)) after t → ⊥
none_known t k =
    let noted = (k.sound.noted (new_batch far 1 (0 ∷ []) (former ∷ []) true (row ∷ []))
    refl).each 0 0 0 span (0, lit< tt, refl) refl refl in
    let leaves = k.sound.claimed 0 (len_of noted.former.word) (place_of noted.former.word)
    noted.version noted.words noted.claimed in
    let fit = subst (λ (o : Object). Fits o (calm + 1)) noted.claimed (k.shows.fit 0 (lit< tt)) in
    let len : 1024 ≡ len_of noted.former.word = fit.1 in
    let place : 0 ≡ place_of noted.former.word = fit.2 in
    first_word noted.words (leaves.contents
    ∙ ap (λ (p : ℕ). window t.memory p (words_for (len_of noted.former.word))) (sym place)
    ∙ ap (λ (n : ℕ). window t.memory 0 (words_for n)) (sym len)
    ∙ ap (λ (m : List ℕ). window m 0 128) k.shows.memory) noted.small
