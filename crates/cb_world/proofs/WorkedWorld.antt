-- Worked examples of the local part of the sound world: a world that meets it, and for each fact
-- one that breaks it.
use Rattle.std.proofs.Common.{◌≡◌, ◌↔◌, ℕ, zero, suc, ◌+◌, ◌-◌, ◌<◌, ◌≤◌, Bool, true, false, List, [], ◌∷◌, Option, None, Some, Contains, replicate, length, get_or, refl, ap, subst, sym, ◌∙◌, lit<, lit≤, arith}
use Rattle.std.proofs.lemmas.Bool.{agree_below_at, ltb-true}
use Rattle.std.proofs.Math.Dec.{ltb}
use Rattle.std.specs.FinMap as map
use Rattle.cb_class.specs.declared.class.Class.{Class}
use Rattle.cb_class.specs.Class.{IsClassOf, bytes_of, pages_of, sizes, slots_of, words_of}
use Rattle.cb_frame.specs.FreeFrames.{IsFreeFrame}
use Rattle.cb_member.specs.Membership.{fresh_members}
use Rattle.cb_node.specs.NodesState.{empty_nodes}
use Rattle.cb_types.specs.Config.{most_bytes}
use Rattle.cb_span.specs.declared.temp.Temp.TheVariants.{Cold}
use Rattle.cb_span.specs.Contents.{Contents, IsSpan, handle_at, live_count, span_of}
use Rattle.cb_span.specs.Places.{slot_place}
use Rattle.cb_world.specs.declared.object.Object.TheVariants as is
use Rattle.cb_world.specs.declared.shown.Shown.{Shown}
use Rattle.cb_world.specs.Shown.{object_at, version_at, never}
use Rattle.cb_world.specs.FarState.{FarState, span_in}
use Rattle.cb_world.specs.LocalSound.{LocalSound, AreKnown, AreFrames, ArePlaced, HasSlot, LiesOver, NamesObject, LiesAt, IsStamped}
use Rattle.cb_world.specs.Memory.{window}
use Rattle.cb_world.specs.Leaving.{LeavingState}
use Rattle.cb_world.specs.Placed.{leaving_frames}
use Rattle.cb_world.specs.Sound.{IsLeaving}
use Rattle.cb_world.specs.Survey.{no_survey}
use Rattle.cb_world.proofs.Apart.{some_same}

-- slots of 1,024 bytes, four a span
abbrev pub largest : Class
largest = record { index = 11 }

abbrev slots_with : Option ℕ → Option ℕ → List (Option ℕ)
slots_with first second = first ∷ second ∷ None ∷ None ∷ []

-- object 0 lies in slot 1
abbrev pub span : Contents
span = span_of largest Cold (slots_with None (Some 0))

-- object 0 is in local memory, object 1 was freed at version 2, and object 2 was never made
abbrev pub known : Shown
known = record {
  first = 1;
  objects = is.Here 1024 128 ∷ is.Empty 2 ∷ is.Empty 0 ∷ [];
  hots = false ∷ false ∷ false ∷ [];
  versions = 1 ∷ 2 ∷ 0 ∷ [];
  memory = replicate 1024 0;
}

-- two frames, of which the first has the span
abbrev pub far : FarState
far = record {
  first = 1;
  made = 2;
  frames = false ∷ true ∷ [];
  spans = Some span ∷ None ∷ [];
  sets = map.empty;
  homes = None ∷ None ∷ None ∷ [];
  nodes = empty_nodes 1 1;
  members = fresh_members 1;
  code = record { k = 1; r = 1 };
  leaving = None;
  joining = None;
  counts = record { turns = 0; by_job = []; sets = 0; keys = 0 };
  survey = no_survey;
}

class_of_1024 : IsClassOf 1024 largest
unfolding bytes_of
class_of_1024 = record {
  in_table = lit< tt;
  holds = lit≤ tt;
  least = λ smaller less.
      let test : ℕ → Bool = λ (i : ℕ). ltb (bytes_of (record { index = i })) 1024 in
      ltb-true (bytes_of smaller) 1024
      (agree_below_at test (λ _. true) 11 smaller.index refl less);
}

second_slot : 128 ≡ slot_place largest 0 1
unfolding words_of bytes_of
second_slot = refl

-- an object of the most bytes that one may have fills a slot of the last class
most_fills : most_bytes ≡ bytes_of (record { index = length sizes - 1 })
unfolding bytes_of
most_fills = refl

are_known : AreKnown known far
are_known = record {
  first = refl;
  least = lit≤ tt;
  bounded = lit≤ tt;
  made = made;
  stamped = stamped;
  versioned = versioned;
}
  where
    made : (h : ℕ) → h < 3 → 2 ≤ h ↔ (object_at known h ≡ never)
    made zero below = (λ most. absurd (omega (arith, most)), λ e. absurd (cc))
    made (suc zero) below = (λ most. absurd (omega (arith, most)), λ e. absurd (cc))
    made (suc (suc zero)) below = (λ most. refl, λ e. lit≤ tt)
    made (suc (suc (suc h))) below = absurd (omega (arith, below))

    stamped : (h : ℕ) → IsStamped (object_at known h) (version_at known h)
    stamped zero = tt
    stamped (suc zero) = refl
    stamped (suc (suc zero)) = refl
    stamped (suc (suc (suc h))) = refl

    versioned : (h : ℕ) → h < 2 → 1 ≤ version_at known h
    versioned zero below = lit≤ tt
    versioned (suc zero) below = lit≤ tt
    versioned (suc (suc h)) below = absurd (omega (arith, below))

is_span : IsSpan span
unfolding slots_of pages_of bytes_of
is_span = record { in_table = lit< tt; sized = refl }

-- a span of this class has one frame
pub one_frame : pages_of largest ≡ 1
unfolding pages_of
one_frame = refl

are_frames : AreFrames far
are_frames = record {
  sized = refl;
  within = within;
  apart = apart;
  free = free;
  valid = valid;
  taken = taken;
}
  where
    within : (f : ℕ) (x : Contents) → span_in far.spans f ≡ Some x → f + pages_of x.class ≤ 2
    within zero x e = subst (λ (y : Contents). 0 + pages_of y.class ≤ 2) (some_same span x e)
        (omega (arith, one_frame))
    within (suc zero) x e = absurd (cc)
    within (suc (suc f)) x e = absurd (cc)

    apart : (f g : ℕ) (x y : Contents) → span_in far.spans f ≡ Some x
        → span_in far.spans g ≡ Some y → f < g → f + pages_of x.class ≤ g
    apart f zero x y d e less = absurd (omega (arith, less))
    apart f (suc zero) x y d e less = absurd (cc)
    apart f (suc (suc g)) x y d e less = absurd (cc)

    over_none : (g : ℕ) → LiesOver far.spans g 1 → ⊥
    over_none zero over =
        let one : pages_of over.span.class ≡ 1 =
        ap (λ (y : Contents). pages_of y.class) (sym (some_same span over.span over.there))
        ∙ one_frame in
        let end = over.to in omega (arith, end, one)
    over_none (suc zero) over = absurd (let e = over.there in cc)
    over_none (suc (suc g)) over = absurd (let e = over.there in cc)

    free : (f : ℕ) → f < 2 → IsFreeFrame far.frames f ↔ ¬ ((g : ℕ) × LiesOver far.spans g f)
    free zero below = (
      (λ e. absurd (cc)),
      (λ none. absurd (none (
        0,
        record {
          span = span;
          there = refl;
          from = lit≤ tt;
          to = omega (arith, one_frame);
        },
      ))),
    )
    free (suc zero) below = ((λ e over. over_none over.0 over.1), (λ none. refl))
    free (suc (suc f)) below = absurd (omega (arith, below))

    valid : (f : ℕ) (x : Contents) → span_in far.spans f ≡ Some x → IsSpan x
    valid zero x e = subst IsSpan (some_same span x e) is_span
    valid (suc zero) x e = absurd (cc)
    valid (suc (suc f)) x e = absurd (cc)

    taken : (f : ℕ) (x : Contents) → span_in far.spans f ≡ Some x → 1 ≤ live_count x
    taken zero x e = subst (λ (y : Contents). 1 ≤ live_count y) (some_same span x e) (lit≤ tt)
    taken (suc zero) x e = absurd (cc)
    taken (suc (suc f)) x e = absurd (cc)

are_placed : ArePlaced known far
are_placed = record { memory = refl; placed = placed; named = named }
  where
    placed : (h len place : ℕ) → LiesAt (object_at known h) len place
        → HasSlot far.spans h len place
    placed zero len place lies = record {
      frame = 0;
      slot = 1;
      span = span;
      there = refl;
      named = refl;
      at = lies.1 ∙ second_slot;
      fits = subst (λ (n : ℕ). IsClassOf n largest) (sym lies.0) class_of_1024;
    }
    placed (suc zero) len place lies = absurd lies
    placed (suc (suc zero)) len place lies = absurd lies
    placed (suc (suc (suc h))) len place lies = absurd lies

    in_span : (slot h : ℕ) → handle_at span slot ≡ Some h → NamesObject known 0 slot h span
    in_span zero h e = absurd (cc)
    in_span (suc zero) h e =
        subst (λ (k : ℕ). NamesObject known 0 1 k span) (some_same 0 h e)
        (record { len = 1024; lies = (refl, sym second_slot) })
    in_span (suc (suc zero)) h e = absurd (cc)
    in_span (suc (suc (suc zero))) h e = absurd (cc)
    in_span (suc (suc (suc (suc slot)))) h e = absurd (cc)

    named : (f slot h : ℕ) (x : Contents) → span_in far.spans f ≡ Some x
        → handle_at x slot ≡ Some h → NamesObject known f slot h x
    named zero slot h x e =
        subst (λ (y : Contents). handle_at y slot ≡ Some h → NamesObject known 0 slot h y)
        (some_same span x e) (in_span slot h)
    named (suc zero) slot h x e = absurd (cc)
    named (suc (suc f)) slot h x e = absurd (cc)

sound_here : LocalSound known far
sound_here = record { known = are_known; frames = are_frames; placed = are_placed }

-- the version of the next make is another one
another_first : ¬ (AreKnown (record known { first = 2 }) far)
another_first x = absurd (let z : 2 ≡ 1 = x.first in omega (arith, z))

first_of_zero : ¬ (AreKnown (record known { first = 0 }) (record far { first = 0 }))
first_of_zero x = absurd (let z : 1 ≤ 0 = x.least in omega (arith, z))

here_at_zero : ¬ (AreKnown (record known { versions = 0 ∷ 2 ∷ 0 ∷ [] }) far)
here_at_zero x = absurd (let z : 1 ≤ 0 = x.versioned 0 (lit< tt) in omega (arith, z))

-- more handles were made than there are
more_than_there_are : ¬ (AreKnown known (record far { made = 4 }))
more_than_there_are x = absurd (let z : 4 ≤ 3 = x.bounded in omega (arith, z))

-- a handle that counts as made is never, and one that does not was freed
made_but_never : ¬ (AreKnown known (record far { made = 3 }))
made_but_never x = absurd (let z = (x.made 2 (lit< tt)).1 refl in omega (arith, z))

unmade_but_freed : ¬ (AreKnown known (record far { made = 1 }))
unmade_but_freed x = absurd (let z = (x.made 1 (lit< tt)).0 (lit≤ tt) in cc)

-- the version word of the freed object is another one
another_version : ¬ (AreKnown (record known { versions = 1 ∷ 3 ∷ 0 ∷ [] }) far)
another_version x = absurd (let z : 3 ≡ 2 = x.stamped 1 in omega (arith, z))

-- a claimed object was written already; one that others may change may have any version word
written_while_claimed : ¬ (AreKnown (record known {
  objects = is.Claimed 1024 128 1 [] ∷ is.Empty 2 ∷ is.Empty 0 ∷ [];
  versions = 2 ∷ 2 ∷ 0 ∷ [];
}) far)
written_while_claimed x = absurd (let z : 2 ≡ 1 = x.stamped 0 in omega (arith, z))

written_by_others : IsStamped (is.Here 1024 128) 7
written_by_others = tt

-- a third frame that no list of spans reaches
frame_too_many : ¬ (AreFrames (record far { frames = false ∷ true ∷ true ∷ [] }))
frame_too_many x = absurd (let z : 2 ≡ 3 = x.sized in omega (arith, z))

free_with_a_span : ¬ (AreFrames (record far { frames = true ∷ true ∷ [] }))
free_with_a_span x = (x.free 0 (lit< tt)).0 refl (
  0,
  record {
    span = span;
    there = refl;
    from = lit≤ tt;
    to = omega (arith, one_frame);
  },
)

-- frame 1 is none of the span in frame 0, which has one frame
taken_without_a_span : ¬ (AreFrames (record far { frames = false ∷ false ∷ [] }))
taken_without_a_span x =
    absurd (let z = (x.free 1 (lit< tt)).1 ((are_frames.free 1 (lit< tt)).0 refl) in cc)

slot_too_many : ¬ (AreFrames (record far {
  spans = Some (span_of largest Cold (None ∷ slots_with None (Some 0))) ∷ None ∷ [];
}))
unfolding slots_of pages_of bytes_of
slot_too_many x =
    absurd (let z : 5 ≡ 4 = (x.valid 0 _ refl).sized in omega (arith, z))

empty_span : ¬ (AreFrames (record far {
  spans = Some (span_of largest Cold (slots_with None None)) ∷ None ∷ [];
}))
empty_span x =
    absurd (let z : 1 ≤ 0 = x.taken 0 _ refl in omega (arith, z))

-- memory of another size
word_too_few : ¬ (ArePlaced (record known { memory = replicate 1023 0 }) far)
word_too_few x = absurd (let z : 1023 ≡ 1024 = x.memory in omega (arith, z))

-- object 0 has no slot, one of another class, or lies beside its slot
without_a_slot : ¬ (ArePlaced known (record far {
  spans = None ∷ None ∷ [];
}))
without_a_slot x = absurd (nowhere (x.placed 0 1024 128 (refl, refl)))
  where
    nowhere : HasSlot (None ∷ None ∷ []) 0 1024 128 → ⊥
    nowhere slot = none slot.frame slot.span slot.there
      where
        none : (f : ℕ) (y : Contents) → span_in (None ∷ None ∷ []) f ≡ Some y → ⊥
        none zero y e = cc
        none (suc zero) y e = cc
        none (suc (suc f)) y e = cc

-- a slot names a freed object, or one that lies elsewhere
names_nobody : ¬ (ArePlaced known (record far {
  spans = Some (span_of largest Cold (slots_with (Some 1) (Some 0))) ∷ None ∷ [];
}))
names_nobody x = absurd ((x.named 0 0 1 _ refl refl).lies)

named_beside : ¬ (ArePlaced known (record far {
  spans = Some (span_of largest Cold (slots_with (Some 0) None)) ∷ None ∷ [];
}))
unfolding words_of bytes_of
named_beside x =
    absurd (let z : 0 ≡ 128 = (x.named 0 0 0 _ refl refl).lies.1 in omega (arith, z))

-- an object of 1,024 bytes has no slot of another class
another_class : ¬ (IsClassOf 1024 (record { index = 10 }))
unfolding bytes_of
another_class x = absurd (omega (arith, x.holds))

-- the span leaves, and object 0 with it, in its words
abbrev leaver : ℕ → LeavingState
leaver frame =
    record {
      set = 0;
      pages = 1;
      frames = frame ∷ [];
      words = [];
      made = true;
      parities = [];
      shards = [];
    }

abbrev leaving_in : ℕ → FarState
leaving_in frame = record far { leaving = Some (leaver frame) }

leaves_with_its_span : IsLeaving known (leaving_in 0) 0 1024 128 (replicate 128 0)
unfolding window
leaves_with_its_span = record {
  batch = leaver 0;
  there = refl;
  slot = record {
    frame = 0;
    slot = 1;
    span = span;
    there = refl;
    named = refl;
    at = second_slot;
    fits = class_of_1024;
  };
  leaves = (0, lit< tt, refl);
  contents = refl;
}

no_batch_leaves : ¬ (IsLeaving known far 0 1024 128 (replicate 128 0))
no_batch_leaves x = absurd (let e : None ≡ Some x.batch = x.there in cc)

another_frame_leaves : ¬ (IsLeaving known (leaving_in 1) 0 1024 128 (replicate 128 0))
another_frame_leaves x =
    let c : Contains (1 ∷ []) x.slot.frame =
    subst (λ (l : List ℕ). Contains l x.slot.frame) (sym (ap leaving_frames x.there)) x.leaves in
    let first : c.0 ≡ 0 = omega (arith, c.1) in
    let frame : 1 ≡ x.slot.frame =
    ap (λ (i : ℕ). get_or (1 ∷ []) i x.slot.frame) (sym first) ∙ c.2 in
    absurd (let e : None ≡ Some x.slot.span = ap (span_in far.spans) frame ∙ x.slot.there in cc)

claimed_with_other_words : ¬ (IsLeaving known (leaving_in 0) 0 1024 128 (1 ∷ replicate 127 0))
unfolding window
claimed_with_other_words x = absurd (let e : 1 ≡ 0 =
    ap (λ (l : List ℕ). get_or l 0 0) x.contents in omega (arith, e))
