-- Worked lines of a lane that runs beside others: what meets each definition, and what breaks one
-- of its parts alone.
use Rattle.std.proofs.Common.{◌≡◌, ◌≢◌, ℕ, List, [], ◌∷◌, length, map, replicate, inl, inr, refl}
use Rattle.std.proofs.Common.{sym, ap, ◌∙◌, lit<, arith}
use Rattle.std.proofs.lemmas.Bool.{eqb-false}
use Rattle.cb_types.specs.declared.config.Config.{Config}
use Rattle.cb_types.specs.declared.reply.Reply.{Reply}
use Rattle.cb_types.specs.declared.reply.Reply.TheVariants as answer
use Rattle.cb_types.specs.declared.request.Request.TheVariants.{Make, Read, Write, Free}
use Rattle.cb_types.specs.declared.request.Request.TheVariants.{Pin as Pins_it, Peek, Filter, Leave}
use Rattle.cb_world.specs.Memory.{bytes_in}
use Rattle.cb_rule.specs.declared.view.Peeked.{Peeked}
use Rattle.cb_rule.specs.declared.view.Stand.{Stand}
use Rattle.cb_rule.specs.declared.view.View.{View}
use Rattle.cb_rule.specs.Own.{IsAlone}
use Rattle.cb_rule.specs.Steps.{blank, stand, version_seen, with_look}
use Rattle.cb_shared.specs.declared.pass.Pin.{Pin}
use Rattle.cb_lanes.specs.LineGoes.{Leaves, Peeks, Pins, Unpins}
use Rattle.cb_lanes.specs.Passing.{AreHeld, GivesPinBack, HasNoMark, HasNoPin, IsCall, IsNewestAt}
use Rattle.cb_lanes.specs.Passing.{IsNewestPin, IsNotPinned, LeaveGoes, Mark, PeekGoes, PeeksAll}
use Rattle.cb_lanes.specs.Passing.{PinGoes, UnpinGoes, goes_in, mark_in, peeks_of}

abbrev pub two : Config
two = record { k = 1; r = 1; nodes = 2; frames = 1; room = 6; handles = 2; turns = 0 }

-- two pins, on object 1 at version 4 and before on object 0 at version 3
abbrev pub newer : Stand
newer = stand 1 8 5 4 (2826 ∷ [])

abbrev pub older : Stand
older = stand 0 8 6 3 (7 ∷ [])

abbrev pub pinning : View
pinning = record (blank two) { pins = newer ∷ older ∷ [] }

-- two on object 1, and as many as a pass may have
abbrev first_on : Stand
first_on = stand 1 8 5 3 (7 ∷ [])

abbrev twice : View
twice = record (blank two) { pins = newer ∷ first_on ∷ [] }

abbrev pub full : View
full = record (blank two) { pins = replicate 16 newer }

one_zero : ◌≢◌ {A = ℕ} 1 0
one_zero = eqb-false 1 0 refl

abbrev pins_in : View → ℕ
pins_in v = length v.pins

-- ---- the newest pin on an object
is_newest : IsNewestPin 0 older pinning.pins
is_newest = inr (one_zero, inl (refl, refl))

not_of_another : IsNewestPin 1 older pinning.pins → ⊥
not_of_another (inl x) = eqb-false 4 3 refl (ap (λ (s : Stand). s.version) x.1)
not_of_another (inr x) = x.0 refl

-- the newest pin of all is none on object 2
not_of_any : IsNewestPin 2 newer pinning.pins → ⊥
not_of_any (inl x) = eqb-false 1 2 refl x.0
not_of_any (inr (n, inl x)) = eqb-false 0 2 refl x.0
not_of_any (inr (n, inr x)) = x.1

not_the_first : IsNewestPin 1 first_on twice.pins → ⊥
not_the_first (inl x) = eqb-false 4 3 refl (ap (λ (s : Stand). s.version) x.1)
not_the_first (inr x) = x.0 refl

has_none : HasNoPin 2 pinning.pins
has_none = (eqb-false 1 2 refl, (eqb-false 0 2 refl, tt))

has_one : HasNoPin 1 pinning.pins → ⊥
has_one x = x.0 refl

has_an_older_one : HasNoPin 0 pinning.pins → ⊥
has_an_older_one x = x.1.0 refl

-- ---- the words of a pin
both_words : peeks_of (stand 1 12 5 4 (7 ∷ 9 ∷ [])) 2
    ≡ record { handle = 1; version = 4; index = 1; word = 9 }
    ∷ record { handle = 1; version = 4; index = 0; word = 7 } ∷ []
both_words = refl

abbrev eight : List ℕ
eight = 10 ∷ 11 ∷ 0 ∷ 0 ∷ 0 ∷ 0 ∷ 0 ∷ 0 ∷ []

eight_bytes : eight ≡ bytes_in (2826 ∷ []) 8
unfolding bytes_in
eight_bytes = refl

abbrev version_told : Reply → ℕ
version_told (answer.Bytes version bytes) = version
version_told r = 0

abbrev bytes_told : Reply → List ℕ
bytes_told (answer.Bytes version bytes) = bytes
bytes_told r = []

abbrev peek : Peeked
peek = record { handle = 1; version = 4; index = 0; word = 2826 }

abbrev peeking : View
peeking = record pinning { peeked = peek ∷ [] }

peeks : PeeksAll newer (answer.Bytes 4 eight) pinning peeking
peeks = record { told = ap (answer.Bytes 4) eight_bytes; left = refl }

peeks_another_version : PeeksAll newer (answer.Bytes 3 eight) pinning peeking → ⊥
peeks_another_version x = eqb-false 3 4 refl (ap version_told x.told)

peeks_no_bytes : PeeksAll newer (answer.Bytes 4 []) pinning peeking → ⊥
peeks_no_bytes x =
    eqb-false 0 8 refl (ap (λ r. length (bytes_told r)) x.told ∙ ap length (sym eight_bytes))

peeks_nothing : PeeksAll newer (answer.Bytes 4 eight) pinning pinning → ⊥
peeks_nothing x = eqb-false 0 1 refl (ap (λ (v : View). length v.peeked) x.left)

peeks_and_gives : PeeksAll newer (answer.Bytes 4 eight) pinning (record peeking { pins = [] }) → ⊥
peeks_and_gives x = eqb-false 0 2 refl (ap pins_in x.left)

shows : PeekGoes 1 pinning (answer.Bytes 4 eight) peeking
shows = inr (record {
  pin = newer;
  newest = inl (refl, refl);
  above = record { written = tt; seen = tt; lone = λ l. absurd (not_alone l) };
  peeks = peeks;
})
  where
    not_alone : IsAlone 1 pinning → ⊥
    not_alone (inl e) = eqb-false 0 64 refl e
    not_alone (inr none) = none

-- a version above that of the pin was read
shows_an_older : (w : View)
    → PeekGoes 1 (record pinning { seen = version_seen 1 5 8 [] ∷ [] }) (answer.Bytes 4 eight) w → ⊥
shows_an_older w (inl x) = absurd (let e = x.told in cc)
shows_an_older w (inr x) = let low = x.above.seen.0 refl in
    let is : 4 ≡ x.pin.version = ap version_told x.peeks.told in omega (arith, low, is)

-- what a pin on another object has
shows_another : (w : View) → PeekGoes 0 pinning (answer.Bytes 4 eight) w → ⊥
shows_another w (inl x) = absurd (let e = x.told in cc)
shows_another w (inr x) = of x.newest
  where
    of : IsNewestPin 0 x.pin pinning.pins → ⊥
    of (inl y) = one_zero y.0
    of (inr (n, inl y)) = eqb-false 4 3 refl
        (ap version_told x.peeks.told ∙ sym (ap (λ (s : Stand). s.version) y.1))
    of (inr (n, inr y)) = y.1

-- ---- a lane without a pin on the object
not_pinned : UnpinGoes 2 pinning answer.NotPinned pinning
not_pinned = inl (record { no_pin = has_none; told = refl; left = refl })

peek_refused : PeekGoes 2 pinning answer.NotPinned pinning
peek_refused = inl (record { no_pin = has_none; told = refl; left = refl })

refused_with_a_pin : IsNotPinned 1 answer.NotPinned pinning pinning → ⊥
refused_with_a_pin x = has_one x.no_pin

refused_as_done : IsNotPinned 2 answer.Done pinning pinning → ⊥
refused_as_done x = absurd (let e = x.told in cc)

refused_and_gives : IsNotPinned 2 answer.NotPinned pinning (record pinning { pins = [] }) → ⊥
refused_and_gives x = eqb-false 0 2 refl (ap pins_in x.left)

-- ---- a pin is given back
gives : UnpinGoes 1 pinning answer.Done (record pinning { pins = older ∷ [] })
gives = inr (record { some = lit< tt; told = refl; left = refl })

gives_none : GivesPinBack 2 answer.Done pinning pinning → ⊥
gives_none x = let some = x.some in omega (arith, some)

gives_and_refuses : GivesPinBack 1 answer.NotPinned pinning (record pinning { pins = older ∷ [] })
    → ⊥
gives_and_refuses x = absurd (let e = x.told in cc)

gives_and_keeps : GivesPinBack 1 answer.Done pinning pinning → ⊥
gives_and_keeps x = eqb-false 2 1 refl (ap pins_in x.left)

-- the first of two pins on the object
abbrev version_first : List Stand → ℕ
version_first [] = 0
version_first (s ∷ ss) = s.version

gives_the_first : GivesPinBack 1 answer.Done twice (record twice { pins = newer ∷ [] }) → ⊥
gives_the_first x = eqb-false 4 3 refl (ap (λ (v : View). version_first v.pins) x.left)

-- ---- all pins are given back, and how many there were is told
left_two : LeaveGoes pinning (answer.Left 2) (record pinning { pins = [] })
left_two = (refl, refl)

left_one : LeaveGoes pinning (answer.Left 1) (record pinning { pins = [] }) → ⊥
left_one x = absurd (let e = x.0 in eqb-false 1 2 refl (ap count_told e))
  where
    count_told : Reply → ℕ
    count_told (answer.Left pins) = pins
    count_told r = 0

keeps_pins : LeaveGoes pinning (answer.Left 2) pinning → ⊥
keeps_pins x = eqb-false 2 0 refl (ap pins_in x.1)

-- ---- a pin of a lane that may have no more, and of one that may
is_full : PinGoes two 1 full answer.ScopeFull full
is_full = (refl, refl)

not_full : PinGoes two 1 pinning answer.ScopeFull pinning → ⊥
not_full x = eqb-false 2 16 refl x.0

full_and_looks : PinGoes two 1 full answer.ScopeFull (with_look 1 6 full) → ⊥
full_and_looks x = eqb-false 1 0 refl (ap (λ (v : View). length v.looks) x.1)

full_and_pins : (w : View) → PinGoes two 1 full (answer.Version 4) w → ⊥
full_and_pins w x = let few = x.0 in omega (arith, few)

-- ---- what is asked of a pass
asks_a_pin : goes_in two (Pins 1) full answer.ScopeFull full
asks_a_pin = (is_full, ([], refl, tt))

asks_a_peek : goes_in two (Peeks 1) pinning (answer.Bytes 4 eight) peeking
asks_a_peek = shows

asks_an_unpin : goes_in two (Unpins 1) pinning answer.Done (record pinning { pins = older ∷ [] })
asks_an_unpin = gives

asks_to_leave : goes_in two Leaves pinning (answer.Left 2) (record pinning { pins = [] })
asks_to_leave = left_two

-- ---- the pins that a lane keeps beside its pass
abbrev pub kept : Stand → Pin
kept s = record {
  handle = record { n = s.handle };
  version = s.version;
  len = s.len;
  place = s.place;
}

abbrev in_first : (Mark → ℕ) → List Mark → ℕ
in_first f [] = 0
in_first f (m ∷ older) = f m

held : AreHeld (kept newer ∷ kept older ∷ []) pinning
held = refl

held_in_another_order : AreHeld (kept older ∷ kept newer ∷ []) pinning → ⊥
held_in_another_order e = eqb-false 0 1 refl (ap (in_first (λ m. m.handle)) e)

held_at_another_version : AreHeld (record (kept newer) { version = 5 } ∷ kept older ∷ []) pinning
    → ⊥
held_at_another_version e = eqb-false 5 4 refl (ap (in_first (λ m. m.version)) e)

held_of_another_length : AreHeld (record (kept newer) { len = 9 } ∷ kept older ∷ []) pinning → ⊥
held_of_another_length e = eqb-false 9 8 refl (ap (in_first (λ m. m.len)) e)

held_at_another_place : AreHeld (record (kept newer) { place = 6 } ∷ kept older ∷ []) pinning → ⊥
held_at_another_place e = eqb-false 6 5 refl (ap (in_first (λ m. m.place)) e)

held_less_one : AreHeld (kept newer ∷ []) pinning → ⊥
held_less_one e = eqb-false 1 2 refl (ap length e)

-- ---- the place of the newest mark on an object
abbrev marks : List Mark
marks = map mark_in pinning.pins

newest_at : IsNewestAt 0 marks 1
newest_at = (one_zero, refl)

at_another : IsNewestAt 0 marks 0 → ⊥
at_another e = one_zero e

past_the_newest : IsNewestAt 1 (map mark_in twice.pins) 1 → ⊥
past_the_newest x = x.0 refl

past_the_end : IsNewestAt 2 marks 2 → ⊥
past_the_end x = x.1.1

has_no_mark : HasNoMark 2 marks
has_no_mark = (eqb-false 1 2 refl, (eqb-false 0 2 refl, tt))

has_a_mark : HasNoMark 1 marks → ⊥
has_a_mark x = x.0 refl

has_an_older_mark : HasNoMark 0 marks → ⊥
has_an_older_mark x = x.1.0 refl

-- ---- lines that are one call
a_read_is_a_call : IsCall (Read [])
a_read_is_a_call = tt

a_write_is_a_call : IsCall (Write [] 0 [])
a_write_is_a_call = tt

a_free_is_a_call : IsCall (Free [])
a_free_is_a_call = tt

a_filter_is_a_call : IsCall (Filter [])
a_filter_is_a_call = tt

a_pin_is_none : IsCall (Pins_it []) → ⊥
a_pin_is_none x = x

a_peek_is_none : IsCall (Peek []) → ⊥
a_peek_is_none x = x

a_make_is_none : IsCall (Make [] []) → ⊥
a_make_is_none x = x

a_leave_is_none : IsCall Leave → ⊥
a_leave_is_none x = x
