-- What pins and their ends leave of a world, and giving all pins of a seat back.
use Rattle.std.proofs.Common.{◌≡◌, ◌≢◌, ℕ, suc, ◌+◌, ◌-◌, ◌<◌, ◌≤◌, List, [], ◌∷◌, ◌++◌, length}
use Rattle.std.proofs.Common.{map, replicate, reverse, take, get_or, refl, sym, ap, ◌∙◌, subst}
use Rattle.std.proofs.Common.{arith, get_or-set_same, get_or-set_other}
use Rattle.std.specs.List.{remove}
use Rattle.std.proofs.lemmas.List.{length_push, length-reverse, nil_from_length, reverse-append}
use Rattle.std.proofs.lemmas.List.{take_more, take_all}
use Rattle.std.proofs.lemmas.List.Edits.{length-remove}
use Rattle.std.proofs.lemmas.List.Elements.{All-get_or}
use Rattle.std.proofs.lemmas.Option.{slice_get_within, get_or_from_slice_get}
use Rattle.cb_ptr.specs.declared.word.State.TheVariants as word
use Rattle.cb_ptr.specs.Word.{state_of}
use Rattle.cb_types.specs.declared.reply.Reply.{Reply}
use Rattle.cb_types.specs.declared.reply.Reply.TheVariants as answer
use Rattle.cb_world.specs.declared.seats.SeatPin.{SeatPin}
use Rattle.cb_world.specs.declared.shown.Shown.{Shown}
use Rattle.cb_world.specs.FarState.{FarState}
use Rattle.cb_world.specs.Now.{now}
use Rattle.cb_world.specs.Plain.{Words}
use Rattle.cb_world.specs.Seats.{IsNewestOf, NoneOn, SeatState, idle_seat, pins_of_seat, with_pins}
use Rattle.cb_world.specs.World.{WorldState, IsKnown, IsSoundWorld, word_at}
use Rattle.cb_world.proofs.Laws.{pinned_now, unpinned_now, pin_counts}
use Rattle.cb_core.specs.declared.event.Event.{Event}
use Rattle.cb_core.specs.Pinning.{PinStep, scope_full, refused, taken, UnpinStep, not_pinned, given}
use Rattle.cb_core.specs.Pinning.{IsPinGiven}
use Rattle.cb_core.specs.Step.{Leads}
use Rattle.cb_core.proofs.Laws.{pin_step_sound, unpin_step_sound, known_same}
use Rattle.cb_lanes.specs.GivingBack.{unpin_event, GivesAll}
use Rattle.cb_lanes.proofs.PinLists.{newest_last, none_last, remove_last}

-- ---- what stays

-- The world changed in the pins of a seat alone: it is sound, and every object holds what it held.
pub record StandsWithout (seat : ℕ) (w new : WorldState) : Type 0 where
  pub sound : IsSoundWorld new
  pub far : new.far ≡ w.far
  pub settings : new.desk.settings ≡ w.desk.settings
  pub others : (k : ℕ) → k ≢ seat → pins_of_seat new.seats k ≡ pins_of_seat w.seats k
  pub holds : (s t : Shown) (k : ℕ) → IsKnown w.desk w.far s → IsKnown new.desk new.far t
      → now t new.far k ≡ now s w.far k

pub stands_same : (seat : ℕ) (w new : WorldState) → IsSoundWorld w → new ≡ w
    → StandsWithout seat w new
stands_same seat w new sound e = subst (StandsWithout seat w) (sym e) (record {
  sound = sound;
  far = refl;
  settings = refl;
  others = λ k off. refl;
  holds = λ s t k a b. known_same w.desk w.far s t k a b;
})

pub stands_on : (seat : ℕ) (w mid new : WorldState) → StandsWithout seat w mid
    → StandsWithout seat mid new
    → StandsWithout seat w new
stands_on seat w mid new a b = record {
  sound = b.sound;
  far = b.far ∙ a.far;
  settings = b.settings ∙ a.settings;
  others = λ k off. b.others k off ∙ a.others k off;
  holds = λ s t k known then_. b.holds a.sound.shown t k a.sound.known then_
      ∙ a.holds s a.sound.shown k known a.sound.known;
}

pub pins_other : (seats : List SeatState) (seat k : ℕ) (pins : List SeatPin) → k ≢ seat
    → pins_of_seat (with_pins seats seat pins) k ≡ pins_of_seat seats k
pins_other seats seat k pins off = ap (λ (x : SeatState). x.pins)
    (get_or-set_other seats seat k _ idle_seat off)

pub pins_own : (seats : List SeatState) (seat : ℕ) (pins : List SeatPin) → seat < length seats
    → pins_of_seat (with_pins seats seat pins) seat ≡ pins
pins_own seats seat pins lt = ap (λ (x : SeatState). x.pins)
    (get_or-set_same seats seat _ idle_seat lt)

-- a pin's handle is one of those that there are
pub pin_below : (w : WorldState) (seat at h : ℕ) → IsSoundWorld w → seat < 64
    → IsNewestOf (pins_of_seat w.seats seat) h at → h < length w.desk.words
pin_below w seat at h sound lt n =
    let pins = pins_of_seat w.seats seat in
    let below = All-get_or (λ (y : SeatPin). y.handle < length w.desk.words) pins at n.pin
    (slice_get_within pins at n.pin n.there)
    (All-get_or (λ (x : SeatState). (k : ℕ) (d : SeatPin) → k < length x.pins
    → (get_or x.pins k d).handle < length w.desk.words)
    w.seats seat idle_seat (omega (arith, lt, sound.pinned.count)) sound.pinned.known) in
    subst (λ (y : ℕ). y < length w.desk.words)
    (ap (λ (p : SeatPin). p.handle) (get_or_from_slice_get pins at n.pin n.pin n.there) ∙ n.on) below

-- a pinned object is here
pub pinned_here : (w : WorldState) (seat at h : ℕ) → IsSoundWorld w → seat < 64
    → IsNewestOf (pins_of_seat w.seats seat) h at → state_of (word_at w.desk h) ≡ word.Here
pinned_here w seat at h sound lt n =
    let below = pin_below w seat at h sound lt n in
    (sound.pinned.here h below (pin_counts w.desk w.seats seat at h sound.pinned lt n below)).0

pub pin_stands : (w new : WorldState) (seat h : ℕ) (r : Reply) → IsSoundWorld w → seat < 64
    → h < w.desk.settings.handles → PinStep seat h w r new → StandsWithout seat w new
pin_stands w new seat h r sound lt below (scope_full full is same) =
    stands_same seat w new sound same
pin_stands w new seat h r sound lt below (refused room never is same) =
    stands_same seat w new sound same
pin_stands w new seat h r sound lt below (taken room may is t) = record {
  sound = pin_step_sound w new seat h r sound lt below (taken room may is t);
  far = t.far;
  settings = ap (λ (x : Words). x.settings) t.word.words;
  others = λ k off. ap (λ (xs : List SeatState). pins_of_seat xs k) t.pins
      ∙ pins_other w.seats seat k _ off;
  holds = λ s u k known then_. ap (λ (f : FarState). now u f k) t.far
      ∙ pinned_now w.desk new.desk w.far s u h k known
      (subst (λ (f : FarState). IsKnown new.desk f u) t.far then_) t.word may.here;
}

given_stands : (w new : WorldState) (seat h : ℕ) (r : Reply) → IsSoundWorld w → seat < 64
    → h < w.desk.settings.handles → UnpinStep seat h w r new → (t : IsPinGiven seat h w new)
    → StandsWithout seat w new
given_stands w new seat h r sound lt below step t = record {
  sound = unpin_step_sound w new seat h r sound lt below step;
  far = t.far;
  settings = ap (λ (x : Words). x.settings) t.word.words;
  others = λ k off. ap (λ (xs : List SeatState). pins_of_seat xs k) t.pins
      ∙ pins_other w.seats seat k _ off;
  holds = λ s u k known then_. ap (λ (f : FarState). now u f k) t.far
      ∙ unpinned_now w.desk new.desk w.far s u h k known
      (subst (λ (f : FarState). IsKnown new.desk f u) t.far then_) t.word
      (pinned_here w seat t.at h sound lt t.newest);
}

pub unpin_stands : (w new : WorldState) (seat h : ℕ) (r : Reply) → IsSoundWorld w → seat < 64
    → h < w.desk.settings.handles → UnpinStep seat h w r new → StandsWithout seat w new
unpin_stands w new seat h r sound lt below (not_pinned none is same) =
    stands_same seat w new sound same
unpin_stands w new seat h r sound lt below (given is t) =
    given_stands w new seat h r sound lt below (given is t) t

-- ---- giving all back

-- the seat's own pins after one was given back
pub given_pins : (w new : WorldState) (seat h : ℕ) → IsSoundWorld w → seat < 64
    → (t : IsPinGiven seat h w new)
    → pins_of_seat new.seats seat ≡ remove (pins_of_seat w.seats seat) t.at
given_pins w new seat h sound lt t = ap (λ (xs : List SeatState). pins_of_seat xs seat) t.pins
    ∙ pins_own w.seats seat _ (omega (arith, lt, sound.pinned.count))

-- some pins of the seat were given back, one by one
pub record Gave (seat count : ℕ) (w new : WorldState) : Type 0 where
  pub stands : StandsWithout seat w new
  pub fewer : length (pins_of_seat new.seats seat) + count ≡ length (pins_of_seat w.seats seat)

gave_by : (seat : ℕ) (pins : List SeatPin) (w new : WorldState) → IsSoundWorld w → seat < 64
    → Leads w (map (unpin_event seat) pins) (replicate (length pins) answer.Done) new
    → Gave seat (length pins) w new
gave_by seat [] w new sound lt leads = record {
  stands = stands_same seat w new sound leads;
  fewer = let same = ap (λ (v : WorldState). length (pins_of_seat v.seats seat)) leads in omega
      (arith, same);
}
gave_by seat (pin ∷ pins) w new sound lt (mid, step, leads) =
    by (λ one. gave_by seat pins mid new one lt leads) step
  where
    by : (IsSoundWorld mid → Gave seat (length pins) mid new)
        → UnpinStep seat pin.handle w answer.Done mid → Gave seat (length (pin ∷ pins)) w new
    by later (not_pinned none is same) = absurd cc
    by later (given is t) =
        let words = pin_below w seat t.at pin.handle sound lt t.newest in
        let below : pin.handle < w.desk.settings.handles =
        (let n = sound.known.sized.words in omega (arith, words, n)) in
        let one = given_stands w mid seat pin.handle answer.Done sound lt below (given is t) t in
        let rest = later one.sound in
        record {
          stands = stands_on seat w mid new one rest.stands;
          fewer =
              let own = ap length (given_pins w mid seat pin.handle sound lt t) in
              let less = length-remove (pins_of_seat w.seats seat) t.at
              (slice_get_within (pins_of_seat w.seats seat) t.at t.newest.pin t.newest.there) in
              let more = rest.fewer in
              omega (arith, own, less, more);
        }

-- all pins of the seat were given back: the world stands, and the seat has none
pub gives_all : (seat : ℕ) (w new : WorldState) → IsSoundWorld w → seat < 64 → GivesAll seat w new
    → StandsWithout seat w new × (pins_of_seat new.seats seat ≡ [])
gives_all seat w new sound lt leads =
    let pins = pins_of_seat w.seats seat in
    let gave = gave_by seat (reverse pins) w new sound lt
    (subst (λ (n : ℕ). Leads w (map (unpin_event seat) (reverse pins))
    (replicate n answer.Done) new)
    (sym (length-reverse pins)) leads) in
    let fewer = gave.fewer in let same = length-reverse pins in
    (gave.stands, nil_from_length (pins_of_seat new.seats seat) (omega (arith, fewer, same)))

-- ---- the newest pin first

-- the newest pin was given back: whoever gives all back then gives all back from before
pub record GaveNewest (seat : ℕ) (w new : WorldState) : Type 0 where
  pub goes : (end : WorldState) → GivesAll seat new end → GivesAll seat w end
  pub fewer : length (pins_of_seat w.seats seat) ≡ length (pins_of_seat new.seats seat) + 1

gave_last : (seat : ℕ) (w new : WorldState) (front : List SeatPin) (pin : SeatPin) (r : Reply)
    → IsSoundWorld w → seat < 64 → pins_of_seat w.seats seat ≡ front ++ pin ∷ []
    → UnpinStep seat pin.handle w r new → GaveNewest seat w new
gave_last seat w new front pin r sound lt e (not_pinned none is same) =
    absurd ((none_last front pin pin.handle
    (subst (λ (ps : List SeatPin). NoneOn ps pin.handle) e none)).1 refl)
gave_last seat w new front pin r sound lt e (given is t) = record {
  goes = λ end leads. subst (λ (ps : List SeatPin).
      Leads w (map (unpin_event seat) (reverse ps)) (replicate (length ps) answer.Done) end) (sym e)
      (subst (λ (es : List Event). Leads w es (replicate (length (front ++ pin ∷ [])) answer.Done)
      end)
      (sym (ap (map (unpin_event seat)) (reverse-append front (pin ∷ []))))
      (subst (λ (n : ℕ). Leads w (unpin_event seat pin ∷ map (unpin_event seat) (reverse front))
      (replicate n answer.Done) end) (sym long) (
        new,
        subst (λ (q : Reply). UnpinStep seat pin.handle w q new) is (given is t),
        subst (λ (ps : List SeatPin). Leads new (map (unpin_event seat) (reverse ps))
            (replicate (length ps) answer.Done) end) own leads,
      )));
  fewer = ap length e ∙ length_push front pin ∙ sym (ap (λ (ps : List SeatPin). length ps + 1) own);
}
  where
    m : IsNewestOf (front ++ pin ∷ []) pin.handle t.at
    m = subst (λ (ps : List SeatPin). IsNewestOf ps pin.handle t.at) e t.newest

    own : pins_of_seat new.seats seat ≡ front
    own = given_pins w new seat pin.handle sound lt t ∙ ap (λ (ps : List SeatPin). remove ps t.at) e
        ∙ remove_last front pin t.at (newest_last front pin pin.handle t.at refl m).0

    long : length (front ++ pin ∷ []) ≡ suc (length front)
    long = omega (arith, length_push front pin)

-- the seat's last pin was given back
pub gave_newest : (seat : ℕ) (w new : WorldState) (pins : List SeatPin) (d : SeatPin) (r : Reply)
    → IsSoundWorld w
    → seat < 64 → 1 ≤ length (pins_of_seat w.seats seat) → pins ≡ pins_of_seat w.seats seat
    → UnpinStep seat (get_or pins (length pins - 1) d).handle w r new → GaveNewest seat w new
gave_newest seat w new pins d r sound lt some same step =
    gave_last seat w new (take (length pins - 1) pins) (get_or pins (length pins - 1) d) r sound lt
    (sym same ∙ split) step
  where
    more : 1 ≤ length pins
    more = subst (λ (ps : List SeatPin). 1 ≤ length ps) (sym same) some

    split : pins ≡ take (length pins - 1) pins ++ get_or pins (length pins - 1) d ∷ []
    split = sym (take_all (length pins - 1 + 1) pins (omega (arith, more)))
        ∙ take_more pins (length pins - 1) d (omega (arith, more))
