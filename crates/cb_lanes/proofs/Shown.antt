-- A read of a pinned object is a peek: nothing changes.
use Rattle.std.proofs.Common.{◌≡◌, ◌⊎◌, ℕ, ◌<◌, ◌≤◌, List, Bool, Result, Ok, Err, IfOk, OnErr, sym}
use Rattle.std.proofs.Common.{ap, ◌∙◌, subst, arith, inl, inr, ne_eqb, if◌then◌else◌}
use Rattle.std.proofs.lemmas.List.{set-get_or}
use Rattle.cb_ptr.specs.declared.word.State.{State}
use Rattle.cb_ptr.specs.Word.{len_of, pins_of}
use Rattle.cb_types.specs.declared.reply.Reply.{Reply}
use Rattle.cb_types.specs.declared.reply.Reply.TheVariants as answer
use Rattle.cb_world.specs.FarState.{FarState}
use Rattle.cb_world.specs.Memory.{bytes_in}
use Rattle.cb_world.specs.Pinned.{with_word}
use Rattle.cb_world.specs.Plain.{Words}
use Rattle.cb_world.specs.Seats.{IsNewestOf, pins_of_seat}
use Rattle.cb_world.specs.Still.{IsStill}
use Rattle.cb_world.specs.StillWords.{stamp_at, contents_at, with_hot}
use Rattle.cb_world.specs.World.{WorldState, IsSoundWorld, word_at}
use Rattle.cb_world.proofs.Laws.{pin_counts, PerformsStill}
use Rattle.cb_mutate.specs.ReadRule.{ReadRule, ReadEffect, IsSeenHere}
use Rattle.cb_mutate.specs.StillReplies.{reply_as}
use Rattle.cb_mutate.specs.CallStep.{IsReadStep, with_seen}
use Rattle.cb_mutate.proofs.Laws.{read_step, failed_step}
use Rattle.cb_core.proofs.Laws.{read_leaves}
use Rattle.cb_lanes.specs.LineStep.{PeekStep, shown}
use Rattle.cb_lanes.proofs.GivingBack.{pin_below, pinned_here}
use Rattle.cb_lanes.proofs.Pinning.{pin_version}

pub ok_then : {T E : Type 0} (r : Result T E) {P Q : T → Type 0} → ((x : T) → P x → Q x) → IfOk r P
    → IfOk r Q
ok_then (Ok x) f p = f x p
ok_then (Err e) f p = tt

pub either_way : {T E : Type 0} (r : Result T E) {P : T → Type 0} {Q S : Type 0}
    → ((x : T) → P x → S)
    → (Q → S) → IfOk r P → OnErr r Q → S
either_way (Ok x) f g p q = f x p
either_way (Err e) f g p q = g q

-- a read leaves a pinned object's word as it is
seen_same : (x : Words) (h : ℕ) → 1 ≤ pins_of (word_at x h) → with_seen x h ≡ x
seen_same x h some =
    ap (λ (b : Bool). with_word x h (if b then with_hot (word_at x h) else word_at x h))
    (ne_eqb (pins_of (word_at x h)) 0 (λ none. omega (arith, some, none)))
    ∙ ap (λ (l : List ℕ). record x { words = l }) (set-get_or x.words h 0)

-- the world in which a pinned object was read
pub record PeekedAt (w : WorldState) (seat h at : ℕ) (y : Words) (far : FarState) : Type 0 where
  pub sound : IsSoundWorld w
  pub seat_is : seat < 64
  pub newest : IsNewestOf (pins_of_seat w.seats seat) h at
  pub same : far ≡ w.far

left_same : (w : WorldState) (seat h at : ℕ) (y : Words) (far : FarState) (r : Reply)
    → PeekedAt w seat h at y far → IsReadStep w.desk y h r → y ≡ w.desk
left_same w seat h at y far r p step = by (read_leaves w.desk y h r step)
  where
    some : 1 ≤ pins_of (word_at w.desk h)
    some = pin_counts w.desk w.seats seat at h p.sound.pinned p.seat_is p.newest
        (pin_below w seat at h p.sound p.seat_is p.newest)

    by : (y ≡ w.desk) ⊎ (y ≡ with_seen w.desk h) → y ≡ w.desk
    by (inl e) = e
    by (inr e) = e ∙ seen_same w.desk h some

abbrev peeked : WorldState → Words → FarState → WorldState
peeked w y far = record { desk = y; far = far; seats = w.seats }

peeked_same : (w : WorldState) (y : Words) (far : FarState) → y ≡ w.desk → far ≡ w.far
    → peeked w y far ≡ w
peeked_same w y far desk same = λ i. record { desk = desk i; far = same i; seats = w.seats }

pub peek_is : (w : WorldState) (seat h at : ℕ) (y : Words) (far : FarState) (r : Reply)
    → PeekedAt w seat h at y far
    → PerformsStill w.desk y w.far far (ReadRule h r) (ReadEffect h r)
    → PeekStep seat h w r (peeked w y far)
peek_is w seat h at y far r p performs =
    shown at p.newest
    (step.reply
    ∙ ap (λ (q : State). reply_as q (stamp_at w.desk h) (answer.Bytes (stamp_at w.desk h) bytes))
    (pinned_here w seat at h p.sound p.seat_is p.newest)
    ∙ ap (λ (v : ℕ). answer.Bytes v bytes)
    (sym (pin_version w seat at h p.sound p.seat_is p.newest)))
    (peeked_same w y far (left_same w seat h at y far r p step) p.same)
  where
    bytes : List ℕ
    bytes = bytes_in (contents_at w.desk h) (len_of (word_at w.desk h))

    step : IsReadStep w.desk y h r
    step = (read_step w.desk y w.far far p.sound.shown h r p.sound.known performs).0

pub peek_sound : (w : WorldState) (seat h at : ℕ) (y : Words) (far : FarState) (r : Reply)
    → PeekedAt w seat h at y far
    → PerformsStill w.desk y w.far far (ReadRule h r) (ReadEffect h r)
    → IsSoundWorld (peeked w y far)
peek_sound w seat h at y far r p performs =
    let step = (read_step w.desk y w.far far p.sound.shown h r p.sound.known performs).0 in
    subst IsSoundWorld (sym (peeked_same w y far (left_same w seat h at y far r p step) p.same))
    p.sound

pub peek_stopped : (w : WorldState) (seat h at : ℕ) (y : Words) (far : FarState)
    → PeekedAt w seat h at y far
    → PerformsStill w.desk y w.far far (IsSeenHere h) IsStill
    → IsSoundWorld (peeked w y far)
peek_stopped w seat h at y far p performs =
    let same = (failed_step w.desk y w.far far p.sound.shown h p.sound.known performs).1 in
    subst IsSoundWorld (sym (peeked_same w y far same p.same)) p.sound
