-- The empty world is sound.
use Rattle.std.proofs.Common.{ap, ◌∙◌, sym, get_or, length, ◌≤◌, ◌≡◌, ℕ, ◌*◌, None, Some, ◌<◌, false, [], replicate, zero, suc, refl, subst, arith, lit≤}
use Rattle.std.specs.List.{All}
use Rattle.std.proofs.lemmas.List.{length-replicate}
use Rattle.std.proofs.lemmas.List.Elements.{All-replicate}
use Rattle.std.proofs.lemmas.List.Folds.{sum_by-replicate}
use Rattle.cb_types.specs.declared.config.Config.{Config}
use Rattle.cb_types.specs.declared.config.Field.TheVariants.{Nodes}
use Rattle.cb_types.specs.Config.{IsAccepted}
use Rattle.std.specs.FinMap as map
use Rattle.cb_ptr.specs.declared.word.State.TheVariants as word
use Rattle.cb_ptr.specs.Word.{state_of, hot_of, pins_of}
use Rattle.cb_world.proofs.OpenKept.{none_open}
use Rattle.cb_world.specs.Codes.{IsCodeOf}
use Rattle.cb_world.specs.declared.seats.SeatPin.{SeatPin}
use Rattle.cb_world.specs.Empty.{empty_words, empty_shown, empty_far}
use Rattle.cb_world.specs.Packed.{IsFreedLater, IsPackedAs}
use Rattle.cb_world.specs.Orders.{KeepsOrder}
use Rattle.cb_world.specs.Shown.{never}
use Rattle.cb_world.specs.Seats.{SeatState, Holds, idle_seat, pins_among, all_pins_on}
use Rattle.cb_world.specs.World.{IsKnown, ArePinned, IsSoundWorld, empty_world, word_at}
use Rattle.cb_world.proofs.Codes.{accepted_code, empty_codes}
use Rattle.cb_world.proofs.Empty.{empty_sound, empty_shows, reads_one}

known : (c : Config) → IsAccepted c → IsKnown (empty_words c) (empty_far 1 c) (empty_shown 1 c)
known c ok = record {
  sized = record {
    words = length-replicate c.handles 0;
    versions = length-replicate c.handles 0;
    memory = length-replicate (512 * c.frames) 0;
  };
  shows = empty_shows 1 c;
  hots = λ h below. reads_one c.handles h false ∙ ap hot_of (sym (reads_one c.handles h 0));
  sound = empty_sound 1 c (lit≤ tt) (let n = (ok Nodes).1 in omega (arith, n));
  packed = λ h below. subst (IsPackedAs (empty_shown 1 c) (word_at (empty_words c) h))
      (sym (reads_one c.handles h never)) tt;
  freed = λ h. subst (IsFreedLater 1) (sym (reads_one c.handles h never)) tt;
}

none_on : (h : ℕ) → all_pins_on h (replicate 64 idle_seat) ≡ 0
none_on h = sum_by-replicate (λ (seat : SeatState). pins_among h seat.pins) 64 idle_seat

no_pins : (c : Config) (h : ℕ) → pins_of (word_at (empty_words c) h) ≡ 0
no_pins c h = ap pins_of (reads_one c.handles h 0)

none_of : (P : SeatPin → Type 0) → All P []
none_of P = λ k d lt. absurd (omega (arith, lt))

idle : (P : SeatState → Type 0) → P idle_seat → All P (replicate 64 idle_seat)
idle P p = All-replicate P 64 idle_seat p

pinned : (c : Config) → ArePinned (empty_words c) (replicate 64 idle_seat)
pinned c = record {
  count = length-replicate 64 idle_seat;
  few = idle (λ (seat : SeatState). length seat.pins ≤ 16) (omega arith);
  counted = λ h below. no_pins c h ∙ sym (none_on h);
  known = idle (λ (seat : SeatState).
      All (λ (pin : SeatPin). pin.handle < length (empty_words c).words) seat.pins) (none_of _);
  here = λ h below some. absurd (let n = no_pins c h in omega (arith, n, some));
  versions = idle (λ (seat : SeatState).
      All (λ (pin : SeatPin). pin.version ≡ get_or (empty_words c).versions pin.handle 0) seat.pins)
      (none_of _);
}

idle_at : (seat n : ℕ) → get_or (replicate n idle_seat) seat idle_seat ≡ idle_seat
idle_at zero zero = refl
idle_at zero (suc n) = refl
idle_at (suc seat) zero = refl
idle_at (suc seat) (suc n) = idle_at seat n

none_holds : (seat : ℕ) → Holds (replicate 64 idle_seat) seat → ⊥
none_holds seat held =
    let e = sym (ap (λ (x : SeatState). x.holds) (idle_at seat 64)) ∙ held in cc

still : (c : Config) (h : ℕ) → state_of (word_at (empty_words c) h) ≡ word.Moving → ⊥
still c h moved = let e = sym (ap state_of (reads_one c.handles h 0)) ∙ moved in cc

no_note : (n : ℕ) → None ≡ Some n → ⊥
no_note n e = cc

-- the empty world is sound
pub empty_world_sound : (c : Config) → IsAccepted c → IsSoundWorld (empty_world c)
empty_world_sound c ok = record {
  config = ok;
  configured = record {
    frames = length-replicate c.frames _;
    homes = length-replicate c.handles _;
    nodes = length-replicate c.nodes (map.empty {K = ℕ});
    room = refl;
    codes = empty_codes (IsCodeOf c) 1 c (accepted_code c ok);
  };
  shown = empty_shown 1 c;
  known = known c ok;
  pinned = pinned c;
  ongoing = none_open (empty_words c) (empty_far 1 c) (replicate 64 idle_seat)
      (λ seat. ap (λ (x : SeatState). x.claims) (idle_at seat 64))
      (λ h below moved. still c h moved);
  one = λ a b held. absurd (none_holds a held);
  orders = λ seat. subst (λ (x : SeatState). KeepsOrder (empty_shown 1 c) (empty_far 1 c) x.order)
      (sym (idle_at seat 64)) tt;
  counted = record {
    kinds = length-replicate {A = ℕ} 24 0;
    jobs = sum_by-replicate (λ (n : ℕ). n) 24 0;
    turns = omega arith;
    sets = omega arith;
    keys = omega arith;
    epoch = omega arith;
    given = omega arith;
    no_pair = λ n e. absurd (no_note n e);
  };
}
