-- A read under a pin of its own, step by step.
use Rattle.std.proofs.Common.{◌≡◌, ℕ, ◌+◌, Bool, cond, List, ◌∷◌, sym, refl, ap, ◌∙◌, subst, arith}
use Rattle.std.proofs.Common.{inl, eq-eqb}
use Rattle.cb_types.specs.declared.config.Config.{Config}
use Rattle.cb_ptr.specs.declared.word.State.TheVariants as state
use Rattle.cb_ptr.specs.Word.{state_of, len_of, place_of}
use Rattle.cb_world.specs.Memory.{bytes_in}
use Rattle.cb_rule.specs.declared.view.Stand.{Stand}
use Rattle.cb_rule.specs.declared.view.View.{View}
use Rattle.cb_rule.specs.Lists.{Each, Has, removed}
use Rattle.cb_rule.specs.Seats.{pins_it}
use Rattle.cb_rule.specs.Slot.{Sat}
use Rattle.cb_rule.specs.Steps.{IsNewest, stand, with_freed_seen, with_look, with_pin, without_pin}
use Rattle.cb_shared.specs.declared.reading.ReadAnswer.{ReadAnswer}
use Rattle.cb_shared.specs.declared.reading.ReadAnswer.TheVariants.{Bytes, Freed, NotHere, Moving}
use Rattle.cb_shared.specs.declared.reading.ReadAnswer.TheVariants.{Crowded, Raced}
use Rattle.cb_shared.specs.Glances.{Glances, TellsVersion}
use Rattle.cb_record.specs.Parts.{grown}
use Rattle.cb_shared.specs.Reading.{IsReadAt, IsReadRefusal, IsUnderPin, ReadAt, ReadMoves, looked}
use Rattle.cb_shared.specs.Reading.{looked_freed, looked_twice, read_once, with_read}
use Rattle.cb_shared.specs.Seats.{SeatAt, Moves, record_at}
use Rattle.cb_shared.proofs.Resting.{far_empty, here_empty, moving_empty, view_of}

-- what a step adds is a part of the record
pub look_part : (h w : ℕ) (v : View) → with_look h w v ≡ grown (looked h w) v
look_part h w v = let e : v.ever ≡ v.ever + 0 = omega arith in
    ap (λ (n : ℕ). let z : View = record (with_look h w v) { ever = n } in z) e

pub freed_part : (h n w : ℕ) (v : View) → with_freed_seen h n w v ≡ grown (looked_freed h n w) v
freed_part h n w v = let e : v.ever ≡ v.ever + 0 = omega arith in
    ap (λ (k : ℕ). let z : View = record (with_freed_seen h n w v) { ever = k } in z) e

pub twice_part : (h saw found : ℕ) (v : View)
    → with_look h found (with_look h saw v) ≡ grown (looked_twice h saw found) v
twice_part h saw found v = let e : v.ever ≡ v.ever + 0 = omega arith in
    ap (λ (n : ℕ). let z : View = record (with_look h found (with_look h saw v)) { ever = n } in z)
    e

-- one step after another
pub moves_as : (p q : SeatAt) (x y : View) → Moves p q x → x ≡ y → Moves p q y
moves_as p q x y m e = (
  m.0,
  m.1,
  m.2 ∙ ap (λ (z : View). let s : Sat = (z, p.me.1) in s) e,
)

pub moves_then : (p q r : SeatAt) (f : View → View) (x : View) → Moves p q x
    → Moves q r (f (record_at q)) → Moves p r (f x)
moves_then p q r f x m n = (
  n.0 ∙ m.0,
  n.1 ∙ m.1,
  n.2 ∙ ap (λ (s : Sat). let z : Sat = (f s.0, s.1) in z) m.2,
)

-- a refusal by the word that was found is answered
pub refused_moves : (h w : ℕ) (a : ReadAnswer) (p q : SeatAt) → Glances h w p q
    → IsReadRefusal w a → ReadMoves h a p q
refused_moves h w (Bytes version bytes) p q g why = absurd why
refused_moves h w Freed p q g why = let f = g.freed why in (
  looked_freed h f.0 w,
  moves_as p q (with_freed_seen h f.0 w (record_at p)) (grown (looked_freed h f.0 w) (record_at p))
      f.2 (freed_part h f.0 w (record_at p)),
  (w, f.0, why, f.1, refl),
)
refused_moves h w NotHere p q g why = (
  looked h w,
  moves_as p q (with_look h w (record_at p)) (grown (looked h w) (record_at p))
      (g.other (λ e. far_empty (sym why ∙ e))) (look_part h w (record_at p)),
  (w, why, refl),
)
refused_moves h w Moving p q g why = (
  looked h w,
  moves_as p q (with_look h w (record_at p)) (grown (looked h w) (record_at p))
      (g.other (λ e. moving_empty (sym why ∙ e))) (look_part h w (record_at p)),
  (w, why, refl),
)
refused_moves h w Crowded p q g why = (
  looked h w,
  moves_as p q (with_look h w (record_at p)) (grown (looked h w) (record_at p))
      (g.other (λ e. here_empty (sym why.0 ∙ e))) (look_part h w (record_at p)),
  (w, why, refl),
)
refused_moves h w (Raced saw found) p q g why = absurd why

-- the look, and what the exchange at its word comes to
pub at_word : (h saw : ℕ) (a : ReadAnswer) (p q r : SeatAt) → Glances h saw p q
    → state_of saw ≡ state.Here → ReadAt h saw a q r → ReadMoves h a p r
at_word h saw (Bytes version bytes) p q r g here x =
    let m = g.other (λ e. here_empty (sym here ∙ e)) in (
      read_once h saw version x.words,
      moves_then p q r (with_read h saw version x.words) (with_look h saw (record_at p)) m x.left,
      record {
        word = saw;
        words = x.words;
        here = here;
        newest = subst (IsNewest h version) (view_of p q (with_look h saw (record_at p)) m)
            x.newest;
        bytes_are = x.bytes_are;
        part = refl;
      },
    )
at_word h saw (Raced seen found) p q r g here x =
    let m = g.other (λ e. here_empty (sym here ∙ e)) in (
      looked_twice h saw found,
      moves_as p r (with_look h found (with_look h saw (record_at p)))
          (grown (looked_twice h saw found) (record_at p))
          (moves_then p q r (with_look h found) (with_look h saw (record_at p)) m x.2)
          (twice_part h saw found (record_at p)),
      (λ e. x.1 (e ∙ x.0), ap (λ (n : ℕ). looked_twice h n found) (sym x.0)),
    )
at_word h saw Freed p q r g here x = absurd x
at_word h saw NotHere p q r g here x = absurd x
at_word h saw Moving p q r g here x = absurd x
at_word h saw Crowded p q r g here x = absurd x

-- a pin that is given back leaves the version as read
pin_gone : (h w v : ℕ) (words : List ℕ) (u : View)
    → without_pin h (with_pin h w v words u) ≡ with_read h w v words u
pin_gone h w v words u =
    ap (λ (b : Bool). let z : View = record (with_read h w v words u) {
      pins = cond b u.pins
          (stand h (len_of w) (place_of w) v words ∷ removed (pins_it h) u.pins);
    } in z) (eq-eqb h h refl)

-- the pin that was taken, and what was loaded under it
module _ (c : Config) (h saw v version : ℕ) (words bytes : List ℕ) (p s t : SeatAt)
    (taken : Moves p s (with_pin h saw v words (record_at p)))
    (told : TellsVersion c h version s t) where
  pub pin_there : Moves p t (with_pin h saw v words (record_at p))
  pin_there = moves_then p s t (λ (x : View). x) (with_pin h saw v words (record_at p))
      taken told.moves

  pub under_pin : IsUnderPin (stand h (len_of saw) (place_of saw) v words) (place_of saw)
      (len_of saw) t
  under_pin = (
    subst (Has (stand h (len_of saw) (place_of saw) v words))
        (sym (ap (λ (m : Sat). m.0.pins) pin_there.2)) (inl refl),
    refl,
    refl,
  )

  pub version_told : version ≡ v
  version_told =
      let each : Each (λ (x : Stand). x.handle ≡ h → version ≡ x.version)
      (with_pin h saw v words (record_at p)).pins =
      subst (Each (λ (x : Stand). x.handle ≡ h → version ≡ x.version))
      (ap (λ (m : Sat). m.0.pins) taken.2) told.tells in each.0 refl

  pub read_ended : (u q : SeatAt) → IsNewest h v (record_at p) → Moves t u (record_at t)
      → ((x : Stand) → IsUnderPin x (place_of saw) (len_of saw) t
      → bytes ≡ bytes_in x.words (len_of saw))
      → Moves u q (without_pin h (record_at u)) → IsReadAt h saw version bytes p q
  read_ended u q newest loaded read back = record {
    words = words;
    newest = subst (λ (n : ℕ). IsNewest h n (record_at p)) (sym version_told) newest;
    bytes_are = read (stand h (len_of saw) (place_of saw) v words) under_pin;
    left = moves_as p q (without_pin h (with_pin h saw v words (record_at p)))
        (with_read h saw version words (record_at p))
        (moves_then p u q (without_pin h) (with_pin h saw v words (record_at p))
        (moves_then p t u (λ (x : View). x) (with_pin h saw v words (record_at p)) pin_there loaded)
        back) (pin_gone h saw v words (record_at p)
        ∙ ap (λ (n : ℕ). with_read h saw n words (record_at p)) (sym version_told));
  }
