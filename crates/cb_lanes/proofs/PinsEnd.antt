-- What becomes of the pins that a lane keeps beside its pass when they are given back.
use Rattle.std.proofs.Common.{◌≡◌, ℕ, List, [], ◌∷◌, length, map, get_or, inr, sym, refl, ap, ◌∙◌}
use Rattle.std.proofs.Common.{arith}
use Rattle.std.specs.List.{remove}
use Rattle.cb_types.specs.declared.reply.Reply.TheVariants as answer
use Rattle.cb_rule.specs.declared.view.Stand.{Stand}
use Rattle.cb_rule.specs.declared.view.View.{View}
use Rattle.cb_rule.specs.Steps.{without_pin}
use Rattle.cb_shared.specs.declared.pass.Pin.{Pin}
use Rattle.cb_shared.specs.Joining.{unpinned_all}
use Rattle.cb_shared.specs.Passes.{IsPinOf}
use Rattle.cb_lanes.specs.Passing.{AreHeld, IsNewestAt, UnpinGoes, mark_in, marks_of}
use Rattle.cb_lanes.proofs.PinsHeld.{held_count, pin_there}

module _ (h at : ℕ) (p : Pin) (ps : List Pin) (v w : View) (held : AreHeld ps v)
    (new : IsNewestAt h (marks_of ps) at) (is : p ≡ get_or ps at p) where
  pub pin_of : IsPinOf p v
  pin_of = let t = pin_there h at p ps v.pins held new is in (t.words, t.has)

  left_by : w ≡ without_pin p.handle.n v → w ≡ without_pin h v
  left_by left = left
      ∙ ap (λ (n : ℕ). without_pin n v) (pin_there h at p ps v.pins held new is).handle

  pub held_less : (qs : List Pin) → qs ≡ remove ps at → w ≡ without_pin p.handle.n v
      → AreHeld qs w
  held_less qs less left = ap marks_of less ∙ (pin_there h at p ps v.pins held new is).rest
      ∙ sym (ap (λ (z : View). map mark_in z.pins) (left_by left))

  pub gave_pin : w ≡ without_pin p.handle.n v → UnpinGoes h v answer.Done w
  gave_pin left = inr (record {
    some = (pin_there h at p ps v.pins held new is).some;
    told = refl;
    left = left_by left;
  })

-- ---- all pins, one after another
-- the record changed in its pins alone
abbrev pub PinsAlone : View → View → Type 0
PinsAlone v w = w ≡ record v { pins = w.pins }

pub pins_less : (h : ℕ) (v m w : View) → PinsAlone v m → w ≡ without_pin h m → PinsAlone v w
pins_less h v m w alone left = left
    ∙ ap (λ (z : View). record z { pins = (without_pin h m).pins }) alone
    ∙ ap (λ (l : List Stand). record v { pins = l }) (sym (ap (λ (z : View). z.pins) left))

none_left : (l : List Stand) → length l ≡ 0 → l ≡ []
none_left [] e = refl
none_left (p ∷ l) e = absurd (omega (arith, e))

pub all_left : (ps : List Pin) (v w : View) → PinsAlone v w → AreHeld ps w → length ps ≡ 0
    → w ≡ unpinned_all v
all_left ps v w alone held e = alone
    ∙ ap (λ (l : List Stand). record v { pins = l })
    (none_left w.pins (sym (held_count ps w held) ∙ e))
