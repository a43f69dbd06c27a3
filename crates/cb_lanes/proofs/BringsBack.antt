-- What a line backs that a turn told why its object can't be brought in.
use Rattle.std.proofs.Common.{◌≡◌, ℕ, Bool, List, [], ◌∷◌, Some, Ok, inr, refl, sym, ◌∙◌, subst}
use Rattle.cb_types.specs.declared.config.Config.{Config}
use Rattle.cb_types.specs.declared.job.Job.{Job}
use Rattle.cb_types.specs.declared.reply.Reply.{Reply}
use Rattle.cb_types.specs.declared.reply.Reply.TheVariants as answer
use Rattle.cb_types.specs.declared.request.Request.{Request}
use Rattle.cb_types.specs.declared.request.Request.TheVariants.{Read, Write, Pin}
use Rattle.cb_rule.specs.declared.view.View.{View}
use Rattle.cb_record.specs.Backs.{Backs, EntersAt, happened_at, pins_at, turn_at}
use Rattle.cb_record.specs.Deeds.{Deed}
use Rattle.cb_record.specs.Lists.{HasOne, IsSublist, beside, ended}
use Rattle.cb_record.specs.Needs.{IsTurnFor, Meets, need_of, own_job}
use Rattle.cb_record.specs.Parts.{Part}
use Rattle.cb_shared.specs.Calls.{AnswersBy, Brings, IsLack, again_in}
use Rattle.cb_shared.specs.Turning.{TurnAdds, turn_part}
use Rattle.cb_shared.proofs.Laws.{brings_idly, brings_lack, brings_none}
use Rattle.cb_lanes.proofs.Backing.{IsLast, is_last, its_bringing, told_as, turn_backs}
use Rattle.cb_lanes.proofs.Lacks.{by_lack}

-- what a line needs is met where the part has a turn of its own job so answered
abbrev NeedsTurn : ℕ → Request → Part → Reply → Type 0
NeedsTurn h q d r = HasOne (IsTurnFor (own_job (Some h) q) (Some h) r) d.turns
    → Meets d (need_of (Some h) q r)

-- what a line needs of such a turn
pub record IsByBringing (h : ℕ) (q : Request) : Type 0 where
  pub enters : (again : Bool) (r : Reply) → IsLack again r → EntersAt (Some h) q r []
  pub turned : (r : Reply) → turn_at (Some h) q r ≡ []
  pub happens : (r : Reply) → happened_at q r ≡ []
  pub no_pin : (again : Bool) (r : Reply) → IsLack again r → pins_at q r ≡ 0
  pub needs : (d : Part) (again : Bool) (r : Reply) → IsLack again r → NeedsTurn h q d r

-- it is one for the line, which is not made again
lack_last : (c : Config) (j : Job) (r : Reply) (v : View) (d : Part) → IsLack (again_in d.turns) r
    → (x : TurnAdds c j (Ok r) v d) → IsLast x.turn r
lack_last c j (answer.Unavailable s l) v d lack x = refl
lack_last c j (answer.NoRoom f l n) v d lack x = is_last c j (answer.NoRoom f l n) v d x lack
lack_last c j answer.Worn v d lack x = refl
lack_last c j r v d lack x = absurd lack

pub bring_backs : (c : Config) (h : ℕ) (q : Request) (r : Reply) (v : View) (d : Part)
    → IsByBringing h q → AnswersBy c (Brings h) r v d → Backs d (told_as (Some h) q r ∷ [])
bring_backs c h q r v d by x = turn_backs c x.job (Some h) q r v d t (record {
  enters = λ es wrote. subst (EntersAt (Some h) q r) (sym (brings_none h x.job r es x.of wrote))
      (by.enters (again_in d.turns) r lack);
  no_pin = by.no_pin (again_in d.turns) r lack;
  turned = subst (λ (l : List Deed). IsSublist l (record { job = x.job; reply = Some r } ∷ []))
      (sym (by.turned r)) (beside [] _ [] ended);
  happens = brings_idly h x.job r x.of ∙ sym (by.happens r);
}) (by.needs (turn_part t.turn t.more t.within t.later) (again_in d.turns) r lack
    (its_bringing c (own_job (Some h) q) h (again_in d.turns) x.job r v d x.of x.ends.0 t
    (lack_last c x.job r v d lack t)))
  where
    t : TurnAdds c x.job (Ok r) v d
    t = x.ends.1

    lack : IsLack (again_in d.turns) r
    lack = brings_lack c h r v d x

pub read_by_bringing : (h : ℕ) (name : List ℕ) → IsByBringing h (Read name)
read_by_bringing h name = record {
  enters = λ again r lack. refl;
  turned = λ r. refl;
  happens = λ r. refl;
  no_pin = by_lack (λ (r : Reply). pins_at (Read name) r ≡ 0) (λ s l. refl) (λ f l n. refl) refl;
  needs = λ d. by_lack (NeedsTurn h (Read name) d) (λ s l one. one) (λ f l n one. one) (λ one. one);
}

pub pin_by_bringing : (h : ℕ) (name : List ℕ) → IsByBringing h (Pin name)
pin_by_bringing h name = record {
  enters = λ again r lack. refl;
  turned = λ r. refl;
  happens = λ r. refl;
  no_pin = by_lack (λ (r : Reply). pins_at (Pin name) r ≡ 0) (λ s l. refl) (λ f l n. refl) refl;
  needs = λ d. by_lack (NeedsTurn h (Pin name) d) (λ s l one. one) (λ f l n one. one) (λ one. one);
}

pub write_by_bringing : (h at : ℕ) (name bytes : List ℕ) → IsByBringing h (Write name at bytes)
write_by_bringing h at name bytes = record {
  enters = by_lack (λ (r : Reply). EntersAt (Some h) (Write name at bytes) r []) (λ s l. refl)
      (λ f l n. refl) refl;
  turned = λ r. refl;
  happens = λ r. refl;
  no_pin = λ again r lack. refl;
  needs = λ d. by_lack (NeedsTurn h (Write name at bytes) d) (λ s l one. one) (λ f l n one. one)
      (λ one. inr one);
}
