-- By which replies a turn tells that a command is refused.
use Rattle.std.proofs.Common.{◌≡◌, ◌⊎◌, ℕ, Bool, List, [], Some, refl, subst, inl, inr}
use Rattle.cb_member.specs.declared.names.Loss.{Loss}
use Rattle.cb_types.specs.declared.config.Config.{Config}
use Rattle.cb_types.specs.declared.handle.Handle.{Handle}
use Rattle.cb_types.specs.declared.handle.SetId.{SetId}
use Rattle.cb_types.specs.declared.job.Job.{Job}
use Rattle.cb_types.specs.declared.job.Job.TheVariants as job
use Rattle.cb_types.specs.declared.reply.Reply.{Reply}
use Rattle.cb_types.specs.declared.reply.Reply.TheVariants as answer
use Rattle.cb_types.specs.declared.request.Request.TheVariants as line
use Rattle.cb_types.specs.Table.{IsReplyOf}
use Rattle.cb_world.specs.declared.access.Access.{Access}
use Rattle.cb_world.specs.declared.shown.Shown.{Shown}
use Rattle.cb_world.specs.FarState.{FarState}
use Rattle.cb_core.specs.Jobs.{NeedsNoOrder}
use Rattle.cb_rule.specs.declared.view.View.{View}
use Rattle.cb_shared.specs.Calls.{IsAnswer, IsAnswerTo, IsLack, TellsWhatIs}
use Rattle.cb_shared.specs.Turning.{DidAs, ReadsByPin, slate_run, slate_shows}
use Rattle.cb_farmap.specs.Commands.{IsMake, IsOnObject, IsOutOfPlace}
use Rattle.cb_lanes.proofs.Laws.{room_for, turned_so, write_where}

-- want of handles, of room or of turns, or a set that has lost too much
pub data Want (j : Job) (r : Reply) : Type 0 where
  full : (n : ℕ) → IsMake j → r ≡ answer.Full n → Want j r
  room : (frames loose nodes : ℕ) → r ≡ answer.NoRoom frames loose nodes → Want j r
  worn : r ≡ answer.Worn → Want j r
  lost : (id : SetId) (losses : List Loss) → r ≡ answer.Unavailable id losses → Want j r

make_want : (bytes : List ℕ) (r : Reply) → IsMake (job.Make bytes)
    → IsReplyOf (line.Make [] bytes) r → (IsOutOfPlace (job.Make bytes) r → ⊥) → Want (job.Make bytes) r
make_want bytes (answer.Made handle version) is x off = absurd (off tt)
make_want bytes (answer.Full n) is x off = full n is refl
make_want bytes (answer.NoRoom frames loose nodes) is x off = room frames loose nodes refl
make_want bytes answer.Worn is x off = worn refl
make_want bytes r is x off = absurd x

lack_want : (again : Bool) (j : Job) (r : Reply) → IsLack again r → Want j r
lack_want again j (answer.Unavailable id losses) x = lost id losses refl
lack_want again j (answer.NoRoom frames loose nodes) x = room frames loose nodes refl
lack_want again j answer.Worn x = worn refl
lack_want again j r x = absurd x

read_want : (again : Bool) (h : Handle) (r : Reply) → TellsWhatIs r ⊎ IsLack again r
    → (IsOutOfPlace (job.Read h) r → ⊥) → Want (job.Read h) r
read_want again h (answer.Bytes version bytes) (inl x) off = absurd (off tt)
read_want again h answer.Freed (inl x) off = absurd (off tt)
read_want again h r (inl x) off = absurd x
read_want again h r (inr x) off = lack_want again (job.Read h) r x

write_want : (again : Bool) (h : Handle) (at : ℕ) (bytes : List ℕ) (r : Reply)
    → IsReplyOf (line.Write [] at bytes) r → IsAnswer again r
    → (IsOutOfPlace (job.Write h at bytes) r → ⊥) → Want (job.Write h at bytes) r
write_want again h at bytes (answer.Version version) x answers off = absurd (off tt)
write_want again h at bytes (answer.NoRoom frames loose nodes) x answers off =
    room frames loose nodes refl
write_want again h at bytes answer.Unmade x (inl a) off = absurd a
write_want again h at bytes answer.Unmade x (inr a) off = absurd a
write_want again h at bytes answer.Freed x answers off = absurd (off tt)
write_want again h at bytes answer.Moving x (inl a) off = absurd a
write_want again h at bytes answer.Moving x (inr a) off = absurd a
write_want again h at bytes (answer.Unavailable id losses) x answers off = lost id losses refl
write_want again h at bytes (answer.Range len) x answers off = absurd (off tt)
write_want again h at bytes (answer.Pinned count) x answers off = absurd (off tt)
write_want again h at bytes answer.Worn x answers off = worn refl
write_want again h at bytes r x answers off = absurd x

here_again : (again : Bool) (r : Reply) → IsAnswer again r → r ≡ answer.NotHere → ⊥
here_again again r x is = by (subst (IsAnswer again) is x)
  where
    by : IsAnswer again answer.NotHere → ⊥
    by (inl y) = y
    by (inr y) = y

-- so of a turn that makes an object, or is on one
module _ (c : Config) (start : Shown) (es : List Access) (took gave : FarState) (v : View) where
  pub turn_want : (again : Bool) (j : Job) (r : Reply) → IsMake j ⊎ IsOnObject v j
      → IsAnswerTo again j r → (IsOutOfPlace j r → ⊥)
      → (NeedsNoOrder j → DidAs c j (Some r) start es took gave) → Want j r
  turn_want again (job.Make bytes) r (inl is) answers off did = make_want bytes r is
      (turned_so slate_run slate_shows c ReadsByPin (job.Make bytes) (line.Make [] bytes) r _ _
      (λ does. room_for slate_run slate_shows c [] bytes _ _ r does) tt (did tt)) off
  turn_want again (job.Swap h) r is answers off did = lack_want again (job.Swap h) r answers
  turn_want again (job.Fetch h) r is answers off did = lack_want again (job.Fetch h) r answers
  turn_want again job.Land r is answers off did = worn answers
  turn_want again (job.Read h) r is answers off did = read_want again h r answers off
  turn_want again (job.Write h at bytes) r is answers off did = write_want again h at bytes r
      (turned_so slate_run slate_shows c ReadsByPin (job.Write h at bytes) (line.Write [] at bytes) r
      _ _ (λ does. write_where slate_run slate_shows c [] bytes h.n at _ _ r
      (here_again again r answers) does) tt (did tt)) answers off
  turn_want again (job.Make bytes) r (inr is) answers off did = absurd is
  turn_want again j r (inl is) answers off did = absurd is
  turn_want again j r (inr is) answers off did = absurd is
