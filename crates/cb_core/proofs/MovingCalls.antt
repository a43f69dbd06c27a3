-- A turn on an object whose word is Moving is answered so.
use Rattle.std.proofs.Common.{◌≡◌, ℕ, ◌+◌, ◌^◌, ◌<◌, List, [], length, Option, ap, ◌∙◌, if◌then◌else◌}
use Rattle.std.specs.Prelude.{nat_lt}
use Rattle.cb_ptr.specs.declared.word.State.{State}
use Rattle.cb_ptr.specs.declared.word.State.TheVariants as state
use Rattle.cb_ptr.specs.Word.{state_of, len_of}
use Rattle.cb_types.specs.declared.handle.Handle.{Handle}
use Rattle.cb_types.specs.declared.job.Job.TheVariants as job
use Rattle.cb_types.specs.declared.request.Request.TheVariants.{Read, Write, Free}
use Rattle.cb_types.specs.declared.reply.Reply.{Reply}
use Rattle.cb_types.specs.declared.reply.Reply.TheVariants as answer
use Rattle.cb_model.specs.Event.{event_of}
use Rattle.cb_model.specs.Event.Event.{Refused}
use Rattle.cb_model.specs.Event.Subject.{Contents}
use Rattle.cb_world.specs.Memory.{bytes_in}
use Rattle.cb_world.specs.Plain.{Words}
use Rattle.cb_world.specs.StillWords.{stamp_at, contents_at}
use Rattle.cb_world.specs.World.{WorldState, word_at}
use Rattle.cb_mutate.specs.StillReplies.{change_reply, free_as, reply_as}
use Rattle.cb_core.specs.Parts.{Holding, NeverDeclined, WhereItIs, near, declined, stays_far, brought}
use Rattle.cb_core.specs.Step.{StillRead, StillWrite, StillDecline, StillBring, TurnStep}
use Rattle.cb_core.proofs.TurnCalls.{held_at, held_then, is_done}

-- the object's word is Moving
abbrev pub IsMoving : Words → ℕ → Type 0
IsMoving desk h = state_of (word_at desk h) ≡ state.Moving

here_is_not : answer.NotHere ≡ answer.Moving → ⊥
here_is_not e = cc

-- a call that tells so of a Moving object tells so wherever it might be
where_moving : (call : Holding Words → Reply → Holding Words → Type 0)
    (look : Holding Words → Option Reply → Holding Words → Type 0) (h : ℕ)
    → ((x y : Holding Words) (q : Reply) → IsMoving x.desk h → call x q y → q ≡ answer.Moving)
    → (a b : Holding Words) (r : Reply) → IsMoving a.desk h → WhereItIs call look (StillBring h) a r b
    → r ≡ answer.Moving
where_moving call look h tells a b r moving (near c never) = tells a b r moving c
where_moving call look h tells a b r moving (declined m c l) =
    absurd (here_is_not (tells a m answer.NotHere moving c))
where_moving call look h tells a b r moving (stays_far m n c l bring never) =
    absurd (here_is_not (tells a m answer.NotHere moving c))
where_moving call look h tells a b r moving (brought m n o f c l bring again) =
    absurd (here_is_not (tells a m answer.NotHere moving c))

read_tells : (h : ℕ) (a b : Holding Words) (r : Reply) → IsMoving a.desk h → StillRead h a r b
    → r ≡ answer.Moving
read_tells h a b r moving c = c.0.reply ∙ ap (λ (q : State). reply_as q (stamp_at a.desk h)
    (answer.Bytes (stamp_at a.desk h) (bytes_in (contents_at a.desk h) (len_of (word_at a.desk h)))))
    moving

write_tells : (h at : ℕ) (bytes : List ℕ) (a b : Holding Words) (r : Reply) → IsMoving a.desk h
    → StillWrite h at bytes a r b → r ≡ answer.Moving
write_tells h at bytes a b r moving c = c.0.reply ∙ ap (λ (q : State). reply_as q (stamp_at a.desk h)
    (if nat_lt (len_of (word_at a.desk h)) (at + length bytes)
    then answer.Range (len_of (word_at a.desk h))
    else change_reply (word_at a.desk h) (stamp_at a.desk h))) moving

pub read_moving : (w new : WorldState) (handle : Handle) (r : Reply) → w.far.counts.turns < 2 ^ 40
    → TurnStep (job.Read handle) w r new → IsMoving w.desk handle.n
    → event_of (Read []) r ≡ Refused Contents
read_moving w new handle r few step moving = ap (event_of (Read []))
    (where_moving (StillRead handle.n) NeverDeclined handle.n
    (λ x y q m c. read_tells handle.n x y q m c) (held_at w (job.Read handle)) (held_then new) r moving
    (is_done (job.Read handle) w new r few step))

pub write_moving : (w new : WorldState) (handle : Handle) (at : ℕ) (bytes : List ℕ) (r : Reply)
    → w.far.counts.turns < 2 ^ 40 → TurnStep (job.Write handle at bytes) w r new
    → IsMoving w.desk handle.n → event_of (Write [] at bytes) r ≡ Refused Contents
write_moving w new handle at bytes r few step moving = ap (event_of (Write [] at bytes))
    (where_moving (StillWrite handle.n at bytes) (StillDecline handle.n at (length bytes)) handle.n
    (λ x y q m c. write_tells handle.n at bytes x y q m c) (held_at w (job.Write handle at bytes))
    (held_then new) r moving (is_done (job.Write handle at bytes) w new r few step))

pub free_moving : (w new : WorldState) (handle : Handle) (r : Reply) → w.far.counts.turns < 2 ^ 40
    → TurnStep (job.Free handle) w r new → IsMoving w.desk handle.n
    → event_of (Free []) r ≡ Refused Contents
free_moving w new handle r few step moving = ap (event_of (Free []))
    ((is_done (job.Free handle) w new r few step).reply
    ∙ ap (λ (q : State). free_as q (stamp_at w.desk handle.n)
    (change_reply (word_at w.desk handle.n) (stamp_at w.desk handle.n))) moving)
