-- A crash as a part of a turn.
use Rattle.std.proofs.Common.{◌≡◌, ◌⊎◌, ℕ, ◌<◌, List, length, ap, ◌∙◌, subst, inl, inr}
use Rattle.cb_member.specs.declared.names.NodeId.{NodeId}
use Rattle.cb_types.specs.declared.reply.Reply.{Reply}
use Rattle.cb_world.specs.declared.shown.Shown.{Shown}
use Rattle.cb_world.specs.FarState.{FarState}
use Rattle.cb_world.specs.Memory.{bytes_in}
use Rattle.cb_world.specs.NodeChanges.{crashed_far}
use Rattle.cb_world.specs.Now.{now, now_as}
use Rattle.cb_world.specs.Now.Now.{held, gone}
use Rattle.cb_world.specs.Plain.{Words}
use Rattle.cb_world.specs.Sound.{Sound}
use Rattle.cb_world.specs.World.{IsKnown}
use Rattle.cb_world.proofs.Laws.{BecomesGone, crash_now, node_crash_sound, now_same}
use Rattle.cb_core.specs.Membership.{CrashTurn, crashed, is_down}

-- each object holds what it held, or was held and is gone; as many were made
pub record IsMapLost (s t : Shown) (far new : FarState) : Type 0 where
  pub now : (h : ℕ) → (now t new h ≡ now s far h)
      ⊎ ((v : ℕ) × (bytes : List ℕ) × (now s far h ≡ held v bytes) × (now t new h ≡ gone v))
  pub first : new.first ≡ far.first
  pub made : new.made ≡ far.made

becomes_gone : (s : Shown) (far new : FarState) (h : ℕ) → BecomesGone s far new h
    → (v : ℕ) × (bytes : List ℕ) × (now s far h ≡ held v bytes) × (now s new h ≡ gone v)
becomes_gone s far new h z = (
  z.version,
  bytes_in z.words z.len,
  (λ i. now_as s h (z.before i) (z.away i)),
  z.now,
)

-- a crash, where all is known before it and after it of the same words
pub crash_map : (x : Words) (s t : Shown) (far new : FarState) (node : NodeId) (r : Reply)
    → IsKnown x far s → IsKnown x new t → node.n < length far.members.nodes → CrashTurn node far r new
    → IsMapLost s t far new
crash_map x s t far new node r k l within (is_down down reply same) = record {
  now = λ h. inl (ap (λ (f : FarState). now t f h) same
      ∙ now_same x s t far h k.shows k.sound l.shows (subst (λ (f : FarState). Sound t f) same l.sound));
  first = ap (λ (f : FarState). f.first) same;
  made = ap (λ (f : FarState). f.made) same;
}
crash_map x s t far new node r k l within (crashed up reply same) = record {
  now = λ h. by h (crash_now s far node h k.sound.away.sound within up);
  first = ap (λ (f : FarState). f.first) same;
  made = ap (λ (f : FarState). f.made) same;
}
  where
    then : (h : ℕ) → now t new h ≡ now s (crashed_far far node) h
    then h = ap (λ (f : FarState). now t f h) same
        ∙ now_same x s t (crashed_far far node) h k.shows (node_crash_sound s far node k.sound within up)
        l.shows (subst (λ (f : FarState). Sound t f) same l.sound)

    by : (h : ℕ) → (now s (crashed_far far node) h ≡ now s far h)
        ⊎ BecomesGone s far (crashed_far far node) h
        → (now t new h ≡ now s far h)
        ⊎ ((v : ℕ) × (bytes : List ℕ) × (now s far h ≡ held v bytes) × (now t new h ≡ gone v))
    by h (inl e) = inl (then h ∙ e)
    by h (inr z) = let lost = becomes_gone s far (crashed_far far node) h z in
        inr (lost.0, lost.1, lost.2, then h ∙ lost.3)
