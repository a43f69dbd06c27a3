-- A free over a still desk is a step.
use Rattle.std.proofs.Common.{◌≡◌, ◌⊎◌, ℕ, false, ◌+◌, ◌≤◌, List, set, sym, ap, ◌∙◌, subst, inl, inr}
use Rattle.cb_ptr.specs.declared.word.State.{State}
use Rattle.cb_ptr.specs.declared.word.State.TheVariants as state
use Rattle.cb_ptr.specs.Word.{state_of, pins_of}
use Rattle.cb_types.specs.declared.reply.Reply.{Reply}
use Rattle.cb_types.specs.declared.reply.Reply.TheVariants as answer
use Rattle.cb_world.specs.declared.access.Access.{Access}
use Rattle.cb_world.specs.declared.shown.Shown.{Shown}
use Rattle.cb_world.specs.Played.{played}
use Rattle.cb_world.specs.Plain.{Words}
use Rattle.cb_world.specs.Still.{IsStill}
use Rattle.cb_world.specs.FarState.{FarState}
use Rattle.cb_world.specs.World.{word_at, IsKnown}
use Rattle.cb_world.specs.StillWords.{stamp_at}
use Rattle.cb_world.specs.StillDesk.{plain_follows, plain_stays}
use Rattle.cb_world.proofs.Laws.{empty_exact, PerformsStill, RunsStill, runs_still, known_then, stays_still}
use Rattle.cb_mutate.specs.Answered.{AnsweredAs}
use Rattle.cb_mutate.specs.FreeRule.{FreeAs, FreeHere, FreeRule, FreeFar, FreeEffect, IsGone, LeavesPlace}
use Rattle.cb_mutate.specs.StillReplies.{next_reply, change_reply, free_as, free_reply, reply_as}
use Rattle.cb_mutate.specs.CallStep.{FreeChange, IsTakenOut, IsFreeStep}
use Rattle.cb_mutate.proofs.Stepping.{IsExact, is_exact, ComesTo, reply_comes, next_comes, change_comes}

-- every word after a free that was answered a version
taken_out : (x y : Words) (far new : FarState) (s : Shown) (es : List Access) (h n : ℕ)
    → RunsStill x y far s es
    → IsGone h n es s (played es s) × LeavesPlace (state_of (word_at x h)) far new h
    → IsTakenOut x y far new h n
taken_out x y far new s es h n r z =
    let shows = (plain_follows es x y s r.ran r.known.shows).1 in
    let settings = plain_stays x y es r.ran in
    let words = empty_exact x y far s es h n r.known r.ran r.allowed z.0.objects
    (z.0.hots ∙ ap (λ (t : Shown). set t.hots h false) r.told) in
    let versions = sym shows.versions ∙ z.0.versions
    ∙ ap (λ (t : Shown). set t.versions h n) r.told
    ∙ ap (λ (l : List ℕ). set l h n) r.known.shows.versions in
    let memory = sym shows.memory ∙ z.0.memory ∙ ap (λ (t : Shown). t.memory) r.told
    ∙ r.known.shows.memory in
    record {
      left = λ i. record {
        settings = settings i;
        words = words i;
        versions = versions i;
        memory = memory i;
      };
      leaves = z.1;
    }

-- What a free leaves, by its reply: as its rule and its effect say it, and as a step does.
abbrev Does : ℕ → ℕ → FarState → FarState → List Access → Shown → Reply → Type 0
Does w h far new es s q = FreeEffect h q es s (played es s) × FreeFar w h q far new

abbrev Leaves : Words → Words → FarState → FarState → ℕ → Reply → Type 0
Leaves x y far new h q = FreeChange q x y far new h

-- a free that was refused leaves every word, and the far state
free_back : (x y : Words) (far new : FarState) (s : Shown) (es : List Access)
    → RunsStill x y far s es → IsStill es s (played es s) × (new ≡ far) → (y ≡ x) × (new ≡ far)
free_back x y far new s es runs e = (stays_still x y far s es runs e.0, e.1)

here_comes : (x y : Words) (far new : FarState) (s : Shown) (es : List Access) (h : ℕ) (r : Reply)
    → RunsStill x y far s es → IsExact x h es → Does (word_at x h) h far new es s r
    → FreeHere h es r (word_at x h)
    → ComesTo (Does (word_at x h) h far new es s) (Leaves x y far new h) r
    (change_reply (word_at x h) (stamp_at x h))
here_comes x y far new s es h r runs exact effect rule =
    change_comes (Does (word_at x h) h far new es s) (Leaves x y far new h) (word_at x h) (stamp_at x h) r effect
    (free_back x y far new s es runs) (claimed rule)
  where
    claimed : FreeHere h es r (word_at x h)
        → ((1 ≤ pins_of (word_at x h)) × (r ≡ answer.Pinned (pins_of (word_at x h))))
        ⊎ ((pins_of (word_at x h) ≡ 0) × ComesTo (Does (word_at x h) h far new es s) (Leaves x y far new h) r
        (next_reply (stamp_at x h)))
    claimed (inl b) = inl b
    claimed (inr b) = inr (
      b.0,
      next_comes (Does (word_at x h) h far new es s) (Leaves x y far new h) b.1.0 (stamp_at x h) r
          (exact.taken b.1.0 b.1.1 b.1.2).0 (free_back x y far new s es runs)
          (taken_out x y far new s es h (stamp_at x h + 1) runs) b.1.3 effect,
    )

-- an object that is not far
near_comes : (q : State) (x y : Words) (far new : FarState) (s : Shown) (es : List Access)
    (h w : ℕ) (r : Reply) → RunsStill x y far s es → IsExact x h es
    → Does (word_at x h) h far new es s r → w ≡ word_at x h
    → AnsweredAs q (FreeHere h es r) w h es r
    → ComesTo (Does (word_at x h) h far new es s) (Leaves x y far new h) r
    (reply_as q (stamp_at x h) (change_reply w (stamp_at x h)))
near_comes q x y far new s es h w r runs exact effect e a =
    let back = free_back x y far new s es runs in
    reply_comes (Does (word_at x h) h far new es s) (Leaves x y far new h) q (FreeHere h es r)
    (change_reply w (stamp_at x h)) w h (stamp_at x h) es r
    (record { unmade = back; freed = back; not_here = back; moving = back }) exact.told
    (λ here found. subst (λ (n : ℕ). ComesTo (Does (word_at x h) h far new es s)
    (Leaves x y far new h) r (change_reply n (stamp_at x h))) (sym e)
    (here_comes x y far new s es h r runs exact effect (subst (FreeHere h es r) e found)))
    a effect

-- by the state of the word
free_comes : (q : State) (x y : Words) (far new : FarState) (s : Shown) (es : List Access)
    (h w : ℕ) (r : Reply) → RunsStill x y far s es → IsExact x h es
    → Does (word_at x h) h far new es s r → w ≡ word_at x h → FreeAs q w h es r
    → ComesTo (Does (word_at x h) h far new es s) (Leaves x y far new h) r
    (free_as q (stamp_at x h) (change_reply w (stamp_at x h)))
free_comes state.Far x y far new s es h w r runs exact effect e a =
    next_comes (Does (word_at x h) h far new es s) (Leaves x y far new h) a.0 (stamp_at x h) r
    (exact.told a.0 a.1) (free_back x y far new s es runs)
    (taken_out x y far new s es h (stamp_at x h + 1) runs) a.2 effect
free_comes state.Empty x y far new s es h w r runs exact effect e a =
    near_comes state.Empty x y far new s es h w r runs exact effect e a
free_comes state.Here x y far new s es h w r runs exact effect e a =
    near_comes state.Here x y far new s es h w r runs exact effect e a
free_comes state.Moving x y far new s es h w r runs exact effect e a =
    near_comes state.Moving x y far new s es h w r runs exact effect e a

-- Over a still desk of which all is known a free is a step, and all is known of it afterwards.
pub free_step : (x y : Words) (far new : FarState) (s : Shown) (h : ℕ) (r : Reply)
    → IsKnown x far s
    → (p : PerformsStill x y far new (FreeRule h far new r) (FreeEffect h r))
    → IsFreeStep x y far new h r × IsKnown y new (played p.events s)
free_step x y far new s h r k p =
    let es = p.events in
    let runs = runs_still x y far new (FreeRule h far new r) (FreeEffect h r) s k p in
    let rule = p.rule.reply in
    let exact = is_exact x y h es p.ran.0 p.looks_first rule.settles_last in
    let w = rule.word in let e = exact.found w rule.found in
    let effect : Does (word_at x h) h far new es s r = (
      p.effect s ((k.sized, k.shows), k.sound),
      subst (λ (n : ℕ). FreeFar n h r far new) e p.rule.state,
    ) in
    let c = subst (λ (n : ℕ). ComesTo (Does (word_at x h) h far new es s) (Leaves x y far new h) r
    (free_reply n (stamp_at x h))) e
    (free_comes (state_of w) x y far new s es h w r runs exact effect e rule.answer) in (
      record { reply = c.reply; change = c.change },
      known_then x y far new (FreeRule h far new r) (FreeEffect h r) s k p,
    )
