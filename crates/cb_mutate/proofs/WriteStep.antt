-- A write over a still desk is a step.
use Rattle.std.proofs.Common.{◌≡◌, ◌⊎◌, ℕ, Bool, true, ◌+◌, ◌≤◌, nat_lt, List, length, set, sym, ap, ◌∙◌, subst, inl, inr, if◌then◌else◌}
use Rattle.std.proofs.lemmas.Bool.{lt-ltb, le-ltb}
use Rattle.cb_ptr.specs.declared.word.State.TheVariants as state
use Rattle.cb_ptr.specs.Word.{state_of, len_of, place_of, pins_of}
use Rattle.cb_types.specs.declared.reply.Reply.{Reply}
use Rattle.cb_types.specs.declared.reply.Reply.TheVariants as answer
use Rattle.cb_world.specs.declared.access.Access.{Access}
use Rattle.cb_world.specs.declared.shown.Shown.{Shown}
use Rattle.cb_world.specs.Memory.{put}
use Rattle.cb_world.specs.Write.{IsWrite}
use Rattle.cb_world.specs.Played.{played}
use Rattle.cb_world.specs.Plain.{Words}
use Rattle.cb_world.specs.Looks.{IsTaken}
use Rattle.cb_world.specs.Grasped.{IsFree}
use Rattle.cb_world.specs.FarState.{FarState}
use Rattle.cb_world.specs.World.{word_at, IsKnown}
use Rattle.cb_world.specs.StillWords.{stamp_at}
use Rattle.cb_world.specs.StillDesk.{plain_follows, plain_stays}
use Rattle.cb_world.proofs.Laws.{hot_exact, PerformsStill, RunsStill, runs_still, known_then, stays_still}
use Rattle.cb_mutate.specs.WriteRule.{NextVersion, WriteHere, WriteRule, IsWritten, WriteEffect}
use Rattle.cb_mutate.specs.StillReplies.{next_reply, change_reply, write_reply}
use Rattle.cb_mutate.specs.CallStep.{WriteChange, IsOverwritten, IsWriteStep}
use Rattle.cb_mutate.specs.Wordwise.{IsWordwise}
use Rattle.cb_mutate.proofs.Stepping.{IsExact, is_exact, ComesTo, comes, reply_comes, next_comes, change_comes}

-- every word after a write that was answered a version
overwritten : (x y : Words) (far : FarState) (s : Shown) (es : List Access) (h n at : ℕ)
    (bytes : List ℕ) → RunsStill x y far s es → IsExact x h es → IsFree (word_at x h)
    → IsWritten h n at bytes es s (played es s) → IsOverwritten x y h n at bytes
overwritten x y far s es h n at bytes r exact free z =
    let shows = (plain_follows es x y s r.ran r.known.shows).1 in
    let settings = plain_stays x y es r.ran in
    let words = hot_exact x y far s es h r.known r.ran r.allowed free z.objects
    (z.hots ∙ ap (λ (t : Shown). set t.hots h true) r.told) in
    let versions = sym shows.versions ∙ z.versions
    ∙ ap (λ (t : Shown). set t.versions h n) r.told
    ∙ ap (λ (l : List ℕ). set l h n) r.known.shows.versions in
    let memory = sym shows.memory ∙ z.memory
    ∙ ap (λ (t : Shown). put t.memory (place_of z.word) z.new) r.told
    ∙ ap (λ (l : List ℕ). put l (place_of z.word) z.new) r.known.shows.memory
    ∙ ap (λ (w : ℕ). put x.memory (place_of w) z.new) (exact.found z.word z.found) in
    record {
      words = z.new;
      write = subst (λ (l : List ℕ). IsWrite l at bytes z.new)
          (exact.taken z.version z.words z.taken).1 z.write;
      wordwise = subst (λ (l : List ℕ). IsWordwise l at (length bytes) z.new)
          (exact.taken z.version z.words z.taken).1 z.wordwise;
      left = λ i. record {
        settings = settings i;
        words = words i;
        versions = versions i;
        memory = memory i;
      };
    }

-- What a write leaves, by its reply: as its effect says it, and as a step does.
abbrev Does : ℕ → ℕ → List ℕ → List Access → Shown → Reply → Type 0
Does h at bytes es s q = WriteEffect h at bytes q es s (played es s)

abbrev Leaves : Words → Words → ℕ → ℕ → List ℕ → Reply → Type 0
Leaves x y h at bytes q = WriteChange q x y h at bytes

here_comes : (x y : Words) (far : FarState) (s : Shown) (es : List Access) (h at : ℕ)
    (bytes : List ℕ) (r : Reply) → RunsStill x y far s es → IsExact x h es
    → state_of (word_at x h) ≡ state.Here → Does h at bytes es s r
    → WriteHere h at bytes es r (word_at x h)
    → ComesTo (Does h at bytes es s) (Leaves x y h at bytes) r
    (if nat_lt (len_of (word_at x h)) (at + length bytes) then answer.Range (len_of
    (word_at x h)) else
    change_reply (word_at x h) (stamp_at x h))
here_comes x y far s es h at bytes r runs exact here effect rule = by rule
  where
    w : ℕ
    w = word_at x h

    by : WriteHere h at bytes es r w → ComesTo (Does h at bytes es s) (Leaves x y h at bytes) r
        (if nat_lt (len_of w) (at + length bytes) then answer.Range (len_of w) else
        change_reply w (stamp_at x h))
    by (inl a) = subst (ComesTo (Does h at bytes es s) (Leaves x y h at bytes) r)
        (ap (λ (b : Bool). if b then answer.Range (len_of w) else change_reply w (stamp_at x h))
        (sym (lt-ltb (len_of w) (at + length bytes) a.0)))
        (comes (Does h at bytes es s) (Leaves x y h at bytes) r (answer.Range (len_of w)) a.1 effect
        (stays_still x y far s es runs))
    by (inr a) = subst (ComesTo (Does h at bytes es s) (Leaves x y h at bytes) r)
        (ap (λ (b : Bool). if b then answer.Range (len_of w) else change_reply w (stamp_at x h))
        (sym (le-ltb (len_of w) (at + length bytes) a.0)))
        (change_comes (Does h at bytes es s) (Leaves x y h at bytes) w (stamp_at x h) r effect
        (stays_still x y far s es runs) (claimed a.1))
      where
        claimed : ((1 ≤ pins_of w) × (r ≡ answer.Pinned (pins_of w)))
            ⊎ ((pins_of w ≡ 0)
            × ((v : ℕ) × (words : List ℕ) × IsTaken h v words es × NextVersion v r))
            → ((1 ≤ pins_of w) × (r ≡ answer.Pinned (pins_of w)))
            ⊎ ((pins_of w ≡ 0) × ComesTo (Does h at bytes es s) (Leaves x y h at bytes) r
            (next_reply (stamp_at x h)))
        claimed (inl b) = inl b
        claimed (inr b) = inr (
          b.0,
          next_comes (Does h at bytes es s) (Leaves x y h at bytes) b.1.0 (stamp_at x h) r
              (exact.taken b.1.0 b.1.1 b.1.2).0 (stays_still x y far s es runs)
              (overwritten x y far s es h (stamp_at x h + 1) at bytes runs exact (here, b.0)) b.1.3
              effect,
        )

-- Over a still desk of which all is known a write is a step, and all is known of it afterwards.
pub write_step : (x y : Words) (far new : FarState) (s : Shown) (h at : ℕ) (bytes : List ℕ)
    (r : Reply) → IsKnown x far s
    → (p : PerformsStill x y far new (WriteRule h at bytes r) (WriteEffect h at bytes r))
    → IsWriteStep x y h at bytes r × IsKnown y new (played p.events s)
write_step x y far new s h at bytes r k p =
    let es = p.events in
    let runs = runs_still x y far new (WriteRule h at bytes r) (WriteEffect h at bytes r) s k p in
    let exact = is_exact x y h es p.ran.0 p.looks_first p.rule.settles_last in
    let effect = p.effect s ((k.sized, k.shows), k.sound) in
    let w = p.rule.word in let e = exact.found w p.rule.found in
    let back = stays_still x y far s es runs in
    let c = subst (λ (n : ℕ). ComesTo (Does h at bytes es s) (Leaves x y h at bytes) r
    (write_reply n (stamp_at x h) at (length bytes))) e
    (reply_comes (Does h at bytes es s) (Leaves x y h at bytes) (state_of w)
    (WriteHere h at bytes es r)
    (if nat_lt (len_of w) (at + length bytes) then answer.Range (len_of w) else
    change_reply w (stamp_at x h)) w h (stamp_at x h) es r
    (record { unmade = back; freed = back; not_here = back; moving = back }) exact.told
    (λ here rule. subst (λ (n : ℕ). ComesTo (Does h at bytes es s) (Leaves x y h at bytes) r
    (if nat_lt (len_of n) (at + length bytes) then answer.Range (len_of n) else
    change_reply n (stamp_at x h))) (sym e)
    (here_comes x y far s es h at bytes r runs exact (ap state_of (sym e) ∙ here) effect
    (subst (WriteHere h at bytes es r) e rule)))
    p.rule.answer effect) in (
      record { reply = c.reply; change = c.change },
      known_then x y far new (WriteRule h at bytes r) (WriteEffect h at bytes r) s k p,
    )
