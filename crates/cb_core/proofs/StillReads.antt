-- At the still desk a read that is first brought in is the read of an object wherever it is.
use Rattle.std.proofs.Common.{◌≡◌, ℕ, zero, suc, Bool, true, false, Option, None, Some, refl, sym, ap, ◌∙◌, subst, inl, inr, if◌then◌else◌}
use Rattle.std.proofs.lemmas.Bool.{false≢true}
use Rattle.cb_ptr.specs.declared.word.State.{State}
use Rattle.cb_ptr.specs.declared.word.State.TheVariants as state
use Rattle.cb_ptr.specs.Word.{state_of, len_of}
use Rattle.cb_frame.specs.Runs.{least_run}
use Rattle.cb_set.specs.Lost.{lost}
use Rattle.cb_set.specs.SetState.{SetState}
use Rattle.cb_types.specs.declared.reply.Reply.{Reply}
use Rattle.cb_types.specs.declared.reply.Reply.TheVariants as answer
use Rattle.cb_world.specs.FarState.{FarState}
use Rattle.cb_world.specs.Memory.{bytes_in}
use Rattle.cb_world.specs.Plain.{Words}
use Rattle.cb_world.specs.SetWord.{is_broken}
use Rattle.cb_world.specs.StillWords.{stamp_at, contents_at}
use Rattle.cb_world.specs.World.{word_at}
use Rattle.cb_mutate.specs.StillReplies.{reply_as}
use Rattle.cb_mutate.specs.CallStep.{ReadChange}
use Rattle.cb_swapin.specs.SwapRule.{swap_answer, frame_answer}
use Rattle.cb_core.specs.OnceHere.{IsThere, OnceHere, away, here, OnceHereStops, bringing_stops, call_stops}
use Rattle.cb_core.specs.Parts.{Holding, NeverDeclined, WithRoom, at_once, no_room, won, most_evictions, WhereItIs, near, stays_far, brought, BringsIn, not_far, was_far, CallStops}
use Rattle.cb_core.specs.Parts.CallStops.{near as lacks_near, far as lacks_far, after as lacks_after}
use Rattle.cb_core.specs.Step.{StillRead, StillFind, StillRoom, StillSwap, StillBring, StillBringLacks, StillReadLacks}
use Rattle.cb_core.proofs.TurnCallsReply.{read_is_here}

-- an object comes in at the still desk; and where that lacked memory
abbrev pub StillComes : ℕ → Holding Words → Reply → Holding Words → Type 0
StillComes h = BringsIn (StillFind h) (StillBring h)

abbrev pub StillComeLacks : ℕ → Holding Words → Holding Words → Type 0
StillComeLacks h a b = (m : Holding Words) × StillFind h a answer.NotHere m × StillBringLacks h m b

-- ---- which replies tell that an object is here
abbrev is_there : Reply → Bool
is_there answer.Stays = true
is_there (answer.Swapped f) = true
is_there r = false

there_so : (r : Reply) → IsThere r → is_there r ≡ true
there_so r (inl e) = ap is_there e
there_so r (inr (f, e)) = ap is_there e

here_by : (q : State) (v : ℕ) (r : Reply) → r ≡ reply_as q v answer.Stays → is_there r ≡ true
    → q ≡ state.Here
here_by state.Empty zero r e t = absurd (false≢true (sym (ap is_there e) ∙ t))
here_by state.Empty (suc v) r e t = absurd (false≢true (sym (ap is_there e) ∙ t))
here_by state.Far v r e t = absurd (false≢true (sym (ap is_there e) ∙ t))
here_by state.Moving v r e t = absurd (false≢true (sym (ap is_there e) ∙ t))
here_by state.Here v r e t = refl

-- ---- a look that finds the object elsewhere is the read
off_reply : (q : State) (v : ℕ) (r shown : Reply) → r ≡ reply_as q v answer.Stays
    → (r ≡ answer.Stays → ⊥) → r ≡ reply_as q v shown
off_reply state.Empty zero r shown e off = e
off_reply state.Empty (suc v) r shown e off = e
off_reply state.Far v r shown e off = e
off_reply state.Moving v r shown e off = e
off_reply state.Here v r shown e off = absurd (off e)

off_change : (x y : Words) (h : ℕ) (q : State) (v : ℕ) (r : Reply) → r ≡ reply_as q v answer.Stays
    → (r ≡ answer.Stays → ⊥) → y ≡ x → ReadChange r x y h
off_change x y h state.Empty zero r e off same = subst (λ (p : Reply). ReadChange p x y h) (sym e) same
off_change x y h state.Empty (suc v) r e off same =
    subst (λ (p : Reply). ReadChange p x y h) (sym e) same
off_change x y h state.Far v r e off same = subst (λ (p : Reply). ReadChange p x y h) (sym e) same
off_change x y h state.Moving v r e off same = subst (λ (p : Reply). ReadChange p x y h) (sym e) same
off_change x y h state.Here v r e off same = absurd (off e)

find_off : (h : ℕ) (a b : Holding Words) (r : Reply) → StillFind h a r b → (r ≡ answer.Stays → ⊥)
    → StillRead h a r b
find_off h a b r (e, same) off =
    let w = word_at a.desk h in let v = stamp_at a.desk h in
    let desk : b.desk ≡ a.desk = ap (λ (d : Holding Words). d.desk) same in (
      record {
        reply = off_reply (state_of w) v r
            (answer.Bytes v (bytes_in (contents_at a.desk h) (len_of w))) e off;
        change = off_change a.desk b.desk h (state_of w) v r e off desk;
      },
      ap (λ (d : Holding Words). d.far) same,
    )

not_here_stays : answer.NotHere ≡ answer.Stays → ⊥
not_here_stays e = cc

find_far : (h : ℕ) (a m : Holding Words) → StillFind h a answer.NotHere m
    → StillRead h a answer.NotHere m
find_far h a m f = find_off h a m answer.NotHere f not_here_stays

-- ---- what is brought in is answered otherwise than what is here
stays_swap : (far : FarState) (id : ℕ) (set : SetState) → answer.Stays ≡ swap_answer far id set → ⊥
stays_swap far id set = by (is_broken far.members set) (least_run far.frames set.pages)
  where
    by : (b : Bool) (o : Option ℕ) → answer.Stays
        ≡ (if b then answer.Unavailable (record { n = id }) (lost far.members set.shards)
        else frame_answer o) → ⊥
    by true o e = cc
    by false None e = cc
    by false (Some f) e = cc

swap_not_stays : (h : ℕ) (a b : Holding Words) → StillSwap h a answer.Stays b → ⊥
swap_not_stays h a b (home, at, step, hold) = stays_swap a.far home.set step.set step.reply

stays_no_room : (frames loose nodes : ℕ) → answer.Stays ≡ answer.NoRoom frames loose nodes → ⊥
stays_no_room frames loose nodes e = cc

brought_not_stays : (h room left : ℕ) (a b : Holding Words) (r : Reply) → r ≡ answer.Stays
    → WithRoom room (StillSwap h) StillRoom left a r b → ⊥
brought_not_stays h room left a b r e (at_once o off) =
    swap_not_stays h a b (subst (λ (q : Reply). StillSwap h a q b) e o)
brought_not_stays h room left a b r e (no_room m why loose nodes o v is) =
    stays_no_room room loose nodes (sym e ∙ is)
brought_not_stays h room (suc fewer) a b r e (won m n id o v again) =
    brought_not_stays h room fewer n b r e again

bring_not_stays : (h : ℕ) (a b : Holding Words) → StillBring h a answer.Stays b → ⊥
bring_not_stays h a b bring =
    brought_not_stays h a.desk.settings.frames most_evictions a b answer.Stays refl bring

came_in : (h : ℕ) (a b : Holding Words) (place : Reply) → StillBring h a place b → IsThere place
    → (f : ℕ) × StillBring h a (answer.Swapped f) b
came_in h a b place v (inl e) =
    absurd (bring_not_stays h a b (subst (λ (p : Reply). StillBring h a p b) e v))
came_in h a b place v (inr (f, e)) = (f, subst (λ (p : Reply). StillBring h a p b) e v)

-- ---- a read, and one that found no memory
pub reads_where : (h : ℕ) (a b : Holding Words) (r : Reply)
    → OnceHere (StillComes h) (StillRead h) a r b
    → WhereItIs (StillRead h) NeverDeclined (StillBring h) a r b
reads_where h a b r (away (not_far f off) none) = near (find_off h a b r f (λ e. none (inl e))) off
reads_where h a b r (away (was_far m f v) none) =
    stays_far m m (find_far h a m f) (refl, refl) v (λ n e. none (inr (n, e)))
reads_where h a b r (here m place (not_far f off) there c) =
    let z : StillRead h a r b = subst (λ (x : Holding Words). StillRead h x r b) f.1 c in
    near z (read_is_here (word_at a.desk h) (stamp_at a.desk h) (contents_at a.desk h) r z.0.reply
    (here_by (state_of (word_at a.desk h)) (stamp_at a.desk h) place f.0 (there_so place there)))
reads_where h a b r (here m place (was_far mid f v) there c) =
    let z = came_in h mid m place v there in
    brought mid mid m z.0 (find_far h a mid f) (refl, refl) z.1 c

pub read_stops_where : (h : ℕ) (a b : Holding Words)
    → OnceHereStops (StillComes h) (StillComeLacks h) (StillReadLacks h) a b
    → CallStops (StillRead h) (StillReadLacks h) NeverDeclined (StillBring h) (StillBringLacks h) a b
read_stops_where h a b (bringing_stops (m, f, l)) = lacks_far m m (find_far h a m f) (refl, refl) l
read_stops_where h a b (call_stops m place (not_far f off) there l) =
    lacks_near (subst (λ (x : Holding Words). StillReadLacks h x b) f.1 l)
read_stops_where h a b (call_stops m place (was_far mid f v) there l) =
    let z = came_in h mid m place v there in
    lacks_after mid mid m z.0 (find_far h a mid f) (refl, refl) z.1 l
