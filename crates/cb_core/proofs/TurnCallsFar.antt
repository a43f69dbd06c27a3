-- How the bringing in of a far object within a turn ends.
use Rattle.std.proofs.Common.{◌≡◌, ℕ, zero, suc, Bool, true, false, None, Some, List, refl, sym, ap, ◌∙◌, subst}
use Rattle.cb_frame.specs.Runs.{least_run}
use Rattle.cb_member.specs.declared.names.Loss.{Loss}
use Rattle.cb_ptr.specs.declared.word.State.TheVariants as state
use Rattle.cb_ptr.specs.Word.{state_of}
use Rattle.cb_set.specs.SetState.{SetState}
use Rattle.cb_set.specs.Lost.{lost}
use Rattle.cb_types.specs.declared.handle.SetId.{SetId}
use Rattle.cb_types.specs.declared.reply.Reply.{Reply}
use Rattle.cb_types.specs.declared.reply.Reply.TheVariants as answer
use Rattle.cb_world.specs.declared.homes.Home.{Home}
use Rattle.cb_world.specs.declared.object.Object.{Object}
use Rattle.cb_world.specs.declared.object.Object.TheVariants as is
use Rattle.cb_world.specs.declared.shown.Shown.{Shown}
use Rattle.cb_world.specs.FarState.{FarState}
use Rattle.cb_world.specs.Homes.{home_at}
use Rattle.cb_world.specs.Now.{gone, now, now_as, is_gone}
use Rattle.cb_world.specs.Plain.{Words}
use Rattle.cb_world.specs.Sets.{set_in}
use Rattle.cb_world.specs.SetWord.{is_broken}
use Rattle.cb_world.specs.Sound.{Sound}
use Rattle.cb_world.specs.Shown.{object_at}
use Rattle.cb_world.specs.World.{IsKnown, word_at}
use Rattle.cb_swapin.specs.SwapStep.{IsSwapStep}
use Rattle.cb_swapin.proofs.Laws.{gone_is_broken, by_answer, unavailable_answer, step_only_no_frame, home_comes_in}
use Rattle.cb_evict.specs.declared.eviction.Eviction.TheVariants.{Set}
use Rattle.cb_core.specs.Parts.{Holding, WithRoom, at_once, no_room, won, most_evictions}
use Rattle.cb_core.specs.Step.{StillRoom, StillSwap, StillBring}
use Rattle.cb_core.proofs.TurnCallsKept.{HasKept, kept_swap, kept_room, kept_then}

-- The object's set has lost more shards than it has parities: its number, and what it lost.
pub record IsLostFar (far : FarState) (h : ℕ) (id : SetId) (losses : List Loss) : Type 0 where
  pub home : Home
  pub set : SetState
  pub at : home_at far.homes h ≡ Some home
  pub there : set_in far.sets home.set ≡ Some set
  pub broken : is_broken far.members set ≡ true
  pub number : id ≡ record { n = home.set }
  pub lost : losses ≡ lost far.members set.shards

-- Its object is gone.
pub lost_gone : (far : FarState) (h : ℕ) (id : SetId) (losses : List Loss)
    → IsLostFar far h id losses → is_gone far h ≡ true
lost_gone far h id losses z = gone_is_broken far h z.home z.set z.at z.there ∙ z.broken

-- A far object came in; or its set is broken, which the reply tells; or there was no room for it.
pub data BringEnds (a b : Holding Words) (h : ℕ) (r : Reply) : Type 0 where
  came : (f : ℕ) → r ≡ answer.Swapped f → is_gone a.far h ≡ false
      → state_of (word_at b.desk h) ≡ state.Here → BringEnds a b h r
  broke : (id : SetId) (losses : List Loss) → r ≡ answer.Unavailable id losses
      → IsLostFar a.far h id losses → BringEnds a b h r
  crammed : (frames loose nodes : ℕ) → r ≡ answer.NoRoom frames loose nodes → is_gone a.far h ≡ false
      → BringEnds a b h r

swap_ends : (a b : Holding Words) (h : ℕ) (r : Reply) (s : Shown) → IsKnown a.desk a.far s
    → StillSwap h a r b → (r ≡ answer.NoFrame → ⊥) → BringEnds a b h r
swap_ends a b h r s k (home, at, z, hold) never =
    subst (BringEnds a b h) (sym z.reply) (by_answer C a.far home.set z.set broken none some
    (subst (IsSwapStep a.desk b.desk a.far b.far home.set home.position) z.reply z)
    (λ e. never (z.reply ∙ e)))
  where
    C : Reply → Type 0
    C q = IsSwapStep a.desk b.desk a.far b.far home.set home.position q → (q ≡ answer.NoFrame → ⊥)
        → BringEnds a b h q

    whole : is_broken a.far.members z.set ≡ false → is_gone a.far h ≡ false
    whole e = gone_is_broken a.far h home z.set at z.there ∙ e

    broken : is_broken a.far.members z.set ≡ true → C (unavailable_answer a.far home.set z.set)
    broken e y never = broke (record { n = home.set }) (lost a.far.members z.set.shards) refl (record {
      home = home;
      set = z.set;
      at = at;
      there = z.there;
      broken = e;
      number = refl;
      lost = refl;
    })

    none : is_broken a.far.members z.set ≡ false → least_run a.far.frames z.set.pages ≡ None
        → C answer.NoFrame
    none e free y never = absurd (never refl)

    some : (f : ℕ) → is_broken a.far.members z.set ≡ false
        → least_run a.far.frames z.set.pages ≡ Some f → C (answer.Swapped f)
    some f e free y never = let then = hold s k in
        came f refl (whole e) (home_comes_in a.desk b.desk a.far b.far s then.0 h home f k then.1 at y).reads.here

-- an object whose set is broken is gone, and no other is
pub never_gone : (s : Shown) (h v : ℕ) (o : Object) → now_as s h false o ≡ gone v → ⊥
never_gone s h v (is.Empty zero) e = cc
never_gone s h v (is.Empty (suc u)) e = cc
never_gone s h v (is.Far len u words) e = cc
never_gone s h v (is.Here len place) e = cc
never_gone s h v (is.Claimed len place u words) e = cc

pub lost_away : (far : FarState) (s : Shown) (h : ℕ) (id : SetId) (losses : List Loss)
    → Sound s far → IsLostFar far h id losses
    → (len v : ℕ) × (words : List ℕ) × (object_at s h ≡ is.Far len v words)
lost_away far s h id losses sound z =
    let lies = sound.away.sound.away.home h z.home z.at in
    let holds = (sound.away.sound.sets.worded z.home.set lies.0 lies.1).1.holds z.home.position
    z.home.slot h lies.2 in (holds.len, holds.version, holds.words, holds.away)

pub lost_now : (far : FarState) (s : Shown) (h : ℕ) (id : SetId) (losses : List Loss)
    → Sound s far → IsLostFar far h id losses → (v : ℕ) × (now s far h ≡ gone v)
lost_now far s h id losses sound z =
    let o = lost_away far s h id losses sound z in
    (o.1, (λ i. now_as s h (lost_gone far h id losses z i) (o.3 i)))

-- behind so many evictions at the most
ends_behind : (h room left : ℕ) (a b : Holding Words) (r : Reply) (s : Shown)
    → IsKnown a.desk a.far s
    → WithRoom room (StillSwap h) StillRoom left a r b → BringEnds a b h r
ends_behind h room left a b r s k (at_once swap some) = swap_ends a b h r s k swap some
ends_behind h room left a b r s k (no_room m why loose nodes (home, at, z, hold) evict e) =
    crammed room loose nodes e (gone_is_broken a.far h home z.set at z.there
    ∙ (step_only_no_frame a.desk m.desk a.far m.far home.set home.position z).0)
ends_behind h room (suc fewer) a b r s k (won m n id (home, at, z, hold) evict again) =
    let one = kept_swap a m h answer.NoFrame s k (home, at, z, hold) in
    let two = kept_then a m n s one (kept_room m n (Set id) one.shown one.known evict) in
    by two (ends_behind h room fewer n b r two.shown two.known again)
  where
    whole : is_gone a.far h ≡ false
    whole = gone_is_broken a.far h home z.set at z.there
        ∙ (step_only_no_frame a.desk m.desk a.far m.far home.set home.position z).0

    by : HasKept a n s → BringEnds n b h r → BringEnds a b h r
    by two (came f e kept here) = came f e whole here
    by two (crammed frames loose nodes e kept) = crammed frames loose nodes e whole
    by two (broke i l e z) =
        let then = lost_now n.far two.shown h i l two.known.sound z in
        absurd (never_gone s h then.0 (object_at s h)
        (ap (λ (lost : Bool). now_as s h lost (object_at s h)) (sym whole)
        ∙ sym (two.same_now h) ∙ then.1))

pub bring_ends : (a b : Holding Words) (h : ℕ) (r : Reply) (s : Shown) → IsKnown a.desk a.far s
    → StillBring h a r b → BringEnds a b h r
bring_ends a b h r s k bring =
    ends_behind h a.desk.settings.frames most_evictions a b r s k bring
