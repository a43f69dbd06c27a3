-- Unavailable is answered exactly where the object's set has lost more shards than it has parities.
use Rattle.std.proofs.Common.{◌≡◌, ℕ, true, List, Option, Some, None, refl, sym, ap, ◌∙◌, subst}
use Rattle.std.proofs.lemmas.Bool.{false≢true}
use Rattle.cb_member.specs.declared.names.Loss.{Loss}
use Rattle.cb_ptr.specs.declared.word.State.TheVariants as state
use Rattle.cb_ptr.specs.Word.{state_of}
use Rattle.cb_set.specs.SetState.{SetState}
use Rattle.cb_set.specs.Lost.{lost}
use Rattle.cb_types.specs.declared.handle.SetId.{SetId}
use Rattle.cb_types.specs.declared.request.Request.{Request}
use Rattle.cb_types.specs.declared.reply.Reply.{Reply}
use Rattle.cb_types.specs.declared.reply.Reply.TheVariants as answer
use Rattle.cb_world.specs.declared.homes.Home.{Home}
use Rattle.cb_world.specs.declared.shown.Shown.{Shown}
use Rattle.cb_world.specs.FarState.{FarState}
use Rattle.cb_world.specs.Homes.{home_at}
use Rattle.cb_world.specs.Now.{broken_home, broken_set, is_gone}
use Rattle.cb_world.specs.Plain.{Words}
use Rattle.cb_world.specs.Sets.{set_in}
use Rattle.cb_world.specs.World.{IsKnown, word_at}
use Rattle.cb_swapin.proofs.Laws.{named_far}
use Rattle.cb_core.specs.Parts.{Holding, WhereItIs, near, declined, stays_far, brought}
use Rattle.cb_core.specs.Step.{StillBring}
use Rattle.cb_core.proofs.TurnCallsFar.{IsLostFar, BringEnds, came, broke, crammed, bring_ends}
use Rattle.cb_core.proofs.TurnCallsWhere.{IsCallWithLook}

-- an object with a home is far
pub home_far : (x : Words) (far : FarState) (s : Shown) (h : ℕ) (home : Home) → IsKnown x far s
    → home_at far.homes h ≡ Some home → state_of (word_at x h) ≡ state.Far
home_far x far s h home k at =
    let lies = k.sound.away.sound.away.home h home at in
    (named_far x far s home.set home.position lies.0 k lies.1 home.slot h lies.2).far

-- the object of a broken set is far
pub lost_far : (x : Words) (far : FarState) (s : Shown) (h : ℕ) (id : SetId) (l : List Loss)
    → IsKnown x far s → IsLostFar far h id l → state_of (word_at x h) ≡ state.Far
lost_far x far s h id l k z = home_far x far s h z.home k z.at

-- an object that is gone has a home in a set, and that has lost more shards than it has parities
pub gone_lost : (far : FarState) (h : ℕ) → is_gone far h ≡ true
    → (id : SetId) × (l : List Loss) × IsLostFar far h id l
gone_lost far h gone = at (home_at far.homes h) refl (gone)
  where
    in_set : (home : Home) (o : Option SetState) → home_at far.homes h ≡ Some home
        → set_in far.sets home.set ≡ o → broken_set far.members o ≡ true
        → (id : SetId) × (l : List Loss) × IsLostFar far h id l
    in_set home None at there broken = absurd (false≢true broken)
    in_set home (Some set) at there broken = (
      record { n = home.set },
      lost far.members set.shards,
      record {
        home = home;
        set = set;
        at = at;
        there = there;
        broken = broken;
        number = refl;
        lost = refl;
      },
    )

    at : (o : Option Home) → home_at far.homes h ≡ o → broken_home far o ≡ true
        → (id : SetId) × (l : List Loss) × IsLostFar far h id l
    at None e broken = absurd (false≢true broken)
    at (Some home) e broken = in_set home (set_in far.sets home.set) e refl broken

same_lost : (id i : SetId) (l m : List Loss) → answer.Unavailable id l ≡ answer.Unavailable i m
    → (id ≡ i) × (l ≡ m)
same_lost id i l m e = (ap number e, ap losses e)
  where
    number : Reply → SetId
    number (answer.Unavailable j n) = j
    number r = id

    losses : Reply → List Loss
    losses (answer.Unavailable j n) = n
    losses r = l

-- what the bringing in of an object answers so is of its set
pub brings_lost : (a b : Holding Words) (h : ℕ) (id : SetId) (l : List Loss)
    → BringEnds a b h (answer.Unavailable id l) → IsLostFar a.far h id l
brings_lost a b h id l (came f e whole here) = absurd (swapped_lost f e)
  where
    swapped_lost : (f : ℕ) → answer.Unavailable id l ≡ answer.Swapped f → ⊥
    swapped_lost f e = cc
brings_lost a b h id l (broke i m e lost) = let same = same_lost id i l m e in
    subst (λ (j : SetId). IsLostFar a.far h j l) (sym same.0)
    (subst (λ (n : List Loss). IsLostFar a.far h i n) (sym same.1) lost)
brings_lost a b h id l (crammed frames loose nodes e whole) = absurd (no_room_lost e)
  where
    no_room_lost : answer.Unavailable id l ≡ answer.NoRoom frames loose nodes → ⊥
    no_room_lost e = cc

-- and of an object that is gone it answers nothing else
pub brings_gone : (a b : Holding Words) (h : ℕ) (r : Reply) → is_gone a.far h ≡ true → BringEnds a b h r
    → (id : SetId) × (l : List Loss) × (r ≡ answer.Unavailable id l) × IsLostFar a.far h id l
brings_gone a b h r gone (came f e whole here) = absurd (false≢true (sym whole ∙ gone))
brings_gone a b h r gone (broke i m e lost) = (i, m, e, lost)
brings_gone a b h r gone (crammed frames loose nodes e whole) = absurd (false≢true (sym whole ∙ gone))

module _ (call : Holding Words → Reply → Holding Words → Type 0)
    (look : Holding Words → Option Reply → Holding Words → Type 0) (h : ℕ) (q : Request)
    (part : IsCallWithLook call look h q) where
  -- a call that is answered so is on an object whose set is broken, and tells its number and its losses
  pub where_lost : (a b : Holding Words) (s : Shown) (id : SetId) (l : List Loss) → IsKnown a.desk a.far s
      → WhereItIs call look (StillBring h) a (answer.Unavailable id l) b → IsLostFar a.far h id l
  where_lost a b s id l k (near c never) = absurd (part.whole a b id l c)
  where_lost a b s id l k (declined m c look_m) = absurd (part.not_lost m b id l look_m)
  where_lost a b s id l k (stays_far m n c none bring never) =
      let back = part.looks m n None none ∙ part.nothing a m c in
      brings_lost a b h id l (bring_ends a b h (answer.Unavailable id l) s k
      (subst (λ (x : Holding Words). StillBring h x (answer.Unavailable id l) b) back bring))
  where_lost a b s id l k (brought m n o f c none bring again) = absurd (part.whole o b id l again)

  -- and each call on an object that is gone is answered so
  pub where_gone : (a b : Holding Words) (s : Shown) (r : Reply) → IsKnown a.desk a.far s
      → is_gone a.far h ≡ true → WhereItIs call look (StillBring h) a r b
      → (id : SetId) × (l : List Loss) × (r ≡ answer.Unavailable id l) × IsLostFar a.far h id l
  where_gone a b s r k gone (near c never) =
      let z = gone_lost a.far h gone in
      absurd (never (part.far a b r c (lost_far a.desk a.far s h z.0 z.1 k z.2)))
  where_gone a b s r k gone (declined m c look_m) = absurd (part.lost a b r gone
      (subst (λ (x : Holding Words). look x (Some r) b) (part.nothing a m c) look_m))
  where_gone a b s r k gone (stays_far m n c none bring never) =
      let back = part.looks m n None none ∙ part.nothing a m c in
      brings_gone a b h r gone (bring_ends a b h r s k
      (subst (λ (x : Holding Words). StillBring h x r b) back bring))
  where_gone a b s r k gone (brought m n o f c none bring again) =
      let back = part.looks m n None none ∙ part.nothing a m c in
      let z = brings_gone a o h (answer.Swapped f) gone (bring_ends a o h (answer.Swapped f) s k
      (subst (λ (x : Holding Words). StillBring h x (answer.Swapped f) o) back bring)) in
      absurd (swapped_lost f z.0 z.1 z.2)
    where
      swapped_lost : (f : ℕ) (id : SetId) (l : List Loss) → answer.Swapped f ≡ answer.Unavailable id l → ⊥
      swapped_lost f id l e = cc
