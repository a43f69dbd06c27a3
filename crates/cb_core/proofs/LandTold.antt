-- Over any desk the landing of a row is answered Unavailable exactly where it is to be.
use Rattle.std.proofs.Common.{◌≡◌, ◌≢◌, ℕ, suc, ◌^◌, ◌<◌, true, false, List, length, Option, None, Some, refl, sym, ap, ◌∙◌, subst, arith, inl, inr}
use Rattle.std.proofs.lemmas.Bool.{false≢true, ltb-false, ltb-true}
use Rattle.std.proofs.lemmas.Option.{same_Some}
use Rattle.cb_member.specs.declared.names.Loss.{Loss}
use Rattle.cb_set.specs.Lost.{lost}
use Rattle.cb_set.specs.SetState.{SetState, parities}
use Rattle.cb_types.specs.declared.config.Config.{Config}
use Rattle.cb_types.specs.declared.handle.SetId.{SetId}
use Rattle.cb_types.specs.declared.order.DecodeOrder.{DecodeOrder}
use Rattle.cb_types.specs.declared.order.EncodeOrder.{EncodeOrder}
use Rattle.cb_types.specs.declared.order.Kept.{Kept}
use Rattle.cb_types.specs.declared.order.Kept.TheVariants.{Decode, Encode}
use Rattle.cb_types.specs.declared.job.Job.TheVariants.{Land}
use Rattle.cb_types.specs.declared.reply.Reply.{Reply}
use Rattle.cb_types.specs.declared.reply.Reply.TheVariants as answer
use Rattle.cb_world.specs.declared.access.Access.{Access}
use Rattle.cb_world.specs.declared.shown.Shown.{Shown}
use Rattle.cb_world.specs.FarState.{FarState}
use Rattle.cb_world.specs.Played.{Agree, played}
use Rattle.cb_world.specs.Sets.{set_in}
use Rattle.cb_world.specs.SetWord.{is_broken}
use Rattle.cb_world.specs.Sound.{Sound}
use Rattle.cb_evict.specs.declared.eviction.Eviction.TheVariants.{Set}
use Rattle.cb_evict.specs.EvictRule.{EvictRule}
use Rattle.cb_swapin.specs.LandRule.{LandRule, live_in}
use Rattle.cb_swapin.specs.SwapRule.{swap_answer}
use Rattle.cb_swapin.proofs.Laws.{by_answer}
use Rattle.cb_core.specs.Ordered.{Lands}
use Rattle.cb_core.specs.Parts.{Holding, WithRoom, at_once, no_room, won, most_evictions}
use Rattle.cb_core.specs.Turned.{WinsRoom, counted, once_counted}
use Rattle.cb_core.specs.Unavailable.{IsSetLost, LandTells}
use Rattle.cb_core.proofs.Counting.{counted_sound}
use Rattle.cb_core.proofs.LandRooms.{land_crammed}
use Rattle.cb_core.proofs.PartsFar.{has_sent}
use Rattle.cb_core.proofs.SetsStay.{others_stay}
use Rattle.cb_core.proofs.TurnUnavailable.{IsNever}

-- the position of the order is live, and its set has lost this, more shards than it has parities
abbrev pub IsLostOf : FarState → DecodeOrder → List Loss → Type 0
IsLostOf far o l =
    (live_in far o.set o.position ≡ true) × IsSetLost far (record { n = o.set }) l

-- the order that a seat keeps has no such set
abbrev pub HasNoLost : Option Kept → FarState → Type 0
HasNoLost order far = (o : DecodeOrder) (l : List Loss) → order ≡ Some (Decode o)
    → IsLostOf far o l → ⊥

-- What a landing comes to: it tells of the order's set, which is lost; or that is not, and it tells
-- of none.
pub data Says (order : Option Kept) (far : FarState) (r : Reply) : Type 0 where
  broke : (o : DecodeOrder) (l : List Loss) → order ≡ Some (Decode o) → IsLostOf far o l
      → r ≡ answer.Unavailable (record { n = o.set }) l → Says order far r
  fine : HasNoLost order far → IsNever r → Says order far r

-- ---- what is told apart
pub like : (r q : Reply) → r ≡ q → IsNever q → IsNever r
like r q e never id l is = never id l (sym e ∙ is)

pub no_frame_never : IsNever answer.NoFrame
no_frame_never id l e = cc

none_decode : (o : DecodeOrder) → None ≡ Some (Decode o) → ⊥
none_decode o e = cc

encode_decode : {e : _} (o : DecodeOrder) → Some (Encode e) ≡ Some (Decode o) → ⊥
encode_decode o e = cc

same_decode : (p o : DecodeOrder) → Some (Decode p) ≡ Some (Decode o) → p ≡ o
same_decode p o e = ap (λ (k : Option Kept). by k) e
  where
    by : Option Kept → DecodeOrder
    by (Some (Decode q)) = q
    by k = p

-- a set that is not broken is not lost
unlost : (far : FarState) (id : ℕ) (set : SetState) (l : List Loss) → set_in far.sets id ≡ Some set
    → is_broken far.members set ≡ false → IsSetLost far (record { n = id }) l → ⊥
unlost far id set l there whole z =
    let same : z.set ≡ set = same_Some z.set set (sym z.there ∙ there) in
    let few = ltb-false (parities set) (length (lost far.members set.shards)) whole in
    let many : parities set < length (lost far.members set.shards) =
    subst (λ (c : SetState). parities c < length (lost far.members c.shards)) same
    (subst (λ (m : List Loss). parities z.set < length m) z.all z.many) in
    omega (arith, few, many)

-- ---- one landing
pub landed_says : (p : DecodeOrder) (far : FarState) (set : SetState) (r : Reply)
    → live_in far p.set p.position ≡ true → set_in far.sets p.set ≡ Some set
    → r ≡ swap_answer far p.set set → Says (Some (Decode p)) far r
landed_says p far set r live there reply = subst (Says (Some (Decode p)) far) (sym reply)
    (by_answer (Says (Some (Decode p)) far) far p.set set
    (λ broken. broke p (lost far.members set.shards) refl (
      live,
      record {
        set = set;
        there = there;
        all = refl;
        many = ltb-true (parities set) (length (lost far.members set.shards)) broken;
      },
    ) refl)
    (λ whole free. fine (no_lost whole) no_frame_never)
    (λ f whole free. fine (no_lost whole) (swapped_never f)))
  where
    no_lost : is_broken far.members set ≡ false → HasNoLost (Some (Decode p)) far
    no_lost whole o l e z = unlost far p.set set l there whole
        (subst (λ (q : DecodeOrder). IsSetLost far (record { n = q.set }) l)
        (sym (same_decode p o e)) z.1)

    swapped_never : (f : ℕ) → IsNever (answer.Swapped f)
    swapped_never f id l e = cc

-- one that finds no order, and one whose order is outdated
pub none_says : (far : FarState) (r : Reply) → r ≡ answer.NoOrder → Says None far r
none_says far r is = fine (λ o l e z. none_decode o e) (like r _ is (λ id l e. cc))

pub encode_says : (p : EncodeOrder) (far : FarState) (r : Reply) → r ≡ answer.NoOrder
    → Says (Some (Encode p)) far r
encode_says p far r is = fine (λ o l e z. encode_decode o e) (like r _ is (λ id l e. cc))

pub outdated_says : (p : DecodeOrder) (far : FarState) (r : Reply)
    → live_in far p.set p.position ≡ false → r ≡ answer.Changed (record { n = p.set })
    → Says (Some (Decode p)) far r
outdated_says p far r gone is = fine (λ o l e z. false≢true (sym gone ∙ subst (λ (q : DecodeOrder).
    live_in far q.set q.position ≡ true) (sym (same_decode p o e)) z.0))
    (like r _ is (λ id l e. cc))

land_says : (order : Option Kept) (far new : FarState) (r : Reply) (es : List Access)
    → LandRule order far new r es → Says order far r
land_says None far new r es x = none_says far r x.reply
land_says (Some (Encode p)) far new r es x = encode_says p far r x.reply
land_says (Some (Decode p)) far new r es (inl x) = outdated_says p far r x.gone x.reply
land_says (Some (Decode p)) far new r es (inr x) =
    landed_says p far x.brings.set r x.live x.brings.there x.brings.reply

-- ---- an eviction leaves the sets that there are, and the members
set_stays : (far new : FarState) (r : Reply) (id : SetId) (es : List Access) → EvictRule far new r es
    → r ≡ answer.Set id → (k : ℕ) → k < far.counts.sets
    → (set_in new.sets k ≡ set_in far.sets k) × (new.members ≡ far.members)
set_stays far new r id es rule set k below =
    let e = (has_sent far new r id es rule set).evicted in
    let off : k ≢ far.counts.sets = (λ same. omega (arith, same, below)) in (
      ap (λ (q : FarState). set_in q.sets k) e.state ∙ others_stay far.sets far.counts.sets k _ off,
      ap (λ (q : FarState). q.members) e.state,
    )

-- where a landing found no frame, its order's set is there
crammed_there : (order : Option Kept) (o : DecodeOrder) (far new : FarState) (r : Reply)
    (es : List Access) → order ≡ Some (Decode o) → LandRule order far new r es → r ≡ answer.NoFrame
    → (set : SetState) × (set_in far.sets o.set ≡ Some set) × (live_in far o.set o.position ≡ true)
crammed_there order o far new r es is rule full = by (subst (λ (k : Option Kept).
    LandRule k far new r es) is rule)
  where
    changed_full : (id : SetId) → r ≡ answer.Changed id → r ≡ answer.NoFrame → ⊥
    changed_full id e f = cc

    by : LandRule (Some (Decode o)) far new r es → (set : SetState)
        × (set_in far.sets o.set ≡ Some set) × (live_in far o.set o.position ≡ true)
    by (inl x) = absurd (changed_full (record { n = o.set }) x.reply full)
    by (inr x) = (x.brings.set, x.brings.there, x.live)

-- ---- the whole turn, once it is counted
module _ (order : Option Kept) where
  pub said : (far : FarState) (r : Reply) → Says order (counted far Land) r → LandTells order far r
  said far r (fine off never) = record {
    only = λ id l e. absurd (never id l e);
    each = λ o l is few live z. absurd (off o l is (
      live,
      record {
        set = z.set;
        there = z.there;
        all = z.all;
        many = z.many;
      },
    ));
  }
  said far r (broke o l is z e) = record {
    only = λ id m same. (
      o,
      is,
      numbers (sym same ∙ e),
      z.0,
      subst (λ (k : SetId). IsSetLost far k m) (sym (numbers (sym same ∙ e)))
          (subst (λ (k : List Loss). IsSetLost far (record { n = o.set }) k)
          (sym (losses (sym same ∙ e))) lost_before),
    );
    each = λ p m also few live y.
        let one : o ≡ p = same_decode o p (sym is ∙ also) in
        let all : l ≡ m = the_lost one y in
        e ∙ (λ i. answer.Unavailable (record { n = (one i).set }) (all i));
  }
    where
      lost_before : IsSetLost far (record { n = o.set }) l
      lost_before = record { set = z.1.set; there = z.1.there; all = z.1.all; many = z.1.many }

      number_in : Reply → SetId
      number_in (answer.Unavailable id m) = id
      number_in q = record { n = o.set }

      losses_in : Reply → List Loss
      losses_in (answer.Unavailable id m) = m
      losses_in q = l

      numbers : {id : SetId} {m : List Loss}
          → answer.Unavailable id m ≡ answer.Unavailable (record { n = o.set }) l
          → id ≡ record { n = o.set }
      numbers f = ap number_in f

      losses : {id : SetId} {m : List Loss}
          → answer.Unavailable id m ≡ answer.Unavailable (record { n = o.set }) l → m ≡ l
      losses f = ap losses_in f

      the_lost : {p : DecodeOrder} {m : List Loss} → o ≡ p
          → IsSetLost far (record { n = p.set }) m → l ≡ m
      the_lost {p = p} one y =
          let set : z.1.set ≡ y.set = same_Some z.1.set y.set
          (sym z.1.there ∙ ap (λ (q : DecodeOrder). set_in far.sets q.set) one ∙ y.there) in
          z.1.all ∙ ap (λ (k : SetState). lost far.members k.shards) set ∙ sym y.all

module _ {D : Type 0} (run : D → List Access → D → Type 0) (shows : D → Shown → Type 0)
    (follows : (d e : D) (es : List Access) (s : Shown) → run d es e → shows d s
    → Agree s es × shows e (played es s)) (c : Config) (order : Option Kept) where
  abbrev Hold : Type 0
  Hold = Holding D

  -- what the desk shows is sound
  abbrev Good : Hold → Type 0
  Good a = (s : Shown) × shows a.desk s × Sound s a.far

  says_off : (a : Hold) → Says order a.far answer.NoFrame → HasNoLost order a.far
  says_off a (broke o l e z is) = absurd (no_frame_never _ l is)
  says_off a (fine off never) = off

  -- what is lost behind an eviction was lost before
  was_lost : (a m n : Hold) (id : SetId) (o : DecodeOrder) (l : List Loss) → Good a
      → order ≡ Some (Decode o) → Lands run shows order a answer.NoFrame m
      → WinsRoom run shows c m (Set id) n → IsLostOf n.far o l → IsLostOf a.far o l
  was_lost a m n id o l (s, shown, sound) is x v z =
      let there = crammed_there order o a.far m.far answer.NoFrame x.events is x.rule refl in
      let same = land_crammed order a.far m.far answer.NoFrame x.events x.rule refl in
      let below = sound.away.sound.sets.numbered o.set there.0 there.1 in
      let kept = subst (λ (f : FarState). (set_in n.far.sets o.set ≡ set_in f.sets o.set)
      × (n.far.members ≡ f.members)) same (set_stays m.far n.far (answer.Set id) id v.events v.rule.rule
      refl o.set (subst (λ (f : FarState). o.set < f.counts.sets) (sym same) below)) in (
        there.2,
        record {
          set = z.1.set;
          there = sym kept.0 ∙ z.1.there;
          all = z.1.all ∙ ap (λ (k : _). lost k z.1.set.shards) kept.1;
          many = z.1.many;
        },
      )

  says_behind : (left : ℕ) (a b : Hold) (r : Reply) → Good a
      → WithRoom c.frames (Lands run shows order) (WinsRoom run shows c) left a r b
      → Says order a.far r
  says_behind left a b r good (at_once x never) = land_says order a.far b.far r x.events x.rule
  says_behind left a b r good (no_room m why loose nodes x evict e) = fine
      (says_off a (land_says order a.far m.far answer.NoFrame x.events x.rule))
      (like r _ e (λ id l is. cc))
  says_behind (suc fewer) a b r (s, shown, sound) (won m n id x evict again) =
      by (says_behind fewer n b r (
        played evict.events (played x.events s),
        (follows m.desk n.desk evict.events (played x.events s) evict.ran
            (follows a.desk m.desk x.events s x.ran shown).1).1,
        evict.sound_after (played x.events s)
            ((follows a.desk m.desk x.events s x.ran shown).1, x.sound_after s (shown, sound)),
      ) again)
    where
      off : HasNoLost order a.far
      off = says_off a (land_says order a.far m.far answer.NoFrame x.events x.rule)

      by : Says order n.far r → Says order a.far r
      by (fine other never) = fine off never
      by (broke o l is z e) =
          absurd (off o l is (was_lost a m n id o l (s, shown, sound) is x evict z))

  -- the whole turn
  pub land_told : (a b : Hold) (r : Reply) → Good a
      → WithRoom c.frames (Lands run shows order) (WinsRoom run shows c) most_evictions
      (once_counted a Land) r b → LandTells order a.far r
  land_told a b r (s, shown, sound) x = said order a.far r (says_behind most_evictions (once_counted a Land)
      b r (s, shown, counted_sound s a.far (counted a.far Land) Land refl sound) x)

-- a landing that was refused for its number tells of no set
pub land_late : (order : Option Kept) (far : FarState) → far.counts.turns ≡ 2 ^ 40
    → LandTells order far answer.Worn
land_late order far end = record {
  only = λ id l e. absurd (worn_lost id l e);
  each = λ o l is few live z. absurd (omega (arith, few, end));
}
  where
    worn_lost : (id : SetId) (l : List Loss) → answer.Worn ≡ answer.Unavailable id l → ⊥
    worn_lost id l e = cc
