-- What a crash does to last complete contents.
use Rattle.std.proofs.Common.{◌≡◌, ◌⊎◌, ℕ, zero, suc, ◌<◌, Bool, true, false, List, length, Option, Some, None, sym, refl, ap, ◌∙◌, arith, inl, inr}
use Rattle.std.proofs.lemmas.Bool.{false≢true, lt-ltb, ltb-true}
use Rattle.cb_member.specs.declared.names.NodeId.{NodeId}
use Rattle.cb_member.specs.Membership.{Membership, IsMembership, alive, with_crash}
use Rattle.cb_set.specs.SetState.{SetState}
use Rattle.cb_set.specs.Lost.{lost}
use Rattle.cb_world.specs.declared.object.Object.{Object}
use Rattle.cb_world.specs.declared.object.Object.TheVariants as is
use Rattle.cb_world.specs.declared.shown.Shown.{Shown}
use Rattle.cb_world.specs.Shown.{object_at}
use Rattle.cb_world.specs.declared.homes.Home.{Home}
use Rattle.cb_world.specs.FarState.{FarState}
use Rattle.cb_world.specs.Sets.{set_in}
use Rattle.cb_world.specs.Homes.{home_at}
use Rattle.cb_world.specs.SetWord.{is_broken, AreCurrent, IsShaped}
use Rattle.cb_set.specs.SetState.{parities}
use Rattle.cb_world.specs.FarSound.{AwaySound}
use Rattle.cb_world.specs.Now.{gone, broken_set, broken_home, is_gone, now_as, now}
use Rattle.cb_world.proofs.Words.{crash_survivor, lost_grow}
use Rattle.cb_world.specs.NodeChanges.{crashed_far}

-- the object becomes gone
pub record BecomesGone (s : Shown) (far new : FarState) (h : ℕ) : Type 0 where
  pub len : ℕ
  pub version : ℕ
  pub words : List ℕ
  pub away : object_at s h ≡ is.Far len version words
  pub before : is_gone far h ≡ false
  pub after : is_gone new h ≡ true
  pub now : now s new h ≡ gone version

broken_grows : (m : Membership) (node : NodeId) (set : SetState) → IsMembership m
    → node.n < length m.nodes → alive m node ≡ true → AreCurrent m set.shards
    → is_broken m set ≡ true → is_broken (with_crash m node) set ≡ true
broken_grows m node set valid within up current broken =
    let more =
    lost_grow m (with_crash m node) set.shards (λ p shard at kept.
    (crash_survivor m node shard valid within up (current p shard at).1 kept).1) in
    lt-ltb (parities set) (length (lost (with_crash m node) set.shards)) (omega (
      arith,
      more,
      ltb-true _ _ broken,
    ))

set_grows : (m : Membership) (node : NodeId) (o : Option SetState) → IsMembership m
    → node.n < length m.nodes → alive m node ≡ true
    → ((set : SetState) → o ≡ Some set → IsShaped m set) → broken_set m o ≡ true
    → broken_set (with_crash m node) o ≡ true
set_grows m node None valid within up shaped broken = broken
set_grows m node (Some set) valid within up shaped broken =
    broken_grows m node set valid within up (shaped set refl).current broken

home_grows : (s : Shown) (far : FarState) (node : NodeId) (o : Option Home) → AwaySound s far
    → node.n < length far.members.nodes → alive far.members node ≡ true → broken_home far o ≡ true
    → broken_home (crashed_far far node) o ≡ true
home_grows s far node None sound within up broken = broken
home_grows s far node (Some home) sound within up broken =
    set_grows far.members node (set_in far.sets home.set) sound.rows.members within up
    (sound.sets.shaped home.set) broken

-- after a crash: an object becomes gone where its set passes its parities by it, and `now` of
-- every other handle stays
pub crash_now : (s : Shown) (far : FarState) (node : NodeId) (h : ℕ) → AwaySound s far
    → node.n < length far.members.nodes → alive far.members node ≡ true
    → (now s (crashed_far far node) h ≡ now s far h) ⊎ BecomesGone s far (crashed_far far node) h
crash_now s far node h sound within up =
    go (is_gone far h) (is_gone (crashed_far far node) h) refl refl
  where
    turn : (o : Object) → object_at s h ≡ o → is_gone far h ≡ false
        → is_gone (crashed_far far node) h ≡ true → (now s (crashed_far far node) h ≡ now s far h)
        ⊎ BecomesGone s far (crashed_far far node) h
    turn (is.Empty zero) e b a =
        inl (ap (now_as s h (is_gone (crashed_far far node) h)) e
        ∙ sym (ap (now_as s h (is_gone far h)) e))
    turn (is.Empty (suc v)) e b a =
        inl (ap (now_as s h (is_gone (crashed_far far node) h)) e
        ∙ sym (ap (now_as s h (is_gone far h)) e))
    turn (is.Far len v words) e b a =
        inr (record {
          len = len;
          version = v;
          words = words;
          away = e;
          before = b;
          after = a;
          now =
              ap (now_as s h (is_gone (crashed_far far node) h)) e
              ∙ ap (λ (x : Bool). now_as s h x (is.Far len v words)) a;
        })
    turn (is.Here len place) e b a =
        inl (ap (now_as s h (is_gone (crashed_far far node) h)) e
        ∙ sym (ap (now_as s h (is_gone far h)) e))
    turn (is.Claimed len place v words) e b a =
        inl (ap (now_as s h (is_gone (crashed_far far node) h)) e
        ∙ sym (ap (now_as s h (is_gone far h)) e))

    go : (b a : Bool) → is_gone far h ≡ b → is_gone (crashed_far far node) h ≡ a
        → (now s (crashed_far far node) h ≡ now s far h)
        ⊎ BecomesGone s far (crashed_far far node) h
    go true true x y = inl (ap (λ (l : Bool). now_as s h l (object_at s h)) (y ∙ sym x))
    go false false x y = inl (ap (λ (l : Bool). now_as s h l (object_at s h)) (y ∙ sym x))
    go false true x y = turn (object_at s h) refl x y
    go true false x y =
        absurd (false≢true (sym y ∙ home_grows s far node (home_at far.homes h) sound within up x))
