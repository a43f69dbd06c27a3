-- The begin of a pair keeps the world sound, and last complete contents.
use Rattle.std.proofs.Common.{◌≡◌, ℕ, zero, suc, ◌+◌, ◌<◌, ◌≤◌, Bool, true, false, cond, nat_eq, List, [], ◌∷◌, ◌++◌, length, replicate, Some, None, refl, sym, ap, ◌∙◌, subst, arith, inl, inr}
use Rattle.std.proofs.lemmas.List.{length-replicate}
use Rattle.std.specs.List.{slice_get}
use Rattle.std.proofs.lemmas.Bool.{cases_eq, cases_lt, eq-eqb, eqb-true}
use Rattle.std.proofs.lemmas.List.{get_or_past}
use Rattle.cb_code.specs.Coefficients.{AreCoefficients}
use Rattle.cb_member.specs.declared.names.Shard.{Shard}
use Rattle.cb_set.specs.SetState.{PositionState, SetState, dead_position, live_at, parities}
use Rattle.cb_world.specs.declared.shown.Shown.{Shown}
use Rattle.cb_world.specs.FarState.{FarState}
use Rattle.cb_world.specs.Joining.{JoiningState}
use Rattle.cb_world.specs.JoinSteps.{IsBegun}
use Rattle.cb_world.specs.Merged.{AreTaken, takes}
use Rattle.cb_world.specs.Now.{now}
use Rattle.cb_world.specs.Orders.{LeavesWords}
use Rattle.cb_world.specs.Pairs.{with_no_pair}
use Rattle.cb_world.specs.Sound.{Sound}
use Rattle.cb_world.proofs.Laws.{alike_leaves_words, begun_whole, pair_now, reserved_is_other, words_stay}
use Rattle.cb_types.specs.declared.reply.Reply.{Reply}
use Rattle.cb_compact.specs.PairStep.{IsFirstPair, PairStep, begun_pair, live_positions, with_pair}
use Rattle.cb_compact.proofs.Finding.{passing, passing_in, passing_more, passing_out}
use Rattle.cb_compact.proofs.CompactKeeps.{JoinKeeps, leaves_local, local_sound}

-- ---- the positions that pass a test
takes_append : (xs ys : List ℕ) (p : ℕ) → takes (xs ++ ys) p ≡ cond (takes xs p) true (takes ys p)
takes_append [] ys p = refl
takes_append (x ∷ xs) ys p = first (nat_eq x p) (takes xs p) (takes (xs ++ ys) p) (takes ys p)
    (takes_append xs ys p)
  where
    first : (b inside all rest : Bool) → all ≡ cond inside true rest
        → cond b true all ≡ cond (cond b true inside) true rest
    first true inside all rest e = refl
    first false inside all rest e = e

off_eqb : (a b : ℕ) → (a ≡ b → ⊥) → nat_eq a b ≡ false
off_eqb a b off = by (nat_eq a b) refl
  where
    by : (c : Bool) → nat_eq a b ≡ c → c ≡ false
    by true e = absurd (off (eqb-true a b e))
    by false e = refl

lone : (f : ℕ → Bool) (n p : ℕ) → (n ≡ p → ⊥) → (b : Bool) → takes (cond b (n ∷ []) []) p ≡ false
lone f n p off true = ap (λ (b : Bool). cond b true false) (off_eqb n p off)
lone f n p off false = refl

here : (n : ℕ) (b : Bool) → takes (cond b (n ∷ []) []) n ≡ b
here n true = ap (λ (b : Bool). cond b true false) (eq-eqb n n refl)
here n false = refl

both_false : (a b : Bool) → a ≡ false → b ≡ false → cond a true b ≡ false
both_false a b e f = ap (λ (x : Bool). cond x true b) e ∙ f

first_false : (a b : Bool) → a ≡ false → cond a true b ≡ b
first_false a b e = ap (λ (x : Bool). cond x true b) e

last_false : (a b : Bool) → b ≡ false → cond a true b ≡ a
last_false true b e = refl
last_false false b e = e

next_is : (f : ℕ → Bool) (n p : ℕ) → takes (passing f (suc n)) p
    ≡ cond (takes (passing f n) p) true (takes (cond (f n) (n ∷ []) []) p)
next_is f n p =
    ap (λ (m : ℕ). takes (passing f m) p) (let e : suc n ≡ n + 1 = omega arith in e)
    ∙ ap (λ (l : List ℕ). takes l p) (passing_more f n)
    ∙ takes_append (passing f n) (cond (f n) (n ∷ []) []) p

pub takes_above : (f : ℕ → Bool) (n p : ℕ) → n ≤ p → takes (passing f n) p ≡ false
takes_above f zero p l = refl
takes_above f (suc n) p l = next_is f n p
    ∙ both_false (takes (passing f n) p) (takes (cond (f n) (n ∷ []) []) p)
    (takes_above f n p (omega (arith, l))) (lone f n p (λ e. omega (arith, l, e)) (f n))

pub takes_below : (f : ℕ → Bool) (n p : ℕ) → p < n → takes (passing f n) p ≡ f p
takes_below f zero p l = absurd (omega (arith, l))
takes_below f (suc n) p l = elim (cases_eq p n) [
  | inl e ↦ next_is f n p
      ∙ first_false (takes (passing f n) p) (takes (cond (f n) (n ∷ []) []) p)
      (takes_above f n p (omega (arith, e)))
      ∙ ap (takes (cond (f n) (n ∷ []) [])) e ∙ here n (f n) ∙ ap f (sym e)
  | inr off ↦ next_is f n p
      ∙ last_false (takes (passing f n) p) (takes (cond (f n) (n ∷ []) []) p)
      (lone f n p (λ e. off (sym e)) (f n))
      ∙ takes_below f n p (omega (arith, l, off))
]

-- a list of taken positions with one more at its end
taken_more : (k : ℕ) (xs : List ℕ) (n : ℕ) → AreTaken k xs → n < k → takes xs n ≡ false
    → AreTaken k (xs ++ n ∷ [])
taken_more k [] n x l off = (l, refl, tt)
taken_more k (q ∷ qs) n x l off =
    let apart : q ≡ n → ⊥ = λ e. flag (nat_eq q n) (takes qs n) (eq-eqb q n e) off in (
      x.0,
      takes_append qs (n ∷ []) q
          ∙ both_false (takes qs q) (takes (n ∷ []) q) x.1
          (ap (λ (b : Bool). cond b true false) (off_eqb n q (λ e. apart (sym e)))),
      taken_more k qs n x.2 l (rest (nat_eq q n) (takes qs n) off),
    )
  where
    flag : (b rest : Bool) → b ≡ true → cond b true rest ≡ false → ⊥
    flag true rest e f = no_flag f
      where
        no_flag : true ≡ false → ⊥
        no_flag g = cc
    flag false rest e f = no_flag e
      where
        no_flag : false ≡ true → ⊥
        no_flag g = cc

    rest : (b others : Bool) → cond b true others ≡ false → others ≡ false
    rest true others e = absurd (no_flag e)
      where
        no_flag : true ≡ false → ⊥
        no_flag g = cc
    rest false others e = e

pub passing_taken : (k : ℕ) (f : ℕ → Bool) (n : ℕ) → n ≤ k → AreTaken k (passing f n)
passing_taken k f zero l = tt
passing_taken k f (suc n) l = step (f n) refl (passing_taken k f n (omega (arith, l)))
  where
    step : (b : Bool) → f n ≡ b → AreTaken k (passing f n) → AreTaken k (passing f (suc n))
    step true e before = subst (AreTaken k)
        (sym (ap (passing f) (let m : suc n ≡ n + 1 = omega arith in m) ∙ passing_in f n e))
        (taken_more k (passing f n) n before (omega (arith, l)) (takes_above f n n (omega arith)))
    step false e before = subst (AreTaken k)
        (sym (ap (passing f) (let m : suc n ≡ n + 1 = omega arith in m) ∙ passing_out f n e))
        before

-- ---- the begin
pub no_step : (n p : ℕ) (shard : Shard) → slice_get (replicate n None) p ≡ Some (Some shard) → ⊥
no_step zero p shard at = absurd (none_some shard at)
  where
    none_some : (x : Shard) → None ≡ Some (Some x) → ⊥
    none_some x e = cc
no_step (suc n) zero shard at = absurd (some_none shard at)
  where
    some_none : (x : Shard) → Some None ≡ Some (Some x) → ⊥
    some_none x e = cc
no_step (suc n) (suc p) shard at = no_step n p shard at

pair_same : (p q : JoiningState) → Some p ≡ Some q → p ≡ q
pair_same p q e = cc

live_taken : (b : SetState) (p : ℕ) → takes (live_positions b) p ≡ live_at b p
live_taken b p = elim (cases_lt p (length b.positions)) [
  | inl below ↦ takes_below (live_at b) (length b.positions) p below
  | inr above ↦ takes_above (live_at b) (length b.positions) p above
      ∙ sym (ap (λ (c : PositionState). c.live) (get_or_past b.positions p dead_position above))
]

begun_is : (s : Shown) (far : FarState) (x y : ℕ) (a b : SetState) → Sound s far
    → far.joining ≡ None → IsFirstPair far x y a b
    → IsBegun far (with_pair far (begun_pair x y a b)) (begun_pair x y a b) a b
begun_is s far x y a b sound none first =
    let da = (sound.away.sound.sets.shaped x a first.can.a_there).data_first in
    let db = (sound.away.sound.sets.shaped y b first.can.b_there).data_first in
    let n = first.can.data_count in let r = first.can.parity_count in let up = first.above in
    record {
      was = none;
      now = refl;
      a_there = first.can.a_there;
      b_there = first.can.b_there;
      a_shards = refl;
      b_shards = refl;
      distinct = λ e. omega (arith, up, e);
      matched = first.can.matched;
      positions = n;
      shards = omega (arith, da, db, n, r);
      taken = subst (λ (k : ℕ). AreTaken k (live_positions b)) n
          (passing_taken (length b.positions) (live_at b) (length b.positions) (omega arith));
      live = live_taken b;
      undone = no_step (length a.shards);
      count = length-replicate (length a.shards) None;
      nodes = refl;
      left = record {
        sets = refl;
        homes = refl;
        members = refl;
        leaving = refl;
        survey = refl;
        drawn = refl;
        keys = omega arith;
        nodes = refl;
        room = λ x. x;
      };
    }

pub begun_keeps : (s : Shown) (far : FarState) (x y : ℕ) (a b : SetState) (table : List (List ℕ))
    → Sound s far → far.joining ≡ None → IsFirstPair far x y a b
    → AreCoefficients (length a.positions) (parities a) table
    → JoinKeeps s far (with_pair far (begun_pair x y a b))
begun_keeps s far x y a b table sound none first coeffs =
    let new = with_pair far (begun_pair x y a b) in
    let is = begun_is s far x y a b sound none first in
    record {
      sound = local_sound s far new sound (record {
        local = leaves_local far new refl;
        drawn = omega arith;
        kept = λ batch at r. refl;
        unpaired = λ batch at r q e. let same = pair_same (begun_pair x y a b) q e in (
          λ f. reserved_is_other far batch x a r first.can.a_there
              (sym (ap (λ (p : JoiningState). p.a) same ∙ f)),
          λ f. reserved_is_other far batch y b r first.can.b_there
              (sym (ap (λ (p : JoiningState). p.b) same ∙ f)),
        );
      }) (begun_whole s far new (begun_pair x y a b) a b table sound.away coeffs is);
      same_now = λ h. pair_now s far new h is.left;
      words = alike_leaves_words far new refl refl refl refl (λ id p shard of. refl);
    }

-- last complete contents stay, whatever the begin was
pub begin_now : (s : Shown) (far new : FarState) (r : Reply) (h : ℕ) → Sound s far
    → PairStep far new r → now s new h ≡ now s far h
begin_now s far new r h sound (inl x) = ap (λ (f : FarState). now s f h) x.state
begin_now s far new r h sound (inr (inl x)) = ap (λ (f : FarState). now s f h) x.state
begin_now s far new r h sound (inr (inr x)) =
    ap (λ (f : FarState). now s f h) x.state
    ∙ pair_now s far (with_pair far (begun_pair x.x x.y x.a x.b)) h
    (begun_is s far x.x x.y x.a x.b sound x.none x.first).left

pub begin_given : (far new : FarState) (r : Reply) → PairStep far new r
    → new.nodes.given ≡ far.nodes.given
begin_given far new r (inl x) = ap (λ (f : FarState). f.nodes.given) x.state
begin_given far new r (inr (inl x)) = ap (λ (f : FarState). f.nodes.given) x.state
begin_given far new r (inr (inr x)) = ap (λ (f : FarState). f.nodes.given) x.state

-- words of sets are left, whatever the begin was
pub begin_words : (far new : FarState) (r : Reply) → PairStep far new r → LeavesWords far new
begin_words far new r (inl x) = subst (LeavesWords far) (sym x.state) (words_stay far)
begin_words far new r (inr (inl x)) = subst (LeavesWords far) (sym x.state)
    (alike_leaves_words far (with_no_pair far) refl refl refl refl (λ id p shard of. refl))
begin_words far new r (inr (inr x)) = subst (LeavesWords far) (sym x.state)
    (alike_leaves_words far (with_pair far (begun_pair x.x x.y x.a x.b)) refl refl refl refl
    (λ id p shard of. refl))
