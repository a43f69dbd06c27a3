-- Each step of a pair is fixed over a sound far state: one reply and one far state.
use Rattle.std.proofs.Common.{◌≡◌, ℕ, List, length, Option, None, Some, sym, ap, ◌∙◌, subst, arith, inl, inr}
use Rattle.std.specs.List.{slice_get}
use Rattle.std.proofs.lemmas.Bool.{cases_order, false≢true}
use Rattle.std.proofs.lemmas.List.{ext_get_or}
use Rattle.std.proofs.lemmas.Option.{same_Some}
use Rattle.cb_gf256.specs.Rows.{row_at}
use Rattle.cb_member.specs.declared.names.Shard.{Shard}
use Rattle.cb_node.specs.NodesState.{held}
use Rattle.cb_set.specs.SetState.{SetState, parities}
use Rattle.cb_types.specs.declared.reply.Reply.{Reply}
use Rattle.cb_types.specs.declared.reply.Reply.TheVariants as answer
use Rattle.cb_world.specs.declared.homes.Home.{Home}
use Rattle.cb_world.specs.declared.shown.Shown.{Shown}
use Rattle.cb_world.specs.FarState.{FarState}
use Rattle.cb_world.specs.Homes.{home_at}
use Rattle.cb_world.specs.Joining.{JoiningState}
use Rattle.cb_world.specs.Merged.{IsMergedWord}
use Rattle.cb_world.specs.Sets.{set_in}
use Rattle.cb_world.specs.SetWord.{IsWordOf}
use Rattle.cb_world.specs.Sound.{Sound}
use Rattle.cb_world.proofs.Laws.{set_same}
use Rattle.cb_compact.specs.MergeStep.{IsMerged, MergeStep, Merges, with_merged}
use Rattle.cb_compact.specs.Merging.{IsReadyToMerge}
use Rattle.cb_compact.specs.PairStep.{CanJoin, IsFirstPair, IsJoining, IsPaired, PairStep, begun_pair, set_numbered, with_pair}
use Rattle.cb_compact.specs.PartStep.{HasNoPair, IsChangedSet, IsFreshPair, IsPairGivenUp, PartStep, with_parted}
use Rattle.cb_compact.specs.PatchStep.{AreDone, IsNext, IsNodeFull, IsOneStep, PatchStep, TakesStep, shard_beside, with_stepped}
use Rattle.cb_compact.proofs.MergeSound.{committed_is}
use Rattle.cb_compact.proofs.Committing.{ready_data}
use Rattle.cb_compact.proofs.CompactKeeps.{fresh_is}
use Rattle.cb_compact.proofs.Merged.{named_from}
use Rattle.cb_compact.proofs.PatchSound.{word_merged}
use Rattle.cb_compact.proofs.Ready.{same_fresh}

-- the two far states and their replies are one
abbrev pub IsOne : FarState → FarState → Reply → Reply → Type 0
IsOne new other r q = (r ≡ q) × (new ≡ other)

pair_same : (p q : JoiningState) → Some p ≡ Some q → p ≡ q
pair_same p q e = cc

no_pair : (o : Option JoiningState) (p : JoiningState) → o ≡ None → o ≡ Some p → ⊥
no_pair o p e f = cc

-- ---- the begin
-- the first two sets that can be joined are two
pub record AreThose (x y m n : ℕ) (a b c d : SetState) : Type 0 where
  pub first : x ≡ m
  pub second : y ≡ n
  pub a_is : a ≡ c
  pub b_is : b ≡ d

pub first_fixed : (far : FarState) (x y m n : ℕ) (a b c d : SetState) → IsFirstPair far x y a b
    → IsFirstPair far m n c d → AreThose x y m n a b c d
first_fixed far x y m n a b c d f g =
    let low = f.least_a m n c d g.above g.can in let high = g.least_a x y a b f.above f.can in
    let xs : x ≡ m = omega (arith, low, high) in
    let over = f.above in let above = g.above in
    let less = f.least_b n c d (omega (arith, above, xs))
    (subst (λ (i : ℕ). CanJoin far i n c d) (sym xs) g.can) in
    let more = g.least_b y a b (omega (arith, over, xs))
    (subst (λ (i : ℕ). CanJoin far i y a b) xs f.can) in
    let ys : y ≡ n = omega (arith, less, more) in record {
      first = xs;
      second = ys;
      a_is = set_same a c (sym f.can.a_there ∙ ap (set_in far.sets) xs ∙ g.can.a_there);
      b_is = set_same b d (sym f.can.b_there ∙ ap (set_in far.sets) ys ∙ g.can.b_there);
    }

module _ (far new other : FarState) (r q : Reply) where
  joining_fixed : IsJoining far new r → IsJoining far other q → IsOne new other r q
  joining_fixed a b = let e = pair_same a.pair b.pair (sym a.there ∙ b.there) in (
    a.reply ∙ ap (λ (p : JoiningState). answer.Joining (set_numbered p.a) (set_numbered p.b)) e
        ∙ sym b.reply,
    a.state ∙ sym b.state,
  )

  paired_fixed : IsPaired far new r → IsPaired far other q → IsOne new other r q
  paired_fixed a b =
      let e = first_fixed far a.x a.y b.x b.y a.a a.b b.a b.b a.first b.first in (
        a.reply ∙ (λ i. answer.Pair (set_numbered (e.first i)) (set_numbered (e.second i)))
            ∙ sym b.reply,
        a.state
            ∙ (λ i. with_pair far (begun_pair (e.first i) (e.second i) (e.a_is i) (e.b_is i)))
            ∙ sym b.state,
      )

  pub begins_fixed : PairStep far new r → PairStep far other q → IsOne new other r q
  begins_fixed (inl a) (inl b) = joining_fixed a b
  begins_fixed (inl a) (inr (inl b)) = absurd (no_pair far.joining a.pair b.none a.there)
  begins_fixed (inl a) (inr (inr b)) = absurd (no_pair far.joining a.pair b.none a.there)
  begins_fixed (inr (inl a)) (inl b) = absurd (no_pair far.joining b.pair a.none b.there)
  begins_fixed (inr (inr a)) (inl b) = absurd (no_pair far.joining b.pair a.none b.there)
  begins_fixed (inr (inl a)) (inr (inl b)) = (a.reply ∙ sym b.reply, a.state ∙ sym b.state)
  begins_fixed (inr (inl a)) (inr (inr b)) =
      absurd (a.no_two b.x b.y b.a b.b b.first.above b.first.can)
  begins_fixed (inr (inr a)) (inr (inl b)) =
      absurd (b.no_two a.x a.y a.a a.b a.first.above a.first.can)
  begins_fixed (inr (inr a)) (inr (inr b)) = paired_fixed a b

-- the begin asks nothing of the far state
pub begin_fixes : (s : Shown) (far new other : FarState) (r q : Reply) → Sound s far
    → PairStep far new r → PairStep far other q → IsOne new other r q
begin_fixes s far new other r q sound a b = begins_fixed far new other r q a b

-- ---- the pair given up
changed_fixed : (far : FarState) (pair : JoiningState) (m n : ℕ) → IsChangedSet far pair m
    → IsChangedSet far pair n → m ≡ n
changed_fixed far pair m n (inl x) (inl y) = x.1 ∙ sym y.1
changed_fixed far pair m n (inl x) (inr y) = absurd (x.0 y.0 y.1)
changed_fixed far pair m n (inr x) (inl y) = absurd (y.0 x.0 x.1)
changed_fixed far pair m n (inr x) (inr y) = x.3 ∙ sym y.3

changed_or_fresh : (far : FarState) (pair : JoiningState) (a b : SetState) (n : ℕ)
    → IsFreshPair far pair a b → IsChangedSet far pair n → ⊥
changed_or_fresh far pair a b n fresh (inl x) = x.0 a fresh.a_stands
changed_or_fresh far pair a b n fresh (inr x) = x.2 b fresh.b_stands

given_or_fresh : (far new : FarState) (r : Reply) (pair : JoiningState) (a b : SetState)
    → IsPairGivenUp far new r → IsFreshPair far pair a b → ⊥
given_or_fresh far new r pair a b x fresh =
    changed_or_fresh far pair a b x.id fresh
    (subst (λ (p : JoiningState). IsChangedSet far p x.id)
    (pair_same x.pair pair (sym x.there ∙ fresh.was)) x.changed)

module _ (far new other : FarState) (r q : Reply) where
  none_fixed : HasNoPair far new r → HasNoPair far other q → IsOne new other r q
  none_fixed a b = (a.reply ∙ sym b.reply, a.state ∙ sym b.state)

  given_fixed : IsPairGivenUp far new r → IsPairGivenUp far other q → IsOne new other r q
  given_fixed a b =
      let e = pair_same a.pair b.pair (sym a.there ∙ b.there) in
      let ids = changed_fixed far b.pair a.id b.id
      (subst (λ (p : JoiningState). IsChangedSet far p a.id) e a.changed) b.changed in (
        a.reply ∙ ap (λ (n : ℕ). answer.Changed (set_numbered n)) ids ∙ sym b.reply,
        a.state ∙ ap (with_parted far) e ∙ sym b.state,
      )

  parts_fixed : PartStep far new r → PartStep far other q → IsOne new other r q
  parts_fixed (inl a) (inl b) = none_fixed a b
  parts_fixed (inl a) (inr b) = absurd (no_pair far.joining b.pair a.none b.there)
  parts_fixed (inr a) (inl b) = absurd (no_pair far.joining a.pair b.none a.there)
  parts_fixed (inr a) (inr b) = let e = pair_same a.pair b.pair (sym a.there ∙ b.there) in
      (a.reply ∙ sym b.reply, a.state ∙ ap (with_parted far) e ∙ sym b.state)

pub part_fixes : (s : Shown) (far new other : FarState) (r q : Reply) → Sound s far
    → PartStep far new r → PartStep far other q → IsOne new other r q
part_fixes s far new other r q sound a b = parts_fixed far new other r q a b

-- ---- a step
pub next_fixed : (pair : JoiningState) (k m n : ℕ) → IsNext pair k m → IsNext pair k n → m ≡ n
next_fixed pair k m n x y = elim (cases_order m n) [
  | inl e ↦ e
  | inr apart ↦ elim apart [
    | inl less ↦ absurd (false≢true (sym (y.least m less) ∙ x.undone))
    | inr more ↦ absurd (false≢true (sym (x.least n more) ∙ y.undone))
  ]
]

done_or_next : (pair : JoiningState) (k p : ℕ) → AreDone pair k → IsNext pair k p → ⊥
done_or_next pair k p done next = false≢true (sym (done p next.within) ∙ next.undone)

-- the sets have words, and a merged one
pub record HasMerged (far : FarState) (pair : JoiningState) (a b : SetState) : Type 0 where
  pub wa : List (List ℕ)
  pub wb : List (List ℕ)
  pub m : List (List ℕ)
  pub a_word : IsWordOf far.nodes far.members a wa
  pub b_word : IsWordOf far.nodes far.members b wb
  pub merged : IsMergedWord a.pages (length a.positions) (parities a) pair.taken wa wb m

pub has_merged : (s : Shown) (far : FarState) (pair : JoiningState) (a b : SetState) → Sound s far
    → IsFreshPair far pair a b → HasMerged far pair a b
has_merged s far pair a b sound fresh =
    let j = sound.away.join pair fresh.was in
    let sets = sound.away.sound.sets in
    let x = sets.worded pair.a a fresh.a_stands.there in
    let y = sets.worded pair.b b fresh.b_stands.there in
    let m = j.word a b (fresh_is far pair a b fresh) in record {
      wa = x.0;
      wb = y.0;
      m = m.0;
      a_word = x.1.word;
      b_word = y.1.word;
      merged = word_merged far pair a b j x.0 y.0 m.0 fresh x.1.word y.1.word m.1;
    }

module _ (s : Shown) (far : FarState) (pair : JoiningState) (a b : SetState) (sound : Sound s far)
    (fresh : IsFreshPair far pair a b) (new other : FarState) (r q : Reply) where
  full_fixed : IsNodeFull far pair a new r → IsNodeFull far pair a other q → IsOne new other r q
  full_fixed x y =
      let at = next_fixed pair (length a.positions) x.position y.position x.next y.next in
      let olds : x.old ≡ y.old =
      same_Some x.old y.old (sym x.at ∙ ap (slice_get pair.shards_a) at ∙ y.at) in (
        x.reply ∙ ap (λ (o : Shard). answer.NodeFull o.node) olds ∙ sym y.reply,
        x.state ∙ sym y.state,
      )

  full_or_one : (p v : Reply) (next last : FarState) → IsNodeFull far pair a next p
      → IsOneStep far pair a b last v → ⊥
  full_or_one p v next last x y =
      let at = next_fixed pair (length a.positions) x.position y.position x.next y.next in
      let olds : x.old ≡ y.old =
      same_Some x.old y.old (sym x.at ∙ ap (slice_get pair.shards_a) at ∙ y.at) in
      let full = x.full in let room = y.room in
      let e = ap (λ (o : Shard). held far.nodes o.node) olds in omega (arith, full, room, e)

  one_fixed : IsOneStep far pair a b new r → IsOneStep far pair a b other q → IsOne new other r q
  one_fixed x y =
      let at = next_fixed pair (length a.positions) x.position y.position x.next y.next in
      let olds : x.old ≡ y.old =
      same_Some x.old y.old (sym x.at ∙ ap (slice_get pair.shards_a) at ∙ y.at) in
      let w = has_merged s far pair a b sound fresh in
      let rows : x.row ≡ y.row = x.merged w.wa w.wb w.m w.a_word w.b_word w.merged
      ∙ ap (row_at w.m) at ∙ sym (y.merged w.wa w.wb w.m w.a_word w.b_word w.merged) in (
        x.reply ∙ ap answer.Stepped at ∙ sym y.reply,
        x.state
            ∙ (λ i. with_stepped far pair (at i) (shard_beside far (olds i)) (rows i))
            ∙ sym y.state,
      )

  takes_fixed : TakesStep far pair a b new r → TakesStep far pair a b other q → IsOne new other r q
  takes_fixed (inl x) (inl y) = (x.reply ∙ sym y.reply, x.state ∙ sym y.state)
  takes_fixed (inl x) (inr (inl y)) =
      absurd (done_or_next pair (length a.positions) y.position x.done y.next)
  takes_fixed (inl x) (inr (inr y)) =
      absurd (done_or_next pair (length a.positions) y.position x.done y.next)
  takes_fixed (inr (inl x)) (inl y) =
      absurd (done_or_next pair (length a.positions) x.position y.done x.next)
  takes_fixed (inr (inr x)) (inl y) =
      absurd (done_or_next pair (length a.positions) x.position y.done x.next)
  takes_fixed (inr (inl x)) (inr (inl y)) = full_fixed x y
  takes_fixed (inr (inl x)) (inr (inr y)) = absurd (full_or_one r q new other x y)
  takes_fixed (inr (inr x)) (inr (inl y)) = absurd (full_or_one q r other new y x)
  takes_fixed (inr (inr x)) (inr (inr y)) = one_fixed x y

  -- ---- the commit
  ready : AreDone pair (length a.positions) → IsReadyToMerge s far pair a b
  ready done = record { sound = sound.away; fresh = fresh; done = done }

  home_same : (x : IsMerged far pair a b new r) (y : IsMerged far pair a b other q) (h : ℕ)
      → home_at new.homes h ≡ home_at other.homes h
  home_same x y h =
      elim ((committed_is s far pair a b new.homes (ready x.done) x.homes).each h) [
        | inl z ↦ z.home ∙ sym (y.homes.others h (λ p slot named.
            elim (named_from far.counts.sets pair a b
            (ready_data s far pair a b (ready x.done)) p slot h named) [
              | inl v ↦ z.absent_b p slot v.1
              | inr v ↦ z.absent_a p slot v.1
            ]))
        | inr z ↦ z.home ∙ sym (y.homes.here z.position z.slot h z.named)
      ]

  merged_fixed : IsMerged far pair a b new r → IsMerged far pair a b other q → IsOne new other r q
  merged_fixed x y =
      let homes : new.homes ≡ other.homes =
      ext_get_or None new.homes other.homes (x.homes.count ∙ sym y.homes.count)
      (λ h l. home_same x y h) in (
        x.reply ∙ sym y.reply,
        x.state ∙ ap (λ (l : List (Option Home)). with_merged far pair a b l) homes ∙ sym y.state,
      )

  merges_fixed : Merges far pair a b new r → Merges far pair a b other q → IsOne new other r q
  merges_fixed (inl x) (inl y) = (x.reply ∙ sym y.reply, x.state ∙ sym y.state)
  merges_fixed (inl x) (inr y) = absurd (false≢true (sym (y.done x.position x.within) ∙ x.some))
  merges_fixed (inr x) (inl y) = absurd (false≢true (sym (x.done y.position y.within) ∙ y.some))
  merges_fixed (inr x) (inr y) = merged_fixed x y

-- what is so of a pair whose sets stand is so of the one that is looked at
pub as_fresh : (far : FarState) (pair other : JoiningState) (a b c d : SetState)
    (P : JoiningState → SetState → SetState → Type 0) → IsFreshPair far pair a b
    → IsFreshPair far other c d → P pair a b → P other c d
as_fresh far pair other a b c d P x y p =
    let same = same_fresh far pair other a b c d x y in
    subst (λ (v : JoiningState). P v c d) same.pairs
    (subst (λ (v : SetState). P pair v d) same.a_is
    (subst (λ (v : SetState). P pair a v) same.b_is p))

pub patch_fixes : (s : Shown) (far new other : FarState) (r q : Reply) → Sound s far
    → PatchStep far new r → PatchStep far other q → IsOne new other r q
patch_fixes s far new other r q sound (inl a) (inl b) = none_fixed far new other r q a b
patch_fixes s far new other r q sound (inl a) (inr (inl b)) =
    absurd (no_pair far.joining b.pair a.none b.there)
patch_fixes s far new other r q sound (inl a) (inr (inr b)) =
    absurd (no_pair far.joining b.pair a.none b.fresh.was)
patch_fixes s far new other r q sound (inr (inl a)) (inl b) =
    absurd (no_pair far.joining a.pair b.none a.there)
patch_fixes s far new other r q sound (inr (inr a)) (inl b) =
    absurd (no_pair far.joining a.pair b.none a.fresh.was)
patch_fixes s far new other r q sound (inr (inl a)) (inr (inl b)) =
    given_fixed far new other r q a b
patch_fixes s far new other r q sound (inr (inl a)) (inr (inr b)) =
    absurd (given_or_fresh far new r b.pair b.a b.b a b.fresh)
patch_fixes s far new other r q sound (inr (inr a)) (inr (inl b)) =
    absurd (given_or_fresh far other q a.pair a.a a.b b a.fresh)
patch_fixes s far new other r q sound (inr (inr a)) (inr (inr b)) =
    takes_fixed s far b.pair b.a b.b sound b.fresh new other r q
    (as_fresh far a.pair b.pair a.a a.b b.a b.b (λ (p : JoiningState) (x y : SetState).
    TakesStep far p x y new r) a.fresh b.fresh a.takes) b.takes

pub merge_fixes : (s : Shown) (far new other : FarState) (r q : Reply) → Sound s far
    → MergeStep far new r → MergeStep far other q → IsOne new other r q
merge_fixes s far new other r q sound (inl a) (inl b) = none_fixed far new other r q a b
merge_fixes s far new other r q sound (inl a) (inr (inl b)) =
    absurd (no_pair far.joining b.pair a.none b.there)
merge_fixes s far new other r q sound (inl a) (inr (inr b)) =
    absurd (no_pair far.joining b.pair a.none b.fresh.was)
merge_fixes s far new other r q sound (inr (inl a)) (inl b) =
    absurd (no_pair far.joining a.pair b.none a.there)
merge_fixes s far new other r q sound (inr (inr a)) (inl b) =
    absurd (no_pair far.joining a.pair b.none a.fresh.was)
merge_fixes s far new other r q sound (inr (inl a)) (inr (inl b)) =
    given_fixed far new other r q a b
merge_fixes s far new other r q sound (inr (inl a)) (inr (inr b)) =
    absurd (given_or_fresh far new r b.pair b.a b.b a b.fresh)
merge_fixes s far new other r q sound (inr (inr a)) (inr (inl b)) =
    absurd (given_or_fresh far other q a.pair a.a a.b b a.fresh)
merge_fixes s far new other r q sound (inr (inr a)) (inr (inr b)) =
    merges_fixed s far b.pair b.a b.b sound b.fresh new other r q
    (as_fresh far a.pair b.pair a.a a.b b.a b.b (λ (p : JoiningState) (x y : SetState).
    Merges far p x y new r) a.fresh b.fresh a.merges) b.merges
