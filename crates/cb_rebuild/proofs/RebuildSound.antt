-- A row that stands again keeps the world sound, every set's word, and last complete contents.
use Rattle.std.proofs.Common.{◌≡◌, ◌≢◌, ◌⊎◌, ℕ, ◌+◌, ◌<◌, Bool, true, false, cond, List, length, Option, Some, None, refl, sym, ap, ◌∙◌, subst, arith, inl, inr, length-set}
use Rattle.std.specs.FinMap as map
use Rattle.std.specs.Cmp.{nat_cmp_total}
use Rattle.std.specs.Ordering.{nat_cmp, eq_by_cmp}
use Rattle.std.specs.List.{slice_get}
use Rattle.std.proofs.lemmas.Bool.{cases_eq, false≢true, ltb-true}
use Rattle.std.proofs.lemmas.Bool.Decides.{nat_tests}
use Rattle.cb_member.specs.declared.names.Shard.{Shard}
use Rattle.cb_set.specs.SetState.{SetState, parities, with_shard}
use Rattle.cb_set.specs.Lost.{is_lost, least_lost, lost}
use Rattle.cb_set.specs.Nodes.{OnDistinctNodes, other_shards}
use Rattle.cb_set.proofs.Laws.{parities-with_shard, shard_else, shard_here, shard_replaced, spare_keeps_distinct}
use Rattle.cb_world.specs.declared.homes.Home.{Home}
use Rattle.cb_world.specs.declared.shown.Shown.{Shown}
use Rattle.cb_world.specs.Shown.{object_at}
use Rattle.cb_world.specs.Homes.{home_at}
use Rattle.cb_world.specs.Join.{IsJoin}
use Rattle.cb_world.specs.Joining.{JoiningState}
use Rattle.cb_world.specs.Now.{broken_home, broken_set, now, now_as}
use Rattle.cb_world.specs.Sets.{Kept, set_in, if_committed}
use Rattle.cb_world.specs.SetWord.{IsWeak, IsWordOf, is_broken}
use Rattle.cb_world.specs.FarState.{FarState}
use Rattle.cb_world.specs.FarSound.{Owner, of_set, of_leaving, of_joining, IsShardOf, AwaySound}
use Rattle.cb_world.specs.Orders.{LeavesWords}
use Rattle.cb_world.specs.Sound.{Sound}
use Rattle.cb_world.proofs.Laws.{number, fits_on_least, up_is_kept, up_on_least, local_stays, noted_stays, claimed_stay, place_on, reserved_is_other, HasRowPut, IsNewOr, IsRenamed, row_put_away, row_put_join, row_put_leaves_words, row_put_words, set_there, stands_still, survey_stays}
use Rattle.cb_rebuild.specs.RebuildStep.{IsNewShard, IsRowOf, with_put, with_shard_named}
use Rattle.cb_rebuild.proofs.WeakSets.{least_is_lost, least_within, set_same, weak_not_broken}

-- the row of the least lost position of a weak set was made again, and has a new shard
pub record IsRestored (s : Shown) (far : FarState) (id : ℕ) (set : SetState) (p : ℕ) (shard : Shard)
    (row : List ℕ) : Type 0 where
  pub sound : AwaySound s far
  pub there : set_in far.sets id ≡ Some set
  pub weak : IsWeak far.members set
  pub lost : least_lost far.members set.shards ≡ Some p
  pub named : IsNewShard far set p shard
  pub of_word : IsRowOf far set p row

-- the far state then
abbrev pub stood : FarState → ℕ → SetState → ℕ → Shard → List ℕ → FarState
stood far id set p shard row = with_shard_named (with_put far set shard row) id set p shard

shard_same : (a b : Shard) → Some a ≡ Some b → a ≡ b
shard_same a b e = cc

abbrev number_of : Owner → ℕ
number_of (of_set j q) = j
number_of (of_leaving q) = 0
number_of (of_joining q) = 0

module _ (s : Shown) (far : FarState) (id : ℕ) (set : SetState) (p : ℕ) (shard : Shard)
    (row : List ℕ) (x : IsRestored s far id set p shard row) where
  abbrev new : FarState
  new = stood far id set p shard row

  abbrev rest : SetState
  rest = with_shard set p shard

  within : p < length set.shards
  within = least_within far.members set.shards p x.lost

  -- ---- the sets
  here_now : set_in new.sets id ≡ Some rest
  here_now = set_there far.sets id rest

  pub kept_stays : (j : ℕ) → j ≢ id → map.get new.sets j ≡ map.get far.sets j
  kept_stays j off =
      map.get-insert nat_cmp_total far.sets id kept j
      ∙ ap (λ (b : Bool). cond b (Some kept) (map.get far.sets j)) other
    where
      kept : Kept
      kept = record { set = rest; committed = true }

      other : eq_by_cmp nat_cmp j id ≡ false
      other = grind (arith, nat_tests)

  pub others_stay : (j : ℕ) → j ≢ id → set_in new.sets j ≡ set_in far.sets j
  others_stay j off = ap if_committed (kept_stays j off)

  each_set : (P : ℕ → SetState → Type 0) → P id rest
      → ((j : ℕ) (c : SetState) → j ≢ id → set_in far.sets j ≡ Some c → P j c)
      → (j : ℕ) (c : SetState) → set_in new.sets j ≡ Some c → P j c
  each_set P mine off j c at = elim (cases_eq j id) [
    | inl here ↦
        subst (λ (d : SetState). P j d)
        (set_same rest c (sym here_now ∙ ap (set_in new.sets) (sym here) ∙ at))
        (subst (λ (n : ℕ). P n rest) (sym here) mine)
    | inr other ↦ off j c other (sym (others_stay j other) ∙ at)
  ]

  renamed : IsRenamed set rest
  renamed = record { same = refl; count = length-set set.shards p shard }

  set_is : (j : ℕ) (c : SetState) → set_in far.sets j ≡ Some c → (d : SetState)
      × (set_in new.sets j ≡ Some d) × IsRenamed c d
  set_is j c there = elim (cases_eq j id) [
    | inl here ↦ (
      rest,
      ap (set_in new.sets) here ∙ here_now,
      subst (λ (d : SetState). IsRenamed d rest)
          (set_same set c (sym x.there ∙ ap (set_in far.sets) (sym here) ∙ there)) renamed,
    )
    | inr off ↦ (c, others_stay j off ∙ there, record { same = refl; count = refl })
  ]

  -- ---- who names a row
  back : (o : Owner) (a : Shard) → IsShardOf new o a → IsNewOr far (of_set id p) shard o a
  back (of_set j q) a is =
      each_set (λ j c. slice_get c.shards q ≡ Some a → IsNewOr far (of_set id p) shard (of_set j q) a)
      (λ at. elim (cases_eq q p) [
        | inl here ↦ inl (
          ap (of_set id) here,
          sym (shard_same shard a (sym (shard_here set.shards p shard within)
              ∙ ap (slice_get rest.shards) (sym here) ∙ at)),
        )
        | inr off ↦ inr (set, x.there, shard_else set.shards p q shard a off at)
      ])
      (λ j c off was at. inr (c, was, at)) j is.0 is.1 is.2
  back (of_leaving q) a is = inr is
  back (of_joining q) a is = inr is

  -- a shard that is not lost is one still
  on : (o : Owner) (a : Shard) → IsShardOf far o a → is_lost far.members a ≡ false
      → IsShardOf new o a
  on (of_set j q) a is kept = elim (cases_eq j id) [
    | inl here ↦
        let e = set_same is.0 set (sym is.1 ∙ ap (set_in far.sets) here ∙ x.there) in
        let at : slice_get set.shards q ≡ Some a =
        subst (λ (c : SetState). slice_get c.shards q ≡ Some a) e is.2 in
        elim (cases_eq q p) [
          | inl same ↦ absurd (false≢true (sym kept
              ∙ least_is_lost far.members set.shards p a x.lost
              (ap (slice_get set.shards) (sym same) ∙ at)))
          | inr off ↦ (
            rest,
            ap (set_in new.sets) here ∙ here_now,
            place_on set.shards p q shard a off at,
          )
        ]
    | inr off ↦ (is.0, others_stay j off ∙ is.1, is.2)
  ]
  on (of_leaving q) a is kept = is
  on (of_joining q) a is kept = is

  shard_there : slice_get rest.shards p ≡ Some shard
  shard_there = shard_here set.shards p shard within

  puts : HasRowPut s far new (of_set id p) shard row
  puts = record {
    up = up_on_least far (other_shards set.shards p) shard x.named.node x.named.incarnation;
    fits = fits_on_least far (other_shards set.shards p) shard.node x.named.node;
    key = x.named.key;
    of_owner = λ c rows there word. x.of_word rows
        (subst (λ (d : SetState). IsWordOf far.nodes far.members d rows)
        (set_same c set (sym there ∙ x.there)) word);
    given = far.nodes.given + length set.positions;
    nodes = refl;
    members = refl;
    homes = refl;
    joining = refl;
    numbers = refl;
    keys = refl;
    named = (rest, here_now, shard_there);
    back = back;
    on = on;
    set_was = each_set (λ j c. (was : SetState) × (set_in far.sets j ≡ Some was) × IsRenamed was c)
        (set, x.there, renamed) (λ j c off was. (c, was, record { same = refl; count = refl }));
    set_is = set_is;
    same_or_named = each_set (λ j c. (set_in far.sets j ≡ Some c)
        ⊎ ((q : ℕ) × (slice_get c.shards q ≡ Some shard))) (inr (p, shard_there))
        (λ j c off was. inl was);
    distinct = each_set (λ j c. OnDistinctNodes c.shards)
        (spare_keeps_distinct set.shards p shard (x.sound.sets.shaped id set x.there).distinct
        x.named.node.may.spare) (λ j c off was. (x.sound.sets.shaped j c was).distinct);
    batch_was = λ b at. (b, at, record { same = refl; count = refl });
    apart = λ b q r a c there. (x.sound.batch b there).apart q r a c;
  }

  -- ---- the far part
  stood_away : AwaySound s new
  stood_away = row_put_away s far new (of_set id p) shard row x.sound puts

  stood_join : (pair : JoiningState) → far.joining ≡ Some pair → IsJoin far pair → IsJoin new pair
  stood_join = row_put_join s far new (of_set id p) shard row x.sound puts

  pub word_stays : (j : ℕ) (c : SetState) (rows : List (List ℕ)) → set_in far.sets j ≡ Some c
      → IsWordOf far.nodes far.members c rows → (d : SetState) × (set_in new.sets j ≡ Some d)
      × IsWordOf new.nodes new.members d rows
  word_stays = row_put_words s far new (of_set id p) shard row x.sound puts

  -- the set was not broken, and each word of it is one still
  pub stood_leaves : LeavesWords far new
  stood_leaves = row_put_leaves_words s far new (of_set id p) shard row x.sound puts
      (λ j q was e there.
      let at : id ≡ j = ap number_of e in
      let same : set ≡ was = set_same set was (sym x.there ∙ ap (set_in far.sets) at ∙ there) in
      sym (ap (is_broken far.members) same) ∙ weak_not_broken far.members set x.weak)

  -- ---- last complete contents
  rest_not_broken : is_broken far.members rest ≡ false
  rest_not_broken = by (is_broken far.members rest) refl
    where
      by : (b : Bool) → is_broken far.members rest ≡ b → is_broken far.members rest ≡ false
      by false e = e
      by true e =
          let l = ltb-true (parities rest) (length (lost far.members rest.shards)) e in
          let same = parities-with_shard set p shard in
          let few = x.weak.few_lost in
          let n = shard_replaced far.members set.shards p shard shard within in
          let none = ap number (up_is_kept far shard x.sound.rows puts.up) in
          absurd (omega (arith, l, same, few, n, none))

  pub stood_now : (h : ℕ) → now s new h ≡ now s far h
  stood_now h = ap (λ (l : Bool). now_as s h l (object_at s h)) (same (home_at far.homes h))
    where
      same : (o : Option Home) → broken_home new o ≡ broken_home far o
      same None = refl
      same (Some home) = elim (cases_eq home.set id) [
        | inl here ↦ ap (λ (n : ℕ). broken_set far.members (set_in new.sets n)) here
            ∙ ap (broken_set far.members) here_now ∙ rest_not_broken
            ∙ sym (ap (λ (n : ℕ). broken_set far.members (set_in far.sets n)) here
            ∙ ap (broken_set far.members) x.there ∙ weak_not_broken far.members set x.weak)
        | inr off ↦ ap (broken_set far.members) (others_stay home.set off)
      ]

-- the whole world
pub stood_sound : (s : Shown) (far : FarState) (id : ℕ) (set : SetState) (p : ℕ) (shard : Shard)
    (row : List ℕ) → Sound s far → IsRestored s far id set p shard row
    → Sound s (stood far id set p shard row)
stood_sound s far id set p shard row sound x = record {
  here = local_stays s far (stood far id set p shard row) refl refl refl refl sound.here;
  noted = noted_stays s far (stood far id set p shard row) refl refl refl (omega arith)
      (λ batch at. kept_stays s far id set p shard row x batch.set
      (reserved_is_other far batch id set (sound.noted batch at).reserved x.there)) sound.noted;
  claimed = claimed_stay s far (stood far id set p shard row) refl refl sound.claimed;
  away = record {
    sound = stood_away s far id set p shard row x;
    join = λ pair at. stood_join s far id set p shard row x pair at (sound.away.join pair at);
    survey = survey_stays far (stood far id set p shard row) refl (omega arith)
        (λ j l. stands_still far.members far.members (set_in far.sets j)
        (set_in (stood far id set p shard row).sets j) refl
        (others_stay s far id set p shard row x j
        (λ here. sound.away.survey.none id set (omega (arith, l, here)) x.there x.weak)))
        sound.away.survey;
  };
}
