-- A row that is put for a leaving batch keeps the world sound.
use Rattle.std.proofs.Common.{◌≡◌, ◌≢◌, ◌⊎◌, ℕ, ◌<◌, false, List, length, Some, None, refl, sym, ap, ◌∙◌, subst, arith, inl, inr, length-set}
use Rattle.std.specs.List.{slice_get, Contains}
use Rattle.std.proofs.lemmas.Bool.{cases_eq, false≢true}
use Rattle.std.proofs.lemmas.Option.{get_or_from_slice_get}
use Rattle.cb_gf256.specs.Rows.{row_at}
use Rattle.cb_member.specs.declared.names.Shard.{Shard}
use Rattle.cb_set.specs.Lost.{is_lost}
use Rattle.cb_world.specs.declared.shown.Shown.{Shown}
use Rattle.cb_world.specs.Join.{IsJoin}
use Rattle.cb_world.specs.Joining.{JoiningState}
use Rattle.cb_world.specs.Leaving.{LeavingState}
use Rattle.cb_world.specs.FarState.{FarState}
use Rattle.cb_world.specs.FarSound.{Owner, of_set, of_leaving, of_joining, IsShardOf, AwaySound, batch_rows}
use Rattle.cb_world.specs.Sound.{AreNoted, IsLeaving, Sound}
use Rattle.cb_world.proofs.Laws.{fits_on_least, up_on_least, local_stays, place_back, place_here, place_on, HasRowPut, IsNewOr, IsRefilled, row_put_away, row_put_join, survey_same}
use Rattle.cb_evict.specs.ShipRule.{IsShardFor, other_puts, with_shard_at, with_shipped}
use Rattle.cb_evict.specs.Waiting.{is_waiting, least_waiting}
use Rattle.cb_evict.proofs.PutShards.{others_off}
use Rattle.cb_evict.proofs.WhichWait.{least_waits}
use Rattle.cb_evict.proofs.Options.{some_same}
use Rattle.cb_evict.proofs.Group.{noted_still}

-- the row of the least position that waits of the batch that is leaving, and its shard
pub record IsPut (s : Shown) (far : FarState) (batch : LeavingState) (p : ℕ) (shard : Shard)
    (row : List ℕ) : Type 0 where
  pub sound : AwaySound s far
  pub there : far.leaving ≡ Some batch
  pub least : least_waiting far.members batch.shards ≡ Some p
  pub named : IsShardFor far batch p shard
  pub of_batch : row ≡ row_at (batch_rows s batch) p
  pub bare : batch.made ≡ false → p < length batch.frames

shard_same : (a b : Shard) → Some (Some a) ≡ Some (Some b) → a ≡ b
shard_same a b e = cc

module _ (s : Shown) (far : FarState) (batch : LeavingState) (p : ℕ) (shard : Shard)
    (row : List ℕ) (x : IsPut s far batch p shard row) where
  abbrev new : FarState
  new = with_shipped far batch p shard row

  abbrev rest : LeavingState
  rest = with_shard_at batch p shard

  within : p < length batch.shards
  within = (least_waits far.members batch.shards p x.least).0

  here : slice_get rest.shards p ≡ Some (Some shard)
  here = place_here batch.shards p (Some shard) within

  -- ---- who names a row
  place_was : (q : ℕ) (a : Shard) → slice_get rest.shards q ≡ Some (Some a)
      → ((q ≡ p) × (a ≡ shard)) ⊎ ((q ≢ p) × (slice_get batch.shards q ≡ Some (Some a)))
  place_was q a at = elim (cases_eq q p) [
    | inl same ↦ inl (
      same,
      sym (shard_same shard a (sym here ∙ ap (slice_get rest.shards) (sym same)
          ∙ at)),
    )
    | inr off ↦ inr (off, place_back batch.shards p q (Some shard) (Some a) off at)
  ]

  back : (o : Owner) (a : Shard) → IsShardOf new o a → IsNewOr far (of_leaving p) shard o a
  back (of_set j q) a is = inr is
  back (of_joining q) a is = inr is
  back (of_leaving q) a is =
      let at : slice_get rest.shards q ≡ Some (Some a) =
      subst (λ (b : LeavingState). slice_get b.shards q ≡ Some (Some a))
      (sym (some_same rest is.0 is.1)) is.2 in
      elim (place_was q a at) [
        | inl y ↦ inl (ap of_leaving y.0, y.1)
        | inr y ↦ inr (batch, x.there, y.1)
      ]

  -- a shard that is not lost is one still
  on : (o : Owner) (a : Shard) → IsShardOf far o a → is_lost far.members a ≡ false
      → IsShardOf new o a
  on (of_set j q) a is kept = is
  on (of_joining q) a is kept = is
  on (of_leaving q) a is kept =
      let at : slice_get batch.shards q ≡ Some (Some a) =
      subst (λ (b : LeavingState). slice_get b.shards q ≡ Some (Some a))
      (some_same is.0 batch (sym is.1 ∙ x.there)) is.2 in
      elim (cases_eq q p) [
        | inl same ↦ absurd (false≢true (sym kept
            ∙ ap (is_waiting far.members) (sym (get_or_from_slice_get batch.shards p (Some a) None
            (ap (slice_get batch.shards) (sym same) ∙ at)))
            ∙ (least_waits far.members batch.shards p x.least).1))
        | inr off ↦ (rest, refl, place_on batch.shards p q (Some shard) (Some a) off at)
      ]

  -- ---- the batch
  off_node : (q : ℕ) (a : Shard) → q ≢ p → slice_get batch.shards q ≡ Some (Some a)
      → a.node.n ≢ shard.node.n
  off_node q a off at = others_off batch.shards p q a shard.node within x.named.node.may.spare off at

  apart : (q r : ℕ) (a b : Shard)
      → ((q ≡ p) × (a ≡ shard)) ⊎ ((q ≢ p) × (slice_get batch.shards q ≡ Some (Some a)))
      → ((r ≡ p) × (b ≡ shard)) ⊎ ((r ≢ p) × (slice_get batch.shards r ≡ Some (Some b)))
      → a.node.n ≡ b.node.n → q ≡ r
  apart q r a b (inl y) (inl z) same = y.0 ∙ sym z.0
  apart q r a b (inl y) (inr z) same = absurd (off_node r b z.0 z.1
      (sym same ∙ ap (λ (c : Shard). c.node.n) y.1))
  apart q r a b (inr y) (inl z) same = absurd (off_node q a y.0 y.1
      (same ∙ ap (λ (c : Shard). c.node.n) z.1))
  apart q r a b (inr y) (inr z) same =
      (x.sound.batch batch x.there).apart q r a b y.1 z.1 same

  at_place : (b : LeavingState) (q : ℕ) (a : Shard) → new.leaving ≡ Some b
      → slice_get b.shards q ≡ Some (Some a)
      → ((q ≡ p) × (a ≡ shard)) ⊎ ((q ≢ p) × (slice_get batch.shards q ≡ Some (Some a)))
  at_place b q a there at =
      place_was q a (subst (λ (c : LeavingState). slice_get c.shards q ≡ Some (Some a))
      (sym (some_same rest b there)) at)

  pub puts : HasRowPut s far new (of_leaving p) shard row
  puts = record {
    up = up_on_least far (other_puts batch.shards p) shard x.named.node x.named.incarnation;
    fits = fits_on_least far (other_puts batch.shards p) shard.node x.named.node;
    key = x.named.key;
    of_owner = λ b at. let same = some_same batch b (sym x.there ∙ at) in (
      x.of_batch ∙ ap (λ (c : LeavingState). row_at (batch_rows s c) p) same,
      subst (λ (c : LeavingState). c.made ≡ false → p < length c.frames) same x.bare,
    );
    given = far.nodes.given;
    nodes = refl;
    members = refl;
    homes = refl;
    joining = refl;
    numbers = refl;
    keys = refl;
    named = (rest, refl, here);
    back = back;
    on = on;
    set_was = λ j c at. (c, at, record { same = refl; count = refl });
    set_is = λ j c at. (c, at, record { same = refl; count = refl });
    same_or_named = λ j c at. inl at;
    distinct = λ j c at. (x.sound.sets.shaped j c at).distinct;
    batch_was = λ b at. (
      batch,
      x.there,
      subst (IsRefilled batch) (some_same rest b at) (record {
        same = refl;
        count = length-set batch.shards p (Some shard);
      }),
    );
    apart = λ b q r a c there at is same.
        apart q r a c (at_place b q a there at) (at_place b r c there is) same;
  }

  -- ---- the far part
  put_away : AwaySound s new
  put_away = row_put_away s far new (of_leaving p) shard row x.sound puts

  put_join : (pair : JoiningState) → far.joining ≡ Some pair → IsJoin far pair → IsJoin new pair
  put_join = row_put_join s far new (of_leaving p) shard row x.sound puts

  -- ---- the objects of the batch
  put_noted : AreNoted s far batch → AreNoted s new rest
  put_noted n = record {
    apart = n.apart;
    held = n.held;
    each = λ f slot h span c at named. noted_still s s batch rest h refl refl (n.each f slot h span c at named);
    only = n.only;
    each_once = n.each_once;
    reserved = let y = n.reserved in record {
      drawn = y.drawn;
      unpaired = y.unpaired;
      range = y.range;
      blank = y.blank;
      places = y.places ∙ sym (length-set batch.shards p (Some shard));
      kept = y.kept;
    };
  }

  put_claimed : (h len place : ℕ) (words : List ℕ) → IsLeaving s far h len place words
      → IsLeaving s new h len place words
  put_claimed h len place words y = record {
    batch = rest;
    there = refl;
    slot = y.slot;
    leaves = subst (λ (b : LeavingState). Contains b.frames y.slot.frame)
        (some_same y.batch batch (sym y.there ∙ x.there)) y.leaves;
    contents = y.contents;
  }

-- the whole world
pub put_sound : (s : Shown) (far : FarState) (batch : LeavingState) (p : ℕ) (shard : Shard)
    (row : List ℕ) → Sound s far → IsPut s far batch p shard row
    → Sound s (with_shipped far batch p shard row)
put_sound s far batch p shard row sound x = record {
  here = local_stays s far (with_shipped far batch p shard row) refl refl refl refl sound.here;
  noted = λ b at. subst (AreNoted s (with_shipped far batch p shard row))
      (some_same (with_shard_at batch p shard) b at)
      (put_noted s far batch p shard row x (sound.noted batch x.there));
  claimed = λ h len place v words at. put_claimed s far batch p shard row x h len place words
      (sound.claimed h len place v words at);
  away = record {
    sound = put_away s far batch p shard row x;
    join = λ pair at. put_join s far batch p shard row x pair at (sound.away.join pair at);
    survey = survey_same far (with_shipped far batch p shard row) refl refl (omega arith)
        (λ id. refl) sound.away.survey;
  };
}
