-- The shards of a batch are named in the set that is kept for it.
use Rattle.std.proofs.Common.{◌≡◌, ◌≢◌, ◌⊎◌, ℕ, zero, suc, ◌+◌, ◌<◌, Bool, true, false, cond, List, [], ◌∷◌, length, get_or, set, Option, None, Some, sym, refl, ap, ◌∙◌, arith, inl, inr, length-set, get_or-set_other, get_or-set_same}
use Rattle.std.specs.List.{slice_get}
use Rattle.std.specs.FinMap as map
use Rattle.std.specs.Cmp.{nat_cmp_total}
use Rattle.std.specs.Ordering.{nat_cmp, eq_by_cmp}
use Rattle.std.proofs.lemmas.Bool.{cases_eq}
use Rattle.std.proofs.lemmas.Bool.Decides.{nat_tests}
use Rattle.cb_member.specs.declared.names.Shard.{Shard}
use Rattle.cb_world.specs.Reserved.{put_shards}
use Rattle.cb_world.specs.Sets.{Kept, SetMap}
use Rattle.cb_evict.specs.Committing.{AreAllPut, with_shards}
use Rattle.cb_evict.proofs.Options.{none_some}

by_cmp-other : (q k : ℕ) → q ≢ k → eq_by_cmp nat_cmp q k ≡ false
by_cmp-other q k other = grind (arith, nat_tests)

by_cmp-same : (q k : ℕ) → q ≡ k → eq_by_cmp nat_cmp q k ≡ true
by_cmp-same q k e = grind (arith, nat_tests)

pub insert_here : (sets : SetMap) (id : ℕ) (kept : Kept)
    → map.get (map.insert sets id kept) id ≡ Some kept
insert_here sets id kept = map.get-insert nat_cmp_total sets id kept id
    ∙ ap (λ (b : Bool). cond b (Some kept) (map.get sets id)) (by_cmp-same id id refl)

pub insert_other : (sets : SetMap) (id j : ℕ) (kept : Kept) → j ≢ id
    → map.get (map.insert sets id kept) j ≡ map.get sets j
insert_other sets id j kept off = map.get-insert nat_cmp_total sets id kept j
    ∙ ap (λ (b : Bool). cond b (Some kept) (map.get sets j)) (by_cmp-other j id off)

pub removed_other : (sets : SetMap) (id j : ℕ) → j ≢ id
    → map.get (map.remove sets id) j ≡ map.get sets j
removed_other sets id j off = map.get-remove nat_cmp_total sets id j
    ∙ ap (λ (b : Bool). cond b None (map.get sets j)) (by_cmp-other j id off)

-- what is put over a change of the same set is put over what was there
pub insert_over : (sets new : SetMap) (id : ℕ) (kept : Kept)
    → ((j : ℕ) → j ≢ id → map.get new j ≡ map.get sets j)
    → map.insert new id kept ≡ map.insert sets id kept
insert_over sets new id kept others =
    map.same_map nat_cmp_total map.nat_cmp-IsAntisymmetric _ _ (λ q.
    map.get-insert nat_cmp_total new id kept q ∙ by q (cases_eq q id)
    ∙ sym (map.get-insert nat_cmp_total sets id kept q))
  where
    by : (q : ℕ) → (q ≡ id) ⊎ (q ≢ id)
        → cond (eq_by_cmp nat_cmp q id) (Some kept) (map.get new q)
        ≡ cond (eq_by_cmp nat_cmp q id) (Some kept) (map.get sets q)
    by q (inl e) =
        ap (λ (b : Bool). cond b (Some kept) (map.get new q)) (by_cmp-same q id e)
        ∙ sym (ap (λ (b : Bool). cond b (Some kept) (map.get sets q)) (by_cmp-same q id e))
    by q (inr off) = ap (cond (eq_by_cmp nat_cmp q id) (Some kept)) (others q off)

-- the shards of the first p positions are named in the kept set
pub record AreShardsNamed (old sets : SetMap) (id : ℕ) (kept : Kept) (shards : List (Option Shard))
    (p : ℕ) (named : List Shard) : Type 0 where
  pub there : map.get sets id ≡ Some (with_shards kept named)
  pub count : length named ≡ length kept.set.shards
  pub others : (j : ℕ) → j ≢ id → map.get sets j ≡ map.get old j
  pub at : (q : ℕ) (d : Shard) → q < p → get_or shards q None ≡ Some (get_or named q d)

pub named_none : (sets : SetMap) (id : ℕ) (kept : Kept) (shards : List (Option Shard))
    → map.get sets id ≡ Some kept → AreShardsNamed sets sets id kept shards 0 kept.set.shards
named_none sets id kept shards e = record {
  there = e;
  count = refl;
  others = λ j off. refl;
  at = λ q d less. absurd (omega (arith, less));
}

pub named_more : (old sets new : SetMap) (id : ℕ) (kept : Kept) (shards : List (Option Shard))
    (p : ℕ) (named : List Shard) (shard : Shard) → AreShardsNamed old sets id kept shards p named
    → p < length kept.set.shards → get_or shards p None ≡ Some shard
    → new ≡ map.insert sets id (with_shards kept (set named p shard))
    → AreShardsNamed old new id kept shards (p + 1) (set named p shard)
named_more old sets new id kept shards p named shard a within here e = record {
  there = ap (λ (m : SetMap). map.get m id) e
      ∙ insert_here sets id (with_shards kept (set named p shard));
  count = length-set named p shard ∙ a.count;
  others = λ j off. ap (λ (m : SetMap). map.get m j) e
      ∙ insert_other sets id j (with_shards kept (set named p shard)) off ∙ a.others j off;
  at = λ q d less. by q d less (cases_eq q p);
}
  where
    by : (q : ℕ) (d : Shard) → q < p + 1 → (q ≡ p) ⊎ (q ≢ p)
        → get_or shards q None ≡ Some (get_or (set named p shard) q d)
    by q d less (inl same) =
        ap (λ (i : ℕ). get_or shards i None) same ∙ here
        ∙ ap (λ (s : Shard). Some s)
        (sym (get_or-set_same named p shard d (omega (arith, within, a.count))))
        ∙ ap (λ (i : ℕ). Some (get_or (set named p shard) i d)) (sym same)
    by q d less (inr off) =
        a.at q d (omega (arith, less, off))
        ∙ ap (λ (s : Shard). Some s) (sym (get_or-set_other named p q shard d off))

-- once all are named they are those that were put
pub named_all : (shards : List (Option Shard)) (named : List Shard) → length named ≡ length shards
    → ((q : ℕ) (d : Shard) → q < length shards → get_or shards q None ≡ Some (get_or named q d))
    → put_shards shards ≡ named
named_all [] [] count at = refl
named_all [] (x ∷ named) count at = absurd (omega (arith, count))
named_all (o ∷ shards) [] count at = absurd (omega (arith, count))
named_all (o ∷ shards) (x ∷ named) count at =
    ap (λ (p : Option Shard). put_shards (p ∷ shards)) (at 0 x (omega arith))
    ∙ ap (λ (l : List Shard). x ∷ l) (named_all shards named (omega (arith, count))
    (λ q d less. at (suc q) d (omega (arith, less))))

-- ---- the shards, where a row was put for each position
all_rest : (o : Option Shard) (shards : List (Option Shard)) → AreAllPut (o ∷ shards)
    → AreAllPut shards
all_rest o shards all p less = all (suc p) (omega (arith, less))

first_put : (shards : List (Option Shard)) → AreAllPut (None ∷ shards) → ⊥
first_put shards all = let x = all 0 (omega arith) in none_some x.0 x.1

pub put_count : (shards : List (Option Shard)) → AreAllPut shards
    → length (put_shards shards) ≡ length shards
put_count [] all = refl
put_count (None ∷ shards) all = absurd (first_put shards all)
put_count (Some x ∷ shards) all = ap (λ (n : ℕ). suc n) (put_count shards (all_rest (Some x) shards all))

pub put_place : (shards : List (Option Shard)) (p : ℕ) (shard : Shard) → AreAllPut shards
    → slice_get (put_shards shards) p ≡ Some shard → slice_get shards p ≡ Some (Some shard)
put_place [] p shard all e = absurd (none_some shard e)
put_place (None ∷ shards) p shard all e = absurd (first_put shards all)
put_place (Some x ∷ shards) zero shard all e = ap (λ (o : Option Shard). Some o) e
put_place (Some x ∷ shards) (suc p) shard all e =
    put_place shards p shard (all_rest (Some x) shards all) e
