-- The merged set is made, place by place.
use Rattle.std.proofs.Common.{◌≡◌, ◌⊎◌, if◌then◌else◌, ℕ, zero, suc, ◌+◌, ◌<◌, ◌≤◌, Bool, true, false, cond, List, [], ◌∷◌, ◌++◌, length, drop, get_or, Option, None, Some, unwrap_or, refl, sym, ap, ap₂, ◌∙◌, arith, inl, inr, drop-cons, length-set, append_assoc}
use Rattle.std.proofs.lemmas.Bool.{cases_eq, cases_lt}
use Rattle.std.proofs.lemmas.List.{append-nil, ext_get_or, get_or_past}
use Rattle.std.specs.List.{slice_get}
use Rattle.cb_member.specs.declared.names.Shard.{Shard}
use Rattle.cb_set.specs.SetState.{PositionState, SetState, dead_position, live_at, position_of, slot_at, with_position}
use Rattle.cb_set.proofs.Laws.{position_else, position_here}
use Rattle.cb_world.specs.Joining.{JoiningState}
use Rattle.cb_world.specs.JoinSteps.{merged_shard}
use Rattle.cb_compact.specs.Merging.{IsFilledBelow, chosen_position}
use Rattle.cb_compact.specs.MergeStep.{merged_positions, merged_set, merged_shards}

-- ---- shards
shards_one : (step : Option Shard) (old : Shard) (steps : List (Option Shard)) (olds : List Shard)
    → unwrap_or step old ∷ merged_shards steps olds ≡ merged_shards (step ∷ steps) (old ∷ olds)
shards_one None old steps olds = refl
shards_one (Some shard) old steps olds = refl

pub shards_more : (done : List Shard) (steps : List (Option Shard)) (olds : List Shard) (i : ℕ)
    (d : Option Shard) (e : Shard) → i < length steps → i < length olds
    → (done ++ unwrap_or (get_or steps i d) (get_or olds i e) ∷ [])
    ++ merged_shards (drop (i + 1) steps) (drop (i + 1) olds)
    ≡ done ++ merged_shards (drop i steps) (drop i olds)
shards_more done steps olds i d e within inside =
    let next : suc i ≡ i + 1 = omega arith in
    append_assoc done (unwrap_or (get_or steps i d) (get_or olds i e) ∷ [])
    (merged_shards (drop (i + 1) steps) (drop (i + 1) olds))
    ∙ ap (λ (l : List Shard). done ++ l)
    (shards_one (get_or steps i d) (get_or olds i e) (drop (i + 1) steps) (drop (i + 1) olds)
    ∙ sym (ap (λ (l : List (Option Shard)). merged_shards l (drop i olds))
    (drop-cons steps i d within ∙ ap (λ (n : ℕ). get_or steps i d ∷ drop n steps) next)
    ∙ ap (merged_shards (get_or steps i d ∷ drop (i + 1) steps))
    (drop-cons olds i e inside ∙ ap (λ (n : ℕ). get_or olds i e ∷ drop n olds) next)))

pub shards_all : (done : List Shard) (steps : List (Option Shard)) (olds : List Shard) (i : ℕ)
    → length steps ≤ i → done ++ merged_shards (drop i steps) (drop i olds) ≡ done
shards_all done steps olds i past =
    ap (λ (l : List (Option Shard)). done ++ merged_shards l (drop i olds)) (nothing_left steps i
    past)
    ∙ append-nil done
  where
    nothing_left : (xs : List (Option Shard)) (n : ℕ) → length xs ≤ n → drop n xs ≡ []
    nothing_left [] zero l = refl
    nothing_left [] (suc n) l = refl
    nothing_left (x ∷ xs) zero l = absurd (omega (arith, l))
    nothing_left (x ∷ xs) (suc n) l = nothing_left xs n (omega (arith, l))

pub length_shards : (steps : List (Option Shard)) (olds : List Shard) → length steps ≡ length olds
    → length (merged_shards steps olds) ≡ length olds
length_shards [] [] e = refl
length_shards [] (old ∷ olds) e = absurd (omega (arith, e))
length_shards (step ∷ steps) [] e = absurd (omega (arith, e))
length_shards (None ∷ steps) (old ∷ olds) e = ap suc (length_shards steps olds (omega (arith, e)))
length_shards (Some shard ∷ steps) (old ∷ olds) e =
    ap suc (length_shards steps olds (omega (arith, e)))

-- the shard of a position
pub shards_at : (steps : List (Option Shard)) (olds : List Shard) (p : ℕ)
    → length steps ≡ length olds → slice_get (merged_shards steps olds) p
    ≡ merged_shard (slice_get steps p) (slice_get olds p)
shards_at [] [] p e = refl
shards_at [] (old ∷ olds) p e = absurd (omega (arith, e))
shards_at (step ∷ steps) [] p e = absurd (omega (arith, e))
shards_at (None ∷ steps) (old ∷ olds) zero e = refl
shards_at (None ∷ steps) (old ∷ olds) (suc p) e = shards_at steps olds p (omega (arith, e))
shards_at (Some shard ∷ steps) (old ∷ olds) zero e = refl
shards_at (Some shard ∷ steps) (old ∷ olds) (suc p) e = shards_at steps olds p (omega (arith, e))

-- ---- positions
pub none_filled : (a b c : SetState) → length c.positions ≡ length a.positions
    → IsFilledBelow c.id c.pages c.shards a b 0 c
none_filled a b c count = record {
  name = refl;
  long = refl;
  shards_are = refl;
  count = count;
  filled = λ p l. absurd (omega (arith, l));
}

pub one_filled : (id pages : ℕ) (shards : List Shard) (a b now : SetState) (n : ℕ)
    → IsFilledBelow id pages shards a b n now → n < length a.positions
    → IsFilledBelow id pages shards a b (n + 1) (with_position now n (chosen_position a b n))
one_filled id pages shards a b now n x l = record {
  name = x.name;
  long = x.long;
  shards_are = x.shards_are;
  count = length-set now.positions n (chosen_position a b n) ∙ x.count;
  filled = λ p below. elim (cases_eq p n) [
    | inl e ↦ ap (position_of (with_position now n (chosen_position a b n))) e
        ∙ position_here now n (chosen_position a b n) (let c = x.count in omega (arith, l, c))
        ∙ ap (chosen_position a b) (sym e)
    | inr off ↦ position_else now n p (chosen_position a b n) off ∙ x.filled p (omega (
      arith,
      below,
      off,
    ))
  ];
}

pub length_merged : (xs ys : List PositionState) → length ys ≡ length xs
    → length (merged_positions xs ys) ≡ length xs
length_merged [] ys e = refl
length_merged (a ∷ rest) [] e = absurd (omega (arith, e))
length_merged (a ∷ rest) (b ∷ others) e = ap suc (length_merged rest others (omega (arith, e)))

merged_at : (xs ys : List PositionState) (p : ℕ) (d : PositionState) → length ys ≡ length xs
    → p < length xs → get_or (merged_positions xs ys) p d
    ≡ cond (get_or ys p dead_position).live (get_or ys p dead_position) (get_or xs p dead_position)
merged_at [] ys p d e l = absurd (omega (arith, l))
merged_at (a ∷ rest) [] p d e l = absurd (omega (arith, e))
merged_at (a ∷ rest) (b ∷ others) zero d e l = refl
merged_at (a ∷ rest) (b ∷ others) (suc p) d e l = merged_at rest others p d (omega (arith, e))
    (omega (arith, l))

pub all_filled : (id : ℕ) (pair : JoiningState) (a b c : SetState)
    → IsFilledBelow id a.pages (merged_shards pair.steps pair.shards_a) a b (length a.positions) c
    → length b.positions ≡ length a.positions → c ≡ merged_set id pair a b
all_filled id pair a b c x e =
    let positions : c.positions ≡ merged_positions a.positions b.positions =
    ext_get_or dead_position c.positions (merged_positions a.positions b.positions)
    (x.count ∙ sym (length_merged a.positions b.positions e))
    (λ p l. let within : p < length a.positions = let n = x.count in omega (arith, n, l) in
    x.filled p within ∙ sym (merged_at a.positions b.positions p dead_position e within)) in
    λ i. record {
      id = x.name i;
      pages = x.long i;
      shards = x.shards_are i;
      positions = positions i;
    }

pub filled_as : (i id o pages : ℕ) (l shards : List Shard) (a b c : SetState) (n : ℕ)
    → IsFilledBelow i o l a b n c → i ≡ id → o ≡ pages → l ≡ shards
    → IsFilledBelow id pages shards a b n c
filled_as i id o pages l shards a b c n x e g f = record {
  name = x.name ∙ e;
  long = x.long ∙ g;
  shards_are = x.shards_are ∙ f;
  count = x.count;
  filled = x.filled;
}

-- ---- what the merged set holds
module _ (id : ℕ) (pair : JoiningState) (a b : SetState)
    (same : length b.positions ≡ length a.positions) where
  abbrev c : SetState
  c = merged_set id pair a b

  pub chosen_at : (p : ℕ) → position_of c p ≡ chosen_position a b p
  chosen_at p = elim (cases_lt p (length a.positions)) [
    | inl within ↦ merged_at a.positions b.positions p dead_position same within
    | inr past ↦
        get_or_past (merged_positions a.positions b.positions) p dead_position
        (let n = length_merged a.positions b.positions same in omega (arith, n, past))
        ∙ sym (ap₂ (λ (y z : PositionState). if y.live then y else z)
        (get_or_past b.positions p dead_position (omega (arith, past, same)))
        (get_or_past a.positions p dead_position past))
  ]

  -- where b is live, and where it is not
  pub chosen_b : (p : ℕ) → live_at b p ≡ true → position_of c p ≡ position_of b p
  chosen_b p on = chosen_at p ∙ ap (λ (l : Bool). if l then position_of b p else position_of a p)
      on

  pub chosen_a : (p : ℕ) → live_at b p ≡ false → position_of c p ≡ position_of a p
  chosen_a p off = chosen_at p
      ∙ ap (λ (l : Bool). if l then position_of b p else position_of a p) off

  -- an object that the merged set names, one of the sets names at the same slot
  pub named_from : (p slot h : ℕ) → slot_at c p slot ≡ Some h
      → ((live_at b p ≡ true) × (slot_at b p slot ≡ Some h))
      ⊎ ((live_at b p ≡ false) × (slot_at a p slot ≡ Some h))
  named_from p slot h named = by (live_at b p) refl
    where
      by : (l : Bool) → live_at b p ≡ l → ((live_at b p ≡ true) × (slot_at b p slot ≡ Some h))
          ⊎ ((live_at b p ≡ false) × (slot_at a p slot ≡ Some h))
      by true on = inl (
        on,
        ap (λ (q : PositionState). get_or q.slots slot None) (sym (chosen_b p on)) ∙ named,
      )
      by false off = inr (
        off,
        ap (λ (q : PositionState). get_or q.slots slot None) (sym (chosen_a p off)) ∙ named,
      )
