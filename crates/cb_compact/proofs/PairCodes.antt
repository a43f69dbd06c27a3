-- The pair that is joining is of the code of its sets, from its begin on.
use Rattle.std.proofs.Common.{◌≡◌, ℕ, zero, suc, ◌+◌, ◌<◌, ◌≤◌, true, List, [], ◌∷◌, length, None, Some, refl, sym, ◌∙◌, subst, arith, inl, inr, length-set}
use Rattle.std.specs.List.{All, AllPairs, range_with_len, slice_get}
use Rattle.std.proofs.lemmas.Bool.{cases_eq}
use Rattle.std.proofs.lemmas.List.{length-replicate}
use Rattle.std.proofs.lemmas.List.Elements.{All-filter}
use Rattle.std.proofs.lemmas.List.FromFn.{length-range_with_len, get_or-range_with_len}
use Rattle.std.proofs.lemmas.List.Kept.{AllPairs-filter}
use Rattle.cb_member.specs.declared.names.Shard.{Shard}
use Rattle.cb_set.specs.SetState.{SetState, code_of, live_at, parities}
use Rattle.cb_world.specs.FarState.{FarState}
use Rattle.cb_world.specs.Joining.{JoiningState}
use Rattle.cb_world.specs.JoinSteps.{with_step}
use Rattle.cb_world.specs.Join.{IsJoin}
use Rattle.cb_world.specs.Merged.{AreTaken, takes}
use Rattle.cb_world.proofs.Laws.{PairHasCode, from_before, of_code, of_a_set, place_back}
use Rattle.cb_compact.specs.PairStep.{IsFirstPair, begun_pair}
use Rattle.cb_compact.specs.PartStep.{IsFreshPair}
use Rattle.cb_compact.specs.PatchStep.{IsNext}
use Rattle.cb_compact.proofs.PairSound.{no_step}
use Rattle.cb_compact.proofs.PatchSound.{counted, step_is_taken}

-- the first numbers are below their count, and in order
ranged : (n : ℕ) → All (λ p. p < n) (range_with_len 0 n)
ranged n i d below = let l = length-range_with_len 0 n in
    let e = get_or-range_with_len 0 n i d (omega (arith, below, l)) in omega (arith, e, below, l)

ascending : (n : ℕ) → AllPairs (λ p q. p < q) (range_with_len 0 n)
ascending n i j d less within = let l = length-range_with_len 0 n in
    let e = get_or-range_with_len 0 n i d (omega (arith, less, within, l)) in
    let f = get_or-range_with_len 0 n j d (omega (arith, within, l)) in
    omega (arith, e, f, less)

pub begun_code : (far : FarState) (x y : ℕ) (a b : SetState) → IsFirstPair far x y a b
    → length a.positions ≤ length a.shards → PairHasCode far (begun_pair x y a b)
begun_code far x y a b first data_first =
    let m = first.can.data_count in
    of_code (code_of a) (of_a_set x a first.can.a_there refl) (record {
      steps = length-replicate (length a.shards) None ∙ whole;
      taken = λ i d below. let e = All-filter (live_at b) (λ p. p < length b.positions)
          (range_with_len 0 (length b.positions)) (ranged (length b.positions)) i d below in
          omega (arith, e, m);
      ascend = AllPairs-filter (λ p q. p < q) (live_at b) (range_with_len 0 (length b.positions))
          (ascending (length b.positions));
      done = λ p shard e below. absurd (no_step (length a.shards) p shard e);
    })
  where
    whole : length a.shards ≡ length a.positions + parities a
    whole = omega (arith, data_first)

-- positions that are taken one by one are below their bound
all_below : (k : ℕ) (taken : List ℕ) → AreTaken k taken → All (λ p. p < k) taken
all_below k [] t i d below = absurd (omega (arith, below))
all_below k (p ∷ taken) t zero d below = t.0
all_below k (p ∷ taken) t (suc i) d below = all_below k taken t.2 i d (omega (arith, below))

pub stepped_code : (far : FarState) (pair : JoiningState) (a b : SetState) (p : ℕ) (shard : Shard)
    → IsFreshPair far pair a b → IsJoin far pair → IsNext pair (length a.positions) p
    → PairHasCode far (with_step pair p shard)
stepped_code far pair a b p shard fresh j next =
    let of = counted far pair a b j fresh in let k = of.k in let r = of.r in let n = j.count in
    from_before pair (code_of a) fresh.was (of_a_set pair.a a fresh.a_stands.there refl)
    (λ i l was. record {
      steps = length-set pair.steps p (Some shard) ∙ omega (arith, n, k, r);
      taken = subst (λ (m : ℕ). All (λ p. p < m) pair.taken) (sym k)
          (all_below j.k pair.taken j.taken);
      ascend = was.ascend;
      done = λ q other e below. elim (cases_eq q p) [
        | inl same ↦ subst (λ (i : ℕ). takes pair.taken i ≡ true) (sym same)
            (step_is_taken pair (length a.positions) p next (omega (arith, same, below)))
        | inr off ↦ j.steps q other
            (place_back pair.steps p q (Some shard) (Some other) off e) (omega (arith, k, below))
      ];
    })
