-- A bucket that was searched object by object.
use Rattle.std.proofs.Common.{◌≡◌, ◌⊎◌, ℕ, ◌+◌, ◌*◌, ◌/◌, ◌<◌, ◌≤◌, List, [], ◌∷◌, length, map, take, Option, Some, None, refl, sym, ap, ◌∙◌, subst, inl, inr, arith}
use Rattle.std.proofs.lemmas.Bool.{cases_lt}
use Rattle.std.specs.Int.{div_ceil}
use Rattle.cb_types.specs.declared.config.Config.{Config}
use Rattle.cb_map_text.specs.Plain.{objects_for}
use Rattle.cb_world.specs.declared.entry.Entry.{Entry}
use Rattle.cb_rule.specs.declared.view.View.{View}
use Rattle.cb_farmap.specs.declared.bucket.Bucket.{Bucket}
use Rattle.cb_farmap.specs.declared.find.Found.{Found}
use Rattle.cb_farmap.specs.declared.kept.Cannot.{Cannot}
use Rattle.cb_farmap.specs.BucketChanges.{FindsAt, IsFound}
use Rattle.cb_farmap.specs.Buckets.{IsBucket, pairs_in}
use Rattle.cb_farmap.specs.Calls.{AskRead, Goes}
use Rattle.cb_farmap.specs.Changes.{AreLoose, AreSole, IsLoose, IsSole}
use Rattle.cb_farmap.specs.Objects.{blank, bytes_at, object_at}
use Rattle.cb_farmap.specs.Pairs.{pair_of, place_of}
use Rattle.cb_farmap.specs.Plans.{look_plan, objects_to, reads_to}
use Rattle.cb_farmap.specs.Searching.{NoneFrom, SeeksIn}
use Rattle.cb_farmap.proofs.FindIn.{long_in}
use Rattle.cb_farmap.proofs.GoingOn.{read_fails, read_more}
use Rattle.cb_farmap.proofs.Lists.{all_at}
use Rattle.cb_farmap.proofs.Places.{absent, first_at, present}
use Rattle.cb_farmap.proofs.PlanLaws.{are_reads, loose_read, sole_read}

module _ (es : List Entry) (b : Bucket) (key o : ℕ) (is : IsBucket es b) (before : NoneFrom es b key 0 (64 * o)) where
  -- the key stands in this object
  place_found : (found : Found) → SeeksIn es b o key (Some found) → place_of key (pairs_in es b) ≡ Some found.place
  place_found found (from, to, within, has, none, bytes) = present key (pairs_in es b) found.place
      ((let n = long_in es b is in omega (arith, n, within)), has, (λ j less. by j less (cases_lt j (64 * o))))
    where
      by : (j : ℕ) → j < found.place → (j < 64 * o) ⊎ (64 * o ≤ j) → (pair_of (pairs_in es b) j).0 ≡ key → ⊥
      by j less (inl low) = before j (omega arith) low (omega (arith, less, within))
      by j less (inr high) = none j high less (omega (arith, less, within))

  found_now : (found : Found) → SeeksIn es b o key (Some found) → FindsAt es b key (Some found)
  found_now found seeks = (place_found found seeks, own seeks)
    where
      own : SeeksIn es b o key (Some found) → IsFound es b found
      own (from, to, within, has, none, is) = record {
        within = within;
        bytes_are = is ∙ ap (λ (n : ℕ). bytes_at es (object_at b.kept n))
            (let z : o ≡ found.place / 64 = omega (arith, from, to) in z);
      }

  -- or in none
  place_none : b.count ≤ 64 * o → place_of key (pairs_in es b) ≡ None
  place_none all = absent key (pairs_in es b) (λ i less. before i (omega arith)
      (let n = long_in es b is in omega (arith, all, n, less)) (let n = long_in es b is in omega (arith, n, less)))

  -- as long as it was not found, the next object is to be read
  to_be_read : 64 * o < b.count → o < objects_to b.count (place_of key (pairs_in es b))
  to_be_read some = by (place_of key (pairs_in es b)) refl
    where
      far : (p : ℕ) → p < length (pairs_in es b) → (pair_of (pairs_in es b) p).0 ≡ key
          → (p < 64 * o) ⊎ (64 * o ≤ p) → o < p / 64 + 1
      far p within has (inl low) =
          absurd (before p (omega arith) low (let n = long_in es b is in omega (arith, n, within)) has)
      far p within has (inr high) = omega (arith, high)

      by : (p : Option ℕ) → place_of key (pairs_in es b) ≡ p → o < objects_to b.count p
      by None at = omega (arith, some)
      by (Some p) at = let first = first_at key (pairs_in es b) p at in
          far p first.0 first.1 (cases_lt p (64 * o))

module _ (c : Config) (n : ℕ) (v u : View) (b : Bucket) (o : ℕ)
    (goes : Goes c n (map AskRead (take o b.kept)) None v u) where
  same : u.written ≡ v.written
  same = (are_reads c n (take o b.kept) None v u goes).written

  pub bucket_kept : IsBucket v.written b → IsBucket u.written b
  bucket_kept is = subst (λ (l : List Entry). IsBucket l b) (sym same) is

  pub sole_at : IsBucket v.written b → 64 * o < b.count → AreSole v b.kept → IsSole u (object_at b.kept o)
  sole_at is some sole = all_at (IsSole u) b.kept o blank
      (sole_read v u b.kept (are_reads c n (take o b.kept) None v u goes) sole)
      (let w = is.within in omega (arith, w, some))

  pub loose_at : IsBucket v.written b → 64 * o < b.count → AreLoose v b.kept → IsLoose u (object_at b.kept o)
  loose_at is some loose = all_at (IsLoose u) b.kept o blank
      (loose_read v u b.kept (are_reads c n (take o b.kept) None v u goes) loose)
      (let w = is.within in omega (arith, w, some))

  -- an object more without the key
  pub none_more : (key : ℕ) (f : Option Found) → f ≡ None
      → NoneFrom v.written b key 0 (64 * o) → SeeksIn u.written b o key f
      → NoneFrom v.written b key 0 (64 * (o + 1))
  none_more key f is before seeks i from to within has =
      by (cases_lt i (64 * o)) (subst (λ (l : List Entry). SeeksIn l b o key None) same
      (subst (SeeksIn u.written b o key) is seeks))
    where
      by : (i < 64 * o) ⊎ (64 * o ≤ i) → NoneFrom v.written b key (64 * o) (64 * o + 64) → ⊥
      by (inl less) here = before i from less within has
      by (inr more) here = here i more (omega (arith, to)) within has

  module _ (key : ℕ) (w : View) (is : IsBucket v.written b) (before : NoneFrom v.written b key 0 (64 * o)) where
    inside : 64 * o < b.count → o < length b.kept
    inside some = let w = is.within in omega (arith, w, some)

    -- the search ends with a key that was found
    pub ends_found : (f : Option Found) (found : Found) → f ≡ Some found → SeeksIn u.written b o key f
        → FindsAt v.written b key (Some found)
    ends_found f found at seeks = found_now v.written b key o is before found
        (subst (λ (l : List Entry). SeeksIn l b o key (Some found)) same (subst (SeeksIn u.written b o key) at seeks))

    pub goes_found : (f : Option Found) (found : Found) → f ≡ Some found → 64 * o < b.count
        → SeeksIn u.written b o key f
        → Goes c n (AskRead (object_at b.kept o) ∷ []) None u w → Goes c n (look_plan v.written b key) None v w
    goes_found f found at some seeks one =
        subst (λ (p : Option ℕ). Goes c n (reads_to b p) None v w) (sym (ends_found f found at seeks).0)
        (read_more c n o (found.place / 64 + 1) b.kept v u w (inside some)
        (let z = subst (SeeksIn u.written b o key) at seeks in
        let from = z.0 in let to = z.1 in omega (arith, from, to)) goes one)

    -- with none
    pub ends_none : b.count ≤ 64 * o → place_of key (pairs_in v.written b) ≡ None
    ends_none all = place_none v.written b key o is before all

    pub goes_none : o ≡ objects_for b.count 64 → b.count ≤ 64 * o → Goes c n (look_plan v.written b key) None v u
    goes_none end all = subst (λ (p : Option ℕ). Goes c n (reads_to b p) None v u) (sym (ends_none all))
        (subst (λ (m : ℕ). Goes c n (map AskRead (take m b.kept)) None v u) end goes)

    -- or with a read that failed
    pub goes_failed : (e : Cannot) → 64 * o < b.count → Goes c n (AskRead (object_at b.kept o) ∷ []) (Some e) u w
        → Goes c n (look_plan v.written b key) (Some e) v w
    goes_failed e some one = read_fails c n o (objects_to b.count (place_of key (pairs_in v.written b))) b.kept e v u w
        (inside some) (to_be_read v.written b key o is before some) goes one

    -- one more was read, and has not the key
    pub goes_more : 64 * o < b.count → Goes c n (AskRead (object_at b.kept o) ∷ []) None u w
        → Goes c n (map AskRead (take (o + 1) b.kept)) None v w
    goes_more some one = read_more c n o (o + 1) b.kept v u w (inside some) refl goes one

-- as many objects as hold pairs
pub some_left : (o count end : ℕ) → o < end → end ≡ div_ceil count 64 → 64 * o < count
some_left o count end less is = omega (arith, less, is)

pub all_there : (o count end : ℕ) → end ≤ o → o ≤ end → end ≡ div_ceil count 64
    → (o ≡ objects_for count 64) × (count ≤ 64 * o)
all_there o count end less most is = (omega (arith, less, most, is), omega (arith, less, most, is))
