-- Worked examples of the sets among which a pair is looked for: a value that meets each definition,
-- and for each of its parts one that breaks that part alone.
use Rattle.std.proofs.Common.{◌≡◌, ◌⊎◌, ℕ, zero, suc, ◌+◌, ◌<◌, ◌≤◌, true, List, [], ◌∷◌, Some, length, refl, sym, ap, ◌∙◌, subst, arith, inl, inr}
use Rattle.std.specs.List.{slice_get}
use Rattle.std.specs.BTreeSet.{BTreeSet, contains}
use Rattle.std.specs.declared.cmp.Ordering.{Ordering}
use Rattle.std.proofs.lemmas.Option.{none-some, same_Some, slice_get_within}
use Rattle.cb_member.specs.declared.names.Loss.{Loss}
use Rattle.cb_set.specs.SetState.{SetState, parities}
use Rattle.cb_set.specs.Lost.{IsWhole}
use Rattle.cb_set.specs.Matched.{live_mask}
use Rattle.cb_world.specs.FarState.{FarState}
use Rattle.cb_world.specs.Groups.{IsAmong}
use Rattle.cb_world.specs.Sets.{set_in}
use Rattle.cb_compact.specs.declared.candidates.Candidate.{Candidate}
use Rattle.cb_world.specs.declared.groups.Group.{Group}
use Rattle.cb_compact.specs.Candidates.{AreAlike, AreFirsts, AreSeen, AreWholeBut, CanMatch, HasNoPartner, IsAdded, IsCandidate, IsFirstMatch, IsPartner, NoneMatch, group, groups_of}
use Rattle.cb_compact.proofs.WorkedBegin.{crowd, set_c}
use Rattle.cb_compact.proofs.WorkedGround.{all_up, far, first_of, first_of_four, ground, none_third, one_down, second_of, two}
use Rattle.cb_compact.proofs.WorkedPair.{begun, set_a, set_b}

-- sets of one code and length, live at position 0 of two, or at position 1
abbrev at_zero : ℕ → Candidate
at_zero id = record { id = id; k = 2; r = 1; pages = 1; live = 1 }

abbrev at_one : ℕ → Candidate
at_one id = record { id = id; k = 2; r = 1; pages = 1; live = 2 }

-- ---- a whole committed set
a_is : IsCandidate ground (at_zero 0) set_a
a_is = record {
  there = first_of set_a set_b;
  whole = refl;
  k = refl;
  r = refl;
  pages = refl;
  live = refl;
}

b_is : IsCandidate ground (at_one 1) set_b
b_is = record {
  there = second_of set_a set_b;
  whole = refl;
  k = refl;
  r = refl;
  pages = refl;
  live = refl;
}

not_a_number_of_none : (set : SetState) → IsCandidate ground (at_zero 2) set → ⊥
not_a_number_of_none set x = none-some set (sym (none_third set_a set_b) ∙ x.there)

not_once_a_shard_is_lost : IsCandidate (far (two set_a set_b) one_down 2 (Some begun)) (at_zero 0)
    set_a → ⊥
not_once_a_shard_is_lost x = let e : 1 ≡ 0 = ap (λ (l : List Loss). length l) x.whole in
    omega (arith, e)

not_of_more_data : IsCandidate ground (record (at_zero 0) { k = 3 }) set_a → ⊥
not_of_more_data x = let e : 3 ≡ 2 = x.k in omega (arith, e)

not_of_more_parities : IsCandidate ground (record (at_zero 0) { r = 2 }) set_a → ⊥
not_of_more_parities x = let e : 2 ≡ 1 = x.r in omega (arith, e)

not_of_longer_spans : IsCandidate ground (record (at_zero 0) { pages = 2 }) set_a → ⊥
not_of_longer_spans x = let e : 2 ≡ 1 = x.pages in omega (arith, e)

not_live_elsewhere : IsCandidate ground (at_one 0) set_a → ⊥
not_live_elsewhere x = let e : 2 ≡ 1 = x.live in omega (arith, e)

-- ---- those that are alike
not_alike_in_data : AreAlike (record (at_zero 0) { k = 3 }) (at_zero 0) → ⊥
not_alike_in_data x = let e : 3 ≡ 2 = x.k in omega (arith, e)

not_alike_in_parities : AreAlike (record (at_zero 0) { r = 2 }) (at_zero 0) → ⊥
not_alike_in_parities x = let e : 2 ≡ 1 = x.r in omega (arith, e)

not_alike_in_length : AreAlike (record (at_zero 0) { pages = 2 }) (at_zero 0) → ⊥
not_alike_in_length x = let e : 2 ≡ 1 = x.pages in omega (arith, e)

alike : (m n : ℕ) → AreAlike (at_zero m) (at_zero n)
alike m n = record { k = refl; r = refl; pages = refl; live = refl }

-- ---- places of candidates
no_place : (i : ℕ) (d : Candidate) → slice_get [] i ≡ Some d → ⊥
no_place i d e = let w = slice_get_within [] i d e in omega (arith, w)

one_place : (i : ℕ) (c d : Candidate) → slice_get (c ∷ []) i ≡ Some d → c ≡ d
one_place zero c d e = same_Some c d e
one_place (suc i) c d e = absurd (no_place i d e)

-- ---- the groups of candidates
in_order : groups_of (at_zero 0 ∷ at_one 1 ∷ []) ≡ group (at_zero 7) ∷ group (at_one 5) ∷ []
in_order = refl

-- ---- groups that were seen
module _ (cmp : Group → Group → Ordering) (seen : BTreeSet Group) where
  none_seen : ((g : Group) → contains cmp seen g ≡ true → ⊥) → AreSeen cmp [] seen
  none_seen none g there = absurd (none g there)

  not_without_a_candidate : (g : Group) → contains cmp seen g ≡ true → AreSeen cmp [] seen → ⊥
  not_without_a_candidate g there x = let y = x g there in no_place y.0 y.1 y.2

  not_by_one_of_another : contains cmp seen (group (at_one 1)) ≡ true
      → AreSeen cmp (at_zero 0 ∷ []) seen → ⊥
  not_by_one_of_another there x =
      let y = x (group (at_one 1)) there in
      let e : 1 ≡ 2 = ap (λ (c : Candidate). c.live) (one_place y.0 (at_zero 0) y.1 y.2)
      ∙ ap (λ (g : Group). g.live) y.3 in
      omega (arith, e)

-- ---- a candidate is added, where none that is alike is there
a_new_one : IsAdded [] (at_zero 0) (at_zero 0 ∷ [])
a_new_one = inl refl

one_that_is_alike : IsAdded (at_zero 0 ∷ []) (at_zero 4) (at_zero 0 ∷ [])
one_that_is_alike = inr (refl, (0, at_zero 0, refl, alike 0 4))

abbrev count_of : List Candidate → ℕ
count_of found = length found

not_left_out : IsAdded [] (at_zero 0) [] → ⊥
not_left_out (inl e) = let f : 0 ≡ 1 = ap count_of e in omega (arith, f)
not_left_out (inr x) = no_place x.1.0 x.1.1 x.1.2

not_where_others_are : IsAdded (at_zero 0 ∷ []) (at_one 1) (at_zero 0 ∷ []) → ⊥
not_where_others_are (inl e) = let f : 1 ≡ 2 = ap count_of e in omega (arith, f)
not_where_others_are (inr x) =
    let e : 1 ≡ x.1.1.live = ap (λ (c : Candidate). c.live)
    (one_place x.1.0 (at_zero 0) x.1.1 x.1.2) in
    let f : x.1.1.live ≡ 2 = x.1.3.live in omega (arith, e, f)

none_is_dropped : IsAdded (at_zero 0 ∷ []) (at_zero 4) [] → ⊥
none_is_dropped (inl e) = let f : 0 ≡ 2 = ap count_of e in omega (arith, f)
none_is_dropped (inr x) = let f : 0 ≡ 1 = ap count_of x.0 in omega (arith, f)

-- ---- the first of each code, length and live positions
abbrev both : List Candidate
both = at_zero 0 ∷ at_one 1 ∷ []

which : (P : ℕ → Candidate → Type 0) → P 0 (at_zero 0) → P 1 (at_one 1) → (i : ℕ) (c : Candidate)
    → slice_get both i ≡ Some c → P i c
which P x y zero c e = subst (P 0) (same_Some (at_zero 0) c e) x
which P x y (suc zero) c e = subst (P 1) (same_Some (at_one 1) c e) y
which P x y (suc (suc i)) c e = absurd (no_place i c e)

both_are_first : AreFirsts ground 2 both
both_are_first = record {
  sets = which (λ i c. (c.id < 2) × (set : SetState) × IsCandidate ground c set)
      (omega arith, set_a, a_is) (omega arith, set_b, b_is);
  ascend = λ i j c d less at_i at_j. which (λ i c. i < j → c.id < d.id)
      (λ l. which (λ j d. 0 < j → 0 < d.id) (λ m. absurd (omega (arith, m))) (λ m. omega arith) j d
      at_j l) (λ l. absurd (let w = slice_get_within both j d at_j in omega (arith, l, w)))
      i c at_i less;
  cover = λ c set below x. covered c set below x;
}
  where
    is_set : (n : ℕ) (c : Candidate) (set other : SetState) → c.id ≡ n → IsCandidate ground c set
        → set_in ground.sets n ≡ Some other → set ≡ other
    is_set n c set other e x at =
        same_Some set other (sym x.there ∙ ap (set_in ground.sets) e ∙ at)

    alike_of : (d c : Candidate) (set other : SetState) → IsCandidate ground c set
        → IsCandidate ground d other → set ≡ other → AreAlike d c
    alike_of d c set other x y e = record {
      k = y.k ∙ sym (x.k ∙ ap (λ (s : SetState). length s.positions) e);
      r = y.r ∙ sym (x.r ∙ ap (λ (s : SetState). parities s) e);
      pages = y.pages ∙ sym (x.pages ∙ ap (λ (s : SetState). s.pages) e);
      live = y.live ∙ sym (x.live ∙ ap (λ (s : SetState). live_mask s.positions) e);
    }

    by_number : (n : ℕ) (c : Candidate) (set : SetState) → c.id ≡ n → n < 2
        → IsCandidate ground c set
        → (i : ℕ) × (d : Candidate) × (slice_get both i ≡ Some d) × (d.id ≤ c.id) × AreAlike d c
    by_number zero c set e l x = (
      0,
      at_zero 0,
      refl,
      omega arith,
      alike_of (at_zero 0) c set set_a x a_is (is_set 0 c set set_a e x (first_of set_a set_b)),
    )
    by_number (suc zero) c set e l x = (
      1,
      at_one 1,
      refl,
      omega (arith, e),
      alike_of (at_one 1) c set set_b x b_is (is_set 1 c set set_b e x (second_of set_a set_b)),
    )
    by_number (suc (suc n)) c set e l x = absurd (omega (arith, l))

    covered : (c : Candidate) (set : SetState) → c.id < 2 → IsCandidate ground c set
        → (i : ℕ) × (d : Candidate) × (slice_get both i ≡ Some d) × (d.id ≤ c.id) × AreAlike d c
    covered c set below x = by_number c.id c set refl below x

-- one of too great a number, one that is no set's, and out of order
not_from_above : AreFirsts ground 1 both → ⊥
not_from_above x = let l = (x.sets 1 (at_one 1) refl).0 in omega (arith, l)

not_one_of_none : AreFirsts ground 3 (at_zero 0 ∷ at_one 1 ∷ at_zero 2 ∷ []) → ⊥
not_one_of_none x = let y = x.sets 2 (at_zero 2) refl in not_a_number_of_none y.1 y.2

not_out_of_order : AreFirsts ground 2 (at_one 1 ∷ at_zero 0 ∷ []) → ⊥
not_out_of_order x =
    let l = x.ascend 0 1 (at_one 1) (at_zero 0) (omega arith) refl refl in omega (arith, l)

-- where one is left out
none_is_left_out : AreFirsts ground 2 (at_one 1 ∷ []) → ⊥
none_is_left_out x =
    let y = x.cover (at_zero 0) set_a (omega arith) a_is in
    let e : 2 ≡ y.1.live = ap (λ (c : Candidate). c.live) (one_place y.0 (at_one 1) y.1 y.2) in
    let f : y.1.live ≡ 1 = y.4.live in omega (arith, e, f)

-- and where a later one stands for it: of the crowd, the third set is live where the first is
not_a_later_one : AreFirsts crowd 4 (at_one 1 ∷ at_zero 2 ∷ []) → ⊥
not_a_later_one x = by y.0 y.1 y.2 y.3 y.4
  where
    first_is : IsCandidate crowd (at_zero 0) set_a
    first_is = record {
      there = first_of_four set_a set_b set_c _;
      whole = refl;
      k = refl;
      r = refl;
      pages = refl;
      live = refl;
    }

    y : (i : ℕ) × (d : Candidate) × (slice_get (at_one 1 ∷ at_zero 2 ∷ []) i ≡ Some d)
        × (d.id ≤ 0) × AreAlike d (at_zero 0)
    y = x.cover (at_zero 0) set_a (omega arith) first_is

    by : (i : ℕ) (d : Candidate) → slice_get (at_one 1 ∷ at_zero 2 ∷ []) i ≡ Some d → d.id ≤ 0
        → AreAlike d (at_zero 0) → ⊥
    by zero d e l same =
        let m : 1 ≡ d.id = ap (λ (c : Candidate). c.id) (same_Some (at_one 1) d e) in
        omega (arith, m, l)
    by (suc zero) d e l same =
        let m : 2 ≡ d.id = ap (λ (c : Candidate). c.id) (same_Some (at_zero 2) d e) in
        omega (arith, m, l)
    by (suc (suc i)) d e l same = no_place i d e

-- ---- the first two that match
zero_and_one : (m n : ℕ) → CanMatch (at_zero m) (at_one n)
zero_and_one m n = record { k = refl; r = refl; pages = refl; apart = refl }

not_two_at_zero : (m n : ℕ) → CanMatch (at_zero m) (at_zero n) → ⊥
not_two_at_zero m n x = let e : 1 ≡ 0 = x.apart in omega (arith, e)

both_match : IsFirstMatch both (at_zero 0) (at_one 1)
both_match = record {
  i = 0;
  j = 1;
  order = omega arith;
  at_i = refl;
  at_j = refl;
  match_ = zero_and_one 0 1;
  least = λ m n c d l at_c at_d can. omega arith;
  least_j = λ n d l at can. omega (arith, l);
}

-- four, of which the first and the third are live at position 0, and the others at position 1
abbrev four : List Candidate
four = at_zero 0 ∷ at_one 1 ∷ at_zero 2 ∷ at_one 3 ∷ []

-- the number tells the place
place_of : (i : ℕ) (c : Candidate) → slice_get four i ≡ Some c → c.id ≡ i
place_of zero c e = sym (ap (λ (d : Candidate). d.id) (same_Some (at_zero 0) c e))
place_of (suc zero) c e = sym (ap (λ (d : Candidate). d.id) (same_Some (at_one 1) c e))
place_of (suc (suc zero)) c e = sym (ap (λ (d : Candidate). d.id) (same_Some (at_zero 2) c e))
place_of (suc (suc (suc zero))) c e = sym (ap (λ (d : Candidate). d.id) (same_Some (at_one 3) c e))
place_of (suc (suc (suc (suc i)))) c e = absurd (no_place i c e)

four_match : IsFirstMatch four (at_zero 0) (at_one 1)
four_match = record {
  i = 0;
  j = 1;
  order = omega arith;
  at_i = refl;
  at_j = refl;
  match_ = zero_and_one 0 1;
  least = λ m n c d l at_c at_d can. omega arith;
  least_j = λ n d l at can. omega (arith, l);
}

not_the_other_way_round : IsFirstMatch four (at_one 3) (at_zero 2) → ⊥
not_the_other_way_round x =
    let e : 3 ≡ x.i = place_of x.i (at_one 3) x.at_i in
    let f : 2 ≡ x.j = place_of x.j (at_zero 2) x.at_j in
    let l = x.order in omega (arith, e, f, l)

first_is_there : IsFirstMatch both (at_zero 2) (at_one 1) → ⊥
first_is_there x = which (λ i c. c.id ≡ 2 → ⊥) (λ e. omega (arith, e)) (λ e. omega (arith, e))
    x.i (at_zero 2) x.at_i refl

second_is_there : IsFirstMatch both (at_zero 0) (at_one 2) → ⊥
second_is_there x = which (λ i c. c.id ≡ 2 → ⊥) (λ e. omega (arith, e)) (λ e. omega (arith, e))
    x.j (at_one 2) x.at_j refl

not_two_that_meet : IsFirstMatch (at_zero 0 ∷ at_zero 1 ∷ []) (at_zero 0) (at_zero 1) → ⊥
not_two_that_meet x = not_two_at_zero 0 1 x.match_

not_a_greater_first : IsFirstMatch four (at_one 1) (at_zero 2) → ⊥
not_a_greater_first x =
    let e : 1 ≡ x.i = place_of x.i (at_one 1) x.at_i in
    let l = x.least 0 1 (at_zero 0) (at_one 1) (omega arith) refl refl (zero_and_one 0 1) in
    omega (arith, e, l)

not_a_greater_second : IsFirstMatch four (at_zero 0) (at_one 3) → ⊥
not_a_greater_second x =
    let e : 0 ≡ x.i = place_of x.i (at_zero 0) x.at_i in
    let f : 3 ≡ x.j = place_of x.j (at_one 3) x.at_j in
    let l = x.least_j 1 (at_one 1) (omega (arith, e)) refl (zero_and_one 0 1) in
    omega (arith, f, l)

-- ---- none that match
none_match : NoneMatch (at_zero 0 ∷ at_zero 1 ∷ [])
none_match zero n c d l at_c at_d x = by n l at_d
  where
    by : (n : ℕ) → 0 < n → slice_get (at_zero 0 ∷ at_zero 1 ∷ []) n ≡ Some d → ⊥
    by zero l e = omega (arith, l)
    by (suc zero) l e = not_two_at_zero 0 1
        (subst (λ (e : Candidate). CanMatch (at_zero 0) e) (sym (same_Some (at_zero 1) d e))
        (subst (λ (e : Candidate). CanMatch e d) (sym (same_Some (at_zero 0) c at_c)) x))
    by (suc (suc n)) l e = no_place n d e
none_match (suc m) n c d l at_c at_d x =
    let w = slice_get_within (at_zero 0 ∷ at_zero 1 ∷ []) n d at_d in
    let v : n < 2 = w in absurd (omega (arith, l, v))

some_match : NoneMatch both → ⊥
some_match x = x 0 1 (at_zero 0) (at_one 1) (omega arith) refl refl (zero_and_one 0 1)

-- ---- the least place of one that matches
no_less : (n i j : ℕ) → i < n → n < j → j ≤ i + 1 → ⊥
no_less n i j l m e = omega (arith, l, m, e)

is_partner : IsPartner both 0 1
is_partner = record {
  order = omega arith;
  within = omega arith;
  can = λ c d at_c at_d. subst (λ (e : Candidate). CanMatch e d) (same_Some (at_zero 0) c at_c)
      (subst (λ (e : Candidate). CanMatch (at_zero 0) e) (same_Some (at_one 1) d at_d)
      (zero_and_one 0 1));
  least = λ n c d l m at_c at_d x. no_less n 0 1 l m (omega arith);
}

not_one_before : IsPartner both 1 0 → ⊥
not_one_before x = let l = x.order in omega (arith, l)

not_past_all : IsPartner both 0 2 → ⊥
not_past_all x = let l : 2 < 2 = x.within in omega (arith, l)

not_one_that_meets : IsPartner (at_zero 0 ∷ at_zero 1 ∷ []) 0 1 → ⊥
not_one_that_meets x = not_two_at_zero 0 1 (x.can (at_zero 0) (at_zero 1) refl refl)

not_a_later_partner : IsPartner four 0 3 → ⊥
not_a_later_partner x = x.least 1 (at_zero 0) (at_one 1) (omega arith) (omega arith) refl refl
    (zero_and_one 0 1)

last_has_none : HasNoPartner both 1
last_has_none n c d l at_c at_d x =
    let w = slice_get_within both n d at_d in let v : n < 2 = w in omega (arith, l, v)

first_has_one : HasNoPartner both 0 → ⊥
first_has_one x = x 1 (at_zero 0) (at_one 1) (omega arith) refl refl (zero_and_one 0 1)

-- ---- the committed sets that are whole, and the others
both_are_whole : AreWholeBut ground 2 []
both_are_whole zero set below at = inl
    (subst (IsWhole all_up) (same_Some set_a set (sym (first_of set_a set_b) ∙ at)) a_is.whole)
both_are_whole (suc zero) set below at = inl
    (subst (IsWhole all_up) (same_Some set_b set (sym (second_of set_a set_b) ∙ at)) b_is.whole)
both_are_whole (suc (suc id)) set below at = absurd (omega (arith, below))

abbrev with_a_shard_lost : FarState
with_a_shard_lost = far (two set_a set_b) one_down 2 (Some begun)

but_one_that_is_named : AreWholeBut with_a_shard_lost 1 (0 ∷ [])
but_one_that_is_named zero set below at = inr (0, refl)
but_one_that_is_named (suc id) set below at = absurd (omega (arith, below))

not_where_another_is_named : AreWholeBut with_a_shard_lost 1 (1 ∷ []) → ⊥
not_where_another_is_named x = by (x 0 set_a (omega arith) (first_of set_a set_b))
  where
    by : IsWhole one_down set_a ⊎ IsAmong {X = ℕ} 0 (1 ∷ []) → ⊥
    by (inl whole) = let e : 1 ≡ 0 = ap (λ (l : List Loss). length l) whole in omega (arith, e)
    by (inr (zero, at)) = let e : 1 ≡ 0 = same_Some 1 0 at in omega (arith, e)
    by (inr (suc i, at)) = none-some 0 at
