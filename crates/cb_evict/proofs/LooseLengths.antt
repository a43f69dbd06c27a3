-- Loose spans by their lengths: the greatest length that has enough, and spans that are lost.
use Rattle.std.proofs.Common.{◌≡◌, ◌≢◌, ℕ, zero, suc, ◌<◌, ◌≤◌, max, Bool, true, false, cond, not, ◌||◌, nat_eq, nat_le, List, [], ◌∷◌, ◌++◌, length, take, get_or, Option, None, Some, sym, refl, ap, ◌∙◌, subst, lit≤, arith, inl, inr, eq-eqb}
use Rattle.std.specs.Prelude.{is_some, if◌then◌else◌}
use Rattle.std.specs.List.{Contains, AllPairs, filter}
use Rattle.std.proofs.lemmas.Bool.{cases_lt, eqb-true, eqb-false, false≢true, le-leb, lt-leb}
use Rattle.std.proofs.lemmas.List.{length-take-le}
use Rattle.std.proofs.lemmas.List.Elements.{All-contains, filter_passes}
use Rattle.cb_span.specs.Contents.{Contents}
use Rattle.cb_world.specs.declared.access.Access.{Access}
use Rattle.cb_world.specs.FarState.{pages_at}
use Rattle.cb_evict.specs.Candidates.{AreLoose, AreUnique, IsBarred, SpanNames}
use Rattle.cb_evict.specs.Events.{TouchesOnly}
use Rattle.cb_evict.specs.Lengths.{batch_pages, count_of, has_pages, loose_of, most_loose, without}
use Rattle.cb_evict.specs.Loading.{AreOfLength}
use Rattle.cb_evict.proofs.Loose.{all_quiet, apart_tail, contains_head, contains_tail, fresh_head, held_cons, held_more, loose_among, loose_more, loose_seen, others_quiet, tail_quiet}
use Rattle.cb_evict.proofs.Options.{none_some, some_same}

-- ---- what a test keeps of a list
pub at_true : (p : ℕ → Bool) (x : ℕ) (xs : List ℕ) → p x ≡ true → filter p (x ∷ xs) ≡ x ∷ filter p xs
at_true p x xs e = ap (λ (b : Bool). cond b (x ∷ filter p xs) (filter p xs)) e

pub at_false : (p : ℕ → Bool) (x : ℕ) (xs : List ℕ) → p x ≡ false → filter p (x ∷ xs) ≡ filter p xs
at_false p x xs e = ap (λ (b : Bool). cond b (x ∷ filter p xs) (filter p xs)) e

pub filter_has : (p : ℕ → Bool) (xs : List ℕ) (x : ℕ) → Contains xs x → p x ≡ true
    → Contains (filter p xs) x
filter_has p [] x (k, l, e) pass = absurd (omega (arith, l))
filter_has p (y ∷ xs) x (zero, l, e) pass =
    subst (λ (l : List ℕ). Contains l x) (sym (at_true p y xs (ap p e ∙ pass))) (0, omega arith, e)
filter_has p (y ∷ xs) x (suc k, l, e) pass = by (p y) (filter_has p xs x (k, omega (arith, l), e) pass)
  where
    by : (b : Bool) → Contains (filter p xs) x
        → Contains (cond b (y ∷ filter p xs) (filter p xs)) x
    by true c = contains_tail y x (filter p xs) c
    by false c = c

pub filter_in : (p : ℕ → Bool) (xs : List ℕ) (x : ℕ) → Contains (filter p xs) x → Contains xs x
filter_in p [] x c = c
filter_in p (y ∷ xs) x c = by (filter_in p xs x) (p y) c
  where
    by : (Contains (filter p xs) x → Contains xs x) → (b : Bool)
        → Contains (cond b (y ∷ filter p xs) (filter p xs)) x → Contains (y ∷ xs) x
    by rest true (zero, l, e) = (0, omega arith, e)
    by rest true (suc k, l, e) = contains_tail y x xs (rest (k, omega (arith, l), e))
    by rest false c = contains_tail y x xs (rest c)

pub filter_all : (p : ℕ → Bool) (xs : List ℕ) → ((x : ℕ) → Contains xs x → p x ≡ true)
    → filter p xs ≡ xs
filter_all p [] all = refl
filter_all p (x ∷ xs) all = at_true p x xs (all x (contains_head x xs))
    ∙ ap (λ (l : List ℕ). x ∷ l) (filter_all p xs (λ y c. all y (contains_tail x y xs c)))

-- one test and then another one, in either order
pub filter_swap : (p q : ℕ → Bool) (xs : List ℕ) → filter p (filter q xs) ≡ filter q (filter p xs)
filter_swap p q [] = refl
filter_swap p q (x ∷ xs) = by (filter_swap p q xs) (p x) (q x) refl refl
  where
    by : filter p (filter q xs) ≡ filter q (filter p xs) → (b c : Bool) → p x ≡ b → q x ≡ c
        → filter p (filter q (x ∷ xs)) ≡ filter q (filter p (x ∷ xs))
    by rest true true e f = ap (filter p) (at_true q x xs f) ∙ at_true p x (filter q xs) e
        ∙ ap (λ (l : List ℕ). x ∷ l) rest ∙ sym (at_true q x (filter p xs) f)
        ∙ sym (ap (filter q) (at_true p x xs e))
    by rest true false e f = ap (filter p) (at_false q x xs f) ∙ rest
        ∙ sym (at_false q x (filter p xs) f) ∙ sym (ap (filter q) (at_true p x xs e))
    by rest false true e f = ap (filter p) (at_true q x xs f) ∙ at_false p x (filter q xs) e ∙ rest
        ∙ sym (ap (filter q) (at_false p x xs e))
    by rest false false e f = ap (filter p) (at_false q x xs f) ∙ rest
        ∙ sym (ap (filter q) (at_false p x xs e))

-- ---- what is lost
-- whether a frame is not x, whether it is not lost, and both
abbrev is_off : ℕ → ℕ → Bool
is_off x g = not (nat_eq x g)

abbrev is_kept : (ℕ → Bool) → ℕ → Bool
is_kept lost g = not (lost g)

abbrev is_left : ℕ → (ℕ → Bool) → ℕ → Bool
is_left x lost g = not (nat_eq x g || lost g)

-- one more
pub without_more : (x : ℕ) (lost : ℕ → Bool) (xs : List ℕ)
    → without (λ g. nat_eq x g || lost g) xs ≡ without (nat_eq x) (without lost xs)
without_more x lost [] = refl
without_more x lost (y ∷ xs) = by (without_more x lost xs) (nat_eq x y) (lost y) refl refl
  where
    by : filter (is_left x lost) xs ≡ filter (is_off x) (filter (is_kept lost) xs) → (b c : Bool) → nat_eq x y ≡ b → lost y ≡ c
        → filter (is_left x lost) (y ∷ xs) ≡ filter (is_off x) (filter (is_kept lost) (y ∷ xs))
    by rest true true e f = at_false (is_left x lost) y xs (ap (λ (b : Bool). not (b || lost y)) e) ∙ rest
        ∙ sym (ap (filter (is_off x)) (at_false (is_kept lost) y xs (ap not f)))
    by rest true false e f = at_false (is_left x lost) y xs (ap (λ (b : Bool). not (b || lost y)) e) ∙ rest
        ∙ sym (at_false (is_off x) y (filter (is_kept lost) xs) (ap not e))
        ∙ sym (ap (filter (is_off x)) (at_true (is_kept lost) y xs (ap not f)))
    by rest false true e f =
        at_false (is_left x lost) y xs (ap (λ (b : Bool). not (b || lost y)) e ∙ ap not f) ∙ rest
        ∙ sym (ap (filter (is_off x)) (at_false (is_kept lost) y xs (ap not f)))
    by rest false false e f =
        at_true (is_left x lost) y xs (ap (λ (b : Bool). not (b || lost y)) e ∙ ap not f)
        ∙ ap (λ (l : List ℕ). y ∷ l) rest ∙ sym (at_true (is_off x) y (filter (is_kept lost) xs) (ap not e))
        ∙ sym (ap (filter (is_off x)) (at_true (is_kept lost) y xs (ap not f)))

-- those of another length are none of the lost ones
pub others_stay : (spans : List (Option Contents)) (lost : ℕ → Bool) (pages p : ℕ) (loose : List ℕ)
    → ((f : ℕ) → lost f ≡ true → pages_at spans f ≡ pages) → p ≢ pages
    → loose_of spans p (without lost loose) ≡ loose_of spans p loose
others_stay spans lost pages p loose long other =
    filter_swap (has_pages spans p) (λ f. not (lost f)) loose
    ∙ filter_all (λ f. not (lost f)) (loose_of spans p loose) kept
  where
    kept : (f : ℕ) → Contains (loose_of spans p loose) f → not (lost f) ≡ true
    kept f c = by (lost f) refl
      where
        by : (b : Bool) → lost f ≡ b → not (lost f) ≡ true
        by false e = ap not e
        by true e = absurd (other (sym (eqb-true (pages_at spans f) p
            (All-contains (λ g. has_pages spans p g ≡ true) (loose_of spans p loose) f
            (filter_passes (has_pages spans p) loose) c)) ∙ long f e))

-- lists with the same spans of a length have those that are not lost
pub same_left : (spans : List (Option Contents)) (lost : ℕ → Bool) (p : ℕ) (was loose : List ℕ)
    → loose_of spans p was ≡ loose_of spans p loose
    → loose_of spans p (without lost was) ≡ loose_of spans p (without lost loose)
same_left spans lost p was loose same =
    filter_swap (has_pages spans p) (λ f. not (lost f)) was
    ∙ ap (without lost) same ∙ sym (filter_swap (has_pages spans p) (λ f. not (lost f)) loose)

-- an object of a loose span can't be claimed: the others are loose
pub loose_gone : (es fs : List Access) (spans : List (Option Contents)) (n x : ℕ)
    (frames loose : List ℕ) → AreUnique spans n → TouchesOnly (SpanNames spans x) (λ p. ⊥) fs
    → AllPairs (λ f g. f ≢ g) frames → IsBarred (es ++ fs) spans x → Contains loose x
    → AreLoose es spans frames loose → AreLoose (es ++ fs) spans frames (without (nat_eq x) loose)
loose_gone es fs spans n x [] [] unique touches apart now (k, l, e) a = absurd (omega (arith, l))
loose_gone es fs spans n x [] (g ∷ loose) unique touches apart now c a = absurd a
loose_gone es fs spans n x (f ∷ frames) [] unique touches apart now (k, l, e) a =
    absurd (omega (arith, l))
loose_gone es fs spans n x (f ∷ frames) (g ∷ loose) unique touches apart now c (inl a) =
    let among = loose_among es spans frames (g ∷ loose) x a.1 c in
    held_cons (es ++ fs) spans f frames (without (nat_eq x) (g ∷ loose))
    (held_more spans f es fs (others_quiet spans n x fs unique touches f (λ e.
    fresh_head f frames apart (subst (Contains frames) (sym e) among))) a.0)
    (loose_gone es fs spans n x frames (g ∷ loose) unique touches (apart_tail f frames apart) now c a.1)
loose_gone es fs spans n x (f ∷ frames) (g ∷ loose) unique touches apart now c (inr a) =
    by (λ d. loose_gone es fs spans n x frames loose unique touches (apart_tail f frames apart) now d a.2)
    (nat_eq x g) refl
  where
    pass : (h : ℕ) → (x ≡ h → ⊥) → is_off x h ≡ true
    pass h off = test (nat_eq x h) refl
      where
        test : (b : Bool) → nat_eq x h ≡ b → is_off x h ≡ true
        test true d = absurd (off (eqb-true x h d))
        test false d = ap not d

    behind : x ≢ g → Contains (g ∷ loose) x → Contains loose x
    behind other (zero, l, e) = absurd (other (sym e))
    behind other (suc k, l, e) = (k, omega (arith, l), e)

    by : (Contains loose x → AreLoose (es ++ fs) spans frames (without (nat_eq x) loose))
        → (b : Bool) → nat_eq x g ≡ b
        → AreLoose (es ++ fs) spans (f ∷ frames) (without (nat_eq x) (g ∷ loose))
    by rest true e =
        let same : x ≡ f = eqb-true x g e ∙ a.1 in
        let none : Contains frames x → ⊥ = λ d. fresh_head f frames apart (subst (Contains frames) same d) in
        let stay : filter (is_off x) loose ≡ loose = filter_all (is_off x) loose (λ h d. pass h (λ is.
        none (subst (Contains frames) (sym is) (loose_among es spans frames loose h a.2 d)))) in
        subst (λ (l : List ℕ). AreLoose (es ++ fs) spans (f ∷ frames) l)
        (sym (at_false (is_off x) g loose (ap not e) ∙ stay))
        (held_cons (es ++ fs) spans f frames loose (record {
          seen = loose_seen spans f es fs a.0;
          barred = subst (IsBarred (es ++ fs) spans) same now;
        })
        (all_quiet es fs spans frames loose (tail_quiet spans n x fs frames unique touches none) a.2))
    by rest false e =
        let other : x ≢ g = eqb-false x g e in
        subst (λ (l : List ℕ). AreLoose (es ++ fs) spans (f ∷ frames) l)
        (sym (at_true (is_off x) g loose (ap not e)))
        (inr (
          loose_more spans f es fs
              (others_quiet spans n x fs unique touches f (λ is. other (sym (a.1 ∙ is)))) a.0,
          a.1,
          rest (behind other c),
        ))

-- ---- the greatest length that has enough
pub most_is : (spans : List (Option Contents)) (loose : List ℕ) → most_loose spans loose
    ≡ max (count_of spans 4 loose) (max (count_of spans 2 loose) (count_of spans 1 loose))
unfolding most_loose
most_is spans loose = refl

module _ (k : ℕ) (spans : List (Option Contents)) (loose : List ℕ) where
  abbrev fours : ℕ
  fours = count_of spans 4 loose

  abbrev twos : ℕ
  twos = count_of spans 2 loose

  abbrev ones : ℕ
  ones = count_of spans 1 loose

  -- by the three tests
  abbrev choice : Bool → Bool → Bool → Option ℕ
  choice a b c = if a then Some 4 else if b then Some 2 else if c then Some 1 else None

  by_tests : (a b c : Bool) → nat_le k fours ≡ a → nat_le k twos ≡ b → nat_le k ones ≡ c
      → batch_pages k spans loose ≡ choice a b c
  unfolding batch_pages
  by_tests a b c e f g = λ i. choice (e i) (f i) (g i)

  pub of_four : k ≤ count_of spans 4 loose → batch_pages k spans loose ≡ Some 4
  of_four enough = by_tests true (nat_le k twos) (nat_le k ones) (le-leb k fours enough) refl refl

  pub of_two : count_of spans 4 loose < k → k ≤ count_of spans 2 loose
      → batch_pages k spans loose ≡ Some 2
  of_two few enough = by_tests false true (nat_le k ones) (lt-leb k fours few) (le-leb k twos enough) refl

  pub of_one : count_of spans 4 loose < k → count_of spans 2 loose < k
      → k ≤ count_of spans 1 loose → batch_pages k spans loose ≡ Some 1
  of_one few fewer enough =
      by_tests false false true (lt-leb k fours few) (lt-leb k twos fewer) (le-leb k ones enough)

  pub of_none : count_of spans 4 loose < k → count_of spans 2 loose < k
      → count_of spans 1 loose < k → batch_pages k spans loose ≡ None
  of_none few fewer none =
      by_tests false false false (lt-leb k fours few) (lt-leb k twos fewer) (lt-leb k ones none)

  -- which length it is
  pub data Longest : Type 0 where
    is_four : k ≤ count_of spans 4 loose → batch_pages k spans loose ≡ Some 4 → Longest
    is_two : count_of spans 4 loose < k → k ≤ count_of spans 2 loose
        → batch_pages k spans loose ≡ Some 2 → Longest
    is_one : count_of spans 4 loose < k → count_of spans 2 loose < k
        → k ≤ count_of spans 1 loose → batch_pages k spans loose ≡ Some 1 → Longest
    is_none : count_of spans 4 loose < k → count_of spans 2 loose < k
        → count_of spans 1 loose < k → batch_pages k spans loose ≡ None → Longest

  pub longest : Longest
  longest = elim (cases_lt fours k) [
    | inr enough ↦ is_four enough (of_four enough)
    | inl few ↦ elim (cases_lt twos k) [
      | inr enough ↦ is_two few enough (of_two few enough)
      | inl fewer ↦ elim (cases_lt ones k) [
        | inr enough ↦ is_one few fewer enough (of_one few fewer enough)
        | inl none ↦ is_none few fewer none (of_none few fewer none)
      ]
    ]
  ]

  -- There is none exactly where the most are fewer than k.
  pub none_fewer : batch_pages k spans loose ≡ None → most_loose spans loose < k
  none_fewer none = by longest
    where
      by : Longest → most_loose spans loose < k
      by (is_four enough e) = absurd (none_some 4 (sym none ∙ e))
      by (is_two few enough e) = absurd (none_some 2 (sym none ∙ e))
      by (is_one few fewer enough e) = absurd (none_some 1 (sym none ∙ e))
      by (is_none few fewer least e) = omega (arith, most_is spans loose, few, fewer, least)

  pub fewer_none : most_loose spans loose < k → batch_pages k spans loose ≡ None
  fewer_none less =
      of_none (omega (arith, most_is spans loose, less)) (omega (arith, most_is spans loose, less)) (omega (arith, most_is spans loose, less))

  pub some_enough : is_some (batch_pages k spans loose) ≡ true → k ≤ most_loose spans loose
  some_enough some = by longest
    where
      by : Longest → k ≤ most_loose spans loose
      by (is_four enough e) = omega (arith, most_is spans loose, enough)
      by (is_two few enough e) = omega (arith, most_is spans loose, enough)
      by (is_one few fewer enough e) = omega (arith, most_is spans loose, enough)
      by (is_none few fewer least e) = absurd (false≢true (sym (ap is_some e) ∙ some))

  pub enough_some : k ≤ most_loose spans loose → is_some (batch_pages k spans loose) ≡ true
  enough_some enough = by longest
    where
      by : Longest → is_some (batch_pages k spans loose) ≡ true
      by (is_four more e) = ap is_some e
      by (is_two few more e) = ap is_some e
      by (is_one few fewer more e) = ap is_some e
      by (is_none few fewer least e) = absurd (omega (arith, most_is spans loose, few, fewer, least, enough))

  -- and the greatest length has k
  pub longest_enough : (pages : ℕ) → batch_pages k spans loose ≡ Some pages
      → k ≤ count_of spans pages loose
  longest_enough pages is = by longest
    where
      since : (p : ℕ) → batch_pages k spans loose ≡ Some p → k ≤ count_of spans p loose
          → k ≤ count_of spans pages loose
      since p e enough = subst (λ (n : ℕ). k ≤ count_of spans n loose) (some_same p pages (sym e ∙ is)) enough

      by : Longest → k ≤ count_of spans pages loose
      by (is_four enough e) = since 4 e enough
      by (is_two few enough e) = since 2 e enough
      by (is_one few fewer enough e) = since 1 e enough
      by (is_none few fewer least e) = absurd (none_some pages (sym e ∙ is))

-- ---- the counts
-- the spans of one length are some of all
pub count_within : (spans : List (Option Contents)) (pages : ℕ) (loose : List ℕ)
    → count_of spans pages loose ≤ length loose
count_within spans pages [] = lit≤ tt
count_within spans pages (f ∷ loose) = by (has_pages spans pages f) (count_within spans pages loose)
  where
    by : (b : Bool) → count_of spans pages loose ≤ length loose
        → length (cond b (f ∷ loose_of spans pages loose) (loose_of spans pages loose))
        ≤ suc (length loose)
    by true l = omega (arith, l)
    by false l = omega (arith, l)

pub most_within : (spans : List (Option Contents)) (loose : List ℕ)
    → most_loose spans loose ≤ length loose
most_within spans loose =
    omega (
      arith,
      most_is spans loose,
      count_within spans 4 loose,
      count_within spans 2 loose,
      count_within spans 1 loose,
    )

-- so where a length has k there are k in all
pub longest_within : (k : ℕ) (spans : List (Option Contents)) (loose : List ℕ) (pages : ℕ)
    → batch_pages k spans loose ≡ Some pages → k ≤ length loose
longest_within k spans loose pages is =
    omega (arith, longest_enough k spans loose pages is, count_within spans pages loose)

pub some_within : (k : ℕ) (spans : List (Option Contents)) (loose : List ℕ)
    → is_some (batch_pages k spans loose) ≡ true → k ≤ length loose
some_within k spans loose some =
    omega (arith, some_enough k spans loose some, most_within spans loose)

-- where all have one length they are all of that length
pub all_of_length : (spans : List (Option Contents)) (pages : ℕ) (loose : List ℕ)
    → AreOfLength spans pages loose → loose_of spans pages loose ≡ loose
all_of_length spans pages loose long = filter_all (has_pages spans pages) loose (λ f c.
    eq-eqb (pages_at spans f) pages (All-contains (λ g. pages_at spans g ≡ pages) loose f long c))

pub most_alike : (spans : List (Option Contents)) (loose : List ℕ)
    → AreOfLength spans 1 loose → most_loose spans loose ≡ length loose
most_alike spans loose long =
    let all = ap (λ (l : List ℕ). length l) (all_of_length spans 1 loose long) in
    omega (arith, all, most_is spans loose, count_within spans 4 loose, count_within spans 2 loose)

-- the first ones of a length have it
pub first_long : (spans : List (Option Contents)) (pages : ℕ) (loose : List ℕ)
    → AreOfLength spans pages (loose_of spans pages loose)
first_long spans pages loose i d l =
    eqb-true (pages_at spans (get_or (loose_of spans pages loose) i d)) pages
    (filter_passes (has_pages spans pages) loose i d l)

-- of a length that has k, k are taken
pub taken_count : (k : ℕ) (spans : List (Option Contents)) (loose : List ℕ) (pages : ℕ)
    → batch_pages k spans loose ≡ Some pages → length (take k (loose_of spans pages loose)) ≡ k
taken_count k spans loose pages is =
    length-take-le k (loose_of spans pages loose) (longest_enough k spans loose pages is)

-- where there is no such length it is not one
pub none_not_some : (k : ℕ) (spans : List (Option Contents)) (loose : List ℕ)
    → batch_pages k spans loose ≡ None → is_some (batch_pages k spans loose) ≡ true → ⊥
none_not_some k spans loose none some = false≢true (sym (ap is_some none) ∙ some)

pub none_not_one : (k : ℕ) (spans : List (Option Contents)) (loose : List ℕ) (pages : ℕ)
    → batch_pages k spans loose ≡ None → batch_pages k spans loose ≡ Some pages → ⊥
none_not_one k spans loose pages none one = none_some pages (sym none ∙ one)

-- and there is one
pub one_longest : (k : ℕ) (spans : List (Option Contents)) (loose : List ℕ) (a b : ℕ)
    → batch_pages k spans loose ≡ Some a → batch_pages k spans loose ≡ Some b → a ≡ b
one_longest k spans loose a b x y = some_same a b (sym x ∙ y)
