-- Lists that grow at their ends.
use Rattle.std.proofs.Common.{◌≡◌, ℕ, suc, zero, ◌+◌, ◌-◌, ◌≤◌, List, [], ◌∷◌, ◌++◌, take, drop, Some, refl, ap, sym, ◌∙◌, arith, subst}
use Rattle.std.specs.List.{AllByRecursion, fold, slice_get}
use Rattle.std.proofs.lemmas.Option.{slice_get_within, get_or_from_slice_get}
use Rattle.std.proofs.lemmas.List.{take_more}
use Rattle.std.proofs.Math.Seq.{drop-nil}

pub all_append : {X : Type 0} (P : X → Type 0) (xs ys : List X)
    → AllByRecursion P xs → AllByRecursion P ys → AllByRecursion P (xs ++ ys)
all_append P [] ys all others = others
all_append P (x ∷ xs) ys all others = (all.0, all_append P xs ys all.1 others)

pub all_weaker : {X : Type 0} (P Q : X → Type 0) → ((x : X) → P x → Q x) → (xs : List X)
    → AllByRecursion P xs → AllByRecursion Q xs
all_weaker P Q weaker [] all = tt
all_weaker P Q weaker (x ∷ xs) all = (weaker x all.0, all_weaker P Q weaker xs all.1)

some_same : {X : Type 0} (x y : X) → Some x ≡ Some y → x ≡ y
some_same x y same = cc

pub all_at : {X : Type 0} (P : X → Type 0) (xs : List X) (i : ℕ) (x : X)
    → AllByRecursion P xs → slice_get xs i ≡ Some x → P x
all_at P [] i x all is = absurd (cc)
all_at P (y ∷ ys) zero x all is = subst P (some_same y x is) all.0
all_at P (y ∷ ys) (suc i) x all is = all_at P ys i x all.1 is

-- what stands in the front of a list
pub get_front : {X : Type 0} (xs ys : List X) (i : ℕ) (x : X)
    → slice_get xs i ≡ Some x → slice_get (xs ++ ys) i ≡ Some x
get_front [] ys i x is = absurd (cc)
get_front (y ∷ xs) ys zero x is = is
get_front (y ∷ xs) ys (suc i) x is = get_front xs ys i x is

-- and behind some of it
pub get_behind : {X : Type 0} (xs : List X) (a n : ℕ) → a ≤ n
    → slice_get (drop a xs) (n - a) ≡ slice_get xs n
get_behind xs zero n within = ap (slice_get xs) (omega arith)
get_behind [] (suc a) n within = refl
get_behind (x ∷ xs) (suc a) zero within = absurd (omega arith)
get_behind (x ∷ xs) (suc a) (suc n) within =
    let same : suc n - suc a ≡ n - a = omega arith in
    ap (λ i. slice_get (drop a xs) i) same ∙ get_behind xs a n (omega arith)

pub drop_twice : {X : Type 0} (xs : List X) (a b : ℕ) → a ≤ b
    → drop (b - a) (drop a xs) ≡ drop b xs
drop_twice xs zero b within = ap (λ i. drop i xs) (omega arith)
drop_twice [] (suc a) b within = drop-nil (b - suc a) ∙ sym (drop-nil b)
drop_twice (x ∷ xs) (suc a) zero within = absurd (omega arith)
drop_twice (x ∷ xs) (suc a) (suc b) within =
    let same : suc b - suc a ≡ b - a = omega arith in
    ap (λ i. drop i (drop a xs)) same ∙ drop_twice xs a b (omega arith)

pub fold_push : {A B : Type 0} (f : B → A → B) (b : B) (xs : List A) (x : A)
    → fold f b (xs ++ x ∷ []) ≡ f (fold f b xs) x
fold_push f b [] x = refl
fold_push f b (y ∷ xs) x = fold_push f (f b y) xs x

-- one more element of a list
pub take_next : {X : Type 0} (xs : List X) (n : ℕ) (x : X) → slice_get xs n ≡ Some x
    → take (n + 1) xs ≡ take n xs ++ x ∷ []
take_next xs n x is =
    take_more xs n x (slice_get_within xs n x is)
    ∙ ap (λ y. take n xs ++ y ∷ []) (get_or_from_slice_get xs n x x is)

pub drop_one_more : {X : Type 0} (xs : List X) (n : ℕ) → drop 1 (drop n xs) ≡ drop (n + 1) xs
drop_one_more xs n =
    let one : 1 ≡ n + 1 - n = omega arith in
    ap (λ i. drop i (drop n xs)) one ∙ drop_twice xs n (n + 1) (omega arith)
