-- How many different numbers a list has, with one more at its end.
use Rattle.std.proofs.Common.{◌≡◌, ℕ, ◌+◌, Bool, true, false, cond, ◌||◌, List, [], ◌∷◌, ◌++◌, length, get_or, set, take, replicate, ◌<◌, refl, sym, ap, ◌∙◌, arith, inl, inr}
use Rattle.std.specs.Prelude.{nat_eq}
use Rattle.std.specs.Set.{is_member, distinct_count, unique_keys}
use Rattle.std.proofs.lemmas.List.Folds.{list_any-append}
use Rattle.std.proofs.lemmas.List.{get_or-set_same, get_or-set_other, length-set, get_or-replicate, take_more, map-append}
use Rattle.cb_script.specs.declared.script.Line.{Line}
use Rattle.cb_cli.specs.Lanes.{lanes_of}
use Rattle.std.proofs.lemmas.Bool.{cases_eq, eq-eqb, ne_eqb}

-- the last number is on the list behind the first, or another one
last_again : (m : Bool) (us vs : List ℕ) (x : ℕ) → length us ≡ cond m 0 1 + length vs
    → length us ≡ 0 + length (cond m vs (x ∷ vs))
last_again true us vs x e = omega (arith, e)
last_again false us vs x e = omega (arith, e)

another : (m n : Bool) (us vs : List ℕ) (y : ℕ) → length us ≡ cond m 0 1 + length vs
    → length (cond n us (y ∷ us)) ≡ cond m 0 1 + length (cond n vs (y ∷ vs))
another true true us vs y e = e
another true false us vs y e = omega (arith, e)
another false true us vs y e = e
another false false us vs y e = omega (arith, e)

or_false : (b : Bool) → (b || (false || false)) ≡ b
or_false true = refl
or_false false = refl

or_true : (b : Bool) → (b || (true || false)) ≡ true
or_true true = refl
or_true false = refl

-- one more number counts where it is not on the list
pub count_more : (xs : List ℕ) (x : ℕ)
    → distinct_count nat_eq (xs ++ x ∷ []) ≡ cond (is_member nat_eq xs x) 0 1 + distinct_count nat_eq xs
count_more [] x = refl
count_more (y ∷ xs) x =
    let shorter = count_more xs x in
    elim (cases_eq x y) [
      | inl e ↦ rw (← e, list_any-append (nat_eq x) xs (x ∷ []), eq-eqb x x refl, or_true (is_member nat_eq xs x))
          (last_again (is_member nat_eq xs x) (unique_keys nat_eq (xs ++ x ∷ [])) (unique_keys nat_eq xs) x shorter)
      | inr other ↦ rw (list_any-append (nat_eq y) xs (x ∷ []), ne_eqb x y other, ne_eqb y x (λ e. other (sym e)), or_false (is_member nat_eq xs y))
          (another (is_member nat_eq xs x) (is_member nat_eq xs y) (unique_keys nat_eq (xs ++ x ∷ [])) (unique_keys nat_eq xs) y shorter)
    ]

-- there is a flag for each number that a byte has, and it is raised where the number is on the list
pub record FlagsOfNumbers (seen : List Bool) (lanes : List ℕ) : Type 0 where
  pub all : length seen ≡ 256
  pub each : (lane : ℕ) → lane < 256 → get_or seen lane false ≡ is_member nat_eq lanes lane

-- the flag of the number at the end is raised
pub raised : (seen : List Bool) (lanes : List ℕ) (x : ℕ) → x < 256 → FlagsOfNumbers seen lanes
    → FlagsOfNumbers (set seen x true) (lanes ++ x ∷ [])
raised seen lanes x low flags = record {
  all = length-set seen x true ∙ flags.all;
  each = λ lane below. elim (cases_eq lane x) [
    | inl e ↦ rw (e, list_any-append (nat_eq x) lanes (x ∷ []), eq-eqb x x refl, or_true (is_member nat_eq lanes x)) (get_or-set_same seen x true false (omega (arith, low, flags.all)))
    | inr other ↦ rw (list_any-append (nat_eq lane) lanes (x ∷ []), ne_eqb lane x other, or_false (is_member nat_eq lanes lane)) (get_or-set_other seen x lane true false other ∙ flags.each lane below)
  ];
}

-- the flag of the number at the end is raised already
pub raised_before : (seen : List Bool) (lanes : List ℕ) (x : ℕ) → is_member nat_eq lanes x ≡ true
    → FlagsOfNumbers seen lanes → FlagsOfNumbers seen (lanes ++ x ∷ [])
raised_before seen lanes x is flags = record {
  all = flags.all;
  each = λ lane below. elim (cases_eq lane x) [
    | inl e ↦ rw (e, list_any-append (nat_eq x) lanes (x ∷ []), eq-eqb x x refl, or_true (is_member nat_eq lanes x)) (ap (λ (k : ℕ). get_or seen k false) (sym e) ∙ flags.each lane below ∙ ap (is_member nat_eq lanes) e ∙ is)
    | inr other ↦ rw (list_any-append (nat_eq lane) lanes (x ∷ []), ne_eqb lane x other, or_false (is_member nat_eq lanes lane)) (flags.each lane below)
  ];
}

-- no lane is flagged at first
pub none_raised : FlagsOfNumbers (replicate 256 false) []
none_raised = record { all = refl; each = λ lane below. get_or-replicate 256 lane false false below }

-- one more line, and its lane
pub lanes_more : (lines : List Line) (i : ℕ) (l d : Line) → i < length lines → l ≡ get_or lines i d
    → lanes_of (take (i + 1) lines) ≡ lanes_of (take i lines) ++ l.lane.n ∷ []
lanes_more lines i l d within at =
    ap lanes_of (take_more lines i d within ∙ ap (λ (m : Line). take i lines ++ m ∷ []) (sym at)) ∙ map-append (λ (m : Line). m.lane.n) (take i lines) (l ∷ [])

-- the count with a number that is not on the list
pub counts_new : (seen : List Bool) (lanes : List ℕ) (x count : ℕ) → x < 256
    → FlagsOfNumbers seen lanes
    → get_or seen x false ≡ false → count ≡ distinct_count nat_eq lanes
    → count + 1 ≡ distinct_count nat_eq (lanes ++ x ∷ [])
counts_new seen lanes x count low flags is counted =
    let new : is_member nat_eq lanes x ≡ false = sym (flags.each x low) ∙ is in
    let step = count_more lanes x in
    let one : distinct_count nat_eq (lanes ++ x ∷ []) ≡ 1 + distinct_count nat_eq lanes = rw new at step in
    omega (arith, one, counted)

-- the count with a number that is on the list
pub counts_again : (seen : List Bool) (lanes : List ℕ) (x count : ℕ) → x < 256
    → FlagsOfNumbers seen lanes
    → get_or seen x false ≡ true → count ≡ distinct_count nat_eq lanes
    → count ≡ distinct_count nat_eq (lanes ++ x ∷ [])
counts_again seen lanes x count low flags is counted =
    let old : is_member nat_eq lanes x ≡ true = sym (flags.each x low) ∙ is in
    let step = count_more lanes x in
    let same : distinct_count nat_eq (lanes ++ x ∷ []) ≡ 0 + distinct_count nat_eq lanes = rw old at step in
    omega (arith, same, counted)
