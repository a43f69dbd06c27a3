-- Words that look like an option, and words that do not.
use Rattle.std.proofs.Common.{◌≡◌, ℕ, suc, ◌+◌, ◌<◌, ◌==◌, Bool, true, false, cond, not, ◌||◌, [], ◌∷◌, ◌++◌, length, take, get_or, Option, Some, None, inl, inr, refl, sym, ap, ◌∙◌, subst, arith}
use Rattle.std.specs.List.{position_or_len, before_first, after_first}
use Rattle.std.specs.Prelude.{option_and_then}
use Rattle.std.specs.Str.{bytes_eq}
use Rattle.std.specs.Str.Parse.{AllDigits}
use Rattle.std.proofs.lemmas.Bool.{cases_Bool, eqb-true, ne_eqb}
use Rattle.std.proofs.lemmas.List.{take_all}
use Rattle.std.proofs.lemmas.List.Sums.{passes_at_first, split_at_first}
use Rattle.std.proofs.lemmas.Str.Parse.{digit_at}
use Rattle.clap.specs.Lexer.{has_byte, long_of, long_of_rest, name_and_value, short_of, strip_byte}
use Rattle.clap.specs.Walk.{Text}

-- two dashes
abbrev pub dashes : Text
dashes = 45 ∷ 45 ∷ []

-- ---- what an option's word is made of

strip_is : (w rest : Text) → strip_byte 45 w ≡ Some rest → w ≡ 45 ∷ rest
strip_is [] rest e = absurd cc
strip_is (x ∷ xs) rest e = elim (cases_Bool (x == 45)) [
  | inl t ↦
      let found : Some xs ≡ Some rest = sym (ap (λ (b : Bool). cond b (Some xs) None) t) ∙ e in
      let same : xs ≡ rest = cc in
      λ i. eqb-true x 45 t i ∷ same i
  | inr f ↦
      let found : ◌≡◌ {A = Option Text} None (Some rest) = sym (ap (λ (b : Bool). cond b (Some xs) None) f) ∙ e in
      absurd cc
]

and_then_is : {A B : Type 0} (f : A → Option B) (o : Option A) (b : B) → option_and_then f o ≡ Some b → (a : A) × (o ≡ Some a) × (f a ≡ Some b)
and_then_is f None b e = absurd cc
and_then_is f (Some a) b e = (a, refl, e)

abbrev is_equals : ℕ → Bool
is_equals x = x == 61

within_case : (b rest : Bool) (n count : ℕ) → (b || rest) ≡ true → (rest ≡ true → n < count) → cond (not b) (1 + n) 0 < suc count
within_case true rest n count e f = omega arith
within_case false rest n count e f = omega (arith, f e)

any_within : (text : Text) → has_byte 61 text ≡ true → position_or_len is_equals text < length text
any_within [] e = absurd cc
any_within (x ∷ xs) e = within_case (x == 61) (has_byte 61 xs) (position_or_len is_equals xs) (length xs) e (any_within xs)

past_case : (b rest : Bool) (n count : ℕ) → (b || rest) ≡ false → (rest ≡ false → n ≡ count) → cond (not b) (1 + n) 0 ≡ suc count
past_case true rest n count e f = absurd cc
past_case false rest n count e f = omega (arith, f e)

none_past : (text : Text) → has_byte 61 text ≡ false → position_or_len is_equals text ≡ length text
none_past [] e = refl
none_past (x ∷ xs) e = past_case (x == 61) (has_byte 61 xs) (position_or_len is_equals xs) (length xs) e (none_past xs)

cut_is : (text : Text) → has_byte 61 text ≡ true → text ≡ before_first is_equals text ++ 61 ∷ after_first is_equals text
cut_is text has =
    let within = any_within text has in
    let here : get_or text (position_or_len is_equals text) 0 ≡ 61 = eqb-true _ 61 (passes_at_first is_equals text 0 within) in
    split_at_first is_equals text 0 within
    ∙ ap (λ (b : ℕ). before_first is_equals text ++ b ∷ after_first is_equals text) here

whole_is : (text : Text) → has_byte 61 text ≡ false → text ≡ before_first is_equals text
whole_is text none = sym (ap (λ (n : ℕ). take n text) (none_past text none) ∙ take_all (length text) text (omega arith))

-- a name, and `=` and a value where there is one
abbrev pub IsCutAtEquals : Text → Text → Option Text → Type 0
IsCutAtEquals text name None = text ≡ name
IsCutAtEquals text name (Some value) = text ≡ name ++ 61 ∷ value

cut_of : (text name : Text) (value : Option Text) → name_and_value text ≡ (name, value) → IsCutAtEquals text name value
cut_of text name value e =
    let names : before_first is_equals text ≡ name = ap (λ (p : Text × Option Text). p.0) e in
    let values : cond (has_byte 61 text) (Some (after_first is_equals text)) None ≡ value = ap (λ (p : Text × Option Text). p.1) e in
    elim (cases_Bool (has_byte 61 text)) [
      | inl t ↦
          let found : Some (after_first is_equals text) ≡ value = sym (ap (λ (b : Bool). cond b (Some (after_first is_equals text)) None) t) ∙ values in
          subst (λ (o : Option Text). IsCutAtEquals text name o) found (cut_is text t ∙ ap (λ (n : Text). n ++ 61 ∷ after_first is_equals text) names)
      | inr f ↦
          let found : None ≡ value = sym (ap (λ (b : Bool). cond b (Some (after_first is_equals text)) None) f) ∙ values in
          subst (λ (o : Option Text). IsCutAtEquals text name o) found (whole_is text f ∙ names)
    ]

rest_is : (text name : Text) (value : Option Text) → long_of_rest text ≡ Some (name, value) → IsCutAtEquals text name value
rest_is [] name value e = absurd cc
rest_is (x ∷ xs) name value e =
    let pair : name_and_value (x ∷ xs) ≡ (name, value) = cc in
    cut_of (x ∷ xs) name value pair

-- two dashes and a name, and `=` and a value where there is one
abbrev pub IsLongFlag : Text → Text → Option Text → Type 0
IsLongFlag w name None = w ≡ 45 ∷ 45 ∷ name
IsLongFlag w name (Some value) = w ≡ 45 ∷ 45 ∷ (name ++ 61 ∷ value)

long_from_cut : (w rest name : Text) (value : Option Text) → w ≡ 45 ∷ 45 ∷ rest → IsCutAtEquals rest name value → IsLongFlag w name value
long_from_cut w rest name None e cut = e ∙ ap (λ (t : Text). 45 ∷ 45 ∷ t) cut
long_from_cut w rest name (Some value) e cut = e ∙ ap (λ (t : Text). 45 ∷ 45 ∷ t) cut

pub long_is : (w name : Text) (value : Option Text) → long_of w ≡ Some (name, value) → IsLongFlag w name value
long_is w name value e =
    let last = and_then_is long_of_rest (option_and_then (strip_byte 45) (strip_byte 45 w)) (name, value) e in
    let first = and_then_is (strip_byte 45) (strip_byte 45 w) last.0 last.1 in
    long_from_cut w last.0 name value (strip_is w first.0 first.1 ∙ ap (λ (t : Text). 45 ∷ t) (strip_is first.0 last.0 first.2)) (rest_is last.0 name value last.2)

-- ---- words that are no option

-- no word of an option, of letters or of two dashes
pub record IsNoFlag (w : Text) : Type 0 where
  pub long : long_of w ≡ None
  pub short : short_of w ≡ None
  pub other : bytes_eq w dashes ≡ false

-- a text that does not begin with a dash
pub plain_from : (c : ℕ) (cs : Text) → (c == 45) ≡ false → IsNoFlag (c ∷ cs)
plain_from c cs f = record { long = rw f refl; short = rw f refl; other = rw f refl }

-- as a number
pub plain_digits : (ds : Text) → 0 < length ds → AllDigits 10 ds → IsNoFlag ds
plain_digits [] some all = absurd (omega (arith, some))
plain_digits (c ∷ cs) some all =
    plain_from c cs (ne_eqb c 45 (λ e. omega (arith, e, (digit_at (c ∷ cs) 0 all some).0)))
