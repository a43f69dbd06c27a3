-- A text that is cut at a byte, as code cuts it.
use Rattle.std.proofs.Common.{◌≡◌, ◌==◌, Bor, ℕ, suc, ◌+◌, ◌-◌, ◌<◌, ◌≤◌, Bool, false, true, List, [], ◌∷◌, ◌++◌, length, get_or, take, drop, Option, Some, None, refl, sym, ap, ◌∙◌, subst, arith, inl, inr}
use Rattle.std.specs.Prelude.{MatchOption, IfSome}
use Rattle.std.specs.Bool.{MatchBool}
use Rattle.std.specs.List.{slice_split, onto_first, position_or_len, HoldsAt, AllWithin, AllByRecursion, All}
use Rattle.std.proofs.lemmas.Bool.{cases_Bool}
use Rattle.std.proofs.lemmas.List.{nil_from_length, length-append, length-map, length-take, take_all}
use Rattle.std.proofs.lemmas.List.Elements.{All-nil, All-cons, All-head, All-tail}
use Rattle.std.proofs.lemmas.List.Splits.{slice_split_first}
use Rattle.std.proofs.lemmas.List.Sums.{position_or_len_is}
use Rattle.memchr.specs.Find.{IsFirstByte, is_byte}
use Rattle.cb_script.specs.Cut.{texts}
use Rattle.cb_script.specs.Spelling.{without_empty_end, lines_of, words_of}

-- ---- the first of a value

split_whole : (p : ℕ → Bool) (xs : List ℕ) → length xs ≤ position_or_len p xs → slice_split p xs ≡ xs ∷ []
split_whole p [] past = refl
split_whole p (x ∷ xs) past =
    elim (cases_Bool (p x)) [
      | inl here ↦ let first : position_or_len p (x ∷ xs) ≡ 0 = rw here refl in absurd (omega (arith, past, first))
      | inr later ↦
          let more : position_or_len p (x ∷ xs) ≡ 1 + position_or_len p xs = rw later refl in
          let whole : slice_split p xs ≡ xs ∷ [] = split_whole p xs (omega (arith, past, more)) in
          rw (later, whole) refl
    ]

not_true : (b : Bool) → (b ≡ true → ⊥) → b ≡ false
not_true true other = absurd (other refl)
not_true false other = refl

-- what the place of the first such byte says of the split
pub place_cut : (separator : ℕ) (xs : List ℕ) (r : Option ℕ) → IsFirstByte (is_byte separator) xs r
    → MatchOption r (slice_split (λ b. b == separator) xs ≡ xs ∷ []) (λ i. slice_split (λ b. b == separator) xs ≡ take i xs ∷ slice_split (λ b. b == separator) (drop (i + 1) xs))
    × IfSome r (λ i. i < length xs)
place_cut separator xs None nowhere =
    let p : ℕ → Bool = λ b. b == separator in
    let at_end : position_or_len p xs ≡ length xs = position_or_len_is p xs (length xs) 0 (omega arith) (λ k l. not_true (p (get_or xs k 0)) (nowhere k (omega arith) l)) (λ l. absurd (omega arith)) in
    (split_whole p xs (omega (arith, at_end)), tt)
place_cut separator xs (Some i) (first, passes) =
    let p : ℕ → Bool = λ b. b == separator in
    let within : i < length xs = first.high in
    let at : position_or_len p xs ≡ i = position_or_len_is p xs i 0 (omega arith) (λ k l. not_true (p (get_or xs k 0)) (first.before k (omega arith) l)) (λ l. passes) in
    (subst (λ (n : ℕ). slice_split p xs ≡ take n xs ∷ slice_split p (drop (n + 1) xs)) at (slice_split_first p xs 0 (omega (arith, at))), within)

-- ---- the texts of lines

pub without_empty_end-more : (text next : List ℕ) (texts : List (List ℕ)) → without_empty_end (text ∷ next ∷ texts) ≡ text ∷ without_empty_end (next ∷ texts)
without_empty_end-more [] next texts = refl
without_empty_end-more (b ∷ text) next texts = refl

-- a split has a first part
pub record HasFirst (parts : List (List ℕ)) : Type 0 where
  pub first : List ℕ
  pub others : List (List ℕ)
  pub is : parts ≡ first ∷ others

onto_has : (b : ℕ) (parts : List (List ℕ)) → HasFirst (onto_first b parts)
onto_has b [] = record { first = b ∷ []; others = []; is = refl }
onto_has b (part ∷ parts) = record { first = b ∷ part; others = parts; is = refl }

pub split_has : (p : ℕ → Bool) (xs : List ℕ) → HasFirst (slice_split p xs)
split_has p [] = record { first = []; others = []; is = refl }
split_has p (x ∷ xs) =
    elim (cases_Bool (p x)) [
      | inl here ↦ rw here (record { first = []; others = slice_split p xs; is = refl })
      | inr later ↦ rw later (onto_has x (slice_split p xs))
    ]

pub line_then : (text line rest : List ℕ) → slice_split (λ b. b == 10) text ≡ line ∷ slice_split (λ b. b == 10) rest → lines_of text ≡ line ∷ lines_of rest
line_then text line rest cut =
    let has = split_has (λ b. b == 10) rest in
    ap without_empty_end (cut ∙ ap (λ (parts : List (List ℕ)). line ∷ parts) has.is) ∙ without_empty_end-more line has.first has.others
    ∙ ap (λ (parts : List (List ℕ)). line ∷ without_empty_end parts) (sym has.is)

pub line_last : (text : List ℕ) → 0 < length text → slice_split (λ b. b == 10) text ≡ text ∷ [] → lines_of text ≡ text ∷ []
line_last [] some cut = absurd (omega arith)
line_last (b ∷ text) some cut = ap without_empty_end cut

nothing_behind : (text : List ℕ) → take (length text - length text) (drop (length text) text) ≡ []
nothing_behind text = nil_from_length (take (length text - length text) (drop (length text) text)) (omega (arith, length-take (length text - length text) (drop (length text) text)))

-- the last line, and the empty text behind it
pub last_line : (text : List ℕ) → 0 < length text → slice_split (λ b. b == 10) text ≡ text ∷ []
    → (lines_of text ≡ text ∷ lines_of (take (length text - length text) (drop (length text) text))) × (length (take (length text - length text) (drop (length text) text)) < length text)
last_line text some cut =
    let nothing = nothing_behind text in
    (line_last text some cut ∙ ap (λ (rest : List ℕ). text ∷ lines_of rest) (sym nothing), omega (arith, some, ap length nothing))

-- ---- the words of a line

pub too_many : (all : List (List ℕ)) (words : List (Bor (List ℕ))) (i : ℕ) (rest : List ℕ) → length words ≤ i → all ≡ texts (take i words) ++ words_of rest → length words < length all
too_many all words i rest past e =
    let has = split_has (λ b. b == 32) rest in
    let counts = ap length e ∙ length-append (texts (take i words)) (words_of rest) in
    let more : length (words_of rest) ≡ suc (length has.others) = ap length has.is in
    let front : length (texts (take i words)) ≡ length (take i words) = length-map (take i words) (λ (word : Bor (List ℕ)). word.now) in
    let taken : take i words ≡ words = take_all i words past in
    omega (arith, counts, more, front, ap length taken)

full_texts : (words : List (Bor (List ℕ))) → All (λ (word : Bor (List ℕ)). 0 < length word.now) words → AllByRecursion (λ word. 0 < length word) (texts words)
full_texts [] all = tt
full_texts (word ∷ words) all = (All-head (λ (w : Bor (List ℕ)). 0 < length w.now) word words all, full_texts words (All-tail (λ (w : Bor (List ℕ)). 0 < length w.now) word words all))

texts_full : (words : List (Bor (List ℕ))) → AllByRecursion (λ word. 0 < length word) (texts words) → All (λ (word : Bor (List ℕ)). 0 < length word.now) words
texts_full [] all = All-nil (λ (w : Bor (List ℕ)). 0 < length w.now)
texts_full (word ∷ words) all = All-cons (λ (w : Bor (List ℕ)). 0 < length w.now) word words all.0 (texts_full words all.1)

-- what a search for an empty word says
pub empties : (r : Bool) (words : List (Bor (List ℕ)))
    → MatchBool r ((k : ℕ) × (k < length words) × HoldsAt (λ (w : Bor (List ℕ)). length w.now ≡ 0) words k) (AllWithin (λ (w : Bor (List ℕ)). 0 < length w.now) words 0 (length words))
    → MatchBool r (AllByRecursion (λ word. 0 < length word) (texts words) → ⊥) (AllByRecursion (λ word. 0 < length word) (texts words))
empties true words some = λ full.
    let nothing : Bor (List ℕ) = record { ref_ptr = (0, 0); now = [] } in
    omega (arith, texts_full words full some.0 nothing some.1, some.2 nothing)
empties false words none = full_texts words (λ k d within. none k d (omega arith) within)
