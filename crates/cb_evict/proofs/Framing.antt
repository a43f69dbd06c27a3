-- The frames whose spans may leave are gathered one after another.
use Rattle.std.proofs.Common.{◌≡◌, ℕ, zero, suc, ◌+◌, ◌*◌, ◌<◌, ◌≤◌, Bool, true, false, cond, ◌&&◌, not, List, [], ◌∷◌, ◌++◌, length, refl, sym, ap, ◌∙◌, subst, arith, Option}
use Rattle.std.specs.List.{filter, range_with_len}
use Rattle.std.proofs.lemmas.List.{append-nil, append_assoc, length-append}
use Rattle.std.proofs.lemmas.List.FromFn.{length-range_with_len}
use Rattle.std.proofs.lemmas.List.Elements.{filter-append}
use Rattle.cb_span.specs.Contents.{Contents}
use Rattle.cb_span.specs.declared.temp.Temp.{Temp}
use Rattle.cb_span.specs.declared.temp.Temp.TheVariants.{Hot, Cold}
use Rattle.cb_world.specs.FarState.{FarState, span_in}
use Rattle.cb_world.specs.Placed.{leaving_frames}
use Rattle.cb_world.proofs.Laws.{range_more}
use Rattle.cb_evict.specs.Candidates.{AreFlags, candidates, candidates_of, frames_with, has_temp, may_leave, may_leave_by}

-- one number more
pub filter_more : (p : ℕ → Bool) (n : ℕ) → filter p (range_with_len 0 (n + 1))
    ≡ filter p (range_with_len 0 n) ++ cond (p n) (n ∷ []) []
filter_more p n =
    let zero : 0 + n ≡ n = omega arith in
    ap (λ (xs : List ℕ). filter p xs) (range_more 0 n)
    ∙ ap (λ (k : ℕ). filter p (range_with_len 0 n ++ k ∷ [])) zero
    ∙ filter-append p (range_with_len 0 n) (n ∷ [])

pub frame_added : (p : ℕ → Bool) (before now new : List ℕ) (n : ℕ)
    → now ≡ before ++ filter p (range_with_len 0 n) → new ≡ now ++ n ∷ [] → p n ≡ true
    → new ≡ before ++ filter p (range_with_len 0 (n + 1))
frame_added p before now new n a b e = b ∙ ap (λ (xs : List ℕ). xs ++ n ∷ []) a
    ∙ append_assoc before (filter p (range_with_len 0 n)) (n ∷ [])
    ∙ ap (λ (t : Bool). before ++ (filter p (range_with_len 0 n) ++ cond t (n ∷ []) [])) (sym e)
    ∙ ap (λ (xs : List ℕ). before ++ xs) (sym (filter_more p n))

pub frame_passed : (p : ℕ → Bool) (before now : List ℕ) (n : ℕ)
    → now ≡ before ++ filter p (range_with_len 0 n) → p n ≡ false
    → now ≡ before ++ filter p (range_with_len 0 (n + 1))
frame_passed p before now n a e = a
    ∙ ap (λ (xs : List ℕ). before ++ xs) (sym (append-nil (filter p (range_with_len 0 n))))
    ∙ ap (λ (t : Bool). before ++ (filter p (range_with_len 0 n) ++ cond t (n ∷ []) [])) (sym e)
    ∙ ap (λ (xs : List ℕ). before ++ xs) (sym (filter_more p n))

-- ---- flags of frames
-- two tests that agree below a number find the same numbers there
pub filter_agree : (p q : ℕ → Bool) (n : ℕ) → ((f : ℕ) → f < n → p f ≡ q f)
    → filter p (range_with_len 0 n) ≡ filter q (range_with_len 0 n)
filter_agree p q zero e = refl
filter_agree p q (suc n) e =
    let one : suc n ≡ n + 1 = omega arith in
    let rest = filter_agree p q n (λ f below. e f (omega (arith, below))) in
    ap (λ (k : ℕ). filter p (range_with_len 0 k)) one ∙ filter_more p n
    ∙ (λ i. rest i ++ cond (e n (omega arith) i) (n ∷ []) [])
    ∙ sym (ap (λ (k : ℕ). filter q (range_with_len 0 k)) one ∙ filter_more q n)

-- the frames that may leave are found by flags of those that are leaving
pub found_by_flags : (spans : List (Option Contents)) (leaving : List ℕ) (flags : List Bool)
    (temp : Temp) → AreFlags leaving (length spans) flags
    → filter (may_leave_by spans flags temp) (range_with_len 0 (length spans))
    ≡ frames_with spans leaving temp
found_by_flags spans leaving flags temp a =
    filter_agree (may_leave_by spans flags temp) (may_leave spans leaving temp) (length spans)
    (λ f below. ap (λ (b : Bool). has_temp temp (span_in spans f) && not b) (a.each f below))

pub gathered : (spans : List (Option Contents)) (leaving frames : List ℕ) (n : ℕ)
    (flags a b : List Bool) (new one two : List ℕ) → n ≡ length spans → frames ≡ leaving
    → AreFlags frames n flags → a ≡ flags → b ≡ flags → new ≡ []
    → one ≡ new ++ filter (may_leave_by spans a Cold) (range_with_len 0 (length spans))
    → two ≡ one ++ filter (may_leave_by spans b Hot) (range_with_len 0 (length spans))
    → two ≡ candidates_of spans leaving
gathered spans leaving frames n flags a b new one two count is f ea eb none e g =
    let given = subst (λ (l : List ℕ). AreFlags l (length spans) flags) is
    (subst (λ (k : ℕ). AreFlags frames k flags) count f) in
    let cold = ap (λ (l : List Bool). filter (may_leave_by spans l Cold) (range_with_len 0 (length spans))) ea
    ∙ found_by_flags spans leaving flags Cold given in
    let hot = ap (λ (l : List Bool). filter (may_leave_by spans l Hot) (range_with_len 0 (length spans))) eb
    ∙ found_by_flags spans leaving flags Hot given in
    g ∙ ap (λ (xs : List ℕ). xs ++ filter (may_leave_by spans b Hot) (range_with_len 0 (length spans))) e
    ∙ ap (λ (xs : List ℕ). (xs ++ filter (may_leave_by spans a Cold) (range_with_len 0 (length spans)))
    ++ filter (may_leave_by spans b Hot) (range_with_len 0 (length spans))) none
    ∙ (λ i. cold i ++ hot i)

-- ---- they are few
filter_few : (p : ℕ → Bool) (xs : List ℕ) → length (filter p xs) ≤ length xs
filter_few p [] = omega arith
filter_few p (x ∷ xs) = let rest = filter_few p xs in by (p x) rest
  where
    by : (b : Bool) → length (filter p xs) ≤ length xs
        → length (cond b (x ∷ filter p xs) (filter p xs)) ≤ suc (length xs)
    by true rest = omega (arith, rest)
    by false rest = omega (arith, rest)

pub candidates_few : (far : FarState) → length (candidates far) ≤ 2 * length far.spans
candidates_few far =
    let n = length far.spans in let leaving = leaving_frames far.leaving in
    let a = filter_few (may_leave far.spans leaving Cold) (range_with_len 0 n) in
    let b = filter_few (may_leave far.spans leaving Hot) (range_with_len 0 n) in
    let c = length-range_with_len 0 n in
    let d = length-append (frames_with far.spans leaving Cold) (frames_with far.spans leaving Hot) in
    omega (arith, a, b, c, d)
