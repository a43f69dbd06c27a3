-- One line more, in the script and beside it.
use Rattle.std.proofs.Common.{◌≡◌, ℕ, zero, suc, ◌+◌, ◌≤◌, ◌==◌, Bool, true, false, cond, List, [], ◌∷◌, ◌++◌, length, get_or, refl, sym, ap, ◌∙◌, arith, length-append, OnOk, Ok, Err, Result}
use Rattle.std.proofs.lemmas.List.Concat.{flat_map-cons}
use Rattle.cb_types.specs.declared.request.Request.{Request}
use Rattle.cb_types.specs.declared.request.Request.TheVariants.{Make}
use Rattle.cb_script.specs.declared.script.Line.{Line}
use Rattle.cb_gen.specs.Draws.{drawn, state_after}
use Rattle.cb_gen.specs.Drawn.{DrawnLines, drawn_action, drawn_lines, length_made, lengths_of, with_line}
use Rattle.cb_gen.specs.Noted.{AreLengthsNoted}
use Rattle.cb_gen.proofs.Grammar.{lengths_more}

-- what two clauses of a call say on success, together
pub both_ok : {T E P Q R : Type 0} (r : Result T E) → (P → Q → R) → OnOk r P → OnOk r Q → OnOk r R
both_ok (Ok x) together p q = together p q
both_ok (Err e) together p q = tt

-- one lane more that made nothing
pub blank_more : (lists : List (List ℕ)) → ((lane : ℕ) → get_or lists lane [] ≡ [])
    → (lane : ℕ) → get_or (lists ++ [] ∷ []) lane [] ≡ []
blank_more [] blank zero = refl
blank_more [] blank (suc lane) = refl
blank_more (first ∷ lists) blank zero = blank zero
blank_more (first ∷ lists) blank (suc lane) = blank_more lists (λ n. blank (suc n)) lane

one_at_most : (b : Bool) (r : Request) → length (cond b (length_made r) []) ≤ 1
one_at_most false r = omega arith
one_at_most true (Make name bytes) = omega arith
one_at_most true _ = omega arith

-- a lane makes no more than there are lines
pub lengths_few : (lines : List Line) (lane : ℕ) → length (lengths_of lines lane) ≤ length lines
lengths_few [] lane = omega arith
lengths_few (l ∷ lines) lane =
    let here = cond (l.lane.n == lane) (length_made l.request) [] in
    let whole : length (lengths_of (l ∷ lines) lane) ≡ length here + length (lengths_of lines lane) =
    ap length (flat_map-cons
    (λ (m : Line). cond (m.lane.n == lane) (length_made m.request) []) l lines)
    ∙ length-append here (lengths_of lines lane) in
    omega (arith, whole, one_at_most (l.lane.n == lane) l.request, lengths_few lines lane)

-- a line that is added to others
abbrev pub line_behind : List Line → ℕ → Request → Line
line_behind lines lane r =
    record { lane = record { n = lane }; line = length lines + 2; request = r }

pub line_added : (lanes x lane action s y : ℕ) (lengths : List ℕ) (r : Request)
    (lines more : List Line)
    → lane ≡ 1 + drawn x 0 lanes → action ≡ drawn x 1 16 → s ≡ state_after x 2
    → lengths ≡ lengths_of lines lane
    → r ≡ (drawn_action action s lane lengths).request
    → y ≡ (drawn_action action s lane lengths).left
    → more ≡ lines ++ line_behind lines lane r ∷ []
    → record { lines = more; left = y } ≡ with_line lanes (record { lines = lines; left = x })
line_added lanes x lane action s y lengths r lines more lane_is action_is s_is lengths_are r_is
    y_is pushed =
    (λ i. record { lines = pushed i; left = y_is i })
    ∙ (λ i. record { lines = lines ++ line_behind lines lane (r_is i) ∷ []; left = (drawn_action action s lane lengths).left })
    ∙ (λ i. record { lines = lines ++ line_behind lines lane (drawn_action action s lane (lengths_are i)).request ∷ []; left = (drawn_action action s lane (lengths_are i)).left })
    ∙ (λ i. record { lines = lines ++ line_behind lines (lane_is i) (drawn_action (action_is i) (s_is i) (lane_is i) (lengths_of lines (lane_is i))).request ∷ []; left = (drawn_action (action_is i) (s_is i) (lane_is i) (lengths_of lines (lane_is i))).left })

pub noted_more : (old new : List (List ℕ)) (lines more : List Line) (l : Line)
    → AreLengthsNoted old lines → length new ≡ length old
    → ((other : ℕ) → get_or new other [] ≡ get_or old other [] ++ cond (l.lane.n == other)
    (length_made l.request) []) → more ≡ lines ++ l ∷ [] → AreLengthsNoted new more
noted_more old new lines more l are places noted pushed = record {
  places = places ∙ are.places;
  noted = λ other.
      noted other ∙ ap (λ (ls : List ℕ). ls ++ cond (l.lane.n == other)
      (length_made l.request) []) (are.noted other)
      ∙ sym (lengths_more lines l other)
      ∙ ap (λ (ls : List Line). lengths_of ls other) (sym pushed);
}

pub lines_more : (seed lanes i x y : ℕ) (lines more : List Line)
    → record { lines = lines; left = x } ≡ drawn_lines seed lanes i
    → record { lines = more; left = y } ≡ with_line lanes (record { lines = lines; left = x })
    → record { lines = more; left = y } ≡ drawn_lines seed lanes (i + 1)
lines_more seed lanes i x y lines more so_far added =
    let one : suc i ≡ i + 1 = omega arith in
    added ∙ ap (with_line lanes) so_far ∙ ap (drawn_lines seed lanes) one

pub count_more : (lanes x y i : ℕ) (lines more : List Line)
    → record { lines = more; left = y } ≡ with_line lanes (record { lines = lines; left = x })
    → length lines ≡ i → length more ≡ i + 1
count_more lanes x y i lines more added count =
    ap (λ (d : DrawnLines). length d.lines) added ∙ length-append lines _
    ∙ ap (λ (n : ℕ). n + 1) count
