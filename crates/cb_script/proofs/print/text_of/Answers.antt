use Rattle.std.proofs.Common.{◌≡◌, ℕ, zero, suc, ◌+◌, ◌<◌, List, [], ◌∷◌, ◌++◌, length, map, take, get_or, refl, sym, ap, ◌∙◌, arith, append_assoc, append-nil, add-one, subst, ◌≤◌}
use Rattle.std.specs.List.{flat_map}
use Rattle.std.proofs.lemmas.Result.{IfOk-from_err}
use Rattle.cb_script.specs.declared.script.Line.{Line}
use Rattle.cb_script.specs.Spelling.{header_line, script_line}
use Rattle.cb_script.proofs.print.text_of.Goals as goal

-- texts with a line feed behind each
abbrev fed : {X : Type 0} → (X → List ℕ) → List X → List ℕ
fed text xs = flat_map (λ (line : List ℕ). line ++ 10 ∷ []) (map text xs)

-- one more text
one_more : {X : Type 0} (text : X → List ℕ) (xs : List X) (i : ℕ) (x : X) → i < length xs
    → x ≡ get_or xs i x → fed text (take (suc i) xs) ≡ fed text (take i xs) ++ (text x ++ 10 ∷ [])
one_more text [] i x below e = absurd (omega arith)
one_more text (y ∷ ys) zero x below e =
    append-nil (text y ++ 10 ∷ []) ∙ ap (λ z. text z ++ 10 ∷ []) (sym e)
one_more text (y ∷ ys) (suc i) x below e =
    ap (λ (t : List ℕ). (text y ++ 10 ∷ []) ++ t) (one_more text ys i x (omega arith) e)
    ∙ sym (append_assoc (text y ++ 10 ∷ []) _ _)

-- a list up to its end
whole : {X : Type 0} (xs : List X) (i : ℕ) → length xs ≤ i → take i xs ≡ xs
whole [] zero end = refl
whole [] (suc i) end = refl
whole (x ∷ xs) zero end = absurd (omega arith)
whole (x ∷ xs) (suc i) end = ap (λ ys. x ∷ ys) (whole xs i (omega arith))

line_pushed : (head text new : List ℕ) (found lines : List Line) (i : ℕ) (line : Line)
    → found ≡ lines → i < length found → line ≡ get_or found i line
    → text ≡ head ++ fed script_line (take i lines) → new ≡ text ++ (script_line line ++ 10 ∷ [])
    → new ≡ head ++ fed script_line (take (i + 1) lines)
line_pushed head text new found lines i line same below at before after =
    after ∙ ap (λ (t : List ℕ). t ++ (script_line line ++ 10 ∷ [])) before
    ∙ append_assoc head _ _
    ∙ ap (λ (t : List ℕ). head ++ t) (sym (one_more script_line lines i line
    (subst (λ (ls : List Line). i < length ls) same below)
    (subst (λ (ls : List Line). line ≡ get_or ls i line) same at)))
    ∙ ap (λ (n : ℕ). head ++ fed script_line (take n lines)) (sym (add-one i))

all_pushed : (head text : List ℕ) (found lines : List Line) (i : ℕ) → found ≡ lines
    → length found ≤ i → text ≡ head ++ fed script_line (take i lines)
    → text ≡ head ++ fed script_line lines
all_pushed head text found lines i same end is =
    is ∙ ap (λ (ls : List Line). head ++ fed script_line ls)
    (whole lines i (subst (λ (ls : List Line). length ls ≤ i) same end))

pub returns-in_err-push_header : goal.returns-in_err-push_header
returns-in_err-push_header c = IfOk-from_err c.from_residual.result _ c.from_residual.ensures.0

pub loop-line-init : goal.loop-line-init
loop-line-init c =
    c.in_ok-push_header.ensures
    ∙ ap (λ (t : List ℕ). t ++ (header_line c.args.script.now.config ++ 10 ∷ []))
    c.new-text.ensures.items
    ∙ sym (append-nil _)

pub returns-in_err-push_line : goal.returns-in_err-push_line
returns-in_err-push_line c =
    IfOk-from_err c.from_residual-in_err-push_line.result _
    c.from_residual-in_err-push_line.ensures.0

pub loop-line-preserved : goal.loop-line-preserved
loop-line-preserved c =
    line_pushed (header_line c.args.script.now.config ++ 10 ∷ []) c.loop-line.text.items
    c.push_line.new.text.items c.as_slice-line-items.result.now c.args.script.now.lines
    c.loop-line.line-index c.line-item.result c.as_slice-line-items.ensures.items
    c.loop-line-test.true c.line-item.is c.loop-line.invariant c.in_ok-push_line.ensures

pub returns : goal.returns
returns c =
    c.from.ensures
    ∙ all_pushed (header_line c.args.script.now.config ++ 10 ∷ []) c.loop-line.text.items
    c.as_slice-line-items.result.now c.args.script.now.lines c.loop-line.line-index
    c.as_slice-line-items.ensures.items c.loop-line-test.false c.loop-line.invariant
