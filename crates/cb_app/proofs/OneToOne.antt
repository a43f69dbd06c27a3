-- Names and handles of legal answers to the lines of a script are one to one.
use Rattle.std.proofs.Common.{◌≡◌, ℕ, zero, suc, ◌+◌, ◌≤◌, Bool, true, false, cond, if◌then◌else◌, List, [], ◌∷◌, ◌++◌, map, Option, Some, None, ◌⊎◌, inl, inr, refl, sym, ap, ◌∙◌, subst, append_assoc, arith}
use Rattle.std.specs.Prelude.{nat_eq, nat_le}
use Rattle.std.specs.Str.{bytes_eq}
use Rattle.std.proofs.lemmas.Bool.{cases_Bool}
use Rattle.std.proofs.lemmas.List.{append-nil}
use Rattle.std.proofs.lemmas.List.Elements.{filter-append}
use Rattle.std.proofs.lemmas.Slice.Eq.{bytes_eq-Decides}
use Rattle.cb_types.specs.declared.answer.Answer.{Answer}
use Rattle.cb_types.specs.declared.request.Request.{Request}
use Rattle.cb_types.specs.declared.request.Request.TheVariants.{Make}
use Rattle.cb_types.specs.declared.reply.Reply.{Reply}
use Rattle.cb_types.specs.declared.reply.Reply.TheVariants.{Made}
use Rattle.cb_script.specs.declared.script.Line.{Line}
use Rattle.cb_script.specs.Form.{AreLines, IsNameMade, IsNameNew, MakesName}
use Rattle.cb_model.specs.Called.{calls_behind, calls_of, change_to, called, changes_to, handle_for, handle_made, history}
use Rattle.cb_model.specs.Event.{event_of}
use Rattle.cb_model.specs.History.{GoesOn, IsHistory, by_version, placed}
use Rattle.cb_model.specs.Legal.{IsLegal}
use Rattle.cb_model.specs.Now.{Change}
use Rattle.cb_model.specs.Now.Change.{Create, Overwrite, Remove}
use Rattle.cb_lanes.specs.Asked.{asked}
use Rattle.cb_lanes.specs.Scoped.{AreOneToOne, IsMadeAs}
use Rattle.cb_app.specs.ByLane.{by_lane, lanes_up_to, of_lane}
use Rattle.cb_app.proofs.Lanes.{lanes_made, made_in_both, new_name, of_lane_made, one_maker}
use Rattle.cb_lanes.proofs.Laws.{made_in_front}

-- ---- how many makes gave a handle
abbrev made_one : ℕ → Request → Reply → ℕ
made_one h (Make name bytes) (Made handle version) = cond (nat_eq h handle.n) 1 0
made_one h request reply = 0

abbrev made_on : ℕ → List Answer → ℕ
made_on h [] = 0
made_on h (a ∷ later) = made_one h a.request a.reply + made_on h later

-- one answer makes the name, and gives the handle
record IsMaking (name : List ℕ) (h : ℕ) (q : Request) (r : Reply) : Type 0 where
  makes : MakesName q name
  one : made_one h q r ≡ 1

same_number : (h n : ℕ) → ◌≡◌ {A = Option ℕ} (Some n) (Some h)
    → ◌≡◌ {A = ℕ} (cond (nat_eq h n) 1 0) 1
same_number h n is = let e : n ≡ h = cc in grind (arith, e)

making : (name : List ℕ) (h : ℕ) (q : Request) (r : Reply) → handle_made name q r ≡ Some h
    → IsMaking name h q r
making name h (Make made bytes) (Made handle version) is = by (cases_Bool (bytes_eq made name))
  where
    by : (bytes_eq made name ≡ true) ⊎ (bytes_eq made name ≡ false)
        → IsMaking name h (Make made bytes) (Made handle version)
    by (inl same) = record {
      makes = (bytes_eq-Decides made name).0 same;
      one = same_number h handle.n
          (sym (ap (λ (b : Bool). if b then Some handle.n else None) same) ∙ is);
    }
    by (inr other) = absurd (
        let e : None ≡ Some h = sym (ap (λ (b : Bool). if b then Some handle.n else None) other) ∙ is in cc)
making name h q r is = absurd cc

one_name : (q : Request) (x y : List ℕ) → MakesName q x → MakesName q y → x ≡ y
one_name (Make made bytes) x y p q = sym p ∙ q
one_name r x y p q = absurd p

some_made : (answers : List Answer) (name : List ℕ) (h : ℕ) → IsMadeAs answers name h
    → 1 ≤ made_on h answers
some_made [] name h made = absurd made
some_made (a ∷ later) name h (inl here) =
    let one = (making name h a.request a.reply here).one in omega (arith, one)
some_made (a ∷ later) name h (inr more) =
    let some = some_made later name h more in omega (arith, some)

two_made : (answers : List Answer) (x y : List ℕ) (h : ℕ) → (x ≡ y → ⊥) → IsMadeAs answers x h
    → IsMadeAs answers y h → 2 ≤ made_on h answers
two_made [] x y h other p q = absurd p
two_made (a ∷ later) x y h other (inl p) (inl q) = absurd (other (one_name a.request x y
    (making x h a.request a.reply p).makes (making y h a.request a.reply q).makes))
two_made (a ∷ later) x y h other (inl p) (inr q) =
    let one = (making x h a.request a.reply p).one in
    let some = some_made later y h q in omega (arith, one, some)
two_made (a ∷ later) x y h other (inr p) (inl q) =
    let one = (making y h a.request a.reply q).one in
    let some = some_made later x h p in omega (arith, one, some)
two_made (a ∷ later) x y h other (inr p) (inr q) =
    let two = two_made later x y h other p q in omega (arith, two)

-- ---- a history has one make at the most
abbrev one_create : Change → ℕ
one_create (Create bytes) = 1
one_create change = 0

abbrev creates : List (ℕ × Change) → ℕ
creates [] = 0
creates (c ∷ cs) = one_create c.1 + creates cs

creates_placed : (c : ℕ × Change) (ds : List (ℕ × Change))
    → creates (placed c ds) ≡ one_create c.1 + creates ds
creates_placed c [] = refl
creates_placed c (d ∷ ds) = by (nat_le c.0 d.0) (creates_placed c ds)
  where
    by : (b : Bool) → creates (placed c ds) ≡ one_create c.1 + creates ds
        → creates (if b then c ∷ d ∷ ds else d ∷ placed c ds)
        ≡ one_create c.1 + (one_create d.1 + creates ds)
    by true more = refl
    by false more = omega (arith, more)

creates_sorted : (cs : List (ℕ × Change)) → creates (by_version cs) ≡ creates cs
creates_sorted [] = refl
creates_sorted (c ∷ cs) =
    creates_placed c (by_version cs) ∙ ap (λ (n : ℕ). one_create c.1 + n) (creates_sorted cs)

creates_both : (xs ys : List (ℕ × Change)) → creates (xs ++ ys) ≡ creates xs + creates ys
creates_both [] ys = omega arith
creates_both (x ∷ xs) ys = let more = creates_both xs ys in omega (arith, more)

none_later : (next len : ℕ) (cs : List (ℕ × Change)) → GoesOn next len cs → creates cs ≡ 0
none_later next len [] on = refl
none_later next len ((version, Create bytes) ∷ later) on = absurd on
none_later next len ((version, Overwrite at bytes) ∷ later) on =
    let none = none_later (next + 1) len later on.2 in omega (arith, none)
none_later next len ((version, Remove) ∷ later) on =
    let none : creates later ≡ 0 = ap creates on.1 in omega (arith, none)

one_at_most : (first : ℕ) (cs : List (ℕ × Change)) → IsHistory first cs → creates cs ≤ 1
one_at_most first [] is = omega arith
one_at_most first ((version, Create bytes) ∷ later) is =
    let none = none_later (first + 1) _ later is.1 in omega (arith, none)
one_at_most first ((version, Overwrite at bytes) ∷ later) is = absurd is
one_at_most first ((version, Remove) ∷ later) is = absurd is

-- each make is one
one_created : (h lane : ℕ) (before : List Answer) (q : Request) (r : Reply) → made_one h q r
    ≤ creates (change_to h (record { lane = lane; handle = handle_for before q r; event = event_of q r }))
one_created h lane before (Make name bytes) (Made handle version) = by (nat_eq h handle.n)
  where
    by : (b : Bool) → cond b 1 0 ≤ creates (if b then (version, Create bytes) ∷ [] else [])
    by true = omega arith
    by false = omega arith
one_created h lane before q r = omega arith

all_created : (h : ℕ) (before answers : List Answer)
    → made_on h answers ≤ creates (changes_to h (calls_behind before answers))
all_created h before [] = omega arith
all_created h before (a ∷ after) =
    let here = one_created h a.lane.n before a.request a.reply in
    let later = all_created h (before ++ a ∷ []) after in
    let both = creates_both (change_to h (called before a))
    (changes_to h (calls_behind (before ++ a ∷ []) after)) in omega (arith, here, later, both)

handle_has_one_name : (first handles : ℕ) (answers : List Answer) → IsLegal first handles answers
    → (x y : List ℕ) (h : ℕ) → IsMadeAs answers x h → IsMadeAs answers y h → x ≡ y
handle_has_one_name first handles answers legal x y h p q = by (cases_Bool (bytes_eq x y))
  where
    two : (x ≡ y → ⊥) → ⊥
    two other =
        let made = two_made answers x y h other p q in
        let all = all_created h [] answers in
        let sorted = creates_sorted (changes_to h (calls_of answers)) in
        let most = one_at_most first (history (calls_of answers) h) (legal.histories h) in
        omega (arith, made, all, sorted, most)

    by : (bytes_eq x y ≡ true) ⊎ (bytes_eq x y ≡ false) → x ≡ y
    by (inl same) = (bytes_eq-Decides x y).0 same
    by (inr other) = absurd (two (λ same.
        let e : true ≡ false = sym ((bytes_eq-Decides x y).1 same) ∙ other in cc))

-- ---- each name is made on one line
abbrev MadeOnce : List Line → List Line → Type 0
MadeOnce before [] = Unit {0}
MadeOnce before (l ∷ after) =
    ((name : List ℕ) → MakesName l.request name → IsNameNew before name)
    × MadeOnce (before ++ l ∷ []) after

-- no lane makes a name on the one lines and on the other
abbrev AreOfTwo : List Line → List Line → Type 0
AreOfTwo before after = (m n : ℕ) (name : List ℕ) → IsNameMade before m name
    → IsNameMade after n name → ⊥

not_again : (before after : List Line) → MadeOnce before after → AreOfTwo before after
not_again before [] once m n name made again = absurd again
not_again before (l ∷ after) once m n name made (inl here) = once.0 name here.1 m made
not_again before (l ∷ after) once m n name made (inr later) = not_again (before ++ l ∷ []) after once.1
    m n name (made_in_front before (l ∷ []) m name made) later

once_behind : (before front after : List Line) → MadeOnce front after → AreOfTwo before after
    → MadeOnce (before ++ front) after
once_behind before front [] once two = tt
once_behind before front (l ∷ after) once two = (
  λ name makes m made. by name makes m (made_in_both before front m name made),
  subst (λ (ls : List Line). MadeOnce ls after) (sym (append_assoc before front (l ∷ [])))
      (once_behind before (front ++ l ∷ []) after once.1
      (λ m n name made again. two m n name made (inr again))),
)
  where
    by : (name : List ℕ) → MakesName l.request name → (m : ℕ) → IsNameMade before m name ⊎ IsNameMade front m name
        → ⊥
    by name makes m (inl made) = two m l.lane.n name made (inl (refl, makes))
    by name makes m (inr made) = once.0 name makes m made

once_both : (before xs ys : List Line) → MadeOnce before xs → MadeOnce (before ++ xs) ys
    → MadeOnce before (xs ++ ys)
once_both before [] ys front back =
    subst (λ (ls : List Line). MadeOnce ls ys) (append-nil before) back
once_both before (x ∷ xs) ys front back = (
  front.0,
  once_both (before ++ x ∷ []) xs ys front.1
      (subst (λ (ls : List Line). MadeOnce ls ys) (sym (append_assoc before (x ∷ []) xs)) back),
)

-- so of the lines of one lane
lane_once : (nodes n : ℕ) (before after : List Line) → AreLines nodes before after
    → MadeOnce (of_lane n before) (of_lane n after)
lane_once nodes n before [] are = tt
lane_once nodes n before (l ∷ after) are =
    by (cases_Bool (nat_eq l.lane.n n)) (lane_once nodes n (before ++ l ∷ []) after are.1)
  where
    push : (b : Bool) → nat_eq l.lane.n n ≡ b
        → of_lane n (before ++ l ∷ []) ≡ of_lane n before ++ cond b (l ∷ []) []
    push b is = filter-append (λ (x : Line). nat_eq x.lane.n n) before (l ∷ [])
        ∙ ap (λ (t : Bool). of_lane n before ++ cond t (l ∷ []) []) is

    by : (nat_eq l.lane.n n ≡ true) ⊎ (nat_eq l.lane.n n ≡ false)
        → MadeOnce (of_lane n (before ++ l ∷ [])) (of_lane n after)
        → MadeOnce (of_lane n before) (of_lane n (l ∷ after))
    by (inl same) later =
        subst (λ (b : Bool). MadeOnce (of_lane n before) (cond b (l ∷ of_lane n after) (of_lane n after)))
        (sym same) (
          λ name makes m made. new_name before l.lane.n l.request name are.0.known makes m
              (of_lane_made n before m name made).0,
          subst (λ (ls : List Line). MadeOnce ls (of_lane n after)) (push true same) later,
        )
    by (inr other) later =
        subst (λ (b : Bool). MadeOnce (of_lane n before) (cond b (l ∷ of_lane n after) (of_lane n after)))
        (sym other) (subst (λ (ls : List Line). MadeOnce ls (of_lane n after))
        (push false other ∙ append-nil (of_lane n before)) later)

-- and of all of them, lane by lane
lanes_once : (nodes n : ℕ) (lines : List Line) → AreLines nodes [] lines
    → MadeOnce [] (of_lane 0 lines ++ lanes_up_to n lines)
lanes_once nodes zero lines are =
    subst (MadeOnce []) (sym (append-nil (of_lane 0 lines))) (lane_once nodes 0 [] lines are)
lanes_once nodes (suc n) lines are =
    subst (MadeOnce []) (append_assoc (of_lane 0 lines) (lanes_up_to n lines) (of_lane (suc n) lines))
    (once_both [] front (of_lane (suc n) lines) (lanes_once nodes n lines are)
    (subst (λ (ls : List Line). MadeOnce ls (of_lane (suc n) lines)) (append-nil front)
    (once_behind front [] (of_lane (suc n) lines) (lane_once nodes (suc n) [] lines are) two)))
  where
    front : List Line
    front = of_lane 0 lines ++ lanes_up_to n lines

    by : (m k : ℕ) (name : List ℕ) → IsNameMade lines k name × (k ≡ suc n)
        → IsNameMade (of_lane 0 lines) m name ⊎ IsNameMade (lanes_up_to n lines) m name → ⊥
    by m k name own (inl first) =
        let at = of_lane_made 0 lines m name first in
        let same = one_maker nodes lines are name m k at.0 own.0 in
        let z = at.1 in let s = own.1 in omega (arith, z, s, same)
    by m k name own (inr before) =
        let at = lanes_made n lines m name before in
        let same = one_maker nodes lines are name m k at.0 own.0 in
        let low = at.2 in let s = own.1 in omega (arith, low, s, same)

    two : AreOfTwo front (of_lane (suc n) lines)
    two m k name made again = by m k name (of_lane_made (suc n) lines k name again)
        (made_in_both (of_lane 0 lines) (lanes_up_to n lines) m name made)

made_line : (answers : List Answer) (name : List ℕ) (h : ℕ) → IsMadeAs answers name h
    → (n : ℕ) × IsNameMade (map asked answers) n name
made_line [] name h made = absurd made
made_line (a ∷ later) name h (inl here) =
    (a.lane.n, inl (refl, (making name h a.request a.reply here).makes))
made_line (a ∷ later) name h (inr more) = let at = made_line later name h more in (at.0, inr at.1)

made_last : (ls : List Line) (a : Answer) (name : List ℕ) → MakesName a.request name
    → IsNameMade (ls ++ asked a ∷ []) a.lane.n name
made_last [] a name makes = inl (refl, makes)
made_last (l ∷ ls) a name makes = inr (made_last ls a name makes)

-- a line that makes a name is the only one
only_here : (before : List Line) (a : Answer) (later : List Answer)
    → MadeOnce before (map asked (a ∷ later)) → (name : List ℕ) (g h : ℕ)
    → handle_made name a.request a.reply ≡ Some g → IsMadeAs later name h → ⊥
only_here before a later once name g h here more =
    let at = made_line later name h more in
    not_again (before ++ asked a ∷ []) (map asked later) once.1 a.lane.n at.0 name
    (made_last before a name (making name g a.request a.reply here).makes) at.1

name_has_one_handle : (before : List Line) (answers : List Answer) → MadeOnce before (map asked answers)
    → (name : List ℕ) (g h : ℕ) → IsMadeAs answers name g → IsMadeAs answers name h → g ≡ h
name_has_one_handle before [] once name g h p q = absurd p
name_has_one_handle before (a ∷ later) once name g h (inl p) (inl q) =
    let e : ◌≡◌ {A = Option ℕ} (Some g) (Some h) = sym p ∙ q in cc
name_has_one_handle before (a ∷ later) once name g h (inl p) (inr q) =
    absurd (only_here before a later once name g h p q)
name_has_one_handle before (a ∷ later) once name g h (inr p) (inl q) =
    absurd (only_here before a later once name h g q p)
name_has_one_handle before (a ∷ later) once name g h (inr p) (inr q) =
    name_has_one_handle (before ++ asked a ∷ []) later once.1 name g h p q

pub one_to_one : (first handles nodes : ℕ) (lines : List Line) (answers : List Answer)
    → IsLegal first handles answers → AreLines nodes [] lines → map asked answers ≡ by_lane lines
    → AreOneToOne answers
one_to_one first handles nodes lines answers legal are lines_are a b g h p q = (
  λ same. name_has_one_handle [] answers
      (subst (MadeOnce []) (sym lines_are) (lanes_once nodes 15 lines are)) a g h p
      (subst (λ (x : List ℕ). IsMadeAs answers x h) (sym same) q),
  λ same. handle_has_one_name first handles answers legal a b g p
      (subst (λ (n : ℕ). IsMadeAs answers b n) (sym same) q),
)
