-- What the lines of a script say of the names, pins and makes of lanes.
use Rattle.std.proofs.Common.{◌≡◌, ◌≢◌, ◌⊎◌, ℕ, zero, suc, ◌<◌, ◌≤◌, Bool, true, false, ◌&&◌, ◌||◌}
use Rattle.std.proofs.Common.{List, [], ◌∷◌, ◌++◌, length, map, take, get_or, fold, None, Some}
use Rattle.std.proofs.Common.{refl, sym, ap, ◌∙◌, subst, arith, inl, inr, eq-eqb, nat_eq}
use Rattle.std.proofs.Common.{if◌then◌else◌}
use Rattle.std.specs.List.{AllByRecursion, count_by, list_any}
use Rattle.std.specs.Str.{bytes_eq}
use Rattle.std.proofs.lemmas.Bool.{cases_Bool, eqb-true, true≢false, false≢true, or_left, or_right}
use Rattle.std.proofs.lemmas.Bool.{or_parts, and_parts}
use Rattle.std.proofs.lemmas.List.Sums.{sum_by-cons}
use Rattle.std.proofs.lemmas.Option.{same_Some}
use Rattle.std.proofs.lemmas.Slice.Eq.{bytes_eq-Decides}
use Rattle.cb_types.specs.declared.answer.Answer.{Answer}
use Rattle.cb_types.specs.declared.request.Request.{Request}
use Rattle.cb_types.specs.declared.request.Request.TheVariants.{Make, Read, Write, Free, Pin, Peek}
use Rattle.cb_types.specs.declared.request.Request.TheVariants.{Unpin, Filter, Leave}
use Rattle.cb_types.specs.declared.reply.Reply.{Reply}
use Rattle.cb_types.specs.declared.reply.Reply.TheVariants as answer
use Rattle.cb_types.specs.Requests.{name_of}
use Rattle.cb_model.specs.Event.{Subject, event_of, refusal, subject_of}
use Rattle.cb_model.specs.Event.Subject.{Contents, Other}
use Rattle.cb_model.specs.Called.{calls_behind, made_by, makes}
use Rattle.cb_script.specs.declared.script.Line.{Line}
use Rattle.cb_script.specs.Form.{AreLines, IsNameKnown, IsNameMade, IsNameNew, KnowsName, MakesName}
use Rattle.cb_script.specs.Roomy.{has_pin, is_make, is_pin, makes_in}
use Rattle.cb_lanes.specs.Asked.{asked}
use Rattle.cb_lanes.specs.Alone.{is_maker, makes_named}
use Rattle.cb_lanes.specs.Scopes.{NamedPin, Scope, named_on, newest_on, scope_after, scope_more}
use Rattle.cb_lanes.specs.Scopes.{scope_of}
use Rattle.cb_lanes.proofs.AloneGoes.{others_after}
use Rattle.cb_lanes.proofs.Lists.{one_if}

-- a front of lines has no more than all of them
pub any_front : {X : Type 0} (p : X → Bool) (xs : List X) (i : ℕ) → list_any p xs ≡ false
    → list_any p (take i xs) ≡ false
any_front p xs zero none = refl
any_front p [] (suc i) none = refl
any_front p (x ∷ xs) (suc i) none = let z = or_parts (p x) (list_any p xs) none in
    (λ j. z.0 j || any_front p xs i z.1 j)

pub any_at : {X : Type 0} (p : X → Bool) (xs : List X) (i : ℕ) (x : X) → list_any p xs ≡ false
    → i < length xs → x ≡ get_or xs i x → p x ≡ false
any_at p [] i x none below at = absurd (omega (arith, below))
any_at p (y ∷ xs) zero x none below at = ap p at ∙ (or_parts (p y) (list_any p xs) none).0
any_at p (y ∷ xs) (suc i) x none below at =
    any_at p xs i x (or_parts (p y) (list_any p xs) none).1 (omega (arith, below)) at

-- ---- who makes a name

makes_it : (name : List ℕ) (request : Request) → MakesName request name
    → makes_named name request ≡ true
makes_it name (Make made bytes) e = (bytes_eq-Decides made name).1 e
makes_it name request e = absurd e

pub maker_of : (lines : List Line) (lane : ℕ) (name : List ℕ) → IsNameMade lines lane name
    → is_maker lines lane name ≡ true
maker_of [] lane name made = absurd made
maker_of (l ∷ lines) lane name (inl (same, makes)) =
    or_left (nat_eq l.lane.n lane && makes_named name l.request) (is_maker lines lane name)
    (λ i. (eq-eqb l.lane.n lane same i) && (makes_it name l.request makes i))
maker_of (l ∷ lines) lane name (inr made) =
    or_right (nat_eq l.lane.n lane && makes_named name l.request) (is_maker lines lane name)
    (maker_of lines lane name made)

made_name : (name : List ℕ) (request : Request) → makes_named name request ≡ true
    → MakesName request name
made_name name (Make made bytes) e = (bytes_eq-Decides made name).0 e
made_name name request e = absurd (false≢true e)

-- a request that makes a name is known only where the name is new
new_name : (before : List Line) (lane : ℕ) (name : List ℕ) (request : Request)
    → MakesName request name
    → IsNameKnown before lane request → IsNameNew before name
new_name before lane name (Make made bytes) e known = subst (IsNameNew before) e known
new_name before lane name request e known = absurd e

made_more : (before : List Line) (l : Line) (lane : ℕ) (name : List ℕ) → IsNameMade before lane name
    → IsNameMade (before ++ l ∷ []) lane name
made_more [] l lane name made = absurd made
made_more (b ∷ before) l lane name (inl z) = inl z
made_more (b ∷ before) l lane name (inr z) = inr (made_more before l lane name z)

made_last : (before : List Line) (l : Line) (lane : ℕ) (name : List ℕ) → l.lane.n ≡ lane
    → MakesName l.request name → IsNameMade (before ++ l ∷ []) lane name
made_last [] l lane name same makes = inl (same, makes)
made_last (b ∷ before) l lane name same makes = inr (made_last before l lane name same makes)

-- a name that was made is made no more
made_once : (nodes : ℕ) (before lines : List Line) (k m : ℕ) (name : List ℕ)
    → AreLines nodes before lines
    → IsNameMade before k name → is_maker lines m name ≡ true → ⊥
made_once nodes before [] k m name all was again = false≢true again
made_once nodes before (l ∷ lines) k m name all was again =
    by (λ rest. made_once nodes (before ++ l ∷ []) lines k m name all.1
    (made_more before l k name was) rest)
    (cases_Bool (nat_eq l.lane.n m && makes_named name l.request))
  where
    by : (is_maker lines m name ≡ true → ⊥) →
        ((nat_eq l.lane.n m && makes_named name l.request) ≡ true)
        ⊎ ((nat_eq l.lane.n m && makes_named name l.request) ≡ false) → ⊥
    by later (inl e) = let z = and_parts (nat_eq l.lane.n m) (makes_named name l.request) e in
        new_name before l.lane.n name l.request (made_name name l.request z.1) all.0.known k was
    by later (inr e) = later (sym (ap (λ (b : Bool). b || is_maker lines m name) e) ∙ again)

-- one lane makes a name
pub one_maker : (nodes : ℕ) (before lines : List Line) (k m : ℕ) (name : List ℕ)
    → AreLines nodes before lines
    → is_maker lines k name ≡ true → is_maker lines m name ≡ true → k ≡ m
one_maker nodes before [] k m name all a b = absurd (false≢true a)
one_maker nodes before (l ∷ lines) k m name all a b =
    by (one_maker nodes (before ++ l ∷ []) lines k m name all.1) (cases_Bool (head k))
    (cases_Bool (head m))
  where
    head : ℕ → Bool
    head lane = nat_eq l.lane.n lane && makes_named name l.request

    rest : (lane : ℕ) → is_maker (l ∷ lines) lane name ≡ true → head lane ≡ false
        → is_maker lines lane name ≡ true
    rest lane e off = sym (ap (λ (b : Bool). b || is_maker lines lane name) off) ∙ e

    here : (lane : ℕ) → head lane ≡ true → (l.lane.n ≡ lane) × MakesName l.request name
    here lane e = let z = and_parts (nat_eq l.lane.n lane) (makes_named name l.request) e in
        (eqb-true l.lane.n lane z.0, made_name name l.request z.1)

    by : (is_maker lines k name ≡ true → is_maker lines m name ≡ true → k ≡ m)
        → (head k ≡ true) ⊎ (head k ≡ false) → (head m ≡ true) ⊎ (head m ≡ false) → k ≡ m
    by later (inl x) (inl y) = sym (here k x).0 ∙ (here m y).0
    by later (inl x) (inr y) = absurd (made_once nodes (before ++ l ∷ []) lines k m name all.1
        (made_last before l k name (here k x).0 (here k x).1) (rest m b y))
    by later (inr x) (inl y) = absurd (made_once nodes (before ++ l ∷ []) lines m k name all.1
        (made_last before l m name (here m y).0 (here m y).1) (rest k a x))
    by later (inr x) (inr y) = later (rest k a x) (rest m b y)

-- ---- the name of each line

-- the lane of a line makes its name, or lane 0 does
abbrev pub IsOwnName : List Line → Line → Type 0
IsOwnName lines l = (name : List ℕ) → name_of l.request ≡ Some name
    → (is_maker lines l.lane.n name ≡ true) ⊎ (is_maker lines 0 name ≡ true)

known_maker : (lines before : List Line) (lane : ℕ)
    → ((k : ℕ) (name : List ℕ) → IsNameMade before k name → is_maker lines k name ≡ true)
    → (name : List ℕ) → KnowsName before lane name
    → (is_maker lines lane name ≡ true) ⊎ (is_maker lines 0 name ≡ true)
known_maker lines before lane among name (inl own) = inl (among lane name own)
known_maker lines before lane among name (inr shared) = inr (among 0 name shared)

line_named : (lines before : List Line) (l : Line) (request : Request)
    → ((k : ℕ) (name : List ℕ) → IsNameMade before k name → is_maker lines k name ≡ true)
    → ((name : List ℕ) → MakesName request name → is_maker lines l.lane.n name ≡ true)
    → IsNameKnown before l.lane.n request → (name : List ℕ)
    → name_of request ≡ Some name
    → (is_maker lines l.lane.n name ≡ true) ⊎ (is_maker lines 0 name ≡ true)
line_named lines before l (Make made bytes) among own known name e =
    inl (own name (same_Some made name e))
line_named lines before l (Read made) among own known name e =
    known_maker lines before l.lane.n among name
    (subst (KnowsName before l.lane.n) (same_Some made name e) known)
line_named lines before l (Write made at bytes) among own known name e =
    known_maker lines before l.lane.n among name
    (subst (KnowsName before l.lane.n) (same_Some made name e) known)
line_named lines before l (Free made) among own known name e =
    known_maker lines before l.lane.n among name
    (subst (KnowsName before l.lane.n) (same_Some made name e) known)
line_named lines before l (Pin made) among own known name e =
    known_maker lines before l.lane.n among name
    (subst (KnowsName before l.lane.n) (same_Some made name e) known)
line_named lines before l (Peek made) among own known name e =
    known_maker lines before l.lane.n among name
    (subst (KnowsName before l.lane.n) (same_Some made name e) known)
line_named lines before l (Unpin made) among own known name e =
    known_maker lines before l.lane.n among name
    (subst (KnowsName before l.lane.n) (same_Some made name e) known)
line_named lines before l (Filter made) among own known name e =
    known_maker lines before l.lane.n among name
    (subst (KnowsName before l.lane.n) (same_Some made name e) known)
line_named lines before l request among own known name e =
    absurd (let z : None ≡ Some name = e in cc)

-- those behind these lines, of all lines
named_behind : (nodes : ℕ) (all before lines : List Line)
    → ((k : ℕ) (name : List ℕ) → IsNameMade before k name → is_maker all k name ≡ true)
    → ((k : ℕ) (name : List ℕ) → is_maker lines k name ≡ true → is_maker all k name ≡ true)
    → AreLines nodes before lines → AllByRecursion (IsOwnName all) lines
named_behind nodes all before [] earlier later are = tt
named_behind nodes all before (l ∷ lines) earlier later are = (
  line_named all before l l.request earlier own are.0.known,
  named_behind nodes all (before ++ l ∷ []) lines pushed
      (λ k name e. later k name (or_right (nat_eq l.lane.n k && makes_named name l.request)
      (is_maker lines k name) e)) are.1,
)
  where
    own : (name : List ℕ) → MakesName l.request name → is_maker all l.lane.n name ≡ true
    own name makes = later l.lane.n name
        (or_left (nat_eq l.lane.n l.lane.n && makes_named name l.request)
        (is_maker lines l.lane.n name)
        (λ i. (eq-eqb l.lane.n l.lane.n refl i) && (makes_it name l.request makes i)))

    split : (bs : List Line) (k : ℕ) (name : List ℕ) → IsNameMade (bs ++ l ∷ []) k name
        → IsNameMade bs k name ⊎ ((l.lane.n ≡ k) × MakesName l.request name)
    split [] k name (inl z) = inr z
    split [] k name (inr z) = absurd z
    split (b ∷ bs) k name (inl z) = inl (inl z)
    split (b ∷ bs) k name (inr z) = elim (split bs k name z) [
      | inl x ↦ inl (inr x)
      | inr x ↦ inr x
    ]

    pushed : (k : ℕ) (name : List ℕ) → IsNameMade (before ++ l ∷ []) k name
        → is_maker all k name ≡ true
    pushed k name made = elim (split before k name made) [
      | inl x ↦ earlier k name x
      | inr x ↦ subst (λ (j : ℕ). is_maker all j name ≡ true) x.0 (own name x.1)
    ]

pub names_known : (nodes : ℕ) (lines : List Line) → AreLines nodes [] lines
    → AllByRecursion (IsOwnName lines) lines
names_known nodes lines are =
    named_behind nodes lines [] lines (λ k name made. absurd made) (λ k name e. e) are

pub each_at : {X : Type 0} (P : X → Type 0) (xs : List X) (i : ℕ) (x : X) → AllByRecursion P xs
    → i < length xs → x ≡ get_or xs i x → P x
each_at P [] i x all below at = absurd (omega (arith, below))
each_at P (y ∷ xs) zero x all below at = subst P (sym at) all.0
each_at P (y ∷ xs) (suc i) x all below at = each_at P xs i x all.1 (omega (arith, below)) at

each_front : {X : Type 0} (P : X → Type 0) (xs : List X) (i : ℕ) → AllByRecursion P xs
    → AllByRecursion P (take i xs)
each_front P xs zero all = tt
each_front P [] (suc i) all = tt
each_front P (x ∷ xs) (suc i) all = (all.0, each_front P xs i all.1)

-- ---- the pins of a lane

-- a lane without a pin line has an empty scope
scope_stays : (scope : Scope) (request : Request) (r : Reply) → is_pin request ≡ false → scope ≡ []
    → scope_after scope request r ≡ []
scope_stays scope (Pin name) r off none = absurd (true≢false off)
scope_stays scope (Unpin name) answer.Done off none =
    ap (λ (s : Scope). scope_after s (Unpin name) answer.Done) none
scope_stays scope (Unpin name) r off none = none
scope_stays scope Leave (answer.Left n) off none = refl
scope_stays scope Leave r off none = none
scope_stays scope request r off none = none

scope_none_from : (lane : ℕ) (scope : Scope) (answers : List Answer) → scope ≡ []
    → has_pin (map asked answers) lane ≡ false → fold (scope_more lane) scope answers ≡ []
scope_none_from lane scope [] none off = none
scope_none_from lane scope (a ∷ answers) none off =
    scope_none_from lane (scope_more lane scope a) answers
    (by (cases_Bool (nat_eq a.lane.n lane))) z.1
  where
    z : ((nat_eq lane a.lane.n && is_pin a.request) ≡ false)
        × (has_pin (map asked answers) lane ≡ false)
    z = or_parts (nat_eq lane a.lane.n && is_pin a.request) (has_pin (map asked answers) lane) off

    by : (nat_eq a.lane.n lane ≡ true) ⊎ (nat_eq a.lane.n lane ≡ false)
        → scope_more lane scope a ≡ []
    by (inl e) = ap (λ (b : Bool). if b then scope_after scope a.request a.reply else scope) e
        ∙ scope_stays scope a.request a.reply
        (sym (ap (λ (b : Bool). b && is_pin a.request)
        (eq-eqb lane a.lane.n (sym (eqb-true a.lane.n lane e)))) ∙ z.0) none
    by (inr e) = ap (λ (b : Bool). if b then scope_after scope a.request a.reply else scope) e
        ∙ none

pub scope_none : (lines : List Line) (i lane : ℕ) (answers : List Answer)
    → map asked answers ≡ take i lines
    → has_pin lines lane ≡ false → scope_of lane answers ≡ []
scope_none lines i lane answers so_far off = scope_none_from lane [] answers refl
    (ap (λ (ls : List Line). has_pin ls lane) so_far
    ∙ any_front (λ (l : Line). nat_eq lane l.lane.n && is_pin l.request) lines i off)

-- a lane has no pin on a name that another lane makes, if that is not lane 0
abbrev PinsNot : ℕ → List ℕ → Line → Type 0
PinsNot lane name l = l.lane.n ≡ lane → (pinned : List ℕ) → l.request ≡ Pin pinned → pinned ≢ name

scope_off_from : (lane : ℕ) (name : List ℕ) (scope : Scope) (answers : List Answer)
    → newest_on name scope ≡ None → AllByRecursion (PinsNot lane name) (map asked answers)
    → newest_on name (fold (scope_more lane) scope answers) ≡ None
scope_off_from lane name scope [] none all = none
scope_off_from lane name scope (a ∷ answers) none all =
    scope_off_from lane name (scope_more lane scope a) answers
    (by (cases_Bool (nat_eq a.lane.n lane))) all.1
  where
    by : (nat_eq a.lane.n lane ≡ true) ⊎ (nat_eq a.lane.n lane ≡ false)
        → newest_on name (scope_more lane scope a) ≡ None
    by (inl e) = ap (λ (b : Bool). newest_on name
        (if b then scope_after scope a.request a.reply else scope)) e
        ∙ others_after name scope a.request a.reply (all.0 (eqb-true a.lane.n lane e)) none
    by (inr e) = ap (λ (b : Bool). newest_on name
        (if b then scope_after scope a.request a.reply else scope)) e
        ∙ none

none_named : (name : List ℕ) (scope : Scope) → newest_on name scope ≡ None → named_on name scope ≡ 0
none_named name [] none = refl
none_named name (pin ∷ older) none = by (none_named name older)
    (cases_Bool (bytes_eq pin.name name))
  where
    by : (newest_on name older ≡ None → named_on name older ≡ 0)
        → (bytes_eq pin.name name ≡ true) ⊎ (bytes_eq pin.name name ≡ false)
        → named_on name (pin ∷ older) ≡ 0
    by later (inl e) = absurd (let z : Some pin.version ≡ None =
        sym (ap (λ (b : Bool). if b then Some pin.version else newest_on name older) e)
        ∙ none in cc)
    by later (inr e) =
        let rest = later (sym (ap
        (λ (b : Bool). if b then Some pin.version else newest_on name older) e)
        ∙ none) in
        let here : one_if (bytes_eq pin.name name) ≡ 0 = ap one_if e in
        let all = sum_by-cons (λ (p : NamedPin). one_if (bytes_eq p.name name)) pin older in
        omega (arith, rest, here, all)

pins_not : (lines : List Line) (own lane : ℕ) (name : List ℕ)
    → ((k m : ℕ) (q : List ℕ) → is_maker lines k q ≡ true → is_maker lines m q ≡ true → k ≡ m)
    → 1 ≤ own → lane ≢ own → is_maker lines own name ≡ true → (ls : List Line)
    → AllByRecursion (IsOwnName lines) ls → AllByRecursion (PinsNot lane name) ls
pins_not lines own lane name one some apart maker [] all = tt
pins_not lines own lane name one some apart maker (l ∷ ls) all = (
  λ same pinned asks e. elim (all.0 pinned (ap name_of asks)) [
    | inl by_lane ↦ apart (sym same ∙ one l.lane.n own name
        (sym (ap (is_maker lines l.lane.n) e) ∙ by_lane) maker)
    | inr by_zero ↦ let z = one 0 own name (sym (ap (is_maker lines 0) e) ∙ by_zero) maker in
        omega (arith, z, some)
  ],
  pins_not lines own lane name one some apart maker ls all.1,
)

pub named_none : (nodes : ℕ) (lines : List Line) (i own lane : ℕ) (name : List ℕ)
    (answers : List Answer)
    → AreLines nodes [] lines → map asked answers ≡ take i lines → 1 ≤ own → lane ≢ own
    → is_maker lines own name ≡ true → named_on name (scope_of lane answers) ≡ 0
named_none nodes lines i own lane name answers are so_far some apart maker =
    none_named name (scope_of lane answers) (scope_off_from lane name [] answers refl
    (subst (AllByRecursion (PinsNot lane name)) (sym so_far)
    (pins_not lines own lane name (λ k m q. one_maker nodes [] lines k m q are) some apart maker
    (take i lines)
    (each_front (IsOwnName lines) lines i (names_known nodes lines are)))))

-- ---- makes

refusal_makes : (subject : Subject) (r : Reply) → made_by (refusal subject r) ≡ 0
refusal_makes Contents answer.Freed = refl
refusal_makes Contents answer.Unmade = refl
refusal_makes Other answer.Unmade = refl
refusal_makes subject answer.Freed = refl
refusal_makes subject answer.Unmade = refl
refusal_makes subject (answer.Made handle version) = refl
refusal_makes subject (answer.Version version) = refl
refusal_makes subject (answer.Bytes version bytes) = refl
refusal_makes subject (answer.Range len) = refl
refusal_makes subject (answer.Full handles) = refl
refusal_makes subject r = refl

none_made : (request : Request) (r : Reply) (n : ℕ)
    → event_of request r ≡ refusal (subject_of request) r
    → made_by (event_of request r) ≤ n
none_made request r n e =
    let z = ap made_by e ∙ refusal_makes (subject_of request) r in omega (arith, z)

made_few : (request : Request) (r : Reply) → made_by (event_of request r) ≤ one_if (is_make request)
made_few (Make name bytes) (answer.Made handle version) = omega arith
made_few (Make name bytes) (answer.Full handles) = omega arith
made_few (Make name bytes) r = none_made (Make name bytes) r 1 refl
made_few (Read name) (answer.Bytes version bytes) = omega arith
made_few (Read name) r = none_made (Read name) r 0 refl
made_few (Peek name) (answer.Bytes version bytes) = omega arith
made_few (Peek name) r = none_made (Peek name) r 0 refl
made_few (Pin name) (answer.Version version) = omega arith
made_few (Pin name) answer.ScopeFull = omega arith
made_few (Pin name) r = none_made (Pin name) r 0 refl
made_few (Write name at bytes) (answer.Version version) = omega arith
made_few (Write name at bytes) (answer.Range len) = omega arith
made_few (Write name at bytes) r = none_made (Write name at bytes) r 0 refl
made_few (Free name) (answer.Version version) = omega arith
made_few (Free name) r = none_made (Free name) r 0 refl
made_few request r = none_made request r 0 refl

pub makes_few : (before answers : List Answer)
    → makes (calls_behind before answers) ≤ makes_in (map asked answers)
makes_few before [] = omega arith
makes_few before (a ∷ answers) =
    let one = made_few a.request a.reply in let more = makes_few (before ++ a ∷ []) answers in
    let all = sum_by-cons (λ (l : Line). one_if (is_make l.request)) (asked a)
    (map asked answers) in
    omega (arith, one, more, all)

pub count_front : (p : Line → Bool) (xs : List Line) (i : ℕ)
    → count_by p (take i xs) ≤ count_by p xs
count_front p xs zero = omega arith
count_front p [] (suc i) = omega arith
count_front p (x ∷ xs) (suc i) =
    let rest = count_front p xs i in
    let a = sum_by-cons (λ (y : Line). one_if (p y)) x (take i xs) in
    let b = sum_by-cons (λ (y : Line). one_if (p y)) x xs in
    omega (arith, rest, a, b)
