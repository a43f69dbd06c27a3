-- The handles that are kept for names that were given.
use Rattle.std.proofs.Common.{◌≡◌, ℕ, ◌+◌, ◌<◌, ◌≤◌, Bool, true, false, cond, List, [], ◌∷◌, ◌++◌}
use Rattle.std.proofs.Common.{length, take, get_or, Option, None, Some, refl, sym, ap, ◌∙◌, subst}
use Rattle.std.specs.Str.{bytes_eq}
use Rattle.std.proofs.lemmas.List.{take_all, take_more}
use Rattle.std.proofs.lemmas.Option.{same_Some}
use Rattle.cb_types.specs.declared.handle.Handle.{Handle}
use Rattle.cb_model.specs.Called.{first_of}
use Rattle.cb_rule.specs.declared.view.View.{View}
use Rattle.cb_rule.specs.Steps.{Knows}
use Rattle.cb_lanes.specs.declared.body.Named.{Named}
use Rattle.cb_lanes.specs.Bodies.{KeepHandles, KnowsHandle, KnowsKept, KnowsNames, handle_among}
use Rattle.cb_lanes.specs.Bodies.{handle_number}
use Rattle.cb_lanes.specs.Names.{KeptNames, kept_number}
use Rattle.cb_lanes.proofs.LinesBack.{first_assoc, first_none}

-- the handle that one given name gives to a name
abbrev given_by : Named → List ℕ → Option ℕ
given_by n name = cond (bytes_eq n.name name) (handle_number n.handle) None

among_push : (names : List Named) (n : Named) (name : List ℕ)
    → handle_among (names ++ n ∷ []) name ≡ first_of (given_by n name) (handle_among names name)
among_push [] n name = first_none (given_by n name)
among_push (x ∷ names) n name =
    ap (λ (o : Option ℕ). first_of o (given_by x name)) (among_push names n name)
    ∙ first_assoc (given_by n name) (handle_among names name) (given_by x name)

-- ---- the handles of the first names are kept
abbrev pub KeepsFirst : KeptNames → List Named → ℕ → Type 0
KeepsFirst kept names i =
    (name : List ℕ) → kept_number kept name ≡ handle_among (take i names) name

step_among : (names : List Named) (i : ℕ) (n : Named) (name : List ℕ) → i < length names
    → n ≡ get_or names i n
    → handle_among (take (i + 1) names) name
    ≡ first_of (given_by n name) (handle_among (take i names) name)
step_among names i n name lt at =
    ap (λ (l : List Named). handle_among l name) (take_more names i n lt
    ∙ ap (λ (x : Named). take i names ++ x ∷ []) (sym at)) ∙ among_push (take i names) n name

-- one with a handle, which is kept now
pub keeps_more : (names : List Named) (i : ℕ) (n : Named) (h : Handle) (kept later : KeptNames)
    → i < length names → n ≡ get_or names i n → n.handle ≡ Some h → KeepsFirst kept names i
    → ((q : List ℕ) → kept_number later q ≡ cond (bytes_eq n.name q) (Some h.n)
    (kept_number kept q))
    → KeepsFirst later names (i + 1)
keeps_more names i n h kept later lt at has keep put name =
    put name ∙ ap (cond (bytes_eq n.name name) (Some h.n)) (keep name)
    ∙ by (bytes_eq n.name name)
    ∙ ap (λ (o : Option Handle). first_of (cond (bytes_eq n.name name) (handle_number o) None)
    (handle_among (take i names) name)) (sym has)
    ∙ sym (step_among names i n name lt at)
  where
    by : (b : Bool) → cond b (Some h.n) (handle_among (take i names) name)
        ≡ first_of (cond b (Some h.n) None) (handle_among (take i names) name)
    by true = refl
    by false = refl

-- one without a handle
pub keeps_none : (names : List Named) (i : ℕ) (n : Named) (kept : KeptNames) → i < length names
    → n ≡ get_or names i n → n.handle ≡ None → KeepsFirst kept names i
    → KeepsFirst kept names (i + 1)
keeps_none names i n kept lt at none keep name =
    keep name ∙ by (bytes_eq n.name name)
    ∙ ap (λ (o : Option Handle). first_of (cond (bytes_eq n.name name) (handle_number o) None)
    (handle_among (take i names) name)) (sym none)
    ∙ sym (step_among names i n name lt at)
  where
    by : (b : Bool) → handle_among (take i names) name
        ≡ first_of (cond {A = Option ℕ} b None None) (handle_among (take i names) name)
    by true = refl
    by false = refl

pub kept_all : (names : List Named) (i : ℕ) (kept : KeptNames) → length names ≤ i
    → KeepsFirst kept names i
    → (name : List ℕ) → kept_number kept name ≡ handle_among names name
kept_all names i kept all keep name = keep name
    ∙ ap (λ (l : List Named). handle_among l name) (take_all i names all)

-- ---- the record knows the handles that are kept of names that it knows
first_is : (a b : Option ℕ) (k : ℕ) (P : Type 0) → first_of a b ≡ Some k → (a ≡ Some k → P)
    → (b ≡ Some k → P) → P
first_is (Some x) b k P is one two = one is
first_is None b k P is one two = two is

given_known : (o : Option Handle) (b : Bool) (v : View) (k : ℕ) → KnowsHandle v o
    → cond b (handle_number o) None ≡ Some k → Knows k v
given_known (Some h) true v k knows is = subst (λ (n : ℕ). Knows n v) (same_Some h.n k is) knows
given_known None true v k knows is = absurd cc
given_known o false v k knows is = absurd cc

pub among_known : (names : List Named) (v : View) (name : List ℕ) (k : ℕ) → KnowsNames v names
    → handle_among names name ≡ Some k → Knows k v
among_known [] v name k knows is = absurd cc
among_known (n ∷ names) v name k knows is = first_is (handle_among names name) (given_by n name) k
    (Knows k v) is (λ later. among_known names v name k knows.1 later)
    (λ here. given_known n.handle (bytes_eq n.name name) v k knows.0 here)

pub names_known : (names : List Named) (kept : KeptNames) (v : View) → KnowsNames v names
    → KeepHandles kept names [] → KnowsKept kept v
names_known names kept v knows keep name k is =
    among_known names v name k knows (sym (keep name) ∙ is)
