-- The handle of a name is the same by the answers before it in the list and by the changes before it.
use Rattle.std.proofs.Common.{◌≡◌, ℕ, zero, suc, ◌+◌, ◌≤◌, Bool, false, eqb, List, [], ◌∷◌, ◌++◌, length, Option, Some, None, refl, sym, ap, ◌∙◌, arith, inl, inr, length-append}
use Rattle.std.specs.List.{AllByRecursion, filter}
use Rattle.std.proofs.lemmas.Bool.{cases_Bool, cases_order, lt-ltb, le-ltb, eq-eqb, ne_eqb}
use Rattle.std.proofs.lemmas.List.{append-nil}
use Rattle.std.proofs.lemmas.List.Elements.{filter-append}
use Rattle.cb_types.specs.declared.answer.Answer.{Answer}
use Rattle.cb_types.specs.declared.request.Request.{Request}
use Rattle.cb_types.specs.declared.request.Request.TheVariants.{Make}
use Rattle.cb_types.specs.declared.reply.Reply.{Reply}
use Rattle.cb_types.specs.declared.reply.Reply.TheVariants.{Made}
use Rattle.cb_types.specs.Requests.{name_of}
use Rattle.cb_model.specs.Called.{first_of, handle_made, handle_of, handle_for, handle_named}
use Rattle.cb_model.specs.Times.{Timed, untimed, changes, changes_at, changed_before, IsInProgramOrder, AreInProgramOrder, IsDoneBefore}
use Rattle.cb_model.specs.Shown.{makes_name, name_used, IsMadeBefore}
use Rattle.cb_model.proofs.Stages.{is_before, filter-filter}
use Rattle.cb_model.proofs.Following.{no_name}

-- ---- the makes of a name alone have its handle
no_make : (name : List ℕ) (request : Request) (reply : Reply) → makes_name name request ≡ false
    → handle_made name request reply ≡ None
no_make name (Make made bytes) (Made handle version) fails = rw fails refl
no_make name (Make made bytes) reply fails = refl
no_make name request reply fails = refl

first_alone : (h : Option ℕ) → first_of h None ≡ h
first_alone None = refl
first_alone (Some h) = refl

abbrev is_make : List ℕ → Timed → Bool
is_make name t = makes_name name t.answer.request

by_makes : (name : List ℕ) (ts : List Timed)
    → handle_of (untimed ts) name ≡ handle_of (untimed (filter (is_make name) ts)) name
by_makes name [] = refl
by_makes name (t ∷ ts) =
    elim (cases_Bool (is_make name t)) [
      | inl is ↦ rw is (ap (λ (h : Option ℕ). first_of h (handle_made name t.answer.request t.answer.reply)) (by_makes name ts))
      | inr fails ↦ rw (fails, no_make name t.answer.request t.answer.reply fails) (first_alone (handle_of (untimed ts) name) ∙ by_makes name ts)
    ]

-- ---- the one make of a name among the changes before a time
one_stage : (n : ℕ) (m : Timed)
    → filter (is_before n) (filter changes (m ∷ [])) ++ filter (changes_at n) (m ∷ []) ≡ filter (is_before (suc n)) (filter changes (m ∷ []))
one_stage n m =
    elim (cases_Bool (changes m)) [
      | inr fails ↦ elim (cases_Bool (eqb m.time n)) [ inl here ↦ simp (here, fails) refl | inr not_here ↦ simp (not_here, fails) refl ]
      | inl is ↦ elim (cases_order m.time n) [
        | inl e ↦ simp (is, le-ltb m.time n (omega (arith, e)), eq-eqb m.time n e, lt-ltb m.time (suc n) (omega (arith, e))) refl
        | inr differs ↦ elim differs [
          | inl lt ↦ simp (is, lt-ltb m.time n lt, ne_eqb m.time n (λ e. omega (arith, e, lt)), lt-ltb m.time (suc n) (omega (arith, lt))) refl
          | inr gt ↦ simp (is, le-ltb m.time n (omega (arith, gt)), ne_eqb m.time n (λ e. omega (arith, e, gt)), le-ltb m.time (suc n) (omega (arith, gt))) refl
        ]
      ]
    ]

none_at_start : (ts : List Timed) → filter (is_before 0) ts ≡ []
none_at_start [] = refl
none_at_start (t ∷ ts) = rw (le-ltb t.time 0 (omega arith)) (none_at_start ts)

one_before : (p : Timed → Bool) (m : Timed) (ts : List Timed) (n : ℕ) → filter p ts ≡ m ∷ []
    → filter p (changed_before n ts) ≡ filter (is_before n) (filter changes (m ∷ []))
one_before p m ts zero one = sym (none_at_start (filter changes (m ∷ [])))
one_before p m ts (suc n) one =
    filter-append p (changed_before n ts) (filter (changes_at n) ts)
    ∙ rw (one_before p m ts n one, filter-filter p (changes_at n) ts, one) (one_stage n m)

-- ---- it was done before its name is used
at_middle : {X : Type 0} (P : X → Type 0) (xs ys : List X) (x : X) → AllByRecursion P (xs ++ x ∷ ys) → P x
at_middle P [] ys x all = all.0
at_middle P (y ∷ xs) ys x all = at_middle P xs ys x all.1

no_length : {X : Type 0} (xs : List X) → length xs ≤ 0 → xs ≡ []
no_length [] le = refl
no_length (x ∷ xs) le = absurd (omega (arith, le))

-- the one make before, which was done
record IsMaker (name : List ℕ) (before : List Timed) (t m : Timed) : Type 0 where
  pub alone : filter (is_make name) before ≡ m ∷ []
  pub done : IsDoneBefore m t

find_maker : (name : List ℕ) (before after : List Timed) (t : Timed) → AreInProgramOrder (before ++ t ∷ after)
    → length (filter (is_make name) before) ≤ 1
    → IsMadeBefore (untimed before) t.answer.lane.n name → (m : Timed) × IsMaker name before t m
find_maker name [] after t turn one made = absurd made
find_maker name (x ∷ before) after t turn one (inl made) =
    let few = rw made.0 at one in (
      x,
      record {
        alone = rw (made.0, no_length (filter (is_make name) before) (omega (arith, few))) refl;
        done = at_middle (IsInProgramOrder x) before after t turn.0 made.1;
      },
    )
find_maker name (x ∷ before) after t turn one (inr made) =
    elim (cases_Bool (is_make name x)) [
      | inl is ↦
          let few = rw is at one in
          let found = find_maker name before after t turn.1 (omega (arith, few)) made in
          absurd (let len = rw found.1.alone at few in omega (arith, len))
      | inr fails ↦
          let found = find_maker name before after t turn.1 (rw fails at one) made in
          (found.0, record { alone = rw fails found.1.alone; done = found.1.done })
    ]

same_handle : (name : List ℕ) (n : ℕ) (m t : Timed) → t.time ≡ n → IsDoneBefore m t
    → handle_of (untimed (m ∷ [])) name ≡ handle_of (untimed (filter (is_before n) (filter changes (m ∷ [])))) name
same_handle name n m t at done =
    elim (cases_Bool (changes m)) [
      | inl is ↦ simp (is, lt-ltb m.time n (omega (arith, at, rw is at done))) refl
      | inr fails ↦ simp (fails, no_name name m.answer.request m.answer.reply fails) refl
    ]

few_before : {X : Type 0} (p : X → Bool) (before rest : List X) → length (filter p (before ++ rest)) ≤ 1
    → length (filter p before) + length (filter p rest) ≤ 1
few_before p before rest one =
    omega (arith, length-append (filter p before) (filter p rest), rw (filter-append p before rest) at one)

alone_in_all : {X : Type 0} (p : X → Bool) (before rest : List X) (m : X)
    → length (filter p (before ++ rest)) ≤ 1 → filter p before ≡ m ∷ []
    → filter p (before ++ rest) ≡ m ∷ []
alone_in_all {X} p before rest m one alone =
    let few = few_before p before rest one in
    let none = no_length (filter p rest) (omega (arith, few, ap (λ (xs : List X). length xs) alone)) in
    filter-append p before rest ∙ rw (none, append-nil (filter p before)) alone

agrees_by : (name : List ℕ) (ts before : List Timed) (t m : Timed) → IsMaker name before t m
    → filter (is_make name) ts ≡ m ∷ []
    → handle_of (untimed before) name ≡ handle_of (untimed (changed_before t.time ts)) name
agrees_by name ts before t m maker alone =
    by_makes name before ∙ ap (λ (us : List Timed). handle_of (untimed us) name) maker.alone
    ∙ same_handle name t.time m t refl maker.done
    ∙ sym (by_makes name (changed_before t.time ts) ∙ ap (λ (us : List Timed). handle_of (untimed us) name) (one_before (is_make name) m ts t.time alone))

-- so the name has the same handle
name_agrees : (name : List ℕ) (ts before after : List Timed) (t : Timed) → ts ≡ before ++ t ∷ after
    → AreInProgramOrder ts → length (filter (is_make name) ts) ≤ 1
    → IsMadeBefore (untimed before) t.answer.lane.n name
    → handle_of (untimed before) name ≡ handle_of (untimed (changed_before t.time ts)) name
name_agrees name ts before after t e turn one made =
    let one_here : length (filter (is_make name) (before ++ t ∷ after)) ≤ 1 = rw e at one in
    let few = few_before (is_make name) before (t ∷ after) one_here in
    let found = find_maker name before after t (rw e at turn) (omega (arith, few)) made in
    agrees_by name ts before t found.0 found.1
    (ap (λ (us : List Timed). filter (is_make name) us) e ∙ alone_in_all (is_make name) before (t ∷ after) found.0 one_here found.1.alone)

-- ---- and a call is about the same handle
named_alike : (xs ys : List Answer) (used : Option (List ℕ))
    → ((name : List ℕ) → used ≡ Some name → handle_of xs name ≡ handle_of ys name)
    → handle_named xs used ≡ handle_named ys used
named_alike xs ys None names = refl
named_alike xs ys (Some name) names = names name refl

for_alike : (xs ys : List Answer) (request : Request) (reply : Reply)
    → ((name : List ℕ) → name_used request ≡ Some name → handle_of xs name ≡ handle_of ys name)
    → handle_for xs request reply ≡ handle_for ys request reply
for_alike xs ys (Make name bytes) (Made handle version) names = refl
for_alike xs ys (Make name bytes) reply names = refl
for_alike xs ys request reply names = named_alike xs ys (name_of request) names

filter-untimed : (p : Answer → Bool) (ts : List Timed)
    → filter p (untimed ts) ≡ untimed (filter (λ (t : Timed). p t.answer) ts)
filter-untimed p [] = refl
filter-untimed p (t ∷ ts) =
    elim (cases_Bool (p t.answer)) [
      | inl is ↦ rw is (ap (λ (xs : List Answer). t.answer ∷ xs) (filter-untimed p ts))
      | inr fails ↦ rw fails (filter-untimed p ts)
    ]

length-untimed : (ts : List Timed) → length (untimed ts) ≡ length ts
length-untimed [] = refl
length-untimed (t ∷ ts) = omega (arith, length-untimed ts)

pub handle_agrees : (ts before after : List Timed) (t : Timed) → ts ≡ before ++ t ∷ after
    → AreInProgramOrder ts
    → ((name : List ℕ) → length (filter (λ (a : Answer). makes_name name a.request) (untimed ts)) ≤ 1)
    → ((name : List ℕ) → name_used t.answer.request ≡ Some name → IsMadeBefore (untimed before) t.answer.lane.n name)
    → handle_for (untimed before) t.answer.request t.answer.reply ≡ handle_for (untimed (changed_before t.time ts)) t.answer.request t.answer.reply
handle_agrees ts before after t e turn once known =
    for_alike (untimed before) (untimed (changed_before t.time ts)) t.answer.request t.answer.reply (λ name used.
    let few : length (filter (is_make name) ts) ≤ 1 = omega (arith, length-untimed (filter (is_make name) ts), rw (filter-untimed (λ (a : Answer). makes_name name a.request) ts) at (once name)) in
    name_agrees name ts before after t e turn few (known name used))
