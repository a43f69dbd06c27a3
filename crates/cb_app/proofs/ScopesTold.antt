-- What answers say of the scopes of their lanes, told behind answers of other lanes.
use Rattle.std.proofs.Common.{◌≡◌, ℕ, ◌≤◌, Bool, if◌then◌else◌, List, [], ◌∷◌, ◌++◌, map, Option, Some, None, inl, inr, refl, sym, ap, ◌∙◌, subst, append_assoc, ne_eqb, ◌⊎◌, arith}
use Rattle.std.specs.List.{AllByRecursion, fold}
use Rattle.std.proofs.lemmas.List.{append-nil}
use Rattle.std.proofs.lemmas.List.Sums.{fold-append}
use Rattle.cb_types.specs.declared.answer.Answer.{Answer}
use Rattle.cb_types.specs.declared.request.Request.{Request}
use Rattle.cb_types.specs.declared.request.Request.TheVariants.{Make, Read, Write, Free, Pin, Peek, Unpin, Filter}
use Rattle.cb_types.specs.declared.reply.Reply.{Reply}
use Rattle.cb_types.specs.Requests.{name_of}
use Rattle.cb_model.specs.Called.{handle_named, handle_of}
use Rattle.cb_script.specs.declared.script.Line.{Line}
use Rattle.cb_lanes.specs.Asked.{asked}
use Rattle.cb_lanes.specs.Scoped.{AreOneToOne, AreScoped, IsMadeAs}
use Rattle.cb_lanes.specs.Scopes.{KeepScopes, ScopeSays, Scope, scope_after, scope_more, scope_of}
use Rattle.cb_lanes.proofs.Laws.{made_as_left, made_as_right, NoneOfLane}
use Rattle.cb_app.specs.ByLane.{AreOfOthers, IsApart, Uses, of_lane}
use Rattle.cb_app.specs.Crew.{AreFirst}
use Rattle.cb_app.proofs.Lanes.{IsOfLane, of_lane_own}
use Rattle.cb_app.proofs.ToldApart.{unseen}

-- ---- the scope of a lane behind answers of others
scope_unseen : (lane : ℕ) (scope : Scope) (others : List Answer) → NoneOfLane lane others
    → fold (scope_more lane) scope others ≡ scope
scope_unseen lane scope [] none = refl
scope_unseen lane scope (o ∷ others) none =
    ap (λ (b : Bool). fold (scope_more lane) (if b then scope_after scope o.request o.reply else scope)
    others) (ne_eqb o.lane.n lane none.0) ∙ scope_unseen lane scope others none.1

scope_beside : (lane : ℕ) (xs ys zs : List Answer) → NoneOfLane lane ys
    → scope_of lane (xs ++ (ys ++ zs)) ≡ scope_of lane (xs ++ zs)
scope_beside lane xs ys zs none = fold-append (scope_more lane) [] xs (ys ++ zs)
    ∙ fold-append (scope_more lane) (scope_of lane xs) ys zs
    ∙ ap (λ (s : Scope). fold (scope_more lane) s zs) (scope_unseen lane (scope_of lane xs) ys none)
    ∙ sym (fold-append (scope_more lane) [] xs zs)

-- ---- a line on a name that has one handle behind both
same_says : (q : Request) (r : Reply) (scope : Scope) (bs cs : List Answer)
    → ((name : List ℕ) → Uses q name → handle_of bs name ≡ handle_of cs name)
    → ScopeSays (handle_named cs (name_of q)) scope q r
    → ScopeSays (handle_named bs (name_of q)) scope q r
same_says (Make made bytes) r scope bs cs same says = by (handle_of bs made)
  where
    by : (o : Option ℕ) → ScopeSays o scope (Make made bytes) r
    by None = tt
    by (Some h) = tt
same_says (Read name) r scope bs cs same says =
    subst (λ (o : Option ℕ). ScopeSays o scope (Read name) r) (sym (same name refl)) says
same_says (Write name at bytes) r scope bs cs same says =
    subst (λ (o : Option ℕ). ScopeSays o scope (Write name at bytes) r) (sym (same name refl)) says
same_says (Free name) r scope bs cs same says =
    subst (λ (o : Option ℕ). ScopeSays o scope (Free name) r) (sym (same name refl)) says
same_says (Pin name) r scope bs cs same says =
    subst (λ (o : Option ℕ). ScopeSays o scope (Pin name) r) (sym (same name refl)) says
same_says (Peek name) r scope bs cs same says =
    subst (λ (o : Option ℕ). ScopeSays o scope (Peek name) r) (sym (same name refl)) says
same_says (Unpin name) r scope bs cs same says =
    subst (λ (o : Option ℕ). ScopeSays o scope (Unpin name) r) (sym (same name refl)) says
same_says (Filter name) r scope bs cs same says =
    subst (λ (o : Option ℕ). ScopeSays o scope (Filter name) r) (sym (same name refl)) says
same_says q r scope bs cs same says = says

-- ---- answers behind those of other lanes
others_unseen : (a : Answer) (after others : List Answer)
    → AreOfOthers (map asked others) (map asked (a ∷ after)) → NoneOfLane a.lane.n others
others_unseen a after [] none = tt
others_unseen a after (o ∷ others) none =
    (λ same. none.0.0 (inl same), others_unseen a after others none.1)

later_none : (a : Answer) (after others : List Answer)
    → AreOfOthers (map asked others) (map asked (a ∷ after))
    → AreOfOthers (map asked others) (map asked after)
later_none a after [] none = tt
later_none a after (o ∷ others) none = (none.0.1, later_none a after others none.1)

keep_beside : (xs ys zs after : List Answer) → IsApart (map asked ys) (map asked after)
    → AreOfOthers (map asked ys) (map asked after) → KeepScopes (xs ++ zs) after
    → KeepScopes (xs ++ (ys ++ zs)) after
keep_beside xs ys zs [] apart none keep = tt
keep_beside xs ys zs (a ∷ after) apart none keep =
    let more : (xs ++ (ys ++ zs)) ++ a ∷ [] ≡ xs ++ (ys ++ (zs ++ a ∷ [])) =
    append_assoc xs (ys ++ zs) (a ∷ [])
    ∙ ap (λ (bs : List Answer). xs ++ bs) (append_assoc ys zs (a ∷ [])) in (
      subst (λ (s : Scope). ScopeSays (handle_named (xs ++ (ys ++ zs)) (name_of a.request)) s
          a.request a.reply) (sym (scope_beside a.lane.n xs ys zs (others_unseen a after ys none)))
          (same_says a.request a.reply (scope_of a.lane.n (xs ++ zs)) (xs ++ (ys ++ zs)) (xs ++ zs)
          (λ name uses. unseen name xs ys zs (apart name (inl uses))) keep.0),
      subst (λ (bs : List Answer). KeepScopes bs after) (sym more)
          (keep_beside xs ys (zs ++ a ∷ []) after (λ name used. apart name (inr used))
          (later_none a after ys none)
          (subst (λ (bs : List Answer). KeepScopes bs after) (append_assoc xs zs (a ∷ [])) keep.1)),
    )

keep_apart : (given others after : List Answer) → IsApart (map asked others) (map asked after)
    → AreOfOthers (map asked others) (map asked after) → KeepScopes given after
    → KeepScopes (given ++ others) after
keep_apart given others after apart none keep =
    subst (λ (bs : List Answer). KeepScopes (given ++ bs) after) (append-nil others)
    (keep_beside given others [] after apart none
    (subst (λ (bs : List Answer). KeepScopes bs after) (sym (append-nil given)) keep))

keep_both : (before xs ys : List Answer) → KeepScopes before xs → KeepScopes (before ++ xs) ys
    → KeepScopes before (xs ++ ys)
keep_both before [] ys front back =
    subst (λ (bs : List Answer). KeepScopes bs ys) (append-nil before) back
keep_both before (x ∷ xs) ys front back = (
  front.0,
  keep_both (before ++ x ∷ []) xs ys front.1
      (subst (λ (bs : List Answer). KeepScopes bs ys) (sym (append_assoc before (x ∷ []) xs)) back),
)

-- ---- names and handles that are one to one are so of fewer answers
fewer : (xs ys : List Answer) → ((name : List ℕ) (h : ℕ) → IsMadeAs xs name h → IsMadeAs ys name h)
    → AreOneToOne ys → AreOneToOne xs
fewer xs ys all one a b g h p q = one a b g h (all a g p) (all b h q)

made_either : (xs ys : List Answer) (name : List ℕ) (h : ℕ) → IsMadeAs (xs ++ ys) name h
    → IsMadeAs xs name h ⊎ IsMadeAs ys name h
made_either [] ys name h made = inr made
made_either (x ∷ xs) ys name h (inl here) = inl (inl here)
made_either (x ∷ xs) ys name h (inr later) = by (made_either xs ys name h later)
  where
    by : IsMadeAs xs name h ⊎ IsMadeAs ys name h → IsMadeAs (x ∷ xs) name h ⊎ IsMadeAs ys name h
    by (inl own) = inl (inr own)
    by (inr behind) = inr behind

-- answers given, others behind them, and those of another lane
pub scopes_joined : (given others after answers : List Answer) → answers ≡ given ++ others
    → IsApart (map asked others) (map asked after) → AreOfOthers (map asked others) (map asked after)
    → AreScoped [] answers → AreScoped given after → AreScoped [] (answers ++ after)
scopes_joined given others after answers are apart none old new one =
    keep_both [] answers after
    (old (fewer answers (answers ++ after) (made_as_left answers after) one))
    (subst (λ (bs : List Answer). KeepScopes bs after) (sym are)
    (keep_apart given others after apart none (new (fewer (given ++ after) (answers ++ after) both one))))
  where
    both : (name : List ℕ) (h : ℕ) → IsMadeAs (given ++ after) name h
        → IsMadeAs (answers ++ after) name h
    both name h made = by (made_either given after name h made)
      where
        by : IsMadeAs given name h ⊎ IsMadeAs after name h → IsMadeAs (answers ++ after) name h
        by (inl own) = made_as_left answers after name h
            (subst (λ (bs : List Answer). IsMadeAs bs name h) (sym are)
            (made_as_left given others name h own))
        by (inr behind) = made_as_right answers after name h behind

-- a worker answers nothing
pub none_scoped : (given answers : List Answer) → answers ≡ [] → AreScoped given answers
none_scoped given answers none = subst (AreScoped given) (sym none) (λ one. tt)

-- by the answers of lane 0 another lane has no pin
first_are_others : (lane : ℕ) (answers : List Answer) → AreFirst answers → 1 ≤ lane → NoneOfLane lane answers
first_are_others lane [] are other = tt
first_are_others lane (a ∷ later) are other = (
  λ same. let zero = are.0 in absurd (omega (arith, zero, same, other)),
  first_are_others lane later are.1 other,
)

pub no_scope : (lane : ℕ) (given : List Answer) → AreFirst given → 1 ≤ lane → scope_of lane given ≡ []
no_scope lane given are other = scope_unseen lane [] given (first_are_others lane given are other)

-- answers to the lines of lane 0 are its own
asked_first : (answers : List Answer) → AllByRecursion (IsOfLane 0) (map asked answers) → AreFirst answers
asked_first [] are = tt
asked_first (a ∷ later) are = (are.0, asked_first later are.1)

pub first_answers : (lines : List Line) (answers : List Answer) → map asked answers ≡ of_lane 0 lines
    → AreFirst answers
first_answers lines answers is =
    asked_first answers (subst (AllByRecursion (IsOfLane 0)) (sym is) (of_lane_own 0 lines))
