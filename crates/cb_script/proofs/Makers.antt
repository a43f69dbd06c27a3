-- The names that are kept, each with the lane that made it, as lines are added.
use Rattle.std.proofs.Common.{◌≡◌, ℕ, Bool, cond, List, [], ◌∷◌, ◌++◌, Option, Some, None, Result, Ok, Err, ◌⊎◌, inl, inr, refl, true, sym, ap, ◌∙◌, subst}
use Rattle.std.specs.Prelude.{IfOk}
use Rattle.std.specs.BTreeMap.{BTreeMap, get}
use Rattle.std.specs.Ordering.{nat_cmp, is_eq}
use Rattle.std.specs.Cmp.{Equal-is, nat_cmp_is}
use Rattle.std.specs.declared.cmp.Ordering.TheVariants.{Equal}
use Rattle.std.proofs.lemmas.Bool.{cases_Bool, true≢false}
use Rattle.std.proofs.lemmas.Map.Lookups.{exact_unsigned}
use Rattle.cb_types.specs.declared.handle.Lane.{Lane}
use Rattle.cb_types.specs.declared.request.Request.{Request}
use Rattle.cb_types.specs.declared.request.Request.TheVariants.{Make}
use Rattle.cb_script.specs.declared.fault.Refusal.{Refusal}
use Rattle.cb_script.specs.declared.script.Line.{Line}
use Rattle.cb_script.specs.Form.{IsName, IsNameMade, IsNameNew, MakesName, names_made}
use Rattle.cb_script.specs.Reading.{HasNames, IsMaker, StaysNamed, maker_of, number_of_name}
use Rattle.cb_script.proofs.NameNumbers.{one_name}

-- ---- one more line

pub made_before : (before : List Line) (l : Line) (lane : ℕ) (name : List ℕ) → IsNameMade before lane name → IsNameMade (before ++ l ∷ []) lane name
made_before [] l lane name is = absurd is
made_before (m ∷ before) l lane name (inl here) = inl here
made_before (m ∷ before) l lane name (inr later) = inr (made_before before l lane name later)

pub made_here : (before : List Line) (l : Line) (name : List ℕ) → MakesName l.request name → IsNameMade (before ++ l ∷ []) l.lane.n name
made_here [] l name makes = inl (refl, makes)
made_here (m ∷ before) l name makes = inr (made_here before l name makes)

pub made_cases : (before : List Line) (l : Line) (lane : ℕ) (name : List ℕ) → IsNameMade (before ++ l ∷ []) lane name → IsNameMade before lane name ⊎ ((l.lane.n ≡ lane) × MakesName l.request name)
made_cases [] l lane name (inl here) = inr here
made_cases [] l lane name (inr later) = absurd later
made_cases (m ∷ before) l lane name (inl here) = inl (inl here)
made_cases (m ∷ before) l lane name (inr later) = elim (made_cases before l lane name later) [ inl is ↦ inl (inr is) | inr here ↦ inr here ]

makes_one : (r : Request) (name other : List ℕ) → MakesName r name → MakesName r other
    → name ≡ other
makes_one (Make made_name bytes) name other is also = sym is ∙ also
makes_one _ name other is also = absurd is

makes_none : (r : Request) (name : List ℕ) → names_made r ≡ [] → MakesName r name → ⊥
makes_none (Make made_name bytes) name none is = absurd cc
makes_none _ name none is = is

-- a line that does not make the name leaves its maker
maker_stays : (before : List Line) (l : Line) (name : List ℕ) (maker : Option ℕ) → (MakesName l.request name → ⊥) → IsMaker before name maker → IsMaker (before ++ l ∷ []) name maker
maker_stays before l name None other is = λ lane made. elim (made_cases before l lane name made) [ inl earlier ↦ is lane earlier | inr here ↦ other here.1 ]
maker_stays before l name (Some maker) other is = (
  made_before before l maker name is.0,
  λ lane made. elim (made_cases before l lane name made) [ inl earlier ↦ is.1 lane earlier | inr here ↦ absurd (other here.1) ],
)

maker_here : (before : List Line) (l : Line) (lane : ℕ) (name : List ℕ) → l.lane.n ≡ lane → MakesName l.request name → IsNameNew before name → IsMaker (before ++ l ∷ []) name (Some lane)
maker_here before l lane name at makes new = (
  subst (λ (n : ℕ). IsNameMade (before ++ l ∷ []) n name) at (made_here before l name makes),
  λ other made. elim (made_cases before l other name made) [ inl earlier ↦ absurd (new other earlier) | inr here ↦ sym here.0 ∙ at ],
)

-- equal numbers compare so, and no others
equal_numbers : (m n : ℕ) → is_eq (nat_cmp m n) ≡ true → m ≡ n
equal_numbers m n e = exact_unsigned m n ((Equal-is (nat_cmp m n)).0 e)

same_numbers : (m n : ℕ) → m ≡ n → is_eq (nat_cmp m n) ≡ true
same_numbers m n e = (Equal-is (nat_cmp m n)).1 (sym (nat_cmp_is m n Equal e))

pub names_more : (names more : BTreeMap ℕ ℕ) (before : List Line) (l : Line) (lane : Lane) (name : List ℕ) → IsName name → HasNames names before → IsNameNew before name → l.lane ≡ lane → MakesName l.request name
    → ((q : ℕ) → get nat_cmp more q ≡ cond (is_eq (nat_cmp (number_of_name name) q)) (Some lane.n) (get nat_cmp names q)) → HasNames more (before ++ l ∷ [])
names_more names more before l lane name named has new at makes updated q also =
    let m = number_of_name name in
    let n = number_of_name q in
    elim (cases_Bool (is_eq (nat_cmp m n))) [
      | inl same ↦
          let one : name ≡ q = one_name name q named also (equal_numbers m n same) in
          let is : maker_of more q ≡ Some lane.n = updated n ∙ ap (λ (b : Bool). cond b (Some lane.n) (maker_of names q)) same in
          subst (λ (o : Option ℕ). IsMaker (before ++ l ∷ []) q o) (sym is) (subst (λ (n : List ℕ). IsMaker (before ++ l ∷ []) n (Some lane.n)) one (maker_here before l lane.n name (ap (λ (x : Lane). x.n) at) makes new))
      | inr differs ↦
          let other : MakesName l.request q → ⊥ = λ another. true≢false (sym (same_numbers m n (ap number_of_name (makes_one l.request name q makes another))) ∙ differs) in
          let is : maker_of more q ≡ maker_of names q = updated n ∙ ap (λ (b : Bool). cond b (Some lane.n) (maker_of names q)) differs in
          subst (λ (o : Option ℕ). IsMaker (before ++ l ∷ []) q o) (sym is) (maker_stays before l q (maker_of names q) other (has q also))
    ]

-- a request that makes no name
pub names_stay : (names : BTreeMap ℕ ℕ) (before : List Line) (lane : Lane) (r : Request) → HasNames names before → names_made r ≡ [] → StaysNamed names before lane r
names_stay names before lane r has none line name named =
    maker_stays before (record { lane = lane; line = line; request = r }) name (maker_of names name) (λ makes. makes_none r name none makes) (has name named)

pub names_stay_where : (names : BTreeMap ℕ ℕ) (before : List Line) (lane : Lane) (r : Result Request Refusal) → HasNames names before → IfOk r (λ x. names_made x ≡ []) → IfOk r (λ x. StaysNamed names before lane x)
names_stay_where names before lane (Ok r) has none = names_stay names before lane r has none
names_stay_where names before lane (Err e) has none = tt
