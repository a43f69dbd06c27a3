-- A plan of one call goes as the call was answered.
use Rattle.std.proofs.Common.{◌≡◌, ℕ, List, [], ◌∷◌, Option, Some, None, Result, Ok, Err, IfOk, IsErrAnd, OnErr, refl, sym, ap, ◌∙◌, subst, inl}
use Rattle.std.proofs.lemmas.Result.{err_from_is_err_and}
use Rattle.cb_member.specs.declared.no_memory.NoMemory.{NoMemory as Want}
use Rattle.cb_types.specs.declared.config.Config.{Config}
use Rattle.cb_types.specs.declared.job.Job.TheVariants as jobs
use Rattle.cb_types.specs.declared.reply.Reply.{Reply}
use Rattle.cb_rule.specs.declared.view.View.{View}
use Rattle.cb_shared.specs.Calls.{LooksOf, OfThis, ReadGives, ReadStops, TurnGives, TurnStops, WriteAnswers, WriteStops}
use Rattle.cb_shared.specs.Making.{MakesNew}
use Rattle.cb_shared.proofs.Laws.{stops_at_once}
use Rattle.cb_farmap.specs.declared.kept.Cannot.{Cannot}
use Rattle.cb_farmap.specs.declared.kept.Cannot.TheVariants as cannot
use Rattle.cb_farmap.specs.declared.kept.KeptObject.{KeptObject}
use Rattle.cb_farmap.specs.Calls.{Ask, AskMake, AskRead, AskWrite, CallGives, CallStops, Fails, Goes, IsInOrder, Tells, trouble}

module _ (c : Config) (first : ℕ) (ask : Ask) (v u w : View) (same : w ≡ u) where
  failed : (e : Cannot) → Fails c first ask e v u → Goes c first (ask ∷ []) (Some e) v w
  failed e x = inl (subst (Fails c first ask e v) (sym same) x)

  lacked : (e : Cannot) → Some e ≡ Some cannot.NoMemory → CallStops c ask v u
      → Goes c first (ask ∷ []) (Some e) v w
  lacked cannot.NoMemory is x = failed cannot.NoMemory x
  lacked (cannot.Refused reply) is x = absurd cc
  lacked (cannot.Foreign handle kept found) is x = absurd cc

  -- by what the call was answered, and what is told of it
  pub goes_by : (r : Result Reply Want) (t : Option Cannot) → Tells ask r t
      → IfOk r (λ x. CallGives c first ask x v u) → OnErr r (CallStops c ask v u)
      → Goes c first (ask ∷ []) t v w
  goes_by (Ok r) None tells gives stops = (u, (r, tells, gives), same)
  goes_by (Ok r) (Some cannot.NoMemory) tells gives stops = absurd tells
  goes_by (Ok r) (Some (cannot.Refused reply)) (is, odd) gives stops =
      subst (λ (x : Reply). Goes c first (ask ∷ []) (Some (cannot.Refused x)) v w) (sym is)
      (failed (cannot.Refused r) (odd, gives))
  goes_by (Ok r) (Some (cannot.Foreign handle kept found)) (of, odd) gives stops =
      failed (cannot.Foreign handle kept found) (of, (r, odd, gives))
  goes_by (Err e) None tells gives stops = absurd cc
  goes_by (Err e) (Some x) tells gives stops = lacked x tells stops

-- what holds of what was answered, or of the record where there was no memory, and beside it
both_ok : (P : Reply → Type 0) (X : Type 0) (r : Result Reply Want) → IfOk r P → X
    → IfOk r (λ x. P x × X)
both_ok P X (Ok x) holds beside = (holds, beside)
both_ok P X (Err e) holds beside = tt

both_err : (P X : Type 0) (r : Result Reply Want) → OnErr r P → X → OnErr r (P × X)
both_err P X (Ok x) holds beside = tt
both_err P X (Err e) holds beside = (holds, beside)

-- ---- a read, and a write
module _ (c : Config) (first : ℕ) (k : KeptObject) (v u w : View) (same : w ≡ u)
    (r : Result Reply Want) (t : Option Cannot) where
  pub goes_read : Tells (AskRead k) r t → IfOk r (λ x. ReadGives c k.handle.n x v u)
      → OnErr r (ReadStops c k.handle.n v u) → IsInOrder (AskRead k) v u
      → Goes c first (AskRead k ∷ []) t v w
  goes_read tells gives stops order = goes_by c first (AskRead k) v u w same r t tells
      (both_ok (λ x. ReadGives c k.handle.n x v u) (IsInOrder (AskRead k) v u) r gives order)
      (both_err (ReadStops c k.handle.n v u) (IsInOrder (AskRead k) v u) r stops order)

  pub goes_write : (at : ℕ) (bytes : List ℕ) → Tells (AskWrite k at bytes) r t
      → IfOk r (λ x. WriteAnswers c k.handle.n at bytes x v u)
      → OnErr r (WriteStops c k.handle.n at bytes v u) → IsInOrder (AskWrite k at bytes) v u
      → Goes c first (AskWrite k at bytes ∷ []) t v w
  goes_write at bytes tells gives stops order = goes_by c first (AskWrite k at bytes) v u w same r t
      tells (both_ok (λ x. WriteAnswers c k.handle.n at bytes x v u)
      (IsInOrder (AskWrite k at bytes) v u) r gives order)
      (both_err (WriteStops c k.handle.n at bytes v u) (IsInOrder (AskWrite k at bytes) v u) r stops
      order)

-- ---- a make
pub make_gives : (c : Config) (first : ℕ) (bytes : List ℕ) (r : Result Reply Want) (v w : View)
    → IfOk r (λ x. TurnGives c (jobs.Make bytes) x v w)
    → IfOk r (λ x. MakesNew first (jobs.Make bytes) x v)
    → IfOk r (λ x. CallGives c first (AskMake bytes) x v w)
make_gives c first bytes (Ok x) v w gives new = (gives, new)
make_gives c first bytes (Err e) v w gives new = tt

-- one for which there was no place, so that no try was made
pub no_place : (c : Config) (first : ℕ) (bytes : List ℕ) (v w : View) → w ≡ v
    → Goes c first (AskMake bytes ∷ []) (Some cannot.NoMemory) v w
no_place c first bytes v w same =
    inl (subst (TurnStops c (jobs.Make bytes) v) (sym same)
    (stops_at_once c (LooksOf (jobs.Make bytes)) (OfThis (jobs.Make bytes)) v))

-- ---- what a `?` hands on
-- there was no place
pub no_place_told : {X : Type 0} (c : Config) (first : ℕ) (bytes : List ℕ) (v : View)
    (r : Result X Cannot) → IsErrAnd r (λ e. e ≡ cannot.NoMemory)
    → Goes c first (AskMake bytes ∷ []) (trouble r) v v
no_place_told c first bytes v r is = let z = err_from_is_err_and r is in
    subst (λ (t : Option Cannot). Goes c first (AskMake bytes ∷ []) t v v)
    (sym (ap trouble z.1 ∙ ap (λ (e : Cannot). Some e) z.2)) (no_place c first bytes v v refl)
