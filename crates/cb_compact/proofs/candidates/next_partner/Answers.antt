use Rattle.std.proofs.Common.{ℕ, get_or, sym, ap, ◌∙◌, subst, arith, inl, inr}
use Rattle.std.proofs.lemmas.Bool.{cases_eq}
use Rattle.std.proofs.lemmas.Option.{get_or_from_slice_get, slice_get_within}
use Rattle.cb_compact.specs.declared.candidates.Candidate.{Candidate}
use Rattle.cb_compact.specs.Candidates.{CanMatch}
use Rattle.cb_compact.proofs.candidates.next_partner.Goals as goal

abbrev none_here : Candidate
none_here = record { id = 0; k = 0; r = 0; pages = 0; live = 0 }

pub loop-other-init : goal.loop-other-init
loop-other-init c n a b low high at_a at_b can = omega (arith, low, high)

pub loop-other-preserved : goal.loop-other-preserved
loop-other-preserved c n a b low high at_a at_b can =
    let found = c.args.found.now in elim (cases_eq n c.loop-other.other) [
      | inl here ↦ c.can_match.ensures.no c.if-can_match.false
          (subst (λ (x : Candidate). CanMatch x (get_or found c.loop-other.other none_here))
          (sym (get_or_from_slice_get found c.args.place a none_here at_a))
          (subst (λ (y : Candidate). CanMatch a y)
          (sym (ap (λ (m : ℕ). get_or found m none_here) (sym here)
          ∙ get_or_from_slice_get found n b none_here at_b)) can))
      | inr off ↦ c.loop-other.invariant n a b low (omega (arith, high, off)) at_a at_b can
    ]

pub returns-then-can_match-clause-found : goal.returns-then-can_match-clause-found
returns-then-can_match-clause-found c =
    let found = c.args.found.now in record {
      order = let l = c.loop-other.auto.other in omega (arith, l);
      within = c.loop-other-test.true;
      can = λ a b at_a at_b.
          subst (λ (x : Candidate). CanMatch x b) (get_or_from_slice_get found c.args.place a
          none_here at_a)
          (subst (λ (y : Candidate). CanMatch (get_or found c.args.place none_here) y)
          (get_or_from_slice_get found c.loop-other.other b none_here at_b)
          (c.can_match.ensures.yes c.if-can_match.true));
      least = λ n a b low high at_a at_b can. c.loop-other.invariant n a b low high at_a at_b can;
    }

pub returns-clause-none : goal.returns-clause-none
returns-clause-none c n a b low at_a at_b can =
    c.loop-other.invariant n a b low
    (let l = c.loop-other-test.false in let w = slice_get_within c.args.found.now n b at_b in
    omega (arith, l, w)) at_a at_b can
