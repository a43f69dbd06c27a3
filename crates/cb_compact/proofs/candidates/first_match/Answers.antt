use Rattle.std.proofs.Common.{get_or, sym, ap, ◌∙◌, arith, inl, inr}
use Rattle.std.specs.List.{slice_get}
use Rattle.std.proofs.lemmas.Bool.{cases_eq, cases_lt}
use Rattle.std.proofs.lemmas.Option.{slice_get-get_or, slice_get_within}
use Rattle.cb_compact.specs.declared.candidates.Candidate.{Candidate}
use Rattle.cb_compact.proofs.candidates.first_match.Goals as goal

abbrev none_here : Candidate
none_here = record { id = 0; k = 0; r = 0; pages = 0; live = 0 }

pub loop-place-init : goal.loop-place-init
loop-place-init c m n a b below l at_a at_b can = omega (arith, below)

pub loop-place-preserved : goal.loop-place-preserved
loop-place-preserved c m n a b below l at_a at_b can =
    elim (cases_eq m c.loop-place.place) [
      | inl here ↦ c.in_default.ensures.none n a b (omega (arith, l, here))
          (ap (slice_get c.args.found.now) (sym here) ∙ at_a) at_b can
      | inr off ↦ c.loop-place.invariant m n a b (omega (arith, below, off)) l at_a at_b can
    ]

pub returns-clause-none : goal.returns-clause-none
returns-clause-none c m n a b l at_a at_b can =
    c.loop-place.invariant m n a b
    (let e = c.loop-place-test.false in let w = slice_get_within c.args.found.now m a at_a in
    omega (arith, e, w)) l at_a at_b can

pub returns-in-Some-clause-found : goal.returns-in-Some-clause-found
returns-in-Some-clause-found c =
    let found = c.args.found.now in let i = c.loop-place.place in let j = c.in-Some.other in
    let x = c.in-Some.ensures.found in
    let at_i = slice_get-get_or found i none_here c.loop-place-test.true in
    let at_j = slice_get-get_or found j none_here x.within in
    record {
      i = i;
      j = j;
      order = x.order;
      at_i = at_i;
      at_j = at_j;
      match_ = x.can (get_or found i none_here) (get_or found j none_here) at_i at_j;
      least = λ m n a b l at_m at_n can. elim (cases_lt m i) [
        | inl before ↦ absurd (c.loop-place.invariant m n a b before l at_m at_n can)
        | inr after ↦ after
      ];
      least_j = λ n d l at_n can. elim (cases_lt n j) [
        | inl before ↦ absurd (x.least n (get_or found i none_here) d l before at_i at_n can)
        | inr after ↦ after
      ];
    }
