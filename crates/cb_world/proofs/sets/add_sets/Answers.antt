use Rattle.std.proofs.Common.{◌≡◌, ℕ, Some, inl, inr, sym, ap, ◌∙◌, subst, get_or, arith, rules}
use Rattle.std.specs.List.{slice_get}
use Rattle.std.proofs.lemmas.Bool.{cases_eq}
use Rattle.std.proofs.lemmas.Option.{get_or_from_slice_get, slice_get_within}
use Rattle.cb_world.specs.declared.groups.Group.{Group}
use Rattle.cb_world.specs.Groups.{group_of}
use Rattle.cb_world.specs.Sets.{set_in}
use Rattle.cb_world.proofs.sets.add_sets.Goals as goal

pub add_set-requires : goal.add_set-requires
add_set-requires c = record { none = c.loop-at.invariant.0 }

pub loop-at-init : goal.loop-at-init
loop-at-init c = (
  c.requires.none,
  (λ (g : Group). λ among. among),
  λ i id set below found is. absurd (omega (arith, below)),
)

pub returns-then-not-add_set-clause-none : goal.returns-then-not-add_set-clause-none
returns-then-not-add_set-clause-none c = c.add_set.ensures.none

pub returns-then-not-add_set-clause-keeps : goal.returns-then-not-add_set-clause-keeps
returns-then-not-add_set-clause-keeps c =
    λ g among. c.add_set.ensures.keeps g (c.loop-at.invariant.1 g among)

pub loop-at-preserved : goal.loop-at-preserved
loop-at-preserved c =
    let more = c.add_set.ensures in
    let at = c.loop-at.at in (
      more.none,
      (λ (g : Group). λ among. more.keeps g (c.loop-at.invariant.1 g among)),
      λ i id set below found is. elim (cases_eq i at) [
        | inl here ↦
            let value : get_or c.args.changed.now at 0 ≡ id =
            get_or_from_slice_get c.args.changed.now at id 0
            (ap (slice_get c.args.changed.now) (sym here) ∙ found) in
            more.among (search rules) set
            (subst (λ (n : ℕ). set_in c.args.table.now n ≡ Some set) (sym value) is)
        | inr other ↦ more.keeps (group_of set)
            (c.loop-at.invariant.2 i id set (omega (arith, below, other)) found is)
      ],
    )

pub returns-clause-none : goal.returns-clause-none
returns-clause-none c = c.loop-at.invariant.0

pub returns-clause-keeps : goal.returns-clause-keeps
returns-clause-keeps c = c.loop-at.invariant.1

pub returns-clause-among : goal.returns-clause-among
returns-clause-among c = λ all id set among is.
    c.loop-at.invariant.2 among.0 id set
    (omega (arith, slice_get_within c.args.changed.now among.0 id among.1, c.loop-at-test.false))
    among.1 is
