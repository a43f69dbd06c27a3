-- Worked rights of a turn: the object that it may write.
use Rattle.std.proofs.Common.{◌≡◌, ◌≤◌, [], ◌∷◌, Some, None, refl, arith}
use Rattle.cb_types.specs.declared.job.Job.TheVariants.{Make, Write, Free, Evict}
use Rattle.cb_world.specs.declared.object.Object.TheVariants as is
use Rattle.cb_world.specs.declared.shown.Shown.{Shown}
use Rattle.cb_world.specs.Empty.{empty_far}
use Rattle.cb_world.specs.Shown.{never}
use Rattle.cb_rule.specs.Steps.{blank, freed_seen}
use Rattle.cb_shared.specs.Rights.{rights, unmade, writes_of}
use Rattle.cb_shared.proofs.WorkedGround.{part, two}

-- ---- object 0 was never made, object 1 was
abbrev some_known : Shown
some_known = record {
  first = 3;
  objects = never ∷ is.Far 8 3 (2826 ∷ []) ∷ [];
  hots = [];
  versions = [];
  memory = [];
}

was_freed : unmade (is.Empty 4) ≡ 0
was_freed = refl

new_one : 1 ≤ rights (Some 0) some_known (blank two)
new_one = omega arith

known_one : 1 ≤ rights (Some 1) some_known part
known_one = omega arith

read_one : 1 ≤ rights (Some 1) some_known record (blank two) { seen = freed_seen 1 4 ∷ [] }
read_one = omega arith

of_another : 1 ≤ rights (Some 1) some_known (blank two) → ⊥
of_another r = omega (arith, r)

no_object : 1 ≤ rights None some_known (blank two)
no_object = omega arith

-- ---- by the job: a make writes the next handle
next_one : writes_of (Make (7 ∷ [])) record (empty_far 3 two) { made = 1 } ≡ Some 1
next_one = refl

its_own : writes_of (Write record { n = 1 } 0 (7 ∷ [])) (empty_far 3 two) ≡ Some 1
its_own = refl

freed_one : writes_of (Free record { n = 1 }) (empty_far 3 two) ≡ Some 1
freed_one = refl

none_at_all : writes_of Evict (empty_far 3 two) ≡ None
none_at_all = refl
