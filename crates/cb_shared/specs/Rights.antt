-- The one object that a turn may write: its pass has an entry of it, or it was never made.
use Rattle.std.specs.Prelude.{ℕ, ◌+◌, cond, eqb, Option, None, Some}
use Rattle.cb_types.specs.declared.job.Job.{Job}
use Rattle.cb_types.specs.declared.job.Job.TheVariants.{Make, Write, Free}
use Rattle.cb_world.specs.declared.object.Object.{Object}
use Rattle.cb_world.specs.declared.object.Object.TheVariants as is
use Rattle.cb_world.specs.declared.shown.Shown.{Shown}
use Rattle.cb_world.specs.FarState.{FarState}
use Rattle.cb_world.specs.Shown.{object_at}
use Rattle.cb_rule.specs.declared.view.View.{View}
use Rattle.cb_rule.specs.Own.{entries_on}

-- 1 for an object that was never made
abbrev pub unmade : Object → ℕ
unmade (is.Empty v) = cond (eqb v 0) 1 0
unmade (is.Far len v words) = 0
unmade (is.Here len place) = 0
unmade (is.Claimed len place v words) = 0

-- above 0 where the turn may write the object, if there is one
abbrev pub rights : Option ℕ → Shown → View → ℕ
rights (Some h) known v = entries_on h v + unmade (object_at known h)
rights None known v = 1

-- the object that a job writes: the next handle, or its own
abbrev pub writes_of : Job → FarState → Option ℕ
writes_of (Make bytes) far = Some far.made
writes_of (Write handle at bytes) far = Some handle.n
writes_of (Free handle) far = Some handle.n
writes_of job far = None
