-- The filter stays below the configured handles.
use Rattle.std.specs.Prelude.{◌≡◌, ℕ, suc, ◌<◌, ltb, if◌then◌else◌, Bool, true, false, refl}
use Rattle.std.proofs.lemmas.Bool.{ltb-true}
use Rattle.cb_types.specs.declared.reply.Reply.{Reply}
use Rattle.cb_types.specs.declared.reply.Reply.TheVariants as answer
use Rattle.cb_workers.specs.Rules.{next_visit}

below_by : (handles h : ℕ) → (b : Bool) → ltb (suc h) handles ≡ b → 0 < handles
    → (if b then suc h else 0) < handles
below_by handles h true e some = ltb-true (suc h) handles e
below_by handles h false e some = some

pub next_visit_below : (handles h : ℕ) → (r : Reply) → 0 < handles
    → next_visit handles h r < handles
next_visit_below handles h answer.Unmade some = some
next_visit_below handles h r some = below_by handles h (ltb (suc h) handles) refl some
