use Rattle.std.proofs.Common.{◌≡◌, ℕ, ◌<◌, ◌^◌, Some, length, sym, subst, arith}
use Rattle.cb_class.specs.Class.{IsClass}
use Rattle.cb_span.specs.Contents.{Contents}
use Rattle.cb_types.specs.declared.config.Field.TheVariants.{Frames}
use Rattle.cb_world.specs.FarState.{FarState, span_in}
use Rattle.cb_shared.proofs.trying.is_wide.Goals as goal

pub has_wide_span-requires-clause-few : goal.has_wide_span-requires-clause-few
has_wide_span-requires-clause-few c =
    subst (λ (far : FarState). length far.spans < 2 ^ 32) (sym c.far.view_is)
    (let e = c.requires.stood.1.configured.frames in let b = (c.requires.config Frames).1 in
    omega (arith, e, b))

pub has_wide_span-requires-clause-classed : goal.has_wide_span-requires-clause-classed
has_wide_span-requires-clause-classed c = subst (λ (far : FarState). (f : ℕ) (span : Contents)
    → span_in far.spans f ≡ Some span → IsClass span.class) (sym c.far.view_is)
    (λ f span there. (c.requires.stood.1.sound.here.frames.valid f span there).in_table)
