-- Worked examples of frames whose span has an empty slot.
use Rattle.std.proofs.Common.{◌≡◌, [], ◌∷◌, None, Some, refl, lit<, arith}
use Rattle.cb_span.specs.declared.temp.Temp.TheVariants.{Hot, Cold}
use Rattle.cb_span.specs.Contents.{span_of}
use Rattle.cb_world.specs.OpenSpans.{IsOpenSpan, MayTake, open_kind}
use Rattle.cb_world.proofs.Apart.{some_same}
use Rattle.cb_world.proofs.WorkedWorld.{far, largest}

has_room : IsOpenSpan far.spans largest Cold 0
has_room = refl

of_another_temperature : ¬ (IsOpenSpan far.spans largest Hot 0)
of_another_temperature e = absurd (let z : 23 ≡ 22 = some_same 23 22 e in omega (arith, z))

of_another_class : ¬ (IsOpenSpan far.spans (record { index = 10 }) Cold 0)
of_another_class e = absurd (let z : 23 ≡ 21 = some_same 23 21 e in omega (arith, z))

without_a_span : ¬ (IsOpenSpan far.spans largest Cold 1)
without_a_span e = absurd (let z : None ≡ Some 23 = e in cc)

full : open_kind (Some (span_of largest Cold (Some 1 ∷ Some 2 ∷ []))) ≡ None
full = refl

passed_over : ¬ (MayTake far.spans largest Cold (3 ∷ 0 ∷ []) 0)
passed_over may = may.1 (1, lit< tt, refl)
