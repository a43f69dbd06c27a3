-- The least reason whose rule is broken, from the rules of lesser numbers one by one.
use Rattle.std.proofs.Common.{◌<◌, arith}
use Rattle.cb_script.specs.declared.fault.Reason.{Reason}
use Rattle.cb_script.specs.declared.fault.Reason.TheVariants as reasons
use Rattle.cb_script.specs.Reasons.{reason_number}
use Rattle.cb_script.specs.Rules.{IsLeast}

module _ (R : Reason → Type 0) where
  below_lines : R reasons.TooLong → R reasons.Header → R reasons.Config → (other : Reason) → reason_number other < 4 → R other
  below_lines r1 r2 r3 reasons.TooLong below = r1
  below_lines r1 r2 r3 reasons.Header below = r2
  below_lines r1 r2 r3 reasons.Config below = r3
  below_lines r1 r2 r3 _ below = absurd (omega (arith, below))

  pub least_lines : R reasons.TooLong → R reasons.Header → R reasons.Config → (R reasons.Lines → ⊥) → IsLeast R reasons.Lines
  least_lines r1 r2 r3 broken = record { broken = broken; lesser = λ other below. below_lines r1 r2 r3 other below }

  below_lane : R reasons.TooLong → R reasons.Header → R reasons.Config → R reasons.Lines → R reasons.Shape → (other : Reason) → reason_number other < 6 → R other
  below_lane r1 r2 r3 r4 r5 reasons.TooLong below = r1
  below_lane r1 r2 r3 r4 r5 reasons.Header below = r2
  below_lane r1 r2 r3 r4 r5 reasons.Config below = r3
  below_lane r1 r2 r3 r4 r5 reasons.Lines below = r4
  below_lane r1 r2 r3 r4 r5 reasons.Shape below = r5
  below_lane r1 r2 r3 r4 r5 _ below = absurd (omega (arith, below))

  pub least_lane : R reasons.TooLong → R reasons.Header → R reasons.Config → R reasons.Lines → R reasons.Shape → (R reasons.Lane → ⊥) → IsLeast R reasons.Lane
  least_lane r1 r2 r3 r4 r5 broken = record { broken = broken; lesser = λ other below. below_lane r1 r2 r3 r4 r5 other below }

  below_name : R reasons.TooLong → R reasons.Header → R reasons.Config → R reasons.Lines → R reasons.Shape → R reasons.Lane → (other : Reason) → reason_number other < 7 → R other
  below_name r1 r2 r3 r4 r5 r6 reasons.TooLong below = r1
  below_name r1 r2 r3 r4 r5 r6 reasons.Header below = r2
  below_name r1 r2 r3 r4 r5 r6 reasons.Config below = r3
  below_name r1 r2 r3 r4 r5 r6 reasons.Lines below = r4
  below_name r1 r2 r3 r4 r5 r6 reasons.Shape below = r5
  below_name r1 r2 r3 r4 r5 r6 reasons.Lane below = r6
  below_name r1 r2 r3 r4 r5 r6 _ below = absurd (omega (arith, below))

  pub least_name : R reasons.TooLong → R reasons.Header → R reasons.Config → R reasons.Lines → R reasons.Shape → R reasons.Lane → (R reasons.Name → ⊥) → IsLeast R reasons.Name
  least_name r1 r2 r3 r4 r5 r6 broken = record { broken = broken; lesser = λ other below. below_name r1 r2 r3 r4 r5 r6 other below }

  below_known : R reasons.TooLong → R reasons.Header → R reasons.Config → R reasons.Lines → R reasons.Shape → R reasons.Lane → R reasons.Name → (other : Reason) → reason_number other < 8 → R other
  below_known r1 r2 r3 r4 r5 r6 r7 reasons.TooLong below = r1
  below_known r1 r2 r3 r4 r5 r6 r7 reasons.Header below = r2
  below_known r1 r2 r3 r4 r5 r6 r7 reasons.Config below = r3
  below_known r1 r2 r3 r4 r5 r6 r7 reasons.Lines below = r4
  below_known r1 r2 r3 r4 r5 r6 r7 reasons.Shape below = r5
  below_known r1 r2 r3 r4 r5 r6 r7 reasons.Lane below = r6
  below_known r1 r2 r3 r4 r5 r6 r7 reasons.Name below = r7
  below_known r1 r2 r3 r4 r5 r6 r7 _ below = absurd (omega (arith, below))

  pub least_known : R reasons.TooLong → R reasons.Header → R reasons.Config → R reasons.Lines → R reasons.Shape → R reasons.Lane → R reasons.Name → (R reasons.Known → ⊥) → IsLeast R reasons.Known
  least_known r1 r2 r3 r4 r5 r6 r7 broken = record { broken = broken; lesser = λ other below. below_known r1 r2 r3 r4 r5 r6 r7 other below }

  below_number : R reasons.TooLong → R reasons.Header → R reasons.Config → R reasons.Lines → R reasons.Shape → R reasons.Lane → R reasons.Name → R reasons.Known → (other : Reason) → reason_number other < 9 → R other
  below_number r1 r2 r3 r4 r5 r6 r7 r8 reasons.TooLong below = r1
  below_number r1 r2 r3 r4 r5 r6 r7 r8 reasons.Header below = r2
  below_number r1 r2 r3 r4 r5 r6 r7 r8 reasons.Config below = r3
  below_number r1 r2 r3 r4 r5 r6 r7 r8 reasons.Lines below = r4
  below_number r1 r2 r3 r4 r5 r6 r7 r8 reasons.Shape below = r5
  below_number r1 r2 r3 r4 r5 r6 r7 r8 reasons.Lane below = r6
  below_number r1 r2 r3 r4 r5 r6 r7 r8 reasons.Name below = r7
  below_number r1 r2 r3 r4 r5 r6 r7 r8 reasons.Known below = r8
  below_number r1 r2 r3 r4 r5 r6 r7 r8 _ below = absurd (omega (arith, below))

  pub least_number : R reasons.TooLong → R reasons.Header → R reasons.Config → R reasons.Lines → R reasons.Shape → R reasons.Lane → R reasons.Name → R reasons.Known → (R reasons.Number → ⊥) → IsLeast R reasons.Number
  least_number r1 r2 r3 r4 r5 r6 r7 r8 broken = record { broken = broken; lesser = λ other below. below_number r1 r2 r3 r4 r5 r6 r7 r8 other below }

  below_hex : R reasons.TooLong → R reasons.Header → R reasons.Config → R reasons.Lines → R reasons.Shape → R reasons.Lane → R reasons.Name → R reasons.Known → R reasons.Number → (other : Reason) → reason_number other < 10 → R other
  below_hex r1 r2 r3 r4 r5 r6 r7 r8 r9 reasons.TooLong below = r1
  below_hex r1 r2 r3 r4 r5 r6 r7 r8 r9 reasons.Header below = r2
  below_hex r1 r2 r3 r4 r5 r6 r7 r8 r9 reasons.Config below = r3
  below_hex r1 r2 r3 r4 r5 r6 r7 r8 r9 reasons.Lines below = r4
  below_hex r1 r2 r3 r4 r5 r6 r7 r8 r9 reasons.Shape below = r5
  below_hex r1 r2 r3 r4 r5 r6 r7 r8 r9 reasons.Lane below = r6
  below_hex r1 r2 r3 r4 r5 r6 r7 r8 r9 reasons.Name below = r7
  below_hex r1 r2 r3 r4 r5 r6 r7 r8 r9 reasons.Known below = r8
  below_hex r1 r2 r3 r4 r5 r6 r7 r8 r9 reasons.Number below = r9
  below_hex r1 r2 r3 r4 r5 r6 r7 r8 r9 _ below = absurd (omega (arith, below))

  pub least_hex : R reasons.TooLong → R reasons.Header → R reasons.Config → R reasons.Lines → R reasons.Shape → R reasons.Lane → R reasons.Name → R reasons.Known → R reasons.Number → (R reasons.Hex → ⊥) → IsLeast R reasons.Hex
  least_hex r1 r2 r3 r4 r5 r6 r7 r8 r9 broken = record { broken = broken; lesser = λ other below. below_hex r1 r2 r3 r4 r5 r6 r7 r8 r9 other below }

  below_length : R reasons.TooLong → R reasons.Header → R reasons.Config → R reasons.Lines → R reasons.Shape → R reasons.Lane → R reasons.Name → R reasons.Known → R reasons.Number → R reasons.Hex → (other : Reason) → reason_number other < 11 → R other
  below_length r1 r2 r3 r4 r5 r6 r7 r8 r9 r10 reasons.TooLong below = r1
  below_length r1 r2 r3 r4 r5 r6 r7 r8 r9 r10 reasons.Header below = r2
  below_length r1 r2 r3 r4 r5 r6 r7 r8 r9 r10 reasons.Config below = r3
  below_length r1 r2 r3 r4 r5 r6 r7 r8 r9 r10 reasons.Lines below = r4
  below_length r1 r2 r3 r4 r5 r6 r7 r8 r9 r10 reasons.Shape below = r5
  below_length r1 r2 r3 r4 r5 r6 r7 r8 r9 r10 reasons.Lane below = r6
  below_length r1 r2 r3 r4 r5 r6 r7 r8 r9 r10 reasons.Name below = r7
  below_length r1 r2 r3 r4 r5 r6 r7 r8 r9 r10 reasons.Known below = r8
  below_length r1 r2 r3 r4 r5 r6 r7 r8 r9 r10 reasons.Number below = r9
  below_length r1 r2 r3 r4 r5 r6 r7 r8 r9 r10 reasons.Hex below = r10
  below_length r1 r2 r3 r4 r5 r6 r7 r8 r9 r10 _ below = absurd (omega (arith, below))

  pub least_length : R reasons.TooLong → R reasons.Header → R reasons.Config → R reasons.Lines → R reasons.Shape → R reasons.Lane → R reasons.Name → R reasons.Known → R reasons.Number → R reasons.Hex → (R reasons.Length → ⊥) → IsLeast R reasons.Length
  least_length r1 r2 r3 r4 r5 r6 r7 r8 r9 r10 broken = record { broken = broken; lesser = λ other below. below_length r1 r2 r3 r4 r5 r6 r7 r8 r9 r10 other below }

  below_mode : R reasons.TooLong → R reasons.Header → R reasons.Config → R reasons.Lines → R reasons.Shape → R reasons.Lane → R reasons.Name → R reasons.Known → R reasons.Number → R reasons.Hex → R reasons.Length → (other : Reason) → reason_number other < 12 → R other
  below_mode r1 r2 r3 r4 r5 r6 r7 r8 r9 r10 r11 reasons.TooLong below = r1
  below_mode r1 r2 r3 r4 r5 r6 r7 r8 r9 r10 r11 reasons.Header below = r2
  below_mode r1 r2 r3 r4 r5 r6 r7 r8 r9 r10 r11 reasons.Config below = r3
  below_mode r1 r2 r3 r4 r5 r6 r7 r8 r9 r10 r11 reasons.Lines below = r4
  below_mode r1 r2 r3 r4 r5 r6 r7 r8 r9 r10 r11 reasons.Shape below = r5
  below_mode r1 r2 r3 r4 r5 r6 r7 r8 r9 r10 r11 reasons.Lane below = r6
  below_mode r1 r2 r3 r4 r5 r6 r7 r8 r9 r10 r11 reasons.Name below = r7
  below_mode r1 r2 r3 r4 r5 r6 r7 r8 r9 r10 r11 reasons.Known below = r8
  below_mode r1 r2 r3 r4 r5 r6 r7 r8 r9 r10 r11 reasons.Number below = r9
  below_mode r1 r2 r3 r4 r5 r6 r7 r8 r9 r10 r11 reasons.Hex below = r10
  below_mode r1 r2 r3 r4 r5 r6 r7 r8 r9 r10 r11 reasons.Length below = r11
  below_mode r1 r2 r3 r4 r5 r6 r7 r8 r9 r10 r11 _ below = absurd (omega (arith, below))

  pub least_mode : R reasons.TooLong → R reasons.Header → R reasons.Config → R reasons.Lines → R reasons.Shape → R reasons.Lane → R reasons.Name → R reasons.Known → R reasons.Number → R reasons.Hex → R reasons.Length → (R reasons.Mode → ⊥) → IsLeast R reasons.Mode
  least_mode r1 r2 r3 r4 r5 r6 r7 r8 r9 r10 r11 broken = record { broken = broken; lesser = λ other below. below_mode r1 r2 r3 r4 r5 r6 r7 r8 r9 r10 r11 other below }
