-- What an encoder is for, and how the calls on one end.
use Rattle.std.specs.Prelude.{◌≡◌, ℕ, ◌*◌, ◌<◌, List, Option, None, Some, IsSome, length}
use Rattle.std.specs.Option.{option_map}
use Rattle.cb_gf256.specs.Block.{cut_rows}
use Rattle.cb_gf256.specs.InRange.{IsInRange}
use Rattle.carbink_c.specs.declared.encoder.Encoder.{Encoder}
use Rattle.carbink_c.specs.declared.prepared.CarbinkEncoder.{CarbinkEncoder}
use Rattle.carbink_c.specs.declared.status.Status.{Status}
use Rattle.carbink_c.specs.declared.status.Status.TheVariants.{Done, BadCode, BadLength, BadBuffer, NoMemory, NoEncoder, HasEncoder}
use Rattle.carbink_c.specs.Made.{AreParities}

-- the code of k and r, with rows of so many bytes
pub record Shape : Type 0 where
  pub k : ℕ
  pub r : ℕ
  pub len : ℕ

abbrev pub shape_of : Encoder → Shape
shape_of e = record { k = e.k; r = length e.code; len = e.len }

-- that of the encoder that a handle holds, if there is one
abbrev pub shape_in : CarbinkEncoder → Option Shape
shape_in handle = option_map shape_of handle.kept.encoder

-- An encoder is made where there was none. A handle with an encoder, then no such code, rows of no
-- bytes and running out of memory are told, and all stays.
abbrev pub BeginsEncoder : Shape → Option Shape → Option Shape → Status → Type 0
BeginsEncoder s old new Done = (old ≡ None) × IsInRange s.k s.r × (0 < s.len) × (new ≡ Some s)
BeginsEncoder s old new HasEncoder = IsSome old × (new ≡ old)
BeginsEncoder s old new BadCode = (old ≡ None) × ¬ (IsInRange s.k s.r) × (new ≡ old)
BeginsEncoder s old new BadLength =
    (old ≡ None) × IsInRange s.k s.r × (s.len ≡ 0) × (new ≡ old)
BeginsEncoder s old new NoMemory =
    (old ≡ None) × IsInRange s.k s.r × (0 < s.len) × (new ≡ old)
BeginsEncoder s old new other = ⊥

-- the buffers have just as many bytes as their rows
abbrev pub AreSized : Shape → List ℕ → List ℕ → Type 0
AreSized s given parities = (length given ≡ s.k * s.len) × (length parities ≡ s.r * s.len)

-- By an encoder the parities of data rows are made. A handle without one, and then buffers of other
-- sizes are told, and all stays.
abbrev pub MakesParities : Option Shape → List ℕ → List ℕ → List ℕ → Status → Type 0
MakesParities held given old new NoEncoder = (held ≡ None) × (new ≡ old)
MakesParities held given old new BadBuffer =
    (s : Shape) × (held ≡ Some s) × ¬ (AreSized s given old) × (new ≡ old)
MakesParities held given old new Done = (s : Shape) × (held ≡ Some s) × AreSized s given old
    × AreParities s.k s.r (cut_rows s.k s.len given) (cut_rows s.r s.len new)
MakesParities held given old new other = ⊥
