-- How a call ends.
use Rattle.std.specs.Prelude.{◌≡◌, ℕ, ◌<◌}
use Rattle.cb_gf256.specs.InRange.{IsInRange}
use Rattle.carbink_c.specs.declared.status.Status.{Status}
use Rattle.carbink_c.specs.declared.status.Status.TheVariants.{Done, BadCode, BadLength, BadBuffer, BadPositions, NoMemory, NoEncoder, HasEncoder}

-- the number by which C knows it
abbrev pub status_number : Status → ℕ
status_number Done = 0
status_number BadCode = 1
status_number BadLength = 2
status_number BadBuffer = 3
status_number BadPositions = 4
status_number NoMemory = 5
status_number NoEncoder = 12
status_number HasEncoder = 13

-- there are no rows of so many bytes of a code of this k and r
abbrev pub IsRefusedShape : ℕ → ℕ → ℕ → Status → Type 0
IsRefusedShape k r len BadCode = ¬ (IsInRange k r)
IsRefusedShape k r len BadLength = IsInRange k r × (len ≡ 0)
IsRefusedShape k r len Done = ⊥
IsRefusedShape k r len BadBuffer = ⊥
IsRefusedShape k r len BadPositions = ⊥
IsRefusedShape k r len NoMemory = ⊥
IsRefusedShape k r len NoEncoder = ⊥
IsRefusedShape k r len HasEncoder = ⊥

-- A call on rows of `len` bytes of the code of k and r ends so: the first that is wrong, of the
-- code, the length, the sizes of the buffers and the positions, is told, and so is out of memory,
-- and all stays; else what the call is for is made.
abbrev pub Ends : ℕ → ℕ → ℕ → Type 0 → Type 0 → Type 0 → Type 0 → Status → Type 0
Ends k r len sized placed stays made Done =
    IsInRange k r × (0 < len) × sized × placed × made
Ends k r len sized placed stays made BadCode = ¬ (IsInRange k r) × stays
Ends k r len sized placed stays made BadLength = IsInRange k r × (len ≡ 0) × stays
Ends k r len sized placed stays made BadBuffer =
    IsInRange k r × (0 < len) × ¬ sized × stays
Ends k r len sized placed stays made BadPositions =
    IsInRange k r × (0 < len) × sized × ¬ placed × stays
Ends k r len sized placed stays made NoMemory =
    IsInRange k r × (0 < len) × sized × placed × stays
Ends k r len sized placed stays made NoEncoder = ⊥
Ends k r len sized placed stays made HasEncoder = ⊥

-- the same of a call that takes no memory and no positions: it never lacks any
abbrev pub EndsInPlace : ℕ → ℕ → ℕ → Type 0 → Type 0 → Type 0 → Status → Type 0
EndsInPlace k r len sized stays made NoMemory = ⊥
EndsInPlace k r len sized stays made BadPositions = ⊥
EndsInPlace k r len sized stays made status = Ends k r len sized Unit stays made status

-- the number is that of a status with which a call may end
abbrev pub IsNumberOf : (Status → Type 0) → ℕ → Type 0
IsNumberOf ends n = (status : Status) × (n ≡ status_number status) × ends status
