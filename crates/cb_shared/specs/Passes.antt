-- What a pass has, and what it is to be one of a shared runtime.
use Rattle.std.specs.Prelude.{◌≡◌, ℕ, ◌+◌, ◌*◌, ◌<◌, ◌≤◌, false, List, []}
use Rattle.cb_types.specs.declared.config.Config.{Config}
use Rattle.cb_types.specs.Config.{IsAccepted}
use Rattle.cb_world.specs.declared.entry.Entry.{Entry}
use Rattle.cb_world.specs.Empty.{empty_far}
use Rattle.cb_world.specs.Memory.{words_for}
use Rattle.cb_rule.specs.declared.view.Seen.{Seen}
use Rattle.cb_rule.specs.declared.view.Stand.{Stand}
use Rattle.cb_rule.specs.declared.view.View.{View}
use Rattle.cb_rule.specs.Lists.{Each, Has}
use Rattle.cb_rule.specs.Steps.{nothing, opener, stand}
use Rattle.cb_shared.specs.declared.pass.Pass.{Pass}
use Rattle.cb_shared.specs.declared.pass.Pin.{Pin}
use Rattle.cb_shared.specs.declared.runtime.Shared.{Shared}
use Rattle.cb_shared.specs.OrdersKept.{AreOfPasses}
use Rattle.cb_shared.specs.Seats.{record_at}

-- the record of a pass
abbrev pub record_of : Pass → View
record_of p = record_at p.seat

-- the pin as it stands in a record, with the words of its version
abbrev pub stand_of : Pin → List ℕ → Stand
stand_of p words = stand p.handle.n p.len p.place p.version words

-- the record has this pin
abbrev pub IsPinOf : Pin → View → Type 0
IsPinOf p v = (words : List ℕ) × Has (stand_of p words) v.pins

-- the words of the pinned object lie in memory
abbrev pub PinFits : Config → Stand → Type 0
PinFits c p = (p.handle < c.handles)
    × ((j : ℕ) → j < words_for p.len → p.place + j < 512 * c.frames)

-- no turn is under way
abbrev pub IsOutOfTurn : Config → View → Type 0
IsOutOfTurn c v = (v.holds ≡ false) × (v.start ≡ nothing) × (v.since ≡ 0) × (v.acts ≡ [])
    × (v.known ≡ nothing) × (v.took ≡ empty_far 1 c)
    × (v.had ≡ []) × (v.old ≡ []) × (v.ended ≡ 0) × (v.had_seen ≡ [])

-- what stands of a record between the calls of its pass
pub record IsAtRest (c : Config) (v : View) : Type 0 where
  pub config : v.config ≡ c
  pub live : 1 ≤ v.share
  pub most : v.share ≤ 64
  pub claims : v.claims ≡ []
  pub out : IsOutOfTurn c v
  pub fresh : v.fresh ≡ []
  pub written : Each (λ (e : Entry). e.handle < c.handles) v.written
  pub seen : Each (λ (s : Seen). s.handle < c.handles) v.seen
  pub pins : Each (PinFits c) v.pins
  pub orders : AreOfPasses v.turns v.order

-- the pass is one of this runtime
pub record IsPassOf (s : Shared) (p : Pass) : Type 0 where
  pub accepted : IsAccepted s.config
  pub table : p.seat.table_id ≡ s.board.shared.table_id
  pub rest : IsAtRest s.config (record_of p)

-- the runtime and its first pass at the start: makes give the version first, and the far state is
-- that of the empty world
pub record IsRuntimeBegun (first : ℕ) (c : Config) (s : Shared) (p : Pass) : Type 0 where
  pub config : s.config ≡ c
  pub first_is : s.board.shared.key.first ≡ first
  pub of : IsPassOf s p
  pub begun : record_of p ≡ opener c
