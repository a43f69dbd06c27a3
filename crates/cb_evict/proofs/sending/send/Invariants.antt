use Rattle.std.proofs.Common.{ℕ, List, All, take}
use Rattle.cb_world.specs.declared.access.Access.{Access}
use Rattle.cb_world.specs.declared.shown.Shown.{Shown}
use Rattle.cb_world.specs.Looks.{NoLook, LooksFirst}
use Rattle.cb_evict.specs.Events.{TouchesOnly}
use Rattle.cb_evict.specs.Claiming.{IsOne}
use Rattle.cb_evict.specs.Sending.{IsFormerTold, IsSending}
use Rattle.cb_evict.proofs.sending.send.Given as goal

-- the earlier objects were put away
abbrev pub invariant-loop-former : goal.invariant-loop-former
invariant-loop-former g l = (es : List Access) × g.D.Desk.run l.fn.desk es l.desk
    × TouchesOnly (IsOne l.formers) (λ p. ⊥) es × ((k : ℕ) → NoLook k es) × LooksFirst es
    × ((s : Shown) → g.D.Desk.shows l.fn.desk s → All (IsFormerTold s) l.formers
    → IsSending es s (take l.former-index l.formers))
