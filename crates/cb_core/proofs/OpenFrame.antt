-- What the steps of open writes leave as it was: the far state and the configuration.
use Rattle.std.proofs.Common.{◌≡◌, ℕ, List, ap}
use Rattle.cb_types.specs.declared.reply.Reply.{Reply}
use Rattle.cb_world.specs.Plain.{Words}
use Rattle.cb_world.specs.World.{WorldState}
use Rattle.cb_core.specs.Claiming.{ClaimStep, refused, taken, StoreStep, not_claimed, nothing_left, stored, stamped, SettleStep, not_stored, settled}

pub record LeavesFar (w new : WorldState) : Type 0 where
  pub far : new.far ≡ w.far
  pub settings : new.desk.settings ≡ w.desk.settings

same_leaves : (w new : WorldState) → new ≡ w → LeavesFar w new
same_leaves w new same = record {
  far = ap (λ (v : WorldState). v.far) same;
  settings = ap (λ (v : WorldState). v.desk.settings) same;
}

pub claim_leaves : (w new : WorldState) (seat h at : ℕ) (bytes : List ℕ) (r : Reply)
    → ClaimStep seat h at bytes w r new → LeavesFar w new
claim_leaves w new seat h at bytes r (refused not reply same) = same_leaves w new same
claim_leaves w new seat h at bytes r (taken may is reply t) =
    record { far = t.far; settings = ap (λ (x : Words). x.settings) t.word.words }

pub store_leaves : (w new : WorldState) (seat h : ℕ) (r : Reply) → StoreStep seat h w r new
    → LeavesFar w new
store_leaves w new seat h r (not_claimed none reply same) = same_leaves w new same
store_leaves w new seat h r (nothing_left at x none reply same) = same_leaves w new same
store_leaves w new seat h r (stored at x two reply m n) =
    record { far = n.far; settings = ap (λ (x : Words). x.settings) m.words }
store_leaves w new seat h r (stamped at x last reply m n) =
    record { far = n.far; settings = ap (λ (x : Words). x.settings) m }

pub settle_leaves : (w new : WorldState) (seat h : ℕ) (r : Reply) → SettleStep seat h w r new
    → LeavesFar w new
settle_leaves w new seat h r (not_claimed none reply same) = same_leaves w new same
settle_leaves w new seat h r (not_stored at x some reply same) = same_leaves w new same
settle_leaves w new seat h r (settled at x none reply t) =
    record { far = t.far; settings = ap (λ (x : Words). x.settings) t.word.words }
