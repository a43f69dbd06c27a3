-- How each step of a batch is answered.
use Rattle.std.proofs.Common.{ℕ, List, sym, subst, inl, inr}
use Rattle.cb_types.specs.declared.request.Request.TheVariants.{Begin, Ship, Commit, Abort}
use Rattle.cb_types.specs.declared.reply.Reply.{Reply}
use Rattle.cb_types.specs.Table.{IsReplyOf}
use Rattle.cb_world.specs.FarState.{FarState}
use Rattle.cb_world.specs.Leaving.{LeavingState}
use Rattle.cb_world.specs.Plain.{Words}
use Rattle.cb_evict.specs.AbortStep.{IsAbortStep, no_batch as none_to_abort, given_up}
use Rattle.cb_evict.specs.BeginStep.{IsBeginStep, is_leaving, few_spans, few_nodes, begins}
use Rattle.cb_evict.specs.CommitStep.{IsCommitStep, no_batch as none_to_commit, short, committed}
use Rattle.cb_evict.specs.ShipRule.{ShipsRow}
use Rattle.cb_evict.specs.ShipStep.{IsShipStep}

pub begin_line : (x y : Words) (far new : FarState) (r : Reply) → IsBeginStep x y far new r
    → IsReplyOf Begin r
begin_line x y far new r (is_leaving batch there reply state same) =
    subst (IsReplyOf Begin) (sym reply) tt
begin_line x y far new r (few_spans none few same) = subst (IsReplyOf Begin) (sym few.reply) tt
begin_line x y far new r (few_nodes none few same) = subst (IsReplyOf Begin) (sym few.reply) tt
begin_line x y far new r (begins m) = subst (IsReplyOf Begin) (sym m.reply) tt

ships_line : (far new : FarState) (r : Reply) (row : LeavingState → List (List ℕ))
    → ShipsRow far new r row → IsReplyOf Ship r
ships_line far new r row (inl none) = subst (IsReplyOf Ship) (sym none.reply) tt
ships_line far new r row (inr (inl all)) = subst (IsReplyOf Ship) (sym all.reply) tt
ships_line far new r row (inr (inr (inl none))) = subst (IsReplyOf Ship) (sym none.reply) tt
ships_line far new r row (inr (inr (inr z))) = subst (IsReplyOf Ship) (sym z.reply) tt

pub ship_line : (x y : Words) (far new : FarState) (r : Reply) → IsShipStep x y far new r
    → IsReplyOf Ship r
ship_line x y far new r step = ships_line far new r _ step.ships

pub commit_line : (x y : Words) (far new : FarState) (r : Reply) → IsCommitStep x y far new r
    → IsReplyOf Commit r
commit_line x y far new r (none_to_commit n same) = subst (IsReplyOf Commit) (sym n.reply) tt
commit_line x y far new r (short z same) = subst (IsReplyOf Commit) (sym z.reply) tt
commit_line x y far new r (committed c away) = subst (IsReplyOf Commit) (sym c.reply) tt

pub abort_line : (x y : Words) (far new : FarState) (r : Reply) → IsAbortStep x y far new r
    → IsReplyOf Abort r
abort_line x y far new r (none_to_abort n same) = subst (IsReplyOf Abort) (sym n.reply) tt
abort_line x y far new r (given_up g back) = subst (IsReplyOf Abort) (sym g.reply) tt
