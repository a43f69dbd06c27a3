-- Room is won for the landing of a row: its order stays kept across evictions.
use Rattle.std.proofs.Common.{◌≡◌, ℕ, List, [], Option, None, Some, sym, subst, inl, inr}
use Rattle.std.specs.Borrow.{Bor}
use Rattle.cb_orders.specs.Done.{DecodeDoneState}
use Rattle.cb_types.specs.declared.config.Config.{Config}
use Rattle.cb_types.specs.declared.order.Kept.{Kept}
use Rattle.cb_types.specs.declared.order.Kept.TheVariants.{Decode, Encode}
use Rattle.cb_types.specs.declared.reply.Reply.{Reply}
use Rattle.cb_types.specs.declared.reply.Reply.TheVariants as answer
use Rattle.cb_world.specs.declared.access.Access.{Access}
use Rattle.cb_world.specs.declared.shown.Shown.{Shown}
use Rattle.cb_world.specs.FarState.{FarState}
use Rattle.cb_world.specs.Orders.{KeepsOrder}
use Rattle.cb_world.specs.Played.{played}
use Rattle.cb_world.proofs.Laws.{decode_left}
use Rattle.cb_evict.specs.declared.eviction.Eviction.{Eviction}
use Rattle.cb_evict.specs.Eviction.{reply_of}
use Rattle.cb_swapin.specs.LandRule.{LandRule, done_order}
use Rattle.cb_swapin.specs.SwapRule.{BringsFar}
use Rattle.cb_evict.proofs.Laws.{evicts_leave_words}
use Rattle.cb_core.specs.Ordered.{Lands, NothingDone}
use Rattle.cb_core.specs.Parts.{Holding}
use Rattle.cb_core.specs.Turned.{TriesRoom, WinsRoom}
use Rattle.cb_core.proofs.Composing.{IsSoundShown}
use Rattle.cb_core.proofs.Winning.{IsWinning}

-- what an order to decode says, it says of the far state alone
pub any_kept : (done : Option (Bor DecodeDoneState)) (far : FarState) (s t : Shown)
    → KeepsOrder s far (done_order done) → KeepsOrder t far (done_order done)
any_kept None far s t k = tt
any_kept (Some d) far s t k = k

-- a landing that finds no frame changes nothing
pub land_crammed : (order : Option Kept) (far new : FarState) (r : Reply) (es : List Access)
    → LandRule order far new r es → r ≡ answer.NoFrame → new ≡ far
land_crammed None far new r es x none = x.same
land_crammed (Some (Encode o)) far new r es x none = x.same
land_crammed (Some (Decode o)) far new r es (inl x) none = x.same
land_crammed (Some (Decode o)) far new r es (inr x) none = (subst (λ (q : Reply).
    BringsFar 0 far new o.set o.position x.brings.set es q) none x.brings.state).0

module _ {D : Type 0} (run : D → List Access → D → Type 0) (shows : D → Shown → Type 0)
    (settings : D → Config) (c : Config) where
  -- so many evictions were made, and the order is kept
  pub record IsLandingOn (done : Option (Bor DecodeDoneState)) (start here : Holding D) (made : ℕ)
      : Type 0 where
    pub wins : IsWinning run shows settings c (Lands run shows (done_order done)) (NothingDone run)
        start here made
    pub kept : (t : Shown) → KeepsOrder t here.far (done_order done)

  -- an eviction leaves it kept
  by_eviction : (done : Option (Bor DecodeDoneState)) (m n : Holding D) (room : Eviction) (t : Shown)
      → IsSoundShown (λ s. shows m.desk s) m.far → WinsRoom run shows c m room n
      → ((s : Shown) → KeepsOrder s m.far (done_order done)) → KeepsOrder t n.far (done_order done)
  by_eviction None m n room t known v kept = tt
  by_eviction (Some d) m n room t (s, shown, sound) v kept =
      let after = v.sound_after s (shown, sound) in
      decode_left s (played v.events s) m.far n.far sound after
      (evicts_leave_words s m.far n.far (reply_of room) v.events sound v.rule.rule) d.now.order (kept s)

  pub evicted_kept : (done : Option (Bor DecodeDoneState)) (here m n : Holding D)
      (refusal : Option Reply) → m.far ≡ here.far → IsSoundShown (λ s. shows m.desk s) m.far
      → TriesRoom run shows c m refusal n → ((s : Shown) → KeepsOrder s here.far (done_order done))
      → (t : Shown) → KeepsOrder t n.far (done_order done)
  evicted_kept done here m n refusal same known (room, v, is) kept t =
      by_eviction done m n room t known v (λ s. subst (λ (f : FarState).
      KeepsOrder s f (done_order done)) (sym same) (kept s))

  -- one that lacks memory has done nothing
  pub lands_nothing : (a b : Holding D) → ((x : D) → run x [] x) → b.desk ≡ a.desk → b.far ≡ a.far
      → NothingDone run a b
  lands_nothing a b nothing desk far =
      (subst (λ (x : D). run a.desk [] x) (sym desk) (nothing a.desk), far)
