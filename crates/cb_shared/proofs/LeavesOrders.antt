-- What a turn leaves of the order that its seat kept, by its job and its reply.
use Rattle.std.proofs.Common.{◌≡◌, List, [], Option, None, Some, sym, refl, ap, ◌∙◌, subst, inl}
use Rattle.std.proofs.Common.{inr, arith, ⊎_elim, false, Ok}
use Rattle.cb_types.specs.declared.config.Config.{Config}
use Rattle.cb_types.specs.declared.handle.Handle.{Handle}
use Rattle.cb_types.specs.declared.job.Job.{Job}
use Rattle.cb_types.specs.declared.job.Job.TheVariants as jobs
use Rattle.cb_types.specs.declared.order.Kept.{Kept}
use Rattle.cb_types.specs.declared.order.Kept.TheVariants.{Encode, Decode}
use Rattle.cb_types.specs.declared.reply.Reply.{Reply}
use Rattle.cb_types.specs.declared.reply.Reply.TheVariants as answer
use Rattle.cb_ptr.specs.Word.{state_of}
use Rattle.cb_world.specs.declared.access.Access.{Access}
use Rattle.cb_world.specs.declared.shown.Shown.{Shown}
use Rattle.cb_world.specs.FarState.{FarState}
use Rattle.cb_evict.specs.declared.gathering.Gathered.{Gathered}
use Rattle.cb_evict.specs.declared.gathering.Gathered.TheVariants as gathered
use Rattle.cb_evict.specs.Gathering.{HandsOut, gathered_order, gathered_reply, order_for}
use Rattle.cb_evict.specs.InstallRule.{InstallStep, kept_behind}
use Rattle.cb_swapin.specs.declared.fetching.Fetching.{Fetching}
use Rattle.cb_swapin.specs.declared.fetching.Fetching.TheVariants as fetching
use Rattle.cb_swapin.specs.FetchStep.{fetching_order, fetching_reply}
use Rattle.cb_core.specs.OrderParts.{landed_order, not_far, was_far}
use Rattle.cb_core.specs.Ordered.TurnedWith.{done as done_with, worn as worn_with}
use Rattle.cb_core.specs.Turned.{done, once_counted, worn}
use Rattle.cb_rule.specs.declared.turn.Turn.{Turn}
use Rattle.cb_shared.specs.Ordering.{IsPlainFetch, IsPlainGather}
use Rattle.cb_shared.specs.OrdersKept.{FetchKeeps, GatherKeeps, LeavesOrder}
use Rattle.cb_shared.specs.Turning.{Did, DidBy, DidWith, held_by}
use Rattle.cb_shared.proofs.Asks.{IsBatchOf, begun_kind, fetch_kept, fetched_kind, find_kind}
use Rattle.cb_shared.proofs.Asks.{gather_kept, kind_of, plain_fetch, plain_gather}
use Rattle.cb_shared.proofs.DidAlone.{kept_alone}

-- ---- by what each of the four does
gather_leaves : (g : Gathered) (order keeps : Option Kept) → IsPlainGather (Ok g)
    → keeps ≡ gathered_order order g → GatherKeeps (gathered_reply g) order keeps
gather_leaves (gathered.Order o) order keeps plain kept = (o, kept, refl)
gather_leaves (gathered.Answer (answer.Batch id)) order keeps plain kept = absurd (plain id refl)
gather_leaves (gathered.Answer r) order keeps plain kept = kept

fetch_leaves : (g : Fetching) (order keeps : Option Kept) → IsPlainFetch (Ok g)
    → keeps ≡ fetching_order order g → FetchKeeps (fetching_reply g) order keeps
fetch_leaves (fetching.Order o) order keeps plain kept = (o, kept, refl, refl)
fetch_leaves (fetching.Answer (answer.Fetched id p)) order keeps plain kept =
    absurd (plain id p refl)
fetch_leaves (fetching.Answer r) order keeps plain kept = kept

-- a reply that hands no order out
fetch_stays : (r : Reply) (order keeps : Option Kept) → kind_of r ≡ 0 → keeps ≡ order
    → FetchKeeps r order keeps
fetch_stays (answer.Fetched id p) order keeps is kept = absurd (omega (arith, is))
fetch_stays r order keeps is kept = kept

install_leaves : (far new : FarState) (r : Reply) (order keeps : Option Kept)
    → InstallStep far new r order keeps → keeps ≡ kept_behind r order
install_leaves far new r None keeps x =
    x.1 ∙ sym (ap (λ (z : Reply). kept_behind z None) x.0.reply)
install_leaves far new r (Some (Decode o)) keeps x =
    x.1 ∙ sym (ap (λ (z : Reply). kept_behind z (Some (Decode o))) x.0.reply)
install_leaves far new r (Some (Encode o)) keeps (inl x) =
    x.1 ∙ sym (ap (λ (z : Reply). kept_behind z (Some (Encode o))) x.0.reply)
install_leaves far new r (Some (Encode o)) keeps (inr (inl x)) =
    x.1 ∙ sym (ap (λ (z : Reply). kept_behind z (Some (Encode o))) x.0.reply)
install_leaves far new r (Some (Encode o)) keeps (inr (inr x)) =
    x.1 ∙ sym (ap (λ (z : Reply). kept_behind z (Some (Encode o))) x.0.reply)

-- ---- a turn with the order that its seat kept
module _ (c : Config) (order : Option Kept) (r : Reply) (keeps : Option Kept) (start : Shown)
    (es : List Access) (took gave : FarState) where
  abbrev Made : Job → Type 0
  Made job = DidWith c job order (Some r) keeps start es took gave

  gather_with : Made jobs.Gather → GatherKeeps r order keeps
  gather_with (worn_with last is kept same ran) =
      subst (λ (z : Reply). GatherKeeps z order keeps) (sym is) kept
  gather_with (done_with few (g, p, is, kept)) =
      let far = (once_counted (held_by start [] took) jobs.Gather).far in
      subst (λ (z : Reply). GatherKeeps z order keeps) (sym is) (gather_leaves g order keeps (⊎_elim
      (λ (e : kind_of (gathered_reply g) ≡ 0). plain_gather g (λ x. omega (arith, e, x)))
      (λ (x : IsBatchOf (HandsOut far g) (gathered_reply g)).
      gather_kept g (Encode (order_for far x.rows)) (ap (gathered_order None) x.given))
      (begun_kind far gave false (HandsOut far g) (gathered_reply g) p.events p.rule)) kept)

  install_with : Made jobs.Install → keeps ≡ kept_behind r order
  install_with (worn_with last is kept same ran) =
      kept ∙ sym (ap (λ (z : Reply). kept_behind z order) is)
  install_with (done_with few (ran, step)) = install_leaves _ gave r order keeps step

  fetch_with : (handle : Handle) → Made (jobs.Fetch handle) → FetchKeeps r order keeps
  fetch_with handle (worn_with last is kept same ran) =
      subst (λ (z : Reply). FetchKeeps z order keeps) (sym is) kept
  fetch_with handle (done_with few (not_far find away kept)) = let x = find.rule.1 in
      fetch_stays r order keeps
      (find_kind (state_of x.word) x.word handle.n find.events r x.answer) kept
  fetch_with handle (done_with few (was_far m g find (home, at, ran, step) is kept)) =
      subst (λ (z : Reply). FetchKeeps z order keeps) (sym is) (fetch_leaves g order keeps
      (elim (fetched_kind home.set home.position m.far gave step.set g step.state) [
        | inl (inl e) ↦ plain_fetch g (λ x. omega (arith, e, x))
        | inl (inr e) ↦ plain_fetch g (λ x. omega (arith, e, x))
        | inr x ↦ fetch_kept g _ (ap (fetching_order None) x.1)
      ]) kept)

  land_with : Made jobs.Land → keeps ≡ landed_order order r
  land_with (worn_with last is kept same ran) =
      kept ∙ sym (ap (λ (z : Reply). landed_order order z) is)
  land_with (done_with few (does, kept)) = kept

  -- ---- all of them
  pub leaves_order : (job : Job) → DidBy c job order (Some r) keeps start es took gave
      → LeavesOrder job r order keeps
  leaves_order jobs.Gather (inl (worn last is same ran, kept)) =
      subst (λ (z : Reply). GatherKeeps z order keeps) (sym is) kept
  leaves_order jobs.Gather (inl (done few does, kept)) = absurd does.1
  leaves_order jobs.Gather (inr x) = gather_with x
  leaves_order jobs.Install (inl (worn last is same ran, kept)) =
      kept ∙ sym (ap (λ (z : Reply). kept_behind z order) is)
  leaves_order jobs.Install (inl (done few does, kept)) = absurd does.1
  leaves_order jobs.Install (inr x) = install_with x
  leaves_order (jobs.Fetch handle) (inl (worn last is same ran, kept)) =
      subst (λ (z : Reply). FetchKeeps z order keeps) (sym is) kept
  leaves_order (jobs.Fetch handle) (inl (done few does, kept)) = absurd does.1
  leaves_order (jobs.Fetch handle) (inr x) = fetch_with handle x
  leaves_order jobs.Land (inl (worn last is same ran, kept)) =
      kept ∙ sym (ap (λ (z : Reply). landed_order order z) is)
  leaves_order jobs.Land (inl (done few does, kept)) = absurd does.1
  leaves_order jobs.Land (inr x) = land_with x
  leaves_order job (inl x) = x.1
  leaves_order job (inr x) = kept_alone c job order (Some r) keeps start es took gave tt x

-- so of a turn in a record
pub turn_leaves : (c : Config) (t : Turn) (r : Reply) → t.reply ≡ Some r → Did c t
    → LeavesOrder t.job r t.order t.keeps
turn_leaves c t r is did = leaves_order c t.order r t.keeps t.start t.acts t.took t.gave t.job
    (subst (λ (o : Option Reply). DidBy c t.job t.order o t.keeps t.start t.acts t.took t.gave) is
    did)
