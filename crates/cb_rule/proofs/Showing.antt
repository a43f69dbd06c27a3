-- The world that the table shows is sound where what is known is.
use Rattle.std.proofs.Common.{◌≡◌, ℕ, zero, suc, ◌*◌, ◌<◌, ◌≤◌, List, [], ◌∷◌, length, get_or, sym}
use Rattle.std.proofs.Common.{refl, ap, ◌∙◌, ⊎_elim, arith, eqb-true}
use Rattle.cb_types.specs.declared.config.Config.{Config}
use Rattle.cb_world.specs.declared.entry.Entry.{Entry}
use Rattle.cb_world.specs.declared.object.Object.{Object}
use Rattle.cb_world.specs.declared.object.Object.TheVariants as is
use Rattle.cb_world.specs.declared.shown.Shown.{Shown}
use Rattle.cb_world.specs.FarState.{FarState}
use Rattle.cb_world.specs.Shown.{IsHeld, object_at, version_at}
use Rattle.cb_world.specs.Sound.{Sound}
use Rattle.cb_world.specs.StillDesk.{window_length}
use Rattle.cb_world.proofs.Laws.{IsSeenFrom, batch_kept, batch_owned, seen_sound, window_at, window_same}
use Rattle.std.proofs.lemmas.List.{append-nil}
use Rattle.std.proofs.Common.{Some}
use Rattle.cb_types.specs.declared.order.Kept.TheVariants.{Encode, Decode}
use Rattle.cb_world.specs.FarSound.{rows_in}
use Rattle.cb_world.specs.Leaving.{LeavingState}
use Rattle.cb_world.specs.Orders.{LeavesOrders}
use Rattle.cb_rule.specs.declared.view.View.{View}
use Rattle.cb_rule.specs.AsShown.{as_shown}
use Rattle.cb_rule.specs.History.{newest, top}
use Rattle.cb_rule.specs.Lists.{total}
use Rattle.cb_rule.specs.Records.{HeldOk}
use Rattle.cb_rule.specs.Rule.{RuleKept}
use Rattle.cb_rule.specs.Seats.{claims_it, claims_on, pins_on}
use Rattle.cb_rule.specs.Stands.{IsCalm, IsClaimedBySeat, Stands}
use Rattle.cb_rule.specs.Words.{base, stamp, stamps}
use Rattle.cb_rule.proofs.Members.{each_has, has_times, total_some}
use Rattle.cb_rule.proofs.Keeping.{lt_or_le}

beyond : {A : Type 0} (l : List A) (i : ℕ) (d : A) → length l ≤ i → get_or l i d ≡ d
beyond [] i d e = refl
beyond (x ∷ xs) zero d e = absurd (omega (arith, e))
beyond (x ∷ xs) (suc i) d e = beyond xs i d (omega (arith, e))

module _ (c : Config) (ws : List ℕ) (views : List View) (known : Shown) (es : List Entry)
    (r : RuleKept c ws views known es) where
  abbrev t : Shown
  t = as_shown c ws known

  stamp_at : (h : ℕ) → h < c.handles → version_at t h ≡ stamp c ws h
  stamp_at h l = window_at ws (stamps c) c.handles h l

  none_beyond : (h : ℕ) → c.handles ≤ h → version_at t h ≡ version_at known h
  none_beyond h far = beyond t.versions h 0
      (let e = window_length ws (stamps c) c.handles in omega (arith, e, far))
      ∙ sym (beyond known.versions h 0 (let e = r.sized.versions in omega (arith, e, far)))

  -- a version word that the holder alone may change is as it left it
  as_left : (h : ℕ) → h < c.handles → IsHeld (object_at known h)
      → stamp c ws h ≡ version_at known h
  as_left h l held = go (object_at known h) (r.stand h l) held
    where
      go : (o : Object)
          → Stands c known.first ws h (total (pins_on h) views) (total (claims_on h) views)
          (top es h) (newest es h) (version_at known h) o
          → IsHeld o → stamp c ws h ≡ version_at known h
      go (is.Empty m) k held = k.stamped
      go (is.Far len m words) k held = k.kept.stamped
      go (is.Here len place) k held = absurd held
      go (is.Claimed len place m words) k held = k.kept.stamped

  -- that of an object that is claimed outside of a turn is not below its last version
  of_claim : (h : ℕ) → total (claims_on h) views ≡ 1 → top es h ≤ stamp c ws h
  of_claim h one = let seat = total_some (claims_on h) views (omega (arith, one)) in
      let u = seat.1 in
      let x = has_times (claims_it h) u.claims seat.3 in
      let ok = each_has (HeldOk c ws known es) x.0 u.claims (r.seats seat.0 u seat.2).claims x.1 in
      let same = eqb-true x.0.handle h x.2 in
      let last : top es x.0.handle ≡ top es h = ap (top es) same in
      let word : stamp c ws h ≡ x.0.stamp = ap (stamp c ws) (sym same) ∙ ok.stamped in
      let a = ok.number in let b = ok.risen in omega (arith, last, word, a, b)

  not_fallen : (h : ℕ) → h < c.handles → version_at known h ≤ stamp c ws h
  not_fallen h l = go (object_at known h) (r.stand h l)
    where
      go : (o : Object)
          → Stands c known.first ws h (total (pins_on h) views) (total (claims_on h) views)
          (top es h) (newest es h) (version_at known h) o
          → version_at known h ≤ stamp c ws h
      go (is.Empty m) k = let e = k.stamped in omega (arith, e)
      go (is.Far len m words) k = let e = k.kept.stamped in omega (arith, e)
      go (is.Here len place) k = let low = k.low in ⊎_elim
          (λ (m : IsCalm c ws h (total (pins_on h) views) (total (claims_on h) views) (top es h)
          (newest es h) len place). let e = m.stamped in omega (arith, e, low))
          (λ (m : IsClaimedBySeat ws h (total (pins_on h) views) (total (claims_on h) views)).
          let e = of_claim h m.one_claim in omega (arith, e, low)) k.word
      go (is.Claimed len place m words) k = let e = k.kept.stamped in omega (arith, e)

  pub is_shown : IsSeenFrom known t
  is_shown = record {
    first = refl;
    objects = refl;
    memory = window_length ws (base c) (512 * c.frames) ∙ sym r.sized.memory;
    stamps = λ h held. ⊎_elim (λ (l : h < c.handles). stamp_at h l ∙ as_left h l held)
        (λ (far : c.handles ≤ h). none_beyond h far) (lt_or_le h c.handles);
    risen = λ h. ⊎_elim
        (λ (l : h < c.handles). let e = stamp_at h l in let n = not_fallen h l in
        omega (arith, e, n))
        (λ (far : c.handles ≤ h). let e = none_beyond h far in omega (arith, e))
        (lt_or_le h c.handles);
    owned = λ p own. window_at ws (base c) (512 * c.frames) p
        (let e = r.sized.memory in let o = own.0 in omega (arith, e, o)) ∙ r.owned p own;
  }

  pub shown_sound : (far : FarState) → Sound known far → Sound t far
  shown_sound far sound = seen_sound known t far sound is_shown

  -- the rows of the batch that is leaving are those of what is known
  rows_shown : (far : FarState) → Sound known far → (batch : LeavingState)
      → far.leaving ≡ Some batch → rows_in t batch.pages batch.frames ≡ rows_in known batch.pages batch.frames
  rows_shown far sound batch there =
      sym (append-nil (rows_in t batch.pages batch.frames))
      ∙ batch_kept known t far far (record batch { parities = [] }) (record {
        spans = λ f leaves. refl;
        words = λ f leaves. let held = (sound.noted batch there).held f leaves in
            window_same t.memory known.memory (512 * f) (512 * batch.pages) (λ p from to.
            is_shown.owned p (batch_owned known far batch sound there f held.0 leaves held.1 p
            (from, omega (arith, to, held.2))));
      })
      ∙ append-nil (rows_in known batch.pages batch.frames)

  pub orders_shown : (far : FarState) → Sound known far → LeavesOrders known far t far
  orders_shown far sound (Encode o) k = record {
    fits = k.fits;
    drawn = k.drawn;
    code = k.code;
    rows = λ batch there same. k.rows batch there same ∙ sym (rows_shown far sound batch there);
  }
  orders_shown far sound (Decode o) k = k
