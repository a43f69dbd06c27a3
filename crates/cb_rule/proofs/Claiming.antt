-- The holder of the far lock claims an object.
use Rattle.std.proofs.Common.{◌≡◌, ◌≢◌, ◌⊎◌, ℕ, ◌+◌, ◌-◌, ◌*◌, ◌^◌, ◌<◌, ◌≤◌, false, List, []}
use Rattle.std.proofs.Common.{length, get_or, set, sym, refl, ap, ◌∙◌, subst, inl, inr, ⊎_elim}
use Rattle.std.proofs.Common.{arith, length-set, get_or-set_other, get_or-set_same}
use native.Mathlib.Decide.{ℕ_discrete}
use Rattle.cb_types.specs.declared.config.Config.{Config}
use Rattle.cb_ptr.specs.declared.word.State.TheVariants as word
use Rattle.cb_ptr.specs.Word.{state_of, hot_of, len_of, place_of, pins_of}
use Rattle.cb_ptr.specs.Steps.{Claims}
use Rattle.cb_ptr.proofs.Laws.{claims, claimed_below}
use Rattle.cb_world.specs.declared.entry.Entry.{Entry}
use Rattle.cb_world.specs.declared.access.Access.TheVariants.{Claimed}
use Rattle.cb_world.specs.declared.object.Object.{Object}
use Rattle.cb_world.specs.declared.object.Object.TheVariants as is
use Rattle.cb_world.specs.declared.shown.Shown.{Shown}
use Rattle.cb_world.specs.Memory.{put, words_for, IsPacked}
use Rattle.cb_world.specs.Shown.{Fits, Covers, Spares, Owns, object_at, version_at, never}
use Rattle.cb_world.specs.Played.{Agrees, after}
use Rattle.cb_world.specs.LocalSound.{LiesAt}
use Rattle.cb_world.specs.StillDesk.{here_is, bits_here, bits_moving, window_length}
use Rattle.cb_world.proofs.Laws.{length_put, put_at-windows as put_at, put_else, window_at}
use Rattle.cb_rule.specs.declared.view.View.{View}
use Rattle.cb_rule.specs.History.{Value, WasNow, holding_words, top, newest}
use Rattle.cb_rule.specs.Lists.{total}
use Rattle.cb_rule.specs.Rule.{RuleKept}
use Rattle.cb_rule.specs.Seats.{pins_on, claims_on}
use Rattle.cb_rule.specs.Stands.{IsCalm, IsClaimedBySeat, IsShared, Stands}
use Rattle.cb_rule.specs.Words.{stamps, base, pointer, stamp, words_at}
use Rattle.cb_rule.proofs.Keeping.{HolderSteps, lies_here, lt_or_le, words_else, stands_same}
use Rattle.cb_rule.proofs.Keeping.{held_same}

-- what is the newest one now
is_now : (es : List Entry) (since h version : ℕ) (value : Value) → since ≤ length es
    → top es h ≡ version → newest es h ≡ value → WasNow es since (length es) h version value
is_now es since h version value low at has = record {
  newer = [];
  older = es;
  parts = refl;
  low = low;
  high = let z : length es ≤ length es = omega arith in z;
  last = at;
  has = has;
}

-- an object whose word is Here
module _ (c : Config) (ws : List ℕ) (views : List View) (known : Shown) (es : List Entry)
    (r : RuleKept c ws views known es) (h w : ℕ) (l : h < c.handles) (found : pointer ws h ≡ w)
    (here : state_of w ≡ word.Here) where
  abbrev Calm : Type 0
  Calm = IsCalm c ws h (total (pins_on h) views) (total (claims_on h) views) (top es h)
      (newest es h) (len_of w) (place_of w)

  pub found_fits : Fits (object_at known h) w
  found_fits = subst (Fits (object_at known h)) found (r.fit h l)

  pub found_here : object_at known h ≡ is.Here (len_of w) (place_of w)
  found_here = here_is (object_at known h) w found_fits here

  pub found_below : w < 2 ^ 53
  found_below = (subst (λ (o : Object). Fits o w) found_here found_fits).0

  pub found_shared : IsShared c known.first ws h (total (pins_on h) views)
      (total (claims_on h) views) (top es h) (newest es h) (version_at known h) (len_of w)
      (place_of w)
  found_shared = subst (Stands c known.first ws h (total (pins_on h) views)
      (total (claims_on h) views) (top es h) (newest es h) (version_at known h)) found_here
      (r.stand h l)

  pub found_calm : Calm
  found_calm = ⊎_elim (λ (m : Calm). m)
      (λ (m : IsClaimedBySeat ws h (total (pins_on h) views) (total (claims_on h) views)).
      absurd (let a = bits_here w here in
      let b = bits_moving w (ap state_of (sym found) ∙ m.state) in omega arith))
      found_shared.word

  -- its words lie in memory
  pub found_inside : 0 < words_for (len_of w)
      → place_of w + words_for (len_of w) ≤ 512 * c.frames
  found_inside pos = let n : ℕ = words_for (len_of w) in
      let last = r.inside h (len_of w) (place_of w) (place_of w + (n - 1))
      (lies_here known h (len_of w) (place_of w) found_here) (
        (let a : place_of w ≤ place_of w + (n - 1) = omega arith in a),
        (let b : place_of w + (n - 1) < place_of w + n = omega arith in b),
      ) in
      omega (arith, last, pos)

module _ (c : Config) (ws : List ℕ) (views : List View) (v : View) (es : List Entry)
    (r : RuleKept c ws views v.known es) (h w : ℕ) (l : h < c.handles) (found : pointer ws h ≡ w)
    (here : state_of w ≡ word.Here) (bare : pins_of w ≡ 0) (low : v.since ≤ length es) where
  abbrev claim_words : List ℕ
  claim_words = words_at c ws (place_of w) (len_of w)

  shared : IsShared c v.known.first ws h (total (pins_on h) views) (total (claims_on h) views)
      (top es h) (newest es h) (version_at v.known h) (len_of w) (place_of w)
  shared = found_shared c ws views v.known es r h w l found here

  is_here : object_at v.known h ≡ is.Here (len_of w) (place_of w)
  is_here = found_here c ws views v.known es r h w l found here

  calm : IsCalm c ws h (total (pins_on h) views) (total (claims_on h) views) (top es h)
      (newest es h) (len_of w) (place_of w)
  calm = found_calm c ws views v.known es r h w l found here

  pub claim_agrees : Agrees v.known (Claimed h w (stamp c ws h) claim_words)
  claim_agrees = (
    is_here,
    (λ e. ap hot_of (sym found) ∙ r.hot h l e),
    found_below c ws views v.known es r h w l found here,
    window_length ws (base c + place_of w) (words_for (len_of w)),
    (let a = shared.low in let b = calm.stamped in omega arith),
  )

  put_there : (p : ℕ) → Covers (place_of w) (len_of w) p
      → get_or (put v.known.memory (place_of w) claim_words) p 0 ≡ get_or ws (base c + p) 0
  put_there p cov = let n : ℕ = words_for (len_of w) in let q : ℕ = place_of w in
      let xs = words_at c ws q (len_of w) in
      let i : ℕ = p - q in
      let low = cov.0 in let high = cov.1 in
      let len : length xs ≡ n = window_length ws (base c + q) n in
      let at : q + i ≡ p = omega (arith, low) in
      let lt : i < n = omega (arith, low, high) in
      let lt' : i < length xs = subst (λ (k : ℕ). i < k) (sym len) lt in
      let inside : q + n ≤ length v.known.memory =
      (let f = found_inside c ws views v.known es r h w l found here (omega (arith, lt)) in
      let m = r.sized.memory in omega (arith, f, m)) in
      let fits : q + length xs ≤ length v.known.memory =
      subst (λ (k : ℕ). q + k ≤ length v.known.memory) (sym len) inside in
      ap (λ (k : ℕ). get_or (put v.known.memory q xs) k 0) (sym at)
      ∙ put_at v.known.memory q xs i lt' fits ∙ window_at ws (base c + q) n i lt
      ∙ ap (λ (k : ℕ). get_or ws k 0)
      (let e : base c + q + i ≡ base c + p = omega (arith, at) in e)

  owned_else : (p : ℕ) → Owns (after (Claimed h w (stamp c ws h) claim_words) v.known) p
      → (p < place_of w) ⊎ (place_of w + words_for (len_of w) ≤ p)
      → get_or ws (base c + p) 0 ≡ get_or v.known.memory p 0
  owned_else p own out = r.owned p (
    (let a = own.0 in let z = length_put v.known.memory (place_of w) claim_words in
        omega (arith, a, z)),
    λ k. elim (ℕ_discrete k h) [
      | yes e ↦ subst (λ (j : ℕ). Spares p (object_at v.known j)) (sym e)
          (subst (Spares p) (sym is_here) (λ cov. ⊎_elim
          (λ (a : p < place_of w). let b = cov.0 in omega arith)
          (λ (a : place_of w + words_for (len_of w) ≤ p). let b = cov.1 in omega arith) out))
      | no ne ↦ subst (Spares p) (get_or-set_other v.known.objects h k
          (is.Claimed (len_of w) (place_of w) (stamp c ws h) claim_words) never ne) (own.1 k)
    ],
  )

  no_pins : total (pins_on h) views ≡ 0
  no_pins = sym calm.count ∙ ap pins_of found ∙ bare

  -- no seat pins or claims the object
  not_busy : (k : ℕ) → (0 < total (pins_on k) views) ⊎ (0 < total (claims_on k) views) → k ≢ h
  not_busy k busy e = ⊎_elim
      (λ (q : 0 < total (pins_on k) views).
      let m : total (pins_on k) views ≡ total (pins_on h) views =
      ap (λ (j : ℕ). total (pins_on j) views) e in omega (arith, q, m, no_pins))
      (λ (q : 0 < total (claims_on k) views).
      let m : total (claims_on k) views ≡ total (claims_on h) views =
      ap (λ (j : ℕ). total (claims_on j) views) e in
      let z = calm.no_claims in omega (arith, q, m, z)) busy

  pub claim_steps : HolderSteps c ws (set ws (1 + h) (w + 1)) views v
      (Claimed h w (stamp c ws h) claim_words) es
  claim_steps =
      let s = v.known in let x = w + 1 in let ws' : List ℕ = set ws (1 + h) x in
      let moved : Claims w x = claims w here bare in
      let o : Object = is.Claimed (len_of w) (place_of w) (stamp c ws h) claim_words in
      let at_h : get_or (set s.objects h o) h never ≡ o =
      get_or-set_same s.objects h o never (let e = r.sized.objects in omega arith) in
      let at_k : (k : ℕ) → k ≢ h → get_or (set s.objects h o) k never ≡ get_or s.objects k never =
      λ k ne. get_or-set_other s.objects h k o never ne in
      let ptr_h : pointer ws' h ≡ x =
      get_or-set_same ws (1 + h) x 0 (let e = r.wide in omega arith) in
      let ptr_k : (k : ℕ) → k ≢ h → pointer ws' k ≡ pointer ws k =
      λ k ne. get_or-set_other ws (1 + h) (1 + k) x 0 (λ e. ne (omega arith)) in
      let stamp_k : (k : ℕ) → stamp c ws' k ≡ stamp c ws k =
      λ k. get_or-set_other ws (1 + h) (stamps c + k) x 0 (λ e. omega arith) in
      let words_k : (place len : ℕ) → words_at c ws' place len ≡ words_at c ws place len =
      λ place len. words_else c ws (1 + h) x place len (inl (omega arith)) in
      let wide : x < 2 ^ 53 =
      claimed_below w (found_below c ws views s es r h w l found here) here in
      let version_h : version_at (after (Claimed h w (stamp c ws h) claim_words) s) h
      ≡ stamp c ws h =
      get_or-set_same s.versions h (stamp c ws h) 0
      (let z = r.sized.versions in omega arith) in
      let value : newest es h ≡ holding_words (len_of w) claim_words =
      shared.held ∙ ap (holding_words (len_of w)) (sym calm.words) in
      let back : (k len place : ℕ) → LiesAt (get_or (set s.objects h o) k never) len place
      → LiesAt (get_or s.objects k never) len place =
      λ k len place z. elim (ℕ_discrete k h) [
        | yes e ↦ subst (λ (y : Object). LiesAt y len place)
            (sym is_here ∙ ap (λ (j : ℕ). get_or s.objects j never) (sym e))
            (subst (λ (y : Object). LiesAt y len place)
            (ap (λ (j : ℕ). get_or (set s.objects h o) j never) e ∙ at_h) z)
        | no ne ↦ subst (λ (y : Object). LiesAt y len place) (at_k k ne) z
      ] in record {
        wide = length-set ws (1 + h) x;
        fit = λ k lk. elim (ℕ_discrete k h) [
          | yes e ↦ subst (λ (j : ℕ). Fits (get_or (set s.objects h o) j never) (pointer ws' j))
              (sym e) (subst (λ (z : Object). Fits z (pointer ws' h)) (sym at_h)
              (subst (λ (z : ℕ). Fits o z) (sym ptr_h)
              (wide, moved.len, moved.place, moved.pins, moved.state)))
          | no ne ↦ subst (λ (z : Object). Fits z (pointer ws' k)) (sym (at_k k ne))
              (subst (λ (z : ℕ). Fits (get_or s.objects k never) z) (sym (ptr_k k ne)) (r.fit k lk))
        ];
        hot = λ k lk known. elim (ℕ_discrete k h) [
          | yes e ↦ ap (λ (j : ℕ). hot_of (pointer ws' j)) e ∙ ap hot_of ptr_h ∙ moved.hot
              ∙ sym (get_or-set_same s.hots h (hot_of w) false
              (let q = r.sized.hots in omega arith))
              ∙ ap (λ (j : ℕ). get_or (set s.hots h (hot_of w)) j false) (sym e) ∙ known
          | no ne ↦ ap hot_of (ptr_k k ne)
              ∙ r.hot k lk (sym (get_or-set_other s.hots h k (hot_of w) false ne) ∙ known)
        ];
        owned = λ p own. get_or-set_other ws (1 + h) (base c + p) x 0 (λ e. omega arith) ∙ ⊎_elim
            (λ (a : p < place_of w).
            owned_else p own (inl a) ∙ sym (put_else s.memory (place_of w) claim_words p (inl a)))
            (λ (a : place_of w ≤ p). ⊎_elim
            (λ (b : p < place_of w + words_for (len_of w)). sym (put_there p (a, b)))
            (λ (b : place_of w + words_for (len_of w) ≤ p).
            owned_else p own (inr b) ∙ sym (put_else s.memory (place_of w) claim_words p
            (inr (subst (λ (k : ℕ). place_of w + k ≤ p)
            (sym (window_length ws (base c + place_of w) (words_for (len_of w)))) b))))
            (lt_or_le p (place_of w + words_for (len_of w)))) (lt_or_le p (place_of w));
        inside = λ k len place p there cov. r.inside k len place p (back k len place there) cov;
        apart = λ a len place b l' p' p ha hb ne ca cb.
            r.apart a len place b l' p' p (back a len place ha) (back b l' p' hb) ne ca cb;
        stand = λ k lk. elim (ℕ_discrete k h) [
          | yes e ↦ subst (λ (j : ℕ). Stands c s.first ws' j (total (pins_on j) views)
              (total (claims_on j) views) (top es j) (newest es j)
              (get_or (set s.versions h (stamp c ws h)) j 0) (get_or (set s.objects h o) j never))
              (sym e)
              (subst (Stands c s.first ws' h (total (pins_on h) views)
              (total (claims_on h) views) (top es h) (newest es h)
              (get_or (set s.versions h (stamp c ws h)) h 0)) (sym at_h) record {
                kept = record {
                  no_pins = no_pins;
                  no_claims = calm.no_claims;
                  stamped = stamp_k h ∙ sym version_h;
                  at = sym calm.stamped;
                  has = value;
                };
                born = subst (λ (z : ℕ). s.first ≤ z) (sym calm.stamped) shared.born;
                packed = subst (IsPacked (len_of w)) (sym calm.words) shared.packed;
              })
          | no ne ↦ stands_same c s.first ws ws' k (total (pins_on k) views)
              (total (claims_on k) views) (top es k) (top es k) (newest es k) (newest es k)
              (version_at s k) (get_or (set s.versions h (stamp c ws h)) k 0) (object_at s k)
              (get_or (set s.objects h o) k never) (at_k k ne) refl refl
              (get_or-set_other s.versions h k (stamp c ws h) 0 ne) (ptr_k k ne) (stamp_k k)
              (λ len place _. words_k place len) (r.stand k lk)
        ];
        tops = λ k busy. (refl, refl, at_k k (not_busy k busy));
        helds = λ y busy ok.
            held_same c ws ws' s (after (Claimed h w (stamp c ws h) claim_words) s) es es y
            (at_k y.handle (not_busy y.handle (inr busy))) refl refl (stamp_k y.handle)
            (words_k y.place y.len) (ptr_k y.handle (not_busy y.handle (inr busy))) ok;
        tells = (
          subst (λ (z : ℕ). s.first ≤ z) (sym calm.stamped) shared.born,
          is_now es v.since h (stamp c ws h) (holding_words (len_of w) claim_words) low
              (sym calm.stamped) value,
          here,
        );
        within = tt;
        follows = r.history;
      }
