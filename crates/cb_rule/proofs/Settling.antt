-- The holder of the far lock settles the word of an object: what it has to show.
use Rattle.std.proofs.Common.{◌≡◌, ◌≢◌, ◌⊎◌, ℕ, ◌+◌, ◌<◌, false, List, ◌++◌, get_or, set, sym, refl}
use Rattle.std.proofs.Common.{ap, ◌∙◌, subst, inl, inr, ⊎_elim, arith, length-set, get_or-set_other}
use Rattle.std.proofs.Common.{get_or-set_same}
use native.Mathlib.Decide.{ℕ_discrete}
use Rattle.cb_types.specs.declared.config.Config.{Config}
use Rattle.cb_ptr.specs.Word.{state_of, hot_of}
use Rattle.cb_world.specs.declared.entry.Entry.{Entry}
use Rattle.cb_world.specs.declared.access.Access.TheVariants.{Settled}
use Rattle.cb_world.specs.declared.object.Object.{Object}
use Rattle.cb_world.specs.declared.object.Object.TheVariants as is
use Rattle.cb_world.specs.declared.shown.Shown.{Shown}
use Rattle.cb_world.specs.Shown.{Fits, Covers, Spares, Avoids, MayLie, Owns, IsHeld, object_at}
use Rattle.cb_world.specs.Shown.{version_at, never}
use Rattle.cb_world.specs.Played.{after, settled_by}
use Rattle.cb_world.specs.LocalSound.{LiesAt}
use Rattle.cb_world.specs.Written.{adds}
use Rattle.cb_rule.specs.declared.view.View.{View}
use Rattle.cb_rule.specs.History.{IsEntryHistory, newest, top}
use Rattle.cb_rule.specs.Lists.{total, Each}
use Rattle.cb_rule.specs.Rule.{RuleKept}
use Rattle.cb_rule.specs.Seats.{pins_on, claims_on}
use Rattle.cb_rule.specs.Stands.{Stands}
use Rattle.cb_rule.specs.Words.{stamps, base, pointer, stamp, words_at}
use Rattle.cb_rule.proofs.Keeping.{HolderSteps, words_else, stands_same, held_same}

-- the history gets these entries: the object stands as n, and others have their newest entries
pub record EntersHistory (c : Config) (ws : List ℕ) (views : List View) (known : Shown) (h w : ℕ)
    (es : List Entry) (n : Object) (more : List Entry) : Type 0 where
  pub mine : Stands c known.first (set ws (1 + h) w) h (total (pins_on h) views)
      (total (claims_on h) views) (top (more ++ es) h) (newest (more ++ es) h)
      (version_at known h) n
  pub others : (k : ℕ) → k ≢ h
      → (top (more ++ es) k ≡ top es k) × (newest (more ++ es) k ≡ newest es k)
  pub follows : IsEntryHistory known.first (more ++ es)
  pub within : Each (λ (x : Entry). x.handle < c.handles) more

-- the word of the object is settled as w, and the object becomes n
pub record SettlesWord (c : Config) (ws : List ℕ) (views : List View) (v : View) (h w : ℕ)
    (es : List Entry) (n : Object) (more : List Entry) : Type 0 where
  pub becomes : settled_by (state_of w) w (version_at v.known h) (object_at v.known h) ≡ n
  pub adds_more : adds (Settled h w) v.known ≡ more
  pub within : h < c.handles
  pub held : IsHeld (object_at v.known h)
  pub no_pins : total (pins_on h) views ≡ 0
  pub no_claims : total (claims_on h) views ≡ 0
  pub fits : Fits n w
  pub lies : (len place p : ℕ) → LiesAt n len place → Covers place len p → MayLie v.known h p
  pub enters : EntersHistory c ws views v.known h w es n more

spared : (s : Shown) (h p : ℕ) → IsHeld (object_at s h) → Spares p (object_at s h)
spared s h p held = go (object_at s h) held
  where
    go : (o : Object) → IsHeld o → Spares p o
    go (is.Empty v) k = tt
    go (is.Far len v words) k = tt
    go (is.Here len place) k = absurd k
    go (is.Claimed len place v words) k = tt

avoided : (o : Object) (len place p : ℕ) → Avoids p o → LiesAt o len place → Covers place len p
    → ⊥
avoided (is.Empty v) len place p a l c = l
avoided (is.Far n v words) len place p a l c = l
avoided (is.Here n q) len place p a l c = a (subst (λ (m : ℕ). Covers m n p) l.1
    (subst (λ (m : ℕ). Covers place m p) l.0 c))
avoided (is.Claimed n q v words) len place p a l c = a (subst (λ (m : ℕ). Covers m n p) l.1
    (subst (λ (m : ℕ). Covers place m p) l.0 c))

-- where the object may lie the holder owns the words
pub owns_lie : (s : Shown) (h p : ℕ) → IsHeld (object_at s h) → MayLie s h p → Owns s p
owns_lie s h p held may = (
  may.0,
  λ k. elim (ℕ_discrete k h) [
    | yes e ↦ subst (λ (j : ℕ). Spares p (object_at s j)) (sym e) (spared s h p held)
    | no ne ↦ go (object_at s k) (may.1 k ne)
  ],
)
  where
    go : (o : Object) → Avoids p o → Spares p o
    go (is.Empty v) a = tt
    go (is.Far n v words) a = tt
    go (is.Here n q) a = a
    go (is.Claimed n q v words) a = tt

module _ (c : Config) (ws : List ℕ) (views : List View) (v : View) (h w : ℕ) (es : List Entry)
    (n : Object) (more : List Entry) (r : RuleKept c ws views v.known es)
    (t : SettlesWord c ws views v h w es n more) where
  abbrev s : Shown
  s = v.known

  abbrev ws' : List ℕ
  ws' = set ws (1 + h) w

  -- the object, as it is then known
  abbrev object : Object
  object = settled_by (state_of w) w (version_at v.known h) (object_at v.known h)

  enters : EntersHistory c ws views v.known h w es n (adds (Settled h w) v.known)
  enters = subst (EntersHistory c ws views v.known h w es n) (sym t.adds_more) t.enters

  at_h : get_or (set s.objects h object) h never ≡ n
  at_h = get_or-set_same s.objects h object never
      (let e = r.sized.objects in let l = t.within in omega arith) ∙ t.becomes

  at_k : (k : ℕ) → k ≢ h → get_or (set s.objects h object) k never ≡ get_or s.objects k never
  at_k k ne = get_or-set_other s.objects h k object never ne

  ptr_h : pointer ws' h ≡ w
  ptr_h = get_or-set_same ws (1 + h) w 0 (let e = r.wide in let l = t.within in omega arith)

  ptr_k : (k : ℕ) → k ≢ h → pointer ws' k ≡ pointer ws k
  ptr_k k ne = get_or-set_other ws (1 + h) (1 + k) w 0 (λ e. ne (omega arith))

  stamp_k : (k : ℕ) → stamp c ws' k ≡ stamp c ws k
  stamp_k k = get_or-set_other ws (1 + h) (stamps c + k) w 0
      (λ e. let l = t.within in omega arith)

  words_k : (place len : ℕ) → words_at c ws' place len ≡ words_at c ws place len
  words_k place len = words_else c ws (1 + h) w place len (inl (let l = t.within in omega arith))

  -- no seat pins or claims the object
  not_busy : (k : ℕ) → (0 < total (pins_on k) views) ⊎ (0 < total (claims_on k) views) → k ≢ h
  not_busy k busy e = ⊎_elim
      (λ (q : 0 < total (pins_on k) views). let p = t.no_pins in
      let m : total (pins_on k) views ≡ total (pins_on h) views =
      ap (λ (j : ℕ). total (pins_on j) views) e in omega arith)
      (λ (q : 0 < total (claims_on k) views). let p = t.no_claims in
      let m : total (claims_on k) views ≡ total (claims_on h) views =
      ap (λ (j : ℕ). total (claims_on j) views) e in omega arith) busy

  -- no other object lies where it lies now
  beside : (k len place l' p' p : ℕ) → k ≢ h → LiesAt n len place
      → LiesAt (get_or s.objects k never) l' p' → Covers place len p → Covers p' l' p → ⊥
  beside k len place l' p' p ne here there a b = avoided (get_or s.objects k never) l' p' p
      ((t.lies len place p here a).1 k ne) there b

  at_lies : (k len place : ℕ) → k ≡ h
      → LiesAt (get_or (set s.objects h object) k never) len place → LiesAt n len place
  at_lies k len place e z = subst (λ (o : Object). LiesAt o len place)
      (ap (λ (j : ℕ). get_or (set s.objects h object) j never) e ∙ at_h) z

  else_lies : (k len place : ℕ) → k ≢ h
      → LiesAt (get_or (set s.objects h object) k never) len place
      → LiesAt (get_or s.objects k never) len place
  else_lies k len place ne z = subst (λ (o : Object). LiesAt o len place) (at_k k ne) z

  pub settled_steps : HolderSteps c ws (set ws (1 + h) w) views v (Settled h w) es
  settled_steps = record {
    wide = length-set ws (1 + h) w;
    fit = λ k l. elim (ℕ_discrete k h) [
      | yes e ↦ subst (λ (j : ℕ). Fits (get_or (set s.objects h object) j never) (pointer ws' j))
          (sym e) (subst (λ (o : Object). Fits o (pointer ws' h)) (sym at_h)
          (subst (λ (x : ℕ). Fits n x) (sym ptr_h) t.fits))
      | no ne ↦ subst (λ (o : Object). Fits o (pointer ws' k)) (sym (at_k k ne))
          (subst (λ (x : ℕ). Fits (get_or s.objects k never) x) (sym (ptr_k k ne)) (r.fit k l))
    ];
    hot = λ k l known. elim (ℕ_discrete k h) [
      | yes e ↦ ap (λ (j : ℕ). hot_of (pointer ws' j)) e ∙ ap hot_of ptr_h
          ∙ sym (get_or-set_same s.hots h (hot_of w) false
          (let q = r.sized.hots in let l' = t.within in omega arith))
          ∙ ap (λ (j : ℕ). get_or (set s.hots h (hot_of w)) j false) (sym e) ∙ known
      | no ne ↦ ap hot_of (ptr_k k ne)
          ∙ r.hot k l (sym (get_or-set_other s.hots h k (hot_of w) false ne) ∙ known)
    ];
    owned = λ p own. get_or-set_other ws (1 + h) (base c + p) w 0
        (λ e. let l = t.within in omega arith)
        ∙ r.owned p (
          own.0,
          λ k. elim (ℕ_discrete k h) [
            | yes e ↦ subst (λ (j : ℕ). Spares p (object_at s j)) (sym e) (spared s h p t.held)
            | no ne ↦ subst (Spares p) (at_k k ne) (own.1 k)
          ],
        );
    inside = λ k len place p here cov. elim (ℕ_discrete k h) [
      | yes e ↦ let o = (t.lies len place p (at_lies k len place e here) cov).0 in
          let m = r.sized.memory in omega arith
      | no ne ↦ r.inside k len place p (else_lies k len place ne here) cov
    ];
    apart = λ a len place b l' p' p ha hb ne ca cb. elim (ℕ_discrete a h) [
      | yes e ↦ beside b len place l' p' p (λ q. ne (e ∙ sym q)) (at_lies a len place e ha)
          (else_lies b l' p' (λ q. ne (e ∙ sym q)) hb) ca cb
      | no na ↦ elim (ℕ_discrete b h) [
        | yes e ↦ beside a l' p' len place p na (at_lies b l' p' e hb)
            (else_lies a len place na ha) cb ca
        | no nb ↦ r.apart a len place b l' p' p (else_lies a len place na ha)
            (else_lies b l' p' nb hb) ne ca cb
      ]
    ];
    stand = λ k l. elim (ℕ_discrete k h) [
      | yes e ↦ subst (λ (j : ℕ). Stands c s.first ws' j (total (pins_on j) views)
          (total (claims_on j) views) (top (adds (Settled h w) s ++ es) j)
          (newest (adds (Settled h w) s ++ es) j) (version_at s j)
          (get_or (set s.objects h object) j never)) (sym e)
          (subst (Stands c s.first ws' h (total (pins_on h) views) (total (claims_on h) views)
          (top (adds (Settled h w) s ++ es) h) (newest (adds (Settled h w) s ++ es) h)
          (version_at s h)) (sym at_h) enters.mine)
      | no ne ↦ stands_same c s.first ws ws' k (total (pins_on k) views)
          (total (claims_on k) views) (top es k) (top (adds (Settled h w) s ++ es) k)
          (newest es k) (newest (adds (Settled h w) s ++ es) k) (version_at s k)
          (version_at s k) (object_at s k) (get_or (set s.objects h object) k never)
          (at_k k ne) (enters.others k ne).0 (enters.others k ne).1 refl (ptr_k k ne) (stamp_k k)
          (λ len place _. words_k place len) (r.stand k l)
    ];
    tops = λ k busy. let ne = not_busy k busy in
        ((enters.others k ne).0, (enters.others k ne).1, at_k k ne);
    helds = λ x busy ok. let ne = not_busy x.handle (inr busy) in
        held_same c ws ws' s (after (Settled h w) s) es (adds (Settled h w) s ++ es) x
        (at_k x.handle ne) (enters.others x.handle ne).0 (enters.others x.handle ne).1
        (stamp_k x.handle) (words_k x.place x.len) (ptr_k x.handle ne) ok;
    follows = enters.follows;
    within = enters.within;
    tells = tt;
  }
