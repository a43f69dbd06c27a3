-- The holder of the far lock stores memory words that it owns, and version words of objects that it
-- holds.
use Rattle.std.proofs.Common.{◌≡◌, ◌≢◌, ℕ, ◌+◌, ◌*◌, ◌<◌, ◌≤◌, List, get_or, set, sym, refl, ap}
use Rattle.std.proofs.Common.{◌∙◌, subst, inl, inr, ⊎_elim, arith, length-set, get_or-set_other}
use Rattle.std.proofs.Common.{get_or-set_same}
use native.Mathlib.Decide.{ℕ_discrete}
use Rattle.cb_types.specs.declared.config.Config.{Config}
use Rattle.cb_ptr.specs.Word.{hot_of}
use Rattle.cb_world.specs.declared.entry.Entry.{Entry}
use Rattle.cb_world.specs.declared.access.Access.TheVariants.{Stored, Stamped}
use Rattle.cb_world.specs.declared.object.Object.{Object}
use Rattle.cb_world.specs.declared.object.Object.TheVariants as is
use Rattle.cb_world.specs.Memory.{words_for}
use Rattle.cb_world.specs.Shown.{Fits, Spares, Owns, IsHeld, object_at, version_at}
use Rattle.cb_world.specs.Played.{after}
use Rattle.cb_rule.specs.declared.view.View.{View}
use Rattle.cb_rule.specs.History.{Value, no_value, holding_words, top, newest}
use Rattle.cb_rule.specs.Lists.{total}
use Rattle.cb_rule.specs.Rule.{RuleKept}
use Rattle.cb_rule.specs.Seats.{pins_on, claims_on}
use Rattle.cb_rule.specs.Stands.{IsKeptByHolder, Stands}
use Rattle.cb_rule.specs.Words.{stamps, base, pointer, stamp, words_at}
use Rattle.cb_rule.proofs.Keeping.{HolderSteps, outside, words_else, stands_same, held_same}

module _ (c : Config) (ws : List ℕ) (views : List View) (v : View) (es : List Entry)
    (r : RuleKept c ws views v.known es) where
  -- the words of an object that others may change do not have the place
  spared_words : (p y : ℕ) → Owns v.known p → (k len place : ℕ)
      → object_at v.known k ≡ is.Here len place
      → words_at c (set ws (base c + p) y) place len ≡ words_at c ws place len
  spared_words p y own k len place here = words_else c ws (base c + p) y place len (⊎_elim
      (λ (z : p < place). inl (omega arith))
      (λ (z : place + words_for len ≤ p). inr (omega arith))
      (outside place len p (subst (Spares p) here (own.1 k))))

  pub store_steps : (p y : ℕ) → p < 512 * c.frames → Owns v.known p
      → HolderSteps c ws (set ws (base c + p) y) views v (Stored p y) es
  store_steps p y l own = let s = v.known in let ws' : List ℕ = set ws (base c + p) y in
      let ptr : (h : ℕ) → h < c.handles → pointer ws' h ≡ pointer ws h =
      λ h lh. get_or-set_other ws (base c + p) (1 + h) y 0 (λ e. omega arith) in
      let stm : (h : ℕ) → h < c.handles → stamp c ws' h ≡ stamp c ws h =
      λ h lh. get_or-set_other ws (base c + p) (stamps c + h) y 0 (λ e. omega arith) in record {
        wide = length-set ws (base c + p) y;
        fit = λ h lh. subst (Fits (object_at s h)) (sym (ptr h lh)) (r.fit h lh);
        hot = λ h lh known. ap hot_of (ptr h lh) ∙ r.hot h lh known;
        owned = λ q o. elim (ℕ_discrete q p) [
          | yes e ↦ ap (λ (j : ℕ). get_or ws' (base c + j) 0) e
              ∙ get_or-set_same ws (base c + p) y 0 (let z = r.wide in omega arith)
              ∙ sym (get_or-set_same s.memory p y 0 own.0)
              ∙ ap (λ (j : ℕ). get_or (set s.memory p y) j 0) (sym e)
          | no ne ↦ get_or-set_other ws (base c + p) (base c + q) y 0 (λ e. ne (omega arith))
              ∙ r.owned q (
                (let z = length-set s.memory p y in let a = o.0 in omega (arith, a, z)),
                o.1,
              )
              ∙ sym (get_or-set_other s.memory p q y 0 ne)
        ];
        inside = r.inside;
        apart = r.apart;
        stand = λ h lh. stands_same c s.first ws ws' h (total (pins_on h) views)
            (total (claims_on h) views) (top es h) (top es h) (newest es h) (newest es h)
            (version_at s h) (version_at s h) (object_at s h) (object_at s h) refl refl refl refl
            (ptr h lh) (stm h lh) (spared_words p y own h) (r.stand h lh);
        tops = λ k _. (refl, refl, refl);
        helds = λ x _ ok. held_same c ws ws' s (after (Stored p y) s) es es x refl refl refl
            (stm x.handle ok.below) (spared_words p y own x.handle x.len x.place ok.there)
            (ptr x.handle ok.below) ok;
        tells = tt;
        within = tt;
        follows = r.history;
      }

  -- a held object is as it was but for its version word
  restamped : (o : Object) (h y : ℕ) (ws' : List ℕ) → stamp c ws' h ≡ y → IsHeld o
      → Stands c v.known.first ws h (total (pins_on h) views) (total (claims_on h) views)
      (top es h) (newest es h) (version_at v.known h) o
      → Stands c v.known.first ws' h (total (pins_on h) views) (total (claims_on h) views)
      (top es h) (newest es h) y o
  restamped o h y ws' e held k = go o held k
    where
      kept : (last : ℕ) (contents : Value)
          → IsKeptByHolder c ws h (total (pins_on h) views) (total (claims_on h) views) (top es h)
          (newest es h) (version_at v.known h) last contents
          → IsKeptByHolder c ws' h (total (pins_on h) views) (total (claims_on h) views) (top es h)
          (newest es h) y last contents
      kept last contents a = record {
        no_pins = a.no_pins;
        no_claims = a.no_claims;
        stamped = e;
        at = a.at;
        has = a.has;
      }

      go : (z : Object) → IsHeld z
          → Stands c v.known.first ws h (total (pins_on h) views) (total (claims_on h) views)
          (top es h) (newest es h) (version_at v.known h) z
          → Stands c v.known.first ws' h (total (pins_on h) views) (total (claims_on h) views)
          (top es h) (newest es h) y z
      go (is.Empty m) held a = kept m no_value a
      go (is.Far len m words) held a = record {
        kept = kept m (holding_words len words) a.kept;
        born = a.born;
        packed = a.packed;
      }
      go (is.Here len place) held a = absurd held
      go (is.Claimed len place m words) held a = record {
        kept = kept m (holding_words len words) a.kept;
        born = a.born;
        packed = a.packed;
      }

  pub stamp_steps : (h y : ℕ) → h < c.handles → IsHeld (object_at v.known h)
      → HolderSteps c ws (set ws (stamps c + h) y) views v (Stamped h y) es
  stamp_steps h y l held = let s = v.known in let ws' : List ℕ = set ws (stamps c + h) y in
      let ptr : (k : ℕ) → k < c.handles → pointer ws' k ≡ pointer ws k =
      λ k lk. get_or-set_other ws (stamps c + h) (1 + k) y 0 (λ e. omega arith) in
      let stm : (k : ℕ) → k ≢ h → stamp c ws' k ≡ stamp c ws k =
      λ k ne. get_or-set_other ws (stamps c + h) (stamps c + k) y 0 (λ e. ne (omega arith)) in
      let wrd : (place len : ℕ) → words_at c ws' place len ≡ words_at c ws place len =
      λ place len. words_else c ws (stamps c + h) y place len (inl (omega arith)) in
      let own_stamp : stamp c ws' h ≡ y =
      get_or-set_same ws (stamps c + h) y 0 (let z = r.wide in omega arith) in
      let own_version : get_or (set s.versions h y) h 0 ≡ y =
      get_or-set_same s.versions h y 0 (let z = r.sized.versions in omega arith) in record {
        wide = length-set ws (stamps c + h) y;
        fit = λ k lk. subst (Fits (object_at s k)) (sym (ptr k lk)) (r.fit k lk);
        hot = λ k lk known. ap hot_of (ptr k lk) ∙ r.hot k lk known;
        owned = λ q o. get_or-set_other ws (stamps c + h) (base c + q) y 0 (λ e. omega arith)
            ∙ r.owned q o;
        inside = r.inside;
        apart = r.apart;
        stand = λ k lk. elim (ℕ_discrete k h) [
          | yes e ↦ subst (λ (j : ℕ). Stands c s.first ws' j (total (pins_on j) views)
              (total (claims_on j) views) (top es j) (newest es j)
              (get_or (set s.versions h y) j 0) (object_at s j)) (sym e)
              (subst (λ (n : ℕ). Stands c s.first ws' h (total (pins_on h) views)
              (total (claims_on h) views) (top es h) (newest es h) n (object_at s h))
              (sym own_version) (restamped (object_at s h) h y ws' own_stamp held (r.stand h l)))
          | no ne ↦ stands_same c s.first ws ws' k (total (pins_on k) views)
              (total (claims_on k) views) (top es k) (top es k) (newest es k) (newest es k)
              (version_at s k) (get_or (set s.versions h y) k 0) (object_at s k) (object_at s k)
              refl refl refl (get_or-set_other s.versions h k y 0 ne) (ptr k lk) (stm k ne)
              (λ len place _. wrd place len) (r.stand k lk)
        ];
        tops = λ k _. (refl, refl, refl);
        helds = λ x _ ok. held_same c ws ws' s (after (Stamped h y) s) es es x refl refl refl
            (stm x.handle (λ e. subst IsHeld (ap (object_at s) (sym e) ∙ ok.there) held))
            (wrd x.place x.len) (ptr x.handle ok.below) ok;
        tells = tt;
        within = tt;
        follows = r.history;
      }
