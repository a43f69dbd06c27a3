-- A step on the lock: its word is no object's, and the view of the seat keeps its pins, its claims
-- and what it wrote.
use Rattle.std.proofs.Common.{◌≡◌, ℕ, ◌+◌, ◌≤◌, true, List, length, set, sym, refl, ap, ◌∙◌, subst}
use Rattle.std.proofs.Common.{inl, arith, length-set, get_or-set_other}
use mathlib.Core.Option.{some}
use lib.ListN.{get_elem?}
use Rattle.cb_types.specs.declared.config.Config.{Config}
use Rattle.cb_ptr.specs.Word.{hot_of}
use Rattle.cb_world.specs.declared.entry.Entry.{Entry}
use Rattle.cb_world.specs.declared.shown.Shown.{Shown}
use Rattle.cb_world.specs.Shown.{Fits, object_at, version_at}
use Rattle.cb_rule.specs.declared.view.Stand.{Stand}
use Rattle.cb_rule.specs.declared.view.View.{View}
use Rattle.cb_rule.specs.History.{newest, top}
use Rattle.cb_rule.specs.Lists.{times, total, Each}
use Rattle.cb_rule.specs.Records.{HeldOk, PinOk, RecordOk, SeatOk}
use Rattle.cb_rule.specs.Rule.{RuleKept}
use Rattle.cb_rule.specs.Seats.{claims_it, claims_on, holding, pins_it, pins_on, written_on}
use Rattle.cb_rule.specs.Stands.{Stands}
use Rattle.cb_rule.specs.Words.{base, pointer, stamp, stamps, words_at}
use Rattle.cb_rule.proofs.Counts.{each_map, total-same}
use Rattle.cb_rule.proofs.Keeping.{held_same, seats_stay, stands_same, words_else}

-- what such a step leaves of the view v
pub record Flags (c : Config) (known : Shown) (es : List Entry) (v w : View) : Type 0 where
  pub same_config : w.config ≡ v.config
  pub pins : w.pins ≡ v.pins
  pub claims : w.claims ≡ v.claims
  pub wrote : (a k : ℕ) → written_on a k w ≡ written_on a k v
  pub knows : w.holds ≡ true → w.known ≡ known
  pub lasting : RecordOk c known.first es w

module _ (c : Config) (ws : List ℕ) (views : List View) (known : Shown) (es : List Entry)
    (r : RuleKept c ws views known es) where
  -- the word of the lock changes
  pub lock_word : (x : ℕ) → RuleKept c (set ws 0 x) views known es
  lock_word x = record {
    wide = length-set ws 0 x ∙ r.wide;
    sized = r.sized;
    begins = r.begins;
    fit = λ h l. subst (Fits (object_at known h)) (sym (ptr h)) (r.fit h l);
    hot = λ h l was. ap hot_of (ptr h) ∙ r.hot h l was;
    owned = λ p own. get_or-set_other ws 0 (base c + p) x 0 (λ e. omega (arith, e)) ∙ r.owned p own;
    inside = r.inside;
    apart = r.apart;
    stand = λ h l. stands_same c known.first ws ws' h (total (pins_on h) views)
        (total (claims_on h) views) (top es h) (top es h) (newest es h) (newest es h)
        (version_at known h) (version_at known h) (object_at known h) (object_at known h)
        refl refl refl refl (ptr h) (stm h) (λ len place _. wrd place len) (r.stand h l);
    seats = λ j u there. let ok = r.seats j u there in record {
      same_config = ok.same_config;
      pins = ok.pins;
      few = ok.few;
      claims = each_map (HeldOk c ws known es) (HeldOk c ws' known es) u.claims
          (λ y o. held_same c ws ws' known known es es y refl refl refl (stm y.handle)
          (wrd y.place y.len) (ptr y.handle) o) ok.claims;
      knows = ok.knows;
      lasting = ok.lasting;
    };
    history = r.history;
    within = r.within;
    recorded = r.recorded;
    one = r.one;
  }
    where
      ws' : List ℕ
      ws' = set ws 0 x

      ptr : (h : ℕ) → pointer ws' h ≡ pointer ws h
      ptr h = get_or-set_other ws 0 (1 + h) x 0 (λ e. omega (arith, e))

      stm : (h : ℕ) → stamp c ws' h ≡ stamp c ws h
      stm h = get_or-set_other ws 0 (stamps c + h) x 0 (λ e. omega (arith, e))

      wrd : (place len : ℕ) → words_at c ws' place len ≡ words_at c ws place len
      wrd place len = words_else c ws 0 x place len (inl (omega arith))

  -- the view of a seat changes, which takes the lock or gives it back
  pub flagged : (id : ℕ) (v w : View) → get_elem? views id ≡ some v → Flags c known es v w
      → total holding (set views id w) ≤ 1 → RuleKept c ws (set views id w) known es
  flagged id v w at f one = record {
    wide = r.wide;
    sized = r.sized;
    begins = r.begins;
    fit = r.fit;
    hot = r.hot;
    owned = r.owned;
    inside = r.inside;
    apart = r.apart;
    stand = λ h l. subst (λ (n : ℕ). Stands c known.first ws h n
        (total (claims_on h) (set views id w)) (top es h) (newest es h) (version_at known h)
        (object_at known h))
        (sym (total-same (pins_on h) views id v w at (ap (times (λ y. pins_it h y)) f.pins)))
        (subst (λ (n : ℕ). Stands c known.first ws h (total (pins_on h) views) n (top es h)
        (newest es h) (version_at known h) (object_at known h))
        (sym (total-same (claims_on h) views id v w at (ap (times (λ y. claims_it h y)) f.claims)))
        (r.stand h l));
    seats = seats_stay (λ _ u. SeatOk c ws known es u) views id w
        (let ok = r.seats id v at in record {
          same_config = f.same_config ∙ ok.same_config;
          pins = subst (Each (PinOk c known es)) (sym f.pins) ok.pins;
          few = subst (λ (ps : List Stand). length ps ≤ 17) (sym f.pins) ok.few;
          claims = subst (Each (HeldOk c ws known es)) (sym f.claims) ok.claims;
          knows = f.knows;
          lasting = f.lasting;
        }) (λ j u ne there. r.seats j u there);
    history = r.history;
    within = r.within;
    recorded = λ a k. total-same (written_on a k) views id v w at (f.wrote a k) ∙ r.recorded a k;
    one = one;
  }
