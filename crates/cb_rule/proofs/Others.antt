-- A seat changes an object that it claims outside of a turn, while another may hold the far lock.
use Rattle.std.proofs.Common.{◌≡◌, ◌≢◌, ℕ, ◌+◌, ◌<◌, ◌≤◌, Bool, true, cond, List, ◌++◌, length}
use Rattle.std.proofs.Common.{get_or, set, sym, refl, ap, ◌∙◌, subst, ⊎_elim, arith}
use Rattle.std.proofs.lemmas.Bool.{eqb-false}
use native.Mathlib.Decide.{ℕ_discrete}
use mathlib.Core.Option.{some}
use lib.ListN.{get_elem?}
use Rattle.cb_types.specs.declared.config.Config.{Config}
use Rattle.cb_ptr.specs.Word.{hot_of}
use Rattle.cb_world.specs.declared.entry.Entry.{Entry}
use Rattle.cb_world.specs.declared.object.Object.TheVariants as is
use Rattle.cb_world.specs.declared.shown.Shown.{Shown}
use Rattle.cb_world.specs.Shown.{Fits, Owns, object_at, hot_at, version_at}
use Rattle.cb_rule.specs.declared.view.Held.{Held}
use Rattle.cb_rule.specs.declared.view.Stand.{Stand}
use Rattle.cb_rule.specs.declared.view.View.{View}
use Rattle.cb_rule.specs.History.{IsEntryHistory, is_version, newest, top}
use Rattle.cb_rule.specs.Lists.{times, total, Each}
use Rattle.cb_rule.specs.Records.{PinOk, HeldOk, RecordOk, SeatOk}
use Rattle.cb_rule.specs.Rule.{StandsIn, RuleKept}
use Rattle.cb_rule.specs.Seats.{claims_it, claims_on, holding, pins_it, pins_on, written_on}
use Rattle.cb_rule.specs.Stands.{IsCalm, IsClaimedBySeat, IsShared, Stands}
use Rattle.cb_rule.specs.Words.{base, pointer, stamp, words_at}
use Rattle.cb_rule.proofs.Counts.{each_none, each_there, times-append, total-at, total-same}
use Rattle.cb_rule.proofs.Counts.{total-two, total-set, each_append}
use Rattle.cb_rule.proofs.Growing.{record_more}
use Rattle.cb_rule.proofs.Keeping.{held_same, pin_same, seats_stay, stands_same}

-- What a step of the seat on the object that it claims has to show: what the holder knows stays,
-- and the history gets these entries.
pub record Other (c : Config) (ws ws' : List ℕ) (views : List View) (id : ℕ) (v w : View)
    (known : Shown) (es more : List Entry) (h : ℕ) : Type 0 where
  pub wide : length ws' ≡ length ws
  pub pointers : (k : ℕ) → k < c.handles → k ≢ h → pointer ws' k ≡ pointer ws k
  pub stamps : (k : ℕ) → k < c.handles → k ≢ h → stamp c ws' k ≡ stamp c ws k
  pub memory : (k len place : ℕ) → k ≢ h → object_at known k ≡ is.Here len place
      → words_at c ws' place len ≡ words_at c ws place len
  pub fit : Fits (object_at known h) (pointer ws' h)
  pub hot : hot_at known h ≡ true → hot_of (pointer ws' h) ≡ true
  pub owned : (p : ℕ) → Owns known p
      → get_or ws' (base c + p) 0 ≡ get_or ws (base c + p) 0
  pub stand : StandsIn c ws' (set views id w) known (more ++ es) h
  pub others : (k : ℕ) → k ≢ h
      → (top (more ++ es) k ≡ top es k) × (newest (more ++ es) k ≡ newest es k)
  pub follows : IsEntryHistory known.first (more ++ es)
  pub within : Each (λ (x : Entry). x.handle < c.handles) more
  pub no_pins : total (pins_on h) views ≡ 0
  pub lone : (j : ℕ) (u : View) → j ≢ id → get_elem? views j ≡ some u → claims_on h u ≡ 0
  pub same_config : w.config ≡ v.config
  pub pins : w.pins ≡ v.pins
  pub claims : (k : ℕ) → k ≢ h → claims_on k w ≡ claims_on k v
  pub held : Each (HeldOk c ws' known (more ++ es)) w.claims
  pub holds : w.holds ≡ v.holds
  pub knows : w.known ≡ v.known
  pub lasting : RecordOk c known.first (more ++ es) w
  pub wrote : (a k : ℕ)
      → written_on a k w ≡ times (is_version a k) more + written_on a k v

module _ (c : Config) (ws ws' : List ℕ) (views : List View) (id : ℕ) (v w : View)
    (known : Shown) (es more : List Entry) (h : ℕ) (r : RuleKept c ws views known es)
    (at : get_elem? views id ≡ some v) (t : Other c ws ws' views id v w known es more h) where
  abbrev vs' : List View
  vs' = set views id w

  abbrev es' : List Entry
  es' = more ++ es

  same_pins : (k : ℕ) → total (pins_on k) vs' ≡ total (pins_on k) views
  same_pins k = total-same (pins_on k) views id v w at (ap (times (λ y. pins_it k y)) t.pins)

  same_claims : (k : ℕ) → k ≢ h → total (claims_on k) vs' ≡ total (claims_on k) views
  same_claims k ne = total-same (claims_on k) views id v w at (t.claims k ne)

  all_pins : (j : ℕ) (u : View) → get_elem? views j ≡ some u
      → Each (PinOk c known es) u.pins → Each (PinOk c known es') u.pins
  all_pins j u there ok = each_there (PinOk c known es) (PinOk c known es')
      (λ (p : Stand). p.handle) u.pins
      (λ p pos o. let le = total-at (pins_on p.handle) views j u there in
      let ne : p.handle ≢ h = λ e. (let z = t.no_pins in
      let m : total (pins_on p.handle) views ≡ total (pins_on h) views =
      ap (λ (q : ℕ). total (pins_on q) views) e in omega arith) in
      let z = t.others p.handle ne in pin_same c known known es es' p z.0 z.1 refl o) ok

  else_held : (x : Held) → x.handle ≢ h → HeldOk c ws known es x → HeldOk c ws' known es' x
  else_held x ne o = held_same c ws ws' known known es es' x refl (t.others x.handle ne).0
      (t.others x.handle ne).1 (t.stamps x.handle o.below ne)
      (t.memory x.handle x.len x.place ne o.there) (t.pointers x.handle o.below ne) o

  pub other_rule : RuleKept c ws' (set views id w) known (more ++ es)
  other_rule = record {
    wide = t.wide ∙ r.wide;
    sized = r.sized;
    begins = r.begins;
    fit = λ k l. elim (ℕ_discrete k h) [
      | yes e ↦ subst (λ (j : ℕ). Fits (object_at known j) (pointer ws' j)) (sym e) t.fit
      | no ne ↦ subst (Fits (object_at known k)) (sym (t.pointers k l ne)) (r.fit k l)
    ];
    hot = λ k l was. elim (ℕ_discrete k h) [
      | yes e ↦ ap (λ (j : ℕ). hot_of (pointer ws' j)) e
          ∙ t.hot (ap (hot_at known) (sym e) ∙ was)
      | no ne ↦ ap hot_of (t.pointers k l ne) ∙ r.hot k l was
    ];
    owned = λ p own. t.owned p own ∙ r.owned p own;
    inside = r.inside;
    apart = r.apart;
    stand = λ k l. elim (ℕ_discrete k h) [
      | yes e ↦ subst (λ (j : ℕ). StandsIn c ws' vs' known es' j) (sym e) t.stand
      | no ne ↦ subst (λ (n : ℕ). Stands c known.first ws' k n (total (claims_on k) vs')
          (top es' k) (newest es' k) (version_at known k) (object_at known k))
          (sym (same_pins k))
          (subst (λ (n : ℕ). Stands c known.first ws' k (total (pins_on k) views) n
          (top es' k) (newest es' k) (version_at known k) (object_at known k))
          (sym (same_claims k ne))
          (stands_same c known.first ws ws' k (total (pins_on k) views)
          (total (claims_on k) views) (top es k) (top es' k) (newest es k) (newest es' k)
          (version_at known k) (version_at known k) (object_at known k) (object_at known k)
          refl (t.others k ne).0 (t.others k ne).1 refl (t.pointers k l ne) (t.stamps k l ne)
          (λ len place e. t.memory k len place ne e) (r.stand k l)))
    ];
    seats = seats_stay (λ _ u. SeatOk c ws' known es' u) views id w
        (let ok = r.seats id v at in record {
          same_config = t.same_config ∙ ok.same_config;
          pins = subst (Each (PinOk c known es')) (sym t.pins) (all_pins id v at ok.pins);
          few = subst (λ (xs : List Stand). length xs ≤ 17) (sym t.pins) ok.few;
          claims = t.held;
          knows = λ his. t.knows ∙ ok.knows (sym t.holds ∙ his);
          lasting = t.lasting;
        })
        (λ j u ne there. let ok = r.seats j u there in record {
          same_config = ok.same_config;
          pins = all_pins j u there ok.pins;
          few = ok.few;
          claims = each_none (HeldOk c ws known es) (HeldOk c ws' known es') (claims_it h)
              u.claims (t.lone j u ne there)
              (λ x is o. else_held x (eqb-false x.handle h is) o) ok.claims;
          knows = ok.knows;
          lasting = record_more more es c known.first u ok.lasting;
        });
    history = t.follows;
    within = within_all;
    recorded = λ a k. let wrote = t.wrote a k in let before = r.recorded a k in
        let sum = total-set (written_on a k) views id v w at in
        let all = times-append (is_version a k) more es in omega (arith, wrote, before, sum, all);
    one = let e = total-same holding views id v w at
        (ap (λ (b : Bool). cond {A = ℕ} b 1 0) t.holds) in omega (arith, e, r.one);
  }
    where
      within_all : Each (λ (x : Entry). x.handle < c.handles) (more ++ es)
      within_all = each_append
          (λ (x : Entry). x.handle < c.handles) more es t.within r.within

-- an object that a seat claims outside of a turn
pub record Claimer (c : Config) (ws : List ℕ) (views : List View) (known : Shown)
    (es : List Entry) (id h : ℕ) (v : View) (len place : ℕ) : Type 0 where
  pub taken : IsClaimedBySeat ws h (total (pins_on h) views) (total (claims_on h) views)
  pub shared : IsShared c known.first ws h (total (pins_on h) views)
      (total (claims_on h) views) (top es h) (newest es h) (version_at known h) len place
  pub own : claims_on h v ≡ 1
  pub lone : (j : ℕ) (u : View) → j ≢ id → get_elem? views j ≡ some u → claims_on h u ≡ 0

pub claimer : (c : Config) (ws : List ℕ) (views : List View) (known : Shown) (es : List Entry)
    (r : RuleKept c ws views known es) (id h : ℕ) (v : View) → get_elem? views id ≡ some v
    → h < c.handles → 0 < claims_on h v → (len place : ℕ)
    → object_at known h ≡ is.Here len place → Claimer c ws views known es id h v len place
claimer c ws views known es r id h v at l mine len place here =
    let k = subst (Stands c known.first ws h (total (pins_on h) views)
    (total (claims_on h) views) (top es h) (newest es h) (version_at known h)) here
    (r.stand h l) in
    let le = total-at (claims_on h) views id v at in
    let t : IsClaimedBySeat ws h (total (pins_on h) views) (total (claims_on h) views) = ⊎_elim
    (λ (m : IsCalm c ws h (total (pins_on h) views) (total (claims_on h) views) (top es h)
    (newest es h) len place). absurd (let z = m.no_claims in omega arith))
    (λ (m : IsClaimedBySeat ws h (total (pins_on h) views) (total (claims_on h) views)). m)
    k.word in
    record {
      taken = t;
      shared = k;
      own = let z = t.one_claim in omega arith;
      lone = λ j u ne there. let two = total-two (claims_on h) views id j v u ne at there in
          let z = t.one_claim in omega arith;
    }
