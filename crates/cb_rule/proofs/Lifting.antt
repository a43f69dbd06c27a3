-- From the rule of the words to the rule of the whole table.
use Rattle.std.proofs.Common.{◌≡◌, ℕ, zero, suc, ◌<◌, ◌≤◌, true, List, [], ◌∷◌, ◌++◌, get_or, set}
use Rattle.std.proofs.Common.{sym, refl, ap, ◌∙◌, subst, inl, inr, arith, get_or-set_other}
use mathlib.Core.Option.{some, some-injective}
use lib.ListN.{get_elem?}
use lib.Seq.{set-get_or}
use Rattle.cb_types.specs.declared.config.Config.{Config}
use Rattle.cb_world.specs.declared.entry.Entry.{Entry}
use Rattle.cb_world.specs.declared.access.Access.{Access}
use Rattle.cb_world.specs.declared.shown.Shown.{Shown}
use Rattle.cb_world.specs.Played.{after}
use Rattle.cb_world.specs.Written.{adds}
use Rattle.cb_rule.specs.declared.view.View.{View}
use Rattle.cb_rule.specs.Lists.{Each}
use Rattle.cb_rule.specs.Rule.{RuleKept}
use Rattle.cb_rule.specs.Own.{AreBound, AreOwn, MayWrite}
use Rattle.cb_rule.specs.Ruled.{AreShares, Beside, IsAlike, IsSteady, Ruled}
use Rattle.cb_rule.specs.Seats.{share_of}
use Rattle.cb_rule.specs.Slot.{Table}
use Rattle.cb_rule.specs.Steps.{act, blank}
use Rattle.cb_rule.proofs.Counts.{total-same}
use Rattle.cb_rule.proofs.Keeping.{HolderSteps, first_stays, keeps_rule, seats_stay}
use Rattle.cb_rule.proofs.Binding.{Stamps, bound_acted, bound_stays}
use Rattle.cb_rule.proofs.Owning.{KeepsOwned, own_acted, own_kept}

-- a list with an element put where it is
pub set_same : {A : Type 0} (vs : List A) (id : ℕ) (v : A) → get_elem? vs id ≡ some v
    → set vs id v ≡ vs
set_same [] id v e = refl
set_same (x ∷ xs) zero v e = ap (λ y. y ∷ xs) (sym (some-injective x v e))
set_same (x ∷ xs) (suc id) v e = ap (λ ys. x ∷ ys) (set_same xs id v e)

-- a load leaves the words as they are
pub same_words : (ws : List ℕ) (i : ℕ) → set ws i (get_or ws i 0) ≡ ws
same_words ws i = set-get_or ws i 0

-- a step on another word leaves the lock
pub same_lock : (ws : List ℕ) (i x : ℕ) → 0 < i → get_or (set ws i x) 0 0 ≡ get_or ws 0 0
same_lock ws i x pos = get_or-set_other ws i 0 x 0 (λ e. omega (arith, pos, e))

-- a seat that has a share steps, and keeps it
pub shares_stay : (c : Config) (views : List View) (id : ℕ) (v w : View)
    → get_elem? views id ≡ some v → w.share ≡ v.share → 1 ≤ v.share → AreShares c views
    → AreShares c (set views id w)
shares_stay c views id v w at same live r = record {
  whole = total-same share_of views id v w at same ∙ r.whole;
  spent = seats_stay (λ _ u. u.share ≡ 0 → u ≡ blank c) views id w
      (λ none. absurd (omega (arith, same, live, none))) (λ j u ne there. r.spent j u there);
}

module _ (beside : Beside) (steady : IsSteady beside) (first : ℕ) (c : Config) (s : Table)
    (id : ℕ) (v : View) (at : get_elem? s.views id ≡ some v) (r : Ruled beside first c s) where
  -- a step of any seat, under which what is known stays
  pub any_step : (w : View) (ws : List ℕ) (es : List Entry) → w.share ≡ v.share → 1 ≤ v.share
      → IsAlike v w → AreOwn first (set s.views id w)
      → AreBound c r.known (set s.views id w) → get_or ws 0 0 ≡ get_or s.words 0 0
      → RuleKept c ws (set s.views id w) r.known es
      → Ruled beside first c record { words = ws; homes = s.homes; views = set s.views id w }
  any_step w ws es share live alike own bound lock kept = record {
    known = r.known;
    history = es;
    starts = r.starts;
    kept = kept;
    shares = shares_stay c s.views id v w at share live r.shares;
    own = own;
    bound = bound;
    far = steady.stays c s ws r.known r.known id v w at lock alike (inl refl) refl r.far;
  }

  -- one under which no object comes to it that is another's own
  pub any_seat : (w : View) (ws : List ℕ) (es : List Entry) → w.share ≡ v.share → 1 ≤ v.share
      → IsAlike v w → KeepsOwned v w → get_or ws 0 0 ≡ get_or s.words 0 0
      → RuleKept c ws (set s.views id w) r.known es
      → Ruled beside first c record { words = ws; homes = s.homes; views = set s.views id w }
  any_seat w ws es share live alike keeps lock kept = any_step w ws es share live alike
      (own_kept first s.views id v at r.own w keeps)
      (bound_stays c r.known s.views id v w at keeps.holds keeps.more r.bound) lock kept

  -- what the holder knows is what the rule knows
  pub mine : v.holds ≡ true → RuleKept c s.words s.views v.known r.history
  mine holds = subst (λ (k : Shown). RuleKept c s.words s.views k r.history)
      (sym ((r.kept.seats id v at).knows holds)) r.kept

  -- a step of the holder
  pub next : (e : Access) (i x : ℕ) → v.holds ≡ true → 1 ≤ v.share → 0 < i
      → Each (λ (y : Entry). MayWrite y.handle v.known v) (adds e v.known) → Stamps e v
      → HolderSteps c s.words (set s.words i x) s.views v e r.history
      → Ruled beside first c record {
        words = set s.words i x;
        homes = s.homes;
        views = set s.views id (act e v);
      }
  next e i x holds live pos within stamps t =
      let first_is : (after e v.known).first ≡ r.known.first = first_stays e v.known
      ∙ ap (λ (k : Shown). k.first) ((r.kept.seats id v at).knows holds) in record {
        known = after e v.known;
        history = adds e v.known ++ r.history;
        starts = first_is ∙ r.starts;
        kept = keeps_rule c s.words (set s.words i x) s.views id v e r.history (mine holds) at
            holds t;
        shares = shares_stay c s.views id v (act e v) at refl live r.shares;
        own = own_acted first c s.words s.views id v at r.own e r.history (mine holds) holds
            (sym (ap (λ (k : Shown). k.first) ((r.kept.seats id v at).knows holds) ∙ r.starts))
            t.follows t.within within;
        bound = bound_acted c s.views id v at holds (mine holds).sized e stamps
            (subst (λ (k : Shown). AreBound c k s.views)
            (sym ((r.kept.seats id v at).knows holds)) r.bound);
        far = steady.stays c s (set s.words i x) r.known (after e v.known) id v (act e v) at
            (same_lock s.words i x pos) record { holds = refl; start = refl; since = refl; took = refl; turns = refl; order = refl }
            (inr holds) first_is r.far;
      }

  -- a load of the holder
  pub next_load : (e : Access) (i : ℕ) → v.holds ≡ true → 1 ≤ v.share → 0 < i
      → Each (λ (y : Entry). MayWrite y.handle v.known v) (adds e v.known) → Stamps e v
      → HolderSteps c s.words s.words s.views v e r.history
      → Ruled beside first c record {
        words = set s.words i (get_or s.words i 0);
        homes = s.homes;
        views = set s.views id (act e v);
      }
  next_load e i holds live pos within stamps t = next e i (get_or s.words i 0) holds live pos
      within stamps
      (subst (λ (ws : List ℕ). HolderSteps c s.words ws s.views v e r.history)
      (sym (same_words s.words i)) t)
