-- Each way in which the holder of the far lock may settle the word of an object.
use Rattle.std.proofs.Common.{◌≡◌, ℕ, ◌+◌, ◌^◌, ◌<◌, ◌≤◌, Bool, cond, List, [], ◌∷◌, ◌++◌, length}
use Rattle.std.proofs.Common.{get_or, set, sym, refl, ap, ◌∙◌, subst, inl, inr, ⊎_elim, true≢false}
use Rattle.std.proofs.Common.{arith, get_or-set_other, get_or-set_same, eq-eqb, ne_eqb}
use Rattle.cb_types.specs.declared.config.Config.{Config}
use Rattle.cb_ptr.specs.declared.word.State.{State}
use Rattle.cb_ptr.specs.declared.word.State.TheVariants as word
use Rattle.cb_ptr.specs.Word.{state_of, len_of, place_of, pins_of}
use Rattle.cb_world.specs.declared.entry.Entry.{Entry}
use Rattle.cb_world.specs.declared.access.Access.TheVariants.{Settled}
use Rattle.cb_world.specs.declared.object.Object.{Object}
use Rattle.cb_world.specs.declared.object.Object.TheVariants as is
use Rattle.cb_world.specs.Memory.{window, words_for, IsPacked}
use Rattle.cb_world.specs.Shown.{Fits, Covers, MayLie, Owns, IsHeld, object_at, version_at}
use Rattle.cb_world.specs.Played.{settled_by}
use Rattle.cb_world.specs.Settling.{MaySettle, MaySettleAs, MayFree, MayPutAway, MayBring}
use Rattle.cb_world.specs.Settling.{HasContents, IsPutAway, settled_words}
use Rattle.cb_world.specs.Write.{IsWrite}
use Rattle.cb_world.specs.LocalSound.{LiesAt}
use Rattle.cb_world.specs.Written.{adds, adds_as, entry, gone, newer}
use Rattle.cb_world.proofs.Laws.{contents_packed}
use Rattle.cb_rule.specs.declared.view.View.{View}
use Rattle.cb_rule.specs.History.{Value, Follows, holding_words, newest, top}
use Rattle.cb_rule.specs.Lists.{total}
use Rattle.cb_rule.specs.Rule.{RuleKept}
use Rattle.cb_rule.specs.Seats.{pins_on, claims_on}
use Rattle.cb_rule.specs.Stands.{IsHolding, Stands}
use Rattle.cb_rule.specs.Words.{stamps, base, pointer, stamp, words_at}
use Rattle.cb_rule.proofs.Keeping.{HolderSteps, words_else, win_shift}
use Rattle.cb_rule.proofs.Histories.{newest_else, newest_same, top_else, top_same}
use Rattle.cb_rule.proofs.Settling.{owns_lie, settled_steps}

module _ (c : Config) (ws : List ℕ) (views : List View) (v : View) (h w : ℕ) (es : List Entry)
    (r : RuleKept c ws views v.known es) (l : h < c.handles) where
  abbrev pins : ℕ
  pins = total (pins_on h) views

  abbrev claims : ℕ
  claims = total (claims_on h) views

  abbrev version : ℕ
  version = version_at v.known h

  -- what is shown: the step of the settling
  abbrev Next : Type 0
  Next = HolderSteps c ws (set ws (1 + h) w) views v (Settled h w) es

  -- what is known of the object, with contents of this length, version and words
  abbrev Has : ℕ → ℕ → List ℕ → Type 0
  Has len m words = IsHolding c v.known.first ws h pins claims (top es h) (newest es h) version
      len m words

  abbrev StandsThen : List Entry → Object → Type 0
  StandsThen more n = Stands c v.known.first (set ws (1 + h) w) h pins claims
      (top (more ++ es) h) (newest (more ++ es) h) version n

  ptr_here : pointer (set ws (1 + h) w) h ≡ w
  ptr_here = get_or-set_same ws (1 + h) w 0 (let e = r.wide in omega arith)

  stamp_same : stamp c (set ws (1 + h) w) h ≡ stamp c ws h
  stamp_same = get_or-set_other ws (1 + h) (stamps c + h) w 0 (λ e. omega arith)

  -- the words at an owned place
  owned_words : ((p : ℕ) → Covers (place_of w) (len_of w) p → Owns v.known p)
      → words_at c (set ws (1 + h) w) (place_of w) (len_of w) ≡ settled_words v.known w
  owned_words owns = let place = place_of w in let len = len_of w in
      words_else c ws (1 + h) w place len (inl (omega arith))
      ∙ win_shift ws v.known.memory (base c + place) place (words_for len)
      (λ i lt. ap (λ (j : ℕ). get_or ws j 0)
      (let e : base c + place + i ≡ base c + (place + i) = omega arith in e)
      ∙ r.owned (place + i) (owns (place + i) (
        (let a : place ≤ place + i = omega arith in a),
        (let b : place + i < place + words_for len = omega arith in b),
      )))

  -- settled without a new version
  still : (n : Object) → settled_by (state_of w) w version (object_at v.known h) ≡ n
      → adds (Settled h w) v.known ≡ [] → IsHeld (object_at v.known h) → pins ≡ 0 → claims ≡ 0
      → Fits n w → StandsThen [] n
      → ((len place p : ℕ) → LiesAt n len place → Covers place len p → MayLie v.known h p)
      → Next
  still n becomes nothing held no_pins no_claims fits mine lies =
      settled_steps c ws views v h w es n [] r record {
        becomes = becomes;
        adds_more = nothing;
        within = l;
        held = held;
        no_pins = no_pins;
        no_claims = no_claims;
        fits = fits;
        lies = lies;
        enters = record {
          mine = mine;
          others = λ k ne. (refl, refl);
          follows = r.history;
          within = tt;
        };
      }

  -- settled with a new version
  newly : (n : Object) (e : Entry) → e.handle ≡ h
      → settled_by (state_of w) w version (object_at v.known h) ≡ n
      → adds (Settled h w) v.known ≡ e ∷ [] → IsHeld (object_at v.known h) → pins ≡ 0
      → claims ≡ 0 → Fits n w → Follows v.known.first (top es h) (newest es h) e
      → StandsThen (e ∷ []) n
      → ((len place p : ℕ) → LiesAt n len place → Covers place len p → MayLie v.known h p)
      → Next
  newly n e his becomes more held no_pins no_claims fits follows mine lies =
      settled_steps c ws views v h w es n (e ∷ []) r record {
        becomes = becomes;
        adds_more = more;
        within = l;
        held = held;
        no_pins = no_pins;
        no_claims = no_claims;
        fits = fits;
        lies = lies;
        enters = record {
          mine = mine;
          others = λ k ne. (
            top_else e es k (λ q. ne (q ∙ his)),
            newest_else e es k (λ q. ne (q ∙ his)),
          );
          follows = (
            subst (λ (j : ℕ). Follows v.known.first (top es j) (newest es j) e) (sym his)
                follows,
            r.history,
          );
          within = (subst (λ (j : ℕ). j < c.handles) (sym his) l, tt);
        };
      }

  -- an entry that has the object's contents before it, its length, and the next version
  follows_on : (len m : ℕ) (words : List ℕ) → Has len m words → version ≡ m + 1
      → (after : List ℕ)
      → Follows v.known.first (top es h) (newest es h) (entry h version len words after)
  follows_on len m words k up after = inr record {
    there = ap (λ (x : Value). x.freed) k.kept.has;
    number = up ∙ ap (λ (j : ℕ). j + 1) (sym k.kept.at);
    past = sym (ap (λ (x : Value). x.words) k.kept.has);
    same_len = λ _. sym (ap (λ (x : Value). x.len) k.kept.has);
    ends = λ q. absurd (true≢false (sym q));
  }

  -- the object had contents, and is settled in local memory
  module _ (here : state_of w ≡ word.Here) (below : w < 2 ^ 53) (bare : pins_of w ≡ 0)
      (may : (p : ℕ) → Covers (place_of w) (len_of w) p → MayLie v.known h p) where
    abbrev lain : Object
    lain = is.Here (len_of w) (place_of w)

    lies : (len place p : ℕ) → LiesAt lain len place → Covers place len p → MayLie v.known h p
    lies len place p e cov = may p (subst (λ (z : ℕ). Covers z (len_of w) p) e.1
        (subst (λ (z : ℕ). Covers place z p) e.0 cov))

    -- it stands there with the newest entry that it has then
    lain_there : (more : List Entry) → pins ≡ 0 → claims ≡ 0
        → IsHeld (object_at v.known h) → stamp c ws h ≡ version
        → v.known.first ≤ top (more ++ es) h
        → top (more ++ es) h ≡ version
        → newest (more ++ es) h ≡ holding_words (len_of w) (settled_words v.known w)
        → IsPacked (len_of w) (settled_words v.known w) → StandsThen more lain
    lain_there more no_pins no_claims held stamped born last value packed = record {
      born = born;
      held = value ∙ ap (holding_words (len_of w)) (sym (ap (λ (x : Value). x.words) value));
      packed = subst (IsPacked (len_of w)) (sym (ap (λ (x : Value). x.words) value)) packed;
      low = (let e = last in omega arith);
      word = inl record {
        no_claims = no_claims;
        state = ap state_of ptr_here ∙ here;
        count = ap pins_of ptr_here ∙ bare ∙ sym no_pins;
        warm = λ pos. absurd (let z = no_pins in omega arith);
        stamped = stamp_same ∙ stamped ∙ sym last;
        words = owned_words (λ p cov. owns_lie v.known h p held (may p cov))
            ∙ sym (ap (λ (x : Value). x.words) value);
      };
    }

    brought : (o : Object) (len m : ℕ) (words : List ℕ) → object_at v.known h ≡ o → IsHeld o
        → Has len m words
        → adds_as word.Here v.known h w o
        ≡ newer h version m (len_of w) words (settled_words v.known w)
        → HasContents v.known h w len m words → Next
    brought o len m words is_o held k more contents =
        let s = v.known in
        let becomes : settled_by (state_of w) w version (object_at s h) ≡ lain =
        ap (λ (q : State). settled_by q w version (object_at s h)) here in
        let added : adds (Settled h w) s
        ≡ newer h version m (len_of w) words (settled_words s w) =
        ap (λ (q : State). adds_as q s h w (object_at s h)) here
        ∙ ap (adds_as word.Here s h w) is_o ∙ more in
        let held' : IsHeld (object_at s h) = subst IsHeld (sym is_o) held in
        let same_len = contents.0 in
        let packed : IsPacked (len_of w) (settled_words s w) =
        contents_packed s h w len m words contents k.packed in
        ⊎_elim
        (λ (a : (version ≡ m) × (window s.memory (place_of w) (words_for len) ≡ words)).
        let words_are : settled_words s w ≡ words =
        ap (λ (q : ℕ). window s.memory (place_of w) (words_for q)) same_len ∙ a.1 in
        still lain becomes
        (added ∙ ap (λ (b : Bool). cond b []
        (entry h version (len_of w) words (settled_words s w) ∷ []))
        (eq-eqb version m a.0))
        held' k.kept.no_pins k.kept.no_claims (below, refl, refl, inl here)
        (lain_there [] k.kept.no_pins k.kept.no_claims held' k.kept.stamped
        (let b = k.born in let t = k.kept.at in omega arith) (k.kept.at ∙ sym a.0)
        (k.kept.has ∙ (λ i. holding_words (sym same_len i) (sym words_are i))) packed) lies)
        (λ (a : (version ≡ m + 1) × ((at : ℕ) × (bytes : List ℕ) × (at + length bytes ≤ len)
        × IsWrite words at bytes (window s.memory (place_of w) (words_for len)))).
        let e : Entry = entry h version (len_of w) words (settled_words s w) in
        newly lain e refl becomes
        (added ∙ ap (λ (b : Bool). cond b [] (e ∷ []))
        (ne_eqb version m (λ q. let u = a.0 in omega arith)))
        held' k.kept.no_pins k.kept.no_claims (below, refl, refl, inl here)
        (subst (λ (n : ℕ). Follows s.first (top es h) (newest es h)
        (entry h version n words (settled_words s w))) (sym same_len)
        (follows_on len m words k a.0 (settled_words s w)))
        (lain_there (e ∷ []) k.kept.no_pins k.kept.no_claims held' k.kept.stamped
        (subst (λ (j : ℕ). s.first ≤ j) (sym (top_same e es))
        (let b = k.born in let u = a.0 in omega arith))
        (top_same e es) (newest_same e es) packed) lies)
        contents.1

    -- a new object, at the first version
    made : (m : ℕ) → object_at v.known h ≡ is.Empty m
        → Stands c v.known.first ws h pins claims (top es h) (newest es h) version (is.Empty m)
        → m ≡ 0 → version ≡ v.known.first
        → IsPacked (len_of w) (settled_words v.known w) → Next
    made m is_o k never at_first packed =
        let s = v.known in
        let e : Entry = entry h version (len_of w) [] (settled_words s w) in
        let held : IsHeld (object_at s h) = subst IsHeld (sym is_o) tt in
        newly lain e refl (ap (λ (q : State). settled_by q w version (object_at s h)) here)
        (ap (λ (q : State). adds_as q s h w (object_at s h)) here
        ∙ ap (adds_as word.Here s h w) is_o)
        held k.no_pins k.no_claims (below, refl, refl, inl here)
        (inl record { never = k.at ∙ never; number = at_first; kept = refl; nothing = refl })
        (lain_there (e ∷ []) k.no_pins k.no_claims held k.stamped
        (subst (λ (j : ℕ). s.first ≤ j) (sym (top_same e es)) (omega arith))
        (top_same e es) (newest_same e es) packed) lies

  freed : (o : Object) (len m : ℕ) (words : List ℕ) → object_at v.known h ≡ o → IsHeld o
      → state_of w ≡ word.Empty → w ≡ 0 → Has len m words
      → adds_as word.Empty v.known h w o ≡ gone h version words ∷ [] → version ≡ m + 1 → Next
  freed o len m words is_o held at zeros k more up =
      let s = v.known in let e : Entry = gone h version words in
      newly (is.Empty version) e refl
      (ap (λ (q : State). settled_by q w version (object_at s h)) at)
      (ap (λ (q : State). adds_as q s h w (object_at s h)) at
      ∙ ap (adds_as word.Empty s h w) is_o ∙ more)
      (subst IsHeld (sym is_o) held) k.kept.no_pins k.kept.no_claims zeros
      (inr record {
        there = ap (λ (x : Value). x.freed) k.kept.has;
        number = up ∙ ap (λ (j : ℕ). j + 1) (sym k.kept.at);
        past = sym (ap (λ (x : Value). x.words) k.kept.has);
        same_len = λ q. absurd (true≢false q);
        ends = λ _. refl;
      })
      record {
        no_pins = k.kept.no_pins;
        no_claims = k.kept.no_claims;
        stamped = stamp_same ∙ k.kept.stamped;
        at = top_same e es;
        has = newest_same e es;
      } (λ len place p z cov. absurd z)

  put_away : (o : Object) (len m : ℕ) (words : List ℕ) → object_at v.known h ≡ o → IsHeld o
      → state_of w ≡ word.Far
      → settled_by word.Far w version o ≡ is.Far (len_of w) version words → Has len m words
      → IsPutAway v.known h w len m → Next
  put_away o len m words is_o held at becomes k may =
      let s = v.known in
      still (is.Far (len_of w) version words)
      (ap (λ (q : State). settled_by q w version (object_at s h)) at
      ∙ ap (settled_by word.Far w version) is_o ∙ becomes)
      (ap (λ (q : State). adds_as q s h w (object_at s h)) at)
      (subst IsHeld (sym is_o) held) k.kept.no_pins k.kept.no_claims (may.0, refl)
      record {
        kept = record {
          no_pins = k.kept.no_pins;
          no_claims = k.kept.no_claims;
          stamped = stamp_same ∙ k.kept.stamped;
          at = k.kept.at ∙ sym may.2;
          has = k.kept.has ∙ ap (λ (n : ℕ). holding_words n words) (sym may.1);
        };
        born = (let b = k.born in let u = may.2 in omega arith);
        packed = subst (λ (q : ℕ). IsPacked q words) (sym may.1) k.packed;
      } (λ len place p z cov. absurd z)

  stands_as : (o : Object) → object_at v.known h ≡ o
      → Stands c v.known.first ws h pins claims (top es h) (newest es h) version o
  stands_as o e = subst (Stands c v.known.first ws h pins claims (top es h) (newest es h)
      version) e (r.stand h l)

  free : (o : Object) → object_at v.known h ≡ o → state_of w ≡ word.Empty → w ≡ 0
      → MayFree v.known h o → Next
  free (is.Empty m) e at zeros x = absurd x
  free (is.Far len m words) e at zeros x = freed (is.Far len m words) len m words e tt at zeros
      (stands_as (is.Far len m words) e) refl x
  free (is.Here len place) e at zeros x = absurd x
  free (is.Claimed len place m words) e at zeros x = freed (is.Claimed len place m words) len m
      words e tt at zeros (stands_as (is.Claimed len place m words) e) refl x

  away : (o : Object) → object_at v.known h ≡ o → state_of w ≡ word.Far
      → MayPutAway v.known h w o → Next
  away (is.Empty m) e at x = absurd x
  away (is.Far len m words) e at x = put_away (is.Far len m words) len m words e tt at refl
      (stands_as (is.Far len m words) e) x
  away (is.Here len place) e at x = absurd x
  away (is.Claimed len place m words) e at x = put_away (is.Claimed len place m words) len m
      words e tt at refl (stands_as (is.Claimed len place m words) e) x

  bring : (o : Object) → object_at v.known h ≡ o → state_of w ≡ word.Here → w < 2 ^ 53
      → pins_of w ≡ 0 → ((p : ℕ) → Covers (place_of w) (len_of w) p → MayLie v.known h p)
      → MayBring v.known h w o → Next
  bring (is.Empty m) e at below bare may x = made at below bare may m e
      (stands_as (is.Empty m) e) x.0 x.1 x.2
  bring (is.Far len m words) e at below bare may x = brought at below bare may
      (is.Far len m words) len m words e tt (stands_as (is.Far len m words) e) refl x
  bring (is.Here len place) e at below bare may x = absurd x
  bring (is.Claimed len place m words) e at below bare may x = brought at below bare may
      (is.Claimed len place m words) len m words e tt (stands_as (is.Claimed len place m words) e)
      refl x

  by_state : (q : State) → state_of w ≡ q → MaySettleAs q v.known h w → Next
  by_state word.Empty e x = free (object_at v.known h) refl e x.0 x.1
  by_state word.Far e x = away (object_at v.known h) refl e x
  by_state word.Here e x = bring (object_at v.known h) refl e x.0 x.1 x.2 x.3
  by_state word.Moving e x = absurd x

  -- every way to settle
  pub settle_steps : MaySettle v.known h w
      → HolderSteps c ws (set ws (1 + h) w) views v (Settled h w) es
  settle_steps may = by_state (state_of w) refl may
