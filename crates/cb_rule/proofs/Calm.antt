-- Steps under which what is known and the history stay: loads and pins of any seat.
use Rattle.std.proofs.Common.{◌≡◌, ◌≢◌, ◌⊎◌, ℕ, ◌+◌, ◌<◌, ◌≤◌, Bool, true, false, cond, List}
use Rattle.std.proofs.Common.{length, set, sym, refl, ap, ◌∙◌, subst, inl, ⊎_elim, arith}
use Rattle.std.proofs.Common.{length-set, get_or-set_other, get_or-set_same}
use native.Mathlib.Decide.{ℕ_discrete}
use mathlib.Core.Option.{some}
use lib.ListN.{get_elem?}
use Rattle.cb_types.specs.declared.config.Config.{Config}
use Rattle.cb_ptr.specs.declared.word.State.TheVariants as word
use Rattle.cb_ptr.specs.Word.{state_of, hot_of, len_of, pins_of}
use Rattle.cb_world.specs.declared.entry.Entry.{Entry}
use Rattle.cb_world.specs.declared.object.Object.{Object}
use Rattle.cb_world.specs.declared.object.Object.TheVariants as is
use Rattle.cb_world.specs.declared.shown.Shown.{Shown}
use Rattle.cb_world.specs.Memory.{IsPacked}
use Rattle.cb_world.specs.Shown.{Fits, object_at, hot_at, version_at}
use Rattle.cb_world.specs.StillDesk.{bits_here, bits_moving}
use Rattle.cb_rule.specs.declared.view.Held.{Held}
use Rattle.cb_rule.specs.declared.view.View.{View}
use Rattle.cb_rule.specs.History.{Value, holding_words, newest, top}
use Rattle.cb_rule.specs.Lists.{times, total, Each, Has}
use Rattle.cb_rule.specs.Records.{LookOk, PinOk, HeldOk, RecordOk, SeatOk}
use Rattle.cb_rule.specs.Rule.{StandsIn, RuleKept}
use Rattle.cb_rule.specs.Seats.{claims_it, pins_on, claims_on, written_on, holding}
use Rattle.cb_rule.specs.Stands.{IsCalm, IsClaimedBySeat, Stands}
use Rattle.cb_rule.specs.Steps.{look_at}
use Rattle.cb_rule.specs.Words.{stamps, base, pointer, stamp, words_at}
use Rattle.cb_rule.proofs.Counts.{each_there, total-at, total-same}
use Rattle.cb_rule.proofs.Histories.{newest_entry}
use Rattle.cb_rule.proofs.Keeping.{held_same, seats_stay, stands_same, words_else}

-- what such a step leaves of the view v, but for its pins on the object h
pub record Quiet (c : Config) (known : Shown) (es : List Entry) (h : ℕ) (v w : View) : Type 0 where
  pub same_config : w.config ≡ v.config
  pub claims : w.claims ≡ v.claims
  pub wrote : (a k : ℕ) → written_on a k w ≡ written_on a k v
  pub holds : w.holds ≡ v.holds
  pub knows : w.known ≡ v.known
  pub pins : Each (PinOk c known es) w.pins
  pub few : length w.pins ≤ 17
  pub others : (k : ℕ) → k ≢ h → pins_on k w ≡ pins_on k v
  pub lasting : RecordOk c known.first es w

module _ (c : Config) (ws : List ℕ) (views : List View) (known : Shown) (es : List Entry)
    (r : RuleKept c ws views known es) where
  same_claims : (id : ℕ) (v w : View) → get_elem? views id ≡ some v → w.claims ≡ v.claims
      → (k : ℕ) → total (claims_on k) (set views id w) ≡ total (claims_on k) views
  same_claims id v w at e k = total-same (claims_on k) views id v w at
      (ap (times (λ (y : Held). claims_it k y)) e)

  -- the seat that steps, whatever the words of other objects are
  my_seat : (ws' : List ℕ) (id h : ℕ) (v w : View) → get_elem? views id ≡ some v
      → Quiet c known es h v w → Each (HeldOk c ws' known es) v.claims → SeatOk c ws' known es w
  my_seat ws' id h v w at q held = let ok = r.seats id v at in record {
    same_config = q.same_config ∙ ok.same_config;
    pins = q.pins;
    few = q.few;
    claims = subst (Each (HeldOk c ws' known es)) (sym q.claims) held;
    knows = λ his. q.knows ∙ ok.knows (sym q.holds ∙ his);
    lasting = q.lasting;
  }

  one_holds : (id h : ℕ) (v w : View) → get_elem? views id ≡ some v → Quiet c known es h v w
      → total holding (set views id w) ≤ 1
  one_holds id h v w at q =
      let e = total-same holding views id v w at
      (ap (λ (b : Bool). cond {A = ℕ} b 1 0) q.holds) in omega (arith, e, r.one)

  -- the words stay, and the pins of each object
  pub still_rule : (id h : ℕ) (v w : View) → get_elem? views id ≡ some v → Quiet c known es h v w
      → pins_on h w ≡ pins_on h v → RuleKept c ws (set views id w) known es
  still_rule id h v w at q mine = record {
    wide = r.wide;
    sized = r.sized;
    begins = r.begins;
    fit = r.fit;
    hot = r.hot;
    owned = r.owned;
    inside = r.inside;
    apart = r.apart;
    stand = λ k lk. subst (λ (n : ℕ). Stands c known.first ws k n
        (total (claims_on k) (set views id w)) (top es k) (newest es k) (version_at known k)
        (object_at known k)) (sym (same_pins k))
        (subst (λ (n : ℕ). Stands c known.first ws k (total (pins_on k) views) n (top es k)
        (newest es k) (version_at known k) (object_at known k))
        (sym (same_claims id v w at q.claims k)) (r.stand k lk));
    seats = seats_stay (λ _ u. SeatOk c ws known es u) views id w
        (my_seat ws id h v w at q (r.seats id v at).claims) (λ j u ne there. r.seats j u there);
    history = r.history;
    within = r.within;
    recorded = λ a k. total-same (written_on a k) views id v w at (q.wrote a k) ∙ r.recorded a k;
    one = one_holds id h v w at q;
  }
    where
      same_pins : (k : ℕ) → total (pins_on k) (set views id w) ≡ total (pins_on k) views
      same_pins k = total-same (pins_on k) views id v w at (elim (ℕ_discrete k h) [
        | yes e ↦ subst (λ (j : ℕ). pins_on j w ≡ pins_on j v) (sym e) mine
        | no ne ↦ q.others k ne
      ])

  -- an object in local memory that no one claims
  pub record Lies (h : ℕ) : Type 0 where
    pub len : ℕ
    pub place : ℕ
    pub here : object_at known h ≡ is.Here len place
    pub calm : IsCalm c ws h (total (pins_on h) views) (total (claims_on h) views) (top es h)
        (newest es h) len place
    pub born : known.first ≤ top es h
    pub held : newest es h ≡ holding_words len (newest es h).words
    pub packed : IsPacked len (newest es h).words
    pub low : version_at known h ≤ top es h

  -- is one that has a pin, or whose word is Here
  pub lies : (h : ℕ) → h < c.handles
      → (state_of (pointer ws h) ≡ word.Here) ⊎ (0 < total (pins_on h) views) → Lies h
  lies h l why = go (object_at known h) refl (r.stand h l) (r.fit h l)
    where
      go : (z : Object) → object_at known h ≡ z
          → Stands c known.first ws h (total (pins_on h) views) (total (claims_on h) views)
          (top es h) (newest es h) (version_at known h) z
          → Fits z (pointer ws h) → Lies h
      go (is.Empty m) q k f = absurd (⊎_elim
          (λ (s : state_of (pointer ws h) ≡ word.Here).
          let b = bits_here (pointer ws h) s in omega (arith, b, f))
          (λ (s : 0 < total (pins_on h) views). let n = k.no_pins in omega (arith, n, s)) why)
      go (is.Far len m words) q k f = absurd (⊎_elim
          (λ (s : state_of (pointer ws h) ≡ word.Here).
          let b = bits_here (pointer ws h) s in let g = f.0 in omega (arith, b, g))
          (λ (s : 0 < total (pins_on h) views).
          let n = k.kept.no_pins in omega (arith, n, s)) why)
      go (is.Claimed len place m words) q k f = absurd (⊎_elim
          (λ (s : state_of (pointer ws h) ≡ word.Here). let b = bits_here (pointer ws h) s in
          let g = bits_moving (pointer ws h) f.4 in omega (arith, b, g))
          (λ (s : 0 < total (pins_on h) views).
          let n = k.kept.no_pins in omega (arith, n, s)) why)
      go (is.Here len place) q k f = ⊎_elim
          (λ (m : IsCalm c ws h (total (pins_on h) views) (total (claims_on h) views) (top es h)
          (newest es h) len place). record {
            len = len;
            place = place;
            here = q;
            calm = m;
            born = k.born;
            held = k.held;
            packed = k.packed;
            low = k.low;
          })
          (λ (m : IsClaimedBySeat ws h (total (pins_on h) views) (total (claims_on h) views)).
          absurd (⊎_elim
          (λ (s : state_of (pointer ws h) ≡ word.Here).
          let b = bits_here (pointer ws h) s in
          let g = bits_moving (pointer ws h) m.state in omega (arith, b, g))
          (λ (s : 0 < total (pins_on h) views). let n = m.no_pins in omega (arith, n, s))
          why)) k.word

  -- the newest entry of an object that has contents, whose length its word tells
  pub record HasNewestEntry (h : ℕ) : Type 0 where
    pub entry : Entry
    pub there : Has entry es
    pub handle : entry.handle ≡ h
    pub version : entry.version ≡ top es h
    pub held : entry.freed ≡ false
    pub long : entry.len ≡ len_of (pointer ws h)
    pub made : 0 < top es h

  -- an object has contents where its word is not Empty
  pub contents : (h : ℕ) → h < c.handles → state_of (pointer ws h) ≢ word.Empty → HasNewestEntry h
  contents h l full = go (object_at known h) (r.stand h l) (r.fit h l)
    where
      w : ℕ
      w = pointer ws h

      entry_of : (len : ℕ) (value : Value) → known.first ≤ top es h → newest es h ≡ value
          → value.freed ≡ false → value.len ≡ len → len_of w ≡ len → HasNewestEntry h
      entry_of len value born has kept long at =
          let made : 0 < top es h = (let b = r.begins in omega (arith, b, born)) in
          let n = newest_entry es h made in record {
            entry = n.entry;
            there = n.there;
            handle = n.handle;
            version = n.version;
            held = ap (λ (v : Value). v.freed) (n.has ∙ has) ∙ kept;
            long = ap (λ (v : Value). v.len) (n.has ∙ has) ∙ long ∙ sym at;
            made = made;
          }

      go : (z : Object)
          → Stands c known.first ws h (total (pins_on h) views) (total (claims_on h) views)
          (top es h) (newest es h) (version_at known h) z
          → Fits z w → HasNewestEntry h
      go (is.Empty m) k f = absurd (full (ap state_of f))
      go (is.Far len m words) k f = entry_of len (holding_words len words)
          (let b = k.born in let a = k.kept.at in omega (arith, a, b)) k.kept.has refl refl f.1
      go (is.Claimed len place m words) k f = entry_of len (holding_words len words)
          (let b = k.born in let a = k.kept.at in omega (arith, a, b)) k.kept.has refl refl f.1
      go (is.Here len place) k f =
          entry_of len (holding_words len (newest es h).words) k.born k.held refl refl f.1

  -- so a look tells of an entry
  pub look_ok : (h : ℕ) → h < c.handles → LookOk es (look_at h (pointer ws h))
  look_ok h l full = let n = contents h l full in (n.entry, n.there, n.handle, n.held, n.long)

  -- its word becomes x
  module _ (h : ℕ) (l : h < c.handles) (o : Lies h) (x : ℕ) where
    abbrev ws' : List ℕ
    ws' = set ws (1 + h) x

    ptr_h : pointer ws' h ≡ x
    ptr_h = get_or-set_same ws (1 + h) x 0 (let e = r.wide in omega arith)

    ptr_k : (k : ℕ) → k ≢ h → pointer ws' k ≡ pointer ws k
    ptr_k k ne = get_or-set_other ws (1 + h) (1 + k) x 0 (λ e. ne (omega (arith, e)))

    stm : (k : ℕ) → stamp c ws' k ≡ stamp c ws k
    stm k = get_or-set_other ws (1 + h) (stamps c + k) x 0 (λ e. omega (arith, e, l))

    wrd : (place len : ℕ) → words_at c ws' place len ≡ words_at c ws place len
    wrd place len = words_else c ws (1 + h) x place len (inl (omega (arith, l)))

    helds : (j : ℕ) (u : View) → get_elem? views j ≡ some u → Each (HeldOk c ws known es) u.claims
        → Each (HeldOk c ws' known es) u.claims
    helds j u there ok = each_there (HeldOk c ws known es) (HeldOk c ws' known es)
        (λ (y : Held). y.handle) u.claims
        (λ y pos k. held_same c ws ws' known known es es y refl refl refl (stm y.handle)
        (wrd y.place y.len) (ptr_k y.handle (λ e. unclaimed y pos e)) k) ok
      where
        unclaimed : (y : Held) → 0 < claims_on y.handle u → y.handle ≡ h → ⊥
        unclaimed y pos e = let many = total-at (claims_on y.handle) views j u there in
            let none = o.calm.no_claims in
            let same : total (claims_on y.handle) views ≡ total (claims_on h) views =
            ap (λ (q : ℕ). total (claims_on q) views) e in
            omega (arith, many, none, same, pos)

    pub calm_rule : (id : ℕ) (v w : View) → get_elem? views id ≡ some v → Quiet c known es h v w
        → Fits (is.Here o.len o.place) x → state_of x ≡ word.Here
        → (hot_of (pointer ws h) ≡ true → hot_of x ≡ true)
        → (1 ≤ total (pins_on h) (set views id w) → hot_of x ≡ true)
        → pins_of x ≡ total (pins_on h) (set views id w)
        → RuleKept c ws' (set views id w) known es
    calm_rule id v w at q fits state hot warm count = let vs' : List View = set views id w in
        record {
          wide = length-set ws (1 + h) x ∙ r.wide;
          sized = r.sized;
          begins = r.begins;
          fit = λ k lk. elim (ℕ_discrete k h) [
            | yes e ↦ subst (λ (j : ℕ). Fits (object_at known j) (pointer ws' j)) (sym e)
                (subst (λ (z : Object). Fits z (pointer ws' h)) (sym o.here)
                (subst (Fits (is.Here o.len o.place)) (sym ptr_h) fits))
            | no ne ↦ subst (Fits (object_at known k)) (sym (ptr_k k ne)) (r.fit k lk)
          ];
          hot = λ k lk was. elim (ℕ_discrete k h) [
            | yes e ↦ ap (λ (j : ℕ). hot_of (pointer ws' j)) e ∙ ap hot_of ptr_h
                ∙ hot (r.hot h l (ap (hot_at known) (sym e) ∙ was))
            | no ne ↦ ap hot_of (ptr_k k ne) ∙ r.hot k lk was
          ];
          owned = λ p own. get_or-set_other ws (1 + h) (base c + p) x 0 (λ e. omega (arith, e, l))
              ∙ r.owned p own;
          inside = r.inside;
          apart = r.apart;
          stand = λ k lk. elim (ℕ_discrete k h) [
            | yes e ↦ subst (λ (j : ℕ). StandsIn c ws' vs' known es j) (sym e)
                (subst (Stands c known.first ws' h (total (pins_on h) vs') (total (claims_on h) vs')
                (top es h) (newest es h) (version_at known h)) (sym o.here) record {
                  born = o.born;
                  held = o.held;
                  packed = o.packed;
                  low = o.low;
                  word = inl record {
                    no_claims = same_claims id v w at q.claims h ∙ o.calm.no_claims;
                    state = ap state_of ptr_h ∙ state;
                    count = ap pins_of ptr_h ∙ count;
                    warm = λ some. ap hot_of ptr_h ∙ warm some;
                    stamped = stm h ∙ o.calm.stamped;
                    words = wrd o.place o.len ∙ o.calm.words;
                  };
                })
            | no ne ↦ subst (λ (n : ℕ). Stands c known.first ws' k n (total (claims_on k) vs')
                (top es k) (newest es k) (version_at known k) (object_at known k))
                (sym (total-same (pins_on k) views id v w at (q.others k ne)))
                (subst (λ (n : ℕ). Stands c known.first ws' k (total (pins_on k) views) n (top es k)
                (newest es k) (version_at known k) (object_at known k))
                (sym (same_claims id v w at q.claims k))
                (stands_same c known.first ws ws' k (total (pins_on k) views)
                (total (claims_on k) views) (top es k) (top es k) (newest es k) (newest es k)
                (version_at known k) (version_at known k) (object_at known k) (object_at known k)
                refl refl refl refl (ptr_k k ne) (stm k) (λ len place _. wrd place len)
                (r.stand k lk)))
          ];
          seats = seats_stay (λ _ u. SeatOk c ws' known es u) views id w
              (my_seat ws' id h v w at q (helds id v at (r.seats id v at).claims))
              (λ j u ne there. let ok = r.seats j u there in record {
                same_config = ok.same_config;
                pins = ok.pins;
                few = ok.few;
                claims = helds j u there ok.claims;
                knows = ok.knows;
                lasting = ok.lasting;
              });
          history = r.history;
          within = r.within;
          recorded = λ a k. total-same (written_on a k) views id v w at (q.wrote a k) ∙ r.recorded a k;
          one = one_holds id h v w at q;
        }
