-- A load of a memory word under a pin.
use Rattle.std.proofs.Common.{◌≡◌, ℕ, ◌+◌, ◌<◌, ◌≤◌, List}
use Rattle.std.proofs.Common.{[], ◌∷◌, get_or, set, sym, refl, ap, ◌∙◌, subst}
use Rattle.std.proofs.Common.{inr, arith}
use native.Mathlib.Decide.{ℕ_discrete}
use mathlib.Core.Logic.{dite}
use mathlib.Core.Option.{some, none}
use lib.ListN.{get_elem?}
use Rattle.atomic_table.specs.Table.{step, keeps, Allows}
use Rattle.cb_types.specs.declared.config.Config.{Config}
use Rattle.cb_world.specs.declared.entry.Entry.{Entry}
use Rattle.cb_world.specs.declared.object.Object.{Object}
use Rattle.cb_world.specs.declared.object.Object.TheVariants as is
use Rattle.cb_world.specs.declared.shown.Shown.{Shown}
use Rattle.cb_world.specs.Memory.{words_for}
use Rattle.cb_world.specs.Shown.{object_at}
use Rattle.cb_world.proofs.Laws.{window_at}
use Rattle.cb_rule.specs.declared.view.Stand.{Stand}
use Rattle.cb_rule.specs.declared.view.View.{View}
use Rattle.cb_rule.specs.History.{top}
use Rattle.cb_rule.specs.Lists.{times, total, Has}
use Rattle.cb_rule.specs.Records.{PinOk, PeekedOk}
use Rattle.cb_rule.specs.Rule.{RuleKept}
use Rattle.cb_rule.specs.Ruled.{Beside, IsSteady, Ruled}
use Rattle.cb_rule.specs.Seats.{pins_it, pins_on}
use Rattle.cb_rule.specs.Slot.{Sat}
use Rattle.cb_rule.specs.Steps.{peeked, with_peek}
use Rattle.cb_rule.specs.Words.{base, words_at}
use Rattle.cb_rule.proofs.Calm.{Quiet, lies, still_rule}
use Rattle.cb_rule.proofs.Counts.{hit, total-at}
use Rattle.cb_rule.proofs.Members.{each_has}
use Rattle.cb_rule.proofs.Histories.{newest_entry}
use Rattle.cb_rule.proofs.Keeping.{lies_here}
use Rattle.cb_rule.proofs.Lifting.{any_seat, same_words}
use Rattle.cb_rule.proofs.Owning.{keeps_all}
use Rattle.cb_rule.proofs.Pinning.{reread}

-- a pin of the list counts
has_pin : (p : Stand) (ps : List Stand) → Has p ps → 0 < times (pins_it p.handle) ps
has_pin p [] h = absurd h
has_pin p (q ∷ ps) h = Rattle.std.proofs.Common.⊎_elim
    (λ (e : q ≡ p). let one = hit (Rattle.std.proofs.Common.eqb q.handle p.handle)
    (Rattle.std.proofs.Common.eq-eqb q.handle p.handle (ap (λ (x : Stand). x.handle) e)) in
    omega (arith, one))
    (λ (more : Has p ps). let z = has_pin p ps more in omega (arith, z)) h

abbrev len_in : Object → ℕ
len_in (is.Empty m) = 0
len_in (is.Far len m words) = len
len_in (is.Here len place) = len
len_in (is.Claimed len place m words) = len

abbrev place_in : Object → ℕ
place_in (is.Empty m) = 0
place_in (is.Far len m words) = 0
place_in (is.Here len place) = place
place_in (is.Claimed len place m words) = place

module _ (c : Config) (ws : List ℕ) (views : List View) (known : Shown) (es : List Entry)
    (r : RuleKept c ws views known es) (id : ℕ) (v : View) (at : get_elem? views id
    ≡ some v) (p : Stand) (there : Has p v.pins) (j : ℕ) (lt : j < words_for p.len) where
  ok : PinOk c known es p
  ok = each_has (PinOk c known es) p v.pins (r.seats id v at).pins there

  pinned : 0 < total (pins_on p.handle) views
  pinned = let many = total-at (pins_on p.handle) views id v at in
      let one = has_pin p v.pins there in omega (arith, many, one)

  -- the word is that of the pin
  pub peeks_word : get_or ws (base c + p.place + j) 0 ≡ get_or p.words j 0
  peeks_word = let o = lies c ws views known es r p.handle ok.below (inr pinned) in
      let same : is.Here o.len o.place ≡ is.Here p.len p.place = sym o.here ∙ ok.there in
      let laid : words_at c ws p.place p.len ≡ p.words =
      (λ q. words_at c ws (ap place_in (sym same) q) (ap len_in (sym same) q))
      ∙ o.calm.words ∙ ap (λ (x : Rattle.cb_rule.specs.History.Value). x.words) ok.contents in
      sym (window_at ws (base c + p.place) (words_for p.len) j lt)
      ∙ ap (λ (m : List ℕ). get_or m j 0) laid

  -- and that of its entry
  pub peeks_entry : (n : ℕ) → n ≡ get_or p.words j 0
      → PeekedOk es record { handle = p.handle; version = p.version; index = j; word = n }
  peeks_entry n is_word =
      let o = lies c ws views known es r p.handle ok.below (inr pinned) in
      let e = newest_entry es p.handle
      (let b = o.born in let q = r.begins in omega (arith, b, q)) in
      let has = e.has ∙ ok.contents in (
        e.entry,
        e.there,
        record {
          handle = sym e.handle;
          version = ok.number ∙ sym e.version;
          within = subst (λ (m : ℕ). j < words_for m)
              (ap (λ (x : Rattle.cb_rule.specs.History.Value). x.len) (sym has)) lt;
          word = is_word ∙ ap (λ (x : Rattle.cb_rule.specs.History.Value). get_or x.words j 0)
              (sym has);
        },
      )

  -- another pin of the seat that has the word is on the same version
  pub one_pin : (q : Stand) → Has q v.pins → (k : ℕ) → k < words_for q.len
      → p.place + j ≡ q.place + k → (p.handle ≡ q.handle) × (p.version ≡ q.version) × (j ≡ k)
  one_pin q there' k lt' e = let ok' =
      each_has (PinOk c known es) q v.pins (r.seats id v at).pins there' in
      dite (ℕ_discrete p.handle q.handle)
      (λ same. let here : is.Here p.len p.place ≡ is.Here q.len q.place =
      sym ok.there ∙ ap (object_at known) same ∙ ok'.there in (
        same,
        ok.number ∙ ap (top es) same ∙ sym ok'.number,
        (let z : p.place ≡ q.place = ap place_in here in omega (arith, z, e)),
      ))
      (λ ne. absurd (r.apart p.handle p.len p.place q.handle q.len q.place (p.place + j)
      (lies_here known p.handle p.len p.place ok.there)
      (lies_here known q.handle q.len q.place ok'.there) ne
      (omega arith, omega (arith, lt)) (omega (arith, e), omega (arith, e, lt'))))

module _ (beside : Beside) (steady : IsSteady beside) (first : ℕ) (c : Config) (slots id : ℕ)
    (me : Sat) (live : 1 ≤ me.0.share) where
  pub peeks : (p : Stand) (j : ℕ) → Has p me.0.pins → j < words_for p.len
      → Allows (Ruled beside first c) slots id me (base c + p.place + j) (λ n. n)
      (peeked (step slots (base c + p.place + j) 0 0 none) me)
  peeks p j there lt s r _ at _ = (
    w,
    keeps,
    tt,
    subst (λ (ws : List ℕ). Ruled beside first c record {
      words = ws;
      homes = s.homes;
      views = set s.views id w;
    }) (sym (same_words s.words (base c + p.place + j)))
        (any_seat beside steady first c s id me.0 at r w s.words r.history refl live
        record { holds = refl; start = refl; since = refl; took = refl; turns = refl; order = refl } (keeps_all me.0 me.0.looks w.peeked) refl
        (still_rule c s.words s.views r.known r.history k id p.handle me.0 w at quiet refl)),
    λ q i there' lt' e. let z = one_pin c s.words s.views r.known r.history k id me.0 at p there
        j lt q there' i lt' (let cfg = ap base same_config in omega (arith, e, cfg)) in (
          ap (λ (m : ℕ). get_or s.words m 0)
              (e ∙ ap (λ (x : Config). base x + q.place + i) same_config)
              ∙ peeks_word c s.words s.views r.known r.history k id me.0 at q there' i lt',
          λ d. (with_peek (z.0 d) (z.1 d) (z.2 d) n me.0, me.1),
        ),
  )
    where
      k : RuleKept c s.words s.views r.known r.history
      k = r.kept

      same_config : me.0.config ≡ c
      same_config = (k.seats id me.0 at).same_config

      n : ℕ
      n = get_or s.words (base c + p.place + j) 0

      w : View
      w = with_peek p.handle p.version j n me.0

      quiet : Quiet c r.known r.history p.handle me.0 w
      quiet = let ok = k.seats id me.0 at in record {
        same_config = refl;
        claims = refl;
        wrote = λ a i. refl;
        holds = refl;
        knows = refl;
        pins = ok.pins;
        few = ok.few;
        others = λ i ne. refl;
        lasting = reread c r.known.first r.history me.0 me.0.share me.0.ever me.0.pins me.0.claims
            me.0.looks me.0.seen _ ok.lasting ok.lasting.looks ok.lasting.seen (
              peeks_entry c s.words s.views r.known r.history k id me.0 at p there j lt n
                  (peeks_word c s.words s.views r.known r.history k id me.0 at p there j lt),
              ok.lasting.peeked,
            ) ok.lasting.lately;
      }
