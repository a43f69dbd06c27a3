-- Room is won by evictions one after another, over any desk: what stands in the loop that makes
-- them.
use Rattle.std.proofs.Common.{◌≡◌, ℕ, zero, suc, ◌+◌, ◌*◌, ◌^◌, ◌<◌, ◌≤◌, List, Option, None, Some, Result, Ok, Err, is_some, refl, sym, ◌∙◌, subst, arith}
use Rattle.std.specs.Prelude.{OnErr}
use Rattle.std.proofs.lemmas.List.Sums.{count_by-le-length}
use Rattle.cb_member.specs.declared.no_memory.NoMemory.{NoMemory}
use Rattle.cb_types.specs.declared.config.Config.{Config}
use Rattle.cb_types.specs.declared.config.Field.TheVariants.{Frames}
use Rattle.cb_types.specs.Config.{IsAccepted}
use Rattle.cb_types.specs.declared.handle.SetId.{SetId}
use Rattle.cb_types.specs.declared.reply.Reply.{Reply}
use Rattle.cb_types.specs.declared.reply.Reply.TheVariants as answer
use Rattle.cb_world.specs.declared.access.Access.{Access}
use Rattle.cb_world.specs.declared.homes.Home.{Home}
use Rattle.cb_world.specs.declared.shown.Shown.{Shown}
use Rattle.cb_world.specs.FarState.{FarState}
use Rattle.cb_world.specs.Homes.{home_at}
use Rattle.cb_world.specs.Played.{played}
use Rattle.cb_world.specs.World.{IsConfigured}
use Rattle.cb_evict.specs.declared.eviction.Eviction.{Eviction}
use Rattle.cb_evict.specs.declared.eviction.Eviction.TheVariants.{Refused, Set}
use Rattle.cb_core.specs.Parts.{Holding, WithRoom, no_room, won, most_evictions, refusal_by, RoomStops, evicting, after}
use Rattle.cb_core.specs.Turned.{EvictLacks, TriesRoom, WinsRoom}
use Rattle.cb_core.proofs.Composing.{IsSoundShown, shown_after}
use Rattle.cb_core.proofs.PartsFar.{HasWon, has_won, span_count}

module _ {D : Type 0} (run : D → List Access → D → Type 0) (shows : D → Shown → Type 0)
    (settings : D → Config) (c : Config) (P : Holding D → Reply → Holding D → Type 0)
    (L : Holding D → Holding D → Type 0) where
  abbrev Goes : ℕ → Holding D → Reply → Holding D → Type 0
  Goes = WithRoom c.frames P (WinsRoom run shows c)

  abbrev Stops : ℕ → Holding D → Holding D → Type 0
  Stops = RoomStops P L (WinsRoom run shows c) (EvictLacks run shows)

  -- So many evictions were made since the start. Whoever goes on from here with those that are left
  -- has gone from the start, and as many are left as there are spans in local memory; each eviction
  -- let the numbers that are drawn rise, and left far objects their homes.
  pub record IsWinning (start here : Holding D) (made : ℕ) : Type 0 where
    pub left : ℕ
    pub count : made + left ≡ most_evictions
    pub spans : span_count here.far ≤ left
    pub goes : (r : Reply) (b : Holding D) → Goes left here r b → Goes most_evictions start r b
    pub stops : (b : Holding D) → Stops left here b → Stops most_evictions start b
    pub desk_settings : settings here.desk ≡ c
    pub configured : IsConfigured c here.far
    pub shown : IsSoundShown (λ s. shows here.desk s) here.far
    pub sets : here.far.counts.sets ≤ start.far.counts.sets + 24 * made
    pub keys : here.far.counts.keys ≤ start.far.counts.keys + 24 * made
    pub given : here.far.nodes.given ≡ start.far.nodes.given
    pub homes : (h : ℕ) (home : Home) → home_at start.far.homes h ≡ Some home
        → home_at here.far.homes h ≡ Some home

  -- before the first one
  pub wins_none : (start : Holding D) → IsAccepted c → settings start.desk ≡ c
      → IsConfigured c start.far → IsSoundShown (λ s. shows start.desk s) start.far
      → IsWinning start start 0
  wins_none start accepted same configured known = record {
    left = most_evictions;
    count = refl;
    spans = let few = count_by-le-length (λ o. is_some o) start.far.spans in
        let frames = configured.frames in let most = accepted Frames in
        omega (arith, few, frames, most.1);
    goes = λ r b x. x;
    stops = λ b x. x;
    desk_settings = same;
    configured = configured;
    shown = known;
    sets = omega arith;
    keys = omega arith;
    given = refl;
    homes = λ h home at. at;
  }

  -- there are no more of them than spans
  pub never_more : (start here : Holding D) (made : ℕ) → IsWinning start here made
      → made ≤ most_evictions
  never_more start here made w = let count = w.count in omega (arith, count)

  -- the numbers are far below their bounds all along
  pub few_drawn : (start here : Holding D) (made : ℕ) → IsWinning start here made
      → (start.far.counts.sets + 2 ^ 18 < 2 ^ 62) × (start.far.counts.keys + 2 ^ 18 < 2 ^ 62)
      → (m : FarState) → m ≡ here.far → (m.counts.sets < 2 ^ 62) × (m.counts.keys < 2 ^ 62)
  few_drawn start here made w few m same =
      let most = never_more start here made w in let sets = w.sets in let keys = w.keys in
      let low = few.0 in let less = few.1 in
      subst (λ (f : FarState). (f.counts.sets < 2 ^ 62) × (f.counts.keys < 2 ^ 62)) (sym same)
      (omega (arith, most, sets, low), omega (arith, most, keys, less))

  -- ---- one attempt: the operation found no frame, and left the far state as it was
  module _ (start here : Holding D) (made : ℕ) (w : IsWinning start here made) (m : Holding D)
      (q : Reply) (operated : P here q m) (full : q ≡ answer.NoFrame) where
    crammed : P here answer.NoFrame m
    crammed = subst (λ (r : Reply). P here r m) full operated

    -- the eviction found no memory
    pub room_lacks : (b : Holding D) (X : Type 0) (result : Result X NoMemory)
        → EvictLacks run shows m b
        → OnErr result (Stops most_evictions start b)
    room_lacks b X result lacks = by result
      where
        by : (r : Result X NoMemory) → OnErr r (Stops most_evictions start b)
        by (Ok x) = tt
        by (Err e) = w.stops b (evicting m crammed lacks)

    -- it was refused
    pub room_refused : (n : Holding D) (refusal : Option Reply) (r : Reply)
        → TriesRoom run shows c m refusal n → refusal ≡ Some r → Goes most_evictions start r n
    room_refused n refusal r (room, wins, is) some = by room wins (sym some ∙ is)
      where
        none_told : Some r ≡ None → ⊥
        none_told e = cc

        same_told : (p : Reply) → Some r ≡ Some p → r ≡ p
        same_told p e = cc

        by : (room : Eviction) → WinsRoom run shows c m room n → Some r ≡ refusal_by c.frames room
            → Goes most_evictions start r n
        by (Set id) v e = absurd (none_told e)
        by (Refused why loose nodes) v e = w.goes r n
            (no_room m why loose nodes crammed v (same_told _ e))

    -- spans left
    pub wins_more : ((x y : D) (es : List Access) → run x es y → settings y ≡ settings x)
        → ((x y : D) (es : List Access) (s : Shown) → run x es y → shows x s → shows y (played es s))
        → IsAccepted c → settings m.desk ≡ c → m.far ≡ here.far
        → IsSoundShown (λ s. shows m.desk s) m.far → (n : Holding D) (refusal : Option Reply)
        → TriesRoom run shows c m refusal n → refusal ≡ None → IsWinning start n (made + 1)
    wins_more stays follows accepted same stayed known n refusal (room, wins, is) none =
        by room wins (sym none ∙ is)
      where
        some_told : (p : Reply) → None ≡ Some p → ⊥
        some_told p e = cc

        further : (id : SetId) → WinsRoom run shows c m (Set id) n → HasWon c here.far n.far
            → (fewer : ℕ) → made + suc fewer ≡ most_evictions → span_count here.far ≤ suc fewer
            → ((r : Reply) (b : Holding D) → Goes (suc fewer) here r b
            → Goes most_evictions start r b)
            → ((b : Holding D) → Stops (suc fewer) here b → Stops most_evictions start b)
            → IsWinning start n (made + 1)
        further id v z fewer count spans goes stopping = record {
          left = fewer;
          count = omega (arith, count);
          spans = let less = z.fewer in omega (arith, less, spans);
          goes = λ r b x. goes r b (won m n id crammed v x);
          stops = λ b x. stopping b (after m n id crammed v x);
          desk_settings = stays m.desk n.desk v.events v.ran ∙ same;
          configured = z.configured;
          shown = shown_after _ _ _ _ _ _ _ v (λ es s ran a. follows m.desk n.desk es s ran a)
              known;
          sets = let one = z.sets in let before = w.sets in omega (arith, one, before);
          keys = let one = z.keys in let before = w.keys in omega (arith, one, before);
          given = z.given ∙ w.given;
          homes = λ h home at. z.homes h home (w.homes h home at);
        }

        with_left : (id : SetId) → WinsRoom run shows c m (Set id) n → HasWon c here.far n.far
            → (left : ℕ) → made + left ≡ most_evictions → span_count here.far ≤ left
            → ((r : Reply) (b : Holding D) → Goes left here r b → Goes most_evictions start r b)
            → ((b : Holding D) → Stops left here b → Stops most_evictions start b)
            → IsWinning start n (made + 1)
        with_left id v z zero count spans goes stopping =
            absurd (let less = z.fewer in omega (arith, less, spans))
        with_left id v z (suc fewer) count spans goes stopping =
            further id v z fewer count spans goes stopping

        by : (room : Eviction) → WinsRoom run shows c m room n → None ≡ refusal_by c.frames room
            → IsWinning start n (made + 1)
        by (Refused why loose nodes) v e = absurd (some_told _ e)
        by (Set id) v e = with_left id v
            (subst (λ (f : FarState). HasWon c f n.far) stayed
            (has_won c known.0 m.far n.far (answer.Set id) id v.events accepted
            (subst (λ (f : FarState). IsConfigured c f) (sym stayed) w.configured) known.2
            v.rule.rule refl))
            w.left w.count w.spans w.goes w.stops
