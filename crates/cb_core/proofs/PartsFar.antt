-- What the parts of a turn find in the far state, and what they leave there.
use Rattle.std.proofs.Common.{◌≡◌, ℕ, ◌+◌, Bool, true, false, ◌<◌, ◌≤◌, List, [], ◌∷◌, Option, None, Some, is_some, length, take, sym, refl, ap, ◌∙◌, subst, arith, inl, inr, if◌then◌else◌}
use Rattle.std.specs.List.{Contains}
use Rattle.std.specs.Prelude.{count_by, slice_set}
use Rattle.std.proofs.lemmas.Bool.{cases_lt}
use Rattle.std.proofs.lemmas.List.{get_or_past, set_past}
use Rattle.std.proofs.lemmas.List.Folds.{list_any_at}
use Rattle.std.proofs.lemmas.List.Sums.{sum_by-set}
use Rattle.cb_frame.specs.Runs.{least_run}
use Rattle.cb_member.specs.declared.names.Loss.{Loss}
use Rattle.cb_member.specs.declared.names.Shard.{Shard}
use Rattle.cb_node.specs.NodesState.{NodesState, with_row}
use Rattle.cb_set.specs.Lost.{lost}
use Rattle.cb_set.specs.SetState.{SetState, live_at, position_of}
use Rattle.cb_span.specs.Contents.{Contents}
use Rattle.cb_span.specs.Places.{slot_place}
use Rattle.cb_types.specs.declared.config.Config.{Config}
use Rattle.cb_types.specs.Config.{IsAccepted}
use Rattle.cb_types.specs.declared.handle.SetId.{SetId}
use Rattle.cb_types.specs.declared.reply.Reply.{Reply}
use Rattle.cb_types.specs.declared.reply.Reply.TheVariants as answer
use Rattle.cb_world.specs.declared.access.Access.{Access}
use Rattle.cb_world.specs.declared.homes.Home.{Home}
use Rattle.cb_world.specs.declared.object.Object.{Object}
use Rattle.cb_world.specs.declared.object.Object.TheVariants as is
use Rattle.cb_world.specs.declared.shown.Shown.{Shown}
use Rattle.cb_world.specs.Shown.{object_at}
use Rattle.cb_world.specs.FarState.{FarState, span_in}
use Rattle.cb_world.specs.Homes.{home_at}
use Rattle.cb_world.specs.LocalSound.{LiesAt}
use Rattle.cb_world.specs.Sets.{set_in}
use Rattle.cb_world.specs.SetWord.{is_broken}
use Rattle.cb_world.specs.Sound.{Sound}
use Rattle.cb_world.specs.Stored.{all_put}
use Rattle.cb_world.specs.World.{IsConfigured}
use Rattle.cb_mutate.specs.MakeRule.{HasNoPlace, MakeRule}
use Rattle.cb_evict.specs.Candidates.{candidates, SpanNames}
use Rattle.cb_evict.specs.Closing.{all_closed}
use Rattle.cb_evict.specs.EvictRule.{HasEvicted, EvictRule}
use Rattle.cb_evict.specs.Lengths.{loose_of}
use Rattle.cb_evict.proofs.Laws.{few_spans, few_nodes, loose_among, evict_stays, names_span, named_at, ready_frame, taken_count, taken_in}
use Rattle.cb_swapin.specs.SwapRule.{SwapFar, SwapRule, frame_answer, swap_answer}
use Rattle.cb_swapin.proofs.Laws.{named_within}

-- ---- the home of a far object
-- a home is at a live position of a set that is there
pub live_home : (s : Shown) (far : FarState) (h : ℕ) (home : Home) → Sound s far
    → home_at far.homes h ≡ Some home → (set : SetState) × (set_in far.sets home.set ≡ Some set)
    × (live_at set home.position ≡ true)
live_home s far h home sound at =
    let x = sound.away.sound.away.home h home at in (
      x.0,
      x.1,
      sound.away.sound.sets.live home.set home.position x.0 x.1
          ∙ list_any_at (λ (o : Option ℕ). is_some o) (position_of x.0 home.position).slots home.slot None
          (named_within (position_of x.0 home.position).slots home.slot h x.2)
          (ap (λ (o : Option ℕ). is_some o) x.2),
    )

-- a far object has a home
pub far_has_home : (s : Shown) (far : FarState) (h : ℕ) → Sound s far
    → (len v : ℕ) × (words : List ℕ) × (object_at s h ≡ is.Far len v words)
    → (home : Home) × (home_at far.homes h ≡ Some home)
far_has_home s far h sound x = sound.away.sound.away.away h x.0 x.1 x.2 x.3

-- no span of local memory names an object that has a home
pub not_resident : (s : Shown) (far : FarState) (h f : ℕ) (home : Home) → Sound s far
    → home_at far.homes h ≡ Some home → SpanNames far.spans f h → ⊥
not_resident s far h f home sound at (slot, named) =
    let x = sound.away.sound.away.home h home at in
    let word = sound.away.sound.sets.worded home.set x.0 x.1 in
    let object = word.1.holds home.position home.slot h x.2 in
    let span = names_span far.spans f h (slot, named) in
    let lies = sound.here.placed.named f slot h span.0 span.1
    (named_at far.spans f slot h span.0 span.1 named) in
    subst (λ (o : Object). LiesAt o lies.len (slot_place span.0.class f slot)) object.away lies.lies

-- ---- an eviction that made a set
-- the frames of the spans that left: as many as a set has data positions, among those that may leave
pub record HasSent (far new : FarState) (es : List Access) : Type 0 where
  pub frames : List ℕ
  pub evicted : HasEvicted far new frames es
  pub among : (f : ℕ) → Contains frames f → Contains (candidates far) f
  pub count : length frames ≡ far.code.k

pub has_sent : (far new : FarState) (r : Reply) (id : SetId) (es : List Access)
    → EvictRule far new r es → r ≡ answer.Set id → HasSent far new es
has_sent far new r id es rule set = elim rule.answered [
  | inl few ↦ absurd (few_spans _ r id few.reply set)
  | inr (inl few) ↦ absurd (few_nodes _ r id few.reply set)
  | inr (inr both) ↦ record {
    frames = take far.code.k (loose_of far.spans both.pages rule.loose);
    evicted = both.evicted;
    among = λ f in_taken. loose_among es far.spans (candidates far) rule.loose f rule.found
        (taken_in far.code.k far.spans both.pages rule.loose f in_taken);
    count = taken_count far.code.k far.spans rule.loose both.pages both.longest;
  }
]

put_given : (nodes : NodesState) (shards : List Shard) (rows : List (List ℕ))
    → (all_put nodes shards rows).given ≡ nodes.given
put_given nodes [] rows = refl
put_given nodes (shard ∷ shards) [] = refl
put_given nodes (shard ∷ shards) (row ∷ rows) =
    put_given (with_row nodes shard.node shard.key row) shards rows

-- how many spans are in local memory
abbrev pub span_count : FarState → ℕ
span_count far = count_by (λ o. is_some o) far.spans

abbrev one_if : Option Contents → ℕ
one_if o = if is_some o then 1 else 0

abbrev there_count : List (Option Contents) → ℕ
there_count spans = count_by (λ o. is_some o) spans

span_less : (spans : List (Option Contents)) (f : ℕ)
    → there_count (slice_set spans f None) ≤ there_count spans
span_less spans f = elim (cases_lt f (length spans)) [
  | inl within ↦
      let e = sum_by-set one_if spans f None None within in
      omega (arith, e)
  | inr past ↦ let e = ap there_count (set_past spans f None past) in omega (arith, e)
]

span_gone : (spans : List (Option Contents)) (f : ℕ) (span : Contents) → span_in spans f ≡ Some span
    → there_count (slice_set spans f None) + 1 ≡ there_count spans
span_gone spans f span there = elim (cases_lt f (length spans)) [
  | inl within ↦
      let e = sum_by-set one_if spans f None None within in
      let one = ap one_if there in
      omega (arith, e, one)
  | inr past ↦ absurd (none_there (sym (get_or_past spans f None past) ∙ there))
]
  where
    none_there : None ≡ Some span → ⊥
    none_there e = cc

closed_less : (spans : List (Option Contents)) (frames : List ℕ)
    → there_count (all_closed spans frames) ≤ there_count spans
closed_less spans [] = omega arith
closed_less spans (f ∷ frames) =
    let rest = closed_less (slice_set spans f None) frames in let one = span_less spans f in
    omega (arith, rest, one)

-- where at least one is closed there are fewer
closed_fewer : (spans : List (Option Contents)) (frames : List ℕ) → 0 < length frames
    → ((f : ℕ) → Contains frames f → (span : Contents) × (span_in spans f ≡ Some span))
    → there_count (all_closed spans frames) < there_count spans
closed_fewer spans [] some there = absurd (omega (arith, some))
closed_fewer spans (f ∷ frames) some there =
    let x = there f (0, omega arith, refl) in
    let rest = closed_less (slice_set spans f None) frames in let one = span_gone spans f x.0 x.1 in
    omega (arith, rest, one)

-- What it leaves for the part behind it: fewer spans are in local memory, far objects have the
-- homes that they had, and the numbers rose by no more than an eviction's may.
pub record HasWon (c : Config) (far new : FarState) : Type 0 where
  pub configured : IsConfigured c new
  pub given : new.nodes.given ≡ far.nodes.given
  pub sets : new.counts.sets ≤ far.counts.sets + 24
  pub keys : new.counts.keys ≤ far.counts.keys + 24
  pub fewer : span_count new < span_count far
  pub homes : (h : ℕ) (home : Home) → home_at far.homes h ≡ Some home
      → home_at new.homes h ≡ Some home

pub has_won : (c : Config) (s : Shown) (far new : FarState) (r : Reply) (id : SetId)
    (es : List Access) → IsAccepted c → IsConfigured c far → Sound s far → EvictRule far new r es
    → r ≡ answer.Set id → HasWon c far new
has_won c s far new r id es accepted configured sound rule set =
    let x = has_sent far new r id es rule set in let e = x.evicted in
    let least = configured.codes.force.range.data_least in
    let some : 0 < length x.frames = let n = x.count in omega (arith, n, least) in
    let stays = evict_stays c far new r es accepted rule configured in record {
      configured = stays.configured;
      given = ap (λ (q : FarState). q.nodes.given) e.state ∙ put_given far.nodes e.shards e.rows;
      sets = stays.rises.sets;
      keys = stays.rises.keys;
      fewer = let less = closed_fewer far.spans x.frames some (λ f inside.
          let ready = ready_frame far s f sound.here (x.among f inside) in
          (ready.span, ready.there)) in
          let same = ap span_count e.state in omega (arith, less, same);
      homes = λ h home at. e.homes.others h (λ g in_frames names.
          not_resident s far h g home sound at names) ∙ at;
    }

-- ---- where there is no frame for a span of the object's class, or of the set's length
pub make_crammed : (handles : ℕ) (bytes : List ℕ) (far new : FarState) (r : Reply) (es : List Access)
    → MakeRule handles bytes far new r es → r ≡ answer.NoFrame
    → (new ≡ far) × HasNoPlace (length bytes) far
make_crammed handles bytes far new r es rule none =
    let x = subst (λ (q : Reply). MakeRule handles bytes far new q es) none rule in
    (x.2.0, x.1)

unavailable_not : (r : Reply) (id : SetId) (ls : List Loss) → r ≡ answer.Unavailable id ls
    → r ≡ answer.NoFrame → ⊥
unavailable_not r id ls a e = cc

no_least : (o : Option ℕ) → frame_answer o ≡ answer.NoFrame → o ≡ None
no_least None e = refl
no_least (Some f) e = absurd (differ (frame_answer (Some f)) f refl e)
  where
    differ : (r : Reply) (f : ℕ) → r ≡ answer.Swapped f → r ≡ answer.NoFrame → ⊥
    differ r f a e = cc

by_broken : (far : FarState) (id : ℕ) (set : SetState) (broken : Bool)
    → is_broken far.members set ≡ broken → swap_answer far id set ≡ answer.NoFrame
    → least_run far.frames set.pages ≡ None
by_broken far id set broken b e = by broken (subst (λ (x : Bool). (if x
    then answer.Unavailable (record { n = id }) (lost far.members set.shards)
    else frame_answer (least_run far.frames set.pages)) ≡ answer.NoFrame) b e)
  where
    by : (x : Bool) → (if x then answer.Unavailable (record { n = id }) (lost far.members set.shards)
        else frame_answer (least_run far.frames set.pages)) ≡ answer.NoFrame
        → least_run far.frames set.pages ≡ None
    by true q = absurd (unavailable_not _ (record { n = id }) (lost far.members set.shards) refl q)
    by false q = no_least (least_run far.frames set.pages) q

pub swap_crammed : (id p : ℕ) (far new : FarState) (r : Reply) (es : List Access)
    → SwapRule id p far new r es → r ≡ answer.NoFrame
    → (new ≡ far) × ((set : SetState) × (set_in far.sets id ≡ Some set)
    × (least_run far.frames set.pages ≡ None))
swap_crammed id p far new r es rule none =
    let x = subst (λ (q : Reply). SwapFar far new id p rule.set es q) none rule.state in
    let short = by_broken far id rule.set (is_broken far.members rule.set) refl
    (sym rule.reply ∙ none) in
    (x.0, (rule.set, rule.there, short))
