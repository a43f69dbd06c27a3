-- The commit of a pair keeps the far part of the world sound.
use Rattle.std.proofs.Common.{◌≡◌, ◌≢◌, ◌⊎◌, ℕ, ◌+◌, ◌<◌, ◌≤◌, Bool, true, false, cond, List, length, get_or, set, Option, Some, None, is_some, sym, refl, ap, ◌∙◌, subst, arith, inl, inr}
use Rattle.std.specs.List.{slice_get, list_any}
use Rattle.std.proofs.lemmas.Bool.{cases_eq, cases_lt}
use Rattle.std.proofs.lemmas.List.{get_or_past}
use Rattle.std.proofs.lemmas.Option.{slice_get_within, slice_get-get_or, get_or_from_slice_get}
use Rattle.cb_gf256.specs.Rows.{row_at}
use Rattle.cb_gf256.specs.InRange.{IsInRange}
use Rattle.cb_member.specs.declared.names.NodeId.{NodeId}
use Rattle.cb_member.specs.declared.names.Shard.{Shard}
use Rattle.cb_member.specs.Membership.{Membership, IsMembership, incarnation}
use Rattle.cb_node.specs.NodesState.{row_under}
use Rattle.cb_set.specs.SetState.{SetState, PositionState, position_of, live_at, slot_at, dead_position}
use Rattle.cb_set.specs.Lost.{is_lost}
use Rattle.cb_world.specs.declared.shown.Shown.{Shown}
use Rattle.cb_world.specs.declared.homes.Home.{Home}
use Rattle.cb_world.specs.FarState.{FarState}
use Rattle.cb_world.specs.Sets.{set_in}
use Rattle.cb_world.specs.Homes.{home_at}
use Rattle.cb_world.specs.Joining.{JoiningState}
use Rattle.cb_world.specs.SetWord.{IsSpanWord, IsWordOf, IsShaped}
use Rattle.cb_set.specs.SetState.{parities}
use Rattle.cb_world.specs.FarSound.{HoldsObject, IsSetWord, AreSets, AreAway, AreShardRows, Owner, of_set, of_leaving, of_joining, IsShardOf, AwaySound}
use Rattle.cb_world.specs.Merged.{takes, IsMergedWord}
use Rattle.cb_world.specs.Join.{IsFresh, IsJoinWord, IsBeside, AreFit, IsJoin}
use Rattle.cb_world.specs.JoinSteps.{merged_shard, IsMergedSet, IsCommitted}
use Rattle.cb_world.proofs.Added.{set_same, home_same}
use Rattle.cb_set.proofs.Laws.{named_live}
use Rattle.cb_world.proofs.Patching.{join_is_merged}

some_none : {X : Type 0} (o : Option X) (x : X) → o ≡ None → o ≡ Some x → ⊥
some_none o x e f = cc

-- the position has no new shard
abbrev Undone : JoiningState → ℕ → Type 0
Undone pair p = (y : Shard) → slice_get pair.steps p ≡ Some (Some y) → ⊥

done_or_not : (pair : JoiningState) (p : ℕ)
    → ((y : Shard) × (slice_get pair.steps p ≡ Some (Some y))) ⊎ Undone pair p
done_or_not pair p = go (slice_get pair.steps p) refl
  where
    none_here : (o : Option (Option Shard)) (y : Shard) → o ≡ None → o ≡ Some (Some y) → ⊥
    none_here o y e f = cc

    none_there : (o : Option (Option Shard)) (y : Shard) → o ≡ Some None → o ≡ Some (Some y) → ⊥
    none_there o y e f = cc

    go : (o : Option (Option Shard)) → slice_get pair.steps p ≡ o
        → ((y : Shard) × (slice_get pair.steps p ≡ Some (Some y))) ⊎ Undone pair p
    go None e = inr (λ y at. none_here (slice_get pair.steps p) y e at)
    go (Some None) e = inr (λ y at. none_there (slice_get pair.steps p) y e at)
    go (Some (Some y)) e = inl (y, e)

undone_shard : (pair : JoiningState) (p : ℕ) (o : Option (Option Shard)) (old : Option Shard)
    → slice_get pair.steps p ≡ o → Undone pair p → merged_shard o old ≡ old
undone_shard pair p None old e undone = refl
undone_shard pair p (Some None) old e undone = refl
undone_shard pair p (Some (Some y)) old e undone = absurd (undone y e)

-- a shard of the merged set is a new one or one of a's
c_cases : (pair : JoiningState) (a b c : SetState) → IsMergedSet pair a b c
    → (p : ℕ) (shard : Shard) → slice_get c.shards p ≡ Some shard
    → (slice_get pair.steps p ≡ Some (Some shard))
    ⊎ (Undone pair p × (slice_get pair.shards_a p ≡ Some shard))
c_cases pair a b c x p shard at = elim (done_or_not pair p) [
  | inl (y, e) ↦
      inl (e ∙ ap Some (sym (ap (λ o. merged_shard o (slice_get pair.shards_a p)) e)
      ∙ sym (x.shards p) ∙ at))
  | inr undone ↦
      inr (
        undone,
        sym (undone_shard pair p (slice_get pair.steps p) (slice_get pair.shards_a p) refl undone)
            ∙ sym (x.shards p) ∙ at,
      )
]

c_done : (pair : JoiningState) (a b c : SetState) → IsMergedSet pair a b c → (p : ℕ) (shard : Shard)
    → slice_get pair.steps p ≡ Some (Some shard) → slice_get c.shards p ≡ Some shard
c_done pair a b c x p shard e = x.shards p ∙ ap (λ o. merged_shard o (slice_get pair.shards_a p)) e

c_undone : (pair : JoiningState) (a b c : SetState) → IsMergedSet pair a b c
    → (p : ℕ) (shard : Shard) → Undone pair p → slice_get pair.shards_a p ≡ Some shard
    → slice_get c.shards p ≡ Some shard
c_undone pair a b c x p shard undone at = x.shards p
    ∙ undone_shard pair p (slice_get pair.steps p) (slice_get pair.shards_a p) refl undone ∙ at

named_inside : (set : SetState) (p slot h : ℕ) → slot_at set p slot ≡ Some h
    → p < length set.positions
named_inside set p slot h named = elim (cases_lt p (length set.positions)) [
  | inl within ↦ within
  | inr past ↦
      absurd (some_none _ h (ap (λ (c : PositionState).
      get_or c.slots slot None) (get_or_past set.positions p dead_position past)) named)
]

-- what the merged set names, b names at a taken position or a names at another one
pub record IsFrom (pair : JoiningState) (set c : SetState) (flag : Bool) (p slot h : ℕ) : Type 0
  where
    pub takes : takes pair.taken p ≡ flag
    pub inside : p < length set.positions
    pub content : position_of c p ≡ position_of set p
    pub named : slot_at set p slot ≡ Some h

c_named : (s : Shown) (far : FarState) (pair : JoiningState) (a b c : SetState) → AwaySound s far
    → (j : IsJoin far pair) → IsFresh far pair a b → IsMergedSet pair a b c → (p slot h : ℕ)
    → slot_at c p slot ≡ Some h
    → IsFrom pair b c true p slot h ⊎ IsFrom pair a c false p slot h
c_named s far pair a b c sound j f x p slot h named = go (live_at b p) refl
  where
    go : (flag : Bool) → live_at b p ≡ flag → IsFrom pair b c true p slot h
        ⊎ IsFrom pair a c false p slot h
    go true e =
        let same : position_of c p ≡ position_of b p = x.content p
        ∙ ap (λ t. cond t (position_of b p) (position_of a p)) e in
        let n : slot_at b p slot ≡ Some h =
        ap (λ (y : PositionState). get_or y.slots slot None) (sym same) ∙ named in
        inl (record {
          takes = (j.fit a b f).b_live p e;
          inside =
              named_inside b p slot h n;
          content = same;
          named = n;
        })
    go false e =
        let same : position_of c p ≡ position_of a p = x.content p
        ∙ ap (λ t. cond t (position_of b p) (position_of a p)) e in
        let n : slot_at a p slot ≡ Some h =
        ap (λ (y : PositionState). get_or y.slots slot None) (sym same) ∙ named in
        inr (record {
          takes =
              (j.fit a b f).a_live p (sound.sets.live pair.a p a f.a_there
              ∙ named_live (position_of a p).slots slot h n);
          inside =
              named_inside a p slot h n;
          content = same;
          named = n;
        })

-- the home before
pub c_home : (s : Shown) (far : FarState) (pair : JoiningState) (a b c : SetState) → AwaySound s far
    → (j : IsJoin far pair) → IsFresh far pair a b → IsMergedSet pair a b c → (p slot h : ℕ)
    → slot_at c p slot ≡ Some h
    → (q : ℕ) × ((q ≡ pair.a) ⊎ (q ≡ pair.b))
    × (home_at far.homes h ≡ Some (record { set = q; position = p; slot = slot }))
c_home s far pair a b c sound j f x p slot h named =
    elim (c_named s far pair a b c sound j f x p slot h named) [
      | inl y ↦ (pair.b, inr refl, sound.away.named pair.b p slot h b f.b_there y.named)
      | inr y ↦ (pair.a, inl refl, sound.away.named pair.a p slot h a f.a_there y.named)
    ]

-- ---- the sets
-- a set of the new world: the merged one, or another one
new_set : (far new : FarState) (pair : JoiningState) (a b c : SetState) (id : ℕ)
    → IsCommitted far new pair a b c id → (q : ℕ) (other : SetState)
    → set_in new.sets q ≡ Some other
    → ((q ≡ id) × (c ≡ other)) ⊎ ((q ≢ pair.a) × (q ≢ pair.b) × (set_in far.sets q ≡ Some other))
new_set far new pair a b c id x q other at = elim (cases_eq q id) [
  | inl here ↦ inl (here, set_same c other (sym x.added ∙ ap (set_in new.sets) (sym here) ∙ at))
  | inr off ↦
      let off_a : q ≢ pair.a =
      λ e. some_none (set_in new.sets pair.a) other x.a_gone (ap (set_in new.sets) (sym e)
      ∙ at) in
      let off_b : q ≢ pair.b =
      λ e. some_none (set_in new.sets pair.b) other x.b_gone (ap (set_in new.sets) (sym e)
      ∙ at) in
      inr (off_a, off_b, sym (x.others q off off_a off_b) ∙ at)
]

each_set : (far new : FarState) (pair : JoiningState) (a b c : SetState) (id : ℕ)
    → IsCommitted far new pair a b c id → (P : ℕ → SetState → Type 0) → P id c
    → ((q : ℕ) (other : SetState) → q ≢ pair.a → q ≢ pair.b → set_in far.sets q ≡ Some other
    → P q other) → (q : ℕ) (other : SetState) → set_in new.sets q ≡ Some other → P q other
each_set far new pair a b c id x P on off q other at =
    elim (new_set far new pair a b c id x q other at) [
      | inl y ↦ subst (λ (d : SetState). P q d) y.1 (subst (λ (n : ℕ). P n c) (sym y.0) on)
      | inr y ↦ off q other y.0 y.1 y.2
    ]

-- a row stays where its owner is none of b's and none of a's that is replaced
row_stays : (s : Shown) (far new : FarState) (pair : JoiningState) (a b c : SetState) (id : ℕ)
    → AwaySound s far → IsCommitted far new pair a b c id → (o : Owner) (shard : Shard)
    → IsShardOf far o shard
    → ((p : ℕ) → o ≡ of_set pair.b p → ⊥)
    → ((p : ℕ) (y : Shard) → slice_get pair.steps p ≡ Some (Some y) → o ≡ of_set pair.a p → ⊥)
    → row_under new.nodes shard.node shard.key ≡ row_under far.nodes shard.node shard.key
row_stays s far new pair a b c id sound x o shard is not_b not_a =
    x.rows_stay shard.node shard.key (λ z rep same. elim rep [
      | inl (p, at) ↦
          not_b p (sound.rows.one o (of_set pair.b p) shard z is (
            b,
            x.fresh.b_there,
            ap (λ (l : List Shard). slice_get l p) x.fresh.b_shards ∙ at,
          ) (sym same))
      | inr (p, y, step, at) ↦
          not_a p y step (sound.rows.one o (of_set pair.a p) shard z is (
            a,
            x.fresh.a_there,
            ap (λ (l : List Shard). slice_get l p) x.fresh.a_shards ∙ at,
          ) (sym same))
    ])

abbrev set_number : Owner → ℕ
set_number (of_set id p) = id
set_number (of_leaving p) = 0
set_number (of_joining p) = 0

abbrev place : Owner → ℕ
place (of_set id p) = p
place (of_leaving p) = p
place (of_joining p) = p

leaving_not_set : (q id p : ℕ) → of_leaving q ≡ of_set id p → ⊥
leaving_not_set q id p e = cc

joining_not_set : (q id p : ℕ) → of_joining q ≡ of_set id p → ⊥
joining_not_set q id p e = cc

-- the merged set keeps the merged word
c_word : (s : Shown) (far new : FarState) (pair : JoiningState) (a b c : SetState) (id : ℕ)
    → AwaySound s far → (j : IsJoin far pair) → IsCommitted far new pair a b c id
    → (m : List (List ℕ)) → IsJoinWord far pair j.pages j.k j.r m
    → IsWordOf new.nodes new.members c m
c_word s far new pair a b c id sound j x m w = record {
  code = subst (λ (n : ℕ). IsSpanWord n (length c.positions) (parities c) m)
      (sym (x.merged.pages ∙ fit.a_pages)) (subst (λ (k : ℕ).
      IsSpanWord j.pages k (parities c) m) (sym ck) (subst (λ (r : ℕ).
      IsSpanWord j.pages j.k r m) (sym cr) w.word));
  survive = λ p shard at kept. elim (c_cases pair a b c x.merged p shard at) [
    | inl step ↦
        row_stays s far new pair a b c id sound x (of_joining p) shard (
          pair,
          x.was,
          step,
        ) (λ q e. joining_not_set p pair.b q e) (λ q y t e. joining_not_set p pair.a q e)
        ∙ w.new_rows p shard step
    | inr (undone, old) ↦
        let inside : p < j.k + j.r =
        omega (arith, slice_get_within pair.shards_a p shard old, j.a_count) in
        let free : (p < length a.positions → takes pair.taken p ≡ true) → ⊥ = λ t. let y =
        x.merged.done p (omega (arith, inside, j.count)) t in undone y.0 y.1 in
        let low : p < j.k = elim (cases_lt p j.k) [
          | inl l ↦ l
          | inr past ↦ absurd (free (λ l. absurd (omega (arith, l, past, fit.a_count))))
        ] in
        row_stays s far new pair a b c id sound x (of_set pair.a p) shard (
          a,
          x.fresh.a_there,
          ap (λ (l : List Shard). slice_get l p) x.fresh.a_shards ∙ old,
        )
        (λ q e. j.apart (ap set_number e)) (λ q y t e.
        undone y (ap (slice_get pair.steps) (ap place e) ∙ t))
        ∙ w.a_rows p shard low (not_true (takes pair.taken p) (λ t. free (λ l. t))) old
  ];
}
  where
    fit : AreFit pair j.pages j.k a b
    fit = j.fit a b x.fresh

    ck : length c.positions ≡ j.k
    ck = x.merged.positions ∙ fit.a_count

    cr : parities c ≡ j.r
    cr = omega (arith, ck, x.merged.count, ap length x.fresh.a_shards, j.a_count)

    not_true : (t : Bool) → (t ≡ true → ⊥) → t ≡ false
    not_true true n = absurd (n refl)
    not_true false n = refl

-- a shard of the merged set stands at the node of a's shard
pub c_beside : (far : FarState) (pair : JoiningState) (a b c : SetState) → IsJoin far pair
    → IsMergedSet pair a b c → (p : ℕ) (shard : Shard) → slice_get c.shards p ≡ Some shard
    → (old : Shard) × (slice_get pair.shards_a p ≡ Some old) × IsBeside old shard
c_beside far pair a b c j x p shard at = elim (c_cases pair a b c x p shard at) [
  | inl step ↦ j.beside p shard step
  | inr (undone, old) ↦ (shard, old, record { node = refl; incarnation = refl })
]

c_owner : (s : Shown) (far new : FarState) (pair : JoiningState) (a b c : SetState) (id : ℕ)
    → IsCommitted far new pair a b c id → (p : ℕ) (shard : Shard)
    → slice_get c.shards p ≡ Some shard
    → IsShardOf far (of_joining p) shard ⊎ IsShardOf far (of_set pair.a p) shard
c_owner s far new pair a b c id x p shard at = elim (c_cases pair a b c x.merged p shard at) [
  | inl step ↦ inl (pair, x.was, step)
  | inr (undone, old) ↦
      inr (a, x.fresh.a_there, ap (λ (l : List Shard). slice_get l p) x.fresh.a_shards ∙ old)
]

c_shaped : (s : Shown) (far new : FarState) (pair : JoiningState) (a b c : SetState) (id : ℕ)
    → AwaySound s far → (j : IsJoin far pair) → IsCommitted far new pair a b c id
    → IsShaped far.members c
c_shaped s far new pair a b c id sound j x = record {
  range = subst (λ (k : ℕ).
      IsInRange k (parities c)) (sym ck) (subst (λ (r : ℕ). IsInRange j.k r) (sym cr) j.range);
  data_first = omega (arith, ck, x.merged.count, ap length x.fresh.a_shards, j.a_count);
  pages = omega (arith, x.merged.pages, shaped.pages);
  distinct = λ i l d less within.
      let yi = at_a i d (omega (arith, less, within)) in
      let yl = at_a l d within in
      λ same. shaped.distinct i l d less (omega (
        arith,
        within,
        x.merged.count,
      )) (ap (λ (n : NodeId). n.n) (sym yi) ∙ same ∙ ap (λ (n : NodeId). n.n) yl);
  current = λ p shard at. elim (c_owner s far new pair a b c id x p shard at) [
    | inl is ↦ sound.rows.current (of_joining p) shard is
    | inr is ↦ sound.rows.current (of_set pair.a p) shard is
  ];
}
  where
    fit : AreFit pair j.pages j.k a b
    fit = j.fit a b x.fresh

    ck : length c.positions ≡ j.k
    ck = x.merged.positions ∙ fit.a_count

    cr : parities c ≡ j.r
    cr = omega (arith, ck, x.merged.count, ap length x.fresh.a_shards, j.a_count)

    shaped : IsShaped far.members a
    shaped = sound.sets.shaped pair.a a x.fresh.a_there

    at_a : (i : ℕ) (d : Shard) → i < length c.shards
        → (get_or c.shards i d).node ≡ (get_or a.shards i d).node
    at_a i d within =
        let y = c_beside far pair a b c j x.merged i (get_or c.shards i d)
        (slice_get-get_or c.shards i d within) in
        y.2.node
        ∙ ap (λ (z : Shard).
        z.node) (sym (get_or_from_slice_get a.shards i y.0 d (ap (λ (l : List Shard).
        slice_get l i) x.fresh.a_shards ∙ y.1)))

commit_sets : (s : Shown) (far new : FarState) (pair : JoiningState) (a b c : SetState) (id : ℕ)
    → AwaySound s far → (j : IsJoin far pair) → IsCommitted far new pair a b c id → AreSets s new
commit_sets s far new pair a b c id sound j x = record {
  shaped = each_set far new pair a b c id x (λ q d. IsShaped new.members d)
      (subst (λ (m : Membership).
      IsShaped m c) (sym x.members) (c_shaped s far new pair a b c id sound j x))
      (λ q other off_a off_b was.
      subst (λ (m : Membership).
      IsShaped m other) (sym x.members) (sound.sets.shaped q other was));
  worded = each_set far new pair a b c id x (λ q d. (rows : List (List ℕ))
      × IsSetWord s new.nodes new.members d rows)
      (m.0, record { word = c_word s far new pair a b c id sound j x m.0 m.1; holds = holds })
      (λ q other off_a off_b was. let y = sound.sets.worded q other was in (
        y.0,
        record {
          word = record {
            code = y.1.word.code;
            survive = λ p shard at kept.
                row_stays s far new pair a b c id sound x (of_set q p) shard (
                  other,
                  was,
                  at,
                ) (λ z e. off_b (ap set_number e)) (λ z w t e. off_a (ap set_number e))
                ∙ y.1.word.survive p shard at (ap (λ (m : Membership). is_lost m shard) (sym x.members)
                ∙ kept);
          };
          holds = y.1.holds;
        },
      ));
  live = λ q p other at.
      each_set far new pair a b c id x (λ q d. (p : ℕ)
      → live_at d p ≡ list_any (λ y.
      is_some y) (position_of d p).slots) lives (λ q other off_a off_b was p.
      sound.sets.live q p other was) q other at p;
  kept = each_set far new pair a b c id x (λ q d. (p : ℕ)
      × (live_at d p ≡ true)) some_live (λ q other off_a off_b was. sound.sets.kept q other was);
  numbered =
      each_set far new pair a b c id x (λ q d.
      q < new.counts.sets) x.drawn.1 (λ q other off_a off_b was.
      omega (arith, sound.sets.numbered q other was, x.drawn.0, x.drawn.1));
}
  where
    m : (rows : List (List ℕ)) × IsJoinWord far pair j.pages j.k j.r rows
    m = j.word a b x.fresh

    wa : (rows : List (List ℕ)) × IsSetWord s far.nodes far.members a rows
    wa = sound.sets.worded pair.a a x.fresh.a_there

    wb : (rows : List (List ℕ)) × IsSetWord s far.nodes far.members b rows
    wb = sound.sets.worded pair.b b x.fresh.b_there

    merged : IsMergedWord j.pages j.k j.r pair.taken wa.0 wb.0 m.0
    merged = join_is_merged far pair a b wa.0 wb.0 m.0 j x.fresh wa.1.word wb.1.word m.1

    fit : AreFit pair j.pages j.k a b
    fit = j.fit a b x.fresh

    holds : (p slot h : ℕ) → slot_at c p slot ≡ Some h
        → HoldsObject s c.pages (row_at m.0 p) (length (position_of c p).slots) slot h
    holds p slot h named = elim (c_named s far pair a b c sound j x.fresh x.merged p slot h named) [
      | inl y ↦
          let row : row_at m.0 p ≡ row_at wb.0 p =
          merged.chosen p (omega (arith, y.inside, (j.fit a b x.fresh).b_count))
          ∙ ap (λ t. cond t (row_at wb.0 p) (row_at wa.0 p)) y.takes in
          subst (λ (r : List ℕ).
          HoldsObject s c.pages r (length (position_of c p).slots) slot h) (sym row)
          (subst (λ (z : PositionState).
          HoldsObject s c.pages (row_at wb.0 p) (length z.slots) slot h) (sym y.content)
          (subst (λ (n : ℕ). HoldsObject s n (row_at wb.0 p) (length (position_of b p).slots) slot h)
          (fit.b_pages ∙ sym fit.a_pages ∙ sym x.merged.pages) (wb.1.holds p slot h y.named)))
      | inr y ↦
          let row : row_at m.0 p ≡ row_at wa.0 p =
          merged.chosen p (omega (arith, y.inside, (j.fit a b x.fresh).a_count))
          ∙ ap (λ t. cond t (row_at wb.0 p) (row_at wa.0 p)) y.takes in
          subst (λ (r : List ℕ).
          HoldsObject s c.pages r (length (position_of c p).slots) slot h) (sym row)
          (subst (λ (z : PositionState).
          HoldsObject s c.pages (row_at wa.0 p) (length z.slots) slot h) (sym y.content)
          (subst (λ (n : ℕ). HoldsObject s n (row_at wa.0 p) (length (position_of a p).slots) slot h)
          (sym x.merged.pages) (wa.1.holds p slot h y.named)))
    ]

    content : (p : ℕ) (flag : Bool) → live_at b p ≡ flag
        → position_of c p ≡ cond flag (position_of b p) (position_of a p)
    content p flag e = x.merged.content p ∙ ap (λ t. cond t (position_of b p) (position_of a p)) e

    lives : (p : ℕ) → live_at c p ≡ list_any (λ y. is_some y) (position_of c p).slots
    lives p = go (live_at b p) refl
      where
        go : (flag : Bool) → live_at b p ≡ flag
            → live_at c p ≡ list_any (λ y. is_some y) (position_of c p).slots
        go true e =
            subst (λ (z : PositionState).
            z.live ≡ list_any (λ y.
            is_some y) z.slots) (sym (content p true e))
            (sound.sets.live pair.b p b x.fresh.b_there)
        go false e =
            subst (λ (z : PositionState).
            z.live ≡ list_any (λ y.
            is_some y) z.slots) (sym (content p false e))
            (sound.sets.live pair.a p a x.fresh.a_there)

    some_live : (p : ℕ) × (live_at c p ≡ true)
    some_live = let y =
        sound.sets.kept pair.a a x.fresh.a_there in (y.0, go y.0 y.1 (live_at b y.0) refl)
      where
        go : (p : ℕ) → live_at a p ≡ true → (flag : Bool) → live_at b p ≡ flag → live_at c p ≡ true
        go p l true e = ap (λ (z : PositionState). z.live) (content p true e) ∙ e
        go p l false e = ap (λ (z : PositionState). z.live) (content p false e) ∙ l

-- ---- the homes
-- what another set names is not moved
pub unmoved : (s : Shown) (far new : FarState) (pair : JoiningState) (a b c : SetState) (id : ℕ)
    → AwaySound s far → (j : IsJoin far pair) → IsCommitted far new pair a b c id
    → (h : ℕ) (home : Home) → home_at far.homes h ≡ Some home → home.set ≢ pair.a
    → home.set ≢ pair.b
    → home_at new.homes h ≡ home_at far.homes h
unmoved s far new pair a b c id sound j x h home at off_a off_b = elim (x.each h) [
  | inl y ↦ y.home
  | inr y ↦
      let z = c_home s far pair a b c sound j x.fresh x.merged y.position y.slot h y.named in
      let e = home_same home (record { set = z.0; position = y.position; slot = y.slot }) (sym at
      ∙ z.2) in
      elim z.1 [
        | inl is ↦ absurd (off_a (ap (λ (k : Home). k.set) e ∙ is))
        | inr is ↦ absurd (off_b (ap (λ (k : Home). k.set) e ∙ is))
      ]
]

commit_away : (s : Shown) (far new : FarState) (pair : JoiningState) (a b c : SetState) (id : ℕ)
    → AwaySound s far → (j : IsJoin far pair) → IsCommitted far new pair a b c id → AreAway s new
commit_away s far new pair a b c id sound j x = record {
  away = λ h len v words at. elim (x.each h) [
    | inl y ↦ let z = sound.away.away h len v words at in (z.0, y.home ∙ z.1)
    | inr y ↦ (record { set = id; position = y.position; slot = y.slot }, y.home)
  ];
  home = λ h home at. elim (x.each h) [
    | inl y ↦
        let z = sound.away.home h home (sym y.home ∙ at) in
        let off_a : home.set ≢ pair.a =
        λ e. y.absent_a home.position home.slot (subst (λ (d : SetState).
        slot_at d home.position home.slot ≡ Some h) (set_same z.0 a (sym z.1
        ∙ ap (set_in far.sets) e ∙ x.fresh.a_there)) z.2) in
        let off_b : home.set ≢ pair.b =
        λ e. y.absent_b home.position home.slot (subst (λ (d : SetState).
        slot_at d home.position home.slot ≡ Some h) (set_same z.0 b (sym z.1
        ∙ ap (set_in far.sets) e ∙ x.fresh.b_there)) z.2) in (
          z.0,
          x.others home.set (λ e.
              absurd (omega (arith, sound.sets.numbered home.set z.0 z.1, e, x.drawn.0))) off_a off_b
              ∙ z.1,
          z.2,
        )
    | inr y ↦
        let e = home_same (record {
          set = id;
          position = y.position;
          slot =
              y.slot;
        }) home (sym y.home ∙ at) in
        subst (λ (k : Home). (set : SetState) × (set_in new.sets k.set ≡ Some set)
        × (slot_at set k.position k.slot ≡ Some h)) e (c, x.added, y.named)
  ];
  named = λ q p slot h other at named.
      each_set far new pair a b c id x (λ q d. slot_at d p slot ≡ Some h
      → home_at new.homes h ≡ Some (record { set = q; position = p; slot = slot }))
      (λ n. here p slot h n)
      (λ q other off_a off_b was n. let z =
      sound.away.named q p slot h other was n in
      unmoved s far new pair a b c id sound j x h (record {
        set = q;
        position = p;
        slot =
            slot;
      }) z off_a off_b ∙ z)
      q other at named;
}
  where
    here : (p slot h : ℕ) → slot_at c p slot ≡ Some h
        → home_at new.homes h ≡ Some (record { set = id; position = p; slot = slot })
    here p slot h named = elim (x.each h) [
      | inl y ↦ elim (c_named s far pair a b c sound j x.fresh x.merged p slot h named) [
        | inl z ↦ absurd (y.absent_b p slot z.named)
        | inr z ↦ absurd (y.absent_a p slot z.named)
      ]
      | inr y ↦
          let z = c_home s far pair a b c sound j x.fresh x.merged p slot h named in
          let w = c_home s far pair a b c sound j x.fresh x.merged y.position y.slot h y.named in
          let e = home_same (record {
            set = w.0;
            position = y.position;
            slot =
                y.slot;
          }) (record { set = z.0; position = p; slot = slot }) (sym w.2 ∙ z.2) in
          y.home ∙ ap (λ (k : Home).
          Some (record { set = id; position = k.position; slot = k.slot })) e
    ]

-- ---- the rows
-- the owner before: the merged set's shards were the pair's or a's, each other one is what it was
abbrev IsOldOwner : (far : FarState) (pair : JoiningState) (id : ℕ) (o : Owner) (shard : Shard)
    → Type 0
IsOldOwner far pair id o shard =
    ((p : ℕ) × (o ≡ of_set id p)
    × (IsShardOf far (of_joining p) shard ⊎ IsShardOf far (of_set pair.a p) shard))
    ⊎ (IsShardOf far o shard × ((p : ℕ) → o ≡ of_joining p → ⊥)
    × ((p : ℕ) → o ≡ of_set pair.a p → ⊥))

old_owner : (s : Shown) (far new : FarState) (pair : JoiningState) (a b c : SetState) (id : ℕ)
    → IsCommitted far new pair a b c id → (o : Owner) (shard : Shard) → IsShardOf new o shard
    → IsOldOwner far pair id o shard
old_owner s far new pair a b c id x (of_set q p) shard is =
    elim (new_set far new pair a b c id x q is.0 is.1) [
      | inl y ↦ inl (
        p,
        ap (λ (n : ℕ). of_set n p) y.0,
        c_owner s far new pair a b c id x p shard (subst (λ (d : SetState).
            slice_get d.shards p ≡ Some shard) (sym y.1) is.2),
      )
      | inr y ↦ inr (
        (is.0, y.2, is.2),
        (λ z e. joining_not_set z q p (sym e)),
        (λ z e. y.0 (ap set_number e)),
      )
    ]
old_owner s far new pair a b c id x (of_leaving q) shard is =
    inr (
      (is.0, sym x.leaving ∙ is.1, is.2),
      (λ z e. other q z e),
      (λ z e. leaving_not_set q pair.a z e),
    )
  where
    other : (q z : ℕ) → of_leaving q ≡ of_joining z → ⊥
    other q z e = cc
old_owner s far new pair a b c id x (of_joining q) shard is =
    absurd (some_none new.joining is.0 x.now is.1)

pair_same : (x y : JoiningState) → Some x ≡ Some y → x ≡ y
pair_same x y e = cc

commit_rows : (s : Shown) (far new : FarState) (pair : JoiningState) (a b c : SetState) (id : ℕ)
    → AwaySound s far → (j : IsJoin far pair) → IsCommitted far new pair a b c id → AreShardRows new
commit_rows s far new pair a b c id sound j x = record {
  members = subst IsMembership (sym x.members) sound.rows.members;
  counted = x.nodes ∙ sound.rows.counted ∙ ap (λ (m : Membership). length m.nodes) (sym x.members);
  room = x.room sound.rows.room;
  owned = λ node key row at. let y = sound.rows.owned node key row (x.fewer node key row at) in
      let n : y.1.node ≡ node = same_node y.1.node node y.3 in
      let z = still y.0 y.1 row y.2 (ap (λ (q : NodeId). row_under new.nodes q y.1.key) n
      ∙ ap (row_under new.nodes node) y.4 ∙ at) in
      (z.0, y.1, z.1, y.3, y.4, ap (λ (m : Membership). is_lost m y.1) x.members ∙ y.5);
  one = λ o q y z is js same.
      one o q y z (old_owner s far new pair a b c id x o y is)
      (old_owner s far new pair a b c id x q z js) same;
  drawn = λ o y is. let w =
      far_owner o y (old_owner s far new pair a b c id x o y is) in
      omega (arith, sound.rows.drawn w.0 y w.1, x.keys);
  current = λ o y is. let w = far_owner o y (old_owner s far new pair a b c id x o y is) in
      subst (λ (m : Membership). (y.node.n < length m.nodes)
      × (y.incarnation ≤ incarnation m y.node)) (sym x.members) (sound.rows.current w.0 y w.1);
}
  where
    same_node : (a b : NodeId) → a.n ≡ b.n → a ≡ b
    same_node a b e = ap (λ (n : ℕ). record { n = n }) e

    far_owner : (o : Owner) (y : Shard) → IsOldOwner far pair id o y → (w : Owner)
        × IsShardOf far w y
    far_owner o y (inl (p, e, inl is)) = (of_joining p, is)
    far_owner o y (inl (p, e, inr is)) = (of_set pair.a p, is)
    far_owner o y (inr (is, n, m)) = (o, is)

    one : (o q : Owner) (y z : Shard) → IsOldOwner far pair id o y → IsOldOwner far pair id q z
        → y.key ≡ z.key → o ≡ q
    one o q y z (inl (p, e, inl is)) (inl (p', e', inl js)) same = e
        ∙ ap (λ w.
        of_set id (place w)) (sound.rows.one (of_joining p) (of_joining p') y z is js same) ∙ sym e'
    one o q y z (inl (p, e, inl is)) (inl (p', e', inr js)) same = e
        ∙ ap (λ w.
        of_set id (place w)) (sound.rows.one (of_joining p) (of_set pair.a p') y z is js same)
        ∙ sym e'
    one o q y z (inl (p, e, inr is)) (inl (p', e', inl js)) same = e
        ∙ ap (λ w.
        of_set id (place w)) (sound.rows.one (of_set pair.a p) (of_joining p') y z is js same)
        ∙ sym e'
    one o q y z (inl (p, e, inr is)) (inl (p', e', inr js)) same = e
        ∙ ap (λ w.
        of_set id (place w)) (sound.rows.one (of_set pair.a p) (of_set pair.a p') y z is js same)
        ∙ sym e'
    one o q y z (inl (p, e, inl is)) (inr (js, n, m)) same =
        absurd (n p (sym (sound.rows.one (of_joining p) q y z is js same)))
    one o q y z (inl (p, e, inr is)) (inr (js, n, m)) same =
        absurd (m p (sym (sound.rows.one (of_set pair.a p) q y z is js same)))
    one o q y z (inr (is, n, m)) (inl (p, e, inl js)) same =
        absurd (n p (sound.rows.one o (of_joining p) y z is js same))
    one o q y z (inr (is, n, m)) (inl (p, e, inr js)) same =
        absurd (m p (sound.rows.one o (of_set pair.a p) y z is js same))
    one o q y z (inr (is, n, m)) (inr (js, n', m')) same = sound.rows.one o q y z is js same

    -- a shard whose row is still there is one of the new world
    still : (o : Owner) (y : Shard) (row : List ℕ) → IsShardOf far o y
        → row_under new.nodes y.node y.key ≡ Some row → (q : Owner) × IsShardOf new q y
    still (of_set q p) y row is at = elim (cases_eq q pair.a) [
      | inl here ↦
          let e = set_same is.0 a (sym is.1 ∙ ap (set_in far.sets) here ∙ x.fresh.a_there) in
          let old : slice_get pair.shards_a p ≡ Some y =
          ap (λ (l : List Shard). slice_get l p) (sym x.fresh.a_shards)
          ∙ subst (λ (d : SetState). slice_get d.shards p ≡ Some y) e is.2 in
          elim (done_or_not pair p) [
            | inl (z, step) ↦
                absurd (some_none (row_under new.nodes y.node y.key) row (x.rows_gone y (inr (
                  p,
                  z,
                  step,
                  old,
                ))) at)
            | inr undone ↦ (of_set id p, (c, x.added, c_undone pair a b c x.merged p y undone old))
          ]
      | inr off_a ↦ elim (cases_eq q pair.b) [
        | inl here ↦
            let e = set_same is.0 b (sym is.1 ∙ ap (set_in far.sets) here ∙ x.fresh.b_there) in
            absurd (some_none (row_under new.nodes y.node y.key) row (x.rows_gone y (inl (
              p,
              ap (λ (l : List Shard). slice_get l p) (sym x.fresh.b_shards)
                  ∙ subst (λ (d : SetState). slice_get d.shards p ≡ Some y) e is.2,
            ))) at)
        | inr off_b ↦ (
          of_set q p,
          (
            is.0,
            x.others q (λ e.
                absurd (omega (arith, sound.sets.numbered q is.0 is.1, e, x.drawn.0))) off_a off_b
                ∙ is.1,
            is.2,
          ),
        )
      ]
    ]
    still (of_leaving p) y row is at = (of_leaving p, (is.0, x.leaving ∙ is.1, is.2))
    still (of_joining p) y row is at =
        let e : is.0 ≡ pair = pair_same is.0 pair (sym is.1 ∙ x.was) in (
          of_set id p,
          (
            c,
            x.added,
            c_done pair a b c x.merged p y (ap (λ (d : JoiningState). slice_get d.steps p) (sym e)
                ∙ is.2),
          ),
        )

-- the far part is sound after the commit
pub commit_keeps : (s : Shown) (far new : FarState) (pair : JoiningState) (a b c : SetState)
    (id : ℕ) → AwaySound s far → (j : IsJoin far pair) → IsCommitted far new pair a b c id
    → AwaySound s new
commit_keeps s far new pair a b c id sound j x = record {
  sets = commit_sets s far new pair a b c id sound j x;
  away = commit_away s far new pair a b c id sound j x;
  rows = commit_rows s far new pair a b c id sound j x;
  batch = λ t at. let y = sound.batch t (sym x.leaving ∙ at) in record {
    word = y.word;
    bare = y.bare;
    count = y.count;
    put = λ p shard is kept.
        row_stays s far new pair a b c id sound x (of_leaving p) shard (
          t,
          sym x.leaving
              ∙ at,
          is,
        ) (λ q e. leaving_not_set p pair.b q e) (λ q z w e.
        leaving_not_set p pair.a q e)
        ∙ y.put p shard is (ap (λ (m : Membership). is_lost m shard) (sym x.members) ∙ kept);
    apart = y.apart;
  };
}
