-- The first pair of all sets is found among the first sets of each code, length and live positions.
use Rattle.std.proofs.Common.{◌≡◌, ◌≢◌, ◌⊎◌, ℕ, zero, suc, ◌+◌, ◌<◌, ◌≤◌, ◌^◌, Bool, true, false, cond, if◌then◌else◌, List, [], ◌∷◌, ◌++◌, length, Option, Some, None, bit_and, refl, sym, ap, ◌∙◌, subst, arith, inl, inr}
use Rattle.std.specs.List.{list_any, slice_get}
use Rattle.std.specs.FinMap as map
use Rattle.std.specs.Ordering.{is_eq}
use Rattle.std.specs.BTreeMap.{is_at}
use Rattle.std.specs.BTreeSet.{BTreeSet, contains}
use Rattle.std.specs.declared.cmp.Ordering.{Ordering}
use Rattle.std.proofs.lemmas.Bool.{cases_eq, cases_lt, false≢true}
use Rattle.cb_member.specs.Membership.{Membership}
use Rattle.cb_set.specs.SetState.{SetState, parities}
use Rattle.cb_set.specs.Lost.{IsWhole}
use Rattle.cb_set.specs.Matched.{live_mask}
use Rattle.cb_set.proofs.Laws.{apart_from_masks, live_mask-lt, masks_from_apart, masks_of_matched, matched_by_masks}
use Rattle.cb_world.specs.declared.shown.Shown.{Shown}
use Rattle.cb_world.specs.FarState.{FarState}
use Rattle.cb_world.specs.FarSound.{AwaySound}
use Rattle.cb_world.specs.Sets.{Kept, if_committed, set_in}
use Rattle.cb_world.specs.SetsFrom.{AreFrom}
use Rattle.cb_compact.specs.declared.candidates.Candidate.{Candidate}
use Rattle.cb_world.specs.declared.groups.Group.{Group}
use Rattle.cb_compact.specs.Candidates.{AreAlike, AreFirsts, AreSeen, CanMatch, IsAdded, IsCandidate, IsFirstMatch, NoneMatch, group}
use Rattle.cb_compact.specs.Tables.{AreMasks}
use Rattle.cb_compact.specs.PairStep.{CanJoin, IsFirstPair, NoneCanJoin}
use Rattle.cb_compact.proofs.Looked.{set_same}

pub candidate_same : (a b : Candidate) → Some a ≡ Some b → a ≡ b
candidate_same a b e = cc

-- a whole committed set as a candidate
abbrev pub candidate_of : ℕ → SetState → Candidate
candidate_of id c = record {
  id = id;
  k = length c.positions;
  r = parities c;
  pages = c.pages;
  live = live_mask c.positions;
}

pub is_candidate : (far : FarState) (id : ℕ) (c : SetState) → set_in far.sets id ≡ Some c
    → IsWhole far.members c → IsCandidate far (candidate_of id c) c
is_candidate far id c there whole =
    record { there = there; whole = whole; k = refl; r = refl; pages = refl; live = refl }

-- two candidates that match, in their order, for two sets that can be joined
record Covered (found : List Candidate) (i j : ℕ) (c : SetState) : Type 0 where
  m : ℕ
  n : ℕ
  u : Candidate
  v : Candidate
  at_m : slice_get found m ≡ Some u
  at_n : slice_get found n ≡ Some v
  low : u.id ≤ i
  high : v.id ≤ j
  both : CanMatch u v
  back : CanMatch v u
  apart : m ≢ n

module _ (s : Shown) (far : FarState) (sound : AwaySound s far) (found : List Candidate)
    (x : AreFirsts far far.counts.sets found) where
  covered : (i j : ℕ) (c d : SetState) → CanJoin far i j c d → Covered found i j c
  covered i j c d can =
      let u = x.cover (candidate_of i c) c (sound.sets.numbered i c can.a_there)
      (is_candidate far i c can.a_there can.matched.whole_a) in
      let v = x.cover (candidate_of j d) d (sound.sets.numbered j d can.b_there)
      (is_candidate far j d can.b_there can.matched.whole_b) in
      let k : u.1.k ≡ v.1.k = u.4.k ∙ sym can.data_count ∙ sym v.4.k in
      let r : u.1.r ≡ v.1.r = u.4.r ∙ sym can.parity_count ∙ sym v.4.r in
      let pages : u.1.pages ≡ v.1.pages = u.4.pages ∙ sym can.matched.pages ∙ sym v.4.pages in
      let none : bit_and u.1.live v.1.live ≡ 0 =
      ap (λ (n : ℕ). bit_and n v.1.live) u.4.live ∙ ap (bit_and (live_mask c.positions)) v.4.live
      ∙ masks_of_matched far.members c d can.matched in
      let flip : bit_and v.1.live u.1.live ≡ 0 =
      ap (λ (n : ℕ). bit_and n u.1.live) v.4.live ∙ ap (bit_and (live_mask d.positions)) u.4.live
      ∙ masks_from_apart d.positions c.positions (λ q a b. can.matched.apart q b a) in
      record {
        m = u.0;
        n = v.0;
        u = u.1;
        v = v.1;
        at_m = u.2;
        at_n = v.2;
        low = u.3;
        high = v.3;
        both = record { k = k; r = r; pages = pages; apart = none };
        back = record { k = sym k; r = sym r; pages = sym pages; apart = flip };
        apart = λ e. let same = candidate_same u.1 v.1 (sym u.2 ∙ ap (slice_get found) e ∙ v.2) in
            let masks : live_mask c.positions ≡ live_mask d.positions =
            sym u.4.live ∙ ap (λ (q : Candidate). q.live) same ∙ v.4.live in
            let p = sound.sets.kept i c can.a_there in
            apart_from_masks c.positions c.positions
            (ap (bit_and (live_mask c.positions)) masks ∙ masks_of_matched far.members c d
            can.matched)
            p.0 p.1 p.1;
      }

  pub none_found : NoneMatch found → NoneCanJoin far
  none_found none i j c d l can =
      let y = covered i j c d can in
      elim (cases_lt y.m y.n) [
        | inl less ↦ none y.m y.n y.u y.v less y.at_m y.at_n y.both
        | inr more ↦ none y.n y.m y.v y.u (let off = y.apart in omega (arith, more, off)) y.at_n
            y.at_m
            y.back
      ]

  -- candidates stand in the order of their numbers
  in_order : (m n : ℕ) (c d : Candidate) → m ≤ n → slice_get found m ≡ Some c
      → slice_get found n ≡ Some d → c.id ≤ d.id
  in_order m n c d l at_m at_n = elim (cases_eq m n) [
    | inl e ↦ let same = ap (λ (q : Candidate). q.id) (candidate_same c d (sym at_m
        ∙ ap (slice_get found) e ∙ at_n)) in omega (arith, same)
    | inr off ↦ let y = x.ascend m n c d (omega (arith, l, off)) at_m at_n in omega (arith, y)
  ]

  pub pair_found : (p q : Candidate) → IsFirstMatch found p q → (a : SetState) × (b : SetState)
      × IsFirstPair far p.id q.id a b
  pair_found p q y =
      let a = (x.sets y.i p y.at_i).1 in let b = (x.sets y.j q y.at_j).1 in
      let is_a = (x.sets y.i p y.at_i).2 in let is_b = (x.sets y.j q y.at_j).2 in (
        a,
        b,
        record {
          above = x.ascend y.i y.j p q y.order y.at_i y.at_j;
          can = record {
            a_there = is_a.there;
            b_there = is_b.there;
            data_count = sym is_b.k ∙ sym y.match_.k ∙ is_a.k;
            parity_count = sym is_b.r ∙ sym y.match_.r ∙ is_a.r;
            matched = matched_by_masks far.members a b is_a.whole is_b.whole
                (sym is_b.pages ∙ sym y.match_.pages ∙ is_a.pages)
                (ap (λ (n : ℕ). bit_and n (live_mask b.positions)) (sym is_a.live)
                ∙ ap (bit_and p.live) (sym is_b.live) ∙ y.match_.apart);
          };
          least_a = λ i j c d l can. let z = covered i j c d can in elim (cases_lt z.m z.n) [
            | inl less ↦
                let first = y.least z.m z.n z.u z.v less z.at_m z.at_n z.both in
                let o = in_order y.i z.m p z.u first y.at_i z.at_m in
                let low = z.low in omega (arith, o, low)
            | inr more ↦
                let less : z.n < z.m = let off = z.apart in omega (arith, more, off) in
                let first = y.least z.n z.m z.v z.u less z.at_n z.at_m z.back in
                let o = in_order y.i z.n p z.v first y.at_i z.at_n in
                let up = x.ascend z.n z.m z.v z.u less z.at_n z.at_m in
                let low = z.low in omega (arith, o, up, low)
          ];
          least_b = λ j c d l can. let z = covered p.id j c d can in elim (cases_lt z.m z.n) [
            | inl less ↦
                let first = y.least z.m z.n z.u z.v less z.at_m z.at_n z.both in
                let same : z.m ≡ y.i = elim (cases_eq z.m y.i) [
                  | inl e ↦ e
                  | inr off ↦
                      let up = x.ascend y.i z.m p z.u (omega (arith, first, off)) y.at_i z.at_m in
                      let low = z.low in absurd (omega (arith, up, low))
                ] in
                let is : z.u ≡ p = candidate_same z.u p (sym z.at_m ∙ ap (slice_get found) same ∙
                y.at_i) in
                let next = y.least_j z.n z.v (let s = same in omega (arith, s, less)) z.at_n
                (subst (λ (q : Candidate). CanMatch q z.v) is z.both) in
                let o = in_order y.j z.n q z.v next y.at_j z.at_n in
                let high = z.high in omega (arith, o, high)
            | inr more ↦
                let less : z.n < z.m = let off = z.apart in omega (arith, more, off) in
                let first = y.least z.n z.m z.v z.u less z.at_n z.at_m z.back in
                let up = x.ascend y.i z.m p z.u (omega (arith, first, less)) y.at_i z.at_m in
                let low = z.low in absurd (omega (arith, up, low))
          ];
        },
      )

-- ---- the walk
pub no_set : (c : SetState) → None ≡ Some c → ⊥
no_set c e = cc

no_candidate : (c : Candidate) → None ≡ Some c → ⊥
no_candidate c e = cc

pub none_yet : (far : FarState) → AreFirsts far 0 []
none_yet far = record {
  sets = λ i c at. absurd (no_candidate c at);
  ascend = λ i j c d l at. absurd (no_candidate c at);
  cover = λ c set l. absurd (omega (arith, l));
}

-- numbers without a set
pub firsts_to : (far : FarState) (from to : ℕ) (found : List Candidate) → AreFirsts far from found
    → from ≤ to → ((j : ℕ) → from ≤ j → j < to → map.get far.sets j ≡ None) → AreFirsts far to
    found
firsts_to far from to found x l none = record {
  sets = λ i c at. let y = x.sets i c at in let b = y.0 in (omega (arith, b, l), y.1, y.2);
  ascend = x.ascend;
  cover = λ c set below is. elim (cases_lt c.id from) [
    | inl before ↦ x.cover c set before is
    | inr after ↦ absurd (no_set set (sym (ap if_committed (none c.id after below)) ∙ is.there))
  ];
}

-- a set that is none of those that are looked for, or is like one before it
pub firsts_over : (far : FarState) (id : ℕ) (found : List Candidate) → AreFirsts far id found
    → ((c : Candidate) (set : SetState) → c.id ≡ id → IsCandidate far c set → (i : ℕ)
    × (d : Candidate) × (slice_get found i ≡ Some d) × AreAlike d c) → AreFirsts far (id + 1)
    found
firsts_over far id found x alike = record {
  sets = λ i c at. let y = x.sets i c at in let b = y.0 in (omega (arith, b), y.1, y.2);
  ascend = x.ascend;
  cover = λ c set below is. elim (cases_eq c.id id) [
    | inl e ↦ let y = alike c set e is in let b = (x.sets y.0 y.1 y.2).0 in
        (y.0, y.1, y.2, omega (arith, b, e), y.3)
    | inr off ↦ x.cover c set (omega (arith, below, off)) is
  ];
}

-- ---- one candidate more
pushed : (found : List Candidate) (c : Candidate) (i : ℕ) (d : Candidate)
    → slice_get (found ++ c ∷ []) i ≡ Some d
    → ((i ≡ length found) × (c ≡ d)) ⊎ ((i < length found) × (slice_get found i ≡ Some d))
pushed [] c zero d at = inl (refl, candidate_same c d at)
pushed [] c (suc i) d at = absurd (no_candidate d at)
pushed (x ∷ xs) c zero d at = inr (omega arith, at)
pushed (x ∷ xs) c (suc i) d at = later (pushed xs c i d at)
  where
    later : ((i ≡ length xs) × (c ≡ d)) ⊎ ((i < length xs) × (slice_get xs i ≡ Some d))
        → ((suc i ≡ suc (length xs)) × (c ≡ d)) ⊎ ((suc i < suc (length xs)) × (slice_get xs i ≡
        Some d))
    later (inl (e, same)) = inl (ap suc e, same)
    later (inr (l, there)) = inr (omega (arith, l), there)

kept : (found : List Candidate) (c : Candidate) (i : ℕ) (d : Candidate) → slice_get found i ≡
    Some d
    → slice_get (found ++ c ∷ []) i ≡ Some d
kept [] c i d at = absurd (no_candidate d at)
kept (x ∷ xs) c zero d at = at
kept (x ∷ xs) c (suc i) d at = kept xs c i d at

last : (found : List Candidate) (c : Candidate) → slice_get (found ++ c ∷ []) (length found) ≡
    Some c
last [] c = refl
last (x ∷ xs) c = last xs c

pub firsts_more : (far : FarState) (id : ℕ) (found : List Candidate) (c : Candidate) (set :
    SetState)
    → AreFirsts far id found → c.id ≡ id → IsCandidate far c set
    → AreFirsts far (id + 1) (found ++ c ∷ [])
firsts_more far id found c set x e is = record {
  sets = λ i d at. elim (pushed found c i d at) [
    | inl (here, same) ↦ subst (λ (q : Candidate). (q.id < id + 1) × (other : SetState)
        × IsCandidate far q other) same (omega (arith, e), set, is)
    | inr (l, there) ↦ let y = x.sets i d there in let b = y.0 in (omega (arith, b), y.1, y.2)
  ];
  ascend = λ i j a b l at_i at_j. elim (pushed found c j b at_j) [
    | inl (here, same) ↦ elim (pushed found c i a at_i) [
      | inl (too, as_well) ↦ absurd (omega (arith, l, here, too))
      | inr (m, there) ↦ let y = (x.sets i a there).0 in
          let s = ap (λ (q : Candidate). q.id) same in omega (arith, y, s, e)
    ]
    | inr (m, there) ↦ elim (pushed found c i a at_i) [
      | inl (too, as_well) ↦ absurd (omega (arith, l, m, too))
      | inr (n, before) ↦ x.ascend i j a b l before there
    ]
  ];
  cover = λ d other below of. elim (cases_eq d.id id) [
    | inl here ↦
        let same = set_same set other (sym is.there ∙ ap (set_in far.sets) (e ∙ sym here) ∙
        of.there) in (
          length found,
          c,
          last found c,
          omega (arith, e, here),
          record {
            k = is.k ∙ ap (λ (q : SetState). length q.positions) same ∙ sym of.k;
            r = is.r ∙ ap parities same ∙ sym of.r;
            pages = is.pages ∙ ap (λ (q : SetState). q.pages) same ∙ sym of.pages;
            live = is.live ∙ ap (λ (q : SetState). live_mask q.positions) same ∙ sym of.live;
          },
        )
    | inr off ↦
        let y = x.cover d other (omega (arith, below, off)) of in
        (y.0, y.1, kept found c y.0 y.1 y.2, y.3, y.4)
  ];
}

-- candidates of one number are alike
pub alike_same : (far : FarState) (c d y : Candidate) (set other : SetState) → c.id ≡ d.id
    → IsCandidate far c set → IsCandidate far d other → AreAlike y c → AreAlike y d
alike_same far c d y set other e is of alike =
    let same = set_same set other (sym is.there ∙ ap (set_in far.sets) e ∙ of.there) in
    record {
      k = alike.k ∙ is.k ∙ ap (λ (q : SetState). length q.positions) same ∙ sym of.k;
      r = alike.r ∙ is.r ∙ ap parities same ∙ sym of.r;
      pages = alike.pages ∙ is.pages ∙ ap (λ (q : SetState). q.pages) same ∙ sym of.pages;
      live = alike.live ∙ is.live ∙ ap (λ (q : SetState). live_mask q.positions) same ∙ sym
          of.live;
    }

-- a candidate was added at the end, or one that is alike was there
pub firsts_added : (far : FarState) (id : ℕ) (found new : List Candidate) (c : Candidate)
    (set : SetState) → AreFirsts far id found → c.id ≡ id → IsCandidate far c set
    → IsAdded found c new → AreFirsts far (id + 1) new
firsts_added far id found new c set x e is (inl added) =
    subst (AreFirsts far (id + 1)) (sym added) (firsts_more far id found c set x e is)
firsts_added far id found new c set x e is (inr (same, old)) =
    subst (AreFirsts far (id + 1)) (sym same)
    (firsts_over far id found x (λ d other at of. (
      old.0,
      old.1,
      old.2,
      alike_same far c d old.1 set other (e ∙ sym at) is of old.3,
    )))

-- with no set behind a number, up to the last number that was drawn
pub firsts_all : (s : Shown) (far : FarState) (from : ℕ) (found : List Candidate) → AwaySound s far
    → AreFirsts far from found → AreFrom far.sets from [] → AreFirsts far far.counts.sets found
firsts_all s far from found sound x rest = record {
  sets = λ i c at. let y = x.sets i c at in (sound.sets.numbered c.id y.1 y.2.there, y.1, y.2);
  ascend = x.ascend;
  cover = λ c set below is. elim (cases_lt c.id from) [
    | inl before ↦ x.cover c set before is
    | inr after ↦ absurd (no_set set (sym (ap if_committed (rest.each c.id after)) ∙ is.there))
  ];
}

-- ---- kept sets
committed_is : (kept : Kept) (o : Option Kept) → o ≡ Some kept → kept.committed ≡ true
    → if_committed o ≡ Some kept.set
committed_is kept o at on = ap if_committed at
    ∙ ap (λ (b : Bool). if b then Some kept.set else None) on

pub kept_inside : (far : FarState) (id : ℕ) (kept inside : Kept) → map.get far.sets id ≡ Some kept
    → inside ≡ kept → inside.committed ≡ true → set_in far.sets id ≡ Some inside.set
kept_inside far id kept inside at same on =
    committed_is inside (map.get far.sets id) (at ∙ ap Some (sym same)) on

pub no_candidate_kept : (far : FarState) (id : ℕ) (kept inside : Kept)
    → map.get far.sets id ≡ Some kept → inside ≡ kept → inside.committed ≡ false → (c : Candidate)
    (set : SetState) → c.id ≡ id → ¬ (IsCandidate far c set)
no_candidate_kept far id kept inside at same off c set e is =
    no_set set (sym (ap if_committed (at ∙ ap Some (sym same))
    ∙ ap (λ (b : Bool). if b then Some inside.set else None) off)
    ∙ ap (set_in far.sets) (sym e) ∙ is.there)

pub no_candidate_lost : (far : FarState) (m : Membership) (id : ℕ) (kept inside : Kept)
    → map.get far.sets id ≡ Some kept → inside ≡ kept → m ≡ far.members → inside.committed ≡ true
    → ¬ (IsWhole m inside.set) → (c : Candidate) (set : SetState)
    → c.id ≡ id → ¬ (IsCandidate far c set)
no_candidate_lost far m id kept inside at same members on lost c set e is =
    let whole : IsWhole far.members inside.set =
    subst (IsWhole far.members) (set_same set inside.set (sym is.there ∙ ap (set_in far.sets) e
    ∙ kept_inside far id kept inside at same on)) is.whole in
    lost (subst (λ (q : Membership). IsWhole q inside.set) (sym members) whole)

-- the candidates have a bit for each of at most 16 positions
pub are_masks : (s : Shown) (far : FarState) (n : ℕ) (found : List Candidate) → AwaySound s far
    → AreFirsts far n found → AreMasks found
are_masks s far n found sound x i c at =
    let y = x.sets i c at in
    let range = (sound.sets.shaped c.id y.1 y.2.there).range in
    let low = live_mask-lt y.1.positions in let k = y.2.k in let l = y.2.live in
    let most = range.data_most in (
      omega (arith, k, most),
      subst (λ (n : ℕ). n < 2 ^ c.k) (sym l) (subst (λ (n : ℕ).
          live_mask y.1.positions < 2 ^ n) (sym k) low),
    )

-- ---- the groups that were seen
pub none_seen : (cmp : Group → Group → Ordering) (seen : BTreeSet Group) → seen.keys ≡ []
    → AreSeen cmp [] seen
none_seen cmp seen none g has =
    absurd (false≢true (sym (ap (list_any (is_at (cmp g))) none) ∙ has))

-- one group more, with a candidate of it at the end
pub seen_more : (cmp : Group → Group → Ordering) (found : List Candidate) (c : Candidate)
    (seen new : BTreeSet Group) → ((g h : Group) → is_eq (cmp g h) ≡ true → g ≡ h)
    → AreSeen cmp found seen → ((g : Group) → contains cmp new g
    ≡ cond (is_at (cmp (group c)) g) true (contains cmp seen g)) → AreSeen cmp (found ++ c ∷ []) new
seen_more cmp found c seen new exact x updates g has = by (is_at (cmp (group c)) g) refl
  where
    by : (b : Bool) → is_at (cmp (group c)) g ≡ b → (i : ℕ) × (d : Candidate)
        × (slice_get (found ++ c ∷ []) i ≡ Some d) × (group d ≡ g)
    by true e = (length found, c, last found c, exact (group c) g e)
    by false e =
        let old = x g (sym (ap (λ (b : Bool). cond b true (contains cmp seen g)) e)
        ∙ sym (updates g) ∙ has) in
        (old.0, old.1, kept found c old.0 old.1 old.2, old.3)
