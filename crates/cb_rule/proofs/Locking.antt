-- The lock, the far state and the turns stay under steps on other words, and where seats are split
-- and joined.
use Rattle.std.proofs.Common.{◌≡◌, ◌≢◌, ◌⊎◌, ℕ, ◌+◌, ◌^◌, ◌<◌, ◌≤◌, Bool, true, false, cond, List}
use Rattle.std.proofs.Common.{[], ◌∷◌, ◌++◌, Option, None, get_or, set, sym, refl, ap, ◌∙◌, subst, ⊎_elim, arith}
use Rattle.std.proofs.Common.{true≢false}
use mathlib.Core.Option.{some}
use lib.ListN.{get_elem?}
use Rattle.cb_types.specs.declared.config.Config.{Config}
use Rattle.cb_types.specs.declared.order.Kept.{Kept}
use Rattle.cb_world.specs.declared.shown.Shown.{Shown}
use Rattle.cb_world.specs.Empty.{empty_far, empty_shown}
use Rattle.cb_world.specs.FarState.{FarState}
use Rattle.cb_world.specs.Orders.{KeepsOrder}
use Rattle.cb_rule.specs.declared.view.View.{View}
use Rattle.cb_rule.specs.Lists.{times, total, Each}
use Rattle.cb_rule.specs.Locking.{Deeds, IsHandedOn, IsTimed, IsUnlocked, Locked, Stood, TurnStands}
use Rattle.cb_rule.specs.Locking.{is_turn, turns_on, when_ended}
use Rattle.cb_rule.specs.Ruled.{IsAlike, IsSteady}
use Rattle.cb_rule.specs.Seats.{holding}
use Rattle.cb_rule.specs.Slot.{Table}
use Rattle.cb_rule.specs.Steps.{blank, joined}
use Rattle.cb_rule.proofs.Counts.{each_append, hit, miss, times-append, total-at, total-same}
use Rattle.cb_rule.proofs.Keeping.{seats_stay}
use Rattle.cb_rule.proofs.Members.{at_snoc}
use Rattle.cb_rule.proofs.Seating.{set_else, total_joined, total_split}

module _ (deeds : Deeds) (c : Config) (s : Table) (known : Shown) (r : Locked deeds c s known) where
  abbrev Takes : ℕ → View → Type 0
  Takes j u = u.holds ≡ true → u.took ≡ r.chain r.count

  abbrev Begins : ℕ → View → Type 0
  Begins j u = u.holds ≡ true → Stood c u.start u.took

  -- what a view's turn began with stays
  still_begins : (j : ℕ) (v w : View) → IsAlike v w → Begins j v → Begins j w
  still_begins j v w alike b h =
      subst (λ (k : Shown). Stood c k w.took) (sym alike.start)
      (subst (Stood c v.start) (sym alike.took) (b (sym alike.holds ∙ h)))

  -- a view's order is kept by this far state
  abbrev Rests : Shown → FarState → ℕ → View → Type 0
  Rests k f j u = KeepsOrder k f u.order

  -- so is each one by that with which the view's turn began
  abbrev Waits : ℕ → View → Type 0
  Waits i x = x.holds ≡ true → (j : ℕ) (u : View) → get_elem? s.views j ≡ some u
      → Rests x.start x.took j u

  still_waits : (i : ℕ) (v w : View) → IsAlike v w → Waits i v → Waits i w
  still_waits i v w alike b h j u there =
      subst (λ (k : Shown). Rests k w.took j u) (sym alike.start)
      (subst (λ (f : FarState). Rests v.start f j u) (sym alike.took)
      (b (sym alike.holds ∙ h) j u there))

  abbrev Runs : ℕ → View → Type 0
  Runs j u = u.holds ≡ true → when_ended r.ends r.count ≤ u.since

  abbrev Knew : ℕ → View → Type 0
  Knew j u = u.holds ≡ true → r.count < 2 ^ 40 → u.start ≡ r.knew r.count

  abbrev HandsOn : ℕ → View → Type 0
  HandsOn j u = Each (IsHandedOn r.knew) u.turns

  -- what a view's turn knew when it began stays
  still_knew : (j : ℕ) (v w : View) → IsAlike v w → Knew j v → Knew j w
  still_knew j v w alike b h few = alike.start ∙ b (sym alike.holds ∙ h) few

  abbrev Timed : ℕ → View → Type 0
  Timed j u = Each (IsTimed r.count r.ends) u.turns

  -- when it began stays too
  still_runs : (j : ℕ) (v w : View) → IsAlike v w → Runs j v → Runs j w
  still_runs j v w alike b h = let low = b (sym alike.holds ∙ h) in let same = alike.since in
      omega (arith, low, same)

  abbrev Turned : ℕ → View → Type 0
  Turned j u = Each (TurnStands deeds c r.count r.chain) u.turns

  -- the words, the homes and the views may be others, where those that hold are as many
  unlocked_still : (ws : List ℕ) (views : List View) → get_or ws 0 0 ≡ get_or s.words 0 0
      → total holding views ≡ total holding s.views → total holding views ≡ 0
      → IsUnlocked c record { words = ws; homes = s.homes; views = views } known r.count
      (r.chain r.count)
  unlocked_still ws views lock same none = let f = r.free (sym same ∙ none) in record {
    word = lock ∙ f.word;
    home = f.home;
    stood = f.stood;
  }

  module _ (id : ℕ) (v : View) (at : get_elem? s.views id ≡ some v) where
    locked_stays : (ws : List ℕ) (known' : Shown) (w : View) → get_or ws 0 0 ≡ get_or s.words 0 0
        → IsAlike v w → (known' ≡ known) ⊎ (v.holds ≡ true) → known'.first ≡ known.first
        → Locked deeds c record { words = ws; homes = s.homes; views = set s.views id w } known'
    locked_stays ws known' w lock alike why first = record {
      count = r.count;
      chain = r.chain;
      empty = r.empty ∙ ap (λ (n : ℕ). empty_far n c) (sym first);
      reached = r.reached;
      starts = λ i le. r.starts i le ∙ sym first;
      free = λ none. ⊎_elim
          (λ (e : known' ≡ known). subst (λ (k : Shown). IsUnlocked c record {
            words = ws;
            homes = s.homes;
            views = set s.views id w;
          } k r.count (r.chain r.count)) (sym e)
          (unlocked_still ws (set s.views id w) lock same none))
          (λ (h : v.holds ≡ true). absurd (let le = total-at holding s.views id v at in
          let one = hit v.holds h in omega (arith, le, one, same, none))) why;
      held = λ some_one. lock ∙ r.held (omega (arith, same, some_one));
      deep = r.deep;
      takers = seats_stay Takes s.views id w
          (λ h. alike.took ∙ r.takers id v at (sym alike.holds ∙ h))
          (λ j u ne there. r.takers j u there);
      began = seats_stay Begins s.views id w (still_begins id v w alike (r.began id v at))
          (λ j u ne there. r.began j u there);
      resting = λ none. ⊎_elim
          (λ (e : known' ≡ known). subst (λ (k : Shown). (j : ℕ) (u : View)
          → get_elem? (set s.views id w) j ≡ some u → Rests k (r.chain r.count) j u) (sym e)
          (stay known (r.chain r.count) (r.resting (sym same ∙ none))))
          (λ (h : v.holds ≡ true). absurd (let le = total-at holding s.views id v at in
          let one = hit v.holds h in omega (arith, le, one, same, none))) why;
      waiting = λ i x is h. stay x.start x.took (seats_stay Waits s.views id w
          (still_waits id v w alike (r.waiting id v at)) (λ a b ne there. r.waiting a b there)
          i x is h);
      turns = seats_stay Turned s.views id w
          (subst (Each (TurnStands deeds c r.count r.chain)) (sym alike.turns) (r.turns id v at))
          (λ j u ne there. r.turns j u there);
      once = λ k l. total-same (turns_on k) s.views id v w at
          (ap (times (λ t. is_turn k t)) alike.turns) ∙ r.once k l;
      ends = r.ends;
      timed = seats_stay Timed s.views id w
          (subst (Each (IsTimed r.count r.ends)) (sym alike.turns) (r.timed id v at))
          (λ j u ne there. r.timed j u there);
      runs = seats_stay Runs s.views id w (still_runs id v w alike (r.runs id v at))
          (λ j u ne there. r.runs j u there);
      knew = r.knew;
      unknown = r.unknown ∙ ap (λ (n : ℕ). empty_shown n c) (sym first);
      known_now = λ none few. ⊎_elim
          (λ (e : known' ≡ known). e ∙ r.known_now (sym same ∙ none) few)
          (λ (h : v.holds ≡ true). absurd (let le = total-at holding s.views id v at in
          let one = hit v.holds h in omega (arith, le, one, same, none))) why;
      known_then = seats_stay Knew s.views id w
          (still_knew id v w alike (r.known_then id v at)) (λ j u ne there. r.known_then j u there);
      handed = seats_stay HandsOn s.views id w
          (subst (Each (IsHandedOn r.knew)) (sym alike.turns) (r.handed id v at))
          (λ j u ne there. r.handed j u there);
    }
      where
        stay : (k : Shown) (f : FarState)
            → ((j : ℕ) (u : View) → get_elem? s.views j ≡ some u → Rests k f j u)
            → (j : ℕ) (u : View) → get_elem? (set s.views id w) j ≡ some u → Rests k f j u
        stay k f all = seats_stay (Rests k f) s.views id w
            (subst (KeepsOrder k f) (sym alike.order) (all id v at)) (λ j u ne there. all j u there)

        same : total holding (set s.views id w) ≡ total holding s.views
        same = total-same holding s.views id v w at
            (ap (λ (b : Bool). cond {A = ℕ} b 1 0) alike.holds)

    locked_splits : (left right : View) → IsAlike v left → right.holds ≡ false → right.turns ≡ []
        → right.order ≡ None → Locked deeds c record {
          words = s.words;
          homes = s.homes;
          views = set s.views id left ++ right ∷ [];
        } known
    locked_splits left right alike quiet none bare = record {
      count = r.count;
      chain = r.chain;
      empty = r.empty;
      reached = r.reached;
      starts = r.starts;
      free = λ z. unlocked_still s.words more refl same z;
      held = λ some_one. r.held (omega (arith, same, some_one));
      deep = r.deep;
      takers = λ j u there. ⊎_elim
          (λ (t : get_elem? (set s.views id left) j ≡ some u). seats_stay Takes s.views id left
          (λ h. alike.took ∙ r.takers id v at (sym alike.holds ∙ h))
          (λ i x _ e. r.takers i x e) j u t)
          (λ (t : right ≡ u). subst (λ (x : View). Takes j x) t
          (λ h. absurd (true≢false (sym h ∙ quiet))))
          (at_snoc (set s.views id left) right u j there);
      began = λ j u there. ⊎_elim
          (λ (t : get_elem? (set s.views id left) j ≡ some u). seats_stay Begins s.views id left
          (still_begins id v left alike (r.began id v at)) (λ i x _ e. r.began i x e) j u t)
          (λ (t : right ≡ u). subst (λ (x : View). Begins j x) t
          (λ h. absurd (true≢false (sym h ∙ quiet))))
          (at_snoc (set s.views id left) right u j there);
      resting = λ z. stay known (r.chain r.count) (r.resting (sym same ∙ z));
      waiting = λ i x is h. stay x.start x.took (⊎_elim
          (λ (t : get_elem? (set s.views id left) i ≡ some x). seats_stay Waits s.views id left
          (still_waits id v left alike (r.waiting id v at)) (λ a b ne there. r.waiting a b there)
          i x t)
          (λ (t : right ≡ x). subst (λ (y : View). Waits i y) t
          (λ his. absurd (true≢false (sym his ∙ quiet))))
          (at_snoc (set s.views id left) right x i is) h);
      turns = λ j u there. ⊎_elim
          (λ (t : get_elem? (set s.views id left) j ≡ some u). seats_stay Turned s.views id left
          (subst (Each (TurnStands deeds c r.count r.chain)) (sym alike.turns) (r.turns id v at))
          (λ i x _ e. r.turns i x e) j u t)
          (λ (t : right ≡ u). subst (Each (TurnStands deeds c r.count r.chain))
          (sym none ∙ ap (λ (x : View). x.turns) t) tt)
          (at_snoc (set s.views id left) right u j there);
      once = λ k l. total_split (turns_on k) s.views id v left right at
          (ap (times (λ t. is_turn k t)) alike.turns) (ap (times (λ t. is_turn k t)) none)
          ∙ r.once k l;
      ends = r.ends;
      timed = λ j u there. ⊎_elim
          (λ (t : get_elem? (set s.views id left) j ≡ some u). seats_stay Timed s.views id left
          (subst (Each (IsTimed r.count r.ends)) (sym alike.turns) (r.timed id v at))
          (λ i x _ e. r.timed i x e) j u t)
          (λ (t : right ≡ u). subst (Each (IsTimed r.count r.ends))
          (sym none ∙ ap (λ (x : View). x.turns) t) tt)
          (at_snoc (set s.views id left) right u j there);
      runs = λ j u there. ⊎_elim
          (λ (t : get_elem? (set s.views id left) j ≡ some u). seats_stay Runs s.views id left
          (still_runs id v left alike (r.runs id v at)) (λ i x _ e. r.runs i x e) j u t)
          (λ (t : right ≡ u). subst (λ (x : View). Runs j x) t
          (λ h. absurd (true≢false (sym h ∙ quiet))))
          (at_snoc (set s.views id left) right u j there);
      knew = r.knew;
      unknown = r.unknown;
      known_now = λ z few. r.known_now (sym same ∙ z) few;
      known_then = λ j u there. ⊎_elim
          (λ (t : get_elem? (set s.views id left) j ≡ some u). seats_stay Knew s.views id left
          (still_knew id v left alike (r.known_then id v at)) (λ i x _ e. r.known_then i x e) j u t)
          (λ (t : right ≡ u). subst (λ (x : View). Knew j x) t
          (λ h. absurd (true≢false (sym h ∙ quiet))))
          (at_snoc (set s.views id left) right u j there);
      handed = λ j u there. ⊎_elim
          (λ (t : get_elem? (set s.views id left) j ≡ some u). seats_stay HandsOn s.views id left
          (subst (Each (IsHandedOn r.knew)) (sym alike.turns) (r.handed id v at))
          (λ i x _ e. r.handed i x e) j u t)
          (λ (t : right ≡ u). subst (Each (IsHandedOn r.knew))
          (sym none ∙ ap (λ (x : View). x.turns) t) tt)
          (at_snoc (set s.views id left) right u j there);
    }
      where
        more : List View
        more = set s.views id left ++ right ∷ []

        none_kept : (k : Shown) (f : FarState) (o : Option Kept) → o ≡ None → KeepsOrder k f o
        none_kept k f o e = subst (KeepsOrder k f) (sym e) tt

        stay : (k : Shown) (f : FarState)
            → ((j : ℕ) (u : View) → get_elem? s.views j ≡ some u → Rests k f j u)
            → (j : ℕ) (u : View) → get_elem? more j ≡ some u → Rests k f j u
        stay k f all j u there = ⊎_elim
            (λ (t : get_elem? (set s.views id left) j ≡ some u). seats_stay (Rests k f) s.views id left
            (subst (KeepsOrder k f) (sym alike.order) (all id v at)) (λ i x ne is. all i x is) j u t)
            (λ (t : right ≡ u). subst (λ (x : View). Rests k f j x) t
            (none_kept k f right.order bare))
            (at_snoc (set s.views id left) right u j there)

        same : total holding more ≡ total holding s.views
        same = total_split holding s.views id v left right at
            (ap (λ (b : Bool). cond {A = ℕ} b 1 0) alike.holds) (miss right.holds quiet)

    locked_joins : (other : ℕ) (w : View) → other ≢ id
        → get_elem? (set s.views id (joined v w)) other ≡ some w → w.holds ≡ false
        → Locked deeds c record {
          words = s.words;
          homes = s.homes;
          views = set (set s.views id (joined v w)) other (blank c);
        } known
    locked_joins other w ne there quiet = record {
      count = r.count;
      chain = r.chain;
      empty = r.empty;
      reached = r.reached;
      starts = r.starts;
      free = λ z. unlocked_still s.words more refl same z;
      held = λ some_one. r.held (omega (arith, same, some_one));
      deep = r.deep;
      takers = seats_stay Takes (set s.views id both) other (blank c)
          (λ h. absurd (true≢false (sym h)))
          (λ j u _. seats_stay Takes s.views id both (r.takers id v at)
          (λ i x _ e. r.takers i x e) j u);
      began = seats_stay Begins (set s.views id both) other (blank c)
          (λ h. absurd (true≢false (sym h)))
          (λ j u _. seats_stay Begins s.views id both (r.began id v at)
          (λ i x _ e. r.began i x e) j u);
      resting = λ z. stay known (r.chain r.count) (r.resting (sym same ∙ z));
      waiting = λ i x is h. stay x.start x.took (seats_stay Waits (set s.views id both) other (blank c)
          (λ his. absurd (true≢false (sym his)))
          (λ a b _. seats_stay Waits s.views id both (r.waiting id v at)
          (λ a' b' _ e. r.waiting a' b' e) a b) i x is h);
      turns = seats_stay Turned (set s.views id both) other (blank c) tt
          (λ j u _. seats_stay Turned s.views id both
          (each_append (TurnStands deeds c r.count r.chain) w.turns v.turns
          (r.turns other w (sym (set_else s.views id other both ne) ∙ there)) (r.turns id v at))
          (λ i x _ e. r.turns i x e) j u);
      once = λ k l. total_joined (turns_on k) s.views id other v w both (blank c) at there
          (let e = times-append (is_turn k) w.turns v.turns in omega (arith, e)) refl
          ∙ r.once k l;
      ends = r.ends;
      timed = seats_stay Timed (set s.views id both) other (blank c) tt
          (λ j u _. seats_stay Timed s.views id both
          (each_append (IsTimed r.count r.ends) w.turns v.turns
          (r.timed other w (sym (set_else s.views id other both ne) ∙ there)) (r.timed id v at))
          (λ i x _ e. r.timed i x e) j u);
      runs = seats_stay Runs (set s.views id both) other (blank c)
          (λ h. absurd (true≢false (sym h)))
          (λ j u _. seats_stay Runs s.views id both (r.runs id v at)
          (λ i x _ e. r.runs i x e) j u);
      knew = r.knew;
      unknown = r.unknown;
      known_now = λ z few. r.known_now (sym same ∙ z) few;
      known_then = seats_stay Knew (set s.views id both) other (blank c)
          (λ h. absurd (true≢false (sym h)))
          (λ j u _. seats_stay Knew s.views id both (r.known_then id v at)
          (λ i x _ e. r.known_then i x e) j u);
      handed = seats_stay HandsOn (set s.views id both) other (blank c) tt
          (λ j u _. seats_stay HandsOn s.views id both
          (each_append (IsHandedOn r.knew) w.turns v.turns
          (r.handed other w (sym (set_else s.views id other both ne) ∙ there)) (r.handed id v at))
          (λ i x _ e. r.handed i x e) j u);
    }
      where
        both : View
        both = joined v w

        more : List View
        more = set (set s.views id both) other (blank c)

        stay : (k : Shown) (f : FarState)
            → ((j : ℕ) (u : View) → get_elem? s.views j ≡ some u → Rests k f j u)
            → (j : ℕ) (u : View) → get_elem? more j ≡ some u → Rests k f j u
        stay k f all = seats_stay (Rests k f) (set s.views id both) other (blank c) tt
            (λ j u _. seats_stay (Rests k f) s.views id both (all id v at)
            (λ i x _ e. all i x e) j u)

        none : holding w ≡ 0
        none = miss w.holds quiet

        same : total holding more ≡ total holding s.views
        same = total_joined holding s.views id other v w both (blank c) at there
            (let z : holding v ≡ holding v + holding w = omega (arith, none) in z) refl

pub locked_steady : (deeds : Deeds) → IsSteady (Locked deeds)
locked_steady deeds = record {
  stays = λ c s ws known known' id v w at lock alike why first r.
      locked_stays deeds c s known r id v at ws known' w lock alike why first;
  splits = λ c s known id v left right at alike quiet none bare r.
      locked_splits deeds c s known r id v at left right alike quiet none bare;
  joins = λ c s known id v other w at ne there quiet r.
      locked_joins deeds c s known r id v at other w ne there quiet;
}
