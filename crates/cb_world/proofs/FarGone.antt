-- The world after a far object is freed.
use Rattle.std.proofs.Common.{◌≡◌, ◌≢◌, ◌⊎◌, ◌↔◌, ℕ, Bool, true, false, ◌+◌, ◌<◌, ◌≤◌, List, Option, Some, None, length, get_or, is_some, if◌then◌else◌, refl, sym, ap, ◌∙◌, subst, arith, inl, inr, length-set, get_or-set_same, get_or-set_other}
use Rattle.std.specs.List.{list_any}
use Rattle.std.proofs.lemmas.Bool.{cases_eq, cases_lt}
use Rattle.std.proofs.lemmas.List.{get_or_past}
use Rattle.std.proofs.lemmas.Option.{slice_get-get_or}
use Rattle.cb_member.specs.Membership.{Membership}
use Rattle.cb_set.specs.Lost.{NodesAreMembers}
use Rattle.cb_set.specs.SetState.{SetState, PositionState, dead_position, position_of, slot_at, with_cleared, without_object}
use Rattle.cb_set.proofs.Laws.{named_live, rest_without}
use Rattle.cb_span.specs.Places.{slot_place}
use Rattle.cb_ptr.specs.Word.{len_of, place_of}
use Rattle.cb_world.specs.declared.homes.Home.{Home}
use Rattle.cb_world.specs.declared.object.Object.{Object}
use Rattle.cb_world.specs.declared.object.Object.TheVariants as is
use Rattle.cb_world.specs.declared.shown.Shown.{Shown}
use Rattle.cb_world.specs.Memory.{window, words_for}
use Rattle.cb_world.specs.Shown.{object_at, version_at, never}
use Rattle.cb_world.specs.Homes.{home_at}
use Rattle.cb_world.specs.Sets.{set_in}
use Rattle.cb_world.specs.SetAdded.{is_far}
use Rattle.cb_world.specs.SetWord.{IsShaped}
use Rattle.cb_world.specs.Stored.{AreThere}
use Rattle.cb_world.specs.Leaving.{LeavingState}
use Rattle.cb_world.specs.FarState.{FarState}
use Rattle.cb_world.specs.FarSound.{AwaySound, batch_rows}
use Rattle.cb_world.specs.LeftOver.{LiesIn, set_without, nodes_left, without_far}
use Rattle.cb_world.specs.LocalSound.{LocalSound, IsStamped, LiesAt}
use Rattle.cb_world.specs.GivenUp.{GivesUp, IsGivenUp}
use Rattle.cb_world.specs.Sound.{AreNoted, IsLeaving, Sound}
use Rattle.cb_world.proofs.Gone.{IsFreed}
use Rattle.cb_world.proofs.Lying.{frames_as}
use Rattle.cb_world.proofs.Rooms.{room_left}
use Rattle.cb_world.proofs.SetsLeft.{left_count, left_others, left_over}
use Rattle.cb_world.proofs.Reserving.{noted_by, reserved_is_other}
use Rattle.cb_world.proofs.Whole.{given_whole}

none_some : {X : Type 0} (o : Option X) (x : X) → o ≡ None → o ≡ Some x → ⊥
none_some o x e f = cc

name_same : (a b : ℕ) → Some a ≡ Some b → a ≡ b
name_same a b e = cc

home_same : (a b : Home) → Some a ≡ Some b → a ≡ b
home_same a b e = cc

-- What there is once a far object is freed: the object is empty with its next version, and its set
-- does not name it.
pub record IsFarFreed (s t : Shown) (far : FarState) (h len v : ℕ) (words : List ℕ) (home : Home)
    (set : SetState) : Type 0 where
  pub sound : Sound s far
  pub away : object_at s h ≡ is.Far len v words
  pub lies : LiesIn far h home set
  pub freed : IsFreed s t h v
  pub memory : t.memory ≡ s.memory
  pub range : h < length s.objects
  pub stamp : h < length s.versions

-- ---- the object
mine : (s t : Shown) (far : FarState) (h len v : ℕ) (words : List ℕ) (home : Home)
    (set : SetState) → IsFarFreed s t far h len v words home set
    → object_at t h ≡ is.Empty (v + 1)
mine s t far h len v words home c x = ap (λ (l : List Object). get_or l h never) x.freed.objects
    ∙ get_or-set_same s.objects h (is.Empty (v + 1)) never x.range

pub other_object : (s t : Shown) (far : FarState) (h len v : ℕ) (words : List ℕ) (home : Home)
    (set : SetState) → IsFarFreed s t far h len v words home set → (k : ℕ) → k ≢ h
    → object_at t k ≡ object_at s k
other_object s t far h len v words home c x k off =
    ap (λ (l : List Object). get_or l k never) x.freed.objects
    ∙ get_or-set_other s.objects h k (is.Empty (v + 1)) never off

pub other_version : (s t : Shown) (far : FarState) (h len v : ℕ) (words : List ℕ) (home : Home)
    (set : SetState) → IsFarFreed s t far h len v words home set → (k : ℕ) → k ≢ h
    → version_at t k ≡ version_at s k
other_version s t far h len v words home c x k off =
    ap (λ (l : List ℕ). get_or l k 0) x.freed.versions
    ∙ get_or-set_other s.versions h k (v + 1) 0 off

no_far : (o : Object) (len v n place : ℕ) (words : List ℕ) → o ≡ is.Far len v words
    → LiesAt o n place → ⊥
no_far o len v n place words e lies = subst (λ (q : Object). LiesAt q n place) e lies

-- an object that lies in local memory is another
lies_other : (s t : Shown) (far : FarState) (h len v : ℕ) (words : List ℕ) (home : Home)
    (set : SetState) → IsFarFreed s t far h len v words home set → (k n place : ℕ)
    → LiesAt (object_at s k) n place → k ≢ h
lies_other s t far h len v words home c x k n place lies same =
    no_far (object_at s h) len v n place words x.away
    (subst (λ (i : ℕ). LiesAt (object_at s i) n place) same lies)

-- ---- the local part
freed_here : (s t : Shown) (far : FarState) (h len v : ℕ) (words : List ℕ) (home : Home)
    (set : SetState) → IsFarFreed s t far h len v words home set
    → LocalSound t (without_far far h home set)
freed_here s t far h len v words home c x = record {
  known = record {
    first = x.freed.first ∙ x.sound.here.known.first;
    least = x.sound.here.known.least;
    bounded = (let n = ap length x.freed.objects in
        let m = length-set s.objects h (is.Empty (v + 1)) in
        omega (arith, n, m, x.sound.here.known.bounded));
    made = λ k below. made k (let n = ap length x.freed.objects in
        let m = length-set s.objects h (is.Empty (v + 1)) in omega (arith, n, m, below))
        (cases_eq k h);
    stamped = λ k. stamped k (cases_eq k h);
    versioned = λ k below. versioned k below (cases_eq k h);
  };
  frames = frames_as far (without_far far h home c) refl refl x.sound.here.frames;
  placed = record {
    memory = ap length x.memory ∙ x.sound.here.placed.memory;
    placed = λ k n place lies. x.sound.here.placed.placed k n place (before k n place lies
        (cases_eq k h));
    named = λ f slot k span there named.
        let y = x.sound.here.placed.named f slot k span there named in record {
          len = y.len;
          lies = subst (λ (o : Object). LiesAt o y.len (slot_place span.class f slot))
              (sym (other_object s t far h len v words home c x k
              (lies_other s t far h len v words home c x k y.len (slot_place span.class f slot)
              y.lies))) y.lies;
        };
  };
}
  where
    empty_never : is.Empty (v + 1) ≡ never → ⊥
    empty_never e = by (v + 1) e (omega arith)
      where
        by : (n : ℕ) → is.Empty n ≡ never → 1 ≤ n → ⊥
        by n e some = let z : n ≡ 0 = cc in omega (arith, z, some)

    far_never : is.Far len v words ≡ never → ⊥
    far_never e = cc

    made : (k : ℕ) → k < length s.objects → (k ≡ h) ⊎ (k ≢ h)
        → far.made ≤ k ↔ (object_at t k ≡ never)
    made k below (inl same) = (
      (λ past. absurd (far_never (sym x.away ∙ ap (object_at s) (sym same)
          ∙ (x.sound.here.known.made k below).0 past))),
      (λ none. absurd (empty_never (sym (mine s t far h len v words home c x)
          ∙ ap (object_at t) (sym same) ∙ none))),
    )
    made k below (inr off) = subst (λ (o : Object). far.made ≤ k ↔ (o ≡ never))
        (sym (other_object s t far h len v words home c x k off))
        (x.sound.here.known.made k below)

    stamped : (k : ℕ) → (k ≡ h) ⊎ (k ≢ h) → IsStamped (object_at t k) (version_at t k)
    stamped k (inl same) = subst (λ (i : ℕ). IsStamped (object_at t i) (version_at t i)) (sym same)
        (subst (λ (o : Object). IsStamped o (version_at t h))
        (sym (mine s t far h len v words home c x))
        (ap (λ (l : List ℕ). get_or l h 0) x.freed.versions
        ∙ get_or-set_same s.versions h (v + 1) 0 x.stamp))
    stamped k (inr off) = subst (λ (o : Object). IsStamped o (version_at t k))
        (sym (other_object s t far h len v words home c x k off))
        (subst (IsStamped (object_at s k))
        (sym (other_version s t far h len v words home c x k off))
        (x.sound.here.known.stamped k))

    was : version_at s h ≡ v
    was = subst (λ (o : Object). IsStamped o (version_at s h)) x.away
        (x.sound.here.known.stamped h)

    versioned : (k : ℕ) → k < far.made → (k ≡ h) ⊎ (k ≢ h) → far.first ≤ version_at t k
    versioned k below (inl same) = let now : version_at t k ≡ v + 1 = ap (version_at t) same
        ∙ ap (λ (l : List ℕ). get_or l h 0) x.freed.versions
        ∙ get_or-set_same s.versions h (v + 1) 0 x.stamp in
        let before = x.sound.here.known.versioned k below in
        omega (arith, now, before, was, ap (version_at s) same)
    versioned k below (inr off) = let stays = other_version s t far h len v words home c x k off in
        omega (arith, stays, x.sound.here.known.versioned k below)

    before : (k n place : ℕ) → LiesAt (object_at t k) n place → (k ≡ h) ⊎ (k ≢ h)
        → LiesAt (object_at s k) n place
    before k n place lies (inl same) =
        absurd (subst (λ (o : Object). LiesAt o n place) (mine s t far h len v words home c x)
        (subst (λ (i : ℕ). LiesAt (object_at t i) n place) same lies))
    before k n place lies (inr off) = subst (λ (o : Object). LiesAt o n place)
        (other_object s t far h len v words home c x k off) lies

-- ---- the batch that is leaving
far_claimed : (len v l place u : ℕ) (words ws : List ℕ)
    → is.Far len v words ≡ is.Claimed l place u ws → ⊥
far_claimed len v l place u words ws e = cc

claimed_other : (s t : Shown) (far : FarState) (h len v : ℕ) (words : List ℕ) (home : Home)
    (set : SetState) → IsFarFreed s t far h len v words home set → (k l place u : ℕ)
    (ws : List ℕ) → object_at s k ≡ is.Claimed l place u ws → k ≢ h
claimed_other s t far h len v words home c x k l place u ws claimed same =
    far_claimed len v l place u words ws (sym x.away ∙ ap (object_at s) (sym same) ∙ claimed)

freed_noted : (s t : Shown) (far : FarState) (h len v : ℕ) (words : List ℕ) (home : Home)
    (set : SetState) → IsFarFreed s t far h len v words home set → (batch : LeavingState)
    → far.leaving ≡ Some batch → AreNoted t (without_far far h home set) batch
freed_noted s t far h len v words home set x batch there =
    noted_by s t far (without_far far h home set) batch (record {
      spans = λ f leaves. refl;
      sets = left_others far.sets home.set batch.set (set_without set home)
          (reserved_is_other far batch home.set set (x.sound.noted batch there).reserved
          x.lies.there);
      drawn = omega arith;
      unpaired = λ apart. apart;
    }) (λ f slot k span leaves at named z. record {
      former = z.former;
      noted = z.noted;
      handle = z.handle;
      free = z.free;
      below = z.below;
      version = z.version;
      words = z.words;
      claimed = other_object s t far h len v words home set x k
          (claimed_other s t far h len v words home set x k (len_of z.former.word)
          (place_of z.former.word) z.version z.words z.claimed)
          ∙ z.claimed;
      small = z.small;
    }) (x.sound.noted batch there)

freed_claimed : (s t : Shown) (far : FarState) (h len v : ℕ) (words : List ℕ) (home : Home)
    (set : SetState) → IsFarFreed s t far h len v words home set → (k l place u : ℕ)
    (ws : List ℕ) → object_at t k ≡ is.Claimed l place u ws
    → IsLeaving t (without_far far h home set) k l place ws
freed_claimed s t far h len v words home c x k l place u ws claimed = elim (cases_eq k h) [
  | inl same ↦ absurd (empty_claimed (sym (mine s t far h len v words home c x)
      ∙ ap (object_at t) (sym same) ∙ claimed))
  | inr off ↦
      let z = x.sound.claimed k l place u ws
      (sym (other_object s t far h len v words home c x k off) ∙ claimed) in record {
        batch = z.batch;
        there = z.there;
        slot = z.slot;
        leaves = z.leaves;
        contents = z.contents
            ∙ sym (ap (λ (m : List ℕ). window m place (words_for l)) x.memory);
      }
]
  where
    empty_claimed : is.Empty (v + 1) ≡ is.Claimed l place u ws → ⊥
    empty_claimed e = cc

-- ---- the set
-- what an emptied slot leaves to its position
left_without : (content : PositionState) (slot q k : ℕ) → q ≢ slot
    → get_or content.slots q None ≡ Some k
    → get_or (without_object content slot).slots q None ≡ Some k
left_without content slot q k off named =
    let still : get_or (with_cleared content slot).slots q None ≡ Some k =
    get_or-set_other content.slots slot q None None off ∙ named in
    ap (λ (b : Bool). get_or (if b then with_cleared content slot else dead_position).slots q None)
    (named_live (with_cleared content slot).slots q k still) ∙ still

-- the emptied slot names nothing
gone_without : (content : PositionState) (slot k : ℕ) → slot < length content.slots
    → get_or (without_object content slot).slots slot None ≡ Some k → ⊥
gone_without content slot k within named =
    by (list_any (λ o. is_some o) (with_cleared content slot).slots) refl
  where
    by : (b : Bool) → list_any (λ o. is_some o) (with_cleared content slot).slots ≡ b → ⊥
    by true e = none_some (get_or (with_cleared content slot).slots slot None) k
        (get_or-set_same content.slots slot None None within)
        (sym (ap (λ (b : Bool).
        get_or (if b then with_cleared content slot else dead_position).slots slot None) e)
        ∙ named)
    by false e = none_some (get_or dead_position.slots slot None) k
        (get_or_past dead_position.slots slot None (omega arith))
        (sym (ap (λ (b : Bool).
        get_or (if b then with_cleared content slot else dead_position).slots slot None) e)
        ∙ named)

named_within : (slots : List (Option ℕ)) (slot k : ℕ) → get_or slots slot None ≡ Some k
    → slot < length slots
named_within slots slot k e = elim (cases_lt slot (length slots)) [
  | inl within ↦ within
  | inr past ↦ absurd (none_some (get_or slots slot None) k (get_or_past slots slot None past) e)
]

position_within : (c : SetState) (p slot k : ℕ) → slot_at c p slot ≡ Some k
    → p < length c.positions
position_within c p slot k e = elim (cases_lt p (length c.positions)) [
  | inl within ↦ within
  | inr past ↦ absurd (none_some (get_or dead_position.slots slot None) k
      (get_or_past dead_position.slots slot None (omega arith))
      (ap (λ (q : PositionState). get_or q.slots slot None)
      (sym (get_or_past c.positions p dead_position past)) ∙ e))
]

-- the slot of a home names the object
pub home_names : (s : Shown) (far : FarState) (h : ℕ) (home : Home) (c : SetState)
    → AwaySound s far → LiesIn far h home c → slot_at c home.position home.slot ≡ Some h
home_names s far h home c sound lies =
    let y = sound.away.home h home lies.at in
    subst (λ (q : SetState). slot_at q home.position home.slot ≡ Some h)
    (set_same y.0 c (sym y.1 ∙ lies.there)) y.2
  where
    set_same : (a b : SetState) → Some a ≡ Some b → a ≡ b
    set_same a b e = cc

pub home_within : (s : Shown) (far : FarState) (h : ℕ) (home : Home) (c : SetState)
    → AwaySound s far → LiesIn far h home c → home.position < length c.positions
home_within s far h home c sound lies =
    position_within c home.position home.slot h (home_names s far h home c sound lies)

pub shards_there : (s : Shown) (far : FarState) (id : ℕ) (c : SetState) → AwaySound s far
    → set_in far.sets id ≡ Some c → AreThere far.nodes c.shards
shards_there s far id c sound there q shard at =
    let y = ((sound.sets.shaped id c there).current q shard at).0 in
    let n = sound.rows.counted in omega (arith, y, n)

-- the nodes of a set's shards are members
pub are_members : (m : Membership) (c : SetState) → IsShaped m c → NodesAreMembers m c.shards
are_members m c shaped k d within =
    (shaped.current k (get_or c.shards k d) (slice_get-get_or c.shards k d within)).0

pub far_gives_up : (s t : Shown) (far : FarState) (h len v : ℕ) (words : List ℕ) (home : Home)
    (set : SetState) → IsFarFreed s t far h len v words home set
    → GivesUp s t far (without_far far h home set) home.set set home.position
    (without_object (position_of set home.position) home.slot)
far_gives_up s t far h len v words home c x = record {
  was = x.lies.there;
  inside = inside;
  rest = rest_without content home.slot live
      (live ∙ named_live content.slots home.slot h named);
  others = λ j off. left_others far.sets home.set j (set_without c home) off;
  after = left_over far (without_far far h home c) home.set 0 (set_without c home) refl
      (ap (λ (n : ℕ). nodes_left (record far.nodes { given = n }) (set_without c home))
      (let e : far.nodes.given ≡ far.nodes.given + 0 = omega arith in e)) refl
      (shards_there s far home.set c sound x.lies.there);
  nodes = left_count far.nodes (set_without c home);
  room = room_left far.nodes (set_without c home);
  members = refl;
  leaving = refl;
  joining = refl;
  counts = refl;
  batch = λ b at. ap (λ (m : List ℕ). batch_rows (record s { memory = m }) b) x.memory;
  each = λ k. elim (cases_eq k h) [
    | inl same ↦ inr (subst (IsGivenUp t (without_far far h home c) c home.position left)
        (sym same) (record {
          slot = home.slot;
          named = named;
          gone = λ slot e. gone slot e;
          home = get_or-set_same far.homes h None None within;
          near = λ away. subst is_far (mine s t far h len v words home c x) away;
        }))
    | inr off ↦ inl (record {
      object = other_object s t far h len v words home c x k off;
      home = get_or-set_other far.homes h k None None off;
      stays = λ slot e. left_without content home.slot slot k (λ same. off (name_same k h
          (sym (subst (λ (i : ℕ). get_or content.slots i None ≡ Some k) same e) ∙ named))) e;
    })
  ];
}
  where
    sound : AwaySound s far
    sound = x.sound.away.sound

    content : PositionState
    content = position_of c home.position

    left : PositionState
    left = without_object content home.slot

    named : get_or content.slots home.slot None ≡ Some h
    named = home_names s far h home c sound x.lies

    inside : home.position < length c.positions
    inside = home_within s far h home c sound x.lies

    live : content.live ≡ list_any (λ o. is_some o) content.slots
    live = sound.sets.live home.set home.position c x.lies.there

    within : h < length far.homes
    within = elim (cases_lt h (length far.homes)) [
      | inl below ↦ below
      | inr past ↦ absurd (none_some (home_at far.homes h) home
          (get_or_past far.homes h None past) x.lies.at)
    ]

    gone : (slot : ℕ) → get_or left.slots slot None ≡ Some h → ⊥
    gone slot e =
        let rest = rest_without content home.slot live
        (live ∙ named_live content.slots home.slot h named) in
        let was = rest.named slot h e in
        let here : slot ≡ home.slot = ap (λ (k : Home). k.slot) (home_same
        (record { set = home.set; position = home.position; slot = slot }) home
        (sym (sound.away.named home.set home.position slot h c x.lies.there was) ∙ x.lies.at)) in
        gone_without content home.slot h (named_within content.slots home.slot h named)
        (subst (λ (i : ℕ). get_or left.slots i None ≡ Some h) here e)

-- the world stays sound where a far object is freed and taken out of its set
pub sound_far_gone : (s t : Shown) (far : FarState) (h len v : ℕ) (words : List ℕ) (home : Home)
    (set : SetState) → IsFarFreed s t far h len v words home set
    → Sound t (without_far far h home set)
sound_far_gone s t far h len v words home c x = record {
  here = freed_here s t far h len v words home c x;
  noted = freed_noted s t far h len v words home c x;
  claimed = freed_claimed s t far h len v words home c x;
  away = given_whole s t far (without_far far h home c) home.set c home.position
      (without_object (position_of c home.position) home.slot) x.sound.away
      (far_gives_up s t far h len v words home c x);
}
