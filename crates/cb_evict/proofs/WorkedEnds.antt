-- Worked examples of the two ends of a leaving batch: values that meet a definition, and for each
-- of its parts one that breaks that part alone.
use Rattle.std.proofs.Common.{◌≡◌, ℕ, zero, suc, ◌+◌, ◌*◌, ◌≤◌, true, false, List, [], ◌∷◌, length, Option, None, Some, refl, sym, ap, ◌∙◌, subst, lit<, lit≤, arith}
use Rattle.std.specs.FinMap as map
use Rattle.std.proofs.lemmas.List.Elements.{All-nil, All-cons}
use Rattle.cb_member.specs.declared.names.Shard.{Shard}
use Rattle.cb_node.specs.NodesState.{with_row}
use Rattle.cb_ptr.specs.Steps.{IsFarWord}
use Rattle.cb_ptr.specs.Word.{len_of}
use Rattle.cb_ptr.proofs.Laws.{far_word_is}
use Rattle.cb_types.specs.declared.config.Config.{Config}
use Rattle.cb_types.specs.declared.reply.Reply.{Reply}
use Rattle.cb_types.specs.declared.reply.Reply.TheVariants as answer
use Rattle.cb_world.specs.declared.leaving.Former.{Former}
use Rattle.cb_world.specs.declared.object.Object.{Object}
use Rattle.cb_world.specs.declared.object.Object.TheVariants as is
use Rattle.cb_world.specs.declared.shown.Shown.{Shown}
use Rattle.cb_world.specs.Shown.{object_at, hot_at, never}
use Rattle.cb_world.specs.FarState.{FarState}
use Rattle.cb_world.specs.Leaving.{LeavingState}
use Rattle.cb_world.specs.Memory.{window}
use Rattle.cb_world.specs.Plain.{Words}
use Rattle.cb_world.specs.Reserved.{set_from, without_batch}
use Rattle.cb_world.specs.Sets.{Kept, SetMap}
use Rattle.cb_world.specs.World.{word_at}
use Rattle.cb_evict.specs.AbortRule.{HasNoBatch, HasGivenUp}
use Rattle.cb_evict.specs.AbortStep.{ArePutBack, IsAbortStep, no_batch, given_up}
use Rattle.cb_evict.specs.Claims.{IsNone}
use Rattle.cb_evict.specs.Closing.{with_homes}
use Rattle.cb_evict.specs.CommitRule.{HasShort, HasCommitted, with_committed}
use Rattle.cb_evict.specs.CommitStep.{ArePutAway, IsCommitStep, short, committed}
use Rattle.cb_evict.specs.Committing.{AreAllPut, HasPlaces, with_shards}
use Rattle.cb_evict.specs.Restoring.{IsClaimedFrom, IsHereAt, AreRestored}
use Rattle.cb_evict.specs.Waiting.{waiting}
use Rattle.cb_evict.proofs.NamesShards.{insert_here}
use Rattle.cb_evict.proofs.Options.{some_none, some_same}
use Rattle.cb_evict.proofs.SmallWorlds.{away, calm, desk, homed, homes, moving, pair, pinned, settings, shard, shards}

-- ---- the words: object 0 leaves, and object 1 is pinned
abbrev pub noted : List Former
noted = record { handle = 0; word = calm } ∷ []

abbrev before : Words
before = desk (moving ∷ pinned ∷ [])

abbrev back : Words
back = desk (calm ∷ pinned ∷ [])

abbrev gone : Words
gone = desk (away ∷ pinned ∷ [])

no_other : (P : ℕ → Type 0) → P 1 → ((h : ℕ) → P (suc (suc h))) → (h : ℕ) → IsNone noted h → P h
no_other P one more zero none = absurd (none 0 (record { handle = 0; word = 0 }) (lit< tt) refl)
no_other P one more (suc zero) none = one
no_other P one more (suc (suc h)) none = more h

second : IsNone noted 1
second = All-cons (λ (f : Former). f.handle ≡ 1 → ⊥) (record { handle = 0; word = calm }) []
    (λ e. omega (arith, e)) (All-nil (λ (f : Former). f.handle ≡ 1 → ⊥))

are_put_back : ArePutBack before back noted
are_put_back = record {
  changed = All-cons (λ (f : Former). word_at back f.handle ≡ f.word) (record { handle = 0; word = calm })
      [] refl (All-nil (λ (f : Former). word_at back f.handle ≡ f.word));
  others = no_other (λ h. word_at back h ≡ word_at before h) refl (λ h. refl);
  count = refl;
  settings = refl;
  versions = refl;
  memory = refl;
}

first : (y : Words) → ArePutBack before y noted → word_at y 0 ≡ calm
first y a = a.changed 0 (record { handle = 0; word = calm }) (lit< tt)

moves_still : ¬ (ArePutBack before before noted)
moves_still a = absurd (let e : moving ≡ calm = first before a in omega (arith, e))

back_hot : ¬ (ArePutBack before (desk (65542 ∷ pinned ∷ [])) noted)
back_hot a = absurd (let e : 65542 ≡ calm = first (desk (65542 ∷ pinned ∷ [])) a in omega (arith, e))

unpins : ¬ (ArePutBack before (desk (calm ∷ calm ∷ [])) noted)
unpins a = absurd (let e : calm ≡ pinned = a.others 1 second in omega (arith, e))

adds_a_word : ¬ (ArePutBack before (desk (calm ∷ pinned ∷ 0 ∷ [])) noted)
adds_a_word a = absurd (let e : 3 ≡ 2 = a.count in omega (arith, e))

back_configured : ¬ (ArePutBack before (record back { settings = record settings { k = 2 } }) noted)
back_configured a = absurd (let e : 2 ≡ 1 = ap (λ (c : Config). c.k) a.settings in omega (arith, e))

back_stamped : ¬ (ArePutBack before (record back { versions = [] }) noted)
back_stamped a = absurd (let e : 0 ≡ 4 = ap (λ (l : List ℕ). length l) a.versions in omega (arith, e))

back_stored : ¬ (ArePutBack before (record back { memory = [] }) noted)
back_stored a = absurd (let e : 0 ≡ 2 = ap (λ (l : List ℕ). length l) a.memory in omega (arith, e))

are_put_away : ArePutAway before gone noted
are_put_away = record {
  changed = All-cons (λ (f : Former). IsFarWord (len_of f.word) (word_at gone f.handle))
      (record { handle = 0; word = calm }) [] (far_word_is 8 away (lit< tt) refl)
      (All-nil (λ (f : Former). IsFarWord (len_of f.word) (word_at gone f.handle)));
  others = no_other (λ h. word_at gone h ≡ word_at before h) refl (λ h. refl);
  count = refl;
  settings = refl;
  versions = refl;
  memory = refl;
}

far_number : (y : Words) → ArePutAway before y noted → word_at y 0 ≡ 1 + 8 * 8192
far_number y a = (a.changed 0 (record { handle = 0; word = calm }) (lit< tt)).number

not_away : ¬ (ArePutAway before before noted)
not_away a = absurd (let e : moving ≡ 1 + 8 * 8192 = far_number before a in omega (arith, e))

away_longer : ¬ (ArePutAway before (desk (73729 ∷ pinned ∷ [])) noted)
away_longer a = absurd (let e : 73729 ≡ 1 + 8 * 8192 = far_number (desk (73729 ∷ pinned ∷ [])) a in
    omega (arith, e))

away_unpins : ¬ (ArePutAway before (desk (away ∷ calm ∷ [])) noted)
away_unpins a = absurd (let e : calm ≡ pinned = a.others 1 second in omega (arith, e))

away_adds : ¬ (ArePutAway before (desk (away ∷ pinned ∷ 0 ∷ [])) noted)
away_adds a = absurd (let e : 3 ≡ 2 = a.count in omega (arith, e))

away_configured : ¬ (ArePutAway before (record gone { settings = record settings { k = 2 } }) noted)
away_configured a = absurd (let e : 2 ≡ 1 = ap (λ (c : Config). c.k) a.settings in omega (arith, e))

away_stamped : ¬ (ArePutAway before (record gone { versions = [] }) noted)
away_stamped a = absurd (let e : 0 ≡ 4 = ap (λ (l : List ℕ). length l) a.versions in omega (arith, e))

away_stored : ¬ (ArePutAway before (record gone { memory = [] }) noted)
away_stored a = absurd (let e : 0 ≡ 2 = ap (λ (l : List ℕ). length l) a.memory in omega (arith, e))

-- ---- what is known: object 0 is claimed at a hot word, and object 1 is here
abbrev pub hot : Former
hot = record { handle = 0; word = 65542 }

abbrev pub claimed : Shown
claimed = record {
  first = 1;
  objects = is.Claimed 8 0 3 (5 ∷ []) ∷ is.Here 8 1 ∷ [];
  hots = false ∷ true ∷ [];
  versions = 3 ∷ 4 ∷ [];
  memory = 5 ∷ 7 ∷ [];
}

abbrev pub restored : Shown
restored = record claimed { objects = is.Here 8 0 ∷ is.Here 8 1 ∷ []; hots = true ∷ true ∷ [] }

is_claimed : IsClaimedFrom claimed hot
unfolding window
is_claimed = record {
  version = 3;
  words = 5 ∷ [];
  object = refl;
  free = (refl, refl);
  below = lit< tt;
  contents = refl;
  handle = lit< tt;
  warm = lit< tt;
}

not_claimed : ¬ (IsClaimedFrom restored hot)
not_claimed x = absurd (here_claimed x.version x.words x.object)
  where
    here_claimed : (v : ℕ) (words : List ℕ) → is.Here 8 0 ≡ is.Claimed 8 0 v words → ⊥
    here_claimed v words e = cc

not_free : ¬ (IsClaimedFrom claimed (record { handle = 0; word = pinned }))
not_free x = absurd (let e : 1 ≡ 0 = x.free.1 in omega (arith, e))

other_words : ¬ (IsClaimedFrom (record claimed { memory = 6 ∷ 7 ∷ [] }) hot)
unfolding window
other_words x =
    let e : 5 ∷ [] ≡ x.words = ap words_of x.object in
    absurd (let n : 6 ≡ 5 = ap first_of (x.contents ∙ sym e) in omega (arith, n))
  where
    words_of : Object → List ℕ
    words_of (is.Empty v) = []
    words_of (is.Far len v words) = []
    words_of (is.Here len place) = []
    words_of (is.Claimed len place v words) = words

    first_of : List ℕ → ℕ
    first_of [] = 0
    first_of (x ∷ xs) = x

unknown_heat : ¬ (IsClaimedFrom (record claimed { hots = [] }) hot)
unknown_heat x = absurd (omega (arith, x.warm))

pub none_of_one : (P : ℕ → Type 0) → ((h : ℕ) → P (suc h)) → (h : ℕ) → IsNone (hot ∷ []) h → P h
none_of_one P more zero none = absurd (none 0 hot (lit< tt) refl)
none_of_one P more (suc h) none = more h

the_second : IsNone (hot ∷ []) 1
the_second = All-cons (λ (f : Former). f.handle ≡ 1 → ⊥) hot [] (λ e. omega (arith, e))
    (All-nil (λ (f : Former). f.handle ≡ 1 → ⊥))

pub are_restored : AreRestored claimed restored (hot ∷ [])
are_restored = record {
  changed = All-cons (IsHereAt restored) hot [] (record { object = refl; hot = refl })
      (All-nil (IsHereAt restored));
  others = none_of_one (λ h. object_at restored h ≡ object_at claimed h) (λ h. refl);
  hots = none_of_one (λ h. hot_at restored h ≡ hot_at claimed h) (λ h. refl);
  objects = refl;
  heat = refl;
  versions = refl;
  memory = refl;
  first = refl;
}

cooled : ¬ (AreRestored claimed (record restored { hots = false ∷ true ∷ [] }) (hot ∷ []))
cooled x = absurd (let e : false ≡ true = (x.changed 0 hot (lit< tt)).hot in cc)

elsewhere : ¬ (AreRestored claimed (record restored { objects = is.Here 8 1 ∷ is.Here 8 1 ∷ [] }) (hot ∷ []))
elsewhere x = absurd (let e : is.Here 8 1 ≡ is.Here 8 0 = (x.changed 0 hot (lit< tt)).object in
    let n : 1 ≡ 0 = ap place e in omega (arith, n))
  where
    place : Object → ℕ
    place (is.Empty v) = 0
    place (is.Far len v words) = 0
    place (is.Here len p) = p
    place (is.Claimed len p v words) = p

moves_another : ¬ (AreRestored claimed (record restored { objects = is.Here 8 0 ∷ is.Empty 4 ∷ [] }) (hot ∷ []))
moves_another x = absurd (empty_here (x.others 1 the_second))
  where
    empty_here : is.Empty 4 ≡ is.Here 8 1 → ⊥
    empty_here e = cc

cools_another : ¬ (AreRestored claimed (record restored { hots = true ∷ false ∷ [] }) (hot ∷ []))
cools_another x = absurd (let e : false ≡ true = x.hots 1 the_second in cc)

writes_a_version : ¬ (AreRestored claimed (record restored { versions = 4 ∷ 4 ∷ [] }) (hot ∷ []))
writes_a_version x = absurd (let e : 4 ≡ 3 = ap first_of x.versions in omega (arith, e))
  where
    first_of : List ℕ → ℕ
    first_of [] = 0
    first_of (n ∷ ns) = n

adds_an_object : ¬ (AreRestored claimed (record restored { objects = is.Here 8 0 ∷ is.Here 8 1 ∷ never ∷ [] })
    (hot ∷ []))
adds_an_object x = absurd (let e : 3 ≡ 2 = x.objects in omega (arith, e))

adds_heat : ¬ (AreRestored claimed (record restored { hots = true ∷ true ∷ false ∷ [] }) (hot ∷ []))
adds_heat x = absurd (let e : 3 ≡ 2 = x.heat in omega (arith, e))

loses_words : ¬ (AreRestored claimed (record restored { memory = [] }) (hot ∷ []))
loses_words x = absurd (let e : 0 ≡ 2 = ap (λ (l : List ℕ). length l) x.memory in omega (arith, e))

makes_one : ¬ (AreRestored claimed (record restored { first = 2 }) (hot ∷ []))
makes_one x = absurd (let e : 2 ≡ 1 = x.first in omega (arith, e))

-- ---- the far state: a batch of the first span is leaving
abbrev pub batch : List (Option Shard) → LeavingState
batch shards = record {
  set = 0;
  pages = 1;
  frames = 0 ∷ [];
  words = noted;
  made = true;
  parities = [] ∷ [];
  shards = shards;
}

abbrev kept_set : Kept
kept_set = record {
  set = set_from 0 1 (shard 0 ∷ shard 0 ∷ []) pair.spans (0 ∷ []);
  committed = false;
}

abbrev pub leaving : List (Option Shard) → FarState
leaving shards = record pair {
  sets = map.insert map.empty 0 kept_set;
  nodes = with_row pair.nodes (shard 0).node 0 (1 ∷ []);
  leaving = Some (batch shards);
}

abbrev pub one_put : List (Option Shard)
one_put = Some (shard 0) ∷ None ∷ []

abbrev pub both_put : List (Option Shard)
both_put = Some (shard 0) ∷ Some (shard 1) ∷ []

not_leaving : HasNoBatch pair pair answer.NoBatch
not_leaving = record { none = refl; reply = refl; state = refl }

leaves_one : ¬ (HasNoBatch (leaving one_put) (leaving one_put) answer.NoBatch)
leaves_one x = absurd (some_none (batch one_put) x.none)

answers_done : ¬ (HasNoBatch pair pair answer.Done)
answers_done x = absurd (done_none x.reply)
  where
    done_none : answer.Done ≡ answer.NoBatch → ⊥
    done_none e = cc

changes_the_state : ¬ (HasNoBatch pair (record pair { made = 5 }) answer.NoBatch)
changes_the_state x = absurd (let e : 5 ≡ 4 = ap (λ (f : FarState). f.made) x.state in omega (arith, e))

pub is_given_up : HasGivenUp (leaving one_put) (without_batch (leaving one_put) (batch one_put)) answer.Done
is_given_up = record { batch = batch one_put; there = refl; reply = refl; state = refl }

gives_none_up : ¬ (HasGivenUp pair pair answer.Done)
gives_none_up x = absurd (some_none x.batch (sym x.there))

answers_no_batch : ¬ (HasGivenUp (leaving one_put) (without_batch (leaving one_put) (batch one_put)) answer.NoBatch)
answers_no_batch x = absurd (let e : answer.NoBatch ≡ answer.Done = x.reply in cc)

stays_leaving : ¬ (HasGivenUp (leaving one_put) (leaving one_put) answer.Done)
stays_leaving x = absurd (some_none (batch one_put) (ap (λ (f : FarState). f.leaving) x.state))

abort_refused : IsAbortStep back back pair pair answer.NoBatch
abort_refused = no_batch not_leaving refl

abort_done : IsAbortStep before back (leaving one_put) (without_batch (leaving one_put) (batch one_put)) answer.Done
unfolding is_given_up
abort_done = given_up is_given_up are_put_back

-- ---- a commit
one_waits : waiting pair.members one_put ≡ 1 ∷ []
one_waits = refl

none_waits : waiting pair.members both_put ≡ []
none_waits = refl

is_short : HasShort (leaving one_put) (leaving one_put) (answer.Short (1 ∷ []))
is_short = record { batch = batch one_put; there = refl; some = lit≤ tt; reply = refl; state = refl }

waits_no_more : ¬ (HasShort (leaving both_put) (leaving both_put) (answer.Short []))
waits_no_more x =
    let e : batch both_put ≡ x.batch = some_same (batch both_put) x.batch x.there in
    absurd (let l = subst (λ (b : LeavingState). 1 ≤ length (waiting pair.members b.shards)) (sym e) x.some in
    omega (arith, l))

abbrev positions_of : Reply → ℕ
positions_of (answer.Short positions) = length positions
positions_of reply = 9

tells_none : ¬ (HasShort (leaving one_put) (leaving one_put) (answer.Short []))
tells_none x =
    let e : batch one_put ≡ x.batch = some_same (batch one_put) x.batch x.there in
    absurd (let n : 0 ≡ 1 = ap positions_of (x.reply
    ∙ ap (λ (b : LeavingState). answer.Short (waiting pair.members b.shards)) (sym e)) in omega (arith, n))

short_drops_it : ¬ (HasShort (leaving one_put) (record (leaving one_put) { leaving = None }) (answer.Short (1 ∷ [])))
short_drops_it x = absurd (some_none (batch one_put) (sym (ap (λ (f : FarState). f.leaving) x.state)))

abbrev then : FarState
then = with_homes (with_committed (leaving both_put) (batch both_put)) (0 ∷ []) homes

pub is_committed : HasCommitted (leaving both_put) then (answer.Set (record { n = 0 }))
is_committed = record {
  batch = batch both_put;
  there = refl;
  whole = refl;
  reply = refl;
  homes = homed;
  state = refl;
}

commit_short : IsCommitStep before before (leaving one_put) (leaving one_put) (answer.Short (1 ∷ []))
commit_short = short is_short refl

commit_done : IsCommitStep before gone (leaving both_put) then (answer.Set (record { n = 0 }))
unfolding is_committed
commit_done = committed is_committed are_put_away

commits_none : ¬ (HasCommitted pair pair (answer.Set (record { n = 0 })))
commits_none x = absurd (some_none x.batch (sym x.there))

-- a row is missing
commits_early : ¬ (HasCommitted (leaving one_put) (with_homes (with_committed (leaving one_put) (batch one_put)) (0 ∷ []) homes) (answer.Set (record { n = 0 })))
commits_early x =
    let e : batch one_put ≡ x.batch = some_same (batch one_put) x.batch x.there in
    absurd (let n : 1 ≡ 0 = ap (λ (b : LeavingState). length (waiting pair.members b.shards)) e
    ∙ ap (λ (l : List ℕ). length l) x.whole in omega (arith, n))

leaves_on : ¬ (HasCommitted (leaving both_put) (record then { leaving = Some (batch both_put) }) (answer.Set (record { n = 0 })))
leaves_on x = absurd (some_none (batch both_put) (ap (λ (f : FarState). f.leaving) x.state))

-- ---- the set of a batch
all_put : AreAllPut both_put
all_put zero less = (shard 0, refl)
all_put (suc zero) less = (shard 1, refl)
all_put (suc (suc p)) less = absurd (omega (arith, less))

not_all_put : ¬ (AreAllPut one_put)
not_all_put x = absurd (let y = x 1 (lit< tt) in some_none y.0 (sym y.1))

named : with_shards kept_set shards ≡ record {
  set = set_from 0 1 shards pair.spans (0 ∷ []);
  committed = false;
}
named = refl

has_places : HasPlaces (leaving both_put).sets 0 both_put
has_places = record {
  kept = kept_set;
  there = insert_here map.empty 0 kept_set;
  places = refl;
}

place_too_many : ¬ (HasPlaces (leaving both_put).sets 0 (None ∷ []))
place_too_many x =
    let e : kept_set ≡ x.kept = some_same kept_set x.kept
    (sym (insert_here map.empty 0 kept_set) ∙ x.there) in
    absurd (let n : 2 ≡ 1 = ap (λ (k : Kept). length k.set.shards) e ∙ x.places in omega (arith, n))

none_kept : ¬ (HasPlaces map.empty 0 both_put)
none_kept x = absurd (some_none x.kept (sym x.there ∙ nothing map.empty 0 refl))
  where
    nothing : (sets : SetMap) (id : ℕ) → sets ≡ map.empty → map.get sets id ≡ None
    nothing sets id e = grind (arith, map.gets, e)
