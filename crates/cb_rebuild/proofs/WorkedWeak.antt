-- Worked examples of which set is rebuilt: one that is, and for each part of a definition one that
-- breaks that part alone.
use Rattle.std.specs.Prelude.{None}
use Rattle.std.proofs.Common.{◌≡◌, ℕ, zero, suc, ◌<◌, ◌≤◌, true, false, [], ◌∷◌, None, Some, get_or, nat_lt, ◌&&◌, Bool, cond, refl, sym, ap, ◌∙◌, subst, arith, lit<, lit≤}
use Rattle.std.specs.FinMap as map
use Rattle.std.specs.Cmp.{nat_cmp_total}
use Rattle.std.specs.Ordering.{nat_cmp, eq_by_cmp}
use Rattle.std.proofs.lemmas.Bool.Decides.{nat_tests}
use Rattle.std.proofs.lemmas.Bool.{false≢true, ltb-true}
use Rattle.std.proofs.lemmas.Option.{none-some, same_Some}
use Rattle.cb_member.specs.declared.names.NodeId.{NodeId}
use Rattle.cb_member.specs.Membership.{alive}
use Rattle.cb_node.specs.NodesState.{empty_nodes, held}
use Rattle.cb_set.specs.SetState.{SetState}
use Rattle.cb_set.specs.Nodes.{other_shards}
use Rattle.cb_types.specs.declared.reply.Reply.{Reply}
use Rattle.cb_types.specs.declared.reply.Reply.TheVariants as answer
use Rattle.cb_world.specs.Choices.{MayPut}
use Rattle.cb_world.specs.Sets.{Kept, SetMap, if_committed, set_in}
use Rattle.cb_world.specs.FarState.{FarState}
use Rattle.cb_world.specs.Surveyed.{gone_below}
use Rattle.cb_world.specs.Survey.{no_survey}
use Rattle.cb_world.specs.SetWord.{IsWeak}
use Rattle.cb_world.proofs.Laws.{at, node}
use Rattle.cb_rebuild.specs.declared.finding.Found.TheVariants as found
use Rattle.cb_rebuild.specs.declared.finding.Health.TheVariants as health
use Rattle.cb_rebuild.specs.RebuildStep.{FindsNone, IsFirstWeak, IsStuck, gone_count, surveyed}
use Rattle.cb_rebuild.specs.Finding.{FindsWeak, HasHealth, HealthAt, gone_number}
use Rattle.cb_rebuild.proofs.WorkedWord.{members, on}

-- a whole set, two that are weak, and one that is gone: it lost two shards, and has one parity
abbrev pub whole : SetState
whole = on 0 3 4

abbrev pub weak : SetState
weak = on 0 3 1

abbrev other_weak : SetState
other_weak = on 0 2 3

abbrev pub gone : SetState
gone = on 1 2 3

pub weak_is : IsWeak members weak
weak_is = record { some_lost = lit≤ tt; few_lost = lit≤ tt }

other_weak_is : IsWeak members other_weak
other_weak_is = record { some_lost = lit≤ tt; few_lost = lit≤ tt }

pub whole_is_not_weak : IsWeak members whole → ⊥
whole_is_not_weak x = let e : 1 ≤ 0 = x.some_lost in omega (arith, e)

pub gone_is_not_weak : IsWeak members gone → ⊥
gone_is_not_weak x = let e : 2 ≤ 1 = x.few_lost in omega (arith, e)

-- ---- the first one
abbrev pub one : ℕ → SetState → SetMap
one id set = map.insert map.empty id (record { set = set; committed = true })

abbrev pub both : SetState → SetState → SetMap
both a b = map.insert (one 0 a) 1 (record { set = b; committed = true })

abbrev pub far : SetMap → ℕ → FarState
far sets room = record {
  first = 1;
  made = 2;
  frames = [];
  spans = [];
  sets = sets;
  homes = [];
  nodes = empty_nodes 6 room;
  members = members;
  code = record { k = 2; r = 1 };
  leaving = None;
  joining = None;
  counts = record { turns = 0; by_job = []; sets = 3; keys = 10 };
  survey = no_survey;
}

pub second_of : (a b : SetState) → set_in (both a b) 1 ≡ Some b
second_of a b = grind (arith, map.gets)

pub first_of : (a b : SetState) → set_in (both a b) 0 ≡ Some a
first_of a b = grind (arith, map.gets)

none_third : (a b : SetState) → set_in (both a b) 2 ≡ None
none_third a b = grind (arith, map.gets)

pub none_else : (a : SetState) (j : ℕ) → set_in (one 0 a) (suc j) ≡ None
none_else a j = ap if_committed (map.get-insert nat_cmp_total none 0 kept (suc j)
    ∙ ap (λ (b : Bool). cond b (Some kept) (map.get none (suc j))) (other j)
    ∙ map.get-empty nat_cmp (suc j))
  where
    kept : Kept
    kept = record { set = a; committed = true }

    none : SetMap
    none = map.empty

    other : (j : ℕ) → eq_by_cmp nat_cmp (suc j) 0 ≡ false
    other j = grind (arith, nat_tests)

pub only_of : (a : SetState) → set_in (one 0 a) 0 ≡ Some a
only_of a = grind (arith, map.gets)

below_one : (P : ℕ → Type 0) → P 0 → (j : ℕ) → j < 1 → P j
below_one P p zero l = p
below_one P p (suc j) l = absurd (omega (arith, l))

pub first_weak : IsFirstWeak (far (both whole weak) 2) 1 weak
first_weak = record {
  there = second_of whole weak;
  weak = weak_is;
  least = λ j c l at. below_one (λ j. set_in (both whole weak) j ≡ Some c → IsWeak members c → ⊥)
      (λ at x. whole_is_not_weak (subst (IsWeak members)
      (same_Some c whole (sym at ∙ first_of whole weak)) x)) j l at;
}

-- the number of the node of the second shard
abbrev second_node : SetState → ℕ
second_node s = (get_or s.shards 1 (at 0 0)).node.n

not_that_set : IsFirstWeak (far (both whole weak) 2) 1 other_weak → ⊥
not_that_set x = let e : 2 ≡ 3 = ap second_node (same_Some other_weak weak (sym x.there
    ∙ second_of whole weak)) in omega (arith, e)

not_a_whole_one : IsFirstWeak (far (both whole weak) 2) 0 whole → ⊥
not_a_whole_one x = whole_is_not_weak x.weak

not_the_second : IsFirstWeak (far (both other_weak weak) 2) 1 weak → ⊥
not_the_second x = x.least 0 other_weak (lit< tt) (first_of other_weak weak) other_weak_is

-- ---- how many are gone: committed sets alone, and one that is weak is not
one_gone : gone_count (far (both weak gone) 2) ≡ 1
one_gone = grind (arith, first_of weak gone, second_of weak gone, none_third weak gone)

two_gone : gone_count (far (both gone gone) 2) ≡ 2
two_gone = grind (arith, first_of gone gone, second_of gone gone, none_third gone gone)

-- ---- none is weak
abbrev lone : FarState
lone = far (one 0 gone) 2

none_weak : (id : ℕ) (c : SetState) → set_in (one 0 gone) id ≡ Some c → IsWeak members c → ⊥
none_weak zero c at x = gone_is_not_weak (subst (IsWeak members)
    (same_Some c gone (sym at ∙ only_of gone)) x)
none_weak (suc j) c at x = none-some c (sym (none_else gone j) ∙ at)

lone_count : gone_count lone ≡ 1
lone_count = grind (arith, only_of gone, none_else gone 0, none_else gone 1)

finds_none : FindsNone lone (surveyed lone 3) (answer.Whole 1)
finds_none = record {
  none = none_weak;
  reply = ap (λ (n : ℕ). answer.Whole n) (sym lone_count);
  state = refl;
}

-- the number in a reply
abbrev number_in : Reply → ℕ
number_in (answer.Whole n) = n
number_in (answer.Stuck set) = set.n
number_in _ = 0

tells_none_gone : FindsNone lone (surveyed lone 3) (answer.Whole 0) → ⊥
tells_none_gone x = let e : 0 ≡ gone_count lone = ap number_in x.reply in
    let n = lone_count in omega (arith, e, n)

changes_a_count : FindsNone lone (record (surveyed lone 3) { made = 3 }) (answer.Whole 1) → ⊥
changes_a_count x = let e : 3 ≡ 2 = ap (λ (f : FarState). f.made) x.state in omega (arith, e)

-- what was found is kept
forgets_what_it_found : FindsNone lone lone (answer.Whole 1) → ⊥
forgets_what_it_found x =
    let e : 0 ≡ 3 = ap (λ (f : FarState). f.survey.below) x.state in omega (arith, e)

keeps_too_few_gone : FindsNone lone (record lone { survey = record { below = 3; gone = 0; no_pair = None } })
    (answer.Whole 1) → ⊥
keeps_too_few_gone x = let e : 0 ≡ gone_count lone = ap (λ (f : FarState). f.survey.gone) x.state in
    let n = lone_count in omega (arith, e, n)

surveyed_so : (surveyed lone 1).survey ≡ record { below = 1; gone = 1; no_pair = None }
surveyed_so = ap (λ (n : ℕ). record { below = 1; gone = n; no_pair = None })
    (let e : gone_below lone 1 ≡ 1 = grind (arith, only_of gone) in e)

abbrev pub lone_weak : FarState
lone_weak = far (one 0 weak) 2

passes_a_weak_one_over : FindsNone lone_weak (surveyed lone_weak 3) (answer.Whole 0) → ⊥
passes_a_weak_one_over x = x.none 0 weak (only_of weak) weak_is

-- ---- no node is spare: none has room
abbrev full : FarState
full = far (one 0 weak) 0

none_spare : (n : NodeId) → MayPut full.nodes members (other_shards weak.shards 2) n → ⊥
none_spare n may = let l = ltb-true (held full.nodes n) 0
    (second (alive members n) (nat_lt (held full.nodes n) 0) may.room) in omega (arith, l)
  where
    second : (a b : Bool) → a && b ≡ true → b ≡ true
    second true true e = refl
    second true false e = e
    second false b e = absurd (false≢true e)

is_stuck : IsStuck full 0 weak full (answer.Stuck (record { n = 0 }))
is_stuck = record { position = 2; lost = refl; none = none_spare; reply = refl; same = refl }

nothing_lost : IsStuck full 0 whole full (answer.Stuck (record { n = 0 })) → ⊥
nothing_lost x = none-some x.position x.lost

a_node_is_spare : IsStuck lone_weak 0 weak lone_weak (answer.Stuck (record { n = 0 })) → ⊥
a_node_is_spare x = x.none (node 4) (subst (λ (p : ℕ).
    MayPut lone_weak.nodes members (other_shards weak.shards p) (node 4))
    (same_Some 2 x.position x.lost) may)
  where
    none_held : held lone_weak.nodes (node 4) ≡ 0
    none_held = grind (arith, map.gets)

    may : MayPut lone_weak.nodes members (other_shards weak.shards 2) (node 4)
    may = record {
      within = lit< tt;
      room = ap (λ (n : ℕ). nat_lt n 2) none_held;
      spare = refl;
    }

tells_another_set : IsStuck full 0 weak full (answer.Stuck (record { n = 1 })) → ⊥
tells_another_set x = let e : 1 ≡ 0 = ap number_in x.reply in omega (arith, e)

gives_a_row : IsStuck full 0 weak (record full { made = 3 }) (answer.Stuck (record { n = 0 })) → ⊥
gives_a_row x = let e : 3 ≡ 2 = ap (λ (f : FarState). f.made) x.same in omega (arith, e)

-- ---- how sets stand
whole_stands : HasHealth members whole health.Whole
whole_stands = refl

weak_stands : HasHealth members weak health.Weak
weak_stands = weak_is

gone_stands : HasHealth members gone health.Gone
gone_stands = refl

weak_is_not_whole : HasHealth members weak health.Whole → ⊥
weak_is_not_whole x = let e : 1 ≡ 0 = x in omega (arith, e)

weak_is_not_gone : HasHealth members weak health.Gone → ⊥
weak_is_not_gone x = false≢true x

no_set_lost_nothing : HealthAt members None health.Whole
no_set_lost_nothing = refl

no_set_is_not_gone : HealthAt members None health.Gone → ⊥
no_set_is_not_gone x = cc

a_set_stands : HealthAt members (Some weak) health.Weak
a_set_stands = weak_is

numbers : gone_number health.Whole ∷ gone_number health.Weak ∷ gone_number health.Gone ∷ [] ≡ 0 ∷ 0 ∷ 1 ∷ []
numbers = refl

-- ---- what a walk finds
none_before : gone_below (far (both whole weak) 2) 1 ≡ 0
none_before = grind (arith, first_of whole weak)

finds_weak : FindsWeak (far (both whole weak) 2) (found.Weak 1 0)
finds_weak = ((weak, first_weak), sym none_before)

finds_whole_in_place : FindsWeak (far (both whole weak) 2) (found.Weak 0 0) → ⊥
finds_whole_in_place x = whole_is_not_weak (subst (IsWeak members)
    (same_Some x.0.0 whole (sym x.0.1.there ∙ first_of whole weak)) x.0.1.weak)

finds_one_gone_before : FindsWeak (far (both whole weak) 2) (found.Weak 1 1) → ⊥
finds_one_gone_before x = let e = x.1 in let n = none_before in omega (arith, e, n)

finds_gone : FindsWeak lone (found.Whole 1)
finds_gone = (none_weak, sym lone_count)

finds_none_gone : FindsWeak lone (found.Whole 0) → ⊥
finds_none_gone x = let e = x.1 in let n = lone_count in omega (arith, e, n)

finds_no_weak : FindsWeak lone_weak (found.Whole 0) → ⊥
finds_no_weak x = x.0 0 weak (only_of weak) weak_is
