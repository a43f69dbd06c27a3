-- Worked examples of a swap-in: what it is answered, and the far state after it, with what breaks
-- one part of that alone.
use Rattle.std.proofs.Common.{◌≡◌, ℕ, zero, suc, Bool, true, false, ◌≤◌, List, [], ◌∷◌, Option, None, Some, length, get_or, refl, sym, ap, ◌∙◌, arith}
use Rattle.std.specs.FinMap as map
use Rattle.std.proofs.lemmas.Option.{none-some, same_Some}
use Rattle.cb_class.specs.declared.class.Class.{Class}
use Rattle.cb_class.specs.Class.{bytes_of, pages_of, slots_of}
use Rattle.cb_member.specs.declared.names.Loss.{Loss}
use Rattle.cb_member.specs.Membership.{Membership}
use Rattle.cb_node.specs.NodesState.{NodesState, empty_nodes}
use Rattle.cb_set.specs.SetState.{SetState, PositionState, dead_position, filled_position, set_of}
use Rattle.cb_span.specs.declared.temp.Temp.{Temp}
use Rattle.cb_span.specs.declared.temp.Temp.TheVariants.{Hot, Cold}
use Rattle.cb_span.specs.Contents.{Contents, span_of}
use Rattle.cb_types.specs.declared.reply.Reply.TheVariants as answer
use Rattle.cb_world.specs.declared.access.Access.TheVariants.{Looked}
use Rattle.cb_world.specs.declared.homes.Home.{Home}
use Rattle.cb_world.specs.Fetched.{rows_needed, with_rows_given}
use Rattle.cb_world.specs.LeftOver.{nodes_left, sets_left}
use Rattle.cb_world.specs.Sets.{SetMap, set_in}
use Rattle.cb_world.specs.FarState.{FarState}
use Rattle.cb_world.specs.Survey.{no_survey}
use Rattle.cb_world.proofs.Laws.{at, node}
use Rattle.cb_swapin.specs.Fetching.{far_given, losses_told}
use Rattle.cb_swapin.specs.SwapRule.{IsSwappedTo, SwapFar, swap_answer}

-- node 1 crashed at epoch 1 and node 2 at epoch 3
abbrev pub members : Membership
members = record {
  epoch = 3;
  nodes =
      record { up = true; incarnation = 0; crashes = [] }
      ∷ record { up = false; incarnation = 0; crashes = record { n = 1 } ∷ [] }
      ∷ record { up = false; incarnation = 0; crashes = record { n = 3 } ∷ [] }
      ∷ record { up = true; incarnation = 0; crashes = [] } ∷ [];
}

abbrev loss : ℕ → ℕ → Loss
loss n epoch = record { node = node n; epoch = record { n = epoch } }

-- a span of four slots with object 0 in slot 1, and one with object 1
abbrev pub first : PositionState
first = filled_position (None ∷ Some 0 ∷ None ∷ None ∷ [])

abbrev pub second : PositionState
second = filled_position (Some 1 ∷ None ∷ None ∷ None ∷ [])

-- two data positions and a parity, by the nodes of their shards
abbrev pub on : ℕ → ℕ → ℕ → SetState
on a b c = set_of 5 1 (at a 7 ∷ at b 8 ∷ at c 9 ∷ []) (first ∷ second ∷ [])

abbrev home : ℕ → ℕ → Home
home position slot = record { set = 5; position = position; slot = slot }

abbrev pub far : List Bool → SetState → FarState
far frames set = record {
  first = 1;
  made = 2;
  frames = frames;
  spans = None ∷ None ∷ None ∷ [];
  sets = map.insert map.empty 5 (record { set = set; committed = true });
  homes = Some (home 0 1) ∷ Some (home 1 0) ∷ [];
  nodes = empty_nodes 4 1;
  members = members;
  code = record { k = 2; r = 1 };
  leaving = None;
  joining = None;
  counts = record { turns = 0; by_job = []; sets = 6; keys = 10 };
  survey = no_survey;
}

-- frame 0 is taken
abbrev pub some_free : List Bool
some_free = false ∷ true ∷ true ∷ []

abbrev pub none_free : List Bool
none_free = false ∷ false ∷ false ∷ []

-- ---- what it is answered: no shard lost, one, and two
whole : swap_answer (far some_free (on 0 3 0)) 5 (on 0 3 0) ≡ answer.Swapped 1
whole = refl

its_own_shard_lost : swap_answer (far some_free (on 1 0 3)) 5 (on 1 0 3) ≡ answer.Swapped 1
its_own_shard_lost = refl

broken : swap_answer (far some_free (on 1 2 0)) 5 (on 1 2 0)
    ≡ answer.Unavailable (record { n = 5 }) (loss 1 1 ∷ loss 2 3 ∷ [])
broken = refl

-- so it is of position 0, whose own shard is there; the losses are in order of position
broken_elsewhere : swap_answer (far some_free (on 0 2 1)) 5 (on 0 2 1)
    ≡ answer.Unavailable (record { n = 5 }) (loss 2 3 ∷ loss 1 1 ∷ [])
broken_elsewhere = refl

-- frames 1 and 2 are free: a span of two pages comes there, and one of four nowhere
two_frames : swap_answer (far some_free (record (on 0 3 0) { pages = 2 })) 5
    (record (on 0 3 0) { pages = 2 }) ≡ answer.Swapped 1
two_frames = refl

no_four_frames : swap_answer (far some_free (record (on 0 3 0) { pages = 4 })) 5
    (record (on 0 3 0) { pages = 4 }) ≡ answer.NoFrame
no_four_frames = refl

no_frame : swap_answer (far none_free (on 1 0 3)) 5 (on 1 0 3) ≡ answer.NoFrame
no_frame = refl

-- a broken set is told before a frame is looked for
broken_and_no_frame : swap_answer (far none_free (on 1 2 0)) 5 (on 1 2 0)
    ≡ answer.Unavailable (record { n = 5 }) (loss 1 1 ∷ loss 2 3 ∷ [])
broken_and_no_frame = refl

losses : losses_told (far some_free (on 0 2 1)) (on 0 2 1) ≡ Some (loss 2 3 ∷ loss 1 1 ∷ [])
losses = refl

few_losses : losses_told (far some_free (on 1 0 3)) (on 1 0 3) ≡ None
few_losses = refl

-- rows given out: its own, or one of each of as many others as there are data positions
own_row : rows_needed members (on 0 1 3) 0 ≡ 1
own_row = refl

two_rows : rows_needed members (on 1 0 3) 0 ≡ 2
two_rows = refl

-- ---- a refusal
abbrev pub refused : FarState
refused = far none_free (on 1 0 3)

refuses : SwapFar refused refused 5 0 (on 1 0 3) [] answer.NoFrame
refuses = (refl, refl)

refuses_and_gives_a_row :
    SwapFar refused (far_given refused 1) 5 0 (on 1 0 3) [] answer.NoFrame → ⊥
refuses_and_gives_a_row x =
    let e : 1 ≡ 0 = ap (λ (f : FarState). f.nodes.given) x.0 in omega (arith, e)

refuses_and_looks : SwapFar refused refused 5 0 (on 1 0 3) (Looked 0 1 ∷ []) answer.NoFrame → ⊥
refuses_and_looks x = let e : 1 ≡ 0 = ap (λ l. length l) x.1 in omega (arith, e)

-- ---- position 0 comes into frame 1, by one row; position 1 is live
abbrev pub class : Class
class = record { index = 11 }

abbrev pub set : SetState
set = on 0 3 1

abbrev pub old : FarState
old = far some_free set

abbrev with_set : SetState → SetMap
with_set rest = map.insert old.sets 5 (record { set = rest; committed = true })

abbrev rest : SetState
rest = set_of 5 1 (at 0 7 ∷ at 3 8 ∷ at 1 9 ∷ []) (dead_position ∷ second ∷ [])

abbrev span : Temp → Contents
span temp = span_of class temp first.slots

abbrev pub new : FarState
new = record old {
  frames = false ∷ false ∷ true ∷ [];
  spans = None ∷ Some (span Hot) ∷ None ∷ [];
  sets = with_set rest;
  homes = None ∷ Some (home 1 0) ∷ [];
  nodes = with_rows_given old.nodes 1;
}

-- the one object of the position
pub the_one : (slot h : ℕ) → get_or first.slots slot None ≡ Some h → (slot ≡ 1) × (h ≡ 0)
the_one zero h e = absurd (none-some h e)
the_one (suc zero) h e = (refl, sym (same_Some 0 h e))
the_one (suc (suc zero)) h e = absurd (none-some h e)
the_one (suc (suc (suc zero))) h e = absurd (none-some h e)
the_one (suc (suc (suc (suc slot)))) h e = absurd (none-some h e)

pub swapped : IsSwappedTo old new 5 0 set 1 1
unfolding slots_of pages_of bytes_of
swapped = record {
  class = class;
  in_table = omega arith;
  paged = refl;
  sized = refl;
  frames = refl;
  spans = refl;
  homes = record {
    count = refl;
    named = λ h n. ap (λ (i : ℕ). get_or new.homes i None) (the_one n.0 h n.1).1;
    others = others;
  };
  sets = refl;
  nodes = refl;
  rest = refl;
}
  where
    others : (h : ℕ) → ((slot : ℕ) × (get_or first.slots slot None ≡ Some h) → ⊥)
        → get_or new.homes h None ≡ get_or old.homes h None
    others zero off = absurd (off (1, refl))
    others (suc zero) off = refl
    others (suc (suc h)) off = refl

-- not to this state
abbrev Refuted : FarState → Type 0
Refuted g = IsSwappedTo old g 5 0 set 1 1 → ⊥

leaves_the_frame_free : Refuted (record new { frames = some_free })
leaves_the_frame_free x = true_false (ap (λ (l : List Bool). get_or l 1 false) x.frames)
  where
    true_false : true ≡ false → ⊥
    true_false e = cc

takes_a_frame_more : Refuted (record new { frames = none_free })
takes_a_frame_more x = false_true (ap (λ (l : List Bool). get_or l 2 false) x.frames)
  where
    false_true : false ≡ true → ⊥
    false_true e = cc

brings_no_span : Refuted (record new { spans = old.spans })
brings_no_span x = none-some _ (ap (λ (l : List (Option Contents)). get_or l 1 None) x.spans)

abbrev temp_number : Temp → ℕ
temp_number Hot = 0
temp_number Cold = 1

abbrev is_cold : Option Contents → ℕ
is_cold None = 0
is_cold (Some c) = temp_number c.temp

brings_a_cold_span : Refuted (record new { spans = None ∷ Some (span Cold) ∷ None ∷ [] })
brings_a_cold_span x = let e : 1 ≡ 0 =
    ap (λ (l : List (Option Contents)). is_cold (get_or l 1 None)) x.spans in omega (arith, e)

abbrev slot_count : Option Contents → ℕ
slot_count None = 0
slot_count (Some c) = length c.slots

brings_a_span_of_other_slots : Refuted (record new {
  spans = None ∷ Some (span_of class Hot (None ∷ Some 0 ∷ [])) ∷ None ∷ [];
})
brings_a_span_of_other_slots x = let e : 2 ≡ 4 =
    ap (λ (l : List (Option Contents)). slot_count (get_or l 1 None)) x.spans in omega (arith, e)

keeps_the_home : Refuted (record new { homes = old.homes })
keeps_the_home x = none-some (home 0 1) (sym (x.homes.named 0 (1, refl)))

takes_another_home : Refuted (record new { homes = None ∷ None ∷ [] })
takes_another_home x = none-some (home 1 0) (x.homes.others 1 (λ n. not_zero 1 (omega arith)
    (the_one n.0 1 n.1).1))
  where
    not_zero : (h : ℕ) → 1 ≤ h → h ≡ 0 → ⊥
    not_zero h some none = omega (arith, some, none)

-- whether a position of the committed set is live
abbrev live_in : Option SetState → ℕ → Bool
live_in None p = false
live_in (Some s) p = (get_or s.positions p dead_position).live

leaves_the_position_live : Refuted (record new { sets = with_set set })
leaves_the_position_live x = true_false (sym (left set)
    ∙ ap (λ (m : SetMap). live_in (set_in m 5) 0) x.sets ∙ left rest)
  where
    there : (s : SetState) → set_in (with_set s) 5 ≡ Some s
    there s = grind (arith, map.gets)

    left : (s : SetState) → live_in (set_in (with_set s) 5) 0 ≡ live_in (Some s) 0
    left s = ap (λ (o : Option SetState). live_in o 0) (there s)

    true_false : true ≡ false → ⊥
    true_false e = cc

drops_a_live_set : Refuted (record new { sets = map.remove old.sets 5 })
drops_a_live_set x = none-some rest (sym gone ∙ ap (λ (m : SetMap). set_in m 5) x.sets ∙ there)
  where
    gone : set_in (map.remove old.sets 5) 5 ≡ None
    gone = grind (arith, map.gets)

    there : set_in (with_set rest) 5 ≡ Some rest
    there = grind (arith, map.gets)

gives_two_rows : Refuted (record new { nodes = with_rows_given old.nodes 2 })
gives_two_rows x = let e : 2 ≡ 1 = ap (λ (n : NodesState). n.given) x.nodes in omega (arith, e)

counts_a_set : Refuted (record new { counts = record old.counts { sets = 7 } })
counts_a_set x = let e : 7 ≡ 6 = ap (λ (f : FarState). f.counts.sets) x.rest in omega (arith, e)

-- ---- position 1 follows: no position is live, and the set is dropped with its rows
abbrev last : SetState
last = set_of 5 1 (at 0 7 ∷ at 3 8 ∷ at 1 9 ∷ []) (dead_position ∷ dead_position ∷ [])

sets_then : sets_left new.sets 5 last ≡ map.remove new.sets 5
sets_then = refl

sets_before : sets_left old.sets 5 rest ≡ with_set rest
sets_before = refl

nodes_before : nodes_left old.nodes rest ≡ old.nodes
nodes_before = refl
