-- Worked examples of a look before a write, and of rows that were given out, over any desk: what meets
-- the definitions, and what breaks one part alone.
use Rattle.std.proofs.Common.{◌≡◌, ℕ, ◌+◌, ◌≤◌, true, false, List, [], ◌∷◌, Option, None, Some, length, refl, sym, ap, ◌∙◌, subst, inl, inr, lit≤, arith}
use Rattle.std.specs.FinMap as map
use Rattle.std.proofs.lemmas.Bool.{false≢true}
use Rattle.cb_member.specs.declared.names.Shard.{Shard}
use Rattle.cb_member.specs.Membership.{Membership, fresh_members}
use Rattle.cb_set.specs.SetState.{SetState, set_of}
use Rattle.cb_types.specs.declared.reply.Reply.{Reply}
use Rattle.cb_types.specs.declared.reply.Reply.TheVariants as answer
use Rattle.cb_world.specs.declared.access.Access.{Access}
use Rattle.cb_world.specs.declared.access.Access.TheVariants.{Looked, Told, Settled}
use Rattle.cb_world.specs.declared.homes.Home.{Home}
use Rattle.cb_world.specs.FarState.{FarState}
use Rattle.cb_world.specs.Now.{is_gone, broken_set}
use Rattle.cb_world.specs.Sets.{set_in}
use Rattle.cb_swapin.specs.Fetching.{far_given}
use Rattle.cb_core.specs.Turned.{IsDeclined, IsGiven}
use Rattle.cb_core.proofs.WorkedRoom.{counts, far_of, span_with}

-- ---- object 0 is far: it has its home in set 5, of one data position and one parity
abbrev shard : ℕ → Shard
shard n = record { node = record { n = n }; incarnation = 0; key = n }

abbrev set : SetState
set = set_of 5 1 (shard 0 ∷ shard 1 ∷ [])
    (record { live = true; slots = Some 0 ∷ None ∷ None ∷ None ∷ [] } ∷ [])

abbrev home : Home
home = record { set = 5; position = 0; slot = 0 }

abbrev with_nodes : Membership → FarState
with_nodes members = record (far_of (span_with (Some 1) None) (span_with None (Some 1)) None members
    (counts 0 [])) {
      sets = map.insert map.empty 5 (record { set = set; committed = true });
      homes = Some home ∷ None ∷ [];
    }

-- both nodes are up; and both have crashed
abbrev whole : FarState
whole = with_nodes (fresh_members 2)

abbrev lost : FarState
lost = with_nodes (record {
  epoch = 2;
  nodes = record { up = false; incarnation = 0; crashes = record { n = 1 } ∷ [] }
      ∷ record { up = false; incarnation = 0; crashes = record { n = 2 } ∷ [] } ∷ [];
})

there : (members : Membership) → set_in (with_nodes members).sets 5 ≡ Some set
there members = grind (arith, map.gets)

not_gone : is_gone whole 0 ≡ false
not_gone = ap (λ (o : Option SetState). broken_set whole.members o) (there (fresh_members 2))

gone : is_gone lost 0 ≡ true
gone = ap (λ (o : Option SetState). broken_set lost.members o) (there lost.members)

-- ---- a look before a write to it: its word has two bytes, and its version is 3
abbrev looks : List Access
looks = Looked 0 16385 ∷ Told 0 3 ∷ []

goes_on : IsDeclined 0 1 1 whole None looks
goes_on = inr (not_gone, (16385, 3, inr ((refl, refl), ((λ w e. e), tt)), refl, inr (refl, refl), tt, refl))

past_its_end : IsDeclined 0 1 2 whole (Some (answer.Range 2)) looks
past_its_end =
    inr (not_gone, (16385, 3, inr ((refl, refl), ((λ w e. e), tt)), refl, inr (refl, refl), tt, refl))

not_looked_at : IsDeclined 0 1 2 lost None []
not_looked_at = inl (gone, refl, refl)

none_some : (r : Reply) → None ≡ Some r → ⊥
none_some r e = cc

-- where the set is broken nothing is looked at, and nothing declined
looks_at_lost : IsDeclined 0 1 1 lost None looks → ⊥
looks_at_lost (inl x) = nothing x.2
  where
    nothing : looks ≡ [] → ⊥
    nothing e = let n : 2 ≡ 0 = ap (λ (es : List Access). length es) e in omega (arith, n)
looks_at_lost (inr x) = false≢true (sym x.0 ∙ gone)

declines_lost : IsDeclined 0 1 2 lost (Some (answer.Range 2)) [] → ⊥
declines_lost (inl x) = none_some (answer.Range 2) (sym x.1)
declines_lost (inr x) = false≢true (sym x.0 ∙ gone)

-- nothing was looked at though the set is not broken
not_looked : IsDeclined 0 1 1 whole None [] → ⊥
not_looked (inl x) = false≢true (sym not_gone ∙ x.0)
not_looked (inr x) = x.1.2

-- no version word was read
not_told : IsDeclined 0 1 1 whole None (Looked 0 16385 ∷ []) → ⊥
not_told (inl x) = false≢true (sym not_gone ∙ x.0)
not_told (inr x) = x.1.4

-- the version word was read behind a settling
told_late : IsDeclined 0 1 1 whole None (Looked 0 16385 ∷ Settled 0 0 ∷ Told 0 3 ∷ []) → ⊥
told_late (inl x) = false≢true (sym not_gone ∙ x.0)
told_late (inr x) = x.1.5.0

-- ---- rows that were given out in vain
some_home : (p q : Home) → Some p ≡ Some q → p ≡ q
some_home p q e = cc

some_set : (a b : SetState) → Some a ≡ Some b → a ≡ b
some_set a b e = cc

given_one : IsGiven whole (far_given whole 1) 0
given_one = (home, set, 1, refl, there (fresh_members 2), lit≤ tt, refl)

-- object 1 has no home
given_of_none : IsGiven whole (far_given whole 1) 1 → ⊥
given_of_none (h, s, n, at, in_sets, few, state) = none_home h at
  where
    none_home : (h : Home) → None ≡ Some h → ⊥
    none_home h e = cc

-- its home is in another set, which is not there
abbrev elsewhere : FarState
elsewhere = record whole { homes = Some (record home { set = 6 }) ∷ None ∷ [] }

given_of_other : IsGiven elsewhere (far_given elsewhere 1) 0 → ⊥
given_of_other (h, s, n, at, in_sets, few, state) = none_set s (sym not_there
    ∙ ap (λ (x : Home). set_in whole.sets x.set) (some_home (record home { set = 6 }) h at) ∙ in_sets)
  where
    not_there : set_in whole.sets 6 ≡ None
    not_there = grind (arith, map.gets)

    none_set : (s : SetState) → None ≡ Some s → ⊥
    none_set s e = cc

-- more rows than the set of its home has data positions
given_two : IsGiven whole (far_given whole 2) 0 → ⊥
given_two (h, s, n, at, in_sets, few, state) =
    let its_set = some_set s set (sym in_sets
    ∙ ap (λ (x : Home). set_in whole.sets x.set) (sym (some_home home h at)) ∙ there (fresh_members 2)) in
    let most : n ≤ 1 = subst (λ (x : SetState). n ≤ length x.positions) its_set few in
    let e : 2 ≡ 0 + n = ap (λ (f : FarState). f.nodes.given) state in omega (arith, most, e)

-- something else was done too
given_and_made : IsGiven whole (record (far_given whole 1) { made = 7 }) 0 → ⊥
given_and_made (h, s, n, at, in_sets, few, state) =
    let e : 7 ≡ 1 = ap (λ (f : FarState). f.made) state in omega (arith, e)
