-- What a swap-in leaves of the configured sizes and codes, and of what is counted.
use Rattle.std.proofs.Common.{◌≡◌, ℕ, Bool, true, false, ◌+◌, ◌≤◌, if◌then◌else◌, List, Option, Some, length, refl, sym, ap, ◌∙◌, subst, arith, length-set}
use Rattle.cb_node.specs.NodesState.{NodesState}
use Rattle.cb_set.specs.Lost.{lost_at}
use Rattle.cb_set.specs.SetState.{SetState, dead_position, position_of, with_position}
use Rattle.cb_span.specs.declared.temp.Temp.TheVariants.{Hot}
use Rattle.cb_span.specs.Contents.{Contents, span_of}
use Rattle.cb_types.specs.declared.config.Config.{Config}
use Rattle.cb_types.specs.declared.reply.Reply.{Reply}
use Rattle.cb_types.specs.declared.reply.Reply.TheVariants as answer
use Rattle.cb_world.specs.declared.access.Access.{Access}
use Rattle.cb_world.specs.declared.shown.Shown.{Shown}
use Rattle.cb_world.specs.Codes.{IsCodeOf}
use Rattle.cb_world.specs.FarState.{FarState}
use Rattle.cb_world.specs.Fetched.{rows_needed, with_rows_given}
use Rattle.cb_world.specs.Plain.{Words}
use Rattle.cb_world.specs.Sets.{set_in}
use Rattle.cb_world.specs.Sound.{Sound}
use Rattle.cb_world.proofs.Laws.{AreOwn, KeepCodes, SetCodes, batch_has, codes_kept, codes_same, codes_left, have_codes, own_left, pair_stays, sets_have, left_count, left_given, left_room, StaysIf, stays_given, stays_same}
use Rattle.cb_swapin.specs.Fetching.{far_given}
use Rattle.cb_swapin.specs.SwapRule.{BringsFar, BringsRule, IsSwappedTo, SwapRule}
use Rattle.cb_swapin.specs.SwapStep.{IsBringStep, IsSwapStep}
use Rattle.cb_swapin.proofs.SwapKeeps.{step_cases}

-- at most 16 rows are needed, and so at most 16 are given out
rows_most : (s : Shown) (far : FarState) (id p : ℕ) (set : SetState) → Sound s far
    → set_in far.sets id ≡ Some set → rows_needed far.members set p ≤ 16
rows_most s far id p set sound there = by (lost_at far.members set.shards p) refl
  where
    by : (b : Bool) → lost_at far.members set.shards p ≡ b → rows_needed far.members set p ≤ 16
    by true e = subst (λ (b : Bool). (if b then length set.positions else 1) ≤ 16) (sym e)
        (sound.away.sound.sets.shaped id set there).range.data_most
    by false e = subst (λ (b : Bool). (if b then length set.positions else 1) ≤ 16) (sym e)
        (omega arith)

-- its set has the code that it had
swapped_codes : (far new : FarState) (id p : ℕ) (set : SetState) (f n : ℕ)
    → set_in far.sets id ≡ Some set → IsSwappedTo far new id p set f n → KeepCodes far new
swapped_codes far new id p set f n there z =
    codes_kept far new (ap (λ (q : FarState). q.code) z.rest)
    (subst (SetCodes far) (sym z.sets)
    (codes_left far far.sets id p set dead_position there (sets_have far)))
    (batch_has far new.leaving (ap (λ (q : FarState). q.leaving) z.rest))
    (pair_stays far new.joining (ap (λ (q : FarState). q.joining) z.rest))
    (λ own. subst AreOwn (sym z.sets) (own_left far.sets id p set dead_position there own))

-- a position was brought in
pub swapped_stays : (c : Config) (far new : FarState) (id p : ℕ) (set : SetState) (f n : ℕ)
    → n ≤ 16 → set_in far.sets id ≡ Some set → IsSwappedTo far new id p set f n → StaysIf c 16 far new
swapped_stays c far new id p set f n most there z is =
    let given : new.nodes.given ≡ far.nodes.given + n =
    ap (λ (q : NodesState). q.given) z.nodes
    ∙ left_given (with_rows_given far.nodes n)
    (with_position set p dead_position) in
    let sets : new.counts.sets ≡ far.counts.sets = ap (λ (q : FarState). q.counts.sets) z.rest in
    let keys : new.counts.keys ≡ far.counts.keys = ap (λ (q : FarState). q.counts.keys) z.rest in
    let epoch : new.members.epoch ≡ far.members.epoch = ap (λ (q : FarState). q.members.epoch) z.rest in
    let keep = swapped_codes far new id p set f n there z in record {
      configured = record {
        frames = ap (λ (l : List (Option Contents)). length l) z.spans
            ∙ length-set far.spans f (Some (span_of z.class Hot (position_of set p).slots))
            ∙ is.frames;
        homes = z.homes.count ∙ is.homes;
        nodes = ap (λ (q : NodesState). length q.nodes) z.nodes
            ∙ left_count (with_rows_given far.nodes n)
            (with_position set p dead_position) ∙ is.nodes;
        room = ap (λ (q : NodesState). q.room) z.nodes
            ∙ left_room (with_rows_given far.nodes n)
            (with_position set p dead_position) ∙ is.room;
        codes = have_codes (IsCodeOf c) far new keep is.codes;
      };
      codes = keep;
      rises = record {
        turns = ap (λ (q : FarState). q.counts.turns) z.rest;
        by_job = ap (λ (q : FarState). q.counts.by_job) z.rest;
        sets = omega (arith, sets);
        keys = omega (arith, keys);
        epoch = omega (arith, epoch);
        given = omega (arith, given, most);
        note = λ n e. sym (ap (λ (q : FarState). q.survey.no_pair) z.rest) ∙ e;
      };
    }

-- where at most 16 rows are given out for each set
pub bring_stays : {rows : SetState → ℕ} (c : Config) (id p : ℕ) (far new : FarState) (r : Reply)
    (es : List Access) → ((set : SetState) → set_in far.sets id ≡ Some set → rows set ≤ 16)
    → BringsRule rows id p far new r es → StaysIf c 16 far new
bring_stays {rows = rows} c id p far new r es few x = by r x.state
  where
    by : (q : Reply) → BringsFar (rows x.set) far new id p x.set es q → StaysIf c 16 far new
    by (answer.Swapped f) z =
        swapped_stays c far new id p x.set f (rows x.set) (few x.set x.there) x.there z.0
    by q z = stays_same c 16 far new (omega arith) z.0

pub swap_stays : (c : Config) (id p : ℕ) (s : Shown) (far new : FarState) (r : Reply)
    (es : List Access) → Sound s far → SwapRule id p far new r es → StaysIf c 16 far new
swap_stays c id p s far new r es sound x =
    bring_stays c id p far new r es (λ set there. rows_most s far id p set sound there) x

-- a swap-in makes no other code
pub swap_codes : {rows : SetState → ℕ} (id p : ℕ) (far new : FarState) (r : Reply) (es : List Access)
    → BringsRule rows id p far new r es → KeepCodes far new
swap_codes {rows = rows} id p far new r es x = by r x.state
  where
    by : (q : Reply) → BringsFar (rows x.set) far new id p x.set es q → KeepCodes far new
    by (answer.Swapped f) z = swapped_codes far new id p x.set f (rows x.set) x.there z.0
    by q z = codes_same far new z.0

-- by the step of a still desk
pub bring_step_stays : {rows : SetState → ℕ} (c : Config) (x y : Words) (far new : FarState)
    (id p : ℕ) (r : Reply) → ((set : SetState) → set_in far.sets id ≡ Some set → rows set ≤ 16)
    → IsBringStep rows x y far new id p r → StaysIf c 16 far new
bring_step_stays {rows = rows} c x y far new id p r few z =
    step_cases (StaysIf c 16 far new) x y far new id p r z
    (λ same. stays_same c 16 far new (omega arith) same.1)
    (λ f whole least e w. swapped_stays c far new id p z.set f (rows z.set) (few z.set z.there)
    z.there w.state)

pub swap_step_stays : (c : Config) (x y : Words) (far new : FarState) (id p : ℕ) (r : Reply) (s : Shown)
    → Sound s far → IsSwapStep x y far new id p r → StaysIf c 16 far new
swap_step_stays c x y far new id p r s sound z =
    bring_step_stays c x y far new id p r (λ set there. rows_most s far id p set sound there) z

pub swap_step_codes : {rows : SetState → ℕ} (x y : Words) (far new : FarState) (id p : ℕ) (r : Reply)
    → IsBringStep rows x y far new id p r → KeepCodes far new
swap_step_codes {rows = rows} x y far new id p r z =
    step_cases (KeepCodes far new) x y far new id p r z
    (λ same. codes_same far new same.1)
    (λ f whole least e w. swapped_codes far new id p z.set f (rows z.set) z.there w.state)

-- a swap-in that found no memory may have given rows out
pub given_stays : (c : Config) (s : Shown) (far : FarState) (id n : ℕ) (set : SetState) → Sound s far
    → set_in far.sets id ≡ Some set → n ≤ length set.positions → StaysIf c 16 far (far_given far n)
given_stays c s far id n set sound there few =
    let most = (sound.away.sound.sets.shaped id set there).range.data_most in
    stays_given c 16 (far.nodes.given + n) far far.survey (omega (arith, most, few)) (λ n e. e)
