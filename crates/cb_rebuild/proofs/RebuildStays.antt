-- What a rebuild leaves of the configured sizes and codes, and of what is counted.
use Rattle.std.proofs.Common.{◌≡◌, ℕ, ◌+◌, ◌≤◌, true, length, Option, None, Some, refl, sym, ◌∙◌, subst, arith, inl, inr, length-set}
use Rattle.cb_set.specs.SetState.{SetState, with_shard}
use Rattle.cb_types.specs.declared.config.Config.{Config}
use Rattle.cb_types.specs.declared.reply.Reply.{Reply}
use Rattle.cb_world.specs.declared.shown.Shown.{Shown}
use Rattle.cb_world.specs.Codes.{IsCodeOf}
use Rattle.cb_world.specs.FarState.{FarState}
use Rattle.cb_world.specs.Sets.{Kept}
use Rattle.cb_world.specs.Sets.{set_in}
use Rattle.cb_world.specs.Sound.{Sound}
use Rattle.cb_world.proofs.Laws.{KeepCodes, batch_has, code_as, codes_kept, codes_put, have_codes, of_a_set, own_put, pair_stays, sets_have, Stays, StaysIf, stays_given}
use Rattle.cb_rebuild.specs.RebuildStep.{IsRebuilt, RebuildStep, Restores, far_given, surveyed}

-- nothing is noted of a search for a pair
forgets : {o : Option ℕ} → (m : ℕ) → None ≡ Some m → o ≡ Some m
forgets m e = absurd (no_note m e)
  where
    no_note : (m : ℕ) → None ≡ Some m → ⊥
    no_note m e = cc

-- the sets were looked at
survey_stays : (c : Config) (far : FarState) (n : ℕ) → StaysIf c 16 far (surveyed far n)
survey_stays c far n =
    stays_given c 16 far.nodes.given far (surveyed far n).survey (omega arith) forgets

-- no more rows are given out than a set has data positions
positions_most : (s : Shown) (far : FarState) (id : ℕ) (set : SetState) → Sound s far
    → set_in far.sets id ≡ Some set → length set.positions ≤ 16
positions_most s far id set sound there = (sound.away.sound.sets.shaped id set there).range.data_most

-- a row stands again: its set has the code that it had
rebuilt_codes : (far new : FarState) (id : ℕ) (set : SetState) (r : Reply)
    → set_in far.sets id ≡ Some set → IsRebuilt (surveyed far id) id set new r → KeepCodes far new
rebuilt_codes far new id set r there z =
    let kept : Kept = record { set = with_shard set z.position z.shard; committed = true } in
    subst (KeepCodes far) (sym z.state) (codes_kept far _ refl
    (codes_put far far.sets id kept (λ committed. code_as far set (with_shard set z.position z.shard)
    refl (length-set set.shards z.position z.shard) (of_a_set id set there refl)) (sets_have far))
    (batch_has far far.leaving refl) (pair_stays far far.joining refl)
    (λ own. own_put far.sets id kept (λ committed. own id set there) own))

-- and as many places as before
rebuilt_stays : (c : Config) (s : Shown) (far new : FarState) (id : ℕ) (set : SetState) (r : Reply)
    → Sound s far → set_in far.sets id ≡ Some set → IsRebuilt (surveyed far id) id set new r
    → StaysIf c 16 far new
rebuilt_stays c s far new id set r sound there z is =
    let most = positions_most s far id set sound there in
    let keep = subst (KeepCodes far) z.state (rebuilt_codes far new id set r there z) in
    let e = z.state in subst (Stays c 16 far) (sym e) (record {
      configured = record {
        frames = is.frames;
        homes = is.homes;
        nodes = length-set far.nodes.nodes z.shard.node.n _ ∙ is.nodes;
        room = is.room;
        codes = have_codes (IsCodeOf c) far _ keep is.codes;
      };
      codes = keep;
      rises = record {
        turns = refl;
        by_job = refl;
        sets = omega arith;
        keys = omega arith;
        epoch = omega arith;
        given = omega (arith, most);
        note = forgets;
      };
    })

restored_stays : (c : Config) (s : Shown) (far new : FarState) (id : ℕ) (set : SetState) (r : Reply)
    → Sound s far → set_in far.sets id ≡ Some set → Restores (surveyed far id) id set new r
    → StaysIf c 16 far new
restored_stays c s far new id set r sound there (inl stuck) =
    subst (StaysIf c 16 far) (sym stuck.same) (survey_stays c far id)
restored_stays c s far new id set r sound there (inr z) =
    rebuilt_stays c s far new id set r sound there z

pub rebuild_stays : (c : Config) (s : Shown) (far new : FarState) (r : Reply) → Sound s far
    → RebuildStep far new r → StaysIf c 16 far new
rebuild_stays c s far new r sound (inl none) =
    subst (StaysIf c 16 far) (sym none.state) (survey_stays c far far.counts.sets)
rebuild_stays c s far new r sound (inr z) =
    restored_stays c s far new z.id z.set r sound z.first.there z.restores

-- one that found no memory may have given rows out
pub failed_stays : (c : Config) (s : Shown) (far new : FarState) (id n : ℕ) (set : SetState)
    → Sound s far → set_in far.sets id ≡ Some set → n ≤ length set.positions
    → new ≡ far_given (surveyed far id) n → StaysIf c 16 far new
failed_stays c s far new id n set sound there few state =
    let most = positions_most s far id set sound there in
    subst (StaysIf c 16 far) (sym state)
    (stays_given c 16 (far.nodes.given + n) far (surveyed far id).survey (omega (arith, most, few)) forgets)
