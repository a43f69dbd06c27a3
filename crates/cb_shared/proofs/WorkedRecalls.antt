-- Worked looks at what a record has of objects: what meets each definition, and what breaks
-- one of its parts alone.
use Rattle.std.proofs.Common.{◌≡◌, ℕ, zero, suc, ◌+◌, ◌^◌, ◌<◌, cond, eqb, [], ◌∷◌, ◌++◌, Some, inl}
use Rattle.std.proofs.Common.{refl, sym, ap, ◌∙◌, subst, ⊎_elim, arith}
use Rattle.std.proofs.lemmas.Bool.{eqb-false}
use mathlib.Core.Option.{some, some-injective, some-ne-none}
use lib.ListN.{get_elem?}
use Rattle.atomic_table.specs.Table.{Step}
use Rattle.cb_types.specs.declared.config.Config.{Config}
use Rattle.cb_types.specs.declared.handle.Handle.{Handle}
use Rattle.cb_types.specs.declared.job.Job.TheVariants.{Make}
use Rattle.cb_types.specs.declared.reply.Reply.TheVariants.{Made}
use Rattle.cb_world.specs.declared.entry.Entry.{Entry}
use Rattle.cb_world.specs.Written.{entry}
use Rattle.cb_rule.specs.declared.turn.Turn.{Turn}
use Rattle.cb_rule.specs.declared.view.Seen.{Seen}
use Rattle.cb_rule.specs.declared.view.View.{View}
use Rattle.cb_rule.specs.Lists.{Has}
use Rattle.cb_rule.specs.Locking.{turn_number}
use Rattle.cb_rule.specs.OwnStands.{WroteItself}
use Rattle.cb_rule.specs.Slot.{LockSlot, Sat}
use Rattle.cb_rule.specs.Steps.{blank, freed_seen, version_seen}
use Rattle.cb_shared.specs.Recalls.{MakesFirst, Recalls, recalled}

-- a view that wrote nothing
wrote_none : (v : View) → v.fresh ++ v.written ≡ [] → (e : Entry) → WroteItself v e → ⊥
wrote_none v none e (u, (j, is), has) = subst (Has e) none
    (subst (λ (z : View). Has e (z.fresh ++ z.written)) (sym (one u j is)) has)
  where
    one : (u : View) (j : ℕ) → get_elem? (v ∷ []) j ≡ some u → v ≡ u
    one u zero is = some-injective v u is
    one u (suc j) is = absurd (some-ne-none u (sym is))

version_told : (a b : Handle) (m n : ℕ) → Some (Made a m) ≡ Some (Made b n) → m ≡ n
version_told a b m n e = cc

module _ (c : Config) (t : Turn) where
  -- a turn that made object 1
  abbrev makes : ℕ → Turn
  makes n = record t { job = Make (10 ∷ []); reply = Some (Made (record { n = 1 }) n) }

  -- of a view that has nothing else of it any more
  abbrev kept : View
  kept = record (blank c) { turns = makes 3 ∷ [] }

  makes_first : MakesFirst 3 (makes 3 ∷ [])
  makes_first u has bytes handle version asked told = ⊎_elim
      (λ e. sym (version_told (record { n = 1 }) handle 3 version (ap (λ (k : Turn). k.reply) e ∙ told)))
      (λ none. absurd none) has

  makes_later : MakesFirst 3 (makes 4 ∷ []) → ⊥
  makes_later x =
      eqb-false 4 3 refl (x (makes 4) (inl refl) (10 ∷ []) (record { n = 1 }) 4 refl refl)

  recalls : Recalls 3 kept
  recalls = record {
    own = record {
      read = λ s has own. absurd has;
      looked = λ l found own. absurd own;
      born = λ e wrote. absurd (wrote_none kept refl e wrote);
      same = λ e x wrote. absurd (wrote_none kept refl e wrote);
      goes_on = λ e wrote. absurd (wrote_none kept refl e wrote);
    };
    makes = makes_first;
    stands = record {
      read = λ s e has. absurd has;
      same = λ e x wrote. absurd (wrote_none kept refl e wrote);
      goes_on = λ e x wrote. absurd (wrote_none kept refl e wrote);
      ends = λ h last n freed gone has.
          ⊎_elim (λ x. absurd (x.1)) (λ x. absurd (x.1)) gone;
      same_read = λ s t has. absurd has;
      keeps_read = λ e s wrote. absurd (wrote_none kept refl e wrote);
    };
    whole = λ share. absurd (eqb-false 0 64 refl share);
  }

  -- it read other words than it wrote
  recalls_other_words : Recalls 3 record kept {
    written = entry 1 3 8 [] (7 ∷ []) ∷ [];
    seen = version_seen 1 3 8 (8 ∷ []) ∷ [];
  } → ⊥
  recalls_other_words x = let u : View = record kept {
    written = entry 1 3 8 [] (7 ∷ []) ∷ [];
    seen = version_seen 1 3 8 (8 ∷ []) ∷ [];
  } in
      let same = x.stands.read (version_seen 1 3 8 (8 ∷ [])) (entry 1 3 8 [] (7 ∷ [])) (inl refl)
      (u, (0, refl), inl refl) refl refl in
      absurd (let w : 8 ∷ [] ≡ 7 ∷ [] = ap (λ (s : Seen). s.words) same in cc)

  -- with the whole share its one turn is the second
  recalls_no_first_turn : turn_number t ≡ 1 → Recalls 3 record kept { share = 64 } → ⊥
  recalls_no_first_turn second x = let w = x.whole refl refl in let h = w.2 in
      let u : View = record kept { share = 64 } in ⊎_elim
      (λ (low : turn_number t < w.0). let one = h.once 0 (omega (arith, low)) in
      let none : cond (eqb (turn_number t) 0) 1 0 + 0 + 0 ≡ 0 =
      ap (λ (n : ℕ). cond (eqb n 0) 1 0 + 0 + 0) second in omega (arith, one, none))
      (λ (z : (turn_number t ≡ 2 ^ 40) × (w.0 ≡ 2 ^ 40) × (t.gave ≡ t.took)).
      let worn = z.0 in omega (arith, second, worn))
      (h.numbers (makes 3) (u, (0, refl), inl refl))

  recalls_what_it_did_not_write : Recalls 3 record kept { own = 1 ∷ []; seen = freed_seen 1 3 ∷ [] } → ⊥
  recalls_what_it_did_not_write x =
      let z = x.own.read (freed_seen 1 3) (inl refl) (inl refl) in
      wrote_none record kept { own = 1 ∷ []; seen = freed_seen 1 3 ∷ [] } refl z.0 z.1

  recalls_a_later_make : Recalls 3 record kept { turns = makes 4 ∷ [] } → ⊥
  recalls_a_later_make x = makes_later x.makes

  -- a look changes nothing
  looks : (st : Step LockSlot) → recalled 3 st (kept, []) 0 (kept, [])
  looks st = (refl, recalls)

  looks_and_takes : (st : Step LockSlot)
      → recalled 3 st (kept, []) 0 (record kept { share = 1 }, []) → ⊥
  looks_and_takes st x = eqb-false 1 0 refl (ap (λ (m : Sat). m.0.share) x.0)

  looks_at_a_later_make : (st : Step LockSlot)
      → recalled 3 st (record kept { turns = makes 4 ∷ [] }, []) 0
      (record kept { turns = makes 4 ∷ [] }, []) → ⊥
  looks_at_a_later_make st x = recalls_a_later_make x.1
