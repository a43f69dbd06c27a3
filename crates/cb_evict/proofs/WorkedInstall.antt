-- Worked examples of an install and of parities that a ship makes: values that meet a definition, and
-- for its parts one that breaks that part alone.
use Rattle.std.proofs.Common.{◌≡◌, ℕ, false, [], ◌∷◌, length, None, Some, refl, sym, ap, ◌∙◌, lit<, lit≤, arith, inr}
use Rattle.std.proofs.lemmas.Bool.{false≢true}
use Rattle.cb_types.specs.declared.handle.SetId.{SetId}
use Rattle.cb_types.specs.declared.order.DecodeOrder.{DecodeOrder}
use Rattle.cb_types.specs.declared.order.EncodeOrder.{EncodeOrder}
use Rattle.cb_types.specs.declared.order.Kept.TheVariants.{Encode, Decode}
use Rattle.cb_types.specs.declared.reply.Reply.{Reply}
use Rattle.cb_types.specs.declared.reply.Reply.TheVariants as answer
use Rattle.cb_world.specs.FarState.{FarState}
use Rattle.cb_world.specs.Leaving.{LeavingState}
use Rattle.cb_evict.proofs.SmallWorlds.{is_word, row}
use Rattle.cb_evict.specs.BeginRule.{no_parities}
use Rattle.cb_evict.specs.InstallRule.{HasInstalled, InstallStep, IsOfAnother, kept_behind, with_made, with_parities}
use Rattle.cb_evict.specs.ShipRule.{AreMadeOf, MadeFor, is_data, made_before, made_here}
use Rattle.cb_evict.proofs.Options.{some_same}
use Rattle.cb_evict.proofs.WorkedShip.{far}

-- a batch of one span, whose parity is not made
abbrev unmade : LeavingState
unmade = record {
  set = 3;
  pages = 1;
  frames = 2 ∷ [];
  words = [];
  made = false;
  parities = no_parities 1;
  shards = None ∷ None ∷ [];
}

abbrev leaving : FarState
leaving = far (Some unmade)

abbrev order : ℕ → EncodeOrder
order set = record { set = set; k = 1; r = 1; rows = row ∷ [] }

abbrev after : FarState
after = with_made leaving unmade (row ∷ [])

-- ---- an install
installed : HasInstalled leaving after answer.Done (order 3)
installed = record {
  batch = unmade;
  there = refl;
  same = refl;
  reply = refl;
  parities = row ∷ [];
  count = refl;
  encoded = is_word.is_word;
  bytes = is_word.bytes;
  state = refl;
}

installs : InstallStep leaving after answer.Done (Some (Encode (order 3))) None
installs = inr (inr (installed, refl))

-- not in a batch of another number
not_of_another : (r : Reply) (new : FarState) → HasInstalled leaving new r (order 4) → ⊥
not_of_another r new a =
    let b = some_same unmade a.batch a.there in
    let e : 3 ≡ 4 = ap (λ (c : LeavingState). c.set) b ∙ a.same in omega (arith, e)

-- the batch has its parities then
not_unmade : (r : Reply) → HasInstalled leaving leaving r (order 3) → ⊥
not_unmade r a =
    let e = some_same unmade (with_parities a.batch a.parities)
    (ap (λ (f : FarState). f.leaving) a.state) in
    false≢true (ap (λ (c : LeavingState). c.made) e)

not_told_otherwise : (new : FarState) → HasInstalled leaving new answer.NoBatch (order 3) → ⊥
not_told_otherwise new a = let e : answer.NoBatch ≡ answer.Done = a.reply in cc

-- the order's number is told, where another batch leaves
another : IsOfAnother leaving leaving (answer.Changed (record { n = 4 })) (order 4)
another = record {
  batch = unmade;
  there = refl;
  other = λ e. omega (arith, e);
  reply = refl;
  state = refl;
}

not_its_own : (r : Reply) (new : FarState) → IsOfAnother leaving new r (order 3) → ⊥
not_its_own r new a = a.other (sym (ap (λ (c : LeavingState). c.set)
    (some_same unmade a.batch a.there)))

changed_is : (a b : SetId) → answer.Changed a ≡ answer.Changed b → a ≡ b
changed_is a b e = cc

not_the_batch : (new : FarState)
    → IsOfAnother leaving new (answer.Changed (record { n = 3 })) (order 4) → ⊥
not_the_batch new a =
    let e : 3 ≡ 4 = ap (λ (id : SetId). id.n) (changed_is _ _ a.reply) in omega (arith, e)

-- no order, or one of the other kind
none_kept : InstallStep leaving leaving answer.NoOrder None None
none_kept = (record { reply = refl; state = refl }, refl)

other_kind : (o : DecodeOrder)
    → InstallStep leaving leaving answer.NoOrder (Some (Decode o)) (Some (Decode o))
other_kind o = (record { reply = refl; state = refl }, refl)

-- which stays with the seat
not_dropped : (o : DecodeOrder) → InstallStep leaving leaving answer.NoOrder (Some (Decode o)) None → ⊥
not_dropped o x = let e : None ≡ Some (Decode o) = x.1 in cc

taken : kept_behind answer.Done (Some (Encode (order 3))) ≡ None
taken = refl

-- ---- parities that a ship makes
are_made : AreMadeOf unmade (row ∷ []) (row ∷ [])
are_made = record {
  range = record {
    data_least = lit≤ tt;
    data_most = lit≤ tt;
    parities_least = lit≤ tt;
    parities_most = lit≤ tt;
  };
  count = refl;
  word = is_word;
}

-- an empty parity is none of that row
not_empty : AreMadeOf unmade (row ∷ []) ([] ∷ []) → ⊥
not_empty a =
    let same : 0 ≡ length row = a.word.is_word.equal_lengths 1 [] (lit< tt) in
    let wide : length row ≡ 4096 = a.word.wide in omega (arith, same, wide)

-- and there is one
not_two : AreMadeOf unmade (row ∷ []) (row ∷ row ∷ []) → ⊥
not_two a = let e : 2 ≡ 1 = a.count in omega (arith, e)

makes : MadeFor unmade (row ∷ []) 1 (with_parities unmade (row ∷ []))
makes = made_here refl (lit≤ tt) (row ∷ []) are_made refl

reads_alone : MadeFor unmade (row ∷ []) 0 unmade
reads_alone = is_data (lit< tt) refl

-- no parity is put of a batch that has none
not_as_it_is : MadeFor unmade (row ∷ []) 1 unmade → ⊥
not_as_it_is (made_before same e) = false≢true same
not_as_it_is (is_data below e) = omega (arith, below)
not_as_it_is (made_here bare behind parities x e) =
    false≢true (ap (λ (c : LeavingState). c.made) e)
