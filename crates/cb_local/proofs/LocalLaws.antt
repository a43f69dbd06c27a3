-- What a turn rests on where the compute side joins two sets: the laws of the whole step.
use Rattle.std.proofs.Common.{◌≡◌, ℕ, ◌≤◌, refl, sym, ap, ◌∙◌, subst, arith, inl, inr}
use Rattle.cb_member.specs.declared.names.NodeId.{NodeId}
use Rattle.cb_set.specs.SetState.{parities}
use Rattle.cb_types.specs.declared.config.Config.{Config}
use Rattle.cb_types.specs.declared.reply.Reply.{Reply}
use Rattle.cb_types.specs.declared.reply.Reply.TheVariants as answer
use Rattle.cb_types.specs.declared.request.Request.TheVariants as line
use Rattle.cb_world.specs.declared.shown.Shown.{Shown}
use Rattle.cb_world.specs.Codes.{IsCodeOf}
use Rattle.cb_world.specs.FarState.{FarState}
use Rattle.cb_world.specs.Pairs.{HoldsNoPair}
use Rattle.cb_world.specs.Sound.{Sound}
use Rattle.cb_world.proofs.Laws.{KeepsHolding, StaysBy, StaysIfBy, codes_stay, codes_then, have_codes, rises_more, stays_noted, stays_same}
use Rattle.cb_compact.specs.NowGoing.{with_keys}
use Rattle.cb_compact.specs.CompactStep.{CompactStep, PairEnds}
use Rattle.cb_compact.specs.PairStep.{live_positions}
use Rattle.cb_compact.proofs.Laws.{AreFarLaws, LeavesLocal, begin_laws, first_fixed, leaves_both, leaves_local, local_of, now_given, now_laws}
use Rattle.cb_local.specs.Fetching.{far_given, rows_given}
use Rattle.cb_local.specs.LocalStep.{IsBesideNodes, IsMergedHere, IsNotMerged, LocalStep}
use Rattle.cb_local.proofs.Finishing.{rows_few}
use Rattle.cb_local.proofs.LocalKeeps.{local_keeps, paired_fresh}

-- ---- a refusal leaves the far state as it was, or as the nodes' turn leaves it
data IsEither (far mid new : FarState) : Type 0 where
  as_it_was : new ≡ far → IsEither far mid new
  as_there : new ≡ mid → IsEither far mid new

either : (far mid new : FarState) (r : Reply) → CompactStep far mid r → IsNotMerged far mid new r
    → ((node : NodeId) → r ≡ answer.NodeFull node → new ≡ far) → IsEither far mid new
either far mid new r (inl x) z full =
    as_it_was (z.state ∙ ap (λ (f : FarState). with_keys f far.counts.keys) x.state)
either far mid new r (inr (inl x)) z full =
    as_there (z.state ∙ ap (with_keys mid) (sym (ap (λ (f : FarState). f.counts.keys) x.state)))
either far mid new r (inr (inr x)) z full = by x.ends
  where
    by : PairEnds x.stepped mid r → IsEither far mid new
    by (inl y) = as_it_was (full y.node y.reply)
    by (inr y) = absurd (z.refusal y.set y.moved y.reply)

-- ---- what stays
-- what is noted of a search looks at no count of rows
given_holds : (far : FarState) (rows : ℕ) → HoldsNoPair far → HoldsNoPair (far_given far rows)
given_holds far rows holds n e = let x = holds n e in (
  x.0,
  λ now i j c d less can. x.1 now i j c d less (record {
    a_there = can.a_there;
    b_there = can.b_there;
    data_count = can.data_count;
    parity_count = can.parity_count;
    matched = can.matched;
  }),
)

given_stays : (c : Config) (far mid : FarState) (rows : ℕ) → rows ≤ 36
    → mid.nodes.given ≡ far.nodes.given → StaysBy KeepsHolding c 20 far mid
    → StaysBy KeepsHolding c 36 far (far_given mid rows)
given_stays c far mid rows few same z =
    let given = codes_stay mid (far_given mid rows) refl refl refl refl in
    let r = z.rises in let sets = r.sets in let keys = r.keys in let epoch = r.epoch in record {
      configured = record {
        frames = z.configured.frames;
        homes = z.configured.homes;
        nodes = z.configured.nodes;
        room = z.configured.room;
        codes = have_codes (IsCodeOf c) mid (far_given mid rows) given z.configured.codes;
      };
      codes = codes_then far mid (far_given mid rows) z.codes given;
      rises = record {
        turns = r.turns;
        by_job = r.by_job;
        sets = omega (arith, sets);
        keys = omega (arith, keys);
        epoch = omega (arith, epoch);
        given = omega (arith, few, same);
        note = λ holds. given_holds mid rows (r.note holds);
      };
    }

more_stays : (c : Config) (n : ℕ) (far new : FarState) → n ≤ 36 → StaysBy KeepsHolding c n far new
    → StaysBy KeepsHolding c 36 far new
more_stays c n far new few z = record {
  configured = z.configured;
  codes = z.codes;
  rises = rises_more n 36 far new few z.rises;
}

-- no more rows are given than a pair of sets has
merged_few : (s : Shown) (far mid new : FarState) (r : Reply) → Sound s far
    → (y : IsMergedHere far mid new r)
    → rows_given (live_positions y.pair.b) (parities y.pair.a) ≤ 36
merged_few s far mid new r sound y =
    rows_few s y.begun _ y.pair.a y.pair.b
    (begin_laws.keeps s far y.begun y.begins sound (inr (inr y.pair))).sound
    (paired_fresh far y.begun y.begins y.pair)

local_stays : (c : Config) (s : Shown) (far new : FarState) (r : Reply) → Sound s far
    → LocalStep far new r → StaysIfBy KeepsHolding c 36 far new
local_stays c s far new r sound x is = by x.beside
  where
    at_mid : StaysBy KeepsHolding c 20 far x.mid
    at_mid = now_laws.stays c s far x.mid r sound x.same is

    refused : IsEither far x.mid new → StaysBy KeepsHolding c 36 far new
    refused (as_it_was e) =
        more_stays c 1 far new (omega arith)
        (subst (λ (f : FarState). StaysBy KeepsHolding c 1 far f) (sym e)
        (stays_noted _ KeepsHolding c 1 far far (λ holds. holds)
        (stays_same c 1 far far (omega arith) refl is)))
    refused (as_there e) =
        subst (StaysBy KeepsHolding c 36 far) (sym e)
        (more_stays c 20 far x.mid (omega arith) at_mid)

    by : IsBesideNodes far x.mid new r → StaysBy KeepsHolding c 36 far new
    by (inl y) = refused (either far x.mid new r x.same y x.full)
    by (inr y) = subst (StaysBy KeepsHolding c 36 far) (sym y.state)
        (given_stays c far x.mid _ (merged_few s far x.mid new r sound y)
        (now_given far x.mid r x.same) at_mid)

-- ---- local memory
local_leaves : (far new : FarState) (r : Reply) → LocalStep far new r → LeavesLocal far new
local_leaves far new r x = elim x.beside [
  | inl y ↦ as_mid (ap local_of y.state)
  | inr y ↦ as_mid (ap local_of y.state)
]
  where
    as_mid : local_of new ≡ local_of x.mid → LeavesLocal far new
    as_mid e = leaves_both far x.mid new (now_laws.leaves far x.mid r x.same)
        (leaves_local x.mid new e)

-- ---- one reply and one far state
-- beside one far state stands one, by the reply
pub beside_fixed : (far mid there new other : FarState) (r q : Reply) → r ≡ q → mid ≡ there
    → IsBesideNodes far mid new r → IsBesideNodes far there other q → new ≡ other
beside_fixed far mid there new other r q e f (inl a) (inl b) =
    a.state ∙ ap (λ (m : FarState). with_keys m far.counts.keys) f ∙ sym b.state
beside_fixed far mid there new other r q e f (inl a) (inr b) =
    absurd (a.refusal b.set b.moved (e ∙ b.reply))
beside_fixed far mid there new other r q e f (inr a) (inl b) =
    absurd (b.refusal a.set a.moved (sym e ∙ a.reply))
beside_fixed far mid there new other r q e f (inr a) (inr b) =
    let same = first_fixed far a.pair.x a.pair.y b.pair.x b.pair.y a.pair.a a.pair.b b.pair.a
    b.pair.b a.pair.first b.pair.first in
    a.state
    ∙ (λ i. far_given (f i) (rows_given (live_positions (same.b_is i)) (parities (same.a_is i))))
    ∙ sym b.state

local_fixes : (s : Shown) (far new other : FarState) (r q : Reply) → Sound s far
    → LocalStep far new r → LocalStep far other q → (r ≡ q) × (new ≡ other)
local_fixes s far new other r q sound x y =
    let e = now_laws.fixes s far x.mid y.mid r q sound x.same y.same in
    (e.0, beside_fixed far x.mid y.mid new other r q e.0 e.1 x.beside y.beside)

-- ---- want of memory
-- so many rows may have been given
pub lack_stays : (c : Config) (far new : FarState) (rows : ℕ) → rows ≤ 36
    → new ≡ far_given far rows → StaysIfBy KeepsHolding c 36 far new
lack_stays c far new rows few same is =
    subst (StaysBy KeepsHolding c 36 far) (sym same) (given_stays c far far rows few refl
    (stays_noted _ KeepsHolding c 20 far far (λ holds. holds)
    (stays_same c 20 far far (omega arith) refl is)))

-- ---- all of it
pub local_laws : AreFarLaws KeepsHolding 36 line.Compact LocalStep
local_laws = record {
  stays = local_stays;
  keeps = local_keeps;
  leaves = local_leaves;
  fixes = local_fixes;
  answers = λ far new r x. now_laws.answers far x.mid r x.same;
  framed = λ far new r x e. now_laws.framed far x.mid r x.same e;
}
