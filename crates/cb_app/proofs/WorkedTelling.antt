-- Worked examples: what answers tell of epochs, of what was lost, of room and of what is worn, and
-- what a world tells of the workers; and what breaks each.
use Rattle.std.proofs.Common.{◌≡◌, ℕ, ◌^◌, ◌-◌, List, [], ◌∷◌, inl, inr, refl, arith}
use Rattle.std.proofs.lemmas.List.Sorted.{length_permutation, sum_by-IsPermutation}
use Rattle.cb_member.specs.declared.names.Loss.{Loss}
use Rattle.cb_types.specs.declared.answer.Answer.{Answer}
use Rattle.cb_types.specs.declared.config.Config.{Config}
use Rattle.cb_types.specs.declared.reply.Reply.{Reply}
use Rattle.cb_types.specs.declared.reply.Reply.TheVariants.{Down, EpochAt, Freed, NoNodes, NoRoom, NoSpans, Unavailable, Worn}
use Rattle.cb_types.specs.declared.request.Request.{Request}
use Rattle.cb_types.specs.declared.request.Request.TheVariants.{Crash, Join}
use Rattle.cb_world.specs.FarState.{FarState}
use Rattle.cb_workers.specs.declared.worker.Worker.TheVariants as worker
use Rattle.cb_app.specs.Telling.{AreEpochs, CountsWorkers, TellsLost, TellsRoom, TellsWorn, epochs_of}

abbrev small : Config
small = record { k = 2; r = 1; nodes = 4; frames = 3; room = 64; handles = 16; turns = 0 }

-- ---- epochs: lane 1 joined node 0 after lane 2 had it crash, and lane 2 did not get at it again
abbrev answer : ℕ → ℕ → Request → Reply → Answer
answer lane line request reply =
    record { lane = record { n = lane }; line = line; request = request; reply = reply }

abbrev at : ℕ → Reply
at n = EpochAt (record { n = n })

abbrev joined : Answer
joined = answer 1 5 (Join (record { n = 0 })) (at 2)

abbrev crashed : Answer
crashed = answer 2 2 (Crash (record { n = 0 })) (at 1)

abbrev refused : Answer
refused = answer 2 3 (Crash (record { n = 0 })) (Down (record { n = 0 }))

two_epochs_told : epochs_of (joined ∷ crashed ∷ refused ∷ []) ≡ 2 ∷ 1 ∷ []
two_epochs_told = refl

both : AreEpochs 2 (joined ∷ crashed ∷ refused ∷ [])
both = record { moves = (0, 1) ∷ []; below = (omega arith, omega arith, tt); is = refl }

-- one is left out, there is one more, or one stands twice
left_out : AreEpochs 2 (crashed ∷ refused ∷ []) → ⊥
left_out are = let e = length_permutation (1 ∷ []) (1 ∷ 2 ∷ []) are in omega (arith, e)

past_the_last : AreEpochs 1 (joined ∷ crashed ∷ []) → ⊥
past_the_last are = let e = length_permutation (2 ∷ 1 ∷ []) (1 ∷ []) are in omega (arith, e)

twice : AreEpochs 2 (crashed ∷ crashed ∷ []) → ⊥
twice are =
    let e = sum_by-IsPermutation (λ (n : ℕ). n) (1 ∷ 1 ∷ []) (1 ∷ 2 ∷ []) are in
    let a : 3 ≡ 2 = e in omega (arith, a)

-- ---- losses: two crashes took place
abbrev loss : ℕ → ℕ → Loss
loss node epoch = record { node = record { n = node }; epoch = record { n = epoch } }

abbrev losses : List Loss
losses = loss 0 1 ∷ loss 3 2 ∷ []

abbrev lost : List Loss → Reply
lost ls = Unavailable (record { n = 7 }) ls

by_both : TellsLost small losses (lost (loss 3 2 ∷ loss 0 1 ∷ []))
by_both = record {
  many = omega arith;
  apart = ((λ e. absurd (omega (arith, e)), tt), (tt, tt));
  among = ((1, omega arith, refl), ((0, omega arith, refl), tt));
}

-- as many as the set has parities
too_few : TellsLost small losses (lost (loss 3 2 ∷ [])) → ⊥
too_few tells = let few = tells.many in omega (arith, few)

-- by two crashes of one node
one_node : TellsLost small (loss 3 2 ∷ loss 3 4 ∷ []) (lost (loss 3 2 ∷ loss 3 4 ∷ [])) → ⊥
one_node tells = tells.apart.0.0 refl

-- by a crash that did not take place
never : TellsLost small [] (lost (loss 3 2 ∷ loss 0 1 ∷ [])) → ⊥
never tells = let low = tells.among.0.1 in omega (arith, low)

-- ---- room
few_spans : TellsRoom small (NoRoom 3 1 4)
few_spans = (refl, inl (omega arith))

few_nodes : TellsRoom small (NoRoom 3 2 2)
few_nodes = (refl, inr (omega arith))

other_frames : TellsRoom small (NoRoom 4 1 2) → ⊥
other_frames tells = let e = tells.0 in omega (arith, e)

enough : TellsRoom small (NoRoom 3 2 3) → ⊥
enough tells = elim tells.1 [
  | inl few ↦ omega (arith, few)
  | inr few ↦ omega (arith, few)
]

-- an eviction finds one loose span, or two nodes with room
spans_short : TellsRoom small (NoSpans 1)
spans_short = omega arith

spans_enough : TellsRoom small (NoSpans 2) → ⊥
spans_enough few = omega (arith, few)

nodes_short : TellsRoom small (NoNodes 2)
nodes_short = omega arith

nodes_enough : TellsRoom small (NoNodes 3) → ⊥
nodes_enough few = omega (arith, few)

-- ---- worn: once 2^40 turns were counted, and before
worn_at_last : TellsWorn (2 ^ 40) Worn
worn_at_last = omega arith

worn_too_early : TellsWorn (2 ^ 40 - 1) Worn → ⊥
worn_too_early last = omega (arith, last)

not_worn : TellsWorn 7 Freed
not_worn = tt

-- ---- workers: what was counted of their jobs, from the filter's on
abbrev counting : FarState → ℕ → List ℕ → FarState
counting far turns jobs = record far {
  counts = record { turns = turns; by_job = 1 ∷ 0 ∷ 0 ∷ 0 ∷ 0 ∷ jobs; sets = 0; keys = 0 };
}

module _ (far : FarState) where
  -- two turns of each: of the filter, of batches, of pairs and of the rebuild
  two_each : CountsWorkers 2 (counting far 9
      (2 ∷ 0 ∷ 0 ∷ 0 ∷ 0 ∷ 0 ∷ 1 ∷ 0 ∷ 0 ∷ 1 ∷ 0 ∷ 2 ∷ 0 ∷ 0 ∷ 1 ∷ 1 ∷ []))
  two_each few worker.Filter = omega arith
  two_each few worker.Evict = omega arith
  two_each few worker.Compact = omega arith
  two_each few worker.Rebuild = omega arith

  -- so of a ship and a commit, and of a patch and a merge
  other_steps : CountsWorkers 2 (counting far 9
      (2 ∷ 0 ∷ 0 ∷ 1 ∷ 1 ∷ 0 ∷ 0 ∷ 1 ∷ 1 ∷ 0 ∷ 0 ∷ 2 ∷ 0 ∷ 0 ∷ 0 ∷ 0 ∷ []))
  other_steps few worker.Filter = omega arith
  other_steps few worker.Evict = omega arith
  other_steps few worker.Compact = omega arith
  other_steps few worker.Rebuild = omega arith

  -- one of the filter
  few_visits : CountsWorkers 2 (counting far 9
      (1 ∷ 0 ∷ 0 ∷ 0 ∷ 1 ∷ 1 ∷ 1 ∷ 0 ∷ 0 ∷ 1 ∷ 0 ∷ 2 ∷ 0 ∷ 0 ∷ 0 ∷ 0 ∷ []))
      → ⊥
  few_visits are = let two = are (omega arith) worker.Filter in omega (arith, two)

  -- one step of a batch, and an eviction and a begin, which no worker makes
  few_steps : CountsWorkers 2 (counting far 9
      (2 ∷ 1 ∷ 1 ∷ 0 ∷ 0 ∷ 0 ∷ 1 ∷ 0 ∷ 0 ∷ 1 ∷ 0 ∷ 2 ∷ 0 ∷ 0 ∷ 1 ∷ 0 ∷ []))
      → ⊥
  few_steps are = let two = are (omega arith) worker.Evict in omega (arith, two)

  -- one step of a pair, and a compaction at once
  few_pairs : CountsWorkers 2 (counting far 9
      (2 ∷ 0 ∷ 0 ∷ 1 ∷ 0 ∷ 0 ∷ 1 ∷ 0 ∷ 0 ∷ 0 ∷ 1 ∷ 2 ∷ 0 ∷ 0 ∷ 1 ∷ 0 ∷ []))
      → ⊥
  few_pairs are = let two = are (omega arith) worker.Compact in omega (arith, two)

  -- one rebuild, and a crash
  few_rebuilds : CountsWorkers 2 (counting far 9
      (2 ∷ 0 ∷ 0 ∷ 1 ∷ 0 ∷ 0 ∷ 1 ∷ 0 ∷ 0 ∷ 1 ∷ 0 ∷ 1 ∷ 1 ∷ 0 ∷ 1 ∷ 0 ∷ []))
      → ⊥
  few_rebuilds are = let two = are (omega arith) worker.Rebuild in omega (arith, two)

  -- nothing is told where 2^40 turns were counted
  none_past_the_last : CountsWorkers 2 (counting far (2 ^ 40) [])
  none_past_the_last few w = absurd (omega (arith, few))
