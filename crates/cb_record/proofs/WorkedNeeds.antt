-- Worked needs: what an answer needs, a part that has it, and what breaks one part alone.
use Rattle.std.proofs.Common.{◌≡◌, ℕ, ◌-◌, ◌^◌, true, false, List, [], ◌∷◌, get_or, Option, Some, None, sym, refl, ap, ◌∙◌, subst, inl, inr, ⊎_elim, true≢false, arith}
use Rattle.cb_ptr.specs.Word.{len_of, pins_of, state_of}
use Rattle.cb_ptr.specs.declared.word.State.TheVariants as state
use Rattle.cb_types.specs.declared.job.Job.{Job}
use Rattle.cb_types.specs.declared.job.Job.TheVariants as job
use Rattle.cb_types.specs.declared.reply.Reply.TheVariants as answer
use Rattle.cb_types.specs.declared.request.Request.TheVariants as request
use Rattle.cb_world.specs.Empty.{empty_far}
use Rattle.cb_world.specs.FarState.{FarState}
use Rattle.cb_world.specs.Memory.{bytes_in}
use Rattle.cb_rule.specs.declared.turn.Turn.{Turn}
use Rattle.cb_rule.specs.declared.view.Look.{Look}
use Rattle.cb_rule.specs.declared.view.Seen.{Seen}
use Rattle.cb_record.specs.Needs.{ArePeeked, FindsEmpty, FindsPast, FindsPins, IsFreedAs, IsJobFor, IsLastOf, IsOwnTurn, IsPinnedAs, IsReadAs, IsTurnFor, Meets, need_of, peek_at, the_object}
use Rattle.cb_record.specs.Needs.Need.{Nothing, ARead, APin, APeek, AFreed, APinned, AnEnd, AWorn, ATurn}
use Rattle.cb_record.specs.Parts.{nothing_more}
use Rattle.cb_record.proofs.Replied.{same_bytes}
use Rattle.cb_record.proofs.WorkedJobs.{swaps_another}

-- ---- what answers need
read_needs : need_of (Some 3) (request.Read (97 ∷ [])) (answer.Bytes 2 (1 ∷ 2 ∷ []))
    ≡ ARead 3 2 (1 ∷ 2 ∷ [])
read_needs = refl

pin_needs : need_of (Some 3) (request.Pin (97 ∷ [])) (answer.Version 2) ≡ APin 3 2
pin_needs = refl

peek_needs : need_of (Some 3) (request.Peek (97 ∷ [])) (answer.Bytes 2 (1 ∷ 2 ∷ []))
    ≡ APeek 3 2 (1 ∷ 2 ∷ [])
peek_needs = refl

freed_needs : need_of (Some 3) (request.Write (97 ∷ []) 0 []) answer.Freed ≡ AFreed 3
freed_needs = refl

pinned_needs : need_of (Some 3) (request.Free (97 ∷ [])) (answer.Pinned 1)
    ≡ APinned (Some (job.Free (record { n = 3 }))) 3 1
pinned_needs = refl

full_needs : need_of None (request.Make (97 ∷ []) []) (answer.Full 4)
    ≡ ATurn (Some (job.Make [])) None (answer.Full 4)
full_needs = refl

-- a pin that finds no room needs a turn that brings the object in
room_needs : need_of (Some 3) (request.Pin (97 ∷ [])) (answer.NoRoom 1 0 7)
    ≡ ATurn None (Some 3) (answer.NoRoom 1 0 7)
room_needs = refl

end_needs : need_of (Some 3) (request.Write (97 ∷ []) 2 (1 ∷ [])) (answer.Range 2)
    ≡ AnEnd (Some (job.Write (record { n = 3 }) 2 (1 ∷ []))) 3 2 1 2
end_needs = refl

-- a free that is worn needs a turn of its own, and a read one that brings the object in
worn_needs : need_of (Some 3) (request.Free (97 ∷ [])) answer.Worn
    ≡ ATurn (Some (job.Free (record { n = 3 }))) (Some 3) answer.Worn
worn_needs = refl

worn_read_needs : need_of (Some 3) (request.Read (97 ∷ [])) answer.Worn
    ≡ ATurn (Some (job.Read (record { n = 3 }))) (Some 3) answer.Worn
worn_read_needs = refl

-- but a write may have found it so in place
worn_write_needs : need_of (Some 3) (request.Write (97 ∷ []) 0 []) answer.Worn
    ≡ AWorn (Some (job.Write (record { n = 3 }) 0 [])) 3
worn_write_needs = refl

-- a version that was written needs nothing but its entry
written_needs : need_of (Some 3) (request.Write (97 ∷ []) 0 []) (answer.Version 2) ≡ Nothing
written_needs = refl

-- ---- the two bytes 1 and 2 in one word, read at version 2
abbrev seen_two : Seen
seen_two = record { handle = 3; version = 2; len = 2; freed = false; words = 513 ∷ [] }

two_bytes : bytes_in (513 ∷ []) 2 ≡ 1 ∷ 2 ∷ []
unfolding bytes_in
two_bytes = refl

read_so : IsReadAs 3 2 (1 ∷ 2 ∷ []) seen_two
read_so = (refl, refl, refl, sym two_bytes)

read_of_another : IsReadAs 4 2 (1 ∷ 2 ∷ []) seen_two → ⊥
read_of_another r = let e = r.0 in omega (arith, e)

read_of_old : IsReadAs 3 1 (1 ∷ 2 ∷ []) seen_two → ⊥
read_of_old r = let e = r.1 in omega (arith, e)

read_of_freed : IsReadAs 3 2 (1 ∷ 2 ∷ []) (record seen_two { freed = true }) → ⊥
read_of_freed r = true≢false r.2

abbrev second : List ℕ → ℕ
second [] = 0
second (x ∷ []) = 0
second (x ∷ y ∷ xs) = y

read_other_bytes : IsReadAs 3 2 (1 ∷ 3 ∷ []) seen_two → ⊥
read_other_bytes r =
    let e : 3 ≡ 2 = ap second (r.3 ∙ two_bytes) in omega (arith, e)

pinned_so : IsPinnedAs 3 2 seen_two
pinned_so = (refl, refl, refl)

pinned_freed : IsPinnedAs 3 2 (record seen_two { freed = true }) → ⊥
pinned_freed p = true≢false p.2

freed_so : IsFreedAs 3 (record seen_two { freed = true })
freed_so = (refl, refl)

freed_not : IsFreedAs 3 seen_two → ⊥
freed_not f = true≢false (sym f.1)

-- ---- parts that have it, and parts that have nothing
has_read : Meets (record nothing_more { seen = seen_two ∷ [] }) (ARead 3 2 (1 ∷ 2 ∷ []))
has_read = inl read_so

has_no_read : Meets nothing_more (ARead 3 2 (1 ∷ 2 ∷ [])) → ⊥
has_no_read m = m

has_pin : Meets (record nothing_more { seen = seen_two ∷ [] }) (APin 3 2)
has_pin = inl pinned_so

has_no_pin : Meets nothing_more (APin 3 2) → ⊥
has_no_pin m = m

-- ---- words that were peeked
peeked_so : ArePeeked 3 2 (1 ∷ 2 ∷ []) (peek_at 3 2 (513 ∷ []) 0 ∷ [])
peeked_so = record {
  words = 513 ∷ [];
  bytes_are = sym two_bytes;
  each = λ j low. let none : 0 ≡ j = omega (arith, low) in
      inl (ap (peek_at 3 2 (513 ∷ [])) none);
}

peeked_nothing : ArePeeked 3 2 (1 ∷ 2 ∷ []) [] → ⊥
peeked_nothing p = p.each 0 (omega arith)

peeked_other_bytes : ArePeeked 3 2 (1 ∷ 3 ∷ []) (peek_at 3 2 (513 ∷ []) 0 ∷ []) → ⊥
peeked_other_bytes p = ⊎_elim
    (λ (e : peek_at 3 2 (513 ∷ []) 0 ≡ peek_at 3 2 p.words 0).
    let word = ap (λ q. q.word) e in
    let e : 3 ≡ 2 = ap second (p.bytes_are
    ∙ same_bytes p.words (513 ∷ []) 2 (λ j low. let none : 0 ≡ j = omega (arith, low) in
    subst (λ (n : ℕ). get_or p.words n 0 ≡ get_or (513 ∷ []) n 0) none (sym word)) ∙ two_bytes) in
    omega (arith, e)) (λ none. none) (p.each 0 (omega arith))

-- ---- looks
empty_look : (l : Look) → l.handle ≡ 3 → state_of l.word ≡ state.Empty → FindsEmpty 3 l
empty_look l on empty = (on, empty)

pins_look : (l : Look) → l.handle ≡ 3 → pins_of l.word ≡ 1 → FindsPins 3 1 l
pins_look l on one = (on, one)

other_pins : (l : Look) → pins_of l.word ≡ 2 → FindsPins 3 1 l → ⊥
other_pins l two f = let e = f.1 in omega (arith, two, e)

-- an object of two bytes was found
end_look : (l : Look) → l.handle ≡ 3 → state_of l.word ≡ state.Here → len_of l.word ≡ 2
    → FindsPast 3 2 1 2 l
end_look l on here two = (on, here, two, omega arith)

end_within : (l : Look) → FindsPast 3 1 1 2 l → ⊥
end_within l f = let e = f.3 in omega (arith, e)

end_of_another : (l : Look) → len_of l.word ≡ 2 → FindsPast 3 4 1 3 l → ⊥
end_of_another l two f = let e = f.2 in omega (arith, e, two)

end_of_a_moving : (l : Look) → state_of l.word ≡ state.Moving → FindsPast 3 2 1 2 l → ⊥
end_of_a_moving l moving f = let e : state.Moving ≡ state.Here = sym moving ∙ f.1 in cc

end_found : (l : Look) → FindsPast 3 2 1 2 l
    → Meets (record nothing_more { looks = l ∷ [] }) (AnEnd None 3 2 1 2)
end_found l found = inl (inl found)

end_unlooked : (own : Option Job) → Meets nothing_more (AnEnd own 3 2 1 2) → ⊥
end_unlooked own (inl m) = m
end_unlooked own (inr m) = m

-- the last version of the object was read
abbrev seen_last : Seen
seen_last = record seen_two { version = 2 ^ 64 - 1 }

last_so : IsLastOf 3 seen_last
last_so = (refl, refl)

last_of_another : IsLastOf 4 seen_last → ⊥
last_of_another l = let e = l.0 in omega (arith, e)

last_but_one : IsLastOf 3 (record seen_two { version = 2 ^ 64 - 2 }) → ⊥
last_but_one l = let e : 2 ^ 64 - 2 ≡ 2 ^ 64 - 1 = l.1 in omega (arith, e)

worn_found : Meets (record nothing_more { seen = seen_last ∷ [] }) (AWorn None 3)
worn_found = inl (inl last_so)

worn_unread : (own : Option Job) → Meets nothing_more (AWorn own 3) → ⊥
worn_unread own (inl m) = m
worn_unread own (inr m) = m

-- freed is told by an entry and by a look
freed_found : (l : Look) → FindsEmpty 3 l
    → Meets (record nothing_more { seen = record seen_two { freed = true } ∷ []; looks = l ∷ [] }) (AFreed 3)
freed_found l found = (inl freed_so, inl found)

freed_unread : (l : Look) → Meets (record nothing_more { looks = l ∷ [] }) (AFreed 3) → ⊥
freed_unread l m = m.0

freed_unlooked : Meets (record nothing_more { seen = record seen_two { freed = true } ∷ [] }) (AFreed 3) → ⊥
freed_unlooked m = m.1

pins_found : (l : Look) → FindsPins 3 1 l
    → Meets (record nothing_more { looks = l ∷ [] }) (APinned None 3 1)
pins_found l found = inl (inl found)

pins_unlooked : (own : Option Job) → Meets nothing_more (APinned own 3 1) → ⊥
pins_unlooked own (inl m) = m
pins_unlooked own (inr m) = m

pins_told : (t : Turn) → IsTurnFor (Some (job.Free (record { n = 3 }))) (Some 3) (answer.Pinned 1) t
    → Meets (record nothing_more { turns = t ∷ [] }) (APinned (Some (job.Free (record { n = 3 }))) 3 1)
pins_told t of = inr (inl of)

-- ---- turns
-- a code of one data shard, and no span in local memory
abbrev no_spans : FarState
no_spans = record (empty_far 1 (record {
  k = 1;
  r = 1;
  nodes = 7;
  frames = 1;
  room = 1;
  handles = 4;
  turns = 0;
})) { spans = [] }

module _ (t : Turn) where
  own_turn : IsTurnFor (Some (job.Make [])) None (answer.Full 4)
      (record t { job = job.Make []; reply = Some (answer.Full 4) })
  own_turn = (refl, refl, refl)

  abbrev swap_told : ℕ → Turn
  swap_told frames = record t {
    job = job.Swap (the_object 3);
    reply = Some (answer.NoRoom frames 0 7);
    gave = no_spans;
  }

  brought_in : IsTurnFor None (Some 3) (answer.NoRoom 1 0 7) (swap_told 1)
  brought_in = (refl, inr (inl (inl refl)), refl)

  not_fetched : {lost : _}
      → IsTurnFor None (Some 3) (answer.Unavailable (record { n = 2 }) lost) (record t {
        job = job.Fetch (the_object 3);
        reply = Some (answer.Unavailable (record { n = 2 }) lost);
      })
  not_fetched = (refl, inr (inl (inr refl)), refl)

  -- a landing tells of wear, and of nothing that it lacks
  landed_worn : IsTurnFor None (Some 3) answer.Worn
      (record t { job = job.Land; reply = Some answer.Worn })
  landed_worn = (refl, inr (inr refl), refl)

  not_landed : IsTurnFor None (Some 3) (answer.NoRoom 1 0 7)
      (record (swap_told 1) { job = job.Land }) → ⊥
  not_landed i = by i.1
    where
      by : IsJobFor None (Some 3) (answer.NoRoom 1 0 7) job.Land → ⊥
      by (inl e) = cc
      by (inr (inl (inl e))) = cc
      by (inr (inl (inr e))) = cc
      by (inr (inr e)) = e

  -- one that is made again tells no line of too little room
  made_again : IsTurnFor None (Some 3) (answer.NoRoom 362 0 7) (swap_told 362) → ⊥
  made_again i = true≢false i.2

  other_job : IsTurnFor (Some (job.Make [])) None (answer.Full 4)
      (record t { job = job.Evict; reply = Some (answer.Full 4) }) → ⊥
  other_job i = let e = i.1 in cc

  other_reply : IsTurnFor (Some (job.Make [])) None (answer.Full 4)
      (record t { job = job.Make []; reply = Some (answer.Full 5) }) → ⊥
  other_reply i = let e = i.0 in cc

  other_object : IsTurnFor None (Some 3) (answer.NoRoom 1 0 7)
      (record t { job = job.Swap (the_object 4); reply = Some (answer.NoRoom 1 0 7) }) → ⊥
  other_object i = by i.1
    where
      by : IsJobFor None (Some 3) (answer.NoRoom 1 0 7) (job.Swap (the_object 4)) → ⊥
      by (inl e) = cc
      by (inr (inl x)) = swaps_another x
      by (inr (inr x)) = x

  -- the end is told by a turn of its own job alone
  end_told : Meets (record nothing_more {
    turns = record t { job = job.Write (the_object 3) 2 (1 ∷ []); reply = Some (answer.Range 2) } ∷ [];
  }) (AnEnd (Some (job.Write (the_object 3) 2 (1 ∷ []))) 3 2 1 2)
  end_told = inr (inl (refl, refl))

  -- and wear by one that brings its object in as well
  worn_told : Meets (record nothing_more {
    turns = record t { job = job.Write (the_object 3) 2 (1 ∷ []); reply = Some answer.Worn } ∷ [];
  }) (AWorn (Some (job.Write (the_object 3) 2 (1 ∷ []))) 3)
  worn_told = inr (inl (refl, inl refl, refl))

  worn_by_a_fetch : Meets (record nothing_more {
    turns = record t { job = job.Fetch (the_object 3); reply = Some answer.Worn } ∷ [];
  }) (AWorn (Some (job.Write (the_object 3) 2 (1 ∷ []))) 3)
  worn_by_a_fetch = inr (inl (refl, inr (inl (inr refl)), refl))

  worn_by_an_eviction : Meets (record nothing_more {
    turns = record t { job = job.Evict; reply = Some answer.Worn } ∷ [];
  }) (AWorn (Some (job.Write (the_object 3) 2 (1 ∷ []))) 3) → ⊥
  worn_by_an_eviction (inl m) = m
  worn_by_an_eviction (inr (inl i)) = by i.1
    where
      by : IsJobFor (Some (job.Write (the_object 3) 2 (1 ∷ []))) (Some 3) answer.Worn job.Evict
          → ⊥
      by (inl e) = cc
      by (inr (inl (inl e))) = cc
      by (inr (inl (inr e))) = cc
      by (inr (inr e)) = cc
  worn_by_an_eviction (inr (inr m)) = m

  end_by_a_swap : IsOwnTurn (Some (job.Write (the_object 3) 2 (1 ∷ []))) (answer.Range 2)
      (record t { job = job.Swap (the_object 3); reply = Some (answer.Range 2) }) → ⊥
  end_by_a_swap i = let e = i.1 in cc

  turned : Meets (record nothing_more { turns = record t { job = job.Make []; reply = Some (answer.Full 4) } ∷ [] })
      (ATurn (Some (job.Make [])) None (answer.Full 4))
  turned = inl own_turn

  unturned : Meets nothing_more (ATurn (Some (job.Make [])) None (answer.Full 4)) → ⊥
  unturned m = m
