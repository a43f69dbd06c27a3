-- Worked turns: what meets each definition, and what breaks one of its parts alone.
use Rattle.std.proofs.Common.{◌≡◌, ℕ, ◌+◌, ◌^◌, ◌≤◌, true, false, List, [], ◌∷◌, ◌++◌, length}
use Rattle.std.proofs.Common.{replicate, Option, None, Some, Ok, Err, refl, sym, ap, ◌∙◌, subst}
use Rattle.std.proofs.Common.{inl, inr, lit<, lit≤, arith}
use Rattle.std.proofs.lemmas.Bool.{eqb-false}
use Rattle.cb_member.specs.declared.no_memory.NoMemory.{NoMemory}
use Rattle.cb_ptr.specs.Word.{state_number, state_of}
use Rattle.cb_types.specs.declared.handle.Handle.{Handle}
use Rattle.cb_types.specs.declared.job.Job.{Job}
use Rattle.cb_types.specs.declared.job.Job.TheVariants as job
use Rattle.cb_types.specs.declared.order.Kept.{Kept}
use Rattle.cb_types.specs.declared.order.Kept.TheVariants.{Encode}
use Rattle.cb_types.specs.declared.reply.Reply.{Reply}
use Rattle.cb_types.specs.declared.reply.Reply.TheVariants as answer
use Rattle.cb_types.specs.Jobs.{job_index}
use Rattle.cb_world.specs.declared.entry.Entry.{Entry}
use Rattle.cb_world.specs.declared.access.Access.TheVariants.{Looked}
use Rattle.cb_world.specs.declared.shown.Shown.{Shown}
use Rattle.cb_world.specs.Empty.{empty_far, empty_shown}
use Rattle.cb_world.specs.FarState.{FarState}
use Rattle.cb_world.specs.Shown.{version_at}
use Rattle.cb_core.specs.Turned.{counted, done, worn}
use Rattle.cb_core.specs.TurnLeaves.{OutcomeWrites}
use Rattle.cb_rule.specs.declared.turn.Turn.{Turn}
use Rattle.cb_rule.specs.declared.view.Look.{Look}
use Rattle.cb_rule.specs.declared.view.View.{View}
use Rattle.cb_rule.specs.Lists.{Has}
use Rattle.cb_rule.specs.Steps.{AreNew, Knows, look_at}
use Rattle.cb_record.specs.Parts.{Part, grown, nothing_more}
use Rattle.cb_shared.specs.Trying.{again_in, newest_tries, tries_of}
use Rattle.cb_shared.specs.Turning.{AreLooksAt, CountsPins, Did, DidAs, JobReads, KnowsOf}
use Rattle.cb_shared.specs.Turning.{NotesWritten, PinsTold, ReadsByPin, Slate, TellsLost, TellsNoPin}
use Rattle.cb_shared.specs.Turning.{TurnAdds, TurnBy}
use Rattle.cb_shared.specs.Turning.{freed_of, held_by, made_by_turn, object_of, slate_run}
use Rattle.cb_shared.specs.Turning.{turn_part}
use Rattle.cb_shared.proofs.DidAlone.{turn_keeps_order}
use Rattle.cb_shared.proofs.WorkedGround.{a_stand, freed_last, has_last, knows_made, last_is_freed}
use Rattle.cb_shared.proofs.WorkedGround.{made, not_after, not_new, owner, part, part_pinned}
use Rattle.cb_shared.proofs.WorkedGround.{shared_part, two, whole, whole_pinned}

abbrev one : Handle
one = record { n = 1 }

abbrev none : Handle
none = record { n = 0 }

-- ---- a desk of plain data
abbrev begun : Slate
begun = record { known = empty_shown 3 two; acts = [] }

runs_nothing : slate_run begun [] begun
runs_nothing = (refl, tt)

-- an event that is not noted
notes_nothing : slate_run begun (Looked 0 0 ∷ []) begun → ⊥
notes_nothing r = eqb-false 0 1 refl (ap (λ (s : Slate). length s.acts) r.0)

-- ---- a read under a pin does nothing at the desk
reads_bytes : ReadsByPin 1 (held_by (empty_shown 3 two) [] (empty_far 3 two))
    (answer.Bytes 3 (10 ∷ 11 ∷ [])) (held_by (empty_shown 3 two) [] (empty_far 3 two))
reads_bytes = (refl, tt)

reads_and_works : ReadsByPin 1 (held_by (empty_shown 3 two) [] (empty_far 3 two)) answer.Moving
    (held_by (empty_shown 3 two) [] (empty_far 4 two)) → ⊥
reads_and_works r = eqb-false 4 3 refl (ap (λ h. h.far.first) r.0)

reads_done : ReadsByPin 1 (held_by (empty_shown 3 two) [] (empty_far 3 two)) answer.Done
    (held_by (empty_shown 3 two) [] (empty_far 3 two)) → ⊥
reads_done r = r.1

-- ---- a turn that was refused for its number
abbrev full : FarState
full = record (empty_far 3 two) {
  counts = record { turns = 2 ^ 40; by_job = replicate 24 0; sets = 0; keys = 0 };
}

-- both objects were made when the turn began
abbrev pub aged : Shown
aged = record (empty_shown 3 two) { versions = 8 ∷ 8 ∷ [] }

abbrev refused : Turn
refused = record {
  job = job.Evict;
  reply = Some answer.Worn;
  start = aged;
  since = 4;
  until = 4;
  had = made ∷ [];
  left = made ∷ [];
  old = [];
  ended = 0;
  acts = [];
  order = None;
  keeps = None;
  took = full;
  gave = full;
}

refused_did : Did two refused
refused_did = inl (worn refl refl refl (refl, tt), refl)

-- its seat keeps another order behind it
abbrev pub an_order : Kept
an_order = Encode (record { set = 0; k = 1; r = 1; rows = [] })

pub no_order : Some an_order ≡ None → ⊥
no_order e = cc

refused_keeps_another : Did two (record refused { keeps = Some an_order }) → ⊥
refused_keeps_another did =
    no_order (turn_keeps_order two (record refused { keeps = Some an_order }) tt did)

-- what a turn did, but for the order of its seat
abbrev pub DidJob : Turn → Type 0
DidJob t = DidAs two t.job t.reply t.start t.acts t.took t.gave

-- with another reply, another far state given, an event that was not run, or in a far state with
-- fewer turns, it is none
refused_as_done : DidJob (record refused { reply = Some answer.Done }) → ⊥
refused_as_done (worn end is same ran) = done_worn is
  where
    done_worn : answer.Done ≡ answer.Worn → ⊥
    done_worn e = cc
refused_as_done (done few does) = omega (arith, few)

refused_gave_another : DidJob (record refused { gave = record full { first = 4 } }) → ⊥
refused_gave_another (worn end is same ran) = eqb-false 4 3 refl (ap (λ (f : FarState). f.first) same)
refused_gave_another (done few does) = omega (arith, few)

refused_and_looked : DidJob (record refused { acts = Looked 0 0 ∷ [] }) → ⊥
refused_and_looked (worn end is same ran) =
    eqb-false 1 0 refl (ap (λ (t : Slate). length t.acts) ran.0)
refused_and_looked (done few does) = omega (arith, few)

refused_early : DidJob (record refused { reply = None }) → ⊥
refused_early s = let few = s.few in omega (arith, few)

-- ---- its object, its handle and its reply
reads_one : object_of (job.Read one) ≡ Some 1
reads_one = refl

swaps_none : object_of (job.Swap one) ≡ None
swaps_none = refl

knows_one : KnowsOf (job.Write one 0 []) part
knows_one = inl (_, inl refl, refl)

knows_not : KnowsOf (job.Free none) part → ⊥
knows_not (inl (e, inl is, at)) = eqb-false 1 0 refl (ap (λ x. x.handle) is ∙ at)
knows_not (inl (e, inr has, at)) = has
knows_not (inr (s, has, at)) = has

evicts_any : KnowsOf job.Evict part
evicts_any = tt

made_one : made_by_turn (job.Make (10 ∷ [])) (Some (answer.Made one 3)) ≡ 1 ∷ []
made_one = refl

made_none : made_by_turn (job.Read one) (Some (answer.Made one 3)) ≡ []
made_none = refl

freed_one : freed_of (job.Free one) (Ok answer.Freed) ≡ Some 1
freed_one = refl

freed_none : freed_of (job.Free one) (Ok (answer.Version 4)) ≡ None
freed_none = refl

-- ---- looks at an object
two_looks : AreLooksAt 1 record nothing_more { looks = look_at 1 2 ∷ look_at 1 6 ∷ [] }
two_looks = record { looks = look_at 1 2 ∷ look_at 1 6 ∷ []; on = (refl, (refl, tt)); part = refl }

another_look : AreLooksAt 1 record nothing_more { looks = look_at 0 2 ∷ [] } → ⊥
another_look a = go a.looks a.on (ap (λ (d : Part). d.looks) a.part)
  where
    go : (ls : List Look) → Rattle.cb_rule.specs.Lists.Each (λ (l : Look). l.handle ≡ 1) ls
        → look_at 0 2 ∷ [] ≡ ls → ⊥
    go [] on is = eqb-false 1 0 refl (ap length is)
    go (l ∷ ls) on is = eqb-false 0 1 refl (ap handle is ∙ on.0)
      where
        handle : List Look → ℕ
        handle [] = 1
        handle (x ∷ xs) = x.handle

and_a_pin : AreLooksAt 1 record nothing_more { ever = 1 } → ⊥
and_a_pin a = eqb-false 1 0 refl (ap (λ (d : Part). d.ever) a.part)

-- ---- what tells of a pin
bytes_tell : TellsNoPin 1 [] (Ok (answer.Bytes 3 [])) → ⊥
bytes_tell t = t

many_tell : TellsNoPin 1 [] (Ok answer.Crowded) → ⊥
many_tell t = t

-- a word that was Moving at the last look; none was looked at; it was so at the look before
moving_tells_none : TellsNoPin 1 (Looked 1 7 ∷ []) (Ok answer.Moving)
moving_tells_none = (7, inr ((refl, refl), tt), refl)

moving_unlooked : TellsNoPin 1 [] (Ok answer.Moving) → ⊥
moving_unlooked t = t.1

moving_before : TellsNoPin 1 (Looked 1 7 ∷ Looked 1 6 ∷ []) (Ok answer.Moving) → ⊥
moving_before (w, inl (inl never), moving) = never
moving_before (w, inl (inr (at, last)), moving) =
    eqb-false 2 3 refl (ap state_number (ap state_of at.1 ∙ moving))
moving_before (w, inr (at, last), moving) = last.0 6 (refl, refl)

-- ---- what a reply tells of object 1, by its pins and its length
abbrev twice_pinned : View
twice_pinned = record part { pins = a_stand ∷ a_stand ∷ [] }

-- one of its own, and one of another pass
told_two : PinsTold 1 (answer.Pinned 2) part_pinned
told_two = (lit≤ tt, lit≤ tt, λ alone. absurd (shared_part 1 alone))

told_its_own : PinsTold 1 (answer.Pinned 1) whole_pinned
told_its_own = (lit≤ tt, lit≤ tt, λ alone. refl)

told_of_none : PinsTold 1 (answer.Pinned 0) part → ⊥
told_of_none t = let some = t.0 in omega (arith, some)

told_too_few : PinsTold 1 (answer.Pinned 1) twice_pinned → ⊥
told_too_few t = let few = t.1 in omega (arith, few)

told_of_others : PinsTold 1 (answer.Pinned 2) whole_pinned → ⊥
told_of_others t = let same : 2 ≡ 1 = t.2 (inl refl) in omega (arith, same)

told_of_others_on_its_own : PinsTold 1 (answer.Pinned 1) owner → ⊥
told_of_others_on_its_own t = let same : 1 ≡ 0 = t.2 (inr (inl refl)) in omega (arith, same)

told_a_version : PinsTold 1 (answer.Version 4) part
told_a_version = refl

told_a_version_pinned : PinsTold 1 (answer.Version 4) part_pinned → ⊥
told_a_version_pinned t = eqb-false 1 0 refl t

-- the length of the last entry, which a pass wrote that alone has the object
told_long : PinsTold 1 (answer.Range 8) whole
told_long = λ _. has_last

told_longer : PinsTold 1 (answer.Range 9) whole → ⊥
told_longer t = let x = t (inl refl) in by x.last x.wrote x.long
  where
    by : (e : Entry) → Has e (made ∷ []) → e.len ≡ 9 → ⊥
    by e (inl is) long = eqb-false 8 9 refl (ap (λ (z : Entry). z.len) is ∙ long)
    by e (inr none) long = none

told_long_of_freed : PinsTold 1 (answer.Range 8) freed_last → ⊥
told_long_of_freed t = last_is_freed [] (t (inl refl))

told_long_by_others : PinsTold 1 (answer.Range 9) part
told_long_by_others = λ alone. absurd (shared_part 1 alone)

told_nothing : PinsTold 1 answer.Moving part_pinned
told_nothing = tt

-- so of its object by a write, a free and a filter, and by no other job
counts_by_a_write : CountsPins (job.Write one 0 (10 ∷ [])) (Ok (answer.Pinned 2)) part_pinned
counts_by_a_write = told_two

counts_by_a_free : CountsPins (job.Free one) (Ok (answer.Version 4)) part
counts_by_a_free = refl

writes_what_it_pins : CountsPins (job.Write one 0 (10 ∷ [])) (Ok (answer.Version 4)) part_pinned → ⊥
writes_what_it_pins t = told_a_version_pinned t

frees_what_it_pins : CountsPins (job.Free one) (Ok (answer.Version 4)) part_pinned → ⊥
frees_what_it_pins t = told_a_version_pinned t

counts_by_a_filter : CountsPins (job.Filter one) (Ok (answer.Pinned 2)) part_pinned
counts_by_a_filter = told_two

filters_past_its_pins : CountsPins (job.Filter one) (Ok (answer.Pinned 1)) twice_pinned → ⊥
filters_past_its_pins t = told_too_few t

counts_no_other : CountsPins (job.Swap one) (Ok (answer.Pinned 0)) part_pinned
counts_no_other = tt

worn_counts : (j : Job) (v : View) → CountsPins j (Ok answer.Worn) v
worn_counts (job.Write h at bytes) v = tt
worn_counts (job.Free h) v = tt
worn_counts (job.Filter h) v = tt
worn_counts j v = tt

-- ---- what a turn adds
abbrev pub added : Part
added = turn_part refused [] nothing_more nothing_more

was_made : (h : ℕ) → 1 ≡ h → 1 ≤ version_at aged h
was_made h is = subst (λ (n : ℕ). 1 ≤ version_at aged n) is (lit≤ tt)

-- it notes what the record had
pub noted : NotesWritten refused [] part
noted = record { had = refl; left = refl; old = refl; ended = refl }

notes_nothing_had : NotesWritten (record refused { had = [] }) [] part → ⊥
notes_nothing_had n = eqb-false 0 1 refl (ap length n.had)

notes_nothing_left : NotesWritten (record refused { left = [] }) [] part → ⊥
notes_nothing_left n = eqb-false 0 1 refl (ap length n.left)

-- the record has a turn behind which it wrote nothing, so that all that it has is old
abbrev turned_before : View
turned_before = record part { turns = refused ∷ [] }

noted_old : NotesWritten (record refused { old = made ∷ []; ended = 4 }) [] turned_before
noted_old = record { had = refl; left = refl; old = refl; ended = refl }

notes_nothing_old : NotesWritten (record refused { ended = 4 }) [] turned_before → ⊥
notes_nothing_old n = eqb-false 0 1 refl (ap length n.old)

notes_no_end : NotesWritten (record refused { old = made ∷ [] }) [] turned_before → ⊥
notes_no_end n = eqb-false 0 4 refl n.ended

adds_refused : TurnAdds two job.Evict (Ok answer.Worn) part added
adds_refused = record {
  turn = refused;
  more = [];
  within = nothing_more;
  later = nothing_more;
  job_is = refl;
  reply_is = refl;
  before = refl;
  agree = tt;
  did = refused_did;
  next = inr (refl, refl);
  wrote = refl;
  notes = noted;
  new = tt;
  pins = tt;
  made = λ h known. was_made h (knows_made h known);
  tells = record {
    only = λ id losses is. absurd (worn_lost is);
    each = λ h id losses asks few lost.
        absurd (no_one asks);
  };
  reads = refl;
  finds = refl;
  part = refl;
}
  where
    worn_lost : {id : _} {losses : _} → answer.Worn ≡ answer.Unavailable id losses → ⊥
    worn_lost e = cc

    no_one : {h : ℕ} → None ≡ Some h → ⊥
    no_one e = cc

pub adds_by : TurnBy two job.Evict (Ok answer.Worn) part (grown added part)
adds_by = (added, adds_refused, refl)

-- of another job, or another reply
adds_another_job : TurnAdds two job.Begin (Ok answer.Worn) part added → ⊥
adds_another_job a = eqb-false 6 7 refl
    (ap job_index (ap (λ (t : Turn). t.job) (first_turn a.turn (ap (λ (d : Part). d.turns) a.part)) ∙ a.job_is))
  where
    first : List Turn → Turn
    first [] = refused
    first (t ∷ ts) = t

    first_turn : (t : Turn) → refused ∷ [] ≡ t ∷ [] → refused ≡ t
    first_turn t e = ap first e

adds_another_reply : TurnAdds two job.Evict (Ok answer.Done) part added → ⊥
adds_another_reply a =
    done_worn (ap told (ap reply_in (ap (λ (d : Part). d.turns) a.part) ∙ a.reply_is))
  where
    reply_in : List Turn → Option Reply
    reply_in [] = None
    reply_in (t ∷ ts) = t.reply

    told : Option Reply → Reply
    told None = answer.Freed
    told (Some r) = r

    done_worn : answer.Worn ≡ answer.Done → ⊥
    done_worn e = cc

-- an entry that its reply does not tell of
adds_an_entry : TurnAdds two job.Evict (Ok answer.Worn) part (record added { written = made ∷ [] }) → ⊥
adds_an_entry a = eqb-false 1 0 refl (ap (λ (d : Part). length d.written) a.part ∙ ap length a.wrote)

-- a free at a version that the record has
adds_an_old_version : (d : Part) → TurnAdds two (job.Free one) (Ok (answer.Version 3)) part d → ⊥
adds_an_old_version d a =
    not_new part refl (subst (λ (l : List Entry). AreNew l part) a.wrote.1 a.new).0

-- one that leaves a version out, of an object that no other pass has
adds_past_the_next : (d : Part) → TurnAdds two (job.Free one) (Ok (answer.Version 5)) whole d → ⊥
adds_past_the_next d a =
    not_after a.wrote.0 (subst (λ (l : List Entry). AreNew l whole) a.wrote.1 a.new).1

-- and one under a pin of the pass
adds_what_it_pins : (d : Part) → TurnAdds two (job.Free one) (Ok (answer.Version 4)) part_pinned d → ⊥
adds_what_it_pins d a = frees_what_it_pins a.pins

-- an object that the record has was not made when the turn began
abbrev too_early : Turn
too_early = record refused { start = empty_shown 3 two }

adds_to_nothing : TurnAdds two job.Evict (Ok answer.Worn) part (record added { turns = too_early ∷ [] })
    → ⊥
adds_to_nothing a = let low : 1 ≤ 0 = subst (λ (t : Turn). 1 ≤ version_at t.start 1)
    (sym (ap first (ap (λ (d : Part). d.turns) a.part))) (a.made 1 (inl (made, inl refl, refl))) in
    omega (arith, low)
  where
    first : List Turn → Turn
    first [] = refused
    first (t ∷ ts) = t

-- a turn that notes nothing of what the record had
abbrev unnoted : Turn
unnoted = record refused { had = [] }

adds_unnoted : TurnAdds two job.Evict (Ok answer.Worn) part (record added { turns = unnoted ∷ [] })
    → ⊥
adds_unnoted a = eqb-false 0 1 refl
    (ap length (ap had_first (ap (λ (d : Part). d.turns) a.part) ∙ a.notes.had))
  where
    had_first : List Turn → List Entry
    had_first [] = []
    had_first (t ∷ ts) = t.had

-- a turn before which the record kept another order
adds_after_another_order : TurnAdds two job.Evict (Ok answer.Worn) (record part { order = Some an_order })
    added → ⊥
adds_after_another_order a = no_order (sym a.before ∙ sym (ap (λ (t : Turn). t.order)
    (ap first (ap (λ (d : Part). d.turns) a.part))))
  where
    first : List Turn → Turn
    first [] = refused
    first (t ∷ ts) = t

-- two turns
adds_two : TurnAdds two job.Evict (Ok answer.Worn) part (record added { turns = refused ∷ refused ∷ [] })
    → ⊥
adds_two a = eqb-false 2 1 refl (ap (λ (d : Part). length d.turns) a.part)

-- a pin beside it
adds_a_pin : TurnAdds two job.Evict (Ok answer.Worn) part (record added { ever = 1 }) → ⊥
adds_a_pin a = eqb-false 1 0 refl (ap (λ (d : Part). d.ever) a.part
    ∙ ap (λ (d : Part). d.ever + a.later.ever) a.reads
    ∙ ap (λ (d : Part). 0 + d.ever) a.finds)

-- another record than its part in front
keeps_no_turn : TurnBy two job.Evict (Ok answer.Worn) part part → ⊥
keeps_no_turn (d, a, is) = eqb-false 0 1 refl (ap (λ (v : View). length v.turns) is
    ∙ ap (λ (e : Part). length (e.turns ++ [])) a.part)

-- ---- a turn of any job that was refused for its number
never_lost : {id : _} {losses : _} → answer.Worn ≡ answer.Unavailable id losses → ⊥
never_lost e = cc

worn_tells : (j : Job) → TellsLost j None full answer.Worn
worn_tells job.Land = record {
  only = λ id losses is. absurd (never_lost is);
  each = λ o losses kept few live lost. absurd (omega (arith, few));
}
worn_tells j = record {
  only = λ id losses is. absurd (never_lost is);
  each = λ h id losses asks few lost. absurd (omega (arith, few));
}

abbrev pub worn_turn : Job → Turn
worn_turn j = record refused { job = j }

abbrev pub worn_part : Job → Part
worn_part j = turn_part (worn_turn j) [] nothing_more nothing_more

pub adds_worn : (j : Job) (v : View) → OutcomeWrites j (Ok answer.Worn) []
    → JobReads j [] (Ok answer.Worn) v nothing_more → ((h : ℕ) → Knows h v → 1 ≡ h)
    → NotesWritten (worn_turn j) [] v → v.order ≡ None
    → TurnAdds two j (Ok answer.Worn) v (worn_part j)
adds_worn j v wrote reads knows notes none = record {
  turn = worn_turn j;
  more = [];
  within = nothing_more;
  later = nothing_more;
  job_is = refl;
  reply_is = refl;
  before = sym none;
  agree = tt;
  did = inl (worn refl refl refl (refl, tt), refl);
  next = inr (refl, refl);
  wrote = wrote;
  notes = notes;
  new = tt;
  pins = worn_counts j v;
  made = λ h known. was_made h (knows h known);
  tells = worn_tells j;
  reads = reads;
  finds = refl;
  part = refl;
}

-- ---- a turn of the job Read that found no memory, and did its job up to there: it is counted
abbrev begun_far : FarState
begun_far = empty_far 3 two

abbrev pub lacking : Turn
lacking = record (worn_turn (job.Read one)) {
  reply = None;
  took = begun_far;
  gave = counted begun_far (job.Read one);
}

abbrev pub lacking_part : Part
lacking_part = turn_part lacking [] nothing_more nothing_more

pub noted_lacking : NotesWritten lacking [] part
noted_lacking = record { had = refl; left = refl; old = refl; ended = refl }

pub adds_lacking : (e : NoMemory) (v : View) → Did two lacking → ((h : ℕ) → Knows h v → 1 ≡ h)
    → NotesWritten lacking [] v → v.order ≡ None
    → TurnAdds two (job.Read one) (Err e) v lacking_part
adds_lacking e v did knows notes kept = record {
  turn = lacking;
  more = [];
  within = nothing_more;
  later = nothing_more;
  job_is = refl;
  reply_is = refl;
  before = sym kept;
  agree = tt;
  did = did;
  next = inl (lit< tt, refl);
  wrote = refl;
  notes = notes;
  new = tt;
  pins = tt;
  made = λ h known. was_made h (knows h known);
  tells = tt;
  reads = inl (refl, tt);
  finds = refl;
  part = refl;
}

-- ---- whether the newest turn is made again
abbrev wide : FarState
wide = empty_far 1 (record two { k = 2; frames = 4 })

abbrev short : Turn
short = record refused {
  reply = Some (answer.NoRoom 364 1 3);
  gave = record wide { spans = [] };
}

newest_is_made_again : newest_tries (short ∷ refused ∷ []) ≡ Some true
newest_is_made_again = refl

older_does_not_count : newest_tries (refused ∷ short ∷ []) ≡ Some false
older_does_not_count = refl

made_no_turn : (tries_of part ≡ None) × (again_in part.turns ≡ false)
made_no_turn = (refl, refl)

made_again : tries_of (record part { turns = short ∷ refused ∷ [] }) ≡ Some true
made_again = refl

in_the_turns : (again_in (short ∷ refused ∷ []) ≡ true)
    × (again_in (refused ∷ short ∷ []) ≡ false)
in_the_turns = (refl, refl)

-- with fewer frames it is not
not_made_again : tries_of (record part {
  turns = record short { reply = Some (answer.NoRoom 363 1 3) } ∷ [];
}) ≡ Some false
not_made_again = refl
