-- What is upheld of the answers that a closed record backs, and that suit what it has read.
use Rattle.std.proofs.Common.{◌≡◌, ℕ, ◌+◌, ◌<◌, List, [], ◌∷◌, ◌++◌, length, Option, None, Some, refl, sym, inl, inr, arith}
use Rattle.std.specs.List.{AllByRecursion}
use Rattle.std.proofs.lemmas.Option.{same_Some}
use Rattle.cb_types.specs.declared.answer.Answer.{Answer}
use Rattle.cb_types.specs.declared.config.Config.{Config}
use Rattle.cb_types.specs.declared.handle.Handle.{Handle}
use Rattle.cb_types.specs.declared.job.Job.TheVariants as job
use Rattle.cb_types.specs.declared.reply.Reply.{Reply}
use Rattle.cb_types.specs.declared.reply.Reply.TheVariants as answer
use Rattle.cb_types.specs.declared.request.Request.{Request}
use Rattle.cb_types.specs.declared.request.Request.TheVariants as line
use Rattle.cb_world.specs.World.{WorldState}
use Rattle.cb_rule.specs.declared.view.View.{View}
use Rattle.cb_rule.specs.Closing.{IsClosed}
use Rattle.cb_rule.specs.Lists.{Has}
use Rattle.cb_model.specs.Called.{Called, calls_behind, calls_of, handle_for, handle_named, makes}
use Rattle.cb_model.specs.Event.{Event, Subject, event_of, refusal}
use Rattle.cb_model.specs.Event.Subject.{NewObject, Contents, Other, Nothing}
use Rattle.cb_model.specs.Event.Event.{Makes, Shows, Pins, Writes, Frees, FindsFull, FindsUnmade, FindsFreed, FindsEnd, Refused, Wrong}
use Rattle.cb_record.specs.Backs.{Backs, Tells}
use Rattle.cb_record.specs.Needs.{IsTurnFor, Meets, need_of, the_object}
use Rattle.cb_record.specs.Told.{Told, told, tolds}
use Rattle.cb_record.specs.Upheld.{IsLong, IsUpheld, Upholds, as_part}
use Rattle.cb_record.proofs.Laws.{end_long}
use Rattle.cb_shared.specs.Turning.{Did}
use Rattle.cb_shared.proofs.Laws.{makes_backed, makes_full}
use Rattle.cb_lanes.specs.Suits.{AreSuited, Suits}
use Rattle.cb_app.proofs.MadeTurns.{answered_makes, few_made, made_before}
use Rattle.cb_app.proofs.RangeTold.{range_told}
use Rattle.cb_lanes.proofs.Laws.{found_one}

module _ (first : ℕ) (c : Config) (v : View) (w : WorldState) (closed : IsClosed Did first c v w)
    (answers : List Answer) (backs : Backs (as_part v) (tolds [] answers)) where
  abbrev calls : List Called
  calls = calls_of answers

  -- what is upheld of an answer beside what suits the handle and what was read
  abbrev UpheldBeside : Event → Option ℕ → Type 0
  UpheldBeside (FindsFull number) handle = (makes calls ≡ c.handles) × (number ≡ c.handles)
  UpheldBeside (Makes bytes version) (Some h) = (h < c.handles) × (version ≡ first)
  UpheldBeside (FindsEnd at bytes len) (Some h) = IsLong v.written h len × (len < at + length bytes)
  UpheldBeside event handle = Unit {0}

  both : (handle : Option ℕ) (e : Event) → Suits v.seen handle e → UpheldBeside e handle
      → IsUpheld first c.handles calls v handle e
  both handle (FindsFull number) s x = x
  both handle (Refused NewObject) s x = tt
  both handle (Refused Nothing) s x = tt
  both None FindsUnmade s x = tt
  both None (Makes bytes version) s x = absurd s
  both None (Shows version bytes) s x = absurd s
  both None (Pins version) s x = absurd s
  both None (Writes at bytes version) s x = absurd s
  both None (Frees version) s x = absurd s
  both None FindsFreed s x = absurd s
  both None (FindsEnd at bytes len) s x = absurd s
  both None (Refused Contents) s x = absurd s
  both None (Refused Other) s x = absurd s
  both None Wrong s x = absurd s
  both (Some h) (Makes bytes version) s x = x
  both (Some h) (Shows version bytes) s x = s
  both (Some h) (Pins version) s x = tt
  both (Some h) (Writes at bytes version) s x = tt
  both (Some h) (Frees version) s x = tt
  both (Some h) FindsUnmade s x = absurd s
  both (Some h) FindsFreed s x = tt
  both (Some h) (FindsEnd at bytes len) s x = x
  both (Some h) (Refused Contents) s x = tt
  both (Some h) (Refused Other) s x = tt
  both (Some h) Wrong s x = absurd s

  -- ---- by the line and its reply
  refused : (o : Option ℕ) (s : Subject) (r : Reply) → UpheldBeside (refusal s r) o
  refused o NewObject answer.Freed = tt
  refused o Contents answer.Freed = tt
  refused o Other answer.Freed = tt
  refused o Nothing answer.Freed = tt
  refused o NewObject answer.Unmade = tt
  refused o Contents answer.Unmade = tt
  refused o Other answer.Unmade = tt
  refused o Nothing answer.Unmade = tt
  refused o s r = tt

  full : (name bytes : List ℕ) (number : ℕ)
      → Meets (as_part v) (need_of None (line.Make name bytes) (answer.Full number))
      → (makes calls ≡ c.handles) × (number ≡ c.handles)
  full name bytes number m =
      let z = found_one (IsTurnFor (Some (job.Make bytes)) None (answer.Full number)) v.turns m in
      let told = makes_full first c v w closed z.0 z.1 bytes number
      (sym (same_Some (job.Make bytes) z.0.job z.2.1)) z.2.0 in
      let low = made_before first c v w.far.counts.turns w.far closed.turns z.0 z.1 in
      let high = few_made first c v w.far.counts.turns w.far closed.turns in
      let all = answered_makes v answers backs in
      let made = told.0 in (omega (arith, low, high, all, made), told.1)

  -- each make that was answered a handle
  abbrev MakesTold : Request → Reply → Type 0
  MakesTold q r = (name bytes : List ℕ) (h : Handle) (n : ℕ) → q ≡ line.Make name bytes
      → r ≡ answer.Made h n → (h.n < c.handles) × (n ≡ first)

  make_counts : (before : List Answer) (name bytes : List ℕ) (r : Reply)
      → Meets (as_part v) (need_of (handle_for before (line.Make name bytes) r) (line.Make name bytes) r)
      → MakesTold (line.Make name bytes) r
      → UpheldBeside (event_of (line.Make name bytes) r) (handle_for before (line.Make name bytes) r)
  make_counts before name bytes (answer.Made h n) m made = made name bytes h n refl refl
  make_counts before name bytes (answer.Full n) m made = full name bytes n m
  make_counts before name bytes r m made = tt

  write_counts : (o : Option ℕ) (name : List ℕ) (at : ℕ) (bytes : List ℕ) (r : Reply)
      → Meets (as_part v) (need_of o (line.Write name at bytes) r)
      → UpheldBeside (event_of (line.Write name at bytes) r) o
  write_counts None name at bytes (answer.Range len) m = tt
  write_counts (Some h) name at bytes (answer.Range len) m =
      end_long first v closed.entries closed.calm (Some (job.Write (the_object h) at bytes)) h at
      (length bytes) len
      (λ t there own. range_told first c v w closed t there h at bytes len
      (sym (same_Some (job.Write (the_object h) at bytes) t.job own.1)) own.0) m
  write_counts o name at bytes (answer.Version version) m = tt
  write_counts o name at bytes r m = tt

  read_counts : (o : Option ℕ) (name : List ℕ) (r : Reply) → UpheldBeside (event_of (line.Read name) r) o
  read_counts o name (answer.Bytes version bytes) = tt
  read_counts o name r = tt

  peek_counts : (o : Option ℕ) (name : List ℕ) (r : Reply) → UpheldBeside (event_of (line.Peek name) r) o
  peek_counts o name (answer.Bytes version bytes) = tt
  peek_counts o name r = tt

  pin_counts : (o : Option ℕ) (name : List ℕ) (r : Reply) → UpheldBeside (event_of (line.Pin name) r) o
  pin_counts o name (answer.Version version) = tt
  pin_counts o name r = tt

  free_counts : (o : Option ℕ) (name : List ℕ) (r : Reply) → UpheldBeside (event_of (line.Free name) r) o
  free_counts o name (answer.Version version) = tt
  free_counts o name r = tt

  line_counts : (before : List Answer) (q : Request) (r : Reply)
      → Meets (as_part v) (need_of (handle_for before q r) q r) → MakesTold q r
      → UpheldBeside (event_of q r) (handle_for before q r)
  line_counts before (line.Make name bytes) r m made = make_counts before name bytes r m made
  line_counts before (line.Read name) r m made = read_counts (handle_named before (Some name)) name r
  line_counts before (line.Write name at bytes) r m made =
      write_counts (handle_named before (Some name)) name at bytes r m
  line_counts before (line.Free name) r m made = free_counts (handle_named before (Some name)) name r
  line_counts before (line.Pin name) r m made = pin_counts (handle_named before (Some name)) name r
  line_counts before (line.Peek name) r m made = peek_counts (handle_named before (Some name)) name r
  line_counts before (line.Unpin name) r m made = refused (handle_named before (Some name)) Other r
  line_counts before (line.Filter name) r m made = refused (handle_named before (Some name)) Other r
  line_counts before q r m made = refused (handle_named before None) Nothing r

  -- ---- all answers
  go : (before after : List Answer) → ((t : Told) → Has t (tolds before after) → Has t (tolds [] answers))
      → AllByRecursion (Tells (as_part v)) (tolds before after) → AreSuited v.seen (tolds before after)
      → AllByRecursion (Upholds first c.handles calls v) (calls_behind before after)
  go before [] among tells suits = tt
  go before (a ∷ after) among tells suits = (
    both (handle_for before a.request a.reply) (event_of a.request a.reply) suits.0
        (line_counts before a.request a.reply tells.0 (λ name bytes h n asked is.
        makes_backed first c v w closed (tolds [] answers) backs (told before a)
        (among (told before a) (inl refl)) name bytes h n asked is)),
    go (before ++ a ∷ []) after (λ t there. among t (inr there)) tells.1 suits.1,
  )

  pub all_upheld : AreSuited v.seen (tolds [] answers)
      → AllByRecursion (Upholds first c.handles (calls_of answers) v) (calls_of answers)
  all_upheld suits = go [] answers (λ t there. there) backs.tells suits
