-- What the turn of a make and of a write is never told, by what such a turn did at its desk.
use Rattle.std.proofs.Common.{◌≡◌, ℕ, zero, suc, ◌+◌, ◌-◌, ◌^◌, ◌==◌, ◌<◌, ltb-true, nat_lt, if◌then◌else◌, Bool, true, false, true≢false, List, length, None, Some, Ok, inl, inr, refl, sym, ap, ◌∙◌, subst, arith}
use Rattle.std.proofs.lemmas.Option.{same_Some}
use Rattle.cb_ptr.specs.declared.word.State.{State}
use Rattle.cb_ptr.specs.declared.word.State.TheVariants as state
use Rattle.cb_ptr.specs.Word.{len_of, state_of}
use Rattle.cb_types.specs.declared.config.Config.{Config}
use Rattle.cb_types.specs.declared.job.Job.{Job}
use Rattle.cb_types.specs.declared.job.Job.TheVariants.{Make, Write}
use Rattle.cb_types.specs.declared.reply.Reply.{Reply}
use Rattle.cb_types.specs.declared.reply.Reply.TheVariants as answer
use Rattle.cb_world.specs.declared.access.Access.{Access}
use Rattle.cb_world.specs.FarState.{FarState}
use Rattle.cb_mutate.specs.Answered.{AnsweredAs}
use Rattle.cb_mutate.specs.MakeRule.{MakeRule}
use Rattle.cb_mutate.specs.WriteRule.{NextVersion, WriteHere}
use Rattle.cb_swapin.proofs.Laws.{by_answer}
use Rattle.cb_rule.specs.declared.view.View.{View}
use Rattle.cb_core.specs.Parts.{Holding, WhereItIs, WithRoom, brought, declined, most_evictions, near, stays_far}
use Rattle.cb_core.specs.Turned.{Brings, Declines, Does, IsDeclined, Makes, Swaps, Turned, WinsRoom, WritesObject, done, worn}
use Rattle.cb_core.proofs.Laws.{room_reply}
use Rattle.cb_core.specs.Jobs.{NeedsNoOrder}
use Rattle.cb_record.specs.Parts.{Part}
use Rattle.cb_shared.specs.Calls.{the_handle}
use Rattle.cb_shared.proofs.Laws.{asked_alone}
use Rattle.cb_shared.specs.Turning.{DidAs, ReadsByPin, Slate, TurnAdds, slate_run, slate_shows}

-- what holds of each reply that a turn's job gives, and of Worn, holds of the turn's own
turn_reply : (c : Config) (P : Reply → Type 0) (j : Job) (r : Reply) (v : View) (d : Part)
    → NeedsNoOrder j → P answer.Worn → ((a b : Holding Slate) → Does slate_run slate_shows ReadsByPin c j a r b → P r)
    → TurnAdds c j (Ok r) v d → P r
turn_reply c P j r v d alone last may x =
    by (asked_alone c x.turn j (Some r) alone x.job_is x.reply_is x.did)
  where
    turned : (a b : Holding Slate) → Turned slate_run slate_shows ReadsByPin c j a r b → P r
    turned a b (worn end is same ran) = subst P (sym is) last
    turned a b (done few does) = may _ b does

    by : DidAs c j (Some r) x.turn.start x.turn.acts x.turn.took x.turn.gave → P r
    by t = turned _ _ t

-- ---- a make
-- a reply of a make
abbrev pub IsOfMake : Reply → Type 0
IsOfMake (answer.Made handle version) = Unit {0}
IsOfMake (answer.Full handles) = Unit {0}
IsOfMake (answer.NoRoom frames loose nodes) = Unit {0}
IsOfMake answer.Worn = Unit {0}
IsOfMake other = ⊥

make_rule : (n : ℕ) (bytes : List ℕ) (far new : FarState) (r : Reply) (es : List Access)
    → (r ≡ answer.NoFrame → ⊥) → MakeRule n bytes far new r es → IsOfMake r
make_rule n bytes far new (answer.Full handles) es off x = tt
make_rule n bytes far new answer.NoFrame es off x = absurd (off refl)
make_rule n bytes far new (answer.Made handle version) es off x = tt
make_rule n bytes far new r es off x = absurd x

make_room : (c : Config) (bytes : List ℕ) (a b : Holding Slate) (r : Reply)
    → WithRoom c.frames (Makes slate_run slate_shows c bytes) (WinsRoom slate_run slate_shows c)
    most_evictions a r b → IsOfMake r
make_room c bytes a b r x = room_reply c.frames (Makes slate_run slate_shows c bytes)
    (WinsRoom slate_run slate_shows c) IsOfMake
    (λ n b r y off. make_rule c.handles bytes n.far b.far r y.events off y.rule) (λ loose nodes. tt)
    most_evictions a b r x

pub make_told : (c : Config) (bytes : List ℕ) (r : Reply) (v : View) (d : Part)
    → TurnAdds c (Make bytes) (Ok r) v d → IsOfMake r
make_told c bytes r v d x =
    turn_reply c IsOfMake (Make bytes) r v d tt tt (λ a b y. make_room c bytes a b r y) x

-- ---- a write tells Range where the bytes go past the end that it tells
module _ (at : ℕ) (bytes : List ℕ) where
  abbrev PastEnd : Reply → Type 0
  PastEnd r = (len : ℕ) → r ≡ answer.Range len → len < at + length bytes

  abbrev is_no_range : Reply → Bool
  is_no_range (answer.Range len) = false
  is_no_range r = true

  other : (r q : Reply) → is_no_range q ≡ true → r ≡ q → PastEnd r
  other r q sure is len range = absurd (true≢false (sym sure ∙ ap is_no_range (sym is ∙ range)))

  past : (r : Reply) (n : ℕ) → r ≡ answer.Range n → n < at + length bytes → PastEnd r
  past r n is less len range =
      let same : n ≡ len = (let e : answer.Range n ≡ answer.Range len = sym is ∙ range in cc) in
      omega (arith, same, less)

  next_past : (v : ℕ) (r : Reply) → NextVersion v r → PastEnd r
  next_past v r (inl x) = other r answer.Worn refl x.1
  next_past v r (inr x) = other r (answer.Version (v + 1)) refl x.1

  write_past : (s : State) (h w : ℕ) (es : List Access) (r : Reply) → (r ≡ answer.NotHere → ⊥)
      → AnsweredAs s (WriteHere h at bytes es r) w h es r → PastEnd r
  write_past state.Here h w es r off (inl (less, is)) = past r (len_of w) is less
  write_past state.Here h w es r off (inr (fits, inl (some, is))) = other r (answer.Pinned _) refl is
  write_past state.Here h w es r off (inr (fits, inr (none, (v, words, taken, next)))) =
      next_past v r next
  write_past state.Empty h w es r off (zero, told, is) = other r answer.Unmade refl is
  write_past state.Empty h w es r off (suc v, told, is) = other r answer.Freed refl is
  write_past state.Far h w es r off is = absurd (off is)
  write_past state.Moving h w es r off is = other r answer.Moving refl is

  -- a write of a far object that is not brought in
  swap_past : (h : ℕ) (a b : Holding Slate) (r : Reply) → (r ≡ answer.NoFrame → ⊥)
      → ((f : ℕ) → r ≡ answer.Swapped f → ⊥) → Swaps slate_run slate_shows h a r b → PastEnd r
  swap_past h a b r off never (home, there, x) = subst
      (λ (q : Reply). (q ≡ answer.NoFrame → ⊥) → ((f : ℕ) → q ≡ answer.Swapped f → ⊥) → PastEnd q)
      (sym x.rule.reply)
      (by_answer (λ (q : Reply). (q ≡ answer.NoFrame → ⊥) → ((f : ℕ) → q ≡ answer.Swapped f → ⊥)
      → PastEnd q) a.far home.set x.rule.set (λ broken no out. other _ _ refl refl)
      (λ fine free no out. absurd (no refl)) (λ f fine free no out. absurd (out f refl))) off never

  bring_past : (c : Config) (h : ℕ) (a b : Holding Slate) (r : Reply)
      → ((f : ℕ) → r ≡ answer.Swapped f → ⊥) → Brings slate_run slate_shows c h a r b → PastEnd r
  bring_past c h a b r never x = room_reply c.frames (Swaps slate_run slate_shows h)
      (WinsRoom slate_run slate_shows c) (λ (q : Reply). ((f : ℕ) → q ≡ answer.Swapped f → ⊥)
      → PastEnd q)
      (λ n b r y off out. swap_past h n b r off out y)
      (λ loose nodes out. other _ _ refl refl) most_evictions a b r x never

  declined_past : (h : ℕ) (far : FarState) (r : Reply) (es : List Access)
      → IsDeclined h at (length bytes) far (Some r) es → PastEnd r
  declined_past h far r es (inl (gone, none, nothing)) = absurd cc
  declined_past h far r es (inr (stays, (w, v, found, far_word, told, last, is))) =
      by (nat_lt (len_of w) (at + length bytes)) refl (v == 2 ^ 64 - 1) is
    where
      by : (long : Bool) → nat_lt (len_of w) (at + length bytes) ≡ long → (end : Bool)
          → Some r ≡ (if long then Some (answer.Range (len_of w))
          else if end then Some answer.Worn else None) → PastEnd r
      by true less end e = past r (len_of w) (same_Some _ _ e)
          (ltb-true (len_of w) (at + length bytes) less)
      by false less true e = other r answer.Worn refl (same_Some _ _ e)
      by false less false e = absurd cc

  write_where : (c : Config) (h : ℕ) (a b : Holding Slate) (r : Reply) → (r ≡ answer.NotHere → ⊥)
      → WhereItIs (WritesObject slate_run slate_shows h at bytes)
      (Declines slate_run slate_shows h at (length bytes)) (Brings slate_run slate_shows c h) a r b
      → PastEnd r
  write_where c h a b r off (near x never) =
      write_past (state_of x.rule.1.word) h x.rule.1.word x.events r off x.rule.1.answer
  write_where c h a b r off (declined m x look) =
      declined_past h m.far r look.1.events look.1.rule
  write_where c h a b r off (stays_far m n x look bring never) = bring_past c h n b r never bring
  write_where c h a b r off (brought m n o f x look bring again) =
      write_past (state_of again.rule.1.word) h again.rule.1.word again.events r off
      again.rule.1.answer

  pub range_told : (c : Config) (h len : ℕ) (v : View) (d : Part)
      → TurnAdds c (Write (the_handle h) at bytes) (Ok (answer.Range len)) v d
      → len < at + length bytes
  range_told c h len v d x = turn_reply c PastEnd (Write (the_handle h) at bytes) (answer.Range len)
      v d tt (other answer.Worn answer.Worn refl refl)
      (λ a b y. write_where c h a b (answer.Range len) (λ e. absurd cc) y) x len refl
