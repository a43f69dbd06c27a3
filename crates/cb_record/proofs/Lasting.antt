-- The world of a closed runtime has what the calls left that its record backs.
use Rattle.std.proofs.Common.{◌≡◌, ℕ, zero, suc, ◌≤◌, ◌<◌, ◌%◌, Bool, cond, List, [], length, inl, inr, refl, sym, ap, ◌∙◌, subst}
use Rattle.std.specs.List.{AllByRecursion}
use Rattle.cb_ptr.specs.declared.word.State.{State}
use Rattle.cb_ptr.specs.declared.word.State.TheVariants as state
use Rattle.cb_ptr.specs.Word.{len_of, state_of}
use Rattle.cb_types.specs.declared.answer.Answer.{Answer}
use Rattle.cb_types.specs.declared.config.Config.{Config}
use Rattle.cb_world.specs.declared.entry.Entry.{Entry}
use Rattle.cb_world.specs.Memory.{bytes_in}
use Rattle.cb_world.specs.Now.{is_gone, now}
use Rattle.cb_world.specs.Now.Now.{freed, gone, held}
use Rattle.cb_world.specs.Plain.{Words}
use Rattle.cb_world.specs.FarState.{FarState}
use Rattle.cb_world.specs.StillWords.{contents_at, stamp_at}
use Rattle.cb_world.specs.World.{IsKnown, WorldState, word_at}
use Rattle.cb_world.specs.declared.shown.Shown.{Shown}
use Rattle.cb_world.proofs.Laws.{empty_now, empty_value}
use Rattle.cb_mutate.proofs.Laws.{here_near, moving_near, near_held}
use Rattle.cb_rule.specs.declared.view.View.{View}
use Rattle.cb_rule.specs.Closing.{IsClosed, now_of}
use Rattle.cb_rule.specs.Locking.{Deeds}
use Rattle.cb_rule.proofs.Laws.{by_case}
use Rattle.cb_model.specs.Called.{calls_of, history}
use Rattle.cb_model.specs.History.{left_by}
use Rattle.cb_model.specs.Now.{Change}
use Rattle.cb_record.specs.Backs.{Backs}
use Rattle.cb_record.specs.Left.{HasHistoryEnds, now_left}
use Rattle.cb_record.specs.Told.{tolds}
use Rattle.cb_record.specs.Upheld.{Upholds, as_part}
use Rattle.cb_record.proofs.Histories.{IsTop, find_top, linked, written, wrote}
use Rattle.cb_record.proofs.Legality.{are_histories}
use Rattle.cb_record.proofs.Links.{AreTrue, leaves_last, no_changes}

-- ---- what is gone is far
held_gone : (n v : ℕ) (bytes : List ℕ) → held n bytes ≡ gone v → ⊥
held_gone n v bytes is = cc

empty_gone : (n v : ℕ) → empty_value n ≡ gone v → ⊥
empty_gone zero v is = cc
empty_gone (suc n) v is = cc

gone_far : (x : Words) (far : FarState) (shown : Shown) → IsKnown x far shown → (h v : ℕ)
    → h < length x.words → now shown far h ≡ gone v → state_of (word_at x h) ≡ state.Far
gone_far x far shown known h v low is = by (state_of (word_at x h)) refl
  where
    near : 2 ≤ word_at x h % 4 → state_of (word_at x h) ≡ state.Far
    near at = absurd (held_gone (stamp_at x h) v (bytes_in (contents_at x h) (len_of (word_at x h)))
        (sym (near_held x far shown h known low at) ∙ is))

    by : (q : State) → state_of (word_at x h) ≡ q → state_of (word_at x h) ≡ state.Far
    by state.Far at = at
    by state.Here at = near (here_near (word_at x h) at)
    by state.Moving at = near (moving_near (word_at x h) at)
    by state.Empty at = absurd (empty_gone (stamp_at x h) v
        (sym (empty_now x far shown h known.shows known.sound low at) ∙ is))

-- A record that closed a runtime of this first version, and answers that it backs, of which it
-- upholds what no record backs by itself.
module _ (deeds : Deeds) (first : ℕ) (c : Config) (v : View) (w : WorldState)
    (closed : IsClosed deeds first c v w) (handles : ℕ) (answers : List Answer)
    (backs : Backs (as_part v) (tolds [] answers))
    (upheld : AllByRecursion (Upholds first handles (calls_of answers) v) (calls_of answers)) where
  -- the changes of an object
  abbrev changes : ℕ → List (ℕ × Change)
  changes h = history (calls_of answers) h

  are_true : (h : ℕ) → AreTrue first v.written h (linked first v closed.entries closed.calm) (changes h)
  are_true = are_histories first handles v answers closed.entries closed.calm backs upheld

  -- what they leave, by the entry with the greatest version
  left_so : (h : ℕ) (e : Entry) → IsTop h v.written e → (lost : Bool)
      → now_of lost e ≡ now_left lost (left_by (changes h))
  left_so h e top lost = by_case (λ b. e.freed ≡ b
      → cond b (freed e.version) (cond lost (gone e.version) (held e.version (bytes_in e.after e.len)))
      ≡ now_left lost (left_by (changes h))) e.freed
      (λ _ is. ap (now_left lost) (sym ((are_true h).freed e top.there top.handle is)))
      (λ _ is. ap (now_left lost) (sym (leaves_last first v.written h
      (linked first v closed.entries closed.calm) (changes h) (are_true h) e top.there top.handle is
      top.greatest))) refl

  last_is : (h : ℕ) → h < length w.desk.words
      → now closed.holds.shown w.far h ≡ now_left (is_gone w.far h) (left_by (changes h))
  last_is h low = elim (find_top h v.written) [
    | inl (e, top) ↦
        subst (λ (k : ℕ). now closed.holds.shown w.far k ≡ now_of (is_gone w.far k) e) top.handle
        (closed.holds.last e (
          wrote first v closed.entries closed.calm e top.there,
          λ x there on. top.greatest x (written first v closed.entries closed.calm x there)
              (on ∙ top.handle),
        ))
        ∙ left_so h e top (is_gone w.far h)
    | inr none ↦
        closed.holds.none h low
        (λ e there on. none e (written first v closed.entries closed.calm e there) on)
        ∙ ap (λ (cs : List (ℕ × Change)). now_left (is_gone w.far h) (left_by cs))
        (sym (no_changes first v.written h (linked first v closed.entries closed.calm) (changes h)
        (are_true h) none))
  ]

  -- so the world has what the history of each object leaves
  pub has_last : HasHistoryEnds answers w
  has_last = record {
    shown = closed.holds.shown;
    known = closed.holds.known;
    last = last_is;
    far = gone_far w.desk w.far closed.holds.shown closed.holds.known;
  }
