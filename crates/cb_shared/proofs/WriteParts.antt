-- The parts of writes in place, and of writes that try again.
use Rattle.std.proofs.Common.{◌≡◌, ℕ, ◌+◌, List, [], ◌∷◌, Option, None, Some, refl, ap, ◌∙◌, subst}
use Rattle.std.proofs.Common.{arith, inl}
use Rattle.cb_types.specs.declared.config.Config.{Config}
use Rattle.cb_types.specs.declared.reply.Reply.{Reply}
use Rattle.cb_ptr.specs.Word.{len_of}
use Rattle.cb_world.specs.Written.{entry}
use Rattle.cb_rule.specs.declared.turn.Turn.{Turn}
use Rattle.cb_rule.specs.declared.view.View.{View}
use Rattle.cb_rule.specs.Steps.{look_at, with_look}
use Rattle.cb_shared.specs.declared.answers.WriteAnswer.{WriteAnswer}
use Rattle.cb_shared.specs.declared.answers.WriteAnswer.TheVariants as place
use Rattle.cb_shared.specs.Calls.{AtThis, IsNoReply, IsUnanswered, IsWriteJob, SaysAs}
use Rattle.cb_shared.specs.Calls.{TriesInVain, WriteAnswers, WriteCallEnds, WriteFinds, WriteTries}
use Rattle.cb_shared.specs.Calls.{worn_once, written_once}
use Rattle.cb_record.specs.Parts.{Part, Grows, grown}
use Rattle.cb_shared.specs.Reading.{looked, looked_freed, looked_twice}
use Rattle.cb_shared.specs.Writing.{WriteGives, last_seen}
use Rattle.cb_shared.proofs.CallSteps.{ends_first, ends_then, tries_then, vain_look}
use Rattle.cb_shared.proofs.ReadSteps.{freed_part, look_part, twice_part}

written_part : (h word version : ℕ) (old new : List ℕ) (v : View)
    → record (with_look h word (with_look h word v)) {
      written = entry h version (len_of word) old new ∷ v.written;
    } ≡ grown (written_once h word version old new) v
written_part h word version old new v = let e : v.ever ≡ v.ever + 0 = omega arith in
    ap (λ (n : ℕ). let z : View = record (with_look h word (with_look h word v)) {
      written = entry h version (len_of word) old new ∷ v.written;
      ever = n;
    } in z) e

worn_part : (h word : ℕ) (words : List ℕ) (v : View)
    → record (with_look h word (with_look h word v)) { seen = last_seen h word words ∷ v.seen }
    ≡ grown (worn_once h word words) v
worn_part h word words v = let e : v.ever ≡ v.ever + 0 = omega arith in
    ap (λ (n : ℕ). let z : View = record (with_look h word (with_look h word v)) {
      seen = last_seen h word words ∷ v.seen;
      ever = n;
    } in z) e

-- what a write in place leaves, as a part of the record
pub write_finds : (h at : ℕ) (bytes : List ℕ) (a : WriteAnswer) (v w : View)
    → WriteGives h at bytes a v w → (d : Part) × Grows v d w × WriteFinds h at bytes a v d
write_finds h at bytes (place.Ok version) v w x = (
  written_once h x.word version x.old x.new,
  x.left ∙ written_part h x.word version x.old x.new v,
  record {
    word = x.word;
    old = x.old;
    new = x.new;
    last = x.last;
    room = x.room;
    bare = x.bare;
    loose = x.loose;
    newest = x.newest;
    next = x.next;
    write = x.write;
    part = refl;
  },
)
write_finds h at bytes place.Freed v w (n, version, is, newest, left) =
    (looked_freed h version n, left ∙ freed_part h version n v, (n, version, is, newest, refl))
write_finds h at bytes place.NotHere v w (n, is, left) =
    (looked h n, left ∙ look_part h n v, (n, is, refl))
write_finds h at bytes place.Moving v w (n, is, left) =
    (looked h n, left ∙ look_part h n v, (n, is, refl))
write_finds h at bytes (place.Range len) v w (n, is, left) =
    (looked h n, left ∙ look_part h n v, (n, is, refl))
write_finds h at bytes (place.Pinned count) v w (n, is, left) =
    (looked h n, left ∙ look_part h n v, (n, is, refl))
write_finds h at bytes place.Worn v w x = (
  worn_once h x.word x.words,
  x.left ∙ worn_part h x.word x.words v,
  record {
    word = x.word;
    words = x.words;
    room = x.room;
    bare = x.bare;
    loose = x.loose;
    newest = x.newest;
    part = refl;
  },
)
write_finds h at bytes (place.Raced saw found) v w (other, left, here) =
    (looked_twice h saw found, left ∙ twice_part h saw found v, (other, refl))

-- ---- one try of a write
pub write_says : (c : Config) (h at : ℕ) (bytes : List ℕ) (a : WriteAnswer) (r : Reply) (v w : View)
    → SaysAs a r → WriteGives h at bytes a v w → WriteTries c h at bytes (Some r) v w
write_says c h at bytes a r v w says x = let z = write_finds h at bytes a v w x in
    ends_first (AtThis h) (IsUnanswered (IsWriteJob h at bytes)) (WriteCallEnds c h at bytes r) v w
    z.0 (inl (a, says, z.2)) z.1

pub write_vain : (h at : ℕ) (bytes : List ℕ) (vain : Turn → Type 0) (a : WriteAnswer) (v w : View)
    → IsNoReply a → (a ≡ place.NotHere → ⊥) → WriteGives h at bytes a v w
    → TriesInVain (AtThis h) vain v w
write_vain h at bytes vain (place.Ok version) v w none here x = absurd none
write_vain h at bytes vain place.Freed v w none here x = absurd none
write_vain h at bytes vain place.NotHere v w none here x = absurd (here refl)
write_vain h at bytes vain place.Moving v w none here (n, is, left) =
    (looked h n, vain_look h n vain, left ∙ look_part h n v)
write_vain h at bytes vain (place.Range len) v w none here x = absurd none
write_vain h at bytes vain (place.Pinned count) v w none here x = absurd none
write_vain h at bytes vain place.Worn v w none here x = absurd none
write_vain h at bytes vain (place.Raced saw found) v w none here (other, left, was) = (
  looked_twice h saw found,
  record {
    looks = look_at h found ∷ look_at h saw ∷ [];
    turns = [];
    at = (refl, (refl, tt));
    of = tt;
    idle = tt;
    kept = tt;
    part = refl;
  },
  left ∙ twice_part h saw found v,
)

-- what a write in place that is no reason for a turn comes to
pub write_tried : (c : Config) (h at : ℕ) (bytes : List ℕ) (a : WriteAnswer) (o : Option Reply)
    (v w : View) → ((r : Reply) → o ≡ Some r → SaysAs a r) → (o ≡ None → IsNoReply a)
    → (a ≡ place.NotHere → ⊥) → WriteGives h at bytes a v w → WriteTries c h at bytes o v w
write_tried c h at bytes a None v w says none here x = write_vain h at bytes
    (IsUnanswered (IsWriteJob h at bytes)) a v w (none refl) here x
write_tried c h at bytes a (Some r) v w says none here x =
    write_says c h at bytes a r v w (says r refl) x

-- ---- the loop round the tries
pub write_again : (c : Config) (h at : ℕ) (bytes : List ℕ) (o : Option Reply) (v w u : View)
    → o ≡ None → WriteTries c h at bytes None v w → WriteTries c h at bytes o w u
    → WriteTries c h at bytes None v u
write_again c h at bytes o v w u is x y =
    tries_then (AtThis h) (IsUnanswered (IsWriteJob h at bytes)) v w u x
    (subst (λ (z : Option Reply). WriteTries c h at bytes z w u) is y)

pub write_at_last : (c : Config) (h at : ℕ) (bytes : List ℕ) (o : Option Reply) (r : Reply)
    (v w u : View) → o ≡ Some r → WriteTries c h at bytes None v w
    → WriteTries c h at bytes o w u → WriteAnswers c h at bytes r v u
write_at_last c h at bytes o r v w u is x y =
    ends_then (AtThis h) (IsUnanswered (IsWriteJob h at bytes)) (WriteCallEnds c h at bytes r)
    (λ (q : View). q) v w u x (subst (λ (q : Option Reply). WriteTries c h at bytes q w u) is y)
