-- The steps of open writes leave the world sound.
use Rattle.std.proofs.Common.{◌≡◌, ℕ, ◌+◌, ◌*◌, ◌<◌, true, List, length, get_or, set, sym, ap, ◌∙◌, subst, arith}
use Rattle.cb_types.specs.declared.reply.Reply.{Reply}
use Rattle.cb_ptr.specs.Steps.{Settles}
use Rattle.cb_ptr.specs.Word.{place_of}
use Rattle.cb_world.specs.OpenSteps.{next_word}
use Rattle.cb_world.specs.Pinned.{with_word}
use Rattle.cb_world.specs.Plain.{Words}
use Rattle.cb_world.specs.World.{WorldState, IsSoundWorld, word_at}
use Rattle.cb_mutate.specs.Merged.{IsWordMerged}
use Rattle.cb_core.specs.Claiming.{ClaimStep, refused, taken, StoreStep, not_claimed, nothing_left, stored, stamped, SettleStep, not_stored, settled}
use Rattle.cb_core.proofs.OpenSettled.{settled_sound}
use Rattle.cb_core.proofs.OpenStamped.{stamped_sound}
use Rattle.cb_core.proofs.OpenSteps.{claimed_sound}
use Rattle.cb_core.proofs.OpenStored.{stored_sound}

pub claim_step_sound : (w new : WorldState) (seat h at : ℕ) (bytes : List ℕ) (r : Reply)
    → IsSoundWorld w → seat < 64 → h < w.desk.settings.handles
    → ClaimStep seat h at bytes w r new → IsSoundWorld new
claim_step_sound w new seat h at bytes r sound within below (refused not reply same) =
    subst IsSoundWorld (sym same) sound
claim_step_sound w new seat h at bytes r sound within below (taken m is reply t) =
    let lt : h < length w.desk.words = (let n = sound.known.sized.words in omega (arith, below, n)) in
    subst IsSoundWorld
    (sym (λ i. record { desk = t.word.words i; far = t.far i; seats = t.seats i }))
    (claimed_sound w seat h at t.word.word bytes sound within lt m.free m.inside m.next t.word.claims)

-- the words with a memory word stored for an object, and those with its version word stored
abbrev pub with_stored : Words → ℕ → ℕ → ℕ → Words
with_stored desk i word h = record desk { memory = set desk.memory (place_of (word_at desk h) + i) word }

abbrev pub with_stamp : Words → ℕ → ℕ → Words
with_stamp desk version h = record desk { versions = set desk.versions h version }

pub store_step_sound : (w new : WorldState) (seat h : ℕ) (r : Reply) → IsSoundWorld w → seat < 64
    → StoreStep seat h w r new → IsSoundWorld new
store_step_sound w new seat h r sound within (not_claimed none reply same) =
    subst IsSoundWorld (sym same) sound
store_step_sound w new seat h r sound within (nothing_left at x none reply same) =
    subst IsSoundWorld (sym same) sound
store_step_sound w new seat h r sound within (stored at x two reply m n) =
    let c = x.ongoing in let on : h ≡ c.handle = sym x.on in
    subst IsSoundWorld (sym (λ i. record {
      desk = (m.words ∙ ap (with_stored w.desk (next_word c) m.word) on) i;
      far = n.far i;
      seats = n.seats i;
    }))
    (stored_sound w seat at m.word c sound within x.there (omega (arith, two))
    (subst (λ (k : ℕ). IsWordMerged
    (get_or w.desk.memory (place_of (word_at w.desk k) + next_word c) 0)
    (8 * next_word c) c.at c.bytes m.word) on m.merged))
store_step_sound w new seat h r sound within (stamped at x last reply m n) =
    let c = x.ongoing in let on : h ≡ c.handle = sym x.on in
    subst IsSoundWorld (sym (λ i. record {
      desk = (m ∙ ap (with_stamp w.desk (c.version + 1)) on) i;
      far = n.far i;
      seats = n.seats i;
    }))
    (stamped_sound w seat at c sound within x.there last)

pub settle_step_sound : (w new : WorldState) (seat h : ℕ) (r : Reply) → IsSoundWorld w → seat < 64
    → SettleStep seat h w r new → IsSoundWorld new
settle_step_sound w new seat h r sound within (not_claimed none reply same) =
    subst IsSoundWorld (sym same) sound
settle_step_sound w new seat h r sound within (not_stored at x some reply same) =
    subst IsSoundWorld (sym same) sound
settle_step_sound w new seat h r sound within (settled at x none reply t) =
    let c = x.ongoing in let on : h ≡ c.handle = sym x.on in
    subst IsSoundWorld (sym (λ i. record {
      desk = (t.word.words ∙ ap (λ (k : ℕ). with_word w.desk k t.word.word) on) i;
      far = t.far i;
      seats = t.seats i;
    }))
    (settled_sound w seat at t.word.word c sound within x.there
    (subst (λ (k : ℕ). Settles (word_at w.desk k) (place_of (word_at w.desk k)) true t.word.word) on
    t.word.settles))
