-- What the notes of a leaving batch say of its objects.
use Rattle.std.proofs.Common.{◌≡◌, ◌≢◌, ℕ, ◌^◌, ◌<◌, List, length, get_or, All, Some, sym, ap, ◌∙◌, subst, arith, inl, inr}
use Rattle.std.specs.List.{Contains}
use Rattle.std.proofs.lemmas.Bool.{cases_lt, cases_order}
use Rattle.std.proofs.lemmas.List.{get_or_default, get_or_past}
use Rattle.std.proofs.lemmas.List.Elements.{All-contains}
use Rattle.cb_ptr.specs.Word.{len_of, place_of}
use Rattle.cb_world.specs.declared.leaving.Former.{Former}
use Rattle.cb_world.specs.declared.object.Object.{Object}
use Rattle.cb_world.specs.declared.object.Object.TheVariants as is
use Rattle.cb_world.specs.declared.shown.Shown.{Shown}
use Rattle.cb_world.specs.Shown.{object_at, version_at, never}
use Rattle.cb_world.specs.FarState.{FarState, span_in, handle_in}
use Rattle.cb_world.specs.Grasped.{IsFree}
use Rattle.cb_world.specs.Leaving.{LeavingState}
use Rattle.cb_world.specs.LocalSound.{IsStamped}
use Rattle.cb_world.specs.Sound.{AreNoted, IsNoted, Sound}
use Rattle.cb_world.specs.FarSound.{of_leaving}
use Rattle.cb_world.specs.Reserved.{put_shards}
use Rattle.cb_world.specs.Stored.{AreThere}
use Rattle.cb_world.proofs.Laws.{put_from}
use Rattle.cb_evict.specs.Claims.{AreApart, IsNone}
use Rattle.cb_evict.specs.Restoring.{IsClaimedFrom}
use Rattle.cb_evict.proofs.Standing.{named_at, names_span}
use Rattle.cb_evict.proofs.Options.{some_same}

never_claimed : (len place v : ℕ) (words : List ℕ) → never ≡ is.Claimed len place v words → ⊥
never_claimed len place v words e = cc

-- an object that is claimed is one that there is
pub claimed_within : (s : Shown) (h len place v : ℕ) (words : List ℕ)
    → object_at s h ≡ is.Claimed len place v words → h < length s.objects
claimed_within s h len place v words e = elim (cases_lt h (length s.objects)) [
  | inl within ↦ within
  | inr past ↦ absurd (never_claimed len place v words (sym (get_or_past s.objects h never past) ∙ e))
]

-- two of the notes on one object are one
one_note : (words : List Former) (a b : Former)
    → ((i j : ℕ) (d : Former) → i < j → j < length words
    → (get_or words i d).handle ≢ (get_or words j d).handle)
    → Contains words a → Contains words b → a.handle ≡ b.handle → a ≡ b
one_note words a b once (i, l, e) (j, m, g) same = elim (cases_order i j) [
  | inl at ↦ sym e ∙ get_or_default words i a b l ∙ ap (λ (n : ℕ). get_or words n b) at ∙ g
  | inr differ ↦ elim differ [
    | inl less ↦ absurd (once i j a less m
        (ap (λ (f : Former). f.handle) e ∙ same
        ∙ sym (ap (λ (f : Former). f.handle) (get_or_default words j a b m ∙ g))))
    | inr more ↦ absurd (once j i a more l
        (ap (λ (f : Former). f.handle) (get_or_default words j a b m ∙ g) ∙ sym same
        ∙ sym (ap (λ (f : Former). f.handle) e)))
  ]
]

-- what is known of a sound world in which a batch is leaving
module _ (s : Shown) (far : FarState) (batch : LeavingState) (sound : Sound s far)
    (there : far.leaving ≡ Some batch) where
  noted : AreNoted s far batch
  noted = sound.noted batch there

  -- the note is that of its object
  noted_one : (f : Former) → Contains batch.words f → (n : IsNoted s batch f.handle) × (n.former ≡ f)
  noted_one f c =
      let x = All-contains (λ g. (k i : ℕ) × Contains batch.frames k
      × (handle_in (span_in far.spans k) i ≡ Some g.handle)) batch.words f noted.only c in
      let span = names_span far.spans x.0 f.handle (x.1, x.3) in
      let n = noted.each x.0 x.1 f.handle span.0 x.2 span.1
      (named_at far.spans x.0 x.1 f.handle span.0 span.1 x.3) in
      (n, one_note batch.words n.former f noted.each_once n.noted c n.handle)

  -- each object of the batch is claimed at its noted word
  claimed_one : length s.hots ≡ length s.objects → (f : Former) → Contains batch.words f
      → IsClaimedFrom s f
  claimed_one warm f c =
      let x = noted_one f c in let n = x.0 in
      let e : object_at s f.handle ≡ is.Claimed (len_of f.word) (place_of f.word) n.version n.words =
      n.claimed ∙ ap (λ (g : Former). is.Claimed (len_of g.word) (place_of g.word) n.version n.words) x.1 in
      let within = claimed_within s f.handle (len_of f.word) (place_of f.word) n.version n.words e in
      record {
        version = n.version;
        words = n.words;
        object = e;
        free = subst (λ (g : Former). IsFree g.word) x.1 n.free;
        below = subst (λ (g : Former). g.word < 2 ^ 53) x.1 n.below;
        contents = sym (sound.claimed f.handle (len_of f.word) (place_of f.word) n.version n.words e).contents;
        handle = within;
        warm = omega (arith, within, warm);
      }

  pub claimed_all : length s.hots ≡ length s.objects → All (IsClaimedFrom s) batch.words
  claimed_all warm k d l = claimed_one warm (get_or batch.words k d)
      (k, l, get_or_default batch.words k (get_or batch.words k d) d l)

  -- an object that is none of them is not claimed
  pub none_claimed : (h len place v : ℕ) (words : List ℕ) → IsNone batch.words h
      → object_at s h ≡ is.Claimed len place v words → ⊥
  none_claimed h len place v words none e =
      let x = sound.claimed h len place v words e in
      let same = some_same x.batch batch (sym x.there ∙ there) in
      let leaves : Contains batch.frames x.slot.frame =
      subst (λ (b : LeavingState). Contains b.frames x.slot.frame) same x.leaves in
      let n = noted.each x.slot.frame x.slot.slot h x.slot.span leaves x.slot.there x.slot.named in
      All-contains (λ f. f.handle ≢ h) batch.words n.former none n.noted n.handle

  -- the version word of an object of the batch
  pub stamp_of : (h len place v : ℕ) (words : List ℕ)
      → object_at s h ≡ is.Claimed len place v words → version_at s h ≡ v
  stamp_of h len place v words e =
      subst (λ (o : Object). IsStamped o (version_at s h)) e (sound.here.known.stamped h)

  -- no two notes are on one object
  pub noted_apart : AreApart batch.words
  noted_apart = noted.each_once

  -- the nodes of the shards whose rows were put are there
  pub nodes_there : AreThere far.nodes (put_shards batch.shards)
  nodes_there p shard at =
      let rows = sound.away.sound.rows in
      let x = put_from batch.shards p shard at in
      let c = (rows.current (of_leaving x.0) shard (batch, there, x.1)).0 in
      omega (arith, c, rows.counted)
