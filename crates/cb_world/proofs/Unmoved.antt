-- What a change of objects that are not far leaves of the far part of the sound world.
use Rattle.std.proofs.Common.{◌≡◌, ◌⊎◌, ℕ, suc, ◌+◌, ◌-◌, ◌*◌, ◌<◌, ◌≤◌, List, [], ◌∷◌, ◌++◌, Some, Contains, length, get_or, map, sym, refl, ap, ◌∙◌, subst, arith, inl, inr}
use Rattle.std.specs.FinMap as map
use Rattle.cb_class.specs.Class.{pages_of}
use Rattle.cb_gf256.specs.Rows.{row_at}
use Rattle.cb_member.specs.declared.names.Shard.{Shard}
use Rattle.cb_set.specs.SetState.{SetState}
use Rattle.cb_world.specs.declared.object.Object.{Object}
use Rattle.cb_world.specs.declared.object.Object.TheVariants as is
use Rattle.cb_world.specs.declared.shown.Shown.{Shown}
use Rattle.cb_world.specs.Shown.{object_at}
use Rattle.cb_world.specs.FarState.{FarState, span_in}
use Rattle.cb_world.specs.Leaving.{LeavingState}
use Rattle.cb_world.specs.Joining.{JoiningState}
use Rattle.cb_world.specs.Join.{IsFresh}
use Rattle.cb_world.specs.SetWord.{IsSpanWord}
use Rattle.cb_world.specs.FarSound.{IsShardOf, Owner, of_set, of_leaving, of_joining, batch_rows, AwaySound, FarSound}
use Rattle.cb_ptr.specs.Word.{len_of, place_of}
use Rattle.cb_span.specs.Contents.{Contents, handle_at}
use Rattle.cb_world.specs.Memory.{window, words_for}
use Rattle.cb_world.specs.RowWords.{row_of}
use Rattle.cb_world.specs.LocalSound.{LocalSound}
use Rattle.cb_world.specs.Sound.{IsNoted, AreNoted, IsLeaving, Sound}
use Rattle.cb_world.specs.Reserved.{IsUnpaired}
use Rattle.cb_world.specs.Sets.{SetMap}
use Rattle.cb_world.specs.Counts.{CountsState}
use Rattle.cb_world.specs.SetAdded.{is_far}
use Rattle.cb_world.proofs.Added.{was_far}
use Rattle.cb_world.proofs.Apart.{slot_inside, some_same}
use Rattle.cb_world.proofs.Reserving.{noted_by}
use Rattle.cb_world.proofs.Surveying.{survey_same}
use Rattle.cb_world.proofs.Windows.{window_at, window_same}

-- the object is empty, or here for others to change
abbrev pub IsAtLarge : Object → Type 0
IsAtLarge (is.Empty v) = Unit {0}
IsAtLarge (is.Here len place) = Unit {0}
IsAtLarge _ = ⊥

-- the object is empty or here, before and after
pub record IsNear (s t : Shown) (h : ℕ) : Type 0 where
  pub before : IsAtLarge (object_at s h)
  pub after : IsAtLarge (object_at t h)

not_far : (o : Object) → IsAtLarge o → is_far o → ⊥
not_far (is.Empty v) large far = far
not_far (is.Far len v words) large far = large
not_far (is.Here len place) large far = far
not_far (is.Claimed len place v words) large far = large

not_claimed : (o : Object) (len place v : ℕ) (words : List ℕ) → IsAtLarge o
    → o ≡ is.Claimed len place v words → ⊥
not_claimed o len place v words large e = subst IsAtLarge e large

-- the parts of the far state that say where far objects are
pub record KeepsAway (far new : FarState) : Type 0 where
  pub sets : new.sets ≡ far.sets
  pub homes : new.homes ≡ far.homes
  pub nodes : new.nodes ≡ far.nodes
  pub members : new.members ≡ far.members
  pub leaving : new.leaving ≡ far.leaving
  pub joining : new.joining ≡ far.joining
  pub counts : new.counts ≡ far.counts
  pub survey : new.survey ≡ far.survey

pub keeps_all : (far : FarState) → KeepsAway far far
keeps_all far = record {
  sets = refl;
  homes = refl;
  nodes = refl;
  members = refl;
  leaving = refl;
  joining = refl;
  counts = refl;
  survey = refl;
}

-- the far part of the state with other local parts, and another code in force
abbrev pub with_local : FarState → FarState → FarState
with_local far new = record far {
  first = new.first;
  made = new.made;
  frames = new.frames;
  spans = new.spans;
  code = new.code;
}

-- a state that keeps the far parts is the old one with its own local parts
pub same_away : (far new : FarState) → KeepsAway far new → new ≡ with_local far new
same_away far new k = λ i. record {
  first = new.first;
  made = new.made;
  frames = new.frames;
  spans = new.spans;
  sets = k.sets i;
  homes = k.homes i;
  nodes = k.nodes i;
  members = k.members i;
  code = new.code;
  leaving = k.leaving i;
  joining = k.joining i;
  counts = k.counts i;
  survey = k.survey i;
}

shard_kept : (far new : FarState) (o : Owner) (a : Shard) → IsShardOf (with_local far new) o a
    → IsShardOf far o a
shard_kept far new (of_set id p) a x = x
shard_kept far new (of_leaving p) a x = x
shard_kept far new (of_joining p) a x = x

shard_back : (far new : FarState) (o : Owner) (a : Shard) → IsShardOf far o a
    → IsShardOf (with_local far new) o a
shard_back far new (of_set id p) a x = x
shard_back far new (of_leaving p) a x = x
shard_back far new (of_joining p) a x = x

far_stays : (s t : Shown) (h len v : ℕ) (words : List ℕ)
    → (object_at t h ≡ object_at s h) ⊎ IsNear s t h → object_at s h ≡ is.Far len v words
    → object_at t h ≡ is.Far len v words
far_stays s t h len v words (inl same) e = same ∙ e
far_stays s t h len v words (inr near) e =
    absurd (not_far (object_at s h) near.before (was_far (object_at s h) len v words e))

far_was : (s t : Shown) (h len v : ℕ) (words : List ℕ)
    → (object_at t h ≡ object_at s h) ⊎ IsNear s t h → object_at t h ≡ is.Far len v words
    → object_at s h ≡ is.Far len v words
far_was s t h len v words (inl same) e = sym same ∙ e
far_was s t h len v words (inr near) e =
    absurd (not_far (object_at t h) near.after (was_far (object_at t h) len v words e))

fresh_back : (far new : FarState) (pair : JoiningState) (a b : SetState)
    → IsFresh (with_local far new) pair a b → IsFresh far pair a b
fresh_back far new pair a b f = record {
  a_there = f.a_there;
  b_there = f.b_there;
  a_shards = f.a_shards;
  b_shards = f.b_shards;
  a_whole = f.a_whole;
  b_whole = f.b_whole;
}

-- the far part stays sound where no far object changed and the leaving frames are as they were
pub away_kept : (s t : Shown) (far new : FarState) → KeepsAway far new
    → ((h : ℕ) → (object_at t h ≡ object_at s h) ⊎ IsNear s t h)
    → ((b : LeavingState) → far.leaving ≡ Some b → batch_rows t b ≡ batch_rows s b)
    → FarSound s far → FarSound t new
away_kept s t far new keeps objects batches sound =
    subst (FarSound t) (sym (same_away far new keeps)) (record {
      sound = record {
        sets = record {
          shaped = x.sets.shaped;
          worded = λ id set there. let w = x.sets.worded id set there in (
            w.0,
            record {
              word = w.1.word;
              holds = λ p slot h e. let o = w.1.holds p slot h e in
                  record {
                    len = o.len;
                    version = o.version;
                    words = o.words;
                    class = o.class;
                    away = far_stays s t h o.len o.version o.words (objects h) o.away;
                    fits = o.fits;
                    paged = o.paged;
                    sized = o.sized;
                    contents = o.contents;
                  };
            },
          );
          live = x.sets.live;
          kept = x.sets.kept;
          numbered = x.sets.numbered;
        };
        away = record {
          away = λ h len v words e.
              x.away.away h len v words (far_was s t h len v words (objects h) e);
          home = x.away.home;
          named = x.away.named;
        };
        rows = record {
          members = x.rows.members;
          counted = x.rows.counted;
          room = x.rows.room;
          owned = λ node key row e. let o = x.rows.owned node key row e in
              (o.0, o.1, shard_back far new o.0 o.1 o.2, o.3, o.4, o.5);
          one = λ o q a b p r. x.rows.one o q a b (shard_kept far new o a p)
              (shard_kept far new q b r);
          drawn = λ o a p. x.rows.drawn o a (shard_kept far new o a p);
          current = λ o a p. x.rows.current o a (shard_kept far new o a p);
        };
        batch = λ b there. let y = x.batch b there in let e = sym (batches b there) in record {
          word = λ made. subst (λ (rows : List (List ℕ)).
              IsSpanWord b.pages (length b.frames) (length b.parities) rows) e (y.word made);
          bare = y.bare;
          count = y.count;
          put = λ p shard at lost. y.put p shard at lost
              ∙ ap (λ (rows : List (List ℕ)). Some (row_at rows p)) e;
          apart = y.apart;
        };
      };
      survey = survey_same far (with_local far new) refl refl (omega arith) (λ id. refl) sound.survey;
      join = λ pair there. let j = sound.join pair there in record {
        pages = j.pages;
        k = j.k;
        r = j.r;
        range = j.range;
        taken = j.taken;
        a_count = j.a_count;
        b_count = j.b_count;
        count = j.count;
        apart = j.apart;
        drawn = j.drawn;
        a_keys = j.a_keys;
        b_keys = j.b_keys;
        steps = j.steps;
        beside = j.beside;
        fit = λ a b f. j.fit a b (fresh_back far new pair a b f);
        word = λ a b f. let w = j.word a b (fresh_back far new pair a b f) in (
          w.0,
          record {
            word = w.1.word;
            a_rows = w.1.a_rows;
            b_rows = w.1.b_rows;
            new_rows = w.1.new_rows;
          },
        );
      };
    })
  where
    x : AwaySound s far
    x = sound.sound

-- the spans that are leaving and the words of their runs are the same
pub record KeepsLeaving (s t : Shown) (far new : FarState) (batch : LeavingState) : Type 0 where
  pub spans : (f : ℕ) → Contains batch.frames f → span_in new.spans f ≡ span_in far.spans f
  pub words : (f : ℕ) → Contains batch.frames f
      → window t.memory (512 * f) (512 * batch.pages)
      ≡ window s.memory (512 * f) (512 * batch.pages)

same_rows : (ms ns : List ℕ) (n : ℕ) (fs : List ℕ)
    → ((f : ℕ) → Contains fs f → window ns (512 * f) n ≡ window ms (512 * f) n)
    → map (λ f. row_of (window ns (512 * f) n)) fs ≡ map (λ f. row_of (window ms (512 * f) n)) fs
same_rows ms ns n [] same = refl
same_rows ms ns n (f ∷ fs) same =
    ap (λ (row : List ℕ). row ∷ map (λ f. row_of (window ns (512 * f) n)) fs)
    (ap (λ (ws : List ℕ). row_of ws) (same f (0, omega arith, refl)))
    ∙ ap (λ (rows : List (List ℕ)). row_of (window ms (512 * f) n) ∷ rows)
    (same_rows ms ns n fs (λ g c. same g (c.0 + 1, omega (arith, c.1), later fs f g c)))
  where
    later : (fs : List ℕ) (f g : ℕ) → (c : Contains fs g) → get_or (f ∷ fs) (c.0 + 1) g ≡ g
    later fs f g c = ap (λ (i : ℕ). get_or (f ∷ fs) i g) (let e : c.0 + 1 ≡ suc c.0 = omega arith in e) ∙ c.2

pub batch_kept : (s t : Shown) (far new : FarState) (batch : LeavingState)
    → KeepsLeaving s t far new batch → batch_rows t batch ≡ batch_rows s batch
batch_kept s t far new batch k =
    ap (λ (rows : List (List ℕ)). rows ++ batch.parities)
    (same_rows s.memory t.memory (512 * batch.pages) batch.frames k.words)

-- and so do the set kept for it and the numbers
pub record KeepsNumbers (far new : FarState) (batch : LeavingState) : Type 0 where
  pub sets : map.get new.sets batch.set ≡ map.get far.sets batch.set
  pub drawn : far.counts.sets ≤ new.counts.sets
  pub unpaired : IsUnpaired far batch.set → IsUnpaired new batch.set

pub away_numbers : (far new : FarState) (batch : LeavingState) → KeepsAway far new
    → KeepsNumbers far new batch
away_numbers far new batch k = record {
  sets = ap (λ (m : SetMap). map.get m batch.set) k.sets;
  drawn = (let e = ap (λ (c : CountsState). c.sets) k.counts in omega (arith, e));
  unpaired = λ x pair at. x pair (sym k.joining ∙ at);
}

noted_kept : (s t : Shown) (far new : FarState) (batch : LeavingState)
    → KeepsLeaving s t far new batch → KeepsNumbers far new batch
    → ((h : ℕ) → (object_at t h ≡ object_at s h) ⊎ IsNear s t h)
    → AreNoted s far batch → AreNoted t new batch
noted_kept s t far new batch k numbers objects noted = noted_by s t far new batch (record {
  spans = k.spans;
  sets = numbers.sets;
  drawn = numbers.drawn;
  unpaired = numbers.unpaired;
}) (λ f slot h span leaves there named n. stays n (objects h)) noted
  where
    stays : {h : ℕ} → (n : IsNoted s batch h) → (object_at t h ≡ object_at s h) ⊎ IsNear s t h
        → IsNoted t batch h
    stays {h} n (inl same) = record {
      former = n.former;
      noted = n.noted;
      handle = n.handle;
      free = n.free;
      below = n.below;
      version = n.version;
      words = n.words;
      claimed = same ∙ n.claimed;
      small = n.small;
    }
    stays {h} n (inr near) = absurd (not_claimed (object_at s h) (len_of n.former.word)
        (place_of n.former.word) n.version n.words near.before n.claimed)

-- words of a run that is as it was
in_run : (ms ns : List ℕ) (f pages place n : ℕ) → 512 * f ≤ place → place + n ≤ 512 * (f + pages)
    → window ns (512 * f) (512 * pages) ≡ window ms (512 * f) (512 * pages)
    → window ns place n ≡ window ms place n
in_run ms ns f pages place n start end same =
    window_same ns ms place n (λ i low high. let k = i - 512 * f in
    let at : 512 * f + k ≡ i = omega (arith, low, start) in
    let below : k < 512 * pages = omega (arith, low, high, start, end) in
    ap (λ (j : ℕ). get_or ns j 0) (sym at) ∙ sym (window_at ns (512 * f) (512 * pages) k below)
    ∙ ap (λ (l : List ℕ). get_or l k 0) same ∙ window_at ms (512 * f) (512 * pages) k below
    ∙ ap (λ (j : ℕ). get_or ms j 0) at)

-- a span that is leaving has the batch's length
pub leaving_pages : (s : Shown) (far : FarState) (batch : LeavingState) (f : ℕ) (span : Contents)
    → AreNoted s far batch → Contains batch.frames f → span_in far.spans f ≡ Some span
    → pages_of span.class ≡ batch.pages
leaving_pages s far batch f span noted leaves there =
    let h = noted.held f leaves in
    ap (λ (c : Contents). pages_of c.class) (some_same span h.0 (sym there ∙ h.1)) ∙ h.2

-- the objects of the leaving frames are claimed with the same words
claimed_kept : (s t : Shown) (far new : FarState) → Sound s far → far.leaving ≡ new.leaving
    → ((h : ℕ) → (object_at t h ≡ object_at s h) ⊎ IsNear s t h)
    → ((batch : LeavingState) → far.leaving ≡ Some batch → KeepsLeaving s t far new batch)
    → (h len place v : ℕ) (words : List ℕ) → object_at t h ≡ is.Claimed len place v words
    → IsLeaving t new h len place words
claimed_kept s t far new sound same objects leaving h len place v words e = by (objects h)
  where
    by : (object_at t h ≡ object_at s h) ⊎ IsNear s t h → IsLeaving t new h len place words
    by (inr near) = absurd (not_claimed (object_at t h) len place v words near.after e)
    by (inl stays) =
        let x = sound.claimed h len place v words (sym stays ∙ e) in
        let k = leaving x.batch x.there in
        let inside = slot_inside far s h len place sound.here x.slot in
        let long = leaving_pages s far x.batch x.slot.frame x.slot.span (sound.noted x.batch x.there)
        x.leaves x.slot.there in record {
          batch = x.batch;
          there = sym same ∙ x.there;
          slot = record {
            frame = x.slot.frame;
            slot = x.slot.slot;
            span = x.slot.span;
            there = k.spans x.slot.frame x.leaves ∙ x.slot.there;
            named = x.slot.named;
            at = x.slot.at;
            fits = x.slot.fits;
          };
          leaves = x.leaves;
          contents = x.contents ∙ sym (in_run s.memory t.memory x.slot.frame x.batch.pages place
              (words_for len) inside.0 (omega (arith, inside.1, long)) (k.words x.slot.frame x.leaves));
        }

-- the world stays sound where no far and no claimed object changed, and the leaving frames are as
-- they were
pub sound_near : (s t : Shown) (far new : FarState) → Sound s far → LocalSound t new
    → KeepsAway far new
    → ((h : ℕ) → (object_at t h ≡ object_at s h) ⊎ IsNear s t h)
    → ((batch : LeavingState) → far.leaving ≡ Some batch → KeepsLeaving s t far new batch)
    → Sound t new
sound_near s t far new sound here keeps objects leaving = record {
  here = here;
  noted = λ batch there. let was = sym keeps.leaving ∙ there in
      noted_kept s t far new batch (leaving batch was) (away_numbers far new batch keeps) objects
      (sound.noted batch was);
  claimed = claimed_kept s t far new sound (sym keeps.leaving) objects leaving;
  away = away_kept s t far new keeps objects
      (λ batch there. batch_kept s t far new batch (leaving batch there)) sound.away;
}

-- an object that is here does not stand in a frame that is leaving
pub not_leaving : (s : Shown) (far : FarState) (batch : LeavingState) (f slot h : ℕ)
    (span : Contents) → Sound s far → far.leaving ≡ Some batch → IsAtLarge (object_at s h)
    → span_in far.spans f ≡ Some span → handle_at span slot ≡ Some h → Contains batch.frames f → ⊥
not_leaving s far batch f slot h span sound there large span_there named leaves =
    let n = (sound.noted batch there).each f slot h span leaves span_there named in
    not_claimed (object_at s h) (len_of n.former.word) (place_of n.former.word) n.version n.words
    large n.claimed
