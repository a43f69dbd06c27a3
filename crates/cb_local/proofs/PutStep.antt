-- The rows of an order, put one after another.
use Rattle.std.proofs.Common.{◌≡◌, ℕ, ◌+◌, ◌-◌, ◌^◌, ◌<◌, ◌≤◌, true, false, List, length, get_or, Option, Some, None, sym, ap, ◌∙◌, subst, arith}
use Rattle.std.specs.Prelude.{Result, Ok, Err, IfSome, OnErr}
use Rattle.std.specs.List.{slice_get}
use Rattle.std.proofs.lemmas.Option.{slice_get-get_or}
use Rattle.cb_gf256.specs.Rows.{row_at}
use Rattle.cb_member.specs.declared.names.Shard.{Shard}
use Rattle.cb_node.specs.NodesState.{held}
use Rattle.cb_set.specs.SetState.{SetState}
use Rattle.cb_world.specs.declared.shown.Shown.{Shown}
use Rattle.cb_world.specs.FarSound.{FarSound}
use Rattle.cb_world.specs.FarState.{FarState}
use Rattle.cb_world.specs.Joining.{JoiningState}
use Rattle.cb_world.specs.Merged.{IsMergedWord}
use Rattle.cb_world.specs.Sound.{Sound}
use Rattle.cb_compact.specs.PartStep.{IsFreshPair}
use Rattle.cb_compact.specs.PatchStep.{IsMergedRow, IsNext, is_undone, shard_beside, with_stepped}
use Rattle.cb_compact.proofs.Laws.{few_steps, fresh_code}
use Rattle.cb_local.specs.Delta.{DoneState}
use Rattle.cb_local.specs.Putting.{ArePut, HasTakenSteps, with_count}
use Rattle.cb_local.specs.Words.{AreMergedParities, IsOfWords}
use Rattle.cb_local.specs.declared.order.DeltaOrder.{DeltaOrder}
use Rattle.cb_local.proofs.Counted.{fresh_counted, sound_counted}
use Rattle.cb_local.proofs.Taking.{taken_below, taken_one, taken_past, taken_sound}

-- an error that leaves what is known
pub on_error : {T E : Type 0} (P : Type 0) (r : Result T E) → P → OnErr r P
on_error P (Ok v) x = tt
on_error P (Err e) x = x

pub if_some : {X : Type 0} (P Q : X → Type 0) (o : Option X) → ((x : X) → P x → Q x)
    → IfSome o P → IfSome o Q
if_some P Q None f x = tt
if_some P Q (Some v) f x = f v x

-- the row of a parity
pub parity_row : (order : DeltaOrder) (rows : List (List ℕ)) (p : ℕ) (row : List ℕ)
    → AreMergedParities order rows → p < order.k + order.r → order.k ≤ p
    → row ≡ row_at rows (p - order.k) → (pages : ℕ) (wa wb m : List (List ℕ))
    → IsOfWords order pages wa wb → IsMergedWord pages order.k order.r order.taken wa wb m
    → row ≡ row_at m p
parity_row order rows p row merged l past e pages wa wb m x y =
    e ∙ merged pages wa wb m x y (p - order.k) (omega (arith, l, past))
    ∙ ap (row_at m) (let s : order.k + (p - order.k) ≡ p = omega (arith, past) in s)

-- ---- the place of a position
pub at_places : (s : Shown) (far : FarState) (pair : JoiningState) (a b : SetState)
    → FarSound s far → IsFreshPair far pair a b → length pair.steps ≡ length pair.shards_a
at_places s far pair a b sound fresh =
    let j = sound.join pair fresh.was in let n = j.count in let m = j.a_count in
    omega (arith, n, m)

module _ (done : DoneState) (s : Shown) (begun : FarState) (first : JoiningState) (a b : SetState)
    (far : FarState) (n : ℕ) (x : ArePut done s begun first a b far n) where
  abbrev plain : FarState
  plain = with_count far begun.nodes.given

  abbrev pair : JoiningState
  pair = x.taken.pair

  plain_sound : Sound s plain
  plain_sound = taken_sound s begun first a b plain n x.sound x.taken

  pub at_sound : Sound s far
  at_sound = sound_counted s plain far.nodes.given plain_sound

  pub at_fresh : IsFreshPair far pair a b
  at_fresh = fresh_counted plain far.nodes.given pair a b x.taken.fresh

  pub at_few : length pair.steps ≤ 20
  at_few = few_steps s plain pair plain_sound.away x.taken.fresh.was

  pub at_keys : n < length first.steps → far.counts.keys + 1 ≤ 2 ^ 62
  at_keys l = let k = x.taken.gone.keys in let f = x.few in let c = x.taken.count in
      let e = at_few in omega (arith, l, k, f, c, e)

  -- nothing was to be done
  pub put_past : is_undone pair (length a.positions) n ≡ false
      → ArePut done s begun first a b far (n + 1)
  put_past e = record {
    sound = x.sound;
    made = x.made;
    rooms = x.rooms;
    few = x.few;
    taken = taken_past s begun first a b plain n x.sound x.taken e;
    given = x.given;
  }

  module _ (within : n < length first.steps)
      (undone : is_undone pair (length a.positions) n ≡ true) where
    pub at_within : n < length pair.steps
    at_within = let c = x.taken.count in omega (arith, within, c)

    pub at_next : IsNext pair (length a.positions) n
    at_next = record {
      within = at_within;
      undone = undone;
      least = taken_below s begun first a b plain n x.sound x.taken;
    }

    pub in_word : n < done.order.k + done.order.r
    in_word =
        let c = fresh_code s plain pair a b plain_sound.away x.taken.fresh in
        let m = c.a_count in let e = at_places s plain pair a b plain_sound.away x.taken.fresh in
        let l = at_within in let k = x.made.fetched.k_is in let r = x.made.fetched.r_is in
        omega (arith, m, e, l, k, r)

    abbrev pub at_old : Shard
    at_old = get_or pair.shards_a n (record { node = record { n = 0 }; incarnation = 0; key = 0 })

    pub at_there : slice_get pair.shards_a n ≡ Some at_old
    at_there = slice_get-get_or pair.shards_a n _
        (let e = at_places s plain pair a b plain_sound.away x.taken.fresh in let l = at_within in
        omega (arith, e, l))

    pub at_room : held far.nodes at_old.node < far.nodes.room
    at_room =
        let here = ap (λ (l : List Shard). slice_get l n) (sym x.taken.shards) ∙ at_there in
        let fits = x.rooms n at_old (omega arith) within
        (sym (x.taken.undone n (omega arith)) ∙ undone) here in
        let same = x.taken.held_same n at_old (omega arith) here in let wide = x.taken.room in
        omega (arith, fits, same, wide)

    pub put_one : (new : FarState) (row : List ℕ)
        → ((pages : ℕ) (wa wb m : List (List ℕ)) → IsOfWords done.order pages wa wb
        → IsMergedWord pages done.order.k done.order.r done.order.taken wa wb m → row ≡ row_at m n)
        → new ≡ with_stepped far pair n (shard_beside far at_old) row
        → ArePut done s begun first a b new (n + 1)
    put_one new row is state =
        let taken = x.made.fetched.taken_is ∙ sym x.taken.taken in
        let merged : IsMergedRow plain pair a b n row = λ wa wb m xa xb y.
        is a.pages wa wb m
        (x.made.fetched.words wa wb (x.taken.a_words wa xa) (x.taken.b_words wb xb))
        (subst (λ (t : List ℕ). IsMergedWord a.pages done.order.k done.order.r t wa wb m)
        (sym taken) (subst (λ (k : ℕ). IsMergedWord a.pages k done.order.r pair.taken wa wb m)
        (sym x.made.fetched.k_is)
        (subst (λ (r : ℕ). IsMergedWord a.pages (length a.positions) r pair.taken wa wb m)
        (sym x.made.fetched.r_is) y))) in record {
          sound = x.sound;
          made = x.made;
          rooms = x.rooms;
          few = x.few;
          taken = subst (λ (f : FarState). HasTakenSteps begun first a b f (n + 1))
              (sym (ap (λ (f : FarState). with_count f begun.nodes.given) state))
              (taken_one s begun first a b plain n x.sound x.taken at_old row at_next at_there
              at_room merged);
          given = ap (λ (f : FarState). f.nodes.given) state ∙ x.given;
        }
