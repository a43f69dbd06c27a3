-- A write of a claimed object, step by step.
use Rattle.std.proofs.Common.{◌≡◌, ℕ, ◌+◌, ◌<◌, ◌≤◌, List, [], ◌∷◌, length, sym, refl, ap, ◌∙◌}
use Rattle.std.proofs.Common.{subst, arith, inl, inr}
use Rattle.atomic_table.specs.Seated.{TableId}
use Rattle.cb_types.specs.declared.config.Config.{Config}
use Rattle.cb_ptr.specs.Word.{len_of, pins_of, state_of}
use Rattle.cb_world.specs.Written.{entry}
use Rattle.cb_world.specs.declared.entry.Entry.{Entry}
use Rattle.cb_rule.specs.declared.view.Seen.{Seen}
use Rattle.cb_rule.specs.declared.view.View.{View}
use Rattle.cb_rule.specs.Seats.{pins_on}
use Rattle.cb_rule.specs.Slot.{Sat}
use Rattle.cb_rule.specs.Steps.{HasLast, IsNewest, held_at, with_freed_seen, with_look}
use Rattle.cb_shared.specs.declared.answers.WriteAnswer.{WriteAnswer}
use Rattle.cb_shared.specs.declared.answers.WriteAnswer.TheVariants.{Ok, Freed, NotHere, Moving}
use Rattle.cb_shared.specs.declared.answers.WriteAnswer.TheVariants.{Range, Pinned, Worn, Raced}
use Rattle.cb_shared.specs.declared.setup.Setup.{Setup}
use Rattle.cb_shared.specs.Claims.{with_only}
use Rattle.cb_shared.specs.Glances.{Glances}
use Rattle.cb_shared.specs.Passes.{IsAtRest}
use Rattle.cb_shared.specs.Seats.{IsOf, SeatAt, Moves, record_at}
use Rattle.cb_shared.specs.Writing.{FoundFarAs, IsRoomFor, IsWriteRefusal, WriteAt, WriteClaimed}
use Rattle.cb_shared.specs.Writing.{WriteFrom, WriteGives, last_seen}
use Rattle.cb_shared.proofs.Resting.{far_empty, here_empty, moving_empty, view_of}

pub of_moves : (z : TableId) (k : Setup) (c : Config) (p q : SeatAt) (w : View) → IsOf z k c p
    → Moves p q w → w.config ≡ (record_at p).config → w.share ≡ (record_at p).share → IsOf z k c q
of_moves z k c p q w o m config share = record {
  table = m.0 ∙ o.table;
  words = o.words;
  key = o.key;
  config = ap (λ (x : Sat). x.0.config) m.2 ∙ config ∙ o.config;
  live = subst (λ (n : ℕ). 1 ≤ n) (sym (ap (λ (x : Sat). x.0.share) m.2 ∙ share)) o.live;
}

-- where a write at a claimed word leaves the seat
pub record IsAfter (c : Config) (h word at : ℕ) (bytes : List ℕ) (a : WriteAnswer) (p q : SeatAt)
    : Type 0 where
  pub table : (q.table_id ≡ p.table_id) × (q.me.1 ≡ p.me.1)
  pub share : (record_at q).share ≡ (record_at p).share
  pub pins : (record_at q).pins ≡ (record_at p).pins
  pub rest : IsAtRest c (record_at q)
  pub write : WriteAt h word at bytes a (record_at p) (record_at q)

rest_worn : (c : Config) (h n : ℕ) (s : Seen) (v : View) → IsAtRest c v → s.handle < c.handles
    → IsAtRest c (record (with_look h n v) { claims = []; seen = s ∷ v.seen })
rest_worn c h n s v rest below = record {
  config = rest.config;
  live = rest.live;
  most = rest.most;
  claims = refl;
  out = rest.out;
  fresh = rest.fresh;
  written = rest.written;
  seen = (below, rest.seen);
  pins = rest.pins;
  orders = rest.orders;
}

rest_written : (c : Config) (h n : ℕ) (e : Entry) (v : View) → IsAtRest c v → e.handle < c.handles
    → IsAtRest c (record (with_look h n v) { claims = []; written = e ∷ v.written })
rest_written c h n e v rest below = record {
  config = rest.config;
  live = rest.live;
  most = rest.most;
  claims = refl;
  out = rest.out;
  fresh = rest.fresh;
  written = (below, rest.written);
  seen = rest.seen;
  pins = rest.pins;
  orders = rest.orders;
}

pub written_at : (c : Config) (h word at : ℕ) (bytes : List ℕ) (a : WriteAnswer) (p m q : SeatAt)
    (v : ℕ) (words : List ℕ) → IsAtRest c (record_at p) → h < c.handles → IsNewest h v (record_at p)
    → Moves p m (with_only (held_at h word v words) (with_look h word (record_at p)))
    → WriteClaimed h word at bytes v words a m q → IsAfter c h word at bytes a p q
written_at c h word at bytes (Ok version) p m q v words rest below newest mv x =
    let u = record_at p in let e : Entry = entry h (v + 1) (len_of word) words x.1 in
    let w : View = record (with_look h word u) { claims = []; written = e ∷ u.written } in
    let left : q.me ≡ (let z : Sat = (w, p.me.1) in z) = x.3.2
    ∙ ap (λ (y : Sat).
    let z : Sat = (record y.0 { claims = []; written = e ∷ y.0.written }, y.1) in z) mv.2 in record {
      table = (x.3.0 ∙ mv.0, ap (λ (y : Sat). y.1) left);
      share = ap (λ (y : Sat). y.0.share) left;
      pins = ap (λ (y : Sat). y.0.pins) left;
      rest = subst (λ (y : Sat). IsAtRest c y.0) (sym left) (rest_written c h word e u rest below);
      write = record {
        old = words;
        new = x.1;
        last = v;
        newest = newest;
        next = x.0;
        write = x.2;
        left = ap (λ (y : Sat). y.0) left
            ∙ (λ i. record (with_look h word u) {
              claims = sym rest.claims i;
              written = entry h (sym x.0 i) (len_of word) words x.1 ∷ u.written;
            });
      };
    }
written_at c h word at bytes Worn p m q v words rest below newest mv x =
    let u = record_at p in let s : Seen = last_seen h word words in
    let w : View = record (with_look h word u) { claims = []; seen = s ∷ u.seen } in
    let left : q.me ≡ (let z : Sat = (w, p.me.1) in z) = x.1.2
    ∙ ap (λ (y : Sat).
    let z : Sat = (record y.0 { claims = []; seen = s ∷ y.0.seen }, y.1) in z) mv.2 in record {
      table = (x.1.0 ∙ mv.0, ap (λ (y : Sat). y.1) left);
      share = ap (λ (y : Sat). y.0.share) left;
      pins = ap (λ (y : Sat). y.0.pins) left;
      rest = subst (λ (y : Sat). IsAtRest c y.0) (sym left) (rest_worn c h word s u rest below);
      write = record {
        words = words;
        newest = subst (λ (n : ℕ). IsNewest h n u) x.0 newest;
        left = ap (λ (y : Sat). y.0) left
            ∙ (λ i. record (with_look h word u) { claims = sym rest.claims i; seen = s ∷ u.seen });
      };
    }
written_at c h word at bytes Freed p m q v words rest below newest mv x = absurd x
written_at c h word at bytes NotHere p m q v words rest below newest mv x = absurd x
written_at c h word at bytes Moving p m q v words rest below newest mv x = absurd x
written_at c h word at bytes (Range l) p m q v words rest below newest mv x = absurd x
written_at c h word at bytes (Pinned n) p m q v words rest below newest mv x = absurd x
written_at c h word at bytes (Raced s f) p m q v words rest below newest mv x = absurd x

-- a refusal by the word that was found is answered
refused_writes : (h w at : ℕ) (bytes : List ℕ) (a : WriteAnswer) (p q : SeatAt)
    → Glances h w p q
    → IsWriteRefusal at (length bytes) w a → WriteGives h at bytes a (record_at p) (record_at q)
refused_writes h w at bytes (Ok n) p q g why = absurd why
refused_writes h w at bytes Freed p q g why = let f = g.freed why in
    (w, f.0, why, f.1, view_of p q (with_freed_seen h f.0 w (record_at p)) f.2)
refused_writes h w at bytes NotHere p q g why =
    (w, why, view_of p q (with_look h w (record_at p)) (g.other (λ e. far_empty (sym why ∙ e))))
refused_writes h w at bytes Moving p q g why =
    (w, why, view_of p q (with_look h w (record_at p)) (g.other (λ e. moving_empty (sym why ∙ e))))
refused_writes h w at bytes (Range len) p q g why = (
  w,
  (why, λ alone. subst (λ (n : ℕ). HasLast h n (record_at p)) why.1 (g.held why.0 alone)),
  view_of p q (with_look h w (record_at p)) (g.other (λ e. here_empty (sym why.0 ∙ e))),
)
refused_writes h w at bytes (Pinned k) p q g why = (
  w,
  (
    why.0,
    (
      why.1,
      why.2,
      (λ all. sym why.1 ∙ (g.counted why.0.0).1 all),
      (let few = (g.counted why.0.0).0 in let is = why.1 in omega (arith, few, is)),
    ),
    g.held why.0.0,
  ),
  view_of p q (with_look h w (record_at p)) (g.other (λ e. here_empty (sym why.0.0 ∙ e))),
)
refused_writes h w at bytes Worn p q g why = absurd why
refused_writes h w at bytes (Raced s f) p q g why = absurd why

-- with its word where it was found far
refused_far : (h w at : ℕ) (bytes : List ℕ) (a : WriteAnswer) (p q : SeatAt) → Glances h w p q
    → IsWriteRefusal at (length bytes) w a → a ≡ NotHere
    → FoundFarAs h w (record_at p) (record_at q)
refused_far h w at bytes a p q g why is =
    let far = subst (IsWriteRefusal at (length bytes) w) is why in
    (far, view_of p q (with_look h w (record_at p)) (g.other (λ e. far_empty (sym far ∙ e))))

-- an exchange is made at a word that is here
claimed_here : (h w at : ℕ) (bytes : List ℕ) (a : WriteAnswer) (v u : View)
    → WriteAt h w at bytes a v u → a ≡ NotHere → ⊥
claimed_here h w at bytes a v u x is = subst (λ (z : WriteAnswer). WriteAt h w at bytes z v u) is x

-- ---- a look at a word that can be claimed, and then the exchange
module _ (h w at : ℕ) (bytes : List ℕ) (p m : SeatAt) (g : Glances h w p m)
    (room : IsRoomFor at (length bytes) w) (bare : pins_of w ≡ 0) where
  saw : record_at m ≡ with_look h w (record_at p)
  saw = view_of p m (with_look h w (record_at p)) (g.other (λ e. here_empty (sym room.0 ∙ e)))

  -- the word counts the pass's own pins too
  loose : pins_on h (record_at p) ≡ 0
  loose = let few = (g.counted room.0).0 in omega (arith, few, bare)

  newest_before : (n : ℕ) → IsNewest h n (record_at m) → IsNewest h n (record_at p)
  newest_before n x = let y = subst (IsNewest h n) saw x in
      record { written = y.written; seen = y.seen; lone = y.lone }

  claimed_writes : (z : View) (a : WriteAnswer) → WriteAt h w at bytes a (record_at m) z
      → WriteGives h at bytes a (record_at p) z
  claimed_writes z (Ok version) x = record {
    word = w;
    old = x.old;
    new = x.new;
    last = x.last;
    room = room;
    bare = bare;
    loose = loose;
    newest = newest_before x.last x.newest;
    next = x.next;
    write = x.write;
    left = x.left ∙ ap (λ (v : View). let z : View = record (with_look h w v) {
      written = entry h version (len_of w) x.old x.new ∷ v.written;
    } in z) saw;
  }
  claimed_writes z Worn x = record {
    word = w;
    words = x.words;
    room = room;
    bare = bare;
    loose = loose;
    newest = newest_before _ x.newest;
    left = x.left ∙ ap (λ (v : View). let z : View = record (with_look h w v) {
      seen = last_seen h w x.words ∷ v.seen;
    } in z) saw;
  }
  claimed_writes z (Raced seen found) x = (
    (λ e. x.1 (e ∙ x.0)),
    x.2 ∙ ap (with_look h found) saw
        ∙ ap (λ (n : ℕ). with_look h found (with_look h n (record_at p))) (sym x.0),
    ap state_of x.0 ∙ room.0,
  )
  claimed_writes z Freed x = absurd x
  claimed_writes z NotHere x = absurd x
  claimed_writes z Moving x = absurd x
  claimed_writes z (Range len) x = absurd x
  claimed_writes z (Pinned count) x = absurd x

-- ---- a look, and then a write from its word
module _ (h w at : ℕ) (bytes : List ℕ) (a : WriteAnswer) (p m : SeatAt) (g : Glances h w p m) (z : View)
  where
    pub from_gives : WriteFrom h w at bytes a (record_at m) z → WriteGives h at bytes a (record_at p) z
    from_gives (inl (why, same)) = subst (WriteGives h at bytes a (record_at p)) (sym same)
        (refused_writes h w at bytes a p m g why)
    from_gives (inr (room, bare, x)) = claimed_writes h w at bytes p m g room bare z a x

    pub from_far : WriteFrom h w at bytes a (record_at m) z → a ≡ NotHere
        → FoundFarAs h w (record_at p) z
    from_far (inl (why, same)) is = subst (FoundFarAs h w (record_at p)) (sym same)
        (refused_far h w at bytes a p m g why is)
    from_far (inr (room, bare, x)) is = absurd (claimed_here h w at bytes a (record_at m) z x is)
