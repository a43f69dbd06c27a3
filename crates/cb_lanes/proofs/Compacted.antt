-- A turn that was counted, and in which the compute side joined two sets, is a compaction here, and
-- leaves the world sound, whether or not there was memory.
use Rattle.std.proofs.Common.{◌≡◌, ℕ, ◌≤◌, refl, sym, ap, ◌∙◌, subst, arith, inl}
use Rattle.cb_member.specs.declared.names.NodeId.{NodeId}
use Rattle.cb_types.specs.declared.handle.SetId.{SetId}
use Rattle.cb_types.specs.declared.job.Job.TheVariants.{Compact}
use Rattle.cb_types.specs.declared.reply.Reply.{Reply}
use Rattle.cb_types.specs.declared.reply.Reply.TheVariants as answer
use Rattle.cb_world.specs.declared.shown.Shown.{Shown}
use Rattle.cb_world.specs.FarState.{FarState}
use Rattle.cb_world.specs.Orders.{LeavesWords}
use Rattle.cb_world.specs.Sound.{Sound}
use Rattle.cb_world.specs.World.{WorldState, IsSoundWorld}
use Rattle.cb_world.proofs.Laws.{KeepsHolding, StaysIfBy, alike_leaves_words}
use Rattle.cb_core.specs.Admitting.{IsAdmitted, IsTurnRefused, all_counted, other_holds}
use Rattle.cb_core.specs.Step.{SeatTurn, free, held, worn}
use Rattle.cb_core.specs.Turned.{counted}
use Rattle.cb_core.proofs.Laws.{compact_made, compacted_sound, once_known}
use Rattle.cb_local.specs.Fetching.{far_given}
use Rattle.cb_local.specs.LocalStep.{LocalStep}
use Rattle.cb_local.proofs.Laws.{lack_stays, local_laws}
use Rattle.cb_lanes.specs.CompactsHere.{CompactsHere, StopsHere}

-- ---- a turn that is refused
-- with a reply that is none of a merge and none of a full node
refused_here : (seat : ℕ) (w new : WorldState) (r : Reply) → new ≡ w → SeatTurn seat Compact w r w
    → ((set : SetId) (moved : ℕ) → r ≡ answer.Merged set moved → ⊥)
    → ((node : NodeId) → r ≡ answer.NodeFull node → ⊥) → CompactsHere seat w r new
refused_here seat w new r same step merged full =
    subst (CompactsHere seat w r) (sym same) (record {
      mid = w;
      there = step;
      desk = refl;
      seats = refl;
      beside = inl (record { refusal = merged; state = refl });
      full = λ node e. absurd (full node e);
    })

pub turn_refused : (seat : ℕ) (w new : WorldState) (r : Reply) → new ≡ w → IsTurnRefused seat w r
    → CompactsHere seat w r new
turn_refused seat w new r same (other_holds holder off holds e) =
    refused_here seat w new r same (held holder off holds e refl)
    (λ set moved f. absurd (let z : answer.Held holder ≡ answer.Merged set moved = sym e ∙ f in cc))
    (λ node f. absurd (let z : answer.Held holder ≡ answer.NodeFull node = sym e ∙ f in cc))
turn_refused seat w new r same (all_counted none end e) =
    refused_here seat w new r same (free none (worn end e refl))
    (λ set moved f. absurd (let z : answer.Worn ≡ answer.Merged set moved = sym e ∙ f in cc))
    (λ node f. absurd (let z : answer.Worn ≡ answer.NodeFull node = sym e ∙ f in cc))

-- ---- a turn that was counted
module _ (seat : ℕ) (w m new : WorldState) (sound : IsSoundWorld w)
    (admitted : IsAdmitted seat Compact w m) (desk : new.desk ≡ m.desk)
    (seats : new.seats ≡ m.seats) where
  far : m.far ≡ counted w.far Compact
  far = ap (λ (v : WorldState). v.far) admitted.state

  desk_stays : new.desk ≡ w.desk
  desk_stays = desk ∙ ap (λ (v : WorldState). v.desk) admitted.state

  seats_stay : new.seats ≡ w.seats
  seats_stay = seats ∙ ap (λ (v : WorldState). v.seats) admitted.state

  pub turn_compacted : (r : Reply) → LocalStep m.far new.far r → CompactsHere seat w r new
  turn_compacted r step =
      let x = subst (λ (f : FarState). LocalStep f new.far r) far step in
      record {
        mid = record w { far = x.mid };
        there = compact_made w seat x.mid r sound admitted.free admitted.few x.same;
        desk = desk_stays;
        seats = seats_stay;
        beside = x.beside;
        full = x.full;
      }

  -- the far state alone changed
  sound_by : StaysIfBy KeepsHolding w.desk.settings 36 (counted w.far Compact) new.far
      → LeavesWords (counted w.far Compact) new.far
      → ((s : Shown) → Sound s m.far → Sound s new.far) → IsSoundWorld new
  sound_by stays leaves then =
      subst IsSoundWorld (sym (λ i. record
      { desk = desk_stays i; far = new.far; seats = seats_stay i }))
      (compacted_sound w 36 new.far (omega arith) sound admitted.few stays
      (then sound.shown (subst (Sound sound.shown) (sym far)
      (once_known w Compact sound.shown sound.known).sound)) leaves)

  pub compacted_stays : (r : Reply) → LocalStep m.far new.far r
      → ((s : Shown) → Sound s m.far → Sound s new.far) → IsSoundWorld new
  compacted_stays r step =
      let known = (once_known w Compact sound.shown sound.known).sound in
      let here = subst (λ (f : FarState). LocalStep f new.far r) far step in
      sound_by (local_laws.stays w.desk.settings sound.shown
      (counted w.far Compact) new.far r known here)
      (local_laws.keeps sound.shown (counted w.far Compact) new.far r known here).words

  pub lacking_is : (rows : ℕ) → rows ≤ 36 → new.far ≡ far_given m.far rows → StopsHere seat w new
  lacking_is rows most given =
      let there = given ∙ ap (λ (f : FarState). far_given f rows) far in record {
        few = admitted.few;
        free = admitted.free;
        rows = rows;
        most = most;
        state = λ i. record { desk = desk_stays i; far = there i; seats = seats_stay i };
      }

  pub lacking_stays : (rows : ℕ) → rows ≤ 36 → new.far ≡ far_given m.far rows
      → ((s : Shown) → Sound s m.far → Sound s new.far) → IsSoundWorld new
  lacking_stays rows few given =
      let there = given ∙ ap (λ (f : FarState). far_given f rows) far in
      sound_by (lack_stays w.desk.settings (counted w.far Compact) new.far rows few there)
      (subst (LeavesWords (counted w.far Compact)) (sym there)
      (alike_leaves_words (counted w.far Compact) (far_given (counted w.far Compact) rows) refl refl
      refl refl (λ id p shard of. refl)))
