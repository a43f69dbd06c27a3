-- A read and a write as parts of a turn.
use Rattle.std.proofs.Common.{◌≡◌, ℕ, zero, suc, Bool, true, false, ◌+◌, ◌-◌, ◌^◌, ◌==◌, ◌<◌, nat_lt, List, length, Option, Some, None, refl, sym, ap, ◌∙◌, subst, arith, if◌then◌else◌}
use Rattle.std.proofs.lemmas.Bool.{ltb-true}
use Rattle.cb_member.specs.declared.names.Loss.{Loss}
use Rattle.cb_ptr.specs.declared.word.State.{State}
use Rattle.cb_ptr.specs.declared.word.State.TheVariants as state
use Rattle.cb_ptr.specs.Word.{state_of, len_of, pins_of}
use Rattle.cb_types.specs.declared.handle.SetId.{SetId}
use Rattle.cb_types.specs.declared.request.Request.TheVariants.{Read, Write}
use Rattle.cb_types.specs.declared.reply.Reply.{Reply}
use Rattle.cb_types.specs.declared.reply.Reply.TheVariants as answer
use Rattle.cb_types.specs.Table.{IsReplyOf}
use Rattle.cb_model.specs.declared.object.Object.TheVariants.{Held, Freed}
use Rattle.cb_model.specs.Event.{event_of}
use Rattle.cb_model.specs.Event.Event.{FindsEnd}
use Rattle.cb_model.specs.Now.{MapNow}
use Rattle.cb_model.specs.Replies.{MapReplies}
use Rattle.cb_world.specs.declared.object.Object.TheVariants as object
use Rattle.cb_world.specs.declared.shown.Shown.{Shown}
use Rattle.cb_world.specs.Memory.{bytes_in}
use Rattle.cb_world.specs.Now.{Now, now, now_as, is_gone}
use Rattle.cb_world.specs.Now.Now.{held}
use Rattle.cb_world.specs.Plain.{Words}
use Rattle.cb_world.specs.Shown.{object_at}
use Rattle.cb_world.specs.StillWords.{stamp_at, contents_at}
use Rattle.cb_world.specs.World.{IsKnown, word_at}
use Rattle.cb_world.proofs.Laws.{far_object}
use Rattle.cb_mutate.specs.MapCalls.{IsValue, IsMapCall, IsCallOn}
use Rattle.cb_mutate.specs.StillReplies.{reply_as, write_reply, next_reply, change_reply}
use Rattle.cb_mutate.proofs.Laws.{map_same, stays_call, read_call, write_call, bytes_length}
use Rattle.cb_core.specs.Declining.{write_refusal}
use Rattle.cb_core.specs.Parts.{Holding, NeverDeclined}
use Rattle.cb_core.specs.Step.{StillRead, StillWrite, StillDecline}
use Rattle.cb_core.proofs.TurnCallsKept.{same_holding}
use Rattle.cb_core.proofs.TurnCallsMap.{map_stays, far_refused}
use Rattle.cb_core.proofs.TurnCallsReply.{read_line, write_line, read_not_here, write_not_here, read_is_here, write_is_here}
use Rattle.cb_core.proofs.TurnCallsWhere.{IsCallAnswered, IsRefusable, IsCallWithLook}

pub read_refusable : (name : List ℕ) → IsRefusable (Read name)
read_refusable name = record {
  no_room = λ frames loose nodes. refl;
  unavailable = λ id l. refl;
  room_line = λ frames loose nodes. tt;
  lost_line = λ id l. tt;
}

pub write_refusable : (name : List ℕ) (at : ℕ) (bytes : List ℕ) → IsRefusable (Write name at bytes)
write_refusable name at bytes = record {
  no_room = λ frames loose nodes. refl;
  unavailable = λ id l. refl;
  room_line = λ frames loose nodes. tt;
  lost_line = λ id l. tt;
}

-- ---- no call on local memory is answered that a set is broken
by_state_whole : (q : State) (v : ℕ) (here : Reply) (id : SetId) (l : List Loss)
    → (here ≡ answer.Unavailable id l → ⊥) → reply_as q v here ≡ answer.Unavailable id l → ⊥
by_state_whole state.Empty zero here id l never e = cc
by_state_whole state.Empty (suc v) here id l never e = cc
by_state_whole state.Far v here id l never e = cc
by_state_whole state.Moving v here id l never e = cc
by_state_whole state.Here v here id l never e = never e

write_whole : (w v at count : ℕ) (id : SetId) (l : List Loss)
    → write_reply w v at count ≡ answer.Unavailable id l → ⊥
write_whole w v at count id l = by_state_whole (state_of w) v _ id l (by (nat_lt (len_of w) (at + count)))
  where
    next : (b : Bool) → (if b then answer.Worn else answer.Version (v + 1)) ≡ answer.Unavailable id l → ⊥
    next true e = cc
    next false e = cc

    change : (b : Bool) → (if b then next_reply v else answer.Pinned (pins_of w))
        ≡ answer.Unavailable id l → ⊥
    change true e = next (v == 2 ^ 64 - 1) e
    change false e = cc

    by : (b : Bool) → (if b then answer.Range (len_of w) else change_reply w v)
        ≡ answer.Unavailable id l → ⊥
    by true e = cc
    by false e = change (pins_of w == 0) e

none_some : (r : Reply) → Some r ≡ None → ⊥
none_some r e = cc

pub read_part : (h : ℕ) (name : List ℕ) → IsCallWithLook (StillRead h) NeverDeclined h (Read name)
read_part h name = record {
  nothing = λ a b c. same_holding a b c.0.change c.1;
  away = λ a b c. read_not_here (word_at a.desk h) (stamp_at a.desk h) (contents_at a.desk h) c.0.reply;
  far = λ a b r c away. c.0.reply ∙ ap (λ q. reply_as q (stamp_at a.desk h)
      (answer.Bytes (stamp_at a.desk h) (bytes_in (contents_at a.desk h) (len_of (word_at a.desk h))))) away;
  here = λ a b r c here. read_is_here (word_at a.desk h) (stamp_at a.desk h) (contents_at a.desk h) r
      c.0.reply here;
  is = λ a b s t r before after below c.
      read_call a.desk b.desk a.far b.far s t h a.desk.settings.handles name r
      (record { before = before; afterwards = after }) c.1 below c.0;
  line = λ a b r c never. read_line (word_at a.desk h) (stamp_at a.desk h) (contents_at a.desk h) name r
      c.0.reply never;
  whole = λ a b id l c. by_state_whole (state_of (word_at a.desk h)) (stamp_at a.desk h)
      (answer.Bytes (stamp_at a.desk h) (bytes_in (contents_at a.desk h) (len_of (word_at a.desk h)))) id l
      (λ e. cc) (sym c.0.reply);
  looks = λ a b o c. c.1;
  declines = λ a b s r k below away c. absurd (none_some r c.0);
  not_lost = λ a b id l c. none_some (answer.Unavailable id l) c.0;
  lost = λ a b r gone c. none_some r c.0;
}

-- ---- a write to a far object that is declined
-- past its end, as the map says
end_by : (v at len first handles made : ℕ) (old bytes : List ℕ) (handle : Option ℕ)
    → length old ≡ len → len < at + length bytes → (m : MapNow) → IsValue m (held v old)
    → MapReplies first handles made handle m (FindsEnd at bytes len)
end_by v at len first handles made old bytes handle same past None i = absurd i
end_by v at len first handles made old bytes handle same past (Some (Freed u)) i = absurd i
end_by v at len first handles made old bytes handle same past (Some (Held u b)) i =
    let count : len ≡ length b = sym same ∙ ap (λ (l : List ℕ). length l) i.1 in
    (omega (arith, past, count), count)

some_same : (r q : Reply) → Some r ≡ Some q → r ≡ q
some_same r q e = ap (λ (o : Option Reply). reply_in o) e
  where
    reply_in : Option Reply → Reply
    reply_in None = r
    reply_in (Some p) = p

-- a write is declined as past the end, or as one of an object with no next version
data DeclinedAs (len version at count : ℕ) (r : Reply) : Type 0 where
  past : len < at + count → r ≡ answer.Range len → DeclinedAs len version at count r
  end : r ≡ answer.Worn → DeclinedAs len version at count r

declined_as : (lost : Bool) (len version at count : ℕ) (r : Reply)
    → Some r ≡ write_refusal lost len version at count
    → (lost ≡ false) × DeclinedAs len version at count r
declined_as true len version at count r e = absurd (none_some r e)
declined_as false len version at count r e =
    (refl, by (nat_lt len (at + count)) (version == 2 ^ 64 - 1) refl e)
  where
    by : (b c : Bool) → nat_lt len (at + count) ≡ b
        → Some r ≡ (if b then Some (answer.Range len) else if c then Some answer.Worn else None)
        → DeclinedAs len version at count r
    by true c less e = past (ltb-true len (at + count) less) (some_same r (answer.Range len) e)
    by false true less e = end (some_same r answer.Worn e)
    by false false less e = absurd (none_some r e)

past_call : (a : Holding Words) (s : Shown) (h at : ℕ) (bytes name : List ℕ) (r : Reply)
    → IsKnown a.desk a.far s → h < length a.desk.words → state_of (word_at a.desk h) ≡ state.Far
    → is_gone a.far h ≡ false → len_of (word_at a.desk h) < at + length bytes
    → r ≡ answer.Range (len_of (word_at a.desk h))
    → IsCallOn a.desk.settings.handles s s a.far a.far h (Write name at bytes) r
past_call a s h at bytes name r k below away whole more is =
    let o = far_object (object_at s h) (word_at a.desk h) (k.shows.fit h below) away in by o.0 o.1 o.2
  where
    len : ℕ
    len = len_of (word_at a.desk h)

    event : event_of (Write name at bytes) r ≡ FindsEnd at bytes len
    event = ap (event_of (Write name at bytes)) is

    by : (v : ℕ) (words : List ℕ) → object_at s h ≡ object.Far len v words
        → IsCallOn a.desk.settings.handles s s a.far a.far h (Write name at bytes) r
    by v words o =
        let holds : now s a.far h ≡ held v (bytes_in words len) = λ i. now_as s h (whole i) (o i) in
        stays_call a.desk a.desk a.far a.far s s h a.desk.settings.handles (Write name at bytes) r
        (FindsEnd at bytes len) (record { before = k; afterwards = k }) (refl, refl) event refl
        (subst (λ (n : Now). IsMapCall a.far.first a.desk.settings.handles a.far.made (Some h)
        (Write name at bytes) r n n) (sym holds)
        (map_same a.far.first a.desk.settings.handles a.far.made (Some h) (Write name at bytes) r
        (held v (bytes_in words len)) (FindsEnd at bytes len) event refl
        (end_by v at len a.far.first a.desk.settings.handles a.far.made (bytes_in words len) bytes (Some h)
        (bytes_length words len) more)))

declined_call : (a : Holding Words) (s : Shown) (h at : ℕ) (bytes name : List ℕ) (r : Reply)
    → IsKnown a.desk a.far s → h < length a.desk.words → state_of (word_at a.desk h) ≡ state.Far
    → Some r ≡ write_refusal (is_gone a.far h) (len_of (word_at a.desk h)) (stamp_at a.desk h) at
    (length bytes)
    → IsCallAnswered a.desk.settings.handles s s a.far a.far h (Write name at bytes) r
declined_call a s h at bytes name r k below away e =
    let d = declined_as (is_gone a.far h) (len_of (word_at a.desk h)) (stamp_at a.desk h) at (length bytes)
    r e in by d.0 d.1
  where
    by : is_gone a.far h ≡ false
        → DeclinedAs (len_of (word_at a.desk h)) (stamp_at a.desk h) at (length bytes) r
        → IsCallAnswered a.desk.settings.handles s s a.far a.far h (Write name at bytes) r
    by whole (past more is) = record {
      call = past_call a s h at bytes name r k below away whole more is;
      line = subst (IsReplyOf (Write name at bytes)) (sym is) tt;
    }
    by whole (end is) = record {
      call = far_refused a.desk s s a.far a.far h a.desk.settings.handles (Write name at bytes) r k below away
          (ap (event_of (Write name at bytes)) is) (map_stays s a.far);
      line = subst (IsReplyOf (Write name at bytes)) (sym is) tt;
    }

declined_whole : (lost : Bool) (len version at count : ℕ) (id : SetId) (l : List Loss)
    → Some (answer.Unavailable id l) ≡ write_refusal lost len version at count → ⊥
declined_whole lost len version at count id l e =
    by (declined_as lost len version at count (answer.Unavailable id l) e).1
  where
    by : DeclinedAs len version at count (answer.Unavailable id l) → ⊥
    by (past more is) = cc
    by (end is) = cc

pub declined_pinned : (lost : Bool) (len version at count pins : ℕ)
    → Some (answer.Pinned pins) ≡ write_refusal lost len version at count → ⊥
declined_pinned lost len version at count pins e =
    by (declined_as lost len version at count (answer.Pinned pins) e).1
  where
    by : DeclinedAs len version at count (answer.Pinned pins) → ⊥
    by (past more is) = cc
    by (end is) = cc

pub write_part : (h at : ℕ) (bytes name : List ℕ)
    → IsCallWithLook (StillWrite h at bytes) (StillDecline h at (length bytes)) h
    (Write name at bytes)
write_part h at bytes name = record {
  nothing = λ a b c. same_holding a b c.0.change c.1;
  away = λ a b c. write_not_here (word_at a.desk h) (stamp_at a.desk h) at (length bytes) c.0.reply;
  far = λ a b r c away. c.0.reply ∙ ap (λ q. reply_as q (stamp_at a.desk h)
      (if nat_lt (len_of (word_at a.desk h)) (at + length bytes) then answer.Range (len_of (word_at a.desk h))
      else change_reply (word_at a.desk h) (stamp_at a.desk h))) away;
  here = λ a b r c here. write_is_here (word_at a.desk h) (stamp_at a.desk h) at (length bytes) r
      c.0.reply here;
  is = λ a b s t r before after below c.
      write_call a.desk b.desk a.far b.far s t h at a.desk.settings.handles bytes name r
      (record { before = before; afterwards = after }) c.1 below c.0;
  line = λ a b r c never. write_line (word_at a.desk h) (stamp_at a.desk h) at bytes name r
      c.0.reply never;
  whole = λ a b id l c. write_whole (word_at a.desk h) (stamp_at a.desk h) at (length bytes) id l
      (sym c.0.reply);
  looks = λ a b o c. c.1;
  declines = λ a b s r k below away c. declined_call a s h at bytes name r k below away c.0;
  not_lost = λ a b id l c. declined_whole (is_gone a.far h) (len_of (word_at a.desk h)) (stamp_at a.desk h)
      at (length bytes) id l c.0;
  lost = λ a b r gone c. none_some r (c.0
      ∙ ap (λ (lost : Bool). write_refusal lost (len_of (word_at a.desk h)) (stamp_at a.desk h) at
      (length bytes)) gone);
}
