-- Each line on an object that its pass made is answered by what the object's last entry left, and
-- by the pass's own pins.
use Rattle.std.proofs.Common.{◌≡◌, ◌⊎◌, ℕ, ◌+◌, ◌<◌, ◌≤◌, Bool, true, false, cond, List, [], ◌∷◌}
use Rattle.std.proofs.Common.{◌++◌, length, Option, None, Some, inl, inr, sym, refl, ap, ◌∙◌, subst}
use Rattle.std.proofs.Common.{true≢false, append_assoc, arith}
use Rattle.std.proofs.lemmas.Option.{same_Some}
use Rattle.cb_types.specs.declared.config.Config.{Config}
use Rattle.cb_types.specs.declared.job.Job.TheVariants as job
use Rattle.cb_types.specs.declared.reply.Reply.{Reply}
use Rattle.cb_types.specs.declared.reply.Reply.TheVariants as answer
use Rattle.cb_types.specs.declared.request.Request.TheVariants.{Read, Write, Free}
use Rattle.cb_types.specs.Table.{IsReplyOf}
use Rattle.cb_model.specs.declared.object.Object.{Object}
use Rattle.cb_model.specs.declared.object.Object.TheVariants.{Held, Freed}
use Rattle.cb_model.specs.Now.{MapNow}
use Rattle.cb_ptr.specs.Word.{len_of}
use Rattle.cb_mutate.proofs.Laws.{bytes_length}
use Rattle.cb_world.specs.declared.entry.Entry.{Entry}
use Rattle.cb_world.specs.Memory.{bytes_in}
use Rattle.cb_world.specs.Write.{IsWrite}
use Rattle.cb_rule.specs.declared.view.Look.{Look}
use Rattle.cb_rule.specs.declared.view.Seen.{Seen}
use Rattle.cb_rule.specs.declared.view.Stand.{Stand}
use Rattle.cb_rule.specs.declared.view.View.{View}
use Rattle.cb_rule.specs.Lists.{Has}
use Rattle.cb_rule.specs.Promised.{FoundBy}
use Rattle.cb_rule.specs.Records.{seen_of}
use Rattle.cb_rule.specs.Seats.{pins_on}
use Rattle.cb_rule.specs.Steps.{HasLast, freed_seen, version_seen}
use Rattle.cb_rule.proofs.Laws.{each_has}
use Rattle.cb_record.specs.Lists.{HasOne}
use Rattle.cb_record.specs.Needs.{IsReadAs}
use Rattle.cb_record.specs.Parts.{Part}
use Rattle.cb_record.proofs.Laws.{has_left, has_right}
use Rattle.cb_shared.specs.declared.answers.WriteAnswer.{WriteAnswer}
use Rattle.cb_shared.specs.declared.answers.WriteAnswer.TheVariants as place
use Rattle.cb_shared.specs.Calls.{ReadGives, SaysAs, TurnGives, WriteAnswers, the_handle}
use Rattle.cb_shared.specs.Calls.{IsAnswerTo, again_in}
use Rattle.cb_shared.proofs.Laws.{brings_lack, read_lacks, write_told}
use Rattle.cb_lanes.specs.Alone.{change_alone, free_alone, peek_alone, pin_alone, pin_object}
use Rattle.cb_lanes.specs.Alone.{read_alone, unpin_alone, write_alone}
use Rattle.cb_lanes.specs.AloneUntil.{is_lack}
use Rattle.cb_lanes.specs.KeepsOwn.{AreEntriesInOrder, AreLong, AreRead, ComesBehind}
use Rattle.cb_lanes.specs.KeepsOwn.{EntryComesNext, last_in}
use Rattle.cb_lanes.specs.LineGoes.{Ask, Calls, Goes}
use Rattle.cb_lanes.specs.Passing.{HasNoPin, IsNewestPin, PeekGoes, PinGoes, UnpinGoes, goes_in}
use Rattle.cb_lanes.proofs.AloneReplies.{changed_alone, full_pin, past_alone, pinned_alone}
use Rattle.cb_lanes.proofs.AloneReplies.{room_pin, within_alone}
use Rattle.cb_lanes.proofs.LineParts.{LineAdds, told_as}
use Rattle.cb_lanes.proofs.Lists.{found_one}
use Rattle.cb_lanes.proofs.OwnEnds.{IsOfWord, SawWord, saw_write}
use Rattle.cb_lanes.proofs.OwnFinds.{SawFreed, SawNewest, SawPinned, freed_free, freed_pin}
use Rattle.cb_lanes.proofs.OwnFinds.{freed_read, freed_write, saw_pin, saw_read}
use Rattle.cb_lanes.proofs.OwnObjects.{last_has, newest_is, older, one_length, order_front, read_is}
use Rattle.cb_lanes.proofs.OwnStands.{ShowsLast, object_of}

-- What a change of an object that is the pass's own tells: one that is done found no pin, and one
-- that is refused as pinned tells the pass's own pins.
abbrev pub FreeTells : ℕ → View → Reply → Type 0
FreeTells h v (answer.Version version) = pins_on h v ≡ 0
FreeTells h v (answer.Pinned count) = (count ≡ pins_on h v) × (1 ≤ count)
FreeTells h v r = Unit {0}

-- and a write that goes past the end tells the length of the object's last entry, which is not the
-- freed one
abbrev pub WriteTells : ℕ → View → Reply → Type 0
WriteTells h v (answer.Range len) = HasLast h len v
WriteTells h v r = FreeTells h v r

abbrev pub TellsOwn : Ask → View → Reply → Type 0
TellsOwn (Calls (job.Write handle at bytes)) v r = Has handle.n v.own → WriteTells handle.n v r
TellsOwn (Calls (job.Free handle)) v r = Has handle.n v.own → FreeTells handle.n v r
TellsOwn ask v r = Unit {0}

-- what is asked of a pass, with that
abbrev pub goes_own : Config → Goes View
goes_own c ask v r w = goes_in c ask v r w × TellsOwn ask v r

-- The object is the pass's own, and this is its last entry before a line that leads to m. The
-- record in the end has all that it has, in order.
pub record OwnAt (mine : ℕ → Type 0) (h : ℕ) (x : Entry) (v m all : View) : Type 0 where
  pub is_mine : mine h
  pub own : Has h v.own
  pub fresh : v.fresh ≡ []
  pub last : last_in v.written h ≡ Some x
  pub order : AreEntriesInOrder mine all.written
  pub read : AreRead mine all.written all.seen
  pub more : List Entry
  pub adds : m.written ≡ more ++ v.written
  pub rest : List Entry
  pub grows : all.written ≡ rest ++ m.written
  pub seen : (s : Seen) → Has s m.seen → Has s all.seen
  pub long : AreLong mine all
  pub found : (l : Look) → FoundBy l m → FoundBy l all

-- one entry was written, of this object
pub record WritesOne (h version : ℕ) (v m : View) : Type 0 where
  pub entry_is : Entry
  pub written : m.written ≡ entry_is ∷ v.written
  pub handle : entry_is.handle ≡ h
  pub number : entry_is.version ≡ version

module _ (x : Entry) where
  held_alone : (F : MapNow → Reply) → x.freed ≡ false
      → F (Some (object_of x)) ≡ F (Some (Held x.version (bytes_in x.after x.len)))
  held_alone F e = ap (λ (b : Bool). F (Some (cond b (Freed x.version)
      (Held x.version (bytes_in x.after x.len))))) e

  freed_alone : (F : MapNow → Reply) → x.freed ≡ true
      → F (Some (object_of x)) ≡ F (Some (Freed x.version))
  freed_alone F e = ap (λ (b : Bool). F (Some (cond b (Freed x.version)
      (Held x.version (bytes_in x.after x.len))))) e

module _ (mine : ℕ → Type 0) (h : ℕ) (x : Entry) (v m all : View)
    (at_ : OwnAt mine h x v m all) where
  all_is : all.written ≡ (at_.rest ++ at_.more) ++ v.written
  all_is = at_.grows ∙ ap (λ (l : List Entry). at_.rest ++ l) at_.adds
      ∙ sym (append_assoc at_.rest at_.more v.written)

  order_all : AreEntriesInOrder mine ((at_.rest ++ at_.more) ++ v.written)
  order_all = subst (AreEntriesInOrder mine) all_is at_.order

  saw_version : (version : ℕ) → SawNewest h version v → version ≡ x.version
  saw_version version saw = newest_is mine h at_.is_mine version saw.at x saw.newest
      (saw.fresh ∙ at_.fresh) (saw.own h at_.own)
      (subst (AreEntriesInOrder mine) (sym saw.written)
      (order_front mine (at_.rest ++ at_.more) v.written order_all))
      (ap (λ (l : List Entry). last_in l h) saw.written ∙ at_.last)

  last_same : (len : ℕ) (z : HasLast h len v) → z.last ≡ x
  last_same len z = by (older mine h at_.is_mine v.written x z.last
      (order_front mine (at_.rest ++ at_.more) v.written order_all) at_.last
      (subst (λ (l : List Entry). Has z.last (l ++ v.written)) at_.fresh z.wrote) z.handle)
    where
      by : (z.last ≡ x) ⊎ (z.last.version < x.version) → z.last ≡ x
      by (inl is) = is
      by (inr less) = let w = last_has v.written h x at_.last in
          let low = each_has _ x (v.fresh ++ v.written) z.newest.written
          (has_right x v.fresh v.written w.0) w.1 in absurd (omega (arith, less, low))

  seen_is : (s : Seen) → Has s m.seen → s.handle ≡ h → s.version ≡ x.version → s ≡ seen_of x
  seen_is s has same version = read_is mine h at_.is_mine
      (at_.rest ++ at_.more) v.written all.seen x s
      order_all (subst (λ (l : List Entry). AreRead mine l all.seen) all_is at_.read) at_.last
      (at_.seen s has) same version

  -- a word that was found of it tells its length
  long_is : (at : ℕ) (bytes : List ℕ) (r : Reply) (of_word : IsOfWord r)
      → (z : SawWord h at bytes r of_word m) → x.freed ≡ false → len_of z.look.word ≡ x.len
  long_is at bytes r of_word z held =
      let y = at_.long z.look (at_.found z.look z.found)
      (subst mine (sym z.on) at_.is_mine) z.some in
      let w = last_has v.written h x at_.last in
      sym y.4 ∙ one_length mine h at_.is_mine all.written y.0 x at_.order y.1
      (subst (Has x) (sym all_is) (has_right x (at_.rest ++ at_.more) v.written w.0))
      (y.2 ∙ z.on) w.1 y.3 held

  freed_here : SawFreed h v m → x.freed ≡ true
  freed_here z = sym (ap (λ (s : Seen). s.freed) (seen_is (freed_seen h z.version) z.read refl
      (saw_version z.version z.saw)))

  -- an entry that was written comes next
  pub comes_next : (version : ℕ) → (w : WritesOne h version v m) → EntryComesNext x w.entry_is
  comes_next version w = subst (λ (o : Option Entry). ComesBehind o w.entry_is)
      (ap (last_in v.written) w.handle ∙ at_.last)
      ((subst (AreEntriesInOrder mine) w.written (order_front mine at_.rest m.written
      (subst (AreEntriesInOrder mine) at_.grows at_.order))).0
      (subst mine (sym w.handle) at_.is_mine))

  -- ---- a read
  bytes_read : (version : ℕ) (bytes : List ℕ) (d : Part)
      → ((s : Seen) → Has s d.seen → Has s m.seen)
      → version ≡ x.version → HasOne (IsReadAs h version bytes) d.seen
      → answer.Bytes version bytes ≡ read_alone (Some (object_of x))
  bytes_read version bytes d more same has =
      let z = found_one (IsReadAs h version bytes) d.seen has in
      let e = seen_is z.0 (more z.0 z.1) z.2.0 (z.2.1 ∙ same) in
      let held : x.freed ≡ false = sym (ap (λ (s : Seen). s.freed) e) ∙ z.2.2 in
      let is : bytes ≡ bytes_in x.after x.len = z.2.3
      ∙ ap (λ (s : Seen). bytes_in s.words s.len) e in
      (λ i. answer.Bytes (same i) (is i)) ∙ sym (held_alone x read_alone held)

  seen_more : (t : _) (y : LineAdds v m t) → (s : Seen) → Has s y.0.seen → Has s m.seen
  seen_more t y s has =
      subst (λ (z : View). Has s z.seen) (sym y.1) (has_left s y.0.seen v.seen has)

  pub read_reply : (c : Config) (name : List ℕ) (r : Reply) → ReadGives c h r v m
      → LineAdds v m (told_as (Some h) (Read name) r) → is_lack r ≡ false
      → r ≡ read_alone (Some (object_of x))
  read_reply c name (answer.Bytes version bytes) y adds room = bytes_read version bytes adds.0
      (seen_more _ adds) (saw_version version (saw_read c h version bytes v m y)) adds.2.tells.0
  read_reply c name answer.Freed y adds room =
      sym (freed_alone x read_alone (freed_here (freed_read c h v m y)))
  read_reply c name (answer.NoRoom f l n) y adds room = absurd (true≢false room)
  read_reply c name (answer.Unavailable s l) y adds room = absurd (true≢false room)
  read_reply c name answer.Worn y adds room = absurd (true≢false room)
  read_reply c name r (d, y, is) adds room = absurd (read_lacks c h r _ y.last (λ t. t) y.ends_so)

  -- ---- a write
  -- no write is answered so
  abbrev IsOdd : Reply → Type 0
  IsOdd answer.Unmade = Unit {0}
  IsOdd answer.Moving = Unit {0}
  IsOdd r = ⊥

  odd_says : (a : WriteAnswer) (r : Reply) → IsOdd r → SaysAs a r → ⊥
  odd_says (place.Ok version) r odd says = subst IsOdd says odd
  odd_says place.Freed r odd says = subst IsOdd says odd
  odd_says (place.Range len) r odd says = subst IsOdd says odd
  odd_says (place.Pinned count) r odd says = subst IsOdd says odd
  odd_says place.Worn r odd says = subst IsOdd says odd
  odd_says a r odd says = says

  neither : ⊥ ⊎ ⊥ → ⊥
  neither (inl e) = e
  neither (inr e) = e

  odd_write : (c : Config) (at : ℕ) (bytes : List ℕ) (r : Reply) → IsOdd r
      → ((again : Bool) → IsAnswerTo again (job.Write (the_handle h) at bytes) r → ⊥)
      → WriteAnswers c h at bytes r v m → ⊥
  odd_write c at bytes r odd never (d, y, is) = elim y.ends_so [
    | inl z ↦ odd_says z.0 r odd z.1
    | inr z ↦ never (again_in y.last.turns) (write_told c h at bytes r _ y.last z)
  ]

  -- one is written behind the object's last entry
  abbrev enters_one : (version : ℕ) (d : Part) (e : Entry) (own rest : List Entry)
      → m.written ≡ d.written ++ v.written
      → d.written ≡ rest ++ own → own ≡ e ∷ [] → rest ≡ [] → e.handle ≡ h → e.version ≡ version
      → WritesOne h version v m
  enters_one version d e own rest grew parts one none handle number = record {
    entry_is = e;
    written = grew ∙ ap (λ (l : List Entry). l ++ v.written) (parts ∙ (λ i. none i ++ one i));
    handle = handle;
    number = number;
  }

  pub write_one : (name bytes : List ℕ) (at version : ℕ)
      → LineAdds v m (told_as (Some h) (Write name at bytes) (answer.Version version))
      → (w : WritesOne h version v m) × (w.entry_is.freed ≡ false)
      × IsWrite w.entry_is.before at bytes w.entry_is.after × (at + length bytes ≤ w.entry_is.len)
  write_one name bytes at version y = let b = y.2.wrote in let z = b.3 in (
    enters_one version y.0 _ b.0 b.1 (ap (λ (k : View). k.written) y.1) b.2 z.5 b.4 refl refl,
    refl,
    z.3,
    z.4,
  )

  pub free_one : (name : List ℕ) (version : ℕ)
      → LineAdds v m (told_as (Some h) (Free name) (answer.Version version))
      → (w : WritesOne h version v m) × (w.entry_is.freed ≡ true)
  free_one name version y = let b = y.2.wrote in let z = b.3 in (
    enters_one version y.0 _ b.0 b.1 (ap (λ (k : View). k.written) y.1) b.2 z.1 b.4 refl refl,
    refl,
  )

  -- a change of an object that was not freed
  write_held : (F : Reply → Type 0) (at count pins : ℕ) (r : Reply) → x.freed ≡ false
      → r ≡ write_alone (Some (Held x.version (bytes_in x.after x.len))) pins at count
      → r ≡ write_alone (Some (object_of x)) pins at count
  write_held F at count pins r held is =
      is ∙ sym (held_alone x (λ (o : MapNow). write_alone o pins at count) held)

  pub write_reply : (c : Config) (name bytes : List ℕ) (at : ℕ) (r : Reply)
      → WriteAnswers c h at bytes r v m
      → WriteTells h v r → LineAdds v m (told_as (Some h) (Write name at bytes) r)
      → IsReplyOf (Write name at bytes) r → (1 ≤ pins_on h v → x.freed ≡ false) → is_lack r ≡ false
      → r ≡ write_alone (Some (object_of x)) (pins_on h v) at (length bytes)
  write_reply c name bytes at (answer.Version version) y tells adds line pinned room =
      let w = write_one name bytes at version adds in
      let next = comes_next version w.0 in
      let long = bytes_length x.after x.len in
      let same = next.same_len w.1 in
      let fits = w.3 in
      write_held (λ r. Unit {0}) at (length bytes) (pins_on h v) (answer.Version version) next.there
      (within_alone x.version (pins_on h v) (at + length bytes) (bytes_in x.after x.len)
      (answer.Version version)
      (omega (arith, long, same, fits))
      (changed_alone x.version version (pins_on h v) (sym w.0.number ∙ next.next) tells))
  write_reply c name bytes at (answer.Pinned count) y tells adds line pinned room =
      let long = bytes_length x.after x.len in
      let same = tells.0 in let some_one = tells.1 in
      let held = pinned (omega (arith, same, some_one)) in
      let z : SawWord h at bytes (answer.Pinned count) tt m =
      saw_write h at bytes (answer.Pinned count) tt c v m y in
      let fits = z.says in
      let is = long_is at bytes (answer.Pinned count) tt z held in
      write_held (λ r. Unit {0}) at (length bytes) (pins_on h v) (answer.Pinned count) held
      (within_alone x.version (pins_on h v) (at + length bytes) (bytes_in x.after x.len)
      (answer.Pinned count)
      (omega (arith, long, fits, is))
      (pinned_alone x.version count (pins_on h v) tells.0 tells.1))
  write_reply c name bytes at (answer.Range len) y tells adds line pinned room =
      let long = bytes_length x.after x.len in
      let same = last_same len tells in
      let held : x.freed ≡ false = sym (ap (λ (e : Entry). e.freed) same) ∙ tells.held in
      let is : len ≡ x.len = sym tells.long ∙ ap (λ (e : Entry). e.len) same in
      let z : SawWord h at bytes (answer.Range len) tt m =
      saw_write h at bytes (answer.Range len) tt c v m y in
      let past = z.says.1 in
      write_held (λ r. Unit {0}) at (length bytes) (pins_on h v) (answer.Range len) held
      (past_alone x.version (pins_on h v) (at + length bytes) len (bytes_in x.after x.len)
      (omega (arith, long, is, past)) (omega (arith, long, is)))
  write_reply c name bytes at answer.Freed y tells adds line pinned room =
      sym (freed_alone x (λ (o : MapNow). write_alone o (pins_on h v) at (length bytes))
      (freed_here (freed_write c h at bytes v m y)))
  write_reply c name bytes at answer.Unmade y tells adds line pinned room =
      absurd (odd_write c at bytes answer.Unmade tt (λ again. neither) y)
  write_reply c name bytes at answer.Moving y tells adds line pinned room =
      absurd (odd_write c at bytes answer.Moving tt (λ again. neither) y)
  write_reply c name bytes at (answer.NoRoom f l n) y tells adds line pinned room =
      absurd (true≢false room)
  write_reply c name bytes at (answer.Unavailable s l) y tells adds line pinned room =
      absurd (true≢false room)
  write_reply c name bytes at answer.Worn y tells adds line pinned room = absurd (true≢false room)
  write_reply c name bytes at r y tells adds line pinned room = absurd line

  -- ---- a free
  free_held : (pins : ℕ) (r : Reply) → x.freed ≡ false → r ≡ change_alone x.version pins
      → r ≡ free_alone (Some (object_of x)) pins
  free_held pins r held is = is ∙ sym (held_alone x (λ (o : MapNow). free_alone o pins) held)

  pub free_reply : (c : Config) (name : List ℕ) (r : Reply)
      → TurnGives c (job.Free (the_handle h)) r v m
      → FreeTells h v r → LineAdds v m (told_as (Some h) (Free name) r)
      → IsReplyOf (Free name) r → (1 ≤ pins_on h v → x.freed ≡ false) → is_lack r ≡ false
      → r ≡ free_alone (Some (object_of x)) (pins_on h v)
  free_reply c name (answer.Version version) y tells adds line pinned room =
      let w = free_one name version adds in
      let next = comes_next version w.0 in
      free_held (pins_on h v) (answer.Version version) next.there
      (changed_alone x.version version (pins_on h v) (sym w.0.number ∙ next.next) tells)
  free_reply c name (answer.Pinned count) y tells adds line pinned room =
      let same = tells.0 in let some_one = tells.1 in
      free_held (pins_on h v) (answer.Pinned count) (pinned (omega (arith, same, some_one)))
      (pinned_alone x.version count (pins_on h v) tells.0 tells.1)
  free_reply c name answer.Freed y tells adds line pinned room =
      sym (freed_alone x (λ (o : MapNow). free_alone o (pins_on h v))
      (freed_here (freed_free c h v m y)))
  free_reply c name answer.Unmade (d, y, is) tells adds line pinned room =
      absurd (neither y.ends_so.0)
  free_reply c name answer.Moving (d, y, is) tells adds line pinned room =
      absurd (neither y.ends_so.0)
  free_reply c name answer.Worn y tells adds line pinned room = absurd (true≢false room)
  free_reply c name r y tells adds line pinned room = absurd line

  -- ---- a pin
  -- what a pin shows is what the last entry left
  pub pin_shows : (c : Config) (version : ℕ) → PinGoes c h v (answer.Version version) m
      → (y : SawPinned h version v m) × ShowsLast h version v.written y.pin
  pin_shows c version y =
      let z = saw_pin c h version v m y in
      let same = saw_version version z.saw in
      let e = seen_is (version_seen h version z.pin.len z.pin.words) z.read refl same in (
        z,
        record {
          number = z.number;
          last = x;
          is_last = at_.last;
          held = sym (ap (λ (s : Seen). s.freed) e);
          version_is = same;
          bytes = ap (λ (s : Seen). bytes_in s.words s.len) e;
        },
      )

  held_by : (version : ℕ) (y : SawPinned h version v m) → ShowsLast h version v.written y.pin
      → x.freed ≡ false
  held_by version y shows = sym (ap (λ (e : Entry). e.freed)
      (same_Some shows.last x (sym shows.is_last ∙ at_.last))) ∙ shows.held

  pub pin_reply : (c : Config) (r : Reply) → PinGoes c h v r m → is_lack r ≡ false
      → r ≡ pin_alone (Some (object_of x)) (length v.pins)
  pin_reply c (answer.Version version) y room =
      let z = pin_shows c version y in
      let held : x.freed ≡ false = held_by version z.0 z.1 in
      room_pin (object_of x) (length v.pins) (answer.Version version)
      (λ full. let few = z.0.room in absurd (omega (arith, full, few)))
      (ap answer.Version (saw_version version z.0.saw)
      ∙ sym (ap (λ (b : Bool). pin_object (cond b (Freed x.version)
      (Held x.version (bytes_in x.after x.len)))) held))
  pin_reply c answer.Freed y room = room_pin (object_of x) (length v.pins) answer.Freed
      (λ full. let few = y.0 in absurd (omega (arith, full, few)))
      (sym (ap (λ (b : Bool). pin_object (cond b (Freed x.version)
      (Held x.version (bytes_in x.after x.len)))) (freed_here (freed_pin c h v m y))))
  pin_reply c answer.ScopeFull y room = full_pin (object_of x) (length v.pins) y.0
  pin_reply c (answer.NoRoom f l n) y room = absurd (true≢false room)
  pin_reply c (answer.Unavailable s l) y room = absurd (true≢false room)
  pin_reply c answer.Worn y room = absurd (true≢false room)
  pin_reply c r y room = let e = y.1.ends_so in absurd (brings_lack c h r _ e.0 e.1.turned)

-- ---- a peek and an unpin
peek_none : (o : Object) → peek_alone (Some o) None ≡ answer.NotPinned
peek_none (Held version bytes) = refl
peek_none (Freed version) = refl

pub peek_reply : (h : ℕ) (x : Entry) (v m : View) (newest : Option ℕ) (r : Reply)
    → last_in v.written h ≡ Some x → (HasNoPin h v.pins → newest ≡ None)
    → ((q : Stand) → IsNewestPin h q v.pins → (newest ≡ Some q.version)
    × ShowsLast h q.version v.written q)
    → PeekGoes h v r m → r ≡ peek_alone (Some (object_of x)) newest
peek_reply h x v m newest r last none some_one (inl y) = y.told ∙ sym (peek_none (object_of x))
    ∙ ap (peek_alone (Some (object_of x))) (sym (none y.no_pin))
peek_reply h x v m newest r last none some_one (inr y) =
    let z = some_one y.pin y.newest in
    let same : z.1.last ≡ x = same_Some z.1.last x (sym z.1.is_last ∙ last) in
    let held : x.freed ≡ false = sym (ap (λ (e : Entry). e.freed) same) ∙ z.1.held in
    y.peeks.told ∙ ap (answer.Bytes y.pin.version)
    (z.1.bytes ∙ ap (λ (e : Entry). bytes_in e.after e.len) same)
    ∙ sym (held_alone x (λ (o : MapNow). peek_alone o (Some y.pin.version)) held)
    ∙ ap (peek_alone (Some (object_of x))) (sym z.0)

pub unpin_reply : (h : ℕ) (x : Entry) (v m : View) (newest : Option ℕ) (r : Reply)
    → (HasNoPin h v.pins → newest ≡ None)
    → (1 ≤ pins_on h v → (version : ℕ) × (newest ≡ Some version))
    → UnpinGoes h v r m → r ≡ unpin_alone (Some (object_of x)) newest
unpin_reply h x v m newest r none some_one (inl y) =
    y.told ∙ ap (unpin_alone (Some (object_of x))) (sym (none y.no_pin))
unpin_reply h x v m newest r none some_one (inr y) = let z = some_one y.some in
    y.told ∙ ap (unpin_alone (Some (object_of x))) (sym z.1)
