-- Worked examples: entries of own objects in order, and what a call is to tell of an own object.
use Rattle.std.proofs.Common.{◌≡◌, ℕ, ◌≤◌, true, List, [], ◌∷◌, Option, None, Some, inl, inr, sym}
use Rattle.std.proofs.Common.{refl, ap, ◌∙◌, subst, true≢false, arith, lit<, lit≤, ⊎_elim}
use Rattle.cb_types.specs.declared.config.Config.{Config}
use Rattle.cb_types.specs.declared.handle.Handle.{Handle}
use Rattle.cb_types.specs.declared.job.Job.TheVariants as job
use Rattle.cb_types.specs.declared.request.Request.{Request}
use Rattle.cb_types.specs.declared.request.Request.TheVariants.{Make, Read, Pin}
use Rattle.cb_types.specs.declared.reply.Reply.TheVariants as answer
use Rattle.cb_ptr.specs.declared.word.State.TheVariants as state
use Rattle.cb_ptr.specs.Word.{len_of}
use Rattle.cb_script.specs.declared.script.Line.{Line}
use Rattle.cb_world.specs.declared.entry.Entry.{Entry}
use Rattle.cb_world.specs.Written.{entry, gone}
use Rattle.cb_rule.specs.declared.turn.Turn.{Turn}
use Rattle.cb_rule.specs.declared.view.Look.{Look}
use Rattle.cb_rule.specs.declared.view.Seen.{Seen}
use Rattle.cb_rule.specs.declared.view.View.{View}
use Rattle.cb_rule.specs.Lists.{Has}
use Rattle.cb_rule.specs.Steps.{blank, look_at, stand, version_seen}
use Rattle.cb_lanes.specs.Alone.{is_maker}
use Rattle.cb_lanes.specs.KeepsOwn.{AreEntriesInOrder, AreRead, ComesBehind, EntryComesNext}
use Rattle.cb_lanes.specs.KeepsOwn.{KeepsOwn}
use Rattle.cb_lanes.specs.LineGoes.{Calls}
use Rattle.cb_lanes.proofs.OwnKept.{AreRising}
use Rattle.cb_lanes.proofs.OwnLines.{IsLaneLine}
use Rattle.cb_lanes.proofs.OwnSays.{FreeTells, TellsOwn, WriteTells}

abbrev a : List ℕ
a = 97 ∷ []

abbrev b : List ℕ
b = 98 ∷ []

abbrev of : ℕ → Handle
of h = record { n = h }

-- ---- entries
-- object 1 is made with 2 bytes, written, and freed
abbrev made : Entry
made = entry 1 1 2 [] (7 ∷ [])

abbrev written : Entry
written = entry 1 2 2 (7 ∷ []) (8 ∷ [])

abbrev freed : Entry
freed = gone 1 3 (8 ∷ [])

a_write_comes_next : EntryComesNext made written
a_write_comes_next = record { there = refl; next = refl; past = refl; same_len = λ _. refl }

a_free_comes_next : EntryComesNext written freed
a_free_comes_next = record { there = refl; next = refl; past = refl; same_len = λ e. absurd cc }

behind_the_freed_one : EntryComesNext freed (entry 1 4 0 [] []) → ⊥
behind_the_freed_one x = absurd (let e = x.there in cc)

a_version_left_out : EntryComesNext made (entry 1 3 2 (7 ∷ []) (8 ∷ [])) → ⊥
a_version_left_out x = absurd (let e = x.next in cc)

from_other_words : EntryComesNext made (entry 1 2 2 (6 ∷ []) (8 ∷ [])) → ⊥
from_other_words x = absurd (let e = x.past in cc)

another_length : EntryComesNext made (entry 1 2 3 (7 ∷ []) (8 ∷ [])) → ⊥
another_length x = absurd (let e = x.same_len refl in cc)

a_make : ComesBehind None made
a_make = refl

a_make_at_version_2 : ComesBehind None written → ⊥
a_make_at_version_2 x = absurd cc

-- objects up to 1 are own; of object 2 any entry may stand anywhere
abbrev Mine : ℕ → Type 0
Mine h = h ≤ 1

foreign : (v : ℕ) → Mine (entry 2 v 1 [] []).handle → ⊥
foreign v own = omega (arith, own)

in_order : AreEntriesInOrder Mine (freed ∷ written ∷ entry 2 9 1 [] [] ∷ made ∷ [])
in_order = (
  λ own. a_free_comes_next,
  (λ own. a_write_comes_next, (λ own. absurd (foreign 9 own), (λ own. refl, tt))),
)

out_of_order : AreEntriesInOrder Mine (made ∷ written ∷ []) → ⊥
out_of_order x = absurd (let e = (x.1.0 (lit≤ tt)) in cc)

rising : AreRising Mine (written ∷ entry 2 9 1 [] [] ∷ made ∷ [])
rising = (
  λ own x has same. ⊎_elim (λ e. absurd
      (let h = ap (λ (z : Entry). z.handle) e in omega (arith, h, same)))
      (λ has. ⊎_elim (λ e. let v = ap (λ (z : Entry). z.version) e in omega (arith, v))
      (λ none. absurd none) has) has,
  (λ own. absurd (foreign 9 own), (λ own x none. absurd none, tt)),
)

one_version_twice : AreRising Mine (made ∷ made ∷ []) → ⊥
one_version_twice x = let less = x.0 (lit≤ tt) made (inl refl) refl in omega (arith, less)

-- what was read
read : AreRead Mine (written ∷ made ∷ []) (version_seen 1 1 2 (7 ∷ []) ∷ version_seen 2 9 1 [] ∷ [])
read s has own = ⊎_elim (λ e. (made, inr (inl refl), sym e)) (λ has. ⊎_elim
    (λ e. absurd (let h = ap (λ (k : Seen). k.handle) e in omega (arith, h, own)))
    (λ none. absurd none) has) has

read_what_no_one_wrote : AreRead Mine (made ∷ []) (version_seen 1 2 2 (8 ∷ []) ∷ []) → ⊥
read_what_no_one_wrote x = let z = x (version_seen 1 2 2 (8 ∷ [])) (inl refl) (lit≤ tt) in ⊎_elim
    (λ e. absurd (let v = ap (λ (k : Seen). k.version) z.2 in let w = ap
    (λ (k : Entry). k.version) e in
    omega (arith, v, w))) (λ none. absurd none) z.1

-- ---- what calls tell
module _ (c : Config) where
  -- object 1 is own, at version 2, and has a pin
  abbrev pinned : View
  pinned = record (blank c) {
    own = 1 ∷ [];
    written = written ∷ made ∷ [];
    pins = stand 1 2 0 2 (8 ∷ []) ∷ [];
  }

  abbrev loose : View
  loose = record (blank c) { own = 1 ∷ []; written = written ∷ made ∷ [] }

  a_change_tells : FreeTells 1 loose (answer.Version 3)
  a_change_tells = refl

  a_change_of_a_pinned_object : FreeTells 1 pinned (answer.Version 3) → ⊥
  a_change_of_a_pinned_object e = absurd cc

  a_pinned_change_tells : FreeTells 1 pinned (answer.Pinned 1)
  a_pinned_change_tells = (refl, lit≤ tt)

  a_pin_of_another : FreeTells 1 pinned (answer.Pinned 2) → ⊥
  a_pin_of_another x = absurd (let e = x.0 in cc)

  no_pin_at_all : FreeTells 1 loose (answer.Pinned 0) → ⊥
  no_pin_at_all x = let n = x.1 in omega (arith, n)

  a_write_tells : WriteTells 1 loose (answer.Version 3)
  a_write_tells = refl

  a_write_of_a_pinned_object : WriteTells 1 pinned (answer.Version 3) → ⊥
  a_write_of_a_pinned_object e = absurd cc

  a_range_tells : WriteTells 1 loose (answer.Range 2)
  a_range_tells = record {
    last = written;
    wrote = inl refl;
    handle = refl;
    newest = record {
      written = ((λ _. lit≤ tt), ((λ _. lit≤ tt), tt));
      seen = tt;
      lone = λ _. lit< tt;
    };
    held = refl;
    long = refl;
  }

  a_range_of_another_length : WriteTells 1 loose (answer.Range 3) → ⊥
  a_range_of_another_length x = let long = x.long in ⊎_elim
      (λ e. let n = ap (λ (z : Entry). z.len) e in omega (arith, n, long))
      (λ has. ⊎_elim (λ e. let n = ap (λ (z : Entry). z.len) e in omega (arith, n, long))
      (λ none. absurd none) has) x.wrote

  a_range_of_a_freed_object : WriteTells 1 (record loose { written = freed ∷ written ∷ made ∷ [] })
      (answer.Range 2) → ⊥
  a_range_of_a_freed_object x = let up = x.newest.written.0 refl in ⊎_elim
      (λ e. absurd (true≢false (ap (λ (z : Entry). z.freed) e ∙ x.held)))
      (λ has. ⊎_elim (λ e. let n = ap (λ (z : Entry). z.version) e in omega (arith, n, up))
      (λ has. ⊎_elim (λ e. let n = ap (λ (z : Entry). z.version) e in omega (arith, n, up))
      (λ none. absurd none) has) has) x.wrote

  -- of an object that is not own nothing is asked
  another_s_object : TellsOwn (Calls (job.Free (of 2))) pinned (answer.Version 3)
  another_s_object own = ⊎_elim (λ (e : 1 ≡ 2). absurd cc) (λ none. absurd none) own

-- ---- the record in the end
-- a word of an object that is here, of 2 bytes and of 3
abbrev two_long : ℕ
two_long = 16386

abbrev three_long : ℕ
three_long = 24578

here_some : state.Here ≡ state.Empty → ⊥
here_some e = absurd cc

version_told : (a b : Handle) (m n : ℕ) → Some (answer.Made a m) ≡ Some (answer.Made b n) → m ≡ n
version_told a b m n e = cc

module _ (c : Config) (t : Turn) where
  -- a turn that made object 1
  abbrev makes : ℕ → Turn
  makes version = record t {
    job = job.Make (7 ∷ []);
    reply = Some (answer.Made (of 1) version);
    acts = [];
  }

  abbrev kept : View
  kept = record (blank c) {
    own = 1 ∷ [];
    written = written ∷ made ∷ [];
    seen = version_seen 1 1 2 (7 ∷ []) ∷ [];
    looks = look_at 1 two_long ∷ [];
    turns = makes 1 ∷ [];
  }

  is_kept : KeepsOwn kept
  is_kept = record {
    order = (λ own. a_write_comes_next, (λ own. refl, tt));
    read = λ s has own. ⊎_elim (λ e. (made, inr (inl refl), sym e)) (λ none. absurd none) has;
    long = λ l found own full. ⊎_elim (λ has. ⊎_elim (λ e. (
      made,
      inr (inl refl),
      ap (λ (k : Look). k.handle) e,
      refl,
      ap (λ (k : Look). len_of k.word) e,
    )) (λ none. absurd none) has)
        (λ x. ⊎_elim (λ e. absurd (subst (λ (k : Turn). Has x.2 k.acts) (sym e) x.3))
        (λ none. absurd none) x.1) found;
    makes = λ u has bytes h version asked told. ⊎_elim
        (λ e. sym (version_told (of 1) h 1 version (ap (λ (k : Turn). k.reply) e ∙ told)))
        (λ none. absurd none) has;
  }

  keeps_no_order : KeepsOwn (record kept { written = made ∷ written ∷ [] }) → ⊥
  keeps_no_order x = absurd (let e = x.order.1.0 (inl refl) in cc)

  read_what_was_not_written : KeepsOwn (record kept { seen = version_seen 1 5 2 (8 ∷ []) ∷ [] }) → ⊥
  read_what_was_not_written x = let z = x.read (version_seen 1 5 2 (8 ∷ [])) (inl refl)
      (inl refl) in
      let v = ap (λ (k : Seen). k.version) z.2 in ⊎_elim
      (λ e. let w = ap (λ (k : Entry). k.version) e in omega (arith, v, w))
      (λ has. ⊎_elim (λ e. let w = ap (λ (k : Entry). k.version) e in omega (arith, v, w))
      (λ none. absurd none) has) z.1

  found_longer : KeepsOwn (record kept { looks = look_at 1 three_long ∷ [] }) → ⊥
  found_longer x =
      let z = x.long (look_at 1 three_long) (inl (inl refl)) (inl refl) (λ e. here_some e) in
      let v : z.0.len ≡ 3 = z.4 in ⊎_elim
      (λ e. let w = ap (λ (k : Entry). k.len) e in omega (arith, v, w))
      (λ has. ⊎_elim (λ e. let w = ap (λ (k : Entry). k.len) e in omega (arith, v, w))
      (λ none. absurd none) has) z.1

  made_at_version_2 : KeepsOwn (record kept { turns = makes 2 ∷ [] }) → ⊥
  made_at_version_2 x = absurd
      (let e = x.makes (makes 2) (inl refl) (7 ∷ []) (of 1) 2 refl refl in cc)

-- ---- lines of a lane
abbrev by : ℕ → Request → Line
by lane request = record { lane = record { n = lane }; line = 2; request = request }

-- lane 0 makes a, lane 1 makes b
abbrev lines : List Line
lines = by 0 (Make a (1 ∷ [])) ∷ by 1 (Make b (2 ∷ [])) ∷ []

abbrev no_handles : List ℕ → Option ℕ
no_handles p = None

name_made : Request → List ℕ
name_made (Make name bytes) = name
name_made q = []

a_line : IsLaneLine lines 1 no_handles (Make b (2 ∷ [])) (answer.Made (of 4) 1)
unfolding name_made
a_line = record {
  line = tt;
  makes = λ p bytes e. (
    subst (λ (n : List ℕ). is_maker lines 1 n ≡ true)
        (ap name_made e) refl,
    refl,
  );
  pins = λ p e. absurd cc;
}

a_line_with_another_reply : IsLaneLine lines 1 no_handles (Read b) answer.Done → ⊥
a_line_with_another_reply x = x.line

a_make_of_another_lane_s_name : IsLaneLine lines 1 no_handles (Make a (1 ∷ []))
    (answer.Made (of 4) 1) → ⊥
a_make_of_another_lane_s_name x = absurd (let e = (x.makes a (1 ∷ []) refl).0 in cc)

a_second_make : IsLaneLine lines 1 (λ p. Some 3) (Make b (2 ∷ [])) (answer.Made (of 4) 1) → ⊥
a_second_make x = absurd (let e = (x.makes b (2 ∷ []) refl).1 in cc)

a_pin_of_a_shared_name : IsLaneLine lines 1 no_handles (Pin a) (answer.Version 1) → ⊥
a_pin_of_a_shared_name x = absurd (let e = x.pins a refl in cc)
