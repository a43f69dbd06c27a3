-- Worked examples of calls over a still desk: replies, steps, and what the map has, with what
-- breaks one part of each.
use Rattle.std.proofs.Common.{◌≡◌, ◌⊎◌, ℕ, zero, suc, ◌+◌, ◌-◌, ◌^◌, ◌<◌, ◌≤◌, List, [], ◌∷◌, Some, None, length, get_or, lit<, refl, sym, ap, ◌∙◌, inl, inr, arith, get_or-set_same}
use Rattle.cb_types.specs.declared.config.Config.{Config}
use Rattle.cb_types.specs.declared.reply.Reply.{Reply}
use Rattle.cb_types.specs.declared.reply.Reply.TheVariants as answer
use Rattle.cb_types.specs.declared.request.Request.TheVariants.{Read, Write, Free}
use Rattle.cb_model.specs.Now.{MapNow, overwritten}
use Rattle.cb_model.specs.Event.{event_of}
use Rattle.cb_model.specs.Replies.{MapReplies}
use Rattle.cb_model.specs.declared.object.Object.TheVariants.{Held, Freed}
use Rattle.cb_world.specs.Memory.{put, window, memory_byte, bytes_in}
use Rattle.cb_world.specs.Write.{IsWrite}
use Rattle.cb_world.specs.Plain.{Words}
use Rattle.cb_world.specs.declared.homes.Home.{Home}
use Rattle.cb_world.specs.Homes.{home_at}
use Rattle.cb_world.specs.FarState.{FarState}
use Rattle.cb_world.specs.Now.Now.{freed, held, gone}
use Rattle.cb_world.specs.StillWords.{with_hot}
use Rattle.cb_world.specs.StillDesk.{window_length}
use Rattle.cb_world.proofs.Laws.{put_at-windows as put_at, put_else}
use Rattle.cb_mutate.specs.Wordwise.{IsReached, IsWordwise}
use Rattle.cb_mutate.specs.FreeRule.{IsRemoved}
use Rattle.cb_mutate.proofs.FarFreed.{home_known}
use Rattle.cb_mutate.specs.StillReplies.{read_reply, write_reply, free_reply}
use Rattle.cb_mutate.specs.CallStep.{IsReadStep, IsWriteStep, IsFreeStep}
use Rattle.cb_mutate.specs.MapCalls.{IsValue, value_after, IsMapCall}

-- words of an object of two bytes at place 0: here, here and hot, here with a pin, moving; and far
abbrev calm : ℕ
calm = 16386

abbrev hot : ℕ
hot = 16390

abbrev pinned : ℕ
pinned = 16398

abbrev moving : ℕ
moving = 16387

abbrev away : ℕ
away = 16385

made_hot : with_hot calm ≡ hot
made_hot = refl

stays_hot : with_hot hot ≡ hot
stays_hot = refl

-- what is answered, in the order of the refusals
write_unmade : write_reply 0 0 0 1 ≡ answer.Unmade
write_unmade = refl

write_freed : write_reply 0 3 0 1 ≡ answer.Freed
write_freed = refl

write_moving : write_reply moving 1 0 1 ≡ answer.Moving
write_moving = refl

write_away : write_reply away 1 0 1 ≡ answer.NotHere
write_away = refl

write_to_the_end : write_reply calm 1 1 1 ≡ answer.Version 2
write_to_the_end = refl

write_past_the_end : write_reply calm 1 1 2 ≡ answer.Range 2
write_past_the_end = refl

range_before_pins : write_reply pinned 1 1 2 ≡ answer.Range 2
range_before_pins = refl

write_pinned : write_reply pinned 1 0 1 ≡ answer.Pinned 1
write_pinned = refl

pins_before_worn : write_reply pinned (2 ^ 64 - 1) 0 1 ≡ answer.Pinned 1
pins_before_worn = refl

write_worn : write_reply calm (2 ^ 64 - 1) 0 1 ≡ answer.Worn
write_worn = refl

write_nothing : write_reply calm 1 2 0 ≡ answer.Version 2
write_nothing = refl

read_with_a_pin : read_reply pinned 1 (2826 ∷ []) ≡ answer.Bytes 1 (10 ∷ 11 ∷ [])
unfolding bytes_in
read_with_a_pin = refl

free_pinned : free_reply pinned 1 ≡ answer.Pinned 1
free_pinned = refl

free_here : free_reply calm 1 ≡ answer.Version 2
free_here = refl

free_away : free_reply away 1 ≡ answer.Version 2
free_away = refl

free_away_worn : free_reply away (2 ^ 64 - 1) ≡ answer.Worn
free_away_worn = refl

free_moving : free_reply moving 1 ≡ answer.Moving
free_moving = refl

-- one such object, its two bytes being 0a 0b, and a word behind it
abbrev desk : Config → ℕ → ℕ → List ℕ → Words
desk c word version memory =
    record { settings = c; words = word ∷ []; versions = version ∷ []; memory = memory }

abbrev old : Config → Words
old c = desk c calm 1 (2826 ∷ 7 ∷ [])

-- 0c in place of 0b
write_it : IsWrite (2826 ∷ []) 1 (12 ∷ []) (3082 ∷ [])
write_it = record { sized = refl; inside = inside; outside = outside }
  where
    inside : (i : ℕ) → i < 1 → memory_byte (3082 ∷ []) (1 + i) ≡ get_or (12 ∷ []) i 0
    inside zero below = refl
    inside (suc i) below = absurd (omega (arith, below))

    outside : (p : ℕ) → p < 8 → (p < 1) ⊎ (2 ≤ p)
        → memory_byte (3082 ∷ []) p ≡ memory_byte (2826 ∷ []) p
    outside zero below side = refl
    outside (suc zero) below (inl before) = absurd (omega (arith, before))
    outside (suc zero) below (inr behind) = absurd (omega (arith, behind))
    outside (suc (suc zero)) below side = refl
    outside (suc (suc (suc zero))) below side = refl
    outside (suc (suc (suc (suc zero)))) below side = refl
    outside (suc (suc (suc (suc (suc zero))))) below side = refl
    outside (suc (suc (suc (suc (suc (suc zero)))))) below side = refl
    outside (suc (suc (suc (suc (suc (suc (suc zero))))))) below side = refl
    outside (suc (suc (suc (suc (suc (suc (suc (suc p)))))))) below side = absurd (omega
        (arith, below))

-- that word alone is stored
abbrev was : List ℕ
was = 2826 ∷ []

abbrev wrote : List ℕ
wrote = 3082 ∷ []

write_words : IsWordwise was 1 1 wrote
write_words = record { small = small; others = others }
  where
    small : (i : ℕ) → IsReached i 1 1 → get_or wrote i 0 < 2 ^ 64
    small zero reached = lit< tt
    small (suc i) reached = absurd (let l = reached.0 in omega (arith, l))

    others : (i : ℕ) → ¬ (IsReached i 1 1) → get_or wrote i 0 ≡ get_or was i 0
    others zero off = absurd (off (omega arith, omega arith))
    others (suc i) off = refl

-- a word that the bytes do not reach stays, also where one of the same bytes could be stored
stores_beside : IsWordwise (2826 ∷ 7 ∷ []) 1 1 (3082 ∷ (2 ^ 64 + 7) ∷ []) → ⊥
stores_beside x = let e : 2 ^ 64 + 7 ≡ 7 = x.others 1 (λ r. let l = r.0 in omega (arith, l)) in
    omega (arith, e)

writes : (c : Config) → IsWriteStep (old c) (desk c hot 2 (3082 ∷ 7 ∷ [])) 0 1 (12 ∷ [])
    (answer.Version 2)
unfolding put window
writes c = record {
  reply = refl;
  change = record {
    words = 3082 ∷ [];
    write = write_it;
    wordwise = write_words;
    left = refl;
  };
}

writes_and_stays_cold : (c : Config) → IsWriteStep (old c) (desk c calm 2 (3082 ∷ 7 ∷ [])) 0 1
    (12 ∷ []) (answer.Version 2) → ⊥
writes_and_stays_cold c x = let e : 16386 ≡ 16390 =
    ap (λ (y : Words). get_or y.words 0 0) x.change.left in omega (arith, e)

writes_at_its_version : (c : Config) → IsWriteStep (old c) (desk c hot 1 (3082 ∷ 7 ∷ [])) 0 1
    (12 ∷ []) (answer.Version 2) → ⊥
writes_at_its_version c x = let e : 1 ≡ 2 =
    ap (λ (y : Words). get_or y.versions 0 0) x.change.left in omega (arith, e)

writes_behind : (c : Config) → IsWriteStep (old c) (desk c hot 2 (3082 ∷ 8 ∷ [])) 0 1
    (12 ∷ []) (answer.Version 2) → ⊥
writes_behind c x = let z = x.change in
    let n : length z.words ≡ 1 = z.write.sized ∙ window_length (2826 ∷ 7 ∷ []) 0 1 in
    let e : 8 ≡ 7 = ap (λ (y : Words). get_or y.memory 1 0) z.left
    ∙ put_else (2826 ∷ 7 ∷ []) 0 z.words 1 (inr (omega (arith, n))) in omega (arith, e)

-- a word with the same bytes that has more than 64 bits
writes_a_wide_word : (c : Config) → IsWriteStep (old c) (desk c hot 2 ((2 ^ 64 + 3082) ∷ 7 ∷ [])) 0 1
    (12 ∷ []) (answer.Version 2) → ⊥
writes_a_wide_word c x = let z = x.change in
    let n : length z.words ≡ 1 = z.write.sized ∙ window_length (2826 ∷ 7 ∷ []) 0 1 in
    let e : 2 ^ 64 + 3082 ≡ get_or z.words 0 0 = ap (λ (y : Words). get_or y.memory 0 0) z.left
    ∙ put_at (2826 ∷ 7 ∷ []) 0 z.words 0 (omega (arith, n)) (omega (arith, n)) in
    let l = z.wordwise.small 0 (omega arith, omega arith) in omega (arith, e, l)

answers_too_high : (c : Config) → IsWriteStep (old c) (desk c hot 3 (3082 ∷ 7 ∷ [])) 0 1
    (12 ∷ []) (answer.Version 3) → ⊥
answers_too_high c x = let e : 3 ≡ 2 = ap version_of x.reply in omega (arith, e)
  where
    version_of : Reply → ℕ
    version_of (answer.Version n) = n
    version_of r = 0

refused_and_changed : (c : Config) → IsWriteStep (old c) (desk c hot 1 (2826 ∷ 7 ∷ [])) 0 1
    (12 ∷ 13 ∷ []) (answer.Range 2) → ⊥
refused_and_changed c x = let e : 16390 ≡ 16386 =
    ap (λ (y : Words). get_or y.words 0 0) x.change in omega (arith, e)

-- a read makes the word hot, but for one with pins
reads : (c : Config) → IsReadStep (old c) (desk c hot 1 (2826 ∷ 7 ∷ [])) 0
    (answer.Bytes 1 (10 ∷ 11 ∷ []))
unfolding bytes_in window
reads c = record { reply = refl; change = refl }

reads_with_a_pin : (c : Config) → IsReadStep (desk c pinned 1 (2826 ∷ 7 ∷ []))
    (desk c pinned 1 (2826 ∷ 7 ∷ [])) 0 (answer.Bytes 1 (10 ∷ 11 ∷ []))
unfolding bytes_in window
reads_with_a_pin c = record { reply = refl; change = refl }

reads_and_stays_cold : (c : Config) → IsReadStep (old c) (old c) 0
    (answer.Bytes 1 (10 ∷ 11 ∷ [])) → ⊥
reads_and_stays_cold c x = let e : 16386 ≡ 16390 =
    ap (λ (y : Words). get_or y.words 0 0) x.change in omega (arith, e)

-- a free leaves no word, and the next version
frees_to_a_word : (c : Config) (far new : FarState)
    → IsFreeStep (old c) (desk c calm 2 (2826 ∷ 7 ∷ [])) far new 0 (answer.Version 2) → ⊥
frees_to_a_word c far new x = let e : 16386 ≡ 0 =
    ap (λ (y : Words). get_or y.words 0 0) x.change.left in omega (arith, e)

frees_at_its_version : (c : Config) (far new : FarState)
    → IsFreeStep (old c) (desk c 0 1 (2826 ∷ 7 ∷ [])) far new 0 (answer.Version 2) → ⊥
frees_at_its_version c far new x = let e : 1 ≡ 2 =
    ap (λ (y : Words). get_or y.versions 0 0) x.change.left in omega (arith, e)

-- a far object that is freed has no home
frees_and_stays_at_home : (c : Config) (far : FarState)
    → IsFreeStep (desk c away 1 []) (desk c 0 2 []) far far 0 (answer.Version 2) → ⊥
frees_and_stays_at_home c far x =
    let z : IsRemoved far far 0 = x.change.leaves in
    none_some z.home (sym (get_or-set_same far.homes 0 None None
    (home_known far 0 z.home z.lies.at))
    ∙ ap (λ (f : FarState). home_at f.homes 0) (sym z.left) ∙ z.lies.at)
  where
    none_some : (home : Home) → None ≡ Some home → ⊥
    none_some home e = cc

-- what the map has: of an object that is gone its version alone is known
value_gone : IsValue (Some (Held 3 (1 ∷ 2 ∷ []))) (gone 3)
value_gone = refl

value_gone_at_another : IsValue (Some (Held 3 (1 ∷ 2 ∷ []))) (gone 2) → ⊥
value_gone_at_another e = omega (arith, e)

value_held : IsValue (Some (Held 3 (1 ∷ 2 ∷ []))) (held 3 (1 ∷ 2 ∷ []))
value_held = (refl, refl)

value_with_other_bytes : IsValue (Some (Held 3 (1 ∷ []))) (held 3 (2 ∷ [])) → ⊥
value_with_other_bytes v = let e : 2 ≡ 1 = ap (λ (l : List ℕ). get_or l 0 0) v.1 in omega (arith, e)

value_freed_and_held : IsValue (Some (Freed 3)) (held 3 []) → ⊥
value_freed_and_held v = v

value_never_and_freed : IsValue None (freed 1) → ⊥
value_never_and_freed v = v

-- a call that the map answers so, and some that it does not
map_write : IsMapCall 1 4 1 (Some 0) (Write (97 ∷ []) 1 (12 ∷ [])) (answer.Version 4)
    (held 3 (10 ∷ 11 ∷ [])) (held 4 (10 ∷ 12 ∷ []))
map_write = record { reply = reply; value = value }
  where
    reply : (m : MapNow) → IsValue m (held 3 (10 ∷ 11 ∷ []))
        → MapReplies 1 4 1 (Some 0) m (event_of (Write (97 ∷ []) 1 (12 ∷ [])) (answer.Version 4))
    reply None i = absurd i
    reply (Some (Freed u)) i = absurd i
    reply (Some (Held u b)) i =
        let n : 2 ≡ length b = ap (λ (l : List ℕ). length l) i.1 in (
          omega (arith, n),
          omega
              (arith, i.0),
        )

    value : (m : MapNow) → IsValue m (held 3 (10 ∷ 11 ∷ []))
        → IsValue (value_after m (event_of (Write (97 ∷ []) 1 (12 ∷ [])) (answer.Version 4)))
        (held 4 (10 ∷ 12 ∷ []))
    value None i = absurd i
    value (Some (Freed u)) i = absurd i
    value (Some (Held u b)) i = (refl, ap (λ (l : List ℕ). overwritten l 1 (12 ∷ [])) i.1)

map_keeps_the_bytes : IsMapCall 1 4 1 (Some 0) (Write (97 ∷ []) 1 (12 ∷ [])) (answer.Version 4)
    (held 3 (10 ∷ 11 ∷ [])) (held 4 (10 ∷ 11 ∷ [])) → ⊥
map_keeps_the_bytes x = let e : 11 ≡ 12 = ap (λ (l : List ℕ). get_or l 1 0)
    (x.value (Some (Held 3 (10 ∷ 11 ∷ []))) (refl, refl)).1 in omega (arith, e)

map_skips_a_version : IsMapCall 1 4 1 (Some 0) (Free (97 ∷ [])) (answer.Version 5)
    (held 3 (10 ∷ 11 ∷ [])) (freed 5) → ⊥
map_skips_a_version x = let e : 5 ≡ 3 + 1 =
    x.reply (Some (Held 3 (10 ∷ 11 ∷ []))) (refl, refl) in omega (arith, e)

map_unmade_but_held : IsMapCall 1 4 1 (Some 0) (Read (97 ∷ [])) answer.Unmade
    (held 3 (10 ∷ 11 ∷ [])) (held 3 (10 ∷ 11 ∷ [])) → ⊥
map_unmade_but_held x = x.reply (Some (Held 3 (10 ∷ 11 ∷ []))) (refl, refl)
