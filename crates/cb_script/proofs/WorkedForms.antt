-- Worked examples: which lines may stand behind others. Each part of a definition is broken alone.
use Rattle.std.proofs.Common.{◌≡◌, ℕ, ◌<◌, ◌≤◌, List, [], ◌∷◌, length, All, ◌⊎◌, inl, inr, refl, arith}
use Rattle.std.specs.Prelude.{codes}
use Rattle.std.proofs.lemmas.List.Elements.{All-cons, All-nil, All-head}
use Rattle.cb_types.specs.declared.request.Request.TheVariants.{Make, Read, Write, Crash, Leave, Begin, Evict}
use Rattle.cb_script.specs.declared.script.Line.{Line}
use Rattle.cb_script.specs.declared.script.Mode.TheVariants.{Seq, Threads}
use Rattle.cb_script.specs.declared.script.Script.{Script}
use Rattle.cb_script.specs.Form.{IsName, IsNameByte, IsContents, IsChange, IsRequest, IsLane, IsNameNew, KnowsName, IsNameKnown, MayFollow, AreInMode, IsScript, Spells}
use Rattle.cb_script.proofs.Phrases.{differ}
use Rattle.cb_script.proofs.WorkedSpelling.{worked_lane}

-- ---- names

letter_and_digit : IsName (codes "z0")
letter_and_digit = record { some = omega arith; few = omega arith; each = All-cons IsNameByte 122 (48 ∷ []) (inl (omega arith, omega arith)) (All-cons IsNameByte 48 [] (inr (omega arith, omega arith)) (All-nil IsNameByte)) }

no_name : IsName [] → ⊥
no_name is = omega (arith, is.some)

-- 16 bytes are the most
sixteen_bytes : (name : List ℕ) → length name ≡ 16 → All IsNameByte name → IsName name
sixteen_bytes name long each = record { some = omega (arith, long); few = omega (arith, long); each = each }

seventeen_bytes : (name : List ℕ) → length name ≡ 17 → IsName name → ⊥
seventeen_bytes name long is = omega (arith, long, is.few)

-- the bytes beside the letters and the digits are none
pub bad_byte : (b : ℕ) → (b ≡ 96) ⊎ ((b ≡ 123) ⊎ ((b ≡ 47) ⊎ ((b ≡ 58) ⊎ (b ≡ 65)))) → IsName (b ∷ []) → ⊥
bad_byte b which is = elim (All-head IsNameByte b [] is.each) [ inl letter ↦ grind (arith, which, letter) | inr digit ↦ grind (arith, which, digit) ]

-- ---- bytes

contents_limit : (bytes : List ℕ) → length bytes ≡ 4096 → All (λ b. b < 256) bytes → IsContents bytes
contents_limit bytes long each = record { some = omega (arith, long); few = omega (arith, long); each = each }

contents_past : (bytes : List ℕ) → length bytes ≡ 4097 → IsContents bytes → ⊥
contents_past bytes long is = omega (arith, long, is.few)

no_contents : IsContents [] → ⊥
no_contents is = omega (arith, is.some)

no_byte : IsContents (256 ∷ []) → ⊥
no_byte is = omega (arith, All-head (λ b. b < 256) 256 [] is.each)

no_change : IsChange []
no_change = record { few = omega arith; each = All-nil (λ b. b < 256) }

change_past : (bytes : List ℕ) → length bytes ≡ 4097 → IsChange bytes → ⊥
change_past bytes long is = omega (arith, long, is.few)

change_byte : IsChange (256 ∷ []) → ⊥
change_byte is = omega (arith, All-head (λ b. b < 256) 256 [] is.each)

-- ---- requests

name_a : IsName (codes "a")
name_a = record { some = omega arith; few = omega arith; each = All-cons IsNameByte 97 [] (inl (omega arith, omega arith)) (All-nil IsNameByte) }

write_limit : IsRequest 6 (Write (codes "a") 4096 [])
write_limit = (name_a, omega arith, no_change)

write_past : IsRequest 6 (Write (codes "a") 4097 []) → ⊥
write_past is = omega (arith, is.1)

last_node : IsRequest 6 (Crash (record { n = 5 }))
last_node = omega arith

no_node : IsRequest 6 (Crash (record { n = 6 })) → ⊥
no_node is = omega (arith, is)

-- ---- names that are known

-- lane 0 makes a, and lane 1 makes b
abbrev pub two_makes : List Line
two_makes = worked_lane 0 (Make (codes "a") (0 ∷ [])) 2 ∷ worked_lane 1 (Make (codes "b") (0 ∷ [])) 3 ∷ []

shared_name : KnowsName two_makes 2 (codes "a")
shared_name = inr (inl (refl, refl))

pub own_name : KnowsName two_makes 1 (codes "b")
own_name = inl (inr (inl (refl, refl)))

-- lane 1's own name is not known to lane 2
pub another_lanes_name : KnowsName two_makes 2 (codes "b") → ⊥
another_lanes_name (inl (inl here)) = let e : 0 ≡ 2 = here.0 in absurd (omega (arith, e))
another_lanes_name (inl (inr (inl here))) = let e : 1 ≡ 2 = here.0 in absurd (omega (arith, e))
another_lanes_name (inl (inr (inr none))) = none
another_lanes_name (inr (inl here)) = absurd (differ (codes "a") (codes "b") here.1 refl)
another_lanes_name (inr (inr (inl here))) = let e : 1 ≡ 0 = here.0 in absurd (omega (arith, e))
another_lanes_name (inr (inr (inr none))) = none

new_name : IsNameNew two_makes (codes "c")
new_name lane (inl here) = absurd (differ (codes "a") (codes "c") here.1 refl)
new_name lane (inr (inl here)) = absurd (differ (codes "b") (codes "c") here.1 refl)
new_name lane (inr (inr none)) = none

-- a name that another lane made is not new
pub made_twice : IsNameNew two_makes (codes "b") → ⊥
made_twice new = new 1 (inr (inl (refl, refl)))

-- a make asks for a new name, and a read for a known one
make_twice : IsNameKnown two_makes 2 (Make (codes "b") (0 ∷ [])) → ⊥
make_twice is = made_twice is

read_unknown : IsNameKnown two_makes 2 (Read (codes "b")) → ⊥
read_unknown is = another_lanes_name is

-- ---- lanes

last_lane : IsLane two_makes 15
last_lane = record { low = omega arith; first = λ e. absurd (omega (arith, e)) }

no_lane : IsLane [] 16 → ⊥
no_lane is = omega (arith, is.low)

-- lane 0 stands behind lane 0, and behind no other
lane_0_behind : IsLane (worked_lane 0 Leave 2 ∷ []) 0
lane_0_behind = record { low = omega arith; first = λ e. (refl, tt) }

pub lane_0_late : IsLane two_makes 0 → ⊥
lane_0_late is = let e : 1 ≡ 0 = (is.first refl).1.0 in omega (arith, e)

-- ---- a line behind others

read_b : MayFollow 6 two_makes (worked_lane 1 (Read (codes "b")) 4)
read_b = record {
  lane = record { low = omega arith; first = λ e. absurd (omega (arith, e)) };
  line = refl;
  request = record { some = omega arith; few = omega arith; each = All-cons IsNameByte 98 [] (inl (omega arith, omega arith)) (All-nil IsNameByte) };
  known = own_name;
}

wrong_lane : MayFollow 6 two_makes (worked_lane 0 (Read (codes "a")) 4) → ⊥
wrong_lane may = lane_0_late may.lane

wrong_number : MayFollow 6 two_makes (worked_lane 1 (Read (codes "b")) 5) → ⊥
wrong_number may = let e : 5 ≡ 4 = may.line in omega (arith, e)

wrong_request : MayFollow 6 two_makes (worked_lane 1 (Crash (record { n = 6 })) 4) → ⊥
wrong_request may = no_node may.request

wrong_name : MayFollow 6 two_makes (worked_lane 2 (Read (codes "b")) 4) → ⊥
wrong_name may = another_lanes_name may.known

-- ---- modes

steps_in_seq : AreInMode Seq (worked_lane 1 Begin 2 ∷ [])
steps_in_seq = (tt, tt)

no_steps_in_threads : AreInMode Threads (worked_lane 1 Evict 2 ∷ worked_lane 1 Begin 3 ∷ []) → ⊥
no_steps_in_threads are = are.1.0 tt

evict_in_threads : AreInMode Threads (worked_lane 1 Evict 2 ∷ [])
evict_in_threads = (λ is. is, tt)

-- ---- scripts

too_many_lines : (s : Script) → length s.lines ≡ 20001 → IsScript s → ⊥
too_many_lines s long form = omega (arith, long, form.few)

lines_limit : (s : Script) → IsScript s → length s.lines ≡ 20000 → 20000 ≤ length s.lines
lines_limit s form long = omega (arith, long)

too_long : (bytes : List ℕ) (s : Script) → length bytes ≡ 1048577 → Spells bytes Seq s → ⊥
too_long bytes s long spells = omega (arith, long, spells.short)
