-- Worked examples: what is drawn from seeds, and what is not.
use Rattle.std.proofs.Common.{◌≡◌, ℕ, List, [], ◌∷◌, codes, refl, arith}
use Rattle.std.specs.Fmt.{digits}
use Rattle.cb_types.specs.declared.request.Request.{Request}
use Rattle.cb_types.specs.declared.request.Request.TheVariants.{Make, Read, Write, Filter, Evict, Crash, Rebuild, Compact}
use Rattle.cb_script.specs.declared.script.Line.{Line}
use Rattle.cb_gen.specs.Draws.{drawn, drawn_bytes, next_state, state_after}
use Rattle.cb_gen.specs.Drawn.{drawn_action, drawn_config, lengths_of, made_script, object_name}

-- ---- draws

one_step : next_state 1 ≡ 7806831264735756412
one_step = refl

-- the product is reduced
large_step : next_state 18446744073709551615 ≡ 13525302890751722018
large_step = refl

three_steps : state_after 1 3 ≡ 11960119808228829710
three_steps = refl

-- the upper bits of the state are what is drawn, and not the lower ones
first_byte : drawn 1 0 256 ≡ 214
first_byte = refl

lower_bits : drawn 1 0 256 ≡ 124 → ⊥
lower_bits e = omega (arith, e)

third_of_seven : drawn 1 2 7 ≡ 1
third_of_seven = refl

three_bytes : drawn_bytes 1 3 ≡ 214 ∷ 89 ∷ 204 ∷ []
three_bytes = refl

-- ---- names

third_of_lane_12 : object_name 12 3 ≡ codes "l12n3"
unfolding digits
third_of_lane_12 = refl

-- ---- one request an action, of a lane that made objects of 5 and 7 bytes

a_make : drawn_action 3 28 3
    (5 ∷ 7 ∷ []) ≡ record { request = Make (codes "l3n2") (228 ∷ 146 ∷ []); left = 14948011370187258853 }
unfolding digits
a_make = refl

-- a lane that made nothing makes something, whatever its action
first_make : drawn_action 4 28 3
    ([]) ≡ record { request = Make (codes "l3n0") (228 ∷ 146 ∷ []); left = 14948011370187258853 }
unfolding digits
first_make = refl

a_read : drawn_action 4 1 3
    (5 ∷ 7 ∷ []) ≡ record { request = Read (codes "l3n0"); left = 7806831264735756412 }
unfolding digits
a_read = refl

last_read : drawn_action 9 1 3
    (5 ∷ 7 ∷ []) ≡ record { request = Read (codes "l3n0"); left = 7806831264735756412 }
unfolding digits
last_read = refl

a_write : drawn_action 10 6 3
    (5 ∷ 7 ∷ []) ≡ record { request = Write (codes "l3n1") 6 (31 ∷ []); left = 5369834740428901914 }
unfolding digits
a_write = refl

-- a write of no bytes
empty_write : drawn_action 13 1 3
    (5 ∷ 7 ∷ []) ≡ record { request = Write (codes "l3n0") 3 []; left = 11960119808228829710 }
unfolding digits
empty_write = refl

an_evict : drawn_action 14 1 3 (5 ∷ 7 ∷ []) ≡ record { request = Evict; left = 1 }
unfolding digits
an_evict = refl

a_crash : drawn_action 15 1 3
    (5 ∷ 7 ∷ []) ≡ record { request = Crash (record { n = 1 }); left = 9396908728118811419 }
unfolding digits
a_crash = refl

a_rebuild : drawn_action 15 2 3
    (5 ∷ 7 ∷ []) ≡ record { request = Rebuild; left = 14170967488582549417 }
unfolding digits
a_rebuild = refl

a_compaction : drawn_action 15 3 3
    (5 ∷ 7 ∷ []) ≡ record { request = Compact; left = 2088359638719790806 }
unfolding digits
a_compaction = refl

a_filter : drawn_action 15 10 3
    (5 ∷ 7 ∷ []) ≡ record { request = Filter (codes "l3n0"); left = 3298011952073619532 }
unfolding digits
a_filter = refl

-- ---- lines

abbrev a_line : (lane line : ℕ) → Request → Line
a_line lane line request = record { lane = record { n = lane }; line = line; request = request }

abbrev made_by_two : List Line
made_by_two = a_line 1 2 (Make (codes "l1n0") (7 ∷ 8 ∷ [])) ∷ a_line 2 3 (Make (codes "l2n0")
    (9 ∷ [])) ∷ a_line 1 4 (Read (codes "l1n0")) ∷ a_line 1 5 (Make (codes "l1n1")
    (1 ∷ 2 ∷ 3 ∷ [])) ∷ []

of_lane_1 : lengths_of made_by_two 1 ≡ 2 ∷ 3 ∷ []
of_lane_1 = refl

of_lane_2 : lengths_of made_by_two 2 ≡ 1 ∷ []
of_lane_2 = refl

of_lane_3 : lengths_of made_by_two 3 ≡ []
of_lane_3 = refl

-- three lines of two lanes: the lane is drawn first
abbrev three_lines : List Line
three_lines = a_line 2 2 (Make (codes "l2n0") (2 ∷ 112 ∷ 239 ∷ [])) ∷ a_line 1 3 (Make
    (codes "l1n0") (136 ∷ 40 ∷ [])) ∷ a_line 1 4 (Evict) ∷ []

drawn_three : made_script 3412 3 2 ≡ record { config = drawn_config; lines = three_lines }
unfolding digits
drawn_three = refl

-- no line is drawn
drawn_none : made_script 3412 0 2 ≡ record { config = drawn_config; lines = [] }
drawn_none = refl

-- one line of one lane
drawn_one : made_script 1 1 1 ≡
    record { config = drawn_config; lines = a_line 1 2 (Make (codes "l1n0") (230 ∷ 90 ∷ 243 ∷ 154 ∷ 246 ∷ 41 ∷ 186 ∷ 251 ∷ 242 ∷ 124 ∷ 32 ∷ 186 ∷ 12 ∷ 26 ∷ 31 ∷ 212 ∷ 53 ∷ 107 ∷ 141 ∷ 222 ∷ 98 ∷ 61 ∷ 176 ∷ 36 ∷ 160 ∷ 81 ∷ 160 ∷ 159 ∷ 18 ∷ 28 ∷ 197 ∷ 142 ∷ 90 ∷ 202 ∷ 106 ∷ 220 ∷ 29 ∷ [])) ∷ [] }
unfolding digits
drawn_one = refl
