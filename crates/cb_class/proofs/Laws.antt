-- The laws of the table that the crates above cite.
use Rattle.std.proofs.Common.{◌≡◌, ◌⊎◌, ℕ, ◌+◌, ◌*◌, ◌/◌, ◌<◌, ◌≤◌, ap, subst, arith, inl, inr, mul-le-mul_left}
use Rattle.std.proofs.Math.Nat.{div-mul-le_self}
use Rattle.std.proofs.lemmas.Bool.{cases_order}
use Rattle.std.proofs.lemmas.Nat.{le-div, row_fits}
use Rattle.cb_class.specs.declared.class.Class.{Class}
use Rattle.cb_class.specs.Class.{IsClass, IsClassOf, bytes_of, largest, pages_of, slots_of, words_of}
use Rattle.cb_class.proofs.Table.{at_least_16, at_most_largest, few_pages, four_fit, places_told, sizes_grow, slots_are_few, whole_words}

pub bytes_at_least : (c : Class) → IsClass c → 16 ≤ bytes_of c
unfolding bytes_of
bytes_at_least c h = at_least_16 c.index h

pub bytes_at_most : (c : Class) → IsClass c → bytes_of c ≤ largest
unfolding bytes_of
bytes_at_most c h = at_most_largest c.index h

-- a class of greater index has greater slots
pub bytes_grow : (a b : Class) → a.index < b.index → IsClass b → bytes_of a < bytes_of b
unfolding bytes_of
bytes_grow a b h known = sizes_grow a.index b.index h known

-- a slot is whole words
pub words_fill : (c : Class) → IsClass c → words_of c * 8 ≡ bytes_of c
unfolding bytes_of words_of
words_fill c h = omega (arith, whole_words c.index h)

-- a slot has at least two words
pub words_at_least : (c : Class) → IsClass c → 2 ≤ words_of c
words_at_least c h = omega (arith, words_fill c h, bytes_at_least c h)

-- the pages of a span are 1, 2 or 4
pub pages_known : (c : Class) → IsClass c → (pages_of c ≡ 1) ⊎ ((pages_of c ≡ 2) ⊎ (pages_of c ≡ 4))
unfolding pages_of
pages_known c h = few_pages c.index h

pub pages_some : (c : Class) → IsClass c → 1 ≤ pages_of c
pages_some c h = some (pages_known c h)
  where
    some : {n : ℕ} → (n ≡ 1) ⊎ ((n ≡ 2) ⊎ (n ≡ 4)) → 1 ≤ n
    some (inl e) = omega (arith, e)
    some (inr (inl e)) = omega (arith, e)
    some (inr (inr e)) = omega (arith, e)

pub pages_few : (c : Class) → IsClass c → pages_of c ≤ 4
pages_few c h = few (pages_known c h)
  where
    few : {n : ℕ} → (n ≡ 1) ⊎ ((n ≡ 2) ⊎ (n ≡ 4)) → n ≤ 4
    few (inl e) = omega (arith, e)
    few (inr (inl e)) = omega (arith, e)
    few (inr (inr e)) = omega (arith, e)

-- the slots of a span lie within the bytes of its pages
pub slots_fit : (c : Class) → slots_of c * bytes_of c ≤ 4096 * pages_of c
unfolding slots_of
slots_fit c = div-mul-le_self (4096 * pages_of c) (bytes_of c)

-- one slot more would not
pub slots_fill : (c : Class) → IsClass c
    → 4096 * pages_of c < slots_of c * bytes_of c + bytes_of c
unfolding slots_of
slots_fill c h = behind (4096 * pages_of c) (bytes_of c) (omega (arith, bytes_at_least c h))
  where
    behind : (n d : ℕ) → 1 ≤ d → n < n / d * d + d
    behind n d some = omega (arith, some)

pub slots_at_least : (c : Class) → IsClass c → 4 ≤ slots_of c
unfolding slots_of pages_of bytes_of
slots_at_least c h =
    le-div 4 (4096 * pages_of c) (bytes_of c) (omega (arith, at_least_16 c.index h))
    (omega (arith, four_fit c.index h))

-- 256 slots fill no less than a span's pages
room_for_256 : (c : Class) → IsClass c → 16 * pages_of c ≤ bytes_of c
unfolding pages_of bytes_of
room_for_256 c h = slots_are_few c.index h

pub slots_at_most : (c : Class) → IsClass c → slots_of c ≤ 256
slots_at_most c h =
    let room : 16 * pages_of c ≤ bytes_of c = room_for_256 c h in
    let fewer = mul-le-mul_left (slots_of c) room in
    at_most (slots_of c) (pages_of c) (pages_known c h) (omega (arith, fewer, slots_fit c))
  where
    at_most : (n p : ℕ) → (p ≡ 1) ⊎ ((p ≡ 2) ⊎ (p ≡ 4)) → n * (16 * p) ≤ 4096 * p → n ≤ 256
    at_most n p (inl e) h = omega (arith, (subst (λ q. n * (16 * q) ≤ 4096 * q) e h))
    at_most n p (inr (inl e)) h = omega (arith, (subst (λ q. n * (16 * q) ≤ 4096 * q) e h))
    at_most n p (inr (inr e)) h = omega (arith, (subst (λ q. n * (16 * q) ≤ 4096 * q) e h))

-- classes of as many pages and as many slots are one, so a span's pages and the length of its slot
-- table tell its class
pub pages_and_slots_tell_class : (a b : Class) → IsClass a → IsClass b → pages_of a ≡ pages_of b
    → slots_of a ≡ slots_of b → a ≡ b
unfolding slots_of pages_of bytes_of
pages_and_slots_tell_class a b in_a in_b pages counts =
    ap (λ (i : ℕ). let c : Class = record { index = i } in c)
    (places_told a.index b.index in_a in_b pages counts)

-- the words of all slots lie within the 512 words of each of a span's pages
pub slots_in_run : (c : Class) → IsClass c → slots_of c * words_of c ≤ 512 * pages_of c
slots_in_run c h =
    let bytes : slots_of c * (words_of c * 8) ≤ 4096 * pages_of c =
    rw (words_fill c h) (slots_fit c) in
    omega (arith, bytes)

-- a slot ends within the frames of its span
pub slot_in_run : (c : Class) (slot : ℕ) → IsClass c → slot < slots_of c
    → slot * words_of c + words_of c ≤ 512 * pages_of c
slot_in_run c slot h within =
    let ends : slot * words_of c + words_of c ≤ slots_of c * words_of c =
    row_fits slot (words_of c) (slots_of c) (words_of c) within (omega arith) in
    omega (arith, slots_in_run c h, ends)

-- slots of one span do not overlap
pub slots_apart : (c : Class) (s t : ℕ) → s < t
    → s * words_of c + words_of c ≤ t * words_of c
slots_apart c s t h = row_fits s (words_of c) t (words_of c) h (omega arith)

-- an object's words fit the slots of its class
pub object_fits : (len : ℕ) (c : Class) → IsClassOf len c → (len + 7) / 8 ≤ words_of c
object_fits len c h = omega (arith, h.holds, words_fill c h.in_table)

-- a length has one class
pub IsClassOf-unique : (len : ℕ) (a b : Class) → IsClassOf len a → IsClassOf len b → a ≡ b
IsClassOf-unique len a b p q =
    elim (cases_order a.index b.index) [
      | inl same ↦ ap (λ (i : ℕ). let c : Class = record { index = i } in c) same
      | inr apart ↦ elim apart [
        | inl less ↦ absurd (omega (arith, q.least a less, p.holds))
        | inr more ↦ absurd (omega (arith, p.least b more, q.holds))
      ]
    ]
