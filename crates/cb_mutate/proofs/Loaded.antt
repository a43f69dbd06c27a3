-- The words of an object are read one after the other.
use Rattle.std.proofs.Common.{◌≡◌, ◌≢◌, ◌⊎◌, ℕ, ◌+◌, ◌/◌, ◌%◌, ◌<◌, List, [], ◌∷◌, ◌++◌, length, get_or, sym, refl, ap, ◌∙◌, subst, arith, inl, inr}
use Rattle.std.proofs.lemmas.Bool.{cases_eq}
use Rattle.std.proofs.lemmas.List.{ext_get_or, get_or_append_left, length-append}
use Rattle.std.proofs.Math.Seq.{get_or-append_seam}
use Rattle.std.specs.Int.{to_le_bytes, w64}
use Rattle.cb_world.specs.declared.access.Access.{Access}
use Rattle.cb_world.specs.declared.access.Access.TheVariants.{Loaded}
use Rattle.cb_world.specs.declared.shown.Shown.{Shown}
use Rattle.cb_world.specs.Memory.{window, words_for}
use Rattle.cb_world.specs.Shown.{Covers, Owns}
use Rattle.cb_world.specs.Touches.{Touches}
use Rattle.cb_world.specs.Played.{played, Agree}
use Rattle.cb_world.specs.StillDesk.{window_length}
use Rattle.cb_world.proofs.Laws.{agree_last, touches_append, window_at}
use Rattle.cb_mutate.specs.Stores.{AreLoads}
use Rattle.cb_mutate.specs.ReadRule.{IsLoaded, AreLoaded}
use Rattle.cb_mutate.specs.Loads.{Loads}
use Rattle.cb_mutate.proofs.Filled.{AreBytesFilled, IsPutInto, filled_all, filled_more}

-- the first i words were read, and their bytes stand in the room
pub record LoadsBelow (runs : List Access → Type 0) (owns : Shown → Type 0) (place len i : ℕ)
    (room : List ℕ) : Type 0 where
  pub events : List Access
  pub ran : runs events
  pub loads : AreLoads events
  pub touches : (h : ℕ) → Touches h place len events
  pub words : List ℕ
  pub count : length words ≡ i
  pub loaded : AreLoaded place words events
  pub sized : length room ≡ len
  pub bytes : AreBytesFilled words i room
  pub contents : (s : Shown) → owns s → (k : ℕ) → k < i
      → get_or words k 0 ≡ get_or s.memory (place + k) 0

loads_more : (es : List Access) (p x : ℕ) → AreLoads es → AreLoads (es ++ Loaded p x ∷ [])
loads_more [] p x a = tt
loads_more (Loaded q y ∷ es) p x a = loads_more es p x a
loads_more (e ∷ es) p x a = absurd a

loaded_before : (es fs : List Access) (p x : ℕ) → IsLoaded p x es → IsLoaded p x (es ++ fs)
loaded_before [] fs p x a = absurd a
loaded_before (Loaded q y ∷ es) fs p x (inl a) = inl (loaded_before es fs p x a)
loaded_before (Loaded q y ∷ es) fs p x (inr a) = inr a
loaded_before (e ∷ es) fs p x a = loaded_before es fs p x a

pub loaded_last : (es : List Access) (p x : ℕ) → IsLoaded p x (es ++ Loaded p x ∷ [])
loaded_last [] p x = inr (refl, refl)
loaded_last (Loaded q y ∷ es) p x = inl (loaded_last es p x)
loaded_last (e ∷ es) p x = loaded_last es p x

pub loads_keep : (es : List Access) (s : Shown) → AreLoads es → played es s ≡ s
loads_keep [] s a = refl
loads_keep (Loaded p x ∷ es) s a = loads_keep es s a
loads_keep (e ∷ es) s a = absurd a

-- the last word that was read is that of the memory, where the reader owns it
pub loaded_agrees : (es : List Access) (s : Shown) (p x : ℕ) → AreLoads es
    → Agree s (es ++ Loaded p x ∷ []) → Owns s p → x ≡ get_or s.memory p 0
loaded_agrees es s p x loads agree owned =
    let at : played es s ≡ s = loads_keep es s loads in
    let told : Owns (played es s) p → x ≡ get_or (played es s).memory p 0 =
    (agree_last es (Loaded p x ∷ []) s agree).0 in
    subst (λ (t : Shown). Owns t p → x ≡ get_or t.memory p 0) at told owned

pub loads_none : (runs : List Access → Type 0) (owns : Shown → Type 0) (place len : ℕ)
    (room : List ℕ) → runs [] → length room ≡ len → LoadsBelow runs owns place len 0 room
loads_none runs owns place len room ran sized = record {
  events = [];
  ran = ran;
  loads = tt;
  touches = λ h. tt;
  words = [];
  count = refl;
  loaded = λ i below. absurd (omega (arith, below));
  sized = sized;
  bytes = λ p below within. absurd (omega (arith, below));
  contents = λ s o k below. absurd (omega (arith, below));
}

pub loads_one : (runs more : List Access → Type 0) (owns : Shown → Type 0) (place len i x : ℕ)
    (old new : List ℕ) → (l : LoadsBelow runs owns place len i old) → Covers place len (place + i)
    → more (l.events ++ Loaded (place + i) x ∷ []) → IsPutInto old new i x
    → ((s : Shown) → owns s → x ≡ get_or s.memory (place + i) 0)
    → LoadsBelow more owns place len (i + 1) new
loads_one runs more owns place len i x old new l covers ran put told = record {
  events = l.events ++ Loaded (place + i) x ∷ [];
  ran = ran;
  loads = loads_more l.events (place + i) x l.loads;
  touches = λ h. touches_append h place len l.events (Loaded (place + i) x ∷ []) (l.touches h)
      (covers, tt);
  words = l.words ++ x ∷ [];
  count = length-append l.words (x ∷ []) ∙ ap (λ (n : ℕ). n + 1) l.count;
  loaded = λ k below. loaded k (cases_eq k i) below;
  sized = put.sized ∙ l.sized;
  bytes = filled_more (l.words ++ x ∷ []) old new i x (sym last) put filled;
  contents = λ s o k below. contents s o k below (cases_eq k i);
}
  where
    last : get_or (l.words ++ x ∷ []) i 0 ≡ x
    last = ap (λ (n : ℕ). get_or (l.words ++ x ∷ []) n 0) (sym l.count)
        ∙ get_or-append_seam l.words x [] 0

    earlier : (k : ℕ) → k < i → get_or (l.words ++ x ∷ []) k 0 ≡ get_or l.words k 0
    earlier k below = get_or_append_left l.words (x ∷ []) 0 k (omega (arith, below, l.count))

    loaded : (k : ℕ) → (k ≡ i) ⊎ (k ≢ i) → k < length (l.words ++ x ∷ [])
        → IsLoaded (place + k) (get_or (l.words ++ x ∷ []) k 0)
        (l.events ++ Loaded (place + i) x ∷ [])
    loaded k (inl e) below = subst (λ (n : ℕ). IsLoaded (place + n) (get_or (l.words ++ x ∷ []) n 0)
        (l.events ++ Loaded (place + i) x ∷ [])) (sym e)
        (subst (λ (y : ℕ). IsLoaded (place + i) y (l.events ++ Loaded (place + i) x ∷ [])) (sym last)
        (loaded_last l.events (place + i) x))
    loaded k (inr off) below =
        let n = length-append l.words (x ∷ []) in
        let less : k < i = omega (arith, below, n, l.count, off) in
        subst (λ (y : ℕ). IsLoaded (place + k) y (l.events ++ Loaded (place + i) x ∷ []))
        (sym (earlier k less))
        (loaded_before l.events (Loaded (place + i) x ∷ []) (place + k) (get_or l.words k 0)
        (l.loaded k (omega (arith, less, l.count))))

    filled : AreBytesFilled (l.words ++ x ∷ []) i old
    filled p below within = l.bytes p below within
        ∙ ap (λ (w : ℕ). get_or (to_le_bytes w64 w) (p % 8) 0)
        (sym (earlier (p / 8) (omega (arith, below))))

    contents : (s : Shown) → owns s → (k : ℕ) → k < i + 1 → (k ≡ i) ⊎ (k ≢ i)
        → get_or (l.words ++ x ∷ []) k 0 ≡ get_or s.memory (place + k) 0
    contents s o k below (inl e) = ap (λ (n : ℕ). get_or (l.words ++ x ∷ []) n 0) e ∙ last
        ∙ told s o ∙ ap (λ (n : ℕ). get_or s.memory (place + n) 0) (sym e)
    contents s o k below (inr off) = let less : k < i = omega (arith, below, off) in
        earlier k less ∙ l.contents s o k less

-- all words of the object were read
pub loads_all : (runs : List Access → Type 0) (owns : Shown → Type 0) (place len i : ℕ)
    (room : List ℕ) → i ≡ words_for len → LoadsBelow runs owns place len i room
    → Loads runs owns place len room
loads_all runs owns place len i room same l = record {
  events = l.events;
  ran = l.ran;
  loads = l.loads;
  touches = l.touches;
  words = l.words;
  count = l.count ∙ same;
  loaded = l.loaded;
  bytes = filled_all l.words room len i l.sized (omega (arith, same)) l.bytes;
  contents = λ s o. ext_get_or 0 l.words (window s.memory place (words_for len))
      (l.count ∙ same ∙ sym (window_length s.memory place (words_for len)))
      (λ k below. l.contents s o k (omega (arith, below, l.count))
      ∙ sym (window_at s.memory place (words_for len) k (omega (arith, below, l.count, same))));
}
