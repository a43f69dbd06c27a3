-- What a list of words is as a header.
use Rattle.std.proofs.Common.{◌≡◌, ℕ, ◌^◌, ◌<◌, List, [], ◌∷◌, length, get_or, refl, sym, ap, ◌∙◌, arith, Bor}
use Rattle.std.specs.Prelude.{codes}
use Rattle.std.proofs.lemmas.List.{get_or-map, length-map}
use Rattle.cb_types.specs.declared.config.Config.{Config}
use Rattle.cb_script.specs.declared.header.CodeSizes.{CodeSizes}
use Rattle.cb_script.specs.declared.header.HeldSizes.{HeldSizes}
use Rattle.cb_script.specs.Cut.{texts}
use Rattle.cb_script.specs.Spelling.{setting, header_words}
use Rattle.cb_script.specs.Numbers.{AreNumbers}

-- the bytes of the word at a place, as code reads it
abbrev pub text_at : List (Bor (List ℕ)) → ℕ → List ℕ
text_at words i = (get_or words i (record { ref_ptr = (0, 0); now = [] })).now

pub text_at_is : (words : List (Bor (List ℕ))) (i : ℕ) → i < length words → get_or (texts words) i [] ≡ text_at words i
text_at_is words i within = get_or-map (λ (word : Bor (List ℕ)). word.now) words i (record { ref_ptr = (0, 0); now = [] }) [] within

-- the word of a header at a place is the setting of its name
header_sets : (words : List (Bor (List ℕ))) (i : ℕ) (name : List ℕ) (field : Config → ℕ) → ((c : Config) → get_or (header_words c) i [] ≡ setting name (field c))
    → i < length words → (c : Config) → texts words ≡ header_words c → text_at words i ≡ setting name (field c)
header_sets words i name field is within c e =
    sym (text_at_is words i within) ∙ ap (λ (ws : List (List ℕ)). get_or ws i []) e ∙ is c

-- no header has these words, where those of the code's sizes set none
pub code_lacks : (words : List (Bor (List ℕ))) → length words ≡ 9
    → ((s : CodeSizes) → ((s.k < 10 ^ 9) × (text_at words 2 ≡ setting (codes "k") s.k))
    × ((s.r < 10 ^ 9) × (text_at words 3 ≡ setting (codes "r") s.r))
    × ((s.nodes < 10 ^ 9) × (text_at words 4 ≡ setting (codes "nodes") s.nodes)) → ⊥)
    → (c : Config) → AreNumbers c × (texts words ≡ header_words c) → ⊥
code_lacks words nine none c header =
    none (record { k = c.k; r = c.r; nodes = c.nodes }) (
      (header.0.k, header_sets words 2 (codes "k") (λ config. config.k) (λ config. refl) (omega (arith, nine)) c header.1),
      (header.0.r, header_sets words 3 (codes "r") (λ config. config.r) (λ config. refl) (omega (arith, nine)) c header.1),
      (header.0.nodes, header_sets words 4 (codes "nodes") (λ config. config.nodes) (λ config. refl) (omega (arith, nine)) c header.1),
    )

-- no header has these words, where those of the other sizes set none
pub held_lacks : (words : List (Bor (List ℕ))) → length words ≡ 9
    → ((s : HeldSizes) → ((s.frames < 10 ^ 9) × (text_at words 5 ≡ setting (codes "frames") s.frames))
    × ((s.room < 10 ^ 9) × (text_at words 6 ≡ setting (codes "room") s.room))
    × ((s.handles < 10 ^ 9) × (text_at words 7 ≡ setting (codes "handles") s.handles))
    × ((s.turns < 10 ^ 9) × (text_at words 8 ≡ setting (codes "turns") s.turns)) → ⊥)
    → (c : Config) → AreNumbers c × (texts words ≡ header_words c) → ⊥
held_lacks words nine none c header =
    none (record { frames = c.frames; room = c.room; handles = c.handles; turns = c.turns }) (
      (header.0.frames, header_sets words 5 (codes "frames") (λ config. config.frames) (λ config. refl) (omega (arith, nine)) c header.1),
      (header.0.room, header_sets words 6 (codes "room") (λ config. config.room) (λ config. refl) (omega (arith, nine)) c header.1),
      (header.0.handles, header_sets words 7 (codes "handles") (λ config. config.handles) (λ config. refl) (omega (arith, nine)) c header.1),
      (header.0.turns, header_sets words 8 (codes "turns") (λ config. config.turns) (λ config. refl) (omega (arith, nine)) c header.1),
    )

nine_words : (ws : List (List ℕ)) → length ws ≡ 9
    → ws ≡ get_or ws 0 [] ∷ get_or ws 1 [] ∷ get_or ws 2 [] ∷ get_or ws 3 [] ∷ get_or ws 4 [] ∷ get_or ws 5 [] ∷ get_or ws 6 [] ∷ get_or ws 7 [] ∷ get_or ws 8 [] ∷ []
nine_words (a ∷ b ∷ c ∷ d ∷ e ∷ f ∷ g ∷ h ∷ i ∷ []) nine = refl
nine_words _ nine = absurd (omega arith)

-- what the words of a header are, each read by itself
pub record ReadsHeader (words : List (Bor (List ℕ))) (c : Config) : Type 0 where
  pub nine : length words ≡ 9
  pub carbink : text_at words 0 ≡ codes "carbink"
  pub version : text_at words 1 ≡ codes "1"
  pub k : text_at words 2 ≡ setting (codes "k") c.k
  pub r : text_at words 3 ≡ setting (codes "r") c.r
  pub nodes : text_at words 4 ≡ setting (codes "nodes") c.nodes
  pub frames : text_at words 5 ≡ setting (codes "frames") c.frames
  pub room : text_at words 6 ≡ setting (codes "room") c.room
  pub handles : text_at words 7 ≡ setting (codes "handles") c.handles
  pub turns : text_at words 8 ≡ setting (codes "turns") c.turns

pub header_read : (words : List (Bor (List ℕ))) (c : Config) → ReadsHeader words c → texts words ≡ header_words c
header_read words c read =
    let at : (i : ℕ) → i < 9 → get_or (texts words) i [] ≡ text_at words i = λ i below. text_at_is words i (omega (arith, read.nine)) in
    let e0 = at 0 (omega arith) ∙ read.carbink in
    let e1 = at 1 (omega arith) ∙ read.version in
    let e2 = at 2 (omega arith) ∙ read.k in
    let e3 = at 3 (omega arith) ∙ read.r in
    let e4 = at 4 (omega arith) ∙ read.nodes in
    let e5 = at 5 (omega arith) ∙ read.frames in
    let e6 = at 6 (omega arith) ∙ read.room in
    let e7 = at 7 (omega arith) ∙ read.handles in
    let e8 = at 8 (omega arith) ∙ read.turns in
    nine_words (texts words) (length-map words (λ (word : Bor (List ℕ)). word.now) ∙ read.nine) ∙ rw (e0, e1, e2, e3, e4, e5, e6, e7, e8) refl
