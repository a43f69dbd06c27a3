-- The header: its text has one reading, and which configurations are accepted.
use Rattle.std.proofs.Common.{◌≡◌, ◌==◌, ℕ, ◌^◌, ◌<◌, List, [], ◌∷◌, get_or, sym, ap, ◌∙◌, subst, arith}
use Rattle.std.specs.Prelude.{codes}
use Rattle.std.specs.Fmt.{decimal}
use Rattle.std.specs.List.{join_with_byte, slice_split}
use Rattle.std.proofs.lemmas.Fmt.{decimal_injective}
use Rattle.std.proofs.lemmas.List.{append_cancel_left}
use Rattle.std.proofs.lemmas.List.Splits.{join_with_byte-slice_split}
use Rattle.cb_types.specs.Config.{IsAccepted}
use Rattle.cb_types.specs.declared.config.Config.{Config}
use Rattle.cb_types.specs.declared.config.Field.TheVariants.{K, R, Nodes, Frames, Room, Handles, Turns}
use Rattle.cb_script.specs.declared.fault.Reason.{Reason}
use Rattle.cb_script.specs.declared.fault.Reason.TheVariants as reasons
use Rattle.cb_script.specs.Spelling.{header_line, setting, header_words}
use Rattle.cb_script.specs.Numbers.{AreNumbers}
use Rattle.cb_script.specs.Reading.{HeaderFault}
use Rattle.cb_script.proofs.Words.{LacksByte, header_is_words, words_split, lacks_feed}

pub header_splits : (c : Config) → AreNumbers c → slice_split (λ b. b == 32) (header_line c) ≡ header_words c
unfolding header_line
header_splits c numbers =
    words_split (codes "carbink") (codes "1" ∷ setting (codes "k") c.k ∷ setting (codes "r") c.r ∷ setting (codes "nodes") c.nodes ∷ setting (codes "frames") c.frames ∷ setting (codes "room") c.room ∷ setting (codes "handles") c.handles ∷ setting (codes "turns") c.turns ∷ []) (header_is_words c numbers)

pub header_joins : (c : Config) (text : List ℕ) → slice_split (λ b. b == 32) text ≡ header_words c → text ≡ header_line c
unfolding header_line
header_joins c text cut = sym (join_with_byte-slice_split 32 text) ∙ ap (join_with_byte 32) cut

pub header_lacks_feed : (c : Config) → AreNumbers c → LacksByte 10 (header_line c)
unfolding header_line
header_lacks_feed c numbers = lacks_feed (header_words c) (header_is_words c numbers)

-- ---- one reading

pub setting_injective : (name : List ℕ) (m n : ℕ) → m < 10 ^ 9 → n < 10 ^ 9 → setting name m ≡ setting name n → m ≡ n
setting_injective name m n m_small n_small e =
    let behind = append_cancel_left name (61 ∷ decimal m) (61 ∷ decimal n) e in
    let digits : decimal m ≡ decimal n = cc in
    decimal_injective m n (omega arith) (omega arith) digits

config_same : (c d : Config) → c.k ≡ d.k → c.r ≡ d.r → c.nodes ≡ d.nodes → c.frames ≡ d.frames → c.room ≡ d.room → c.handles ≡ d.handles → c.turns ≡ d.turns → c ≡ d
config_same c d k r nodes frames room handles turns =
    λ i. record { k = k i; r = r i; nodes = nodes i; frames = frames i; room = room i; handles = handles i; turns = turns i }

pub config_unique : (c d : Config) → AreNumbers c → AreNumbers d → header_words c ≡ header_words d → c ≡ d
config_unique c d hc hd e =
    config_same c d
    (setting_injective (codes "k") c.k d.k hc.k hd.k (ap (λ (ws : List (List ℕ)). get_or ws 2 []) e))
    (setting_injective (codes "r") c.r d.r hc.r hd.r (ap (λ (ws : List (List ℕ)). get_or ws 3 []) e))
    (setting_injective (codes "nodes") c.nodes d.nodes hc.nodes hd.nodes (ap (λ (ws : List (List ℕ)). get_or ws 4 []) e))
    (setting_injective (codes "frames") c.frames d.frames hc.frames hd.frames (ap (λ (ws : List (List ℕ)). get_or ws 5 []) e))
    (setting_injective (codes "room") c.room d.room hc.room hd.room (ap (λ (ws : List (List ℕ)). get_or ws 6 []) e))
    (setting_injective (codes "handles") c.handles d.handles hc.handles hd.handles (ap (λ (ws : List (List ℕ)). get_or ws 7 []) e))
    (setting_injective (codes "turns") c.turns d.turns hc.turns hd.turns (ap (λ (ws : List (List ℕ)). get_or ws 8 []) e))

-- ---- accepted

pub AreNumbers-from_accepted : (c : Config) → IsAccepted c → AreNumbers c
AreNumbers-from_accepted c accepted =
    let k = accepted K in
    let r = accepted R in
    let nodes = accepted Nodes in
    let frames = accepted Frames in
    let room = accepted Room in
    let handles = accepted Handles in
    let turns = accepted Turns in
    record { k = omega arith; r = omega arith; nodes = omega arith; frames = omega arith; room = omega arith; handles = omega arith; turns = omega arith }

-- two configurations of numbers with one text are one configuration
pub config_of_line : (c d : Config) → AreNumbers c → AreNumbers d → header_line c ≡ header_line d → c ≡ d
config_of_line c d nc nd e =
    let words : header_words c ≡ header_words d = sym (header_splits c nc) ∙ ap (slice_split (λ b. b == 32)) e ∙ header_splits d nd in
    config_unique c d nc nd words

-- two accepted configurations with one text are one configuration
pub header_unique : (c d : Config) → IsAccepted c → IsAccepted d → header_line c ≡ header_line d → c ≡ d
header_unique c d hc hd e = config_of_line c d (AreNumbers-from_accepted c hc) (AreNumbers-from_accepted d hd) e

-- where a header is refused, its text is that of no accepted configuration
pub header_refused : (text : List ℕ) (reason : Reason) → HeaderFault text reason → (c : Config) → IsAccepted c → text ≡ header_line c → ⊥
header_refused text reasons.Header fault c accepted is = fault c (AreNumbers-from_accepted c accepted) is
header_refused text reasons.Config fault c accepted is =
    let same : fault.0 ≡ c = config_of_line fault.0 c fault.1 (AreNumbers-from_accepted c accepted) (sym fault.2 ∙ is) in
    fault.3 (subst IsAccepted (sym same) accepted)
header_refused text _ fault c accepted is = absurd fault
