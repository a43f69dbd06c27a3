-- An object that is told as never made was only looked at.
use Rattle.std.proofs.Common.{◌≡◌, ◌≢◌, ℕ, List, [], ◌∷◌, ◌++◌, inl, inr, refl, sym, ap, ◌∙◌, arith}
use Rattle.cb_ptr.specs.declared.word.State.TheVariants as state
use Rattle.cb_ptr.specs.Word.{hot_of, pins_of}
use Rattle.cb_span.specs.declared.temp.Temp.{Temp}
use Rattle.cb_types.specs.declared.reply.Reply.{Reply}
use Rattle.cb_types.specs.declared.reply.Reply.TheVariants as answer
use Rattle.cb_world.specs.declared.access.Access.{Access}
use Rattle.cb_world.specs.declared.access.Access.TheVariants.{Looked, Told, Loaded}
use Rattle.cb_world.specs.FarState.{FarState}
use Rattle.cb_world.specs.Looks.{AreLooks}
use Rattle.cb_world.specs.Reads.{AreReads}
use Rattle.cb_world.proofs.Laws.{look_after}
use Rattle.cb_filter.specs.FilterRule.{FilterAs, FilterSeated, OnlyTell}
use Rattle.cb_filter.specs.Seats.{Seat, temp_for}

reads_tell : (h : ℕ) (es : List Access) → AreReads h es → OnlyTell es
reads_tell h [] reads = tt
reads_tell h (Told k v ∷ es) reads = reads_tell h es reads.1
reads_tell h (Loaded p x ∷ es) reads = reads_tell h es reads
reads_tell h (e ∷ es) reads = absurd reads

pub look_tells : (h w : ℕ) (before es : List Access) → AreLooks h before → AreReads h es
    → OnlyTell (look_after before h w ++ es)
look_tells h w [] es looks reads = reads_tell h es reads
look_tells h w (Looked k x ∷ before) es looks reads = look_tells h w before es looks.1 reads
look_tells h w (e ∷ before) es looks reads = absurd looks

-- whether a reply is Unmade
abbrev is_unmade : Reply → ℕ
is_unmade answer.Unmade = 1
is_unmade r = 0

other : (r q : Reply) → is_unmade q ≡ 0 → r ≡ q → r ≡ answer.Unmade → ⊥
other r q none is unmade =
    let both : 0 ≡ 1 = sym none ∙ ap is_unmade (sym is ∙ unmade) in omega (arith, both)

seated_made : (frames h : ℕ) (far new : FarState) (temp : Temp) (seat : Seat) (r : Reply)
    → FilterSeated frames far new temp h seat r → r ≢ answer.Unmade
seated_made frames h far new temp seat r (inl x) unmade = other r answer.Same refl x.reply unmade
seated_made frames h far new temp seat r (inr (inl x)) unmade =
    other r (answer.NoSlot frames) refl x.reply unmade
seated_made frames h far new temp seat r (inr (inr x)) unmade =
    other r answer.Moved refl x.1.reply unmade

-- an object that is here is not told so
pub here_made : (frames h w : ℕ) (far new : FarState) (r : Reply) (es : List Access)
    → FilterAs state.Here frames h w far new r es → r ≢ answer.Unmade
here_made frames h w far new r es (inl x) unmade = other r (answer.Pinned (pins_of w)) refl x.1 unmade
here_made frames h w far new r es (inr x) unmade =
    seated_made frames h far new (temp_for (hot_of w)) x.1.0 r x.1.2 unmade
