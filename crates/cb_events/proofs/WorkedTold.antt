-- Worked examples of what is told of bytes, and with one part broken.
use Rattle.std.proofs.Common.{◌≡◌, ℕ, List, [], ◌∷◌, ◌++◌, length, refl, ap, sym, subst, lit≤, arith}
use Rattle.std.specs.Prelude.{codes}
use Rattle.std.specs.List.{flat_map}
use Rattle.std.specs.Fmt.{digits}
use Rattle.cb_types.specs.Config.{IsAccepted}
use Rattle.cb_types.specs.declared.config.Field.TheVariants.{K, R, Nodes, Frames, Room, Handles, Turns}
use Rattle.cb_types.specs.declared.reply.Reply.{Reply}
use Rattle.cb_world.specs.World.{empty_world}
use Rattle.cb_types.specs.declared.job.Job.TheVariants.{Merge}
use Rattle.cb_core.specs.declared.event.Event.{Event}
use Rattle.cb_core.specs.declared.event.Event.TheVariants as event
use Rattle.cb_events.specs.Listing.{AreListed, IsListed}
use Rattle.cb_events.specs.Told.{IsTextTold, refused, answered, TellsReplies, no_config, rest_line, told_line}
use Rattle.cb_events.proofs.WorkedListing.{few, header, merge, merges, rest}

accepted : IsAccepted few
accepted K = (lit≤ tt, lit≤ tt)
accepted R = (lit≤ tt, lit≤ tt)
accepted Nodes = (lit≤ tt, lit≤ tt)
accepted Frames = (lit≤ tt, lit≤ tt)
accepted Room = (lit≤ tt, lit≤ tt)
accepted Handles = (lit≤ tt, lit≤ tt)
accepted Turns = lit≤ tt

-- where nothing is listed, nothing is told but that nothing is left
nothing_listed : TellsReplies few [] (codes "rest 0\n")
unfolding digits
nothing_listed = record {
  events = [];
  rest = [];
  replies = [];
  listed = refl;
  all = λ e is. omega (arith, is.whole);
  leads = (empty_world few, refl);
  told = refl;
}

nothing_told : IsTextTold header (codes "rest 0\n")
nothing_told = answered (lit≤ tt) accepted nothing_listed

-- an event that stands at the front can't be left out
left_out : (text : List ℕ) (tells : TellsReplies few (merge ++ rest) text) → tells.events ≡ [] → ⊥
left_out text tells none =
    let is : AreListed few (merge ++ rest) [] tells.rest =
    subst (λ (events : List Event). AreListed few (merge ++ rest) events tells.rest) none
    tells.listed in
    tells.all (event.Turn 0 Merge)
    (subst (λ (bytes : List ℕ). IsListed few bytes (event.Turn 0 Merge)) (sym is) merges)

-- bytes without a configuration are refused, and no others
too_few : IsTextTold (2 ∷ 0 ∷ []) no_config
too_few = refused (λ long is. omega (arith, long)) refl

abbrev front : List ℕ → ℕ
front [] = 0
front (byte ∷ bytes) = byte

no_refusal : (replies : List Reply) (n : ℕ)
    → no_config ≡ flat_map told_line replies ++ rest_line n → ⊥
no_refusal [] n e = let first : 110 ≡ 114 = ap front e in omega (arith, first)
no_refusal (r ∷ replies) n e = let first : 110 ≡ 114 = ap front e in omega (arith, first)

never_refused : IsTextTold header no_config → ⊥
never_refused (refused never text) = never (lit≤ tt) accepted
never_refused (answered long is tells) = no_refusal tells.replies (length tells.rest) tells.told
