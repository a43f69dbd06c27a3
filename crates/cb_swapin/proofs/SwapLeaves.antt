-- What bringing a position in, a fetch and a landing leave of the words of sets.
use Rattle.std.proofs.Common.{◌≡◌, ℕ, List, Option, refl, sym, ap, subst}
use Rattle.cb_set.specs.SetState.{SetState, dead_position}
use Rattle.cb_types.specs.declared.order.Kept.{Kept}
use Rattle.cb_types.specs.declared.reply.Reply.{Reply}
use Rattle.cb_types.specs.declared.reply.Reply.TheVariants as answer
use Rattle.cb_world.specs.declared.access.Access.{Access}
use Rattle.cb_world.specs.declared.shown.Shown.{Shown}
use Rattle.cb_world.specs.FarState.{FarState}
use Rattle.cb_world.specs.Orders.{LeavesWords}
use Rattle.cb_world.specs.Sound.{Sound}
use Rattle.cb_world.proofs.Laws.{alike_leaves_words, left_leaves_words, words_stay}
use Rattle.cb_swapin.specs.declared.fetching.Fetching.{Fetching}
use Rattle.cb_swapin.specs.Fetching.{far_given}
use Rattle.cb_swapin.specs.FetchStep.{FetchStep}
use Rattle.cb_swapin.specs.LandRule.{LandRule}
use Rattle.cb_swapin.specs.SwapRule.{BringsFar, BringsRule}
use Rattle.cb_swapin.proofs.FetchKeeps.{fetch_gives}
use Rattle.cb_swapin.proofs.LandKeeps.{land_rule_cases}

-- nothing of the far state changed
same_leaves : (far new : FarState) → new ≡ far → LeavesWords far new
same_leaves far new e = subst (LeavesWords far) (sym e) (words_stay far)

-- rows were given out, and nothing else changed: also where there was no memory
pub given_leaves_words : (far new : FarState) (n : ℕ) → new ≡ far_given far n → LeavesWords far new
given_leaves_words far new n e = subst (LeavesWords far) (sym e)
    (alike_leaves_words far (far_given far n) refl refl refl refl (λ id p shard is. refl))

-- a position was brought in, or that was refused
pub swap_leaves_words : {rows : SetState → ℕ} (s : Shown) (id p : ℕ) (far new : FarState) (r : Reply)
    (es : List Access) → Sound s far → BringsRule rows id p far new r es → LeavesWords far new
swap_leaves_words {rows = rows} s id p far new r es sound x = by r x.state
  where
    by : (q : Reply) → BringsFar (rows x.set) far new id p x.set es q → LeavesWords far new
    by (answer.Swapped f) z = let y = z.0 in
        left_leaves_words s far new id p (rows x.set) x.set dead_position sound.away.sound x.there
        y.sets y.nodes (ap (λ (q : FarState). q.members) y.rest)
        (ap (λ (q : FarState). q.leaving) y.rest) (ap (λ (q : FarState). q.counts.sets) y.rest)
    by q z = same_leaves far new z.0

pub land_leaves_words : (s : Shown) (order : Option Kept) (far new : FarState) (r : Reply)
    (es : List Access) → Sound s far → LandRule order far new r es → LeavesWords far new
land_leaves_words s order far new r es sound z =
    land_rule_cases (LeavesWords far new) order far new r es z (same_leaves far new)
    (λ id p brings. swap_leaves_words s id p far new r es sound brings)

pub fetch_leaves_words : (s : Shown) (id p : ℕ) (far new : FarState) (g : Fetching) → Sound s far
    → FetchStep id p far new g → LeavesWords far new
fetch_leaves_words s id p far new g sound x = let e = fetch_gives s id p far new g sound x in
    given_leaves_words far new e.0 e.2
