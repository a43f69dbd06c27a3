-- An eviction that tells both counts where it is refused.
use Rattle.std.specs.Prelude.{◌≡◌, ℕ, List}
use Rattle.cb_types.specs.declared.reply.Reply.{Reply}
use Rattle.cb_types.specs.declared.reply.Reply.TheVariants as answer
use Rattle.cb_world.specs.declared.access.Access.{Access}
use Rattle.cb_world.specs.Choices.{room_count}
use Rattle.cb_world.specs.FarState.{FarState}
use Rattle.cb_evict.specs.declared.eviction.Eviction.{Eviction}
use Rattle.cb_evict.specs.declared.eviction.Eviction.TheVariants as eviction
use Rattle.cb_evict.specs.declared.eviction.Lack.TheVariants as lack
use Rattle.cb_evict.specs.EvictRule.{EvictRule}
use Rattle.cb_evict.specs.Lengths.{most_loose}

-- its reply: the set, or the number of which there is too little
abbrev pub reply_of : Eviction → Reply
reply_of (eviction.Set id) = answer.Set id
reply_of (eviction.Refused lack.Spans loose nodes) = answer.NoSpans loose
reply_of (eviction.Refused lack.Nodes loose nodes) = answer.NoNodes nodes

-- a refusal tells how many spans of one length are loose at the most and how many nodes have room
abbrev pub TellsCounts : FarState → List ℕ → Eviction → Type 0
TellsCounts far loose (eviction.Set id) = Unit {0}
TellsCounts far loose (eviction.Refused why n m) =
    (n ≡ most_loose far.spans loose) × (m ≡ room_count far.nodes far.members)

-- The rule of an eviction, by its reply; a refusal tells both counts, of the spans that were found
-- loose and of the nodes as they are.
pub record CountsRule (far new : FarState) (e : Eviction) (es : List Access) : Type 0
  where
    pub rule : EvictRule far new (reply_of e) es
    pub counts : TellsCounts far rule.loose e
