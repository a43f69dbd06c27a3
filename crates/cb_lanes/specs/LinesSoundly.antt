-- The lines of a script lead from world to world, and each world between them is sound.
use Rattle.std.specs.Prelude.{◌≡◌, List, [], ◌∷◌, ◌++◌, map}
use Rattle.cb_types.specs.declared.answer.Answer.{Answer}
use Rattle.cb_types.specs.Requests.{name_of}
use Rattle.cb_model.specs.Called.{handle_named}
use Rattle.cb_world.specs.World.{WorldState}
use Rattle.cb_lanes.specs.Asked.{asked}
use Rattle.cb_lanes.specs.declared.side.Side.{Side}
use Rattle.cb_lanes.specs.GivingBack.{Rests, lines_by}
use Rattle.cb_lanes.specs.LineStep.{LineStep, LinesLead}
use Rattle.cb_lanes.specs.LineTells.{LineLeaves}

-- as LinesLead; and the world after each line is sound, what is pinned stays, and a line is
-- answered Unavailable exactly where it is to be
abbrev pub LinesLeadSoundly : Side → List Answer → WorldState → List Answer → WorldState → Type 0
LinesLeadSoundly side before w [] new = new ≡ w
LinesLeadSoundly side before w (a ∷ after) new = (between : WorldState) × (rested : WorldState)
    × LineStep side a.lane.n (handle_named before (name_of a.request)) a.request w a.reply between
    × Rests (lines_by a.lane.n (map (λ later. later.lane.n) after)) a.lane.n between rested
    × LineLeaves a.lane.n (handle_named before (name_of a.request)) a.request w a.reply between
    rested
    × LinesLeadSoundly side (before ++ a ∷ []) rested after new

-- The lines have no other answers from that world, and lead to no other one.
abbrev pub AreOnlyAnswers : Side → WorldState → List Answer → WorldState → Type 0
AreOnlyAnswers side w answers new = (others : List Answer) (v : WorldState)
    → map asked others ≡ map asked answers → LinesLead side [] w others v
    → (others ≡ answers) × (v ≡ new)
