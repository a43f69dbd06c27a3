-- The laws of a desk whose caller keeps what is known, on plain data.
use Rattle.std.proofs.Common.{◌≡◌, ◌*◌, List, [], ◌∷◌, ◌++◌, length, sym, refl, ap, ◌∙◌, subst, length-set}
use Rattle.cb_types.specs.declared.config.Config.{Config}
use Rattle.cb_ptr.specs.Word.{state_of, hot_of, len_of, place_of}
use Rattle.cb_world.specs.declared.object.Object.TheVariants as is
use Rattle.cb_world.specs.declared.access.Access.{Access}
use Rattle.cb_world.specs.declared.access.Access.TheVariants.{Looked, Claimed, Told, Loaded, Stored, Stamped, Settled}
use Rattle.cb_world.specs.declared.shown.Shown.{Shown}
use Rattle.cb_world.specs.Played.{Agree, after, played, settled_by}
use Rattle.cb_world.specs.Shown.{version_at, object_at}
use Rattle.cb_world.proofs.Windows.{length_put}
use Rattle.cb_world.proofs.Tracing.{played_append}

-- a seat: the configuration, and what it knows
record SecondSeat : Type 0 where
  pub settings : Config
  pub known : Shown

record AreSized (c : Config) (s : Shown) : Type 0 where
  pub objects : length s.objects ≡ c.handles
  pub hots : length s.hots ≡ c.handles
  pub versions : length s.versions ≡ c.handles
  pub memory : length s.memory ≡ 512 * c.frames

abbrev Runs : SecondSeat → List Access → SecondSeat → Type 0
Runs d es e = (e.settings ≡ d.settings) × (e.known ≡ played es d.known) × Agree d.known es

abbrev Tells : SecondSeat → Shown → Type 0
Tells d s = (s ≡ d.known) × AreSized d.settings s

agree_more : (es fs : List Access) (s : Shown) → Agree s es → Agree (played es s) fs
    → Agree s (es ++ fs)
agree_more [] fs s a b = b
agree_more (e ∷ es) fs s a b = (a.0, agree_more es fs (after e s) a.1 b)

sized_after : (c : Config) (e : Access) (s : Shown) → AreSized c s → AreSized c (after e s)
sized_after c (Looked h w) s z =
    record {
      objects = z.objects;
      hots = length-set s.hots h (hot_of w) ∙ z.hots;
      versions =
          z.versions;
      memory = z.memory;
    }
sized_after c (Claimed h w v words) s z = record {
  objects = length-set s.objects h (is.Claimed (len_of w) (place_of w) v words) ∙ z.objects;
  hots = length-set s.hots h (hot_of w) ∙ z.hots;
  versions = length-set s.versions h v ∙ z.versions;
  memory = length_put s.memory (place_of w) words ∙ z.memory;
}
sized_after c (Told h v) s z = z
sized_after c (Loaded p x) s z = z
sized_after c (Stored p x) s z =
    record {
      objects = z.objects;
      hots = z.hots;
      versions = z.versions;
      memory =
          length-set s.memory p x ∙ z.memory;
    }
sized_after c (Stamped h v) s z =
    record {
      objects = z.objects;
      hots = z.hots;
      versions = length-set s.versions h v
          ∙ z.versions;
      memory = z.memory;
    }
sized_after c (Settled h w) s z =
    record {
      objects =
          length-set s.objects h (settled_by (state_of w) w (version_at s h) (object_at s h))
          ∙ z.objects;
      hots = length-set s.hots h (hot_of w) ∙ z.hots;
      versions = z.versions;
      memory =
          z.memory;
    }

sized_played : (c : Config) (es : List Access) (s : Shown) → AreSized c s → AreSized c (played es s)
sized_played c [] s z = z
sized_played c (e ∷ es) s z = sized_played c es (after e s) (sized_after c e s z)

seat_none : (d : SecondSeat) → Runs d [] d
seat_none d = (refl, refl, tt)

seat_more : (d e f : SecondSeat) (es fs : List Access) → Runs d es e → Runs e fs f
    → Runs d (es ++ fs) f
seat_more d e f es fs a b = (
  b.0 ∙ a.0,
  b.1 ∙ ap (played fs) a.1
      ∙ sym (played_append es fs d.known),
  agree_more es fs d.known a.2 (subst (λ (s : Shown). Agree s fs) a.1 b.2),
)

seat_follows : (d e : SecondSeat) (es : List Access) (s : Shown) → Runs d es e → Tells d s
    → Agree s es
    × Tells e (played es s)
seat_follows d e es s a b = (
  subst (λ (t : Shown). Agree t es) (sym b.0) a.2,
  (
    ap (played es) b.0
        ∙ sym a.1,
    subst (λ (c : Config).
        AreSized c (played es s)) (sym a.0) (sized_played d.settings es s b.1),
  ),
)
