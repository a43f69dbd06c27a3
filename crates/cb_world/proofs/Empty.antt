-- The empty world is sound.
use Rattle.std.proofs.Common.{◌≡◌, ◌≤◌, ℕ, ◌*◌, ◌<◌, true, false, List, Option, None, Some, get_or, replicate, refl, sym, ap, ◌∙◌, subst, arith, inl, inr}
use Rattle.std.proofs.lemmas.Bool.{cases_lt}
use Rattle.std.proofs.lemmas.List.{get_or-replicate, get_or_past, length-replicate}
use Rattle.std.specs.FinMap as map
use Rattle.std.specs.Ordering.{nat_cmp}
use Rattle.cb_types.specs.declared.config.Config.{Config}
use Rattle.cb_member.specs.declared.names.NodeId.{NodeId}
use Rattle.cb_member.specs.declared.names.Shard.{Shard}
use Rattle.cb_member.specs.Membership.{fresh_node}
use Rattle.cb_member.proofs.Laws.{fresh-IsMembership}
use Rattle.cb_node.specs.NodesState.{row_under}
use Rattle.cb_node.specs.Rows.{RowsByKey}
use Rattle.cb_span.specs.Contents.{Contents}
use Rattle.cb_world.specs.declared.object.Object.{Object}
use Rattle.cb_world.specs.declared.object.Object.TheVariants as is
use Rattle.cb_world.specs.Plain.{Shows}
use Rattle.cb_world.specs.Shown.{Fits, object_at, version_at, never}
use Rattle.cb_world.specs.Sets.{set_in}
use Rattle.cb_world.specs.Homes.{home_at}
use Rattle.cb_world.specs.FarState.{span_in}
use Rattle.cb_world.specs.LocalSound.{LocalSound, LiesAt, IsStamped}
use Rattle.cb_world.specs.FarSound.{FarSound, IsShardOf, Owner}
use Rattle.cb_world.specs.FarSound.Owner.{of_set, of_leaving, of_joining}
use Rattle.cb_world.specs.Sound.{Sound}
use Rattle.cb_world.specs.Now.{now, now_as, is_gone}
use Rattle.cb_world.specs.Now.Now.{never as made_never}
use Rattle.cb_world.specs.Empty.{empty_far, empty_shown, empty_words}
use Rattle.cb_world.proofs.Rooms.{room_empty}
use Rattle.cb_world.proofs.Surveying.{unsurveyed}

-- each read of a list of one value gives it
pub reads_one : {A : Type 0} (n i : ℕ) (x : A) → get_or (replicate n x) i x ≡ x
reads_one n i x = elim (cases_lt i n) [
  | inl below ↦ get_or-replicate n i x x below
  | inr past ↦ get_or_past (replicate n x) i x (omega (arith, past, length-replicate n x))
]

pub no_object : (first : ℕ) (c : Config) (h : ℕ) → object_at (empty_shown first c) h ≡ never
no_object first c h = reads_one c.handles h never

no_span : (first : ℕ) (c : Config) (f : ℕ) → span_in (empty_far first c).spans f ≡ None
no_span first c f = reads_one c.frames f None

no_home : (first : ℕ) (c : Config) (h : ℕ) → home_at (empty_far first c).homes h ≡ None
no_home first c h = reads_one c.handles h None

pub no_set : (first : ℕ) (c : Config) (id : ℕ) → set_in (empty_far first c).sets id ≡ None
no_set first c id = grind (arith, map.gets)

no_row : (first : ℕ) (c : Config) (node : NodeId) (key : ℕ) → row_under (empty_far first c).nodes node key ≡ None
no_row first c node key =
    ap (λ (rows : RowsByKey). map.get rows key) (reads_one c.nodes node.n map.empty)
    ∙ map.get-empty nat_cmp key

none_some : {A : Type 0} (o : Option A) (x : A) → o ≡ None → o ≡ Some x → ⊥
none_some o x none some = cc

lies_nowhere : (first : ℕ) (c : Config) (h len place : ℕ) → LiesAt (object_at (empty_shown first c) h) len place → ⊥
lies_nowhere first c h len place lies =
    subst (λ (o : Object). LiesAt o len place) (no_object first c h) lies

nobody : (first : ℕ) (c : Config) (o : Owner) (shard : Shard) → IsShardOf (empty_far first c) o shard → ⊥
nobody first c (of_set id p) shard (x, e, y) = none_some _ x (no_set first c id) e
nobody first c (of_leaving p) shard (x, e, y) = cc
nobody first c (of_joining p) shard (x, e, y) = cc

local : (first : ℕ) (c : Config) → 1 ≤ first → LocalSound (empty_shown first c) (empty_far first c)
local first c some = record {
  known = record {
    first = refl;
    least = some;
    bounded = omega arith;
    made = λ h below. (λ least. no_object first c h, λ e. omega arith);
    stamped = λ h. subst (λ (o : Object). IsStamped o (version_at (empty_shown first c) h))
        (sym (no_object first c h)) (reads_one c.handles h 0);
    versioned = λ h below. omega (arith, below);
  };
  frames = record {
    sized = length-replicate c.frames no_contents ∙ sym (length-replicate c.frames true);
    within = λ f span e. absurd (none_some _ span (no_span first c f) e);
    apart = λ f g a b e. absurd (none_some _ a (no_span first c f) e);
    free = λ f below. (
      λ free over. none_some _ over.1.span (no_span first c over.0) over.1.there,
      λ e. get_or-replicate c.frames f true false
          (omega (arith, below, length-replicate c.frames true)),
    );
    valid = λ f span e. absurd (none_some _ span (no_span first c f) e);
    taken = λ f span e. absurd (none_some _ span (no_span first c f) e);
  };
  placed = record {
    memory = length-replicate (512 * c.frames) 0
        ∙ ap (λ (n : ℕ). 512 * n) (sym (length-replicate c.frames no_contents));
    placed = λ h len place lies. absurd (lies_nowhere first c h len place lies);
    named = λ f slot h span e named. absurd (none_some _ span (no_span first c f) e);
  };
}
  where
    no_contents : Option Contents
    no_contents = None

far_never : (o : Object) (len v : ℕ) (words : List ℕ) → o ≡ never → o ≡ is.Far len v words → ⊥
far_never o len v words e q = cc

claimed_never : (o : Object) (len place v : ℕ) (words : List ℕ) → o ≡ never
    → o ≡ is.Claimed len place v words → ⊥
claimed_never o len place v words e q = cc

away : (first : ℕ) (c : Config) → c.nodes < 4294967296 → FarSound (empty_shown first c) (empty_far first c)
away first c few = record {
  sound = record {
    sets = record {
      shaped = λ id set e. absurd (none_some _ set (no_set first c id) e);
      worded = λ id set e. absurd (none_some _ set (no_set first c id) e);
      live = λ id p set e. absurd (none_some _ set (no_set first c id) e);
      kept = λ id set e. absurd (none_some _ set (no_set first c id) e);
      numbered = λ id set e. absurd (none_some _ set (no_set first c id) e);
    };
    away = record {
      away = λ h len v words e.
          absurd (far_never (object_at (empty_shown first c) h) len v words (no_object first c h) e);
      home = λ h home e. absurd (none_some _ home (no_home first c h) e);
      named = λ id p slot h set e named. absurd (none_some _ set (no_set first c id) e);
    };
    rows = record {
      members = fresh-IsMembership c.nodes few;
      counted = length-replicate c.nodes map.empty ∙ sym (length-replicate c.nodes fresh_node);
      room = room_empty c.nodes c.room;
      owned = λ node key row e. absurd (none_some _ row (no_row first c node key) e);
      one = λ o q a b x y same. absurd (nobody first c o a x);
      drawn = λ o a x. absurd (nobody first c o a x);
      current = λ o a x. absurd (nobody first c o a x);
    };
    batch = λ b e. absurd (cc);
  };
  join = λ pair e. absurd (cc);
  survey = unsurveyed (empty_far first c);
}

-- the empty world is sound
pub empty_sound : (first : ℕ) (c : Config) → 1 ≤ first → c.nodes < 4294967296 → Sound (empty_shown first c) (empty_far first c)
empty_sound first c some few = record {
  here = local first c some;
  noted = λ batch e. absurd (cc);
  claimed = λ h len place v words e.
      absurd (claimed_never (object_at (empty_shown first c) h) len place v words (no_object first c h) e);
  away = away first c few;
}

-- and no object was ever made
pub empty_never : (first : ℕ) (c : Config) (h : ℕ) → now (empty_shown first c) (empty_far first c) h ≡ made_never
empty_never first c h =
    ap (now_as (empty_shown first c) h (is_gone (empty_far first c) h)) (no_object first c h)

-- the words of the empty desk are as the empty world says
pub empty_shows : (first : ℕ) (c : Config) → Shows (empty_words c) (empty_shown first c)
empty_shows first c = record {
  objects = length-replicate c.handles never ∙ sym (length-replicate c.handles 0);
  versions = refl;
  hots = length-replicate c.handles false ∙ sym (length-replicate c.handles 0);
  hot = λ h below e. absurd (never_hot h e);
  memory = refl;
  fit = λ h below. subst (λ (o : Object). Fits o (get_or (replicate c.handles 0) h 0))
      (sym (no_object first c h)) (reads_one c.handles h 0);
}
  where
    never_hot : (h : ℕ) → get_or (replicate c.handles false) h false ≡ true → ⊥
    never_hot h e = let z : false ≡ true = sym (reads_one c.handles h false) ∙ e in cc
