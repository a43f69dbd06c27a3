-- Worked examples of claims: what meets each definition, and what breaks one part.
use Rattle.std.proofs.Common.{◌≡◌, ℕ, ◌+◌, false, List, [], ◌∷◌, length, get_or, refl, ap, lit<}
use Rattle.std.proofs.Common.{lit≤, arith}
use Rattle.std.proofs.lemmas.Bool.{eqb-false}
use Rattle.cb_ptr.specs.declared.word.State.TheVariants as word
use Rattle.cb_world.specs.declared.entry.Entry.{Entry}
use Rattle.cb_world.specs.declared.access.Access.TheVariants.{Claimed}
use Rattle.cb_world.specs.declared.object.Object.{Object}
use Rattle.cb_world.specs.declared.object.Object.TheVariants as is
use Rattle.cb_world.specs.declared.shown.Shown.{Shown}
use Rattle.cb_world.specs.Memory.{window}
use Rattle.cb_world.specs.Shown.{never}
use Rattle.cb_world.specs.Written.{entry}
use Rattle.cb_rule.specs.declared.view.Held.{Held}
use Rattle.cb_rule.specs.declared.view.View.{View}
use Rattle.cb_rule.specs.History.{Value, WasNow, holding_words}
use Rattle.cb_rule.specs.Records.{HeldOk, OldOk, TellsOk}
use Rattle.cb_rule.specs.Steps.{blank, version_seen, with_back, with_claim, with_claim_word}
use Rattle.cb_rule.specs.Steps.{with_held, with_stamp, with_version}
use Rattle.cb_rule.proofs.WorkedStands.{here, moving, table, two}

-- object 1 was made with 5 and written with 7, and lies at place 0
abbrev pub made : Entry
made = entry 1 1 8 [] (5 ∷ [])

abbrev pub written : Entry
written = entry 1 2 8 (5 ∷ []) (7 ∷ [])

abbrev pub past : List Entry
past = written ∷ made ∷ []

abbrev pub known : Shown
known = record {
  first = 1;
  objects = never ∷ is.Here 8 0 ∷ [];
  hots = false ∷ false ∷ [];
  versions = 0 ∷ 1 ∷ [];
  memory = 0 ∷ [];
}

-- a claim under which the version word and the memory word were stored
abbrev pub claim : Held
claim = record {
  handle = 1;
  len = 8;
  place = 0;
  word = here;
  version = 2;
  old = 7 ∷ [];
  stamp = 3;
  memory = 9 ∷ [];
}

abbrev len_in : Object → ℕ
len_in (is.Empty v) = 0
len_in (is.Far n v words) = n
len_in (is.Here n place) = n
len_in (is.Claimed n place v words) = n

held : HeldOk two (table moving 3 9) known past claim
unfolding window
held = record {
  below = lit< tt;
  there = refl;
  number = refl;
  contents = refl;
  stamped = refl;
  laid = refl;
  taken = refl;
  risen = lit≤ tt;
}

-- a handle that the table does not have
not_below : HeldOk (record two { handles = 1 }) (0 ∷ 0 ∷ moving ∷ 3 ∷ []) known past
    (record claim { memory = 3 ∷ [] }) → ⊥
not_below k = let e = k.below in omega arith

not_there : HeldOk two (table moving 3 9) (record known { objects = never ∷ is.Here 16 0 ∷ [] })
    past claim → ⊥
not_there k = eqb-false 16 8 refl (ap len_in k.there)

not_number : HeldOk two (table moving 3 9) known past (record claim { version = 1 }) → ⊥
not_number k = eqb-false 1 2 refl (k.number)

not_old : HeldOk two (table moving 3 9) known past (record claim { old = 5 ∷ [] }) → ⊥
not_old k = eqb-false 7 5 refl (ap (λ (v : Value). get_or v.words 0 0) k.contents)

not_stamp : HeldOk two (table moving 3 9) known past (record claim { stamp = 2 }) → ⊥
not_stamp k = eqb-false 3 2 refl (k.stamped)

not_memory : HeldOk two (table moving 3 9) known past (record claim { memory = 7 ∷ [] }) → ⊥
unfolding window
not_memory k = eqb-false 9 7 refl (ap (λ (xs : List ℕ). get_or xs 0 0) k.laid)

not_word : HeldOk two (table moving 3 9) known past (record claim { word = moving }) → ⊥
not_word k = eqb-false moving (moving + 1) refl (k.taken)

-- a version word below the last version
not_risen : HeldOk two (table moving 1 9) known past (record claim { stamp = 1 }) → ⊥
not_risen k = let e = k.risen in omega arith

-- ---- what a claim told within a turn was the newest entry at some time of the turn
now : WasNow past 1 2 1 2 (holding_words 8 (7 ∷ []))
now = record {
  newer = [];
  older = past;
  parts = refl;
  low = lit≤ tt;
  high = lit≤ tt;
  last = refl;
  has = refl;
}

told : TellsOk 1 past 1 2 (Claimed 1 here 2 (7 ∷ []))
told = (lit≤ tt, now, refl)

-- and also the one before it, where the turn began no later
told_before : TellsOk 1 past 1 2 (Claimed 1 here 1 (5 ∷ []))
told_before = (
  lit≤ tt,
  record {
    newer = written ∷ [];
    older = made ∷ [];
    parts = refl;
    low = lit≤ tt;
    high = lit≤ tt;
    last = refl;
    has = refl;
  },
  refl,
)

-- no object is claimed that is moving
not_moving : TellsOk 1 past 1 2 (Claimed 1 moving 2 (7 ∷ [])) → ⊥
not_moving k = moving_here k.2
  where
    moving_here : word.Moving ≡ word.Here → ⊥
    moving_here e = absurd cc

not_unborn : TellsOk 3 past 1 2 (Claimed 1 here 2 (7 ∷ [])) → ⊥
not_unborn k = let e = k.0 in omega arith

-- what was known when a turn began
began : OldOk 1 past 2 0 never
began = record {
  newer = [];
  older = past;
  parts = refl;
  low = lit≤ tt;
  high = lit≤ tt;
  last = refl;
  has = refl;
}

-- ---- the views: a claim, two stores, and the entry that it leaves
abbrev seat : View
seat = record (blank two) { share = 64; written = past }

abbrev after_stores : View
after_stores = with_held 1 (with_stamp 3) (with_held 1 (with_claim_word 0 9)
    (with_claim 1 here 2 (7 ∷ []) seat))

holds_claim : after_stores.claims ≡ claim ∷ []
holds_claim = refl

looked : length after_stores.looks ≡ 1
looked = refl

entered : (with_version claim after_stores).written ≡ entry 1 3 8 (7 ∷ []) (9 ∷ []) ∷ past
entered = refl

gone : (with_version claim after_stores).claims ≡ []
gone = refl

-- put back: nothing is written, and what was claimed is read
back : (with_back claim after_stores).written ≡ past
back = refl

back_unclaimed : (with_back claim after_stores).claims ≡ []
back_unclaimed = refl

back_read : (with_back claim after_stores).seen ≡ version_seen 1 2 8 (7 ∷ []) ∷ []
back_read = refl
