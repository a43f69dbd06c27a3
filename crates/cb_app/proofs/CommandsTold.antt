-- What commands on one array and one map were told, once their runtime is closed.
use Rattle.std.proofs.Common.{◌≡◌, ◌⊎◌, ℕ, ◌+◌, ◌<◌, ◌≤◌, true, if◌then◌else◌, List, [], ◌∷◌, ◌++◌, length, length-append, sym, ap, ◌∙◌, subst, inl, inr, refl, arith}
use Rattle.cb_types.specs.Config.{IsAccepted}
use Rattle.cb_types.specs.declared.config.Config.{Config}
use Rattle.cb_world.specs.declared.entry.Entry.{Entry}
use Rattle.cb_world.specs.World.{WorldState}
use Rattle.cb_rule.specs.declared.turn.Turn.{Turn}
use Rattle.cb_rule.specs.declared.view.View.{View}
use Rattle.cb_rule.specs.Closing.{IsClosed}
use Rattle.cb_rule.specs.Lists.{Each, Has}
use Rattle.cb_rule.specs.Steps.{opener}
use Rattle.cb_map_text.specs.Plain.{Plain, after_all, after_said, fresh, needs_object, objects, plain_after, plain_said}
use Rattle.cb_map_text.specs.Tallied.{IsTallied}
use Rattle.cb_map_text.proofs.PublicLaws.{fresh_tallied, none_made, one_where_needed, stays_tallied}
use Rattle.cb_map_text.specs.declared.command.FarAnswer.{FarAnswer}
use Rattle.cb_map_text.specs.declared.command.FarAnswer.TheVariants.{Done, Number, Nothing, Outside, Refused}
use Rattle.cb_map_text.specs.declared.command.FarCommand.{FarCommand}
use Rattle.cb_shared.specs.Turning.{Did}
use Rattle.cb_farmap.specs.declared.array.FarArray.{FarArray}
use Rattle.cb_farmap.specs.declared.map.FarMap.{FarMap}
use Rattle.cb_farmap.specs.Arrays.{no_array}
use Rattle.cb_farmap.specs.Commands.{CommandGoes, CommandsGo, HasOneHistory, HaveGone, IsSaid, made_by_all}
use Rattle.cb_farmap.specs.Maps.{no_map}
use Rattle.cb_app.specs.Mapped.{AreTold, IsTold}
use Rattle.cb_app.proofs.Causes.{IsForObject, WroteAll, all_alike, for_more, refused_so}
use Rattle.cb_app.proofs.MadeTurns.{all_made, few_made}
use Rattle.cb_app.proofs.TurnsLater.{has_behind}

-- ---- what a record keeps of the one before
pub record Within (v w : View) : Type 0 where
  pub turns : (t : Turn) → Has t v.turns → Has t w.turns
  pub wrote : WroteAll v w

within_same : (v w : View) → w ≡ v → Within v w
within_same v w same = record {
  turns = λ t there. subst (λ (x : View). Has t x.turns) (sym same) there;
  wrote = λ e there. subst (λ (x : View). Has e x.written) (sym same) there;
}

within_both : (u v w : View) → Within u v → Within v w → Within u w
within_both u v w a b = record {
  turns = λ t there. b.turns t (a.turns t there);
  wrote = λ e there. b.wrote e (a.wrote e there);
}

each_has : {A : Type 0} (P : A → Type 0) (xs : List A) → Each P xs → (x : A) → Has x xs → P x
each_has P [] each x there = absurd there
each_has P (y ∷ xs) each x (inl is) = subst P is each.0
each_has P (y ∷ xs) each x (inr there) = each_has P xs each.1 x there

split_has : {A : Type 0} (x : A) (xs ys : List A) → Has x (xs ++ ys) → Has x xs ⊎ Has x ys
split_has x [] ys there = inr there
split_has x (y ∷ xs) ys (inl is) = inl (inl is)
split_has x (y ∷ xs) ys (inr there) = by (split_has x xs ys there)
  where
    by : Has x xs ⊎ Has x ys → Has x (y ∷ xs) ⊎ Has x ys
    by (inl a) = inl (inr a)
    by (inr b) = inr b

-- each turn of the record is for an object
abbrev pub AllForObjects : View → Type 0
AllForObjects v = (t : Turn) → Has t v.turns → IsForObject v t.job

module _ (c : Config) (s : Plain) (ask : FarCommand) (said : FarAnswer) (v w : View)
    (a b : FarArray) (m o : FarMap) (goes : CommandGoes c 1 s ask said v a m w b o) where
  goes_within : Within v w
  goes_within = record {
    turns = λ t there. let e = goes.turned in rw e (has_behind t goes.more v.turns there);
    wrote = λ x there. let e = goes.wrote in rw e (has_behind x goes.entries v.written there);
  }

  goes_for : AllForObjects v → AllForObjects w
  goes_for all t there = by (split_has t goes.more v.turns (let e = sym goes.turned in rw e there))
    where
      by : Has t goes.more ⊎ Has t v.turns → IsForObject w t.job
      by (inl new) = each_has (λ (t : Turn). IsForObject w t.job) goes.more goes.jobs_are t new
      by (inr old) = for_more v w goes_within.wrote t.job (all t old)

  goes_few : length w.written ≤ length v.written + 1
  goes_few = let e = ap (λ (es : List Entry). length es) goes.wrote in
      let both = length-append goes.entries v.written in let one = goes.few in
      omega (arith, e, both, one)

all_within : (c : Config) (s : Plain) (v w : View) (a b : FarArray) (m o : FarMap)
    (asks : List FarCommand) (saids : List FarAnswer) → CommandsGo c 1 s v a m asks saids w b o
    → Within v w
all_within c s v w a b m o [] [] go = within_same v w go.0
all_within c s v w a b m o [] (said ∷ saids) go = absurd go
all_within c s v w a b m o (ask ∷ asks) [] go = absurd go
all_within c s v w a b m o (ask ∷ asks) (said ∷ saids) (u, d, e, goes, rest) = within_both v u w
    (goes_within c s ask said v u a d m e goes)
    (all_within c (after_said s ask said) u w d b e o asks saids rest)

all_for : (c : Config) (s : Plain) (v w : View) (a b : FarArray) (m o : FarMap)
    (asks : List FarCommand) (saids : List FarAnswer) → CommandsGo c 1 s v a m asks saids w b o
    → AllForObjects v → AllForObjects w
all_for c s v w a b m o [] [] go all = subst AllForObjects (sym go.0) all
all_for c s v w a b m o [] (said ∷ saids) go all = absurd go
all_for c s v w a b m o (ask ∷ asks) [] go all = absurd go
all_for c s v w a b m o (ask ∷ asks) (said ∷ saids) (u, d, e, goes, rest) all =
    all_for c (after_said s ask said) u w d b e o asks saids rest
    (goes_for c s ask said v u a d m e goes all)

all_few : (c : Config) (s : Plain) (v w : View) (a b : FarArray) (m o : FarMap)
    (asks : List FarCommand) (saids : List FarAnswer) → CommandsGo c 1 s v a m asks saids w b o
    → length w.written ≤ length v.written + length asks
all_few c s v w a b m o [] [] go = let e = ap (λ (x : View). length x.written) go.0 in omega (arith, e)
all_few c s v w a b m o [] (said ∷ saids) go = absurd go
all_few c s v w a b m o (ask ∷ asks) [] go = absurd go
all_few c s v w a b m o (ask ∷ asks) (said ∷ saids) (u, d, e, goes, rest) =
    let one = goes_few c s ask said v u a d m e goes in
    let later = all_few c (after_said s ask said) u w d b e o asks saids rest in
    omega (arith, one, later)

-- the turns of the last record made as many objects as the list and the map need at their fullest
all_objects : (c : Config) (s : Plain) (v w : View) (a b : FarArray) (m o : FarMap)
    (asks : List FarCommand) (saids : List FarAnswer) → CommandsGo c 1 s v a m asks saids w b o
    → made_by_all v.turns ≡ objects s → made_by_all w.turns ≡ objects (after_all s asks saids)
all_objects c s v w a b m o [] [] go made = ap (λ (x : View). made_by_all x.turns) go.0 ∙ made
all_objects c s v w a b m o [] (said ∷ saids) go made = absurd go
all_objects c s v w a b m o (ask ∷ asks) [] go made = absurd go
all_objects c s v w a b m o (ask ∷ asks) (said ∷ saids) (u, d, e, goes, rest) made =
    all_objects c (after_said s ask said) u w d b e o asks saids rest goes.made

-- ---- what each was told
-- one that was not refused, and needed an object, found one left to be made
module _ (c : Config) (s : Plain) (a : FarCommand) (u : View) (tallied : IsTallied s)
    (history : HasOneHistory c 1 u) (made : made_by_all u.turns ≡ objects (plain_after s a)) where
  left_to_make : needs_object s a ≡ true → objects s < c.handles
  left_to_make needs =
      let one = one_where_needed s a tallied in
      let more = ap {B = ℕ} (λ b. if b then 1 else 0) needs in
      let alike = all_alike u.turns in
      let all = few_made 1 c u history.0 history.1 history.2 in
      omega (arith, one, more, alike, all, made)

module _ (c : Config) (ok : IsAccepted c) (last : View) (w : WorldState)
    (closed : IsClosed Did 1 c last w) (few : length last.written ≤ 320000)
    (jobs_are : AllForObjects last) where
  module _ (s : Plain) (ask : FarCommand) (said : FarAnswer) (v u : View) (a b : FarArray)
      (m o : FarMap) (tallied : IsTallied s) (goes : CommandGoes c 1 s ask said v a m u b o)
      (before : HasOneHistory c 1 v ⊎ (v.turns ≡ [])) (made : made_by_all v.turns ≡ objects s)
      (inside : Within u last) where
    plain : made_by_all u.turns ≡ objects (plain_after s ask) → (q : FarAnswer)
        → q ≡ plain_said s ask
        → (q ≡ plain_said s ask) × (needs_object s ask ≡ true → objects s < c.handles)
    plain now q is = (is, left_to_make c s ask u tallied goes.history now)

    one_told : IsTold c last w s ask goes.more said
    one_told = by said goes.made goes.is_said
      where
        by : (q : FarAnswer) → made_by_all u.turns ≡ objects (after_said s ask q)
            → IsSaid s ask q u goes.more → IsTold c last w s ask goes.more q
        by (Refused r) now x = (
          x.0,
          refused_so c ok last w closed few jobs_are s ask r v u goes.more
              goes.turned goes.history before made now inside.turns inside.wrote x.1,
        )
        by Done now x = plain now Done x
        by (Number n) now x = plain now (Number n) x
        by Nothing now x = plain now Nothing x
        by (Outside len) now x = plain now (Outside len) x

  tallied_said : (s : Plain) (ask : FarCommand) (said : FarAnswer) → IsTallied s
      → IsTallied (after_said s ask said)
  tallied_said s ask (Refused r) tallied = tallied
  tallied_said s ask Done tallied = stays_tallied s ask tallied
  tallied_said s ask (Number n) tallied = stays_tallied s ask tallied
  tallied_said s ask Nothing tallied = stays_tallied s ask tallied
  tallied_said s ask (Outside len) tallied = stays_tallied s ask tallied

  all_told : (s : Plain) (v : View) (a b : FarArray) (m o : FarMap) (asks : List FarCommand)
      (saids : List FarAnswer) → IsTallied s → CommandsGo c 1 s v a m asks saids last b o
      → HasOneHistory c 1 v ⊎ (v.turns ≡ []) → made_by_all v.turns ≡ objects s
      → AreTold c last w s v.turns asks saids
  all_told s v a b m o [] [] tallied go before made = ap (λ (x : View). x.turns) go.0
  all_told s v a b m o [] (said ∷ saids) tallied go before made = absurd go
  all_told s v a b m o (ask ∷ asks) [] tallied go before made = absurd go
  all_told s v a b m o (ask ∷ asks) (said ∷ saids) tallied (u, d, e, goes, rest) before made = (
    goes.more,
    one_told s ask said v u a d m e tallied goes before made
        (all_within c (after_said s ask said) u last d b e o asks saids rest),
    subst (λ (ts : List Turn). AreTold c last w (after_said s ask said) ts asks saids) goes.turned
        (all_told (after_said s ask said) u d b e o asks saids (tallied_said s ask said tallied)
        rest (inl goes.history) goes.made),
  )

each_from : {A : Type 0} (P : A → Type 0) (xs : List A) → ((x : A) → Has x xs → P x) → Each P xs
each_from P [] all = tt
each_from P (x ∷ xs) all = (all x (inl refl), each_from P xs (λ y there. all y (inr there)))

-- ---- all commands of a runtime that was closed
module _ (c : Config) (ok : IsAccepted c) (last : View) (w : WorldState) (asks : List FarCommand)
    (saids : List FarAnswer) (few : length asks ≤ 20000) (closed : IsClosed Did 1 c last w)
    (gone : HaveGone c 1 asks saids (opener c) last) where
  begun : made_by_all (opener c).turns ≡ objects fresh
  begun = sym none_made

  for_last : AllForObjects last
  for_last = all_for c fresh (opener c) last no_array gone.array (no_map 64) gone.buckets asks saids
      gone.go (λ t has. absurd has)

  pub turns_are : Each (λ (t : Turn). IsForObject last t.job) last.turns
  turns_are = each_from (λ (t : Turn). IsForObject last t.job) last.turns for_last

  few_written : length last.written ≤ 320000
  few_written = let n = all_few c fresh (opener c) last no_array gone.array (no_map 64) gone.buckets
      asks saids gone.go in omega (arith, n, few)

  pub told : AreTold c last w fresh [] asks saids
  told = all_told c ok last w closed few_written for_last fresh (opener c) no_array gone.array
      (no_map 64) gone.buckets asks saids fresh_tallied gone.go (inr refl) begun

  pub objects_made : w.far.made ≡ objects (after_all fresh asks saids)
  objects_made = all_made 1 c last w.far.counts.turns w.far closed.turns
      ∙ sym (all_alike last.turns)
      ∙ all_objects c fresh (opener c) last no_array gone.array (no_map 64) gone.buckets asks saids
      gone.go begun
