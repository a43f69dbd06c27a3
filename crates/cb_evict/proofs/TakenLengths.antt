-- Spans of one length after another are tried: of the greatest that has enough the first k are taken.
use Rattle.std.proofs.Common.{◌≡◌, ◌≢◌, ◌⊎◌, ℕ, ◌+◌, ◌<◌, ◌≤◌, max, Bool, List, [], ◌++◌, length, get_or, take, All, Option, refl, sym, ap, ◌∙◌, subst, arith, inl, inr}
use Rattle.std.specs.List.{Contains}
use Rattle.std.proofs.lemmas.List.{append_assoc}
use Rattle.std.proofs.lemmas.List.Elements.{All-contains, All-nil}
use Rattle.cb_span.specs.Contents.{Contents}
use Rattle.cb_types.specs.declared.reply.Reply.TheVariants as answer
use Rattle.cb_world.specs.declared.access.Access.{Access}
use Rattle.cb_world.specs.declared.leaving.Former.{Former}
use Rattle.cb_world.specs.declared.shown.Shown.{Shown}
use Rattle.cb_world.specs.Choices.{room_count}
use Rattle.cb_world.specs.FarState.{FarState, pages_at}
use Rattle.cb_world.specs.Looks.{NoLook}
use Rattle.cb_world.specs.Played.{played}
use Rattle.cb_world.specs.Sound.{Sound}
use Rattle.cb_evict.specs.declared.eviction.Eviction.TheVariants.{Refused}
use Rattle.cb_evict.specs.declared.eviction.Lack.TheVariants.{Spans}
use Rattle.cb_evict.specs.Candidates.{candidates, AreUnique}
use Rattle.cb_evict.specs.Claiming.{ClaimsThese}
use Rattle.cb_evict.specs.Claims.{IsNone}
use Rattle.cb_evict.specs.Lengths.{count_of, has_pages, loose_of, most_loose, without}
use Rattle.cb_evict.specs.Loading.{LiesInOne}
use Rattle.cb_evict.specs.Looking.{IsIn}
use Rattle.cb_evict.specs.Taking.{AreLooseNow, AreLooseStill, AreLostSince, ClaimsAll, ClaimsFewer, ClaimsLength, TakesEnough, TakesFew, TriesSpans}
use Rattle.cb_evict.proofs.CallParts.{Joins, part_more, part_then}
use Rattle.cb_evict.proofs.Composed.{among_spans, still_at}
use Rattle.cb_evict.proofs.Events.{touches_quiet}
use Rattle.cb_evict.proofs.Gathers.{claims_then}
use Rattle.cb_evict.proofs.LooseLengths.{filter_in, first_long, most_is, of_four, of_none, of_one, of_two, others_stay, same_left}

-- ---- the spans of one length and those of another
-- an object has one span, and so one length
pub lengths_apart : (spans : List (Option Contents)) (n : ℕ) → AreUnique spans n
    → (loose : List ℕ) (a b : ℕ) → a ≢ b → (h : ℕ) → IsIn spans (loose_of spans a loose) h
    → IsIn spans (loose_of spans b loose) h → ⊥
lengths_apart spans n unique loose a b other h (f, c, named) (g, d, said) =
    other (sym (long a f c) ∙ ap (pages_at spans) (unique.one_frame f g h named said) ∙ long b g d)
  where
    long : (p x : ℕ) → Contains (loose_of spans p loose) x → pages_at spans x ≡ p
    long p x e = All-contains (λ y. pages_at spans y ≡ p) (loose_of spans p loose) x
        (first_long spans p loose) e

-- what is tried of a length
abbrev pub Touched : FarState → List ℕ → ℕ → ℕ → Type 0
Touched far was pages h = IsIn far.spans (loose_of far.spans pages was) h

touched_among : (far : FarState) (was : List ℕ) (pages h : ℕ)
    → All (Contains (candidates far)) was → Touched far was pages h
    → IsIn far.spans (candidates far) h
touched_among far was pages h among (f, c, named) =
    among_spans far was among h (f, filter_in (has_pages far.spans pages) was f c, named)

-- all that is tried are spans that may leave
abbrev tries_all : {runs : List Access → Type 0} {shows : Shown → Type 0} (far : FarState)
    (touched : ℕ → Type 0) (finds : List Access → Type 0) (formers : List Former)
    → ((h : ℕ) → touched h → IsIn far.spans (candidates far) h)
    → ClaimsThese runs shows touched (λ p. ⊥) finds formers
    → TriesSpans runs shows far finds formers
tries_all far touched finds formers f x =
    part_more (IsIn far.spans (candidates far)) (LiesInOne far.spans (candidates far)) _ x f
    (λ p y. absurd y) x.done

-- ---- one length after others
first_length : {runs : List Access → Type 0} {shows : Shown → Type 0} (far : FarState)
    (was : List ℕ) (pages : ℕ) (lost : ℕ → Bool) (formers : List Former) (touched : ℕ → Type 0)
    → ClaimsThese runs shows touched (λ p. ⊥) (AreLostSince far was pages lost) formers
    → ClaimsThese runs shows touched (λ p. ⊥) (AreLooseStill far was (without lost was)) formers
first_length far was pages lost formers touched x =
    part_more touched (λ p. ⊥) _ x (λ h y. y) (λ p y. y)
    (λ before had. x.done.0 before was refl had, x.done.1)

next_length : {runsA runsB runsC : List Access → Type 0} {showsA showsB : Shown → Type 0}
    (far : FarState) (was loose : List ℕ) (pages : ℕ) (lost : ℕ → Bool) (formers : List Former)
    (touchedA touchedB : ℕ → Type 0) → Joins runsA runsB runsC showsA showsB
    → ((h : ℕ) → touchedA h → touchedB h → ⊥)
    → loose_of far.spans pages loose ≡ loose_of far.spans pages was
    → ClaimsThese runsA showsA touchedA (λ p. ⊥) (AreLooseStill far was loose) []
    → ClaimsThese runsB showsB touchedB (λ p. ⊥) (AreLostSince far was pages lost) formers
    → ClaimsThese runsC showsA (λ h. touchedA h ⊎ touchedB h) (λ p. ⊥)
    (AreLooseStill far was (without lost loose)) formers
next_length {showsB = showsB} far was loose pages lost formers touchedA touchedB j apart same x y =
    part_then (λ h. touchedA h ⊎ touchedB h) (λ p. ⊥) _ j x y (λ h z. inl z) (λ p z. z) (λ h z. inr z)
    (λ p z. z)
    (inr (λ h t. touches_quiet touchedB (λ p. ⊥) h y.events (apart h t) y.touches)) (
      λ before had. subst (AreLooseNow far (without lost loose)) (append_assoc before x.events y.events)
          (y.done.0 (before ++ x.events) loose same (x.done.0 before had)),
      λ at s knows here.
          claims_then {showsB = showsB} at x.events y.events s [] formers (x.done.1 at s knows here)
          (j.shown x.events s x.ran knows) y.done.1
          (All-nil (λ f. IsNone formers f.handle)) (All-nil (λ f. NoLook f.handle y.events))
          (λ k d l. All-nil (λ f. f.handle ≢ (get_or formers k d).handle)),
    )

-- ---- the lengths in turn
-- none of 4 pages was taken: so many are loose, and those of other lengths are as they were
pub record PastFour (runs : List Access → Type 0) (shows : Shown → Type 0) (far : FarState)
    (was : List ℕ) (fours : ℕ) : Type 0 where
  pub loose : List ℕ
  pub tried : ClaimsThese runs shows (Touched far was 4) (λ p. ⊥) (AreLooseStill far was loose) []
  pub few : fours < far.code.k
  pub four : fours ≡ count_of far.spans 4 loose
  pub two : loose_of far.spans 2 loose ≡ loose_of far.spans 2 was
  pub one : loose_of far.spans 1 loose ≡ loose_of far.spans 1 was

-- nothing changed there
pub four_sound : {runs : List Access → Type 0} {shows : Shown → Type 0} {far : FarState}
    {was : List ℕ} {fours : ℕ} → All (Contains (candidates far)) was
    → (p : PastFour runs shows far was fours) → (s : Shown) → shows s → Sound s far
    → Sound (played p.tried.events s) far
four_sound {far = far} {was = was} among p s knows sound =
    (still_at far (AreLooseStill far was p.loose) (tries_all far (Touched far was 4) _ []
    (λ h. touched_among far was 4 h among) p.tried) s (knows, sound)).1

-- nor of 2
pub record PastTwo (runs : List Access → Type 0) (shows : Shown → Type 0) (far : FarState)
    (was : List ℕ) (fours twos : ℕ) : Type 0 where
  pub loose : List ℕ
  pub tried : ClaimsThese runs shows (λ h. Touched far was 4 h ⊎ Touched far was 2 h) (λ p. ⊥)
      (AreLooseStill far was loose) []
  pub few : (fours < far.code.k) × (twos < far.code.k)
  pub four : fours ≡ count_of far.spans 4 loose
  pub two : twos ≡ count_of far.spans 2 loose
  pub one : loose_of far.spans 1 loose ≡ loose_of far.spans 1 was

pub two_sound : {runs : List Access → Type 0} {shows : Shown → Type 0} {far : FarState}
    {was : List ℕ} {fours twos : ℕ} → All (Contains (candidates far)) was
    → (p : PastTwo runs shows far was fours twos) → (s : Shown) → shows s → Sound s far
    → Sound (played p.tried.events s) far
two_sound {far = far} {was = was} among p s knows sound =
    (still_at far (AreLooseStill far was p.loose)
    (tries_all far (λ h. Touched far was 4 h ⊎ Touched far was 2 h) _ [] (λ h t. elim t [
      | inl y ↦ touched_among far was 4 h among y
      | inr y ↦ touched_among far was 2 h among y
    ]) p.tried) s (knows, sound)).1

-- by the count
pub claimed_fewer : (far : FarState) (left : List ℕ) (pages count : ℕ) (frames : List ℕ)
    (formers : List Former) → (count ≡ far.code.k → ⊥)
    → ClaimsFewer far left pages count frames formers ⊎ ClaimsAll far left pages count frames formers
    → ClaimsFewer far left pages count frames formers
claimed_fewer far left pages count frames formers off (inl a) = a
claimed_fewer far left pages count frames formers off (inr a) = absurd (off a.all)

pub claimed_all : (far : FarState) (left : List ℕ) (pages count : ℕ) (frames : List ℕ)
    (formers : List Former) → count ≡ far.code.k
    → ClaimsFewer far left pages count frames formers ⊎ ClaimsAll far left pages count frames formers
    → ClaimsAll far left pages count frames formers
claimed_all far left pages count frames formers is (inl a) =
    let few = a.few in absurd (omega (arith, few, is))
claimed_all far left pages count frames formers is (inr a) = a

module _ (far : FarState) (was : List ℕ) (among : All (Contains (candidates far)) was)
    (room : far.code.k + far.code.r ≤ room_count far.nodes far.members) where
  -- ---- 4 pages
  module _ {runs : List Access → Type 0} {shows : Shown → Type 0} {count : ℕ} {frames : List ℕ}
      {formers : List Former} (x : ClaimsLength runs shows far was 4 count frames formers) where
    pub past_four : (count ≡ far.code.k → ⊥) → PastFour runs shows far was count
    past_four off =
        let a = claimed_fewer far (without x.lost was) 4 count frames formers off x.came in record {
          loose = without x.lost was;
          tried = subst (λ (l : List Former). ClaimsThese runs shows (Touched far was 4) (λ p. ⊥)
              (AreLooseStill far was (without x.lost was)) l) a.none.1
              (first_length far was 4 x.lost formers (Touched far was 4) x.tries);
          few = a.few;
          four = a.counted;
          two = others_stay far.spans x.lost 4 2 was x.long (λ e. omega (arith, e));
          one = others_stay far.spans x.lost 4 1 was x.long (λ e. omega (arith, e));
        }

    pub takes_four : count ≡ far.code.k
        → TakesEnough runs shows far (AreLooseStill far was) frames formers
    takes_four is =
        let a = claimed_all far (without x.lost was) 4 count frames formers is x.came in record {
          loose = without x.lost was;
          tries = tries_all far (Touched far was 4) (AreLooseStill far was (without x.lost was)) formers
              (λ h. touched_among far was 4 h among)
              (first_length far was 4 x.lost formers (Touched far was 4) x.tries);
          pages = 4;
          longest = of_four far.code.k far.spans (without x.lost was) a.enough;
          first = a.first;
          room = room;
          taken = a.taken;
        }

  -- ---- 2 pages
  module _ {runsA runsB runsC : List Access → Type 0} {showsA showsB : Shown → Type 0}
      {fours count : ℕ} {frames : List ℕ} {formers : List Former} (n : ℕ)
      (unique : AreUnique far.spans n) (j : Joins runsA runsB runsC showsA showsB)
      (p : PastFour runsA showsA far was fours)
      (x : ClaimsLength runsB showsB far was 2 count frames formers) where
    tried_two : ClaimsThese runsC showsA (λ h. Touched far was 4 h ⊎ Touched far was 2 h) (λ q. ⊥)
        (AreLooseStill far was (without x.lost p.loose)) formers
    tried_two = next_length far was p.loose 2 x.lost formers (Touched far was 4) (Touched far was 2) j
        (lengths_apart far.spans n unique was 4 2 (λ e. omega (arith, e))) p.two p.tried x.tries

    left_two : loose_of far.spans 2 (without x.lost p.loose) ≡ loose_of far.spans 2 (without x.lost was)
    left_two = same_left far.spans x.lost 2 p.loose was p.two

    still_four : loose_of far.spans 4 (without x.lost p.loose) ≡ loose_of far.spans 4 p.loose
    still_four = others_stay far.spans x.lost 2 4 p.loose x.long (λ e. omega (arith, e))

    pub past_two : (count ≡ far.code.k → ⊥) → PastTwo runsC showsA far was fours count
    past_two off =
        let a = claimed_fewer far (without x.lost was) 2 count frames formers off x.came in record {
          loose = without x.lost p.loose;
          tried = subst (λ (l : List Former). ClaimsThese runsC showsA
              (λ h. Touched far was 4 h ⊎ Touched far was 2 h) (λ q. ⊥)
              (AreLooseStill far was (without x.lost p.loose)) l) a.none.1 tried_two;
          few = (p.few, a.few);
          four = p.four ∙ sym (ap (λ (l : List ℕ). length l) still_four);
          two = a.counted ∙ sym (ap (λ (l : List ℕ). length l) left_two);
          one = others_stay far.spans x.lost 2 1 p.loose x.long (λ e. omega (arith, e)) ∙ p.one;
        }

    pub takes_two : count ≡ far.code.k
        → TakesEnough runsC showsA far (AreLooseStill far was) frames formers
    takes_two is =
        let a = claimed_all far (without x.lost was) 2 count frames formers is x.came in
        let four = ap (λ (l : List ℕ). length l) still_four in
        let two = ap (λ (l : List ℕ). length l) left_two in
        let f = p.four in let l = p.few in let enough = a.enough in record {
          loose = without x.lost p.loose;
          tries = tries_all far (λ h. Touched far was 4 h ⊎ Touched far was 2 h)
              (AreLooseStill far was (without x.lost p.loose)) formers (λ h t. elim t [
                | inl y ↦ touched_among far was 4 h among y
                | inr y ↦ touched_among far was 2 h among y
              ]) tried_two;
          pages = 2;
          longest = of_two far.code.k far.spans (without x.lost p.loose) (omega (arith, four, f, l))
              (omega (arith, two, enough));
          first = a.first ∙ ap (take far.code.k) (sym left_two);
          room = room;
          taken = a.taken;
        }

  -- ---- 1 page
  module _ {runsA runsB runsC : List Access → Type 0} {showsA showsB : Shown → Type 0}
      {fours twos count : ℕ} {frames : List ℕ} {formers : List Former} (n : ℕ)
      (unique : AreUnique far.spans n) (j : Joins runsA runsB runsC showsA showsB)
      (p : PastTwo runsA showsA far was fours twos)
      (x : ClaimsLength runsB showsB far was 1 count frames formers) where
    tried_one : ClaimsThese runsC showsA
        (λ h. (Touched far was 4 h ⊎ Touched far was 2 h) ⊎ Touched far was 1 h) (λ q. ⊥)
        (AreLooseStill far was (without x.lost p.loose)) formers
    tried_one = next_length far was p.loose 1 x.lost formers
        (λ h. Touched far was 4 h ⊎ Touched far was 2 h) (Touched far was 1) j (λ h t. elim t [
          | inl y ↦ lengths_apart far.spans n unique was 4 1 (λ e. omega (arith, e)) h y
          | inr y ↦ lengths_apart far.spans n unique was 2 1 (λ e. omega (arith, e)) h y
        ]) p.one p.tried x.tries

    all_among : (h : ℕ) → (Touched far was 4 h ⊎ Touched far was 2 h) ⊎ Touched far was 1 h
        → IsIn far.spans (candidates far) h
    all_among h (inl (inl y)) = touched_among far was 4 h among y
    all_among h (inl (inr y)) = touched_among far was 2 h among y
    all_among h (inr y) = touched_among far was 1 h among y

    left_one : loose_of far.spans 1 (without x.lost p.loose) ≡ loose_of far.spans 1 (without x.lost was)
    left_one = same_left far.spans x.lost 1 p.loose was p.one

    stays : (q : ℕ) → q ≢ 1
        → count_of far.spans q (without x.lost p.loose) ≡ count_of far.spans q p.loose
    stays q other = ap (λ (l : List ℕ). length l) (others_stay far.spans x.lost 1 q p.loose x.long other)

    pub takes_one : count ≡ far.code.k
        → TakesEnough runsC showsA far (AreLooseStill far was) frames formers
    takes_one is =
        let a = claimed_all far (without x.lost was) 1 count frames formers is x.came in
        let four = stays 4 (λ e. omega (arith, e)) in let two = stays 2 (λ e. omega (arith, e)) in
        let one = ap (λ (l : List ℕ). length l) left_one in
        let f = p.four in let t = p.two in let l = p.few in let enough = a.enough in record {
          loose = without x.lost p.loose;
          tries = tries_all far (λ h. (Touched far was 4 h ⊎ Touched far was 2 h) ⊎ Touched far was 1 h)
              (AreLooseStill far was (without x.lost p.loose)) formers all_among tried_one;
          pages = 1;
          longest = of_one far.code.k far.spans (without x.lost p.loose) (omega (arith, four, f, l.0))
              (omega (arith, two, t, l.1)) (omega (arith, one, enough));
          first = a.first ∙ ap (take far.code.k) (sym left_one);
          room = room;
          taken = a.taken;
        }

    -- of no length are there enough
    pub takes_none : (most nodes : ℕ) → (count ≡ far.code.k → ⊥)
        → most ≡ max fours (max twos count) → nodes ≡ room_count far.nodes far.members
        → TakesFew runsC showsA far (AreLooseStill far was) (Refused Spans most nodes)
    takes_none most nodes off is same =
        let a = claimed_fewer far (without x.lost was) 1 count frames formers off x.came in
        let four = stays 4 (λ e. omega (arith, e)) in let two = stays 2 (λ e. omega (arith, e)) in
        let one = ap (λ (l : List ℕ). length l) left_one in
        let f = p.four in let t = p.two in let l = p.few in let few = a.few in
        let counted = a.counted in
        let told = most_is far.spans (without x.lost p.loose) in
        let all : most ≡ most_loose far.spans (without x.lost p.loose) =
        omega (arith, is, told, four, two, one, f, t, counted) in record {
          loose = without x.lost p.loose;
          tries = tries_all far (λ h. (Touched far was 4 h ⊎ Touched far was 2 h) ⊎ Touched far was 1 h)
              (AreLooseStill far was (without x.lost p.loose)) [] all_among
              (subst (λ (l : List Former). ClaimsThese runsC showsA
              (λ h. (Touched far was 4 h ⊎ Touched far was 2 h) ⊎ Touched far was 1 h) (λ q. ⊥)
              (AreLooseStill far was (without x.lost p.loose)) l) a.none.1 tried_one);
          few = inl (record {
            few = of_none far.code.k far.spans (without x.lost p.loose) (omega (arith, four, f, l.0))
                (omega (arith, two, t, l.1)) (omega (arith, one, counted, few));
            reply = ap answer.NoSpans all;
            state = refl;
          });
          counts = (all, same);
        }
