-- A row is stored in a run of frames.
use Rattle.std.proofs.Common.{◌≡◌, ℕ, ◌+◌, ◌*◌, ◌/◌, ◌≤◌, List, [], ◌∷◌, length, refl, arith, length-set}
use Rattle.cb_world.specs.declared.access.Access.{Access}
use Rattle.cb_world.specs.declared.access.Access.TheVariants.{Stored}
use Rattle.cb_world.specs.declared.object.Object.{Object}
use Rattle.cb_world.specs.declared.object.Object.TheVariants as is
use Rattle.cb_world.specs.declared.shown.Shown.{Shown}
use Rattle.cb_world.specs.Memory.{put}
use Rattle.cb_world.specs.Shown.{Avoids, Spares, object_at}
use Rattle.cb_world.specs.Played.{after, played}
use Rattle.cb_world.specs.Allowed.{Allowed}
use Rattle.cb_world.specs.FrameWords.{OwnsRun, stores_from}
use Rattle.cb_world.specs.Looks.{LooksFirst, NoClaim}
use Rattle.cb_world.specs.Written.{Writes}
use Rattle.cb_world.specs.RowWords.{words_in}
use Rattle.cb_world.proofs.Laws.{length_words}
use Rattle.cb_swapin.specs.Brings.{StoresIn}
use Rattle.cb_swapin.specs.Waiting.{IsRunVacant}
use Rattle.cb_swapin.specs.BroughtIn.{Brought}

spared : (o : Object) (p : ℕ) → Avoids p o → Spares p o
spared (is.Empty v) p a = tt
spared (is.Far len v words) p a = tt
spared (is.Here len place) p a = a
spared (is.Claimed len place v words) p a = tt

-- a word of a vacant run is owned
pub vacant_owned : (s : Shown) (f pages : ℕ) → IsRunVacant s f pages → OwnsRun s f pages
vacant_owned s f pages vacant p lies = (
  omega (arith, lies.1, vacant.within),
  λ h. spared (object_at s h) p (vacant.none p h lies),
)

-- ---- lists of stores
stores_no_claim : (f pages : ℕ) (es : List Access) → StoresIn f pages es → NoClaim es
stores_no_claim f pages [] a = tt
stores_no_claim f pages (Stored p x ∷ es) a = stores_no_claim f pages es a.1
stores_no_claim f pages (e ∷ es) a = absurd a

pub stores_first : (f pages : ℕ) (es : List Access) → StoresIn f pages es → LooksFirst es
stores_first f pages [] a = tt
stores_first f pages (Stored p x ∷ es) a =
    (stores_no_claim f pages es a.1, stores_first f pages es a.1)
stores_first f pages (e ∷ es) a = absurd a

pub stores_nothing : (f pages : ℕ) (es : List Access) (s : Shown) → StoresIn f pages es
    → Writes es s []
stores_nothing f pages [] s a old = refl
stores_nothing f pages (Stored p x ∷ es) s a old =
    stores_nothing f pages es (after (Stored p x) s) a.1 old
stores_nothing f pages (e ∷ es) s a old = absurd a

-- ---- the words of a row
tells_run : (f pages p : ℕ) (ws : List ℕ) → 512 * f ≤ p → p + length ws ≤ 512 * (f + pages)
    → StoresIn f pages (stores_from p ws)
tells_run f pages p [] low high = tt
tells_run f pages p (w ∷ ws) low high = (
  (low, omega (arith, high)),
  tells_run f pages (p + 1) ws (omega (arith, low)) (omega (arith, high)),
)

allowed_run : (s : Shown) (f pages p : ℕ) (ws : List ℕ) → OwnsRun s f pages → 512 * f ≤ p
    → p + length ws ≤ 512 * (f + pages) → Allowed s (stores_from p ws)
allowed_run s f pages p [] owns low high = tt
allowed_run s f pages p (w ∷ ws) owns low high = (
  owns p (low, omega (arith, high)),
  allowed_run (after (Stored p w) s) f pages (p + 1) ws
      (λ q lies. let o = owns q lies in
      ((let n = length-set s.memory p w in let l = o.0 in omega (arith, n, l)), o.1))
      (omega (arith, low)) (omega (arith, high)),
)

leaves_run : (s : Shown) (p : ℕ) (ws : List ℕ)
    → played (stores_from p ws) s ≡ record s { memory = put s.memory p ws }
unfolding put
leaves_run s p [] = refl
leaves_run s p (w ∷ ws) = leaves_run (after (Stored p w) s) (p + 1) ws

pub row_stored : (runs : List Access → Type 0) (knows : Shown → Type 0) (f pages : ℕ)
    (row : List ℕ) → length row ≡ 4096 * pages → runs (stores_from (512 * f) (words_in row))
    → ((s : Shown) → knows s → IsRunVacant s f pages)
    → Brought runs knows (StoresIn f pages)
    (λ s t. t ≡ record s { memory = put s.memory (512 * f) (words_in row) })
row_stored runs knows f pages row long ran vacant =
    let ws = words_in row in
    let fits : 512 * f + length ws ≤ 512 * (f + pages) =
    (let count = length_words (length row / 8) row in omega (arith, count, long)) in
    let tells = tells_run f pages (512 * f) ws (omega arith) fits in record {
      events = stores_from (512 * f) ws;
      ran = ran;
      tells = tells;
      looks_first = stores_first f pages (stores_from (512 * f) ws) tells;
      allowed = λ s k. allowed_run s f pages (512 * f) ws (vacant_owned s f pages (vacant s k))
          (omega arith) fits;
      nothing = λ s k. stores_nothing f pages (stores_from (512 * f) ws) s tells;
      effect = λ s k. leaves_run s (512 * f) ws;
    }
