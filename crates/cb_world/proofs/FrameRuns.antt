-- The still desk reads and stores a frame's words one after another.
use Rattle.std.proofs.Common.{◌≡◌, ℕ, zero, suc, ◌+◌, List, [], ◌∷◌, length, set, refl, sym, ap, ◌∙◌, subst}
use Rattle.cb_world.specs.declared.access.Access.{Access}
use Rattle.cb_world.specs.Memory.{put, window}
use Rattle.cb_world.specs.Plain.{Words, IsSized, Plain}
use Rattle.cb_world.specs.FrameWords.{loads_from, stores_from}
use Rattle.cb_world.proofs.Windows.{length_put}

pub plain_loads : (x : Words) (p n : ℕ) → Plain x (loads_from p (window x.memory p n)) x
unfolding window
plain_loads x p zero = refl
plain_loads x p (suc n) = (refl, plain_loads x (p + 1) n)

pub plain_stores : (x : Words) (p : ℕ) (ws : List ℕ)
    → Plain x (stores_from p ws) (record x { memory = put x.memory p ws })
unfolding put
plain_stores x p [] = refl
plain_stores x p (w ∷ ws) = plain_stores (record x { memory = set x.memory p w }) (p + 1) ws

-- ---- as runs of the desk whose words these are
abbrev Runs : Words → List Access → Words → Type 0
Runs d es e = Plain d es e × (IsSized d → IsSized e)

pub loads_run : (d x : Words) (p n : ℕ) (ms : List ℕ) → x ≡ d → ms ≡ x.memory
    → Runs d (loads_from p (window x.memory p n)) (record x { memory = ms })
loads_run d x p n ms same kept =
    subst (λ (l : List ℕ). Runs d (loads_from p (window x.memory p n)) (record x { memory = l }))
    (sym kept)
    (subst (λ (y : Words). Runs y (loads_from p (window x.memory p n)) x) same
    (plain_loads x p n, λ sized. sized))

pub sized_put : (x : Words) (p : ℕ) (ws ms : List ℕ) → ms ≡ put x.memory p ws → IsSized x
    → IsSized (record x { memory = ms })
sized_put x p ws ms is sized = record {
  words = sized.words;
  versions = sized.versions;
  memory = ap length is ∙ length_put x.memory p ws ∙ sized.memory;
}

pub stores_run : (d x : Words) (p : ℕ) (ws ms : List ℕ) → x ≡ d → ms ≡ put x.memory p ws
    → Runs d (stores_from p ws) (record x { memory = ms })
stores_run d x p ws ms same is =
    subst (λ (y : Words). Runs y (stores_from p ws) (record x { memory = ms })) same (
      subst (λ (l : List ℕ). Plain x (stores_from p ws) (record x { memory = l })) (sym is)
          (plain_stores x p ws),
      sized_put x p ws ms is,
    )
