-- A row is stored, and then its objects are brought in.
use Rattle.std.proofs.Common.{◌≡◌, ℕ, ◌*◌, ◌<◌, List, [], ◌∷◌, ◌++◌, length, Option, sym, ap, ◌∙◌, subst, arith}
use Rattle.cb_class.specs.declared.class.Class.{Class}
use Rattle.cb_class.specs.Class.{pages_of, slots_of, words_of}
use Rattle.cb_class.proofs.Laws.{object_fits, slot_in_run}
use Rattle.cb_world.specs.declared.access.Access.{Access}
use Rattle.cb_world.specs.declared.access.Access.TheVariants.{Looked, Stored, Settled}
use Rattle.cb_world.specs.declared.entry.Entry.{Entry}
use Rattle.cb_world.specs.declared.shown.Shown.{Shown}
use Rattle.cb_world.specs.Memory.{put, words_for}
use Rattle.cb_world.specs.Played.{played}
use Rattle.cb_world.specs.Looks.{LooksFirst, NoClaim}
use Rattle.cb_world.specs.Written.{written_by}
use Rattle.cb_world.specs.RowWords.{words_in}
use Rattle.cb_world.proofs.Laws.{played_append, written_append, allowed_append, length_put, row_put}
use Rattle.cb_swapin.specs.Brings.{BringsSlots, StoresIn}
use Rattle.cb_swapin.specs.Waiting.{AreStored, AreWaiting}
use Rattle.cb_swapin.specs.BroughtIn.{AreBrought, Brought, IsSpanBrought}
use Rattle.cb_swapin.proofs.SlotNames.{named_within}

-- what is known once the row is stored
abbrev pub with_row_words : Shown → ℕ → List ℕ → Shown
with_row_words s f row = record s { memory = put s.memory (512 * f) (words_in row) }

pub waiting_stored : (s t : Shown) (f : ℕ) (class : Class) (slots : List (Option ℕ))
    (row : List ℕ) → length row ≡ 4096 * pages_of class → length slots ≡ slots_of class
    → AreWaiting s f class slots row → t ≡ with_row_words s f row → AreStored t f class slots
waiting_stored s t f class slots row long sized x e =
    subst (λ (q : Shown). AreStored q f class slots) (sym e) (record {
      vacant = record {
        within = (let m = length_put s.memory (512 * f) (words_in row) in
            omega (arith, m, x.vacant.within));
        none = x.vacant.none;
      };
      each = λ slot h named. let y = x.each slot h named in
          let below : slot < slots_of class = let w = named_within slots slot h named in
          omega (arith, w, sized) in
          let ends = slot_in_run class slot y.fits.in_table below in
          let room = object_fits y.len class y.fits in record {
            len = y.len;
            version = y.version;
            words = y.words;
            away = y.away;
            fits = y.fits;
            stamp = y.stamp;
            contents = row_put s.memory row (512 * f) (slot * words_of class) (words_for y.len)
                (let w = x.vacant.within in omega (arith, w, long))
                (omega (arith, ends, room, long))
                ∙ sym y.contents;
            handle = y.handle;
            flag = y.flag;
          };
    })

-- ---- lists of events
stores_bring : (slots : List (Option ℕ)) (f pages : ℕ) (es fs : List Access) → StoresIn f pages es
    → BringsSlots slots f pages fs → BringsSlots slots f pages (es ++ fs)
stores_bring slots f pages [] fs a b = b
stores_bring slots f pages (Stored p x ∷ es) fs a b = (a.0, stores_bring slots f pages es fs a.1 b)
stores_bring slots f pages (e ∷ es) fs a b = absurd a

brings_no_claim : (slots : List (Option ℕ)) (f pages : ℕ) (es : List Access)
    → BringsSlots slots f pages es → NoClaim es
brings_no_claim slots f pages [] a = tt
brings_no_claim slots f pages (Looked h w ∷ es) a = brings_no_claim slots f pages es a.1
brings_no_claim slots f pages (Stored p x ∷ es) a = brings_no_claim slots f pages es a.1
brings_no_claim slots f pages (Settled h w ∷ es) a = brings_no_claim slots f pages es a.1
brings_no_claim slots f pages (e ∷ es) a = absurd a

stores_then_first : (slots : List (Option ℕ)) (f pages : ℕ) (es fs : List Access)
    → StoresIn f pages es → BringsSlots slots f pages fs → LooksFirst fs → LooksFirst (es ++ fs)
stores_then_first slots f pages [] fs a b first = first
stores_then_first slots f pages (Stored p x ∷ es) fs a b first = (
  brings_no_claim slots f pages (es ++ fs) (stores_bring slots f pages es fs a.1 b),
  stores_then_first slots f pages es fs a.1 b first,
)
stores_then_first slots f pages (e ∷ es) fs a b first = absurd a

-- ---- both parts
both_parts : (s t u : Shown) (slots : List (Option ℕ)) (class : Class) (f : ℕ) (row : List ℕ)
    → t ≡ with_row_words s f row → AreBrought (length slots) slots class f t u
    → IsSpanBrought slots class f row s u
both_parts s t u slots class f row e b =
    brought (subst (λ (q : Shown). AreBrought (length slots) slots class f q u) e b)
  where
    brought : AreBrought (length slots) slots class f (with_row_words s f row) u
        → IsSpanBrought slots class f row s u
    brought x = record {
      first = x.first;
      versions = x.versions;
      memory = x.memory;
      objects = x.objects;
      hots = x.hots;
      brought = λ slot h named. let y = x.brought slot h (named_within slots slot h named) named in
          record {
            len = y.len;
            version = y.version;
            words = y.words;
            was = y.was;
            here = y.here;
            hot = y.hot;
          };
      others = λ h none. let y = x.others h (λ slot below named. none (slot, named)) in record {
        object = y.object;
        hot = y.hot;
      };
    }

pub span_brought : (first last all : List Access → Type 0) (vacant later knows : Shown → Type 0)
    (slots : List (Option ℕ)) (class : Class) (f : ℕ) (row : List ℕ)
    (a : Brought first vacant (StoresIn f (pages_of class)) (λ s t. t ≡ with_row_words s f row))
    (b : Brought last later (BringsSlots slots f (pages_of class))
    (AreBrought (length slots) slots class f))
    → all (a.events ++ b.events) → ((s : Shown) → knows s → vacant s)
    → ((s : Shown) → knows s → later (played a.events s))
    → Brought all knows (BringsSlots slots f (pages_of class)) (IsSpanBrought slots class f row)
span_brought first last all vacant later knows slots class f row a b ran known after_a = record {
  events = a.events ++ b.events;
  ran = ran;
  tells = stores_bring slots f (pages_of class) a.events b.events a.tells b.tells;
  looks_first = stores_then_first slots f (pages_of class) a.events b.events a.tells b.tells
      b.looks_first;
  allowed = λ s k. allowed_append a.events b.events s (a.allowed s (known s k))
      (b.allowed (played a.events s) (after_a s k));
  nothing = λ s k old. written_append a.events b.events s old
      ∙ ap (λ (l : List Entry). written_by b.events (played a.events s) l)
      (a.nothing s (known s k) old)
      ∙ b.nothing (played a.events s) (after_a s k) old;
  effect = λ s k. subst (IsSpanBrought slots class f row s)
      (sym (played_append a.events b.events s))
      (both_parts s (played a.events s) (played b.events (played a.events s)) slots class f row
      (a.effect s (known s k)) (b.effect (played a.events s) (after_a s k)));
}
