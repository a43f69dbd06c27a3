-- The parities of an order that is kept fit the batch of its number.
use Rattle.std.proofs.Common.{◌≡◌, ℕ, ◌+◌, ◌*◌, ◌^◌, ◌<◌, All, List, [], ◌++◌, length, get_or, Some, sym, ap, ◌∙◌, subst, arith}
use Rattle.std.proofs.lemmas.List.{get_or-append-add, get_or-map, get_or_append_left, length-append}
use Rattle.std.proofs.lemmas.List.Elements.{All-append}
use Rattle.std.specs.Option.{option_map}
use Rattle.cb_gf256.specs.CodeWord.{IsCodeWord}
use Rattle.cb_gf256.specs.Rows.{HaveLength, HoldBytes, row_at}
use Rattle.cb_orders.specs.Done.{IsEncoded}
use Rattle.cb_types.specs.declared.handle.SetId.{SetId}
use Rattle.cb_types.specs.declared.order.EncodeOrder.{EncodeOrder}
use Rattle.cb_world.specs.declared.shown.Shown.{Shown}
use Rattle.cb_world.specs.FarState.{FarState}
use Rattle.cb_world.specs.Leaving.{LeavingState}
use Rattle.cb_world.specs.Memory.{window}
use Rattle.cb_world.specs.Orders.{IsEncodeKept}
use Rattle.cb_world.specs.RowWords.{row_of}
use Rattle.cb_world.specs.SetWord.{IsSpanWord}
use Rattle.cb_world.specs.Sound.{Sound}
use Rattle.cb_world.specs.StillDesk.{window_length}
use Rattle.cb_world.proofs.Laws.{row_length}
use Rattle.cb_evict.specs.InstallRule.{with_made}
use Rattle.cb_evict.specs.ShipRule.{AreMadeOf}
use Rattle.cb_evict.proofs.BeginParts.{number_of, some_leaving}
use Rattle.cb_evict.proofs.InstallSound.{made_sound, rows_count, rows_known}

-- each row of the spans of a batch is as long as these are
pub known_long : (s : Shown) (batch : LeavingState)
    → HaveLength (4096 * batch.pages) (rows_known s batch)
known_long s batch p e within =
    let count = 512 * batch.pages in
    let row = λ (f : ℕ). row_of (window s.memory (512 * f) count) in
    let below : p < length batch.frames = omega (arith, within, rows_count s batch) in
    let ws = window s.memory (512 * get_or batch.frames p 0) count in
    ap (λ (l : List ℕ). length l) (get_or-map row batch.frames p 0 e below)
    ∙ row_length ws
    ∙ ap (λ (i : ℕ). 8 * i) (window_length s.memory (512 * get_or batch.frames p 0) count)
    ∙ (let f : 8 * (512 * batch.pages) ≡ 4096 * batch.pages = omega arith in f)

-- two lists of bytes as one
pub all_bytes : (rows parities : List (List ℕ)) → HoldBytes rows → HoldBytes parities
    → HoldBytes (rows ++ parities)
all_bytes rows parities a b = All-append (λ row. All (λ x. x < 2 ^ 8) row) rows parities a b

-- an order that is kept was run, and its batch is leaving
pub record IsRun (s : Shown) (far : FarState) (batch : LeavingState) (o : EncodeOrder)
    (parities : List (List ℕ)) : Type 0 where
  pub sound : Sound s far
  pub there : far.leaving ≡ Some batch
  pub same : batch.set ≡ o.set
  pub kept : IsEncodeKept s far o
  pub encoded : IsEncoded o parities

-- so, where the number of the batch is the order's
abbrev pub runs_for : (s : Shown) (far : FarState) (o : EncodeOrder) (parities : List (List ℕ))
    (id : SetId) → Sound s far → IsEncodeKept s far o → IsEncoded o parities
    → (e : option_map number_of far.leaving ≡ Some id) → id.n ≡ o.set
    → IsRun s far (some_leaving far.leaving id e).0 o parities
runs_for s far o parities id sound kept encoded e same =
    let b = some_leaving far.leaving id e in record {
      sound = sound;
      there = b.1;
      same = sym (ap (λ (i : SetId). i.n) b.2) ∙ same;
      kept = kept;
      encoded = encoded;
    }

-- there are data rows
pub has_data : (s : Shown) (far : FarState) (o : EncodeOrder) → IsEncodeKept s far o
    → 0 < length o.rows
has_data s far o kept =
    let k = kept.fits.range.data_least in omega (arith, k, kept.fits.count)

module _ (s : Shown) (far : FarState) (batch : LeavingState) (o : EncodeOrder)
    (parities : List (List ℕ)) (x : IsRun s far batch o parities) where
  rows_are : o.rows ≡ rows_known s batch
  rows_are = x.kept.rows batch x.there x.same

  data_count : length o.rows ≡ length batch.frames
  data_count = x.kept.fits.count ∙ (x.kept.code batch x.there x.same).0

  order_count : length parities ≡ o.r
  order_count =
      let n = length-append o.rows parities in
      omega (arith, n, x.encoded.count, x.kept.fits.count)

  pub parities_count : length parities ≡ length batch.parities
  parities_count = order_count ∙ (x.kept.code batch x.there x.same).1

  some_data : 0 < length o.rows
  some_data = has_data s far o x.kept

  pub some_parities : 0 < length parities
  some_parities = let r = x.kept.fits.range.parities_least in omega (arith, r, order_count)

  first_long : length (row_at (o.rows ++ parities) 0) ≡ 4096 * batch.pages
  first_long =
      ap (λ (row : List ℕ). length row) (get_or_append_left o.rows parities [] 0 some_data)
      ∙ ap (λ (rows : List (List ℕ)). length (row_at rows 0)) rows_are
      ∙ known_long s batch 0 [] (omega (arith, some_data, data_count, rows_count s batch))

  pub parities_long : HaveLength (4096 * batch.pages) parities
  parities_long i d l =
      let n = length-append o.rows parities in
      ap (λ (row : List ℕ). length row) (sym (get_or-append-add o.rows parities i d))
      ∙ x.encoded.equal_lengths (length o.rows + i) d (omega (arith, l, n)) ∙ first_long

  pub made_of_known : HoldBytes (o.rows ++ parities)
      → AreMadeOf batch (rows_known s batch) parities
  made_of_known bytes = record {
    range = (x.sound.noted batch x.there).reserved.range;
    count = parities_count;
    word = subst (λ (rows : List (List ℕ)). IsSpanWord batch.pages (length batch.frames)
        (length parities) (rows ++ parities)) rows_are (record {
          is_word = subst (λ (k : ℕ). IsCodeWord k (length parities) (o.rows ++ parities))
              (x.kept.code batch x.there x.same).0
              (subst (λ (r : ℕ). IsCodeWord o.k r (o.rows ++ parities)) (sym order_count)
              x.encoded);
          bytes = bytes;
          wide = first_long;
        });
  }

  pub installed_sound : HoldBytes (o.rows ++ parities) → Sound s (with_made far batch parities)
  installed_sound bytes =
      made_sound s far batch parities x.sound x.there (made_of_known bytes)
