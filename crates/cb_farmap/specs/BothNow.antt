-- An array and a map of one pass that are a plain list and a plain map.
use Rattle.std.specs.Prelude.{◌≡◌, ◌≢◌, List, length, map, None}
use Rattle.cb_rule.specs.declared.view.View.{View}
use Rattle.cb_rule.specs.Lists.{Has}
use Rattle.cb_map_text.specs.Plain.{Plain, objects_for}
use Rattle.cb_farmap.specs.declared.array.FarArray.{FarArray}
use Rattle.cb_farmap.specs.declared.bucket.Bucket.{Bucket}
use Rattle.cb_farmap.specs.declared.kept.KeptObject.{KeptObject}
use Rattle.cb_farmap.specs.declared.map.FarMap.{FarMap}
use Rattle.cb_farmap.specs.Arrays.{IsArrayOf, list_of}
use Rattle.cb_farmap.specs.Changes.{AreSole}
use Rattle.cb_farmap.specs.Maps.{IsMapOf, kept_of, map_of}

-- The array is the list, with the objects that it needs at its longest.
pub record IsArrayNow (s : Plain) (v : View) (a : FarArray) : Type 0 where
  pub array : IsArrayOf v a
  pub list : list_of v a ≡ s.list
  pub kept : length a.kept ≡ objects_for s.longest 128
  pub going : a.stop ≡ None
  pub sole : AreSole v a.kept

-- The map is the map, each bucket with its pairs, and with the objects that it needs at its
-- fullest.
pub record IsMapNow (s : Plain) (v : View) (m : FarMap) : Type 0 where
  pub map_is : IsMapOf v m
  pub pairs : map_of v m ≡ s.pairs
  pub counts : map (λ (b : Bucket). b.count) m.buckets ≡ s.counts
  pub kept : map (λ (b : Bucket). length b.kept) m.buckets
      ≡ map (λ most. objects_for most 64) s.fullest
  pub going : m.stop ≡ None
  pub sole : AreSole v (kept_of m.buckets)

-- no object is one of both
abbrev pub AreOther : List KeptObject → List KeptObject → Type 0
AreOther xs ys = (x y : KeptObject) → Has x xs → Has y ys → x.handle.n ≢ y.handle.n

-- In this record the array is the list and the map is the map, each with objects of its own.
pub record AreBothNow (s : Plain) (v : View) (a : FarArray) (m : FarMap) : Type 0 where
  pub array_is : IsArrayNow s v a
  pub map_is : IsMapNow s v m
  pub other : AreOther a.kept (kept_of m.buckets)
