-- Numbers under their metrics, as a series comes.
use Rattle.std.proofs.Common.{◌≡◌, ◌∙◌, ◌≤◌, ◌+◌, ℕ, zero, suc, Bool, true, false, cond, ◌||◌, Option, Some, None}
use Rattle.std.proofs.Common.{IfSome, Result, Ok, Err, IfOk, OnOk, List, [], ◌∷◌, ◌++◌, map, length, refl, sym, ap}
use Rattle.std.proofs.Common.{subst, append-nil, append_assoc, slice_get, arith}
use Rattle.std.specs.Map.{keys_of, lookup}
use Rattle.std.proofs.lemmas.List.{length-append, length-map}
use Rattle.indexmap.specs.Layout.{set_value_at}
use Rattle.mon_value.proofs.KeyedLemmas as keyed
use Rattle.mon_value.proofs.SameLemmas.{same_series-Decides, same_text-Decides}
use Rattle.mon_value.proofs.SourceLemmas.{SeriesGroup, has_series, points_by_series-push, with_point}
use Rattle.mon_value.specs.Rooms.{RoomList}
use Rattle.mon_value.specs.Same.{same_series, same_text}
use Rattle.mon_value.specs.LeafHistories.{key_of_row, points_by_series, points_of, rows_of, series_of}
use Rattle.mon_value.specs.declared.rows.Point.{Point}
use Rattle.mon_value.specs.declared.rows.Row.{Row}
use Rattle.mon_value.specs.declared.rows.SeriesKey.{SeriesKey}
use Rattle.mon_series.specs.MetricNumbers.{numbers_from}
use Rattle.mon_series.specs.SeriesPoints.{SeriesPoints}
use Rattle.mon_series.specs.within.Metrics.{HasRoom, HasSeriesNumbers, Index, IsPlace, NumbersKeys, SameNumbers}
use Rattle.mon_series.specs.within.Metrics.{TakesNumber}
use Rattle.mon_series.specs.within.Metrics.{listed_numbers}
use Rattle.mon_series.proofs.FirstLemmas.{IsFirst}

-- ---- places

pub place_first : (metric : List ℕ) (index : Index) (at : ℕ) → IsFirst (same_text metric) index at
    → IsPlace metric index at
place_first metric [] at first = first
place_first metric (e ∷ index) zero first = first
place_first metric (e ∷ index) (suc at) first = (first.0, place_first metric index at first.1)

pub place_kept : (metric : List ℕ) (index : Index) (at to : ℕ) (numbers : RoomList ℕ) → IsPlace metric index at
    → IsPlace metric (set_value_at index to numbers) at
place_kept metric [] at to numbers place = place
place_kept metric (e ∷ index) zero zero numbers place = place
place_kept metric (e ∷ index) zero (suc to) numbers place = place
place_kept metric (e ∷ index) (suc at) zero numbers place = place
place_kept metric (e ∷ index) (suc at) (suc to) numbers place = (place.0, place_kept metric index at to numbers place.1)

absent_by : (b : Bool) (first : Option (RoomList ℕ)) (rest : Option (RoomList ℕ)) → cond b first rest ≡ None
    → (first ≡ None → ⊥) → (b ≡ false) × (rest ≡ None)
absent_by true first rest none some = absurd (some none)
absent_by false first rest none some = (refl, none)

pub place_new : (metric : List ℕ) (index : Index) (numbers : RoomList ℕ) → lookup (same_text metric) index ≡ None
    → IsPlace metric (index ++ (metric, numbers) ∷ []) (length index)
    × (slice_get (index ++ (metric, numbers) ∷ []) (length index) ≡ Some (metric, numbers))
place_new metric [] numbers none = ((same_text-Decides metric metric).1 refl, refl)
place_new metric (e ∷ index) numbers none =
    let parts = absent_by (same_text metric e.0) (Some e.1) (lookup (same_text metric) index) none (λ h. cc) in
    let rest = place_new metric index numbers parts.1 in
    ((parts.0, rest.0), rest.1)

-- ---- the same numbers

listed_same : (b : Bool) (one two : RoomList ℕ) (rest more : Option (RoomList ℕ)) → one.items ≡ two.items
    → listed_numbers rest
    ≡ listed_numbers more
    → listed_numbers (cond b (Some one) rest) ≡ listed_numbers (cond b (Some two) more)
listed_same true one two rest more same others = same
listed_same false one two rest more same others = others

pub same_set : (index : Index) (at : ℕ) (numbers : RoomList ℕ) → ((key : List ℕ) (before : RoomList ℕ)
    → slice_get index at ≡ Some (key, before) → numbers.items ≡ before.items)
    → SameNumbers index (set_value_at index at numbers)
same_set [] at numbers same metric = refl
same_set (e ∷ index) zero numbers same metric =
    listed_same (same_text metric e.0) numbers e.1 (lookup (same_text metric) index) (lookup (same_text metric) index)
    (same e.0 e.1 refl) refl
same_set (e ∷ index) (suc at) numbers same metric =
    listed_same (same_text metric e.0) e.1 e.1 (lookup (same_text metric) (set_value_at index at numbers))
    (lookup (same_text metric) index) refl
    (same_set index at numbers same metric)

-- ---- a number more

taken_here : (b : Bool) (before after : RoomList ℕ) (number : ℕ) (rest : Option (RoomList ℕ)) → after.items
    ≡ before.items ++ number ∷ []
    → listed_numbers (cond b (Some after) rest) ≡ listed_numbers (cond b (Some before) rest) ++ cond b (number ∷ []) []
taken_here true before after number rest more = more
taken_here false before after number rest more = sym (append-nil (listed_numbers rest))

taken_behind : (b same : Bool) (own : RoomList ℕ) (number : ℕ) (rest new : Option (RoomList ℕ))
    → (b ≡ true → same ≡ false)
    → listed_numbers new ≡ listed_numbers rest ++ cond same (number ∷ []) []
    → listed_numbers (cond b (Some own) new) ≡ listed_numbers (cond b (Some own) rest) ++ cond same (number ∷ []) []
taken_behind true same own number rest new apart more = sym (append-nil own.items)
    ∙ ap (λ c. own.items ++ cond c (number ∷ []) []) (sym (apart refl))
taken_behind false same own number rest new apart more = more

apart_texts : (other metric key : List ℕ) (b : Bool) → same_text metric key ≡ false → same_text other metric ≡ b
    → same_text other key ≡ true → b ≡ false
apart_texts other metric key true apart is here =
    let one : metric ≡ key = sym ((same_text-Decides other metric).0 is) ∙ (same_text-Decides other key).0 here in
    let same : same_text metric key ≡ true = (same_text-Decides metric key).1 one in absurd cc
apart_texts other metric key false apart is here = refl

pub takes : (index : Index) (metric key : List ℕ) (at number : ℕ) (before after : RoomList ℕ) → IsPlace metric index at
    → slice_get index at ≡ Some (key, before)
    → after.items ≡ before.items ++ number ∷ [] → TakesNumber index (set_value_at index at after) metric number
takes [] metric key at number before after place there more other = absurd place
takes (e ∷ index) metric key zero number before after place there more other =
    let same : e ≡ (key, before) = cc in
    let is : metric ≡ e.0 = (same_text-Decides metric e.0).0 place in
    taken_here (same_text other e.0) e.1 after number (lookup (same_text other) index)
    (more ∙ ap (λ (p : List ℕ × RoomList ℕ). p.1.items ++ number ∷ []) (sym same))
    ∙ ap (λ (k : List ℕ). listed_numbers (cond (same_text other e.0) (Some e.1) (lookup (same_text other) index))
    ++ cond (same_text other k) (number ∷ []) []) (sym is)
takes (e ∷ index) metric key (suc at) number before after place there more other =
    taken_behind (same_text other e.0) (same_text other metric) e.1 number (lookup (same_text other) index)
    (lookup (same_text other) (set_value_at index at after))
    (λ here. apart_texts other metric e.0 (same_text other metric) place.0 refl here)
    (takes index metric key at number before after place.1 there more other)

-- ---- series that come

abbrev pub keys_in : List SeriesGroup → List SeriesKey
keys_in groups = map (λ (group : SeriesGroup). group.0) groups

pub keys_of_groups : (of : SeriesKey → List Point) (keys : List SeriesKey)
    → keys_in (map (λ (key : SeriesKey). (key, of key)) keys) ≡ keys
keys_of_groups of [] = refl
keys_of_groups of (key ∷ keys) = ap (λ (rest : List SeriesKey). key ∷ rest) (keys_of_groups of keys)

with_keys : (groups : List SeriesGroup) (key : SeriesKey) (point : Point)
    → keys_in (with_point groups key point) ≡ cond (has_series key (keys_in groups)) (keys_in groups) (keys_in groups
    ++ key ∷ [])
with_keys [] key point = refl
with_keys (g ∷ groups) key point = by (same_series key g.0) (has_series key (keys_in groups))
    (with_keys groups key point)
  where
    by : (b has : Bool) → keys_in (with_point groups key point) ≡ cond has (keys_in groups) (keys_in groups ++ key ∷ [])
        → keys_in (cond b ((g.0, g.1 ++ point ∷ []) ∷ groups) (g ∷ with_point groups key point))
        ≡ cond (b || has) (g.0 ∷ keys_in groups) (g.0 ∷ (keys_in groups ++ key ∷ []))
    by true has rest = refl
    by false true rest = ap (λ (keys : List SeriesKey). g.0 ∷ keys) rest
    by false false rest = ap (λ (keys : List SeriesKey). g.0 ∷ keys) rest

pub series_keys : (rows : List Row) → keys_in (points_by_series rows) ≡ series_of rows
series_keys rows = keys_of_groups (λ key. points_of key rows) (series_of rows)

series_push : (rows : List Row) (row : Row) → series_of (rows ++ row ∷ []) ≡ cond (has_series row.key (series_of rows))
    (series_of rows) (series_of rows ++ row.key ∷ [])
series_push rows row =
    sym (series_keys (rows ++ row ∷ [])) ∙ ap keys_in (points_by_series-push rows row)
    ∙ with_keys (points_by_series rows) row.key row.point
    ∙ ap (λ (keys : List SeriesKey). cond (has_series row.key keys) keys (keys ++ row.key ∷ [])) (series_keys rows)

pub has_at : (key : SeriesKey) (keys : List SeriesKey) (at : ℕ) → slice_get keys at ≡ Some key → has_series key keys ≡ true
has_at key [] at there = absurd cc
has_at key (k ∷ keys) zero there =
    let same : k ≡ key = cc in
    let is : same_series key k ≡ true = (same_series-Decides key k).1 (sym same) in
    ap (λ b. b || has_series key keys) is
has_at key (k ∷ keys) (suc at) there = ap (λ b. same_series key k || b) (has_at key keys at there)
    ∙ by (same_series key k)
  where
    by : (b : Bool) → (b || true) ≡ true
    by true = refl
    by false = refl

has_none : (key : SeriesKey) (rows : List Row) (b : Bool) → has_series key (series_of rows) ≡ b → points_of key rows
    ≡ [] → b ≡ false
has_none key rows true has none =
    let some = keyed.items_some same_series same_series-Decides key_of_row key rows has in
    let count = length-map (rows_of key rows) (λ (row : Row). row.point) in
    absurd (omega (arith, some, count, ap length none))
has_none key rows false has none = refl

numbers_push : (n : ℕ) (metric : List ℕ) (keys : List SeriesKey) (key : SeriesKey)
    → numbers_from n metric (keys ++ key ∷ []) ≡ numbers_from n metric keys ++ cond (same_text metric key.metric)
    ((n + length keys) ∷ []) []
numbers_push n metric [] key =
    let same : n + 0 ≡ n = omega arith in ap (λ m. cond (same_text metric key.metric) (m ∷ []) []) (sym same)
numbers_push n metric (k ∷ keys) key =
    let count : suc n + length keys ≡ n + suc (length keys) = omega arith in
    by (same_text metric k.metric) (numbers_push (suc n) metric keys key ∙ ap (λ m. numbers_from (suc n) metric keys
    ++ cond (same_text metric key.metric) (m ∷ []) []) count)
  where
    by : (b : Bool) → numbers_from (suc n) metric (keys ++ key ∷ []) ≡ numbers_from (suc n) metric keys
        ++ cond (same_text metric key.metric) ((n + suc (length keys)) ∷ []) []
        → cond b (n ∷ numbers_from (suc n) metric (keys ++ key ∷ [])) (numbers_from (suc n) metric (keys ++ key ∷ []))
        ≡ cond b (n ∷ numbers_from (suc n) metric keys) (numbers_from (suc n) metric keys)
        ++ cond (same_text metric key.metric) ((n + suc (length keys)) ∷ []) []
    by true rest = ap (λ (ns : List ℕ). n ∷ ns) rest
    by false rest = rest

-- a key more
keys_more : (index same new : Index) (keys : List SeriesKey) (key : SeriesKey) (number : ℕ) → number ≡ length keys
    → NumbersKeys index keys
    → SameNumbers index same → TakesNumber same new key.metric number → NumbersKeys new (keys ++ key ∷ [])
keys_more index same new keys key number count has stays more metric =
    let number_is : number ≡ 0 + length keys = omega (arith, count) in
    more metric
    ∙ ap (λ (ns : List ℕ). ns ++ cond (same_text metric key.metric) (number ∷ []) []) (stays metric ∙ has metric)
    ∙ ap (λ n. numbers_from 0 metric keys ++ cond (same_text metric key.metric) (n ∷ []) []) number_is
    ∙ sym (numbers_push 0 metric keys key)

-- ---- the series of a map, one after another

abbrev pub Entries : Type 0
Entries = List (SeriesKey × SeriesPoints)

-- the first so many keys of a map have their numbers
pub record NumberedSoFar (index : Index) (number : ℕ) (left all : Entries) : Type 0 where
  pub done : List SeriesKey
  pub split : done ++ keys_of left ≡ keys_of all
  pub count : number ≡ length done
  pub numbered : NumbersKeys index done

pub none_numbered : (index : Index) (number : ℕ) (left all : Entries) → index ≡ [] → number ≡ 0 → left ≡ all
    → NumberedSoFar index number left all
none_numbered index number left all none at_first same = record {
  done = [];
  split = ap keys_of same;
  count = at_first;
  numbered = λ metric. ap (λ (es : Index). listed_numbers (lookup (same_text metric) es)) none;
}

pub one_numbered : (index same new : Index) (number next : ℕ) (left rest all : Entries) (key : SeriesKey)
    (series : SeriesPoints)
    → NumberedSoFar index number left all → left ≡ (key, series) ∷ rest → SameNumbers index same → TakesNumber same new
    key.metric number
    → next ≡ number + 1 → NumberedSoFar new next rest all
one_numbered index same new number next left rest all key series so_far is stays more count = record {
  done = so_far.done ++ key ∷ [];
  split = append_assoc so_far.done (key ∷ []) (keys_of rest) ∙ ap (λ (es : Entries). so_far.done ++ keys_of es)
      (sym is) ∙ so_far.split;
  count = omega (arith, count, so_far.count, length-append so_far.done (key ∷ []));
  numbered = keys_more index same new so_far.done key number so_far.count so_far.numbered stays more;
}

pub all_numbered : (index : Index) (number : ℕ) (left all : Entries) → NumberedSoFar index number left all → left ≡ []
    → NumbersKeys index (keys_of all)
all_numbered index number left all so_far none =
    subst (NumbersKeys index) (sym (append-nil so_far.done) ∙ ap (λ (es : Entries). so_far.done ++ keys_of es)
    (sym none) ∙ so_far.split) so_far.numbered

-- a row of a series that is there
pub numbers_known : (index : Index) (rows : List Row) (row : Row) (at : ℕ) → slice_get (series_of rows) at
    ≡ Some row.key → HasSeriesNumbers index rows → HasSeriesNumbers index (rows ++ row ∷ [])
numbers_known index rows row at there has metric =
    has metric
    ∙ sym (ap (numbers_from 0 metric) (series_push rows row
    ∙ ap (λ b. cond b (series_of rows) (series_of rows ++ row.key ∷ [])) (has_at row.key (series_of rows) at
    there)))

-- the first row of a series
pub numbers_new : (index new : Index) (rows : List Row) (row : Row) (number : ℕ) → points_of row.key rows ≡ [] → number
    ≡ length (series_of rows) → HasSeriesNumbers index rows → TakesNumber index new row.key.metric number
    → HasSeriesNumbers new (rows ++ row ∷ [])
numbers_new index new rows row number none count has more metric =
    let fresh = has_none row.key rows (has_series row.key (series_of rows)) refl none in
    let keys = series_of rows in
    let own = same_text metric row.key.metric in
    let number_is : number ≡ 0 + length keys = omega (arith, count) in
    more metric
    ∙ ap (λ (ns : List ℕ). ns ++ cond own (number ∷ []) []) (has metric)
    ∙ ap (λ n. numbers_from 0 metric keys ++ cond own (n ∷ []) []) number_is
    ∙ sym (numbers_push 0 metric keys row.key)
    ∙ sym (ap (numbers_from 0 metric) (series_push rows row
    ∙ ap (λ b. cond b (series_of rows) (series_of rows ++ row.key ∷ [])) fresh))

-- ---- room

pub set_there : (index : Index) (at : ℕ) (key : List ℕ) (before after : RoomList ℕ) → slice_get index at
    ≡ Some (key, before)
    → slice_get (set_value_at index at after) at ≡ Some (key, after)
set_there [] at key before after there = absurd cc
set_there (e ∷ index) zero key before after there =
    let one : e ≡ (key, before) = cc in ap (λ (p : List ℕ × RoomList ℕ). Some (p.0, after)) one
set_there (e ∷ index) (suc at) key before after there = set_there index at key before after there

has_room : (metric : List ℕ) (index : Index) (at : ℕ) → IsPlace metric index at → IfSome (slice_get index at)
    (λ entry. 1 ≤ entry.1.spare) → HasRoom index metric at
has_room metric [] at place room = absurd place
has_room metric (e ∷ index) zero place room = (place, e.0, e.1, refl, room)
has_room metric (e ∷ index) (suc at) place room =
    let rest = has_room metric index at place.1 room in (place, rest.1, rest.2, rest.3, rest.4)

pub room_found : {E : Type 0} (metric : List ℕ) (index : Index) (at : ℕ) (r : Result ℕ E) → IsPlace metric index at
    → IfOk r (λ place. place ≡ at)
    → OnOk r (IfSome (slice_get index at) (λ entry. 1 ≤ entry.1.spare)) → IfOk r (HasRoom index metric)
room_found metric index at (Ok place) there same room =
    subst (HasRoom index metric) (sym same) (has_room metric index at there room)
room_found metric index at (Err error) there same room = tt
