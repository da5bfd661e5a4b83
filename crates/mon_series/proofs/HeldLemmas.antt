-- What a map keeps, as groups.
use Rattle.std.proofs.Common.{◌≡◌, ◌∙◌, ◌<◌, ◌+◌, nat_lt, not, position, arith, ℕ, zero, suc, Bool, true, false, cond}
use Rattle.std.proofs.Common.{Option, Some, None, option_map, List, [], ◌∷◌, ◌++◌, map, length}
use Rattle.std.proofs.Common.{refl, sym, ap, slice_get}
use Rattle.std.specs.Map.{keys_of, lookup}
use Rattle.std.specs.List.{position_or_len}
use Rattle.std.proofs.lemmas.List.{map-append, length-map}
use Rattle.indexmap.specs.Layout.{set_value_at}
use Rattle.mon_series.specs.SeriesMaps.{points_held, series_held}
use Rattle.mon_series.specs.SeriesPoints.{SeriesPoints, all_points}
use Rattle.mon_value.specs.Same.{same_series}
use Rattle.mon_value.specs.declared.rows.Point.{Point}
use Rattle.mon_value.specs.declared.rows.SeriesKey.{SeriesKey}
use Rattle.mon_series.specs.within.Places.{Group, count_at, with_point_at}
use Rattle.mon_series.proofs.GroupLemmas.{IsFirst}
use Rattle.mon_series.proofs.FirstLemmas.{position_by}

abbrev pub Entries : Type 0
Entries = List (SeriesKey × SeriesPoints)

-- ---- some points of each series

module _ (of : SeriesPoints → List Point) where
  pub held_entry : (entries : Entries) (at : ℕ) (key : SeriesKey) (series : SeriesPoints) → slice_get entries at
      ≡ Some (key, series)
      → slice_get (points_held of entries) at ≡ Some (key, of series)
  held_entry [] at key series e = absurd cc
  held_entry (entry ∷ entries) zero key series e =
      let same : entry ≡ (key, series) = cc in ap (λ (e : SeriesKey × SeriesPoints). Some (e.0, of e.1)) same
  held_entry (entry ∷ entries) (suc at) key series e = held_entry entries at key series e

  pub held_out : (entries : Entries) (at : ℕ) → slice_get entries at ≡ None → slice_get (points_held of entries) at ≡ None
  held_out [] at e = refl
  held_out (entry ∷ entries) zero e = absurd cc
  held_out (entry ∷ entries) (suc at) e = held_out entries at e

  -- the same points in the series at a number
  pub held_same : (entries : Entries) (at : ℕ) (old new : SeriesPoints) → Some old
      ≡ slice_get (map (λ e. e.1) entries) at
      → of new ≡ of old → points_held of (set_value_at entries at new) ≡ points_held of entries
  held_same [] at old new e made = refl
  held_same (entry ∷ entries) zero old new e made =
      let same : entry.1 ≡ old = cc in
      ap (λ (ps : List Point). (entry.0, ps) ∷ points_held of entries) (made ∙ ap of (sym same))
  held_same (entry ∷ entries) (suc at) old new e made =
      ap (λ (more : List Group). (entry.0, of entry.1) ∷ more) (held_same entries at old new e made)

  lookup_cons : (test : SeriesKey → Bool) (e : SeriesKey × SeriesPoints) (es : Entries) (b : Bool)
      → option_map of (cond b (Some e.1) (lookup test es)) ≡ cond b (Some (of e.1))
      (option_map of (lookup test es))
  lookup_cons test e es true = refl
  lookup_cons test e es false = refl

  -- a look-up in the map finds the points of the group
  pub held_lookup : (test : SeriesKey → Bool) (es : Entries) → lookup test (points_held of es) ≡ option_map of
      (lookup test es)
  held_lookup test [] = refl
  held_lookup test (e ∷ es) = ap (cond (test e.0) (Some (of e.1))) (held_lookup test es)
      ∙ sym (lookup_cons test e es (test e.0))

  no_points : (found : Option SeriesPoints) → option_map of found ≡ None → found ≡ None
  no_points None e = refl
  no_points (Some series) e = absurd cc

  pub held_none : (key : SeriesKey) (entries : Entries) → lookup (same_series key) (points_held of entries) ≡ None
      → lookup (same_series key) entries ≡ None
  held_none key entries none = no_points (lookup (same_series key) entries)
      (sym (held_lookup (same_series key) entries) ∙ none)

  pub none_held : (key : SeriesKey) (entries : Entries) → lookup (same_series key) entries ≡ None
      → lookup (same_series key) (points_held of entries) ≡ None
  none_held key entries none = held_lookup (same_series key) entries ∙ ap (option_map of) none

  pub held_last : (entries : Entries) (key : SeriesKey) (series : SeriesPoints)
      → points_held of (entries ++ (key, series) ∷ []) ≡ points_held of entries ++ (key, of series) ∷ []
  held_last entries key series = map-append (λ entry. (entry.0, of entry.1)) entries ((key, series) ∷ [])

-- ---- by number

pub held_get : (entries : Entries) (at : ℕ) (series : SeriesPoints) → Some series ≡ slice_get (map (λ e. e.1) entries)
    at
    → (key : SeriesKey) × (slice_get (series_held entries) at ≡ Some (key, all_points series))
held_get [] at series e = absurd cc
held_get (entry ∷ entries) zero series e =
    let same : entry.1 ≡ series = cc in (entry.0, ap (λ (s : SeriesPoints). Some (entry.0, all_points s)) same)
held_get (entry ∷ entries) (suc at) series e = held_get entries at series e

-- a point more in the series at a number
pub held_grown : (entries : Entries) (at : ℕ) (old new : SeriesPoints) (point : Point) → Some old
    ≡ slice_get (map (λ e. e.1) entries) at
    → all_points new ≡ all_points old ++ point ∷ [] → series_held (set_value_at entries at new) ≡ with_point_at
    (series_held entries) at point
held_grown [] at old new point e made = refl
held_grown (entry ∷ entries) zero old new point e made =
    let same : entry.1 ≡ old = cc in
    ap (λ (ps : List Point). (entry.0, ps) ∷ series_held entries)
    (made ∙ ap (λ (s : SeriesPoints). all_points s ++ point ∷ []) (sym same))
held_grown (entry ∷ entries) (suc at) old new point e made =
    ap (λ (more : List Group). (entry.0, all_points entry.1) ∷ more) (held_grown entries at old new point e made)

pub held_count : (entries : Entries) (at : ℕ) (series : SeriesPoints) → Some series
    ≡ slice_get (map (λ e. e.1) entries) at
    → length (all_points series) ≡ count_at (series_held entries) at
held_count [] at series e = absurd cc
held_count (entry ∷ entries) zero series e = let same : entry.1 ≡ series = cc in
    ap (λ (s : SeriesPoints). length (all_points s)) (sym same)
held_count (entry ∷ entries) (suc at) series e = held_count entries at series e

-- ---- by key

first_by : (key : SeriesKey) (entry : SeriesKey × SeriesPoints) (entries : Entries) (at : ℕ) (b : Bool)
    → same_series key entry.0 ≡ b
    → cond (not b) (1 + position_or_len (same_series key) (keys_of entries)) 0 ≡ at → at < suc (length entries)
    → ((n : ℕ) → position_or_len (same_series key) (keys_of entries) ≡ n → n < length entries
    → IsFirst key (series_held entries) n)
    → IsFirst key ((entry.0, all_points entry.1) ∷ series_held entries) at
first_by key entry entries zero true is at_is within rest = is
first_by key entry entries zero false is at_is within rest = absurd (omega arith)
first_by key entry entries (suc at) true is at_is within rest = absurd (omega arith)
first_by key entry entries (suc at) false is at_is within rest = (is, rest at (omega arith) (omega arith))

first_held : (key : SeriesKey) (entries : Entries) (at : ℕ) → position_or_len (same_series key) (keys_of entries) ≡ at
    → at < length entries → IsFirst key (series_held entries) at
first_held key [] at is within = absurd (omega arith)
first_held key (entry ∷ entries) at is within = first_by key entry entries at (same_series key entry.0) refl is within
    (first_held key entries)

-- the group of the first key that passes a test
pub held_first : (key : SeriesKey) (entries : Entries) (at : ℕ) → position (same_series key) (keys_of entries)
    ≡ Some at → IsFirst key (series_held entries) at
held_first key entries at is =
    let keys = keys_of entries in
    let there = position_by (position_or_len (same_series key) keys) (length keys) at
    (nat_lt (position_or_len (same_series key) keys) (length keys)) refl is in
    let count = length-map entries (λ entry. entry.0) in
    first_held key entries at there.0 (omega arith)
