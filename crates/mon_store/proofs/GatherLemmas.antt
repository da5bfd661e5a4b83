-- What a caller has while it gathers the rows of one slot after another.
use Rattle.std.proofs.Common.{◌≡◌, ℕ, ◌+◌, ◌-◌, ◌^◌, ◌≤◌, ◌<◌, List, [], ◌∷◌, ◌++◌, length, take, drop, min, refl, sym}
use Rattle.std.proofs.Common.{ap, subst, ◌∙◌, arith, Some}
use Rattle.std.specs.Prelude.{slice_get, slice_index_or, get_or, zero, suc}
use Rattle.std.specs.List.{AllByRecursion, flat_map}
use Rattle.std.proofs.lemmas.List.{append_assoc, drop_more, length-append}
use Rattle.std.proofs.lemmas.List.Elements.{Contains-get_or}
use Rattle.history_book.proofs.ListLemmas.{prefix_length, prefix_refl}
use Rattle.know.specs.Knowledge.{Knowledge, stopped_count}
use Rattle.mon_topo.proofs.FrontLemmas.{begins_from, take_on}
use Rattle.mon_topo.proofs.RangeHistoryLemmas.{all_at}
use Rattle.mon_topo.specs.Zones.{leaves_in}
use Rattle.mon_topo.specs.declared.zones.ZoneSpec.{ZoneSpec}
use Rattle.mon_value.specs.Histories.{leaf_history, range_history}
use Rattle.mon_value.specs.LeafHistories.{kept_rows}
use Rattle.mon_value.specs.declared.positions.Leaf.{Leaf}
use Rattle.mon_value.specs.declared.rows.Row.{Row}
use Rattle.query_traces.specs.Traces.{cut_of, resolved_rows, source_of}
use Rattle.query_traces.specs.declared.answers.Resolved.{Resolved}
use Rattle.query_traces.specs.declared.answers.Trace.{Trace}
use Rattle.mon_store.specs.Gathers.{HasSeenTrace}
use Rattle.mon_store.specs.Passes.{OwnsTheSame}
use Rattle.running_query.proofs.GoingLemmas.{fronts_through}

pub owns_itself : (know : Knowledge) → OwnsTheSame know know
owns_itself know = record {
  fronts = (λ l. prefix_refl (leaf_history know.seen l), λ r. prefix_refl (range_history know.seen r));
  own = refl;
  met = refl;
  stock = refl;
  lost = refl;
  rooms = refl;
  holds = refl;
}

pub owns_on : (a b c : Knowledge) → OwnsTheSame a b → OwnsTheSame b c → OwnsTheSame a c
owns_on a b c h k = record {
  fronts = fronts_through a.seen b.seen c.seen h.fronts k.fronts;
  own = k.own ∙ h.own;
  met = k.met ∙ h.met;
  stock = k.stock ∙ h.stock;
  lost = k.lost ∙ h.lost;
  rooms = k.rooms ∙ h.rooms;
  holds = k.holds ∙ h.holds;
}

-- ---- rows, one slot after another

pub none_handed : (n most : ℕ) → min n most ≡ min (n + 0) most
none_handed n most = ap (λ k. min k most) (by n)
  where
    by : (n : ℕ) → n ≡ n + 0
    by n = omega arith

two_counts : (a b c d now n : ℕ) → min b n ≡ min (a + c) n → now ≡ min (b + d) n → min now n ≡ min (a + (c + d)) n
two_counts a b c d now n e f = omega arith

-- what was handed out before these rows and with them
pub counted_on : (a b now : ℕ) (made more : List Row) → stopped_count b ≡ stopped_count (a + length made)
    → now ≡ stopped_count (b + length more) → stopped_count now ≡ stopped_count (a + length (made ++ more))
counted_on a b now made more e f =
    two_counts a b (length made) (length more) now (2 ^ 64 - 1) e f
    ∙ ap (λ n. stopped_count (a + n)) (sym (length-append made more))

-- a slot's rows at a cut that was seen before are those that were seen then
rows_then : (before now : Knowledge) (trace : Trace) (one : Resolved) (cut : ℕ) → OwnsTheSame before now
    → cut ≡ cut_of trace one.leaf → cut ≤ length (leaf_history before.seen one.leaf)
    → kept_rows one.range one.slot (take cut (leaf_history now.seen one.leaf)) ≡ resolved_rows before.seen trace one
rows_then before now trace one cut same is short =
    let was = leaf_history before.seen one.leaf in
    let all = leaf_history now.seen one.leaf in
    let front = same.fronts.0 one.leaf in
    ap (kept_rows one.range one.slot)
    (take_on all was cut (begins_from all was front.0 (sym front.1)) short ∙ ap (λ n. take n was) is)

read_at : (xs : List ℕ) (i x : ℕ) → slice_get xs i ≡ Some x → x ≡ get_or xs i 0
read_at [] i x e = absurd cc
read_at (y ∷ xs) zero x e = by x y e
  where
    by : (x y : ℕ) → Some y ≡ Some x → x ≡ y
    by x y e = cc
read_at (y ∷ xs) (suc i) x e = read_at xs i x e

module _ (zones : List ZoneSpec) (know : Knowledge) (trace : Trace) (seen : HasSeenTrace zones know trace) where
  -- the leaf of each slot is there
  pub one_there : (items : List Resolved) (i : ℕ) (d : Resolved) → items ≡ trace.resolved → i < length items
      → (slice_index_or items i d).leaf.0 < length (leaves_in zones)
  one_there items i d is there =
      all_at (λ (one : Resolved). one.leaf.0 < length (leaves_in zones)) items (slice_index_or items i d)
      (subst (AllByRecursion (λ (one : Resolved). one.leaf.0 < length (leaves_in zones))) (sym is) seen.there)
      (Contains-get_or items i d there)

  -- and its cut is among them
  pub cut_there : (leaf : Leaf) → leaf.0 < length (leaves_in zones) → leaf.0 < length trace.cuts
  cut_there leaf there = subst (λ n. leaf.0 < n) (sym seen.cuts) there

  cut_short : (leaf : Leaf) (cut : ℕ) → leaf.0 < length (leaves_in zones) → slice_get trace.cuts leaf.0 ≡ Some cut
      → cut ≤ length (leaf_history know.seen leaf)
  cut_short leaf cut there is = subst (λ n. n ≤ length (leaf_history know.seen leaf))
      (sym (read_at trace.cuts leaf.0 cut is)) (seen.within leaf there)

  -- which the caller has still seen
  pub cut_seen : (now : Knowledge) (leaf : Leaf) (cut : ℕ) → OwnsTheSame know now → leaf.0 < length (leaves_in zones)
      → slice_get trace.cuts leaf.0 ≡ Some cut → cut ≤ length (leaf_history now.seen leaf)
  cut_seen now leaf cut same there is =
      by cut (length (leaf_history know.seen leaf)) (length (leaf_history now.seen leaf)) (cut_short leaf cut there is)
      (prefix_length (leaf_history know.seen leaf) (leaf_history now.seen leaf) (same.fronts.0 leaf))
    where
      by : (a b c : ℕ) → a ≤ b → b ≤ c → a ≤ c
      by a b c p q = omega arith

  -- one slot more
  pub one_more : (now : Knowledge) (made next : List Row) (items : List Resolved) (i cut : ℕ) (d : Resolved)
      → items ≡ trace.resolved → i < length items → OwnsTheSame know now
      → slice_get trace.cuts (slice_index_or items i d).leaf.0 ≡ Some cut
      → made ++ flat_map (resolved_rows know.seen trace) (drop i trace.resolved) ≡ source_of know.seen trace
      → next ≡ made ++ kept_rows (slice_index_or items i d).range (slice_index_or items i d).slot
      (take cut (leaf_history now.seen (slice_index_or items i d).leaf))
      → next ++ flat_map (resolved_rows know.seen trace) (drop (i + 1) trace.resolved) ≡ source_of know.seen trace
  one_more now made next items i cut d is there same at all grown =
      let one : Resolved = slice_index_or items i d in
      let rows = resolved_rows know.seen trace one in
      let later = flat_map (resolved_rows know.seen trace) (drop (i + 1) trace.resolved) in
      let here = one_there items i d is there in
      let rest : drop i items ≡ one ∷ drop (i + 1) items = drop_more items i d there in
      let same_rest : drop i trace.resolved ≡ one ∷ drop (i + 1) trace.resolved =
      ap (drop i) (sym is) ∙ rest ∙ ap (λ (xs : List Resolved). one ∷ drop (i + 1) xs) is in
      ap (λ (xs : List Row). xs ++ later)
      (grown ∙ ap (λ (xs : List Row). made ++ xs)
      (rows_then know now trace one cut same (read_at trace.cuts one.leaf.0 cut at) (cut_short one.leaf cut here at)))
      ∙ append_assoc made rows later
      ∙ ap (λ (xs : List Resolved). made ++ flat_map (resolved_rows know.seen trace) xs) (sym same_rest)
      ∙ all
