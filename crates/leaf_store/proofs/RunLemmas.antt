-- Entries of runs that are gone over from behind, but for the last so many.
use Rattle.std.proofs.Common.{◌≡◌, ◌∙◌, ◌+◌, ◌-◌, ◌<◌, ◌≤◌, nat_lt, ℕ, zero, suc, Bool, true, false, Option, Some, None}
use Rattle.std.proofs.Common.{List, [], ◌∷◌, ◌++◌, length, take, slice_index_or, refl, sym, ap, subst, append-nil, arith}
use Rattle.std.specs.List.{flat_map}
use Rattle.std.proofs.lemmas.Bool.Decides.{nat_tests}
use Rattle.std.proofs.lemmas.List.{length-append, take_more}
use Rattle.std.proofs.lemmas.List.Concat.{flat_map-append}
use Rattle.std.proofs.Math.Seq.{take-length}
use Rattle.mon_value.specs.Turns.{Turn}
use Rattle.mon_value.specs.declared.histories.Entry.{Entry}
use Rattle.mon_value.specs.declared.positions.Range.{Range}
use Rattle.mon_value.specs.declared.positions.Slot.{Slot}
use Rattle.leaf_store.specs.declared.kept.Kept.{Kept}
use Rattle.leaf_store.specs.declared.runs.Run.{Run}
use Rattle.leaf_store.specs.within.FromBehind.{Standing, behind_turns, but_last, entry_steps, replica_steps}
use Rattle.leaf_store.specs.within.KeptEntries.{entries_of, run_entries}
use Rattle.leaf_store.specs.within.Replicas.{AllHaveRows, Replicas, entry_of, shown_entries, with_first}
use Rattle.leaf_store.proofs.FromBehindLemmas.{behind_turns-append}

all_left : (replicas : Replicas) (front back : List Kept) → AllHaveRows replicas (front ++ back)
    → AllHaveRows replicas front × AllHaveRows replicas back
all_left replicas [] back all = (tt, all)
all_left replicas (k ∷ front) back all =
    let rest = all_left replicas front back all.1 in
    ((all.0, rest.0), rest.1)

-- the entries of some runs, and of the last one
pub runs_left : (replicas : Replicas) (runs : List Run) (last : Run) → AllHaveRows replicas (entries_of runs last)
    → AllHaveRows replicas (flat_map run_entries runs) × AllHaveRows replicas (run_entries last)
runs_left replicas runs last all = all_left replicas (flat_map run_entries runs) (run_entries last) all

-- the last of the first so many runs
runs_next : (runs : List Run) (m n : ℕ) (d : Run) → m ≡ n + 1 → n < length runs
    → flat_map run_entries (take m runs) ≡ flat_map run_entries (take n runs) ++ run_entries (slice_index_or runs n d)
runs_next runs m n d next below =
    let run = slice_index_or runs n d in
    ap (λ (k : ℕ). flat_map run_entries (take k runs)) next
    ∙ ap (flat_map run_entries) (take_more runs n d below)
    ∙ flat_map-append run_entries (take n runs) (run ∷ [])
    ∙ ap (λ (ks : List Kept). flat_map run_entries (take n runs) ++ ks) (append-nil (run_entries run))

pub runs_front : (replicas : Replicas) (runs : List Run) (m n : ℕ) (d : Run) → m ≡ n + 1 → n < length runs
    → AllHaveRows replicas (flat_map run_entries (take m runs))
    → AllHaveRows replicas (flat_map run_entries (take n runs)) × AllHaveRows replicas (run_entries (slice_index_or runs n d))
runs_front replicas runs m n d next below all =
    all_left replicas (flat_map run_entries (take n runs)) (run_entries (slice_index_or runs n d))
    (subst (AllHaveRows replicas) (runs_next runs m n d next below) all)

first_behind : (entry : Option Entry) (front back : List Entry)
    → with_first entry (front ++ back) ≡ with_first entry front ++ back
first_behind None front back = refl
first_behind (Some entry) front back = refl

shown_both : (replicas : Replicas) (front back : List Kept)
    → shown_entries replicas (front ++ back) ≡ shown_entries replicas front ++ shown_entries replicas back
shown_both replicas [] back = refl
shown_both replicas (k ∷ front) back =
    ap (with_first (entry_of replicas k)) (shown_both replicas front back)
    ∙ first_behind (entry_of replicas k) (shown_entries replicas front) (shown_entries replicas back)

take_both : {A : Type 0} (n : ℕ) (front back : List A)
    → take n (front ++ back) ≡ take n front ++ take (n - length front) back
take_both zero front back =
    let none : 0 ≡ 0 - length front = omega arith in
    ap (λ m. take m back) none
take_both (suc n) [] back =
    let all : suc n ≡ suc n - 0 = omega arith in
    ap (λ m. take m back) all
take_both (suc n) (x ∷ front) back =
    let fewer : n - length front ≡ suc n - suc (length front) = omega arith in
    ap (λ xs. x ∷ xs) (take_both n front back ∙ ap (λ m. take n front ++ take m back) fewer)

take_none : {A : Type 0} (n : ℕ) → take {A = A} n [] ≡ []
take_none zero = refl
take_none (suc n) = refl

take_all : {A : Type 0} (n : ℕ) (items : List A) → length items ≤ n → take n items ≡ items
take_all n [] more = take_none n
take_all zero (x ∷ items) more = absurd (omega (arith, more))
take_all (suc n) (x ∷ items) more = ap (λ xs. x ∷ xs) (take_all n items (omega (arith, more)))

front_by : {A : Type 0} (count : ℕ) (front back : List A) (b : Bool) → nat_lt (length back) count ≡ b
    → take (length front + length back - count) front ≡ but_last (count - length back) front
front_by count front back true more =
    let same : length front + length back - count ≡ length front - (count - length back) =
    grind (arith, nat_tests) in
    ap (λ n. take n front) same
front_by count front back false less =
    let all : length front ≤ length front + length back - count = grind (arith, nat_tests) in
    let none : length front ≤ length front - (count - length back) = grind (arith, nat_tests) in
    take_all (length front + length back - count) front all
    ∙ sym (take_all (length front - (count - length back)) front none)

-- all but the last so many of two lists
but_last-append : {A : Type 0} (count : ℕ) (front back : List A)
    → but_last count (front ++ back) ≡ but_last (count - length back) front ++ but_last count back
but_last-append count front back =
    let left : length front + length back - count - length front ≡ length back - count = omega arith in
    ap (λ n. take (n - count) (front ++ back)) (length-append front back)
    ∙ take_both (length front + length back - count) front back
    ∙ (λ i. front_by count front back (nat_lt (length back) count) refl i ++ take (left i) back)

module _ (range : Range) (slot : Slot) (replicas : Replicas) where
  -- what the entries but the last so many make of what stands behind them
  abbrev gathered : ℕ → List Kept → Standing → Standing
  gathered count ks last = behind_turns (replica_steps range slot (shown_entries replicas (but_last count ks))) last

  gathered_both : (count : ℕ) (front back : List Kept) (last : Standing)
      → gathered count (front ++ back) last ≡ gathered (count - length back) front (gathered count back last)
  gathered_both count front back last =
      let one = but_last (count - length back) front in
      let other = but_last count back in
      let steps : List Entry → List Turn = replica_steps range slot in
      ap (λ (ks : List Kept). behind_turns (steps (shown_entries replicas ks)) last) (but_last-append count front back)
      ∙ ap (λ (es : List Entry). behind_turns (steps es) last) (shown_both replicas one other)
      ∙ ap (λ (turns : List Turn). behind_turns turns last)
      (flat_map-append (entry_steps range slot) (shown_entries replicas one) (shown_entries replicas other))
      ∙ behind_turns-append (steps (shown_entries replicas one)) (steps (shown_entries replicas other)) last

  -- of the last of the first so many runs, and those in front of it
  pub gathered_run : (runs : List Run) (m n count left : ℕ) (d : Run) (last found whole : Standing)
      → m ≡ n + 1 → n < length runs
      → found ≡ behind_turns (replica_steps range slot (shown_entries replicas
      (but_last count (run_entries (slice_index_or runs n d))))) last
      → left ≡ count - length (run_entries (slice_index_or runs n d))
      → behind_turns (replica_steps range slot (shown_entries replicas
      (but_last count (flat_map run_entries (take m runs))))) last ≡ whole
      → behind_turns (replica_steps range slot (shown_entries replicas
      (but_last left (flat_map run_entries (take n runs))))) found ≡ whole
  gathered_run runs m n count left d last found whole next below is behind all =
      let front = flat_map run_entries (take n runs) in
      let run = slice_index_or runs n d in
      ap (λ (k : ℕ). gathered k front found) behind
      ∙ ap (gathered (count - length (run_entries run)) front) is
      ∙ sym (gathered_both count front (run_entries run) last)
      ∙ ap (λ (ks : List Kept). gathered count ks last) (sym (runs_next runs m n d next below))
      ∙ all

  -- of the last run, and those in front of it
  pub gathered_last : (runs : List Run) (run : Run) (items : List Kept) (cut count left : ℕ) (last found : Standing)
      → items ≡ entries_of runs run → cut ≤ length items → count ≡ length items
      → found ≡ behind_turns (replica_steps range slot (shown_entries replicas
      (but_last (count - cut) (run_entries run)))) last
      → left ≡ count - cut - length (run_entries run)
      → behind_turns (replica_steps range slot (shown_entries replicas
      (but_last left (flat_map run_entries (take (length runs) runs))))) found
      ≡ behind_turns (replica_steps range slot (shown_entries replicas (take cut items))) last
  gathered_last runs run items cut count left last found are within all is behind =
      let whole : List Kept = flat_map run_entries runs in
      let same : length items - (count - cut) ≡ cut = omega (arith, within, all) in
      ap (λ (rs : List Run). gathered left (flat_map run_entries rs) found) (take-length runs)
      ∙ ap (λ (k : ℕ). gathered k whole found) behind
      ∙ ap (gathered (count - cut - length (run_entries run)) whole) is
      ∙ sym (gathered_both (count - cut) whole (run_entries run) last)
      ∙ ap (λ (ks : List Kept). gathered (count - cut) ks last) (sym are)
      ∙ ap (λ (k : ℕ). behind_turns (replica_steps range slot (shown_entries replicas (take k items))) last) same

  -- no run is left
  pub none_gathered : (runs : List Run) (n count : ℕ) (found : Standing) → n ≡ 0
      → behind_turns (replica_steps range slot (shown_entries replicas
      (but_last count (flat_map run_entries (take n runs))))) found ≡ found
  none_gathered runs n count found none =
      ap (λ (k : ℕ). gathered count (flat_map run_entries (take k runs)) found) none
      ∙ ap (λ (ks : List Kept). behind_turns (replica_steps range slot (shown_entries replicas ks)) found)
      (take_none (0 - count))
