-- Runs of entries.
use Rattle.std.proofs.Common.{◌≡◌, ◌∙◌, ◌+◌, ◌-◌, ◌<◌, ℕ, zero, suc, List, [], ◌∷◌, ◌++◌, length, Some, slice_get}
use Rattle.std.proofs.Common.{refl, sym, ap, arith, append_assoc, subst, ◌≤◌}
use Rattle.std.specs.List.{flat_map}
use Rattle.leaf_store.specs.declared.kept.Kept.{Kept}
use Rattle.leaf_store.specs.declared.kept.Kept.TheVariants as kept
use Rattle.leaf_store.specs.declared.runs.Run.{Run}
use Rattle.leaf_store.specs.declared.runs.Run.TheVariants as run
use Rattle.leaf_store.specs.within.KeptEntries.{entries_of, puts, run_entries}

pub puts_count : (pass replica row count : ℕ) → length (puts pass replica row count) ≡ count
puts_count pass replica row zero = refl
puts_count pass replica row (suc count) = ap suc (puts_count pass replica (row + 1) count)

puts_more : (pass replica row count : ℕ)
    → puts pass replica row (suc count) ≡ puts pass replica row count ++ kept.Put pass replica (row + count) ∷ []
puts_more pass replica row zero = ap (λ n. kept.Put pass replica n ∷ []) (omega arith)
puts_more pass replica row (suc count) =
    ap (λ entries. kept.Put pass replica row ∷ entries) (puts_more pass replica (row + 1) count
    ∙ ap (λ n. puts pass replica (row + 1) count ++ kept.Put pass replica n ∷ []) (omega arith))

-- a put more, of the row behind the last one
pub puts_longer : (pass replica first last row : ℕ) → first ≤ row → row ≡ last + 1
    → puts pass replica first (row + 1 - first)
    ≡ puts pass replica first (last + 1 - first) ++ kept.Put pass replica row ∷ []
puts_longer pass replica first last row within next =
    let count : row + 1 - first ≡ suc (last + 1 - first) = omega (arith, within, next) in
    let behind : first + (last + 1 - first) ≡ row = omega (arith, within, next) in
    ap (puts pass replica first) count ∙ puts_more pass replica first (last + 1 - first)
    ∙ ap (λ n. puts pass replica first (last + 1 - first) ++ kept.Put pass replica n ∷ []) behind

pub puts_at : (pass replica row count i : ℕ) → i < count
    → slice_get (puts pass replica row count) i ≡ Some (kept.Put pass replica (row + i))
puts_at pass replica row zero i within = absurd (omega arith)
puts_at pass replica row (suc count) zero within = ap (λ n. Some (kept.Put pass replica n)) (omega arith)
puts_at pass replica row (suc count) (suc i) within =
    puts_at pass replica (row + 1) count i (omega arith) ∙ ap (λ n. Some (kept.Put pass replica n)) (omega arith)

-- the numbers of a run's entries
pub puts_within : (own : Run) (replica first last pass number : ℕ) → own ≡ run.Puts replica first last pass
    → number < length (run_entries own) → number < last + 1 - first
puts_within own replica first last pass number is within =
    subst (λ n. number < n) (ap (λ r. length (run_entries r)) is ∙ puts_count pass replica first (last + 1 - first))
    within

-- the last run is longer by an entry
pub entries_longer : (runs : List Run) (last longer : Run) (entry : Kept)
    → run_entries longer ≡ run_entries last ++ entry ∷ []
    → entries_of runs longer ≡ entries_of runs last ++ entry ∷ []
entries_longer runs last longer entry is =
    ap (λ own. flat_map run_entries runs ++ own) is
    ∙ sym (append_assoc (flat_map run_entries runs) (run_entries last) (entry ∷ []))
