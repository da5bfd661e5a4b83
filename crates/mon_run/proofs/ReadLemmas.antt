-- The reads of a folder, with one more.
use Rattle.std.proofs.Common.{◌≡◌, ◌∙◌, ◌≤◌, ◌<◌, ◌+◌, ℕ, Bool, true, false, cond, List, [], ◌∷◌, ◌++◌, Result, Err}
use Rattle.std.proofs.Common.{◌⊎◌, inl, length, sym, ap, subst, arith}
use Rattle.std.proofs.lemmas.Bool.Decides.{nat_tests}
use Rattle.mon_value.specs.declared.limits.TheConstants.{LONGEST_FILE}
use Rattle.mon_run.specs.Steps.{Rose, is_too_long}
use Rattle.mon_run.specs.Outside.{Asks, asking, failed_reads, last_failed}
use Rattle.mon_run.specs.declared.outside.folder.FolderFault.{FolderFault}
use Rattle.mon_run.specs.declared.outside.folder.FolderFault.TheVariants as fault
use Rattle.mon_run.specs.declared.outside.folder.Asked.{Asked}

counts_at : (first : Bool) (a b : ℕ) → a ≤ b → cond first (a + 1) a ≤ cond first (b + 1) b
counts_at true a b le = omega arith
counts_at false a b le = le

counts_more : (reads : List Asked) (read : Asked) → failed_reads reads ≤ failed_reads (reads ++ read ∷ [])
counts_more [] read = omega arith
counts_more (first ∷ reads) read = counts_at first.failed (failed_reads reads) (failed_reads (reads ++ read ∷ []))
    (counts_more reads read)

rose_at : (first : Bool) (a b : ℕ) → a < b → cond first (a + 1) a < cond first (b + 1) b
rose_at true a b less = omega arith
rose_at false a b less = less

rose_more : (reads : List Asked) (read : Asked) → read.failed ≡ true → failed_reads reads < failed_reads
    (reads ++ read ∷ [])
rose_more [] read failed = subst (λ (b : Bool). 0 < cond b 1 0) (sym failed) (omega arith)
rose_more (first ∷ reads) read failed = rose_at first.failed (failed_reads reads) (failed_reads (reads ++ read ∷ []))
    (rose_more reads read failed)

last_more : (name : List ℕ) (reads : List Asked) (read : Asked) → read.failed ≡ true → last_failed name
    (reads ++ read ∷ []) ≡ read.name
last_more name [] read failed = ap (λ b. cond b read.name name) failed
last_more name (first ∷ reads) read failed = last_more (cond first.failed first.name name) reads read failed

-- the count of faults doesn't fall
pub counts_noted : (old mid new : List Asked) (read : Asked) → mid ≡ old → new ≡ mid ++ read ∷ [] → failed_reads old
    ≤ failed_reads new
counts_noted old mid new read same noted =
    subst (λ (reads : List Asked). failed_reads old ≤ failed_reads reads)
    (sym (noted ∙ ap (λ (reads : List Asked). reads ++ read ∷ []) same)) (counts_more old read)

-- a read that failed counts, and its name is kept
pub failed_noted : (old mid new : List Asked) (read : Asked) (name : List ℕ) → mid ≡ old → new ≡ mid ++ read ∷ []
    → read.failed ≡ true → read.name ≡ name → Rose (failed_reads old) (failed_reads new) × (last_failed [] new ≡ name)
failed_noted old mid new read name same noted failed named =
    let all : new ≡ old ++ read ∷ [] = noted ∙ ap (λ (reads : List Asked). reads ++ read ∷ []) same in (
      inl (subst (λ (reads : List Asked). failed_reads old < failed_reads reads) (sym all) (rose_more old read failed)),
      ap (last_failed []) all ∙ last_more [] old read failed ∙ named,
    )

-- ---- what a read adds

pub asks_failed : {T : Type 0} (read : Result T FolderFault) (name : List ℕ) (before after : List Asked) → read
    ≡ Err fault.Failed → Asks read name before after → after ≡ before ++ asking name true ∷ []
asks_failed read name before after is asks = subst (λ r. Asks r name before after) is asks

pub asks_too_long : {T : Type 0} (read : Result T FolderFault) (name : List ℕ) (before after : List Asked) → read
    ≡ Err fault.TooLong → Asks read name before after → after ≡ before ++ asking name false ∷ []
asks_too_long read name before after is asks = subst (λ r. Asks r name before after) is asks

pub asks_starved : {T : Type 0} (read : Result T FolderFault) (name : List ℕ) (before after : List Asked) → read
    ≡ Err fault.OutOfMemory → Asks read name before after → (after ≡ before)
    ⊎ (after ≡ before ++ asking name false ∷ [])
asks_starved read name before after is asks = subst (λ r. Asks r name before after) is asks

-- ---- how long a file is

-- no longer than a run reads
pub short_by : (content : List ℕ) → length content ≤ LONGEST_FILE → is_too_long content ≡ false
short_by content le = grind (arith, nat_tests)

-- longer
pub long_by : (content : List ℕ) → LONGEST_FILE < length content → is_too_long content ≡ true
long_by content less = grind (arith, nat_tests)
