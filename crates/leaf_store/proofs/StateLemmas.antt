-- A leaf's state after an entry more.
use Rattle.std.proofs.Common.{◌≡◌, ◌∙◌, ◌≤◌, ◌<◌, ◌+◌, ◌-◌, ℕ, zero, suc, Bool, true, false, cond, ◌||◌, ◌==◌, List}
use Rattle.std.proofs.Common.{[], ◌∷◌, ◌++◌, IfSome, length, drop, refl, sym, ap, subst, append_assoc, arith}
use Rattle.std.specs.List.{count_by}
use Rattle.std.proofs.lemmas.List.{drop-append-le, length-append, length-drop, length-map}
use Rattle.std.proofs.lemmas.List.Folds.{list_any-append}
use Rattle.std.proofs.lemmas.List.Sums.{sum_by-append}
use Rattle.mon_value.proofs.PlainLemmas.{or_false}
use Rattle.mon_hints.specs.Formulas.{is_among}
use Rattle.mon_schema.specs.Names.{SchemaLists}
use Rattle.mon_value.specs.LeafHistories.{IsWellFormed, MayFollow, is_down, is_down_after, is_switch}
use Rattle.mon_value.specs.declared.histories.Entry.{Entry}
use Rattle.mon_value.specs.declared.histories.Entry.TheVariants as entry
use Rattle.mon_value.specs.declared.limits.TheConstants.{MOST_SWITCHES}
use Rattle.mon_hints.specs.Hints.{history_buckets, rows_buckets}
use Rattle.mon_value.specs.LeafHistories.{brought_rows}
use Rattle.leaf_store.specs.LeafStates.{key_buckets, HasNumber}
use Rattle.leaf_store.specs.declared.fresh.FreshEntry.{FreshEntry}
use Rattle.leaf_store.specs.declared.kept.Kept.{Kept}
use Rattle.leaf_store.specs.within.FreshEntries.{AreNumbered, entries_in}
use Rattle.leaf_store.specs.within.Raises.{AddsBuckets}
use Rattle.leaf_store.specs.within.Replicas.{AllHaveRows, IsInTwoParts, Replicas, shown_entries}
use Rattle.leaf_store.specs.within.States.{AllSwitches}
use Rattle.leaf_store.proofs.BucketLemmas.{history_more}
use Rattle.leaf_store.proofs.EntryLemmas.{shown_count}
use Rattle.leaf_store.proofs.SeriesNumberLemmas.{entries_push, numbered_push}
use Rattle.mon_value.proofs.LeafHistoryLemmas.{down_push, follows}

-- the history with an entry more
pub left_push : (fresh : List FreshEntry) (moved : ℕ) (last : FreshEntry) → moved ≤ length fresh
    → entries_in (drop moved (fresh ++ last ∷ [])) ≡ entries_in (drop moved fresh) ++ last.entry ∷ []
left_push fresh moved last within =
    ap entries_in (drop-append-le moved fresh (last ∷ []) within) ∙ entries_push (drop moved fresh) last

pub history_push : (first : List Entry) (fresh : List FreshEntry) (moved : ℕ) (last : FreshEntry)
    → moved ≤ length fresh → first ++ entries_in (drop moved (fresh ++ last ∷ []))
    ≡ (first ++ entries_in (drop moved fresh)) ++ last.entry ∷ []
history_push first fresh moved last within =
    ap (λ (left : List Entry). first ++ left) (left_push fresh moved last within)
    ∙ sym (append_assoc first (entries_in (drop moved fresh)) (last.entry ∷ []))

pub holds_push : (replicas : Replicas) (ks : List Kept) (fresh : List FreshEntry) (moved : ℕ) (last : FreshEntry)
    → moved ≤ length fresh → IsInTwoParts replicas ks (entries_in (drop moved fresh))
    → IsWellFormed ((shown_entries replicas ks ++ entries_in (drop moved fresh)) ++ last.entry ∷ [])
    → IsInTwoParts replicas ks (entries_in (drop moved (fresh ++ last ∷ [])))
holds_push replicas ks fresh moved last within holds formed = record {
  there = holds.there;
  formed = subst IsWellFormed (sym (history_push (shown_entries replicas ks) fresh moved last within)) formed;
  holds = holds.holds;
}

pub numbers_push : (first : List Entry) (fresh : List FreshEntry) (moved : ℕ) (last : FreshEntry)
    → moved ≤ length fresh → AreNumbered first (drop moved fresh)
    → IfSome last.series (HasNumber (first ++ entries_in (drop moved fresh)) last.entry)
    → AreNumbered first (drop moved (fresh ++ last ∷ []))
numbers_push first fresh moved last within are has =
    subst (AreNumbered first) (sym (drop-append-le moved fresh (last ∷ []) within))
    (numbered_push first (drop moved fresh) last are has)

-- ---- switches

pub down_switch : (history : List Entry) (last : Entry) (down : Bool)
    → ((before : Bool) → is_down_after before (last ∷ []) ≡ down) → down ≡ is_down (history ++ last ∷ [])
down_switch history last down says = sym (down_push false history last ∙ says (is_down history))

plain_down : (last : Entry) (before : Bool) → is_switch last ≡ false → is_down_after before (last ∷ []) ≡ before
plain_down (entry.Opened pass range slot rows) before is = refl
plain_down (entry.Put pass range slot row) before is = refl
plain_down (entry.Trim pass range slot bound) before is = refl
plain_down (entry.Down pass) before is = absurd cc
plain_down (entry.Up pass) before is = absurd cc

pub down_plain : (history : List Entry) (last : Entry) (down : Bool) → is_switch last ≡ false → down ≡ is_down history
    → down ≡ is_down (history ++ last ∷ [])
down_plain history last down is same = same ∙ sym (down_push false history last ∙ plain_down last (is_down history) is)

pub count_push : (history : List Entry) (last : Entry) → count_by is_switch (history ++ last ∷ []) ≡ count_by is_switch
    history + count_by is_switch (last ∷ [])
count_push history last = sum_by-append (λ e. cond (is_switch e) 1 0) history (last ∷ [])

one_switch : (last : Entry) (b : Bool) → is_switch last ≡ b → count_by is_switch (last ∷ []) ≡ cond b 1 0
one_switch (entry.Opened pass range slot rows) b is = ap (λ c. cond c 1 0) is
one_switch (entry.Put pass range slot row) b is = ap (λ c. cond c 1 0) is
one_switch (entry.Trim pass range slot before) b is = ap (λ c. cond c 1 0) is
one_switch (entry.Down pass) b is = ap (λ c. cond c 1 0) is
one_switch (entry.Up pass) b is = ap (λ c. cond c 1 0) is

pub count_switch : (history : List Entry) (last : Entry) → is_switch last ≡ true → count_by is_switch
    (history ++ last ∷ []) ≡ count_by is_switch history + 1
count_switch history last is = count_push history last ∙ ap (λ n. count_by is_switch history + n)
    (one_switch last true is)

pub count_plain : (history : List Entry) (last : Entry) → is_switch last ≡ false → count_by is_switch
    (history ++ last ∷ []) ≡ count_by is_switch history
count_plain history last is =
    let one = count_push history last ∙ ap (λ n. count_by is_switch history + n) (one_switch last false is) in
    let none : count_by is_switch history + 0 ≡ count_by is_switch history = omega arith in one ∙ none

pub waits_push : (left : List Entry) (last : Entry) → is_switch last ≡ true → AllSwitches left
    → AllSwitches (left ++ last ∷ [])
waits_push [] last is all = (is, tt)
waits_push (e ∷ left) last is all = (all.0, waits_push left last is all.1)

-- ---- buckets

-- the set of a history's buckets
abbrev pub HasBuckets : (ℕ → Bool) → ℕ → SchemaLists → List Entry → Type 0
HasBuckets set buckets held history = (bucket : ℕ) → set bucket ≡ is_among bucket
    (history_buckets (key_buckets buckets held) history)

no_rows : (buckets : ℕ) (held : SchemaLists) (last : Entry) → is_switch last ≡ true
    → rows_buckets (key_buckets buckets held) (brought_rows last) ≡ []
no_rows buckets held (entry.Opened pass range slot rows) is = absurd cc
no_rows buckets held (entry.Put pass range slot row) is = absurd cc
no_rows buckets held (entry.Trim pass range slot before) is = absurd cc
no_rows buckets held (entry.Down pass) is = refl
no_rows buckets held (entry.Up pass) is = refl

pub raised_push : (old new : ℕ → Bool) (buckets : ℕ) (held : SchemaLists) (history : List Entry) (last : Entry)
    → HasBuckets old buckets held history
    → AddsBuckets old new (rows_buckets (key_buckets buckets held) (brought_rows last)) → HasBuckets new buckets held
    (history ++ last ∷ [])
raised_push old new buckets held history last has adds bucket =
    let own = rows_buckets (key_buckets buckets held) (brought_rows last) in
    adds bucket ∙ ap (λ b. b || is_among bucket own) (has bucket)
    ∙ sym (ap (is_among bucket) (history_more buckets held history last) ∙ list_any-append (λ other. bucket == other)
    (history_buckets (key_buckets buckets held) history) own)

pub raised_switch : (set : ℕ → Bool) (buckets : ℕ) (held : SchemaLists) (history : List Entry) (last : Entry)
    → is_switch last ≡ true
    → HasBuckets set buckets held history → HasBuckets set buckets held (history ++ last ∷ [])
raised_switch set buckets held history last is has =
    raised_push set set buckets held history last has
    (λ bucket. sym (ap (λ (own : List ℕ). set bucket || is_among bucket own) (no_rows buckets held last is)
    ∙ or_false (set bucket)))

-- ---- the length of a history

pub history_count : (replicas : Replicas) (ks : List Kept) (fresh : List FreshEntry) (moved : ℕ)
    → AllHaveRows replicas ks → moved ≤ length fresh
    → length ks + (length fresh - moved) ≡ length (shown_entries replicas ks ++ entries_in (drop moved fresh))
history_count replicas ks fresh moved there within =
    let left : length fresh - moved ≡ length (entries_in (drop moved fresh)) =
    sym (length-map (drop moved fresh) (λ (one : FreshEntry). one.entry) ∙ length-drop moved fresh) in
    (λ i. sym (shown_count replicas ks there) i + left i)
    ∙ sym (length-append (shown_entries replicas ks) (entries_in (drop moved fresh)))

-- ---- a leaf to which nothing happened

pub nothing_holds : (replicas : Replicas) (ks : List Kept) (fresh : List FreshEntry) → replicas ≡ [] → ks ≡ []
    → fresh ≡ [] → IsInTwoParts replicas ks (entries_in (drop 0 fresh))
nothing_holds replicas ks fresh none kept left =
    subst (λ (rs : Replicas). IsInTwoParts rs ks (entries_in (drop 0 fresh))) (sym none)
    (subst (λ (all : List Kept). IsInTwoParts [] all (entries_in (drop 0 fresh))) (sym kept)
    (subst (λ (es : List FreshEntry). IsInTwoParts [] [] (entries_in (drop 0 es))) (sym left)
    (record { there = tt; formed = tt; holds = λ range slot. refl })))

pub no_history : (replicas : Replicas) (ks : List Kept) (fresh : List FreshEntry) → replicas ≡ [] → ks ≡ []
    → fresh ≡ [] → shown_entries replicas ks ++ entries_in (drop 0 fresh) ≡ []
no_history replicas ks fresh none kept left = λ i. shown_entries (none i) (kept i) ++ entries_in (drop 0 (left i))

-- ---- entries that were brought

-- fewer entries are switches too
pub later_switches : (entries : List FreshEntry) (m n : ℕ) → m ≤ n → AllSwitches (entries_in (drop m entries))
    → AllSwitches (entries_in (drop n entries))
later_switches [] zero zero below all = tt
later_switches [] zero (suc n) below all = tt
later_switches [] (suc m) zero below all = tt
later_switches [] (suc m) (suc n) below all = tt
later_switches (e ∷ entries) zero zero below all = all
later_switches (e ∷ entries) zero (suc n) below all = later_switches entries zero n (omega arith) all.1
later_switches (e ∷ entries) (suc m) zero below all = absurd (omega (arith, below))
later_switches (e ∷ entries) (suc m) (suc n) below all = later_switches entries m n (omega (arith, below)) all

-- ---- a switch may come only so often

may_switch : (history : List Entry) (last : Entry) → is_switch last ≡ true → MayFollow history last
    → count_by is_switch history < MOST_SWITCHES
may_switch history (entry.Opened pass range slot rows) is may = absurd cc
may_switch history (entry.Put pass range slot row) is may = absurd cc
may_switch history (entry.Trim pass range slot before) is may = absurd cc
may_switch history (entry.Down pass) is may = may.1
may_switch history (entry.Up pass) is may = may.1

pub switch_room : (history : List Entry) (last : Entry) → is_switch last ≡ true → IsWellFormed (history ++ last ∷ [])
    → count_by is_switch history < MOST_SWITCHES
switch_room history last is formed = may_switch history last is (follows history last [] formed)
