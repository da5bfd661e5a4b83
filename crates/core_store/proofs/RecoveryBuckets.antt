-- The buckets of rows that no series of a leaf has, as a set that grows series by series.
use Rattle.std.proofs.Common.{◌≡◌, ◌∙◌, ℕ, ◌+◌, ◌≤◌, ◌==◌, nat_lt, Bool, true, false, not, ◌&&◌, ◌||◌, List, [], ◌∷◌}
use Rattle.std.proofs.Common.{◌++◌, refl, sym, ap, arith, IfOk, Result, Ok, Err}
use Rattle.std.proofs.lemmas.Bool.Decides.{nat_tests}
use Rattle.std.proofs.lemmas.List.Folds.{list_any-append}
use Rattle.leaf_store.specs.LeafStates.{is_unraised, key_buckets, LeafView}
use Rattle.mon_hints.specs.BucketSets.{HasNone, IsNext, with_bucket}
use Rattle.mon_hints.specs.Hints.{history_buckets, rows_buckets}
use Rattle.mon_hints.specs.Formulas.{is_among}
use Rattle.mon_schema.specs.Names.{SchemaLists}
use Rattle.mon_value.specs.declared.histories.Entry.{Entry}
use Rattle.mon_value.specs.declared.rows.Row.{Row}
use Rattle.core_store.specs.RecoveryEvents.{AreAllToRaise, Lists}
use Rattle.leaf_store.proofs.BucketLemmas.{one_more}
use Rattle.mon_value.proofs.PlainLemmas.{and_spread}

-- those that are wanted below a number were added
abbrev pub AddsWanted : (ℕ → Bool) → (ℕ → Bool) → (ℕ → Bool) → ℕ → Type 0
AddsWanted old new wanted from = (bucket : ℕ) → new bucket ≡ (old bucket || (nat_lt bucket from && wanted bucket))

pub wanted_next : (old set new wanted : ℕ → Bool) (from next : ℕ) → AddsWanted old set wanted from
    → IsNext wanted from next → new ≡ with_bucket set next → AddsWanted old new wanted (next + 1)
wanted_next old set new wanted from next adds is added bucket =
    ap (λ (f : ℕ → Bool). f bucket) added ∙ ap (λ b. (bucket == next) || b) (adds bucket)
    ∙ one_more bucket next from (old bucket) (wanted bucket) (nat_lt bucket from) (bucket == next)
    (nat_lt bucket (next + 1)) refl refl refl is.reached
    (λ same. ap wanted same ∙ is.among) (is.least bucket)

first_by : (bucket : ℕ) (old among low : Bool) → nat_lt bucket 0 ≡ low → old ≡ (old || (low && among))
first_by bucket old among true low = absurd (grind (arith, nat_tests))
first_by bucket true among false low = refl
first_by bucket false among false low = refl

pub wanted_first : (old wanted : ℕ → Bool) → AddsWanted old old wanted 0
wanted_first old wanted bucket = first_by bucket (old bucket) (wanted bucket) (nat_lt bucket 0) refl

all_by : (bucket from : ℕ) (among : Bool) (low : Bool) → nat_lt bucket from ≡ low → (from ≤ bucket → among ≡ false)
    → (low && among) ≡ among
all_by bucket from among true is none = refl
all_by bucket from among false is none = sym (none (grind (arith, nat_tests)))

pub wanted_all : (old new wanted : ℕ → Bool) (from : ℕ) → AddsWanted old new wanted from → HasNone wanted from
    → (bucket : ℕ) → new bucket ≡ (old bucket || wanted bucket)
wanted_all old new wanted from adds none bucket =
    adds bucket ∙ ap (λ b. old bucket || b) (all_by bucket from (wanted bucket) (nat_lt bucket from) refl (none bucket))

-- ---- rows one after another

abbrev pub is_left : ℕ → SchemaLists → List Entry → List Row → ℕ → Bool
is_left buckets held history rows bucket =
    is_among bucket (rows_buckets (key_buckets buckets held) rows)
    && not (is_among bucket (history_buckets (key_buckets buckets held) history))

pub row_more : (buckets : ℕ) (held : SchemaLists) (history : List Entry) (before : List Row) (row : Row)
    (old new : ℕ → Bool) → ((bucket : ℕ) → old bucket ≡ is_left buckets held history before bucket)
    → ((bucket : ℕ) → new bucket ≡ (old bucket || is_unraised buckets held history row.key bucket))
    → (bucket : ℕ) → new bucket ≡ is_left buckets held history (before ++ row ∷ []) bucket
row_more buckets held history before row old new so_far added bucket =
    added bucket
    ∙ ap (λ b. b || is_unraised buckets held history row.key bucket) (so_far bucket)
    ∙ and_spread (is_among bucket (rows_buckets (key_buckets buckets held) before))
    (is_among bucket (key_buckets buckets held row.key))
    (not (is_among bucket (history_buckets (key_buckets buckets held) history)))
    ∙ ap (λ b. b && not (is_among bucket (history_buckets (key_buckets buckets held) history)))
    (sym (grown bucket))
  where
    last : (bucket : ℕ) → is_among bucket (rows_buckets (key_buckets buckets held) (row ∷ []))
        ≡ is_among bucket (key_buckets buckets held row.key)
    last bucket = ap (λ (xs : List ℕ). is_among bucket xs) (append_none (key_buckets buckets held row.key))
      where
        append_none : (xs : List ℕ) → xs ++ [] ≡ xs
        append_none [] = refl
        append_none (x ∷ xs) = ap (λ (rest : List ℕ). x ∷ rest) (append_none xs)

    more : (bucket : ℕ) (rows : List Row) → is_among bucket (rows_buckets (key_buckets buckets held) (rows ++ row ∷ []))
        ≡ (is_among bucket (rows_buckets (key_buckets buckets held) rows)
        || is_among bucket (key_buckets buckets held row.key))
    more bucket [] = last bucket
    more bucket (one ∷ rows) =
        list_any-append (λ other. bucket == other) (key_buckets buckets held one.key)
        (rows_buckets (key_buckets buckets held) (rows ++ row ∷ []))
        ∙ ap (λ b. is_among bucket (key_buckets buckets held one.key) || b) (more bucket rows)
        ∙ grouped (is_among bucket (key_buckets buckets held one.key))
        (is_among bucket (rows_buckets (key_buckets buckets held) rows))
        (is_among bucket (key_buckets buckets held row.key))
        ∙ ap (λ b. b || is_among bucket (key_buckets buckets held row.key))
        (sym (list_any-append (λ other. bucket == other) (key_buckets buckets held one.key)
        (rows_buckets (key_buckets buckets held) rows)))
      where
        grouped : (a b c : Bool) → (a || (b || c)) ≡ ((a || b) || c)
        grouped true b c = refl
        grouped false b c = refl

    grown : (bucket : ℕ) → is_among bucket (rows_buckets (key_buckets buckets held) (before ++ row ∷ []))
        ≡ (is_among bucket (rows_buckets (key_buckets buckets held) before)
        || is_among bucket (key_buckets buckets held row.key))
    grown bucket = more bucket before

pub all_to_raise : {E : Type 0} (state : LeafView) (before rows : List Row) (set : ℕ → Bool)
    (result : Result (List ℕ) E) → before ≡ rows
    → ((bucket : ℕ) → set bucket ≡ is_left state.buckets state.schemas state.history before bucket)
    → IfOk result (Lists set) → IfOk result (AreAllToRaise state rows)
all_to_raise state before rows set (Ok buckets) whole so_far listed = record {
  rising = listed.rising;
  same = λ bucket. listed.same bucket ∙ so_far bucket
      ∙ ap (λ (some : List Row). is_left state.buckets state.schemas state.history some bucket) whole;
}
all_to_raise state before rows set (Err why) whole so_far listed = tt
