-- What words that are loaded say of a child: whatever it wants is let in.
use Rattle.std.proofs.Common.{◌≡◌, ◌∙◌, ℕ, zero, suc, ◌<◌, ◌≤◌, Bool, true, false, cond, List, [], ◌∷◌, length}
use Rattle.std.proofs.Common.{get_or, eqb, Contains, refl, sym, ap, subst, inl, inr, arith}
use Rattle.std.specs.List.{AllByRecursion as All}
use Rattle.std.proofs.lemmas.Bool.{eqb-true, or_cases, or_left, or_right}
use Rattle.std.proofs.lemmas.List.Folds.{list_any-append}
use Rattle.mon_hints.specs.Formulas.{FormulaTrees, all_named, any_holds, AreAmong, is_among}
use Rattle.mon_hints.specs.Hints.{rows_buckets, buckets_of_child, has_bit}
use Rattle.mon_topo.proofs.RangeHistoryLemmas.{all_at, all_from}
use Rattle.mon_value.specs.declared.rows.Row.{Row}
use Rattle.mon_value.specs.declared.rows.SeriesKey.{SeriesKey}
use Rattle.plan_split.proofs.NamedBuckets.{any_on}

-- ---- words

-- each word has the bits of the children of which it is known that they have its bucket
abbrev pub AreKnown : (ℕ → ℕ → Bool) → ℕ → List ℕ → List ℕ → Type 0
AreKnown known count named words =
    (i : ℕ) → i < length words → (child : ℕ) → child < count → known child (get_or named i 0) ≡ true
    → has_bit (get_or words i 0) child ≡ true

either_way : (b : Bool) (bucket first : ℕ) (rest : List ℕ) → is_among bucket rest ≡ true
    → is_among bucket (cond b (first ∷ rest) rest) ≡ true
either_way true bucket first rest here = or_right (eqb bucket first) (is_among bucket rest) here
either_way false bucket first rest here = here

known_found : (known : ℕ → ℕ → Bool) (count : ℕ) (named words : List ℕ) (child bucket : ℕ)
    → AreKnown known count named words → child < count → length named ≤ length words
    → is_among bucket named ≡ true → known child bucket ≡ true → is_among bucket (buckets_of_child named words child)
    ≡ true
known_found known count [] words child bucket all lt long here is = absurd (cc)
known_found known count (first ∷ named) [] child bucket all lt long here is = absurd (omega (arith, long))
known_found known count (first ∷ named) (word ∷ words) child bucket all lt long here is =
    elim (or_cases (eqb bucket first) (is_among bucket named) here) [
      | inl same ↦ (let e : bucket ≡ first = eqb-true bucket first same in
          let bit : has_bit word child ≡ true =
          all zero (omega arith) child lt (subst (λ n. known child n ≡ true) e is) in
          ap (λ b. is_among bucket (cond b (first ∷ buckets_of_child named words child)
          (buckets_of_child named words child))) bit
          ∙ or_left (eqb bucket first) (is_among bucket (buckets_of_child named words child)) same)
      | inr later ↦ either_way (has_bit word child) bucket first (buckets_of_child named words child)
          (known_found known count named words child bucket (λ i l. all (suc i) (omega (arith, l))) lt
          (omega (arith, long)) later is)
    ]

not_true : (a b : Bool) → (a ≡ true → b ≡ true) → b ≡ false → a ≡ false
not_true true b f e = absurd (let yes = f refl in cc)
not_true false b f e = refl

-- a child that the words don't let in wants nothing that it is known to have
pub shut_out : (trees : FormulaTrees) (known : ℕ → ℕ → Bool) (count : ℕ) (named words some : List ℕ) (child : ℕ)
    → AreAmong (all_named trees) named → AreKnown known count named words → child < count
    → length named ≤ length words → ((bucket : ℕ) → is_among bucket some ≡ true → known child bucket ≡ true)
    → any_holds trees (buckets_of_child named words child) ≡ false → any_holds trees some ≡ false
shut_out trees known count named words some child listed all lt long has out =
    not_true (any_holds trees some) (any_holds trees (buckets_of_child named words child))
    (any_on trees some (buckets_of_child named words child)
    (λ bucket in_named in_some.
    known_found known count named words child bucket all lt long (listed bucket in_named) (has bucket in_some)))
    out

-- ---- rows

has_buckets : (buckets_of : SeriesKey → List ℕ) (rows : List Row) (row : Row) → Contains rows row
    → AreAmong (buckets_of row.key) (rows_buckets buckets_of rows)
has_buckets buckets_of [] row there = absurd (omega (arith, there.1))
has_buckets buckets_of (first ∷ rows) row (zero, l, e) = λ bucket here.
    list_any-append (λ other. eqb bucket other) (buckets_of first.key) (rows_buckets buckets_of rows)
    ∙ or_left (is_among bucket (buckets_of first.key)) (is_among bucket (rows_buckets buckets_of rows))
    (subst (λ (one : Row). is_among bucket (buckets_of one.key) ≡ true) (sym e) here)
has_buckets buckets_of (first ∷ rows) row (suc k, l, e) = λ bucket here.
    list_any-append (λ other. eqb bucket other) (buckets_of first.key) (rows_buckets buckets_of rows)
    ∙ or_right (is_among bucket (buckets_of first.key)) (is_among bucket (rows_buckets buckets_of rows))
    (has_buckets buckets_of rows row (k, omega (arith, l), e) bucket here)

-- where no formula holds of the buckets of rows, none of them is wanted
pub none_wanted : (trees : FormulaTrees) (buckets_of : SeriesKey → List ℕ) (good wanted : Row → Bool)
    → ((row : Row) → good row ≡ true → wanted row ≡ true → any_holds trees (buckets_of row.key) ≡ true)
    → (rows : List Row) → All (λ row. good row ≡ true) rows → any_holds trees (rows_buckets buckets_of rows) ≡ false
    → All (λ row. wanted row ≡ false) rows
none_wanted trees buckets_of good wanted finds rows all out =
    all_from (λ row. wanted row ≡ false) rows (λ row there.
    not_true (wanted row) (any_holds trees (rows_buckets buckets_of rows))
    (λ yes. any_on trees (buckets_of row.key) (rows_buckets buckets_of rows)
    (λ bucket in_named here. has_buckets buckets_of rows row there bucket here)
    (finds row (all_at (λ row. good row ≡ true) rows row all there) yes))
    out)
