-- What came under a number where one history has an entry more than was there.
use Rattle.std.proofs.Common.{◌≡◌, ◌+◌, ◌≤◌, Bool, true, List, [], ◌∷◌, ◌++◌, length, filter}
use Rattle.std.proofs.Common.{sym, ap, subst, ◌∙◌, arith, cond, inl, inr}
use mathlib.Core.List.{IsPrefix}
use Rattle.std.proofs.lemmas.List.{append-nil, length-append}
use Rattle.std.proofs.lemmas.List.Elements.{filter-append}
use Rattle.history_book.proofs.HistoryLemmas.{same_cases, same_history_refl}
use Rattle.history_book.proofs.ListLemmas.{prefix_filter, prefix_length}
use Rattle.history_book.specs.Histories.{AreFronts, entries, is_under}
use Rattle.history_book.specs.declared.views.BookEntry.{BookEntry}
use Rattle.history_book.specs.declared.views.History.{History}
use Rattle.know.specs.Knowledge.{Knowledge}
use Rattle.mon_topo.specs.Settings.{Setting}
use Rattle.owners.specs.Puts.{pass_of}
use Rattle.mon_store.proofs.OwnLemmas.{entries_front}
use Rattle.mon_store.proofs.WriteLemmas.{own_exact}
use Rattle.mon_store.specs.Passes.{IsPass}
use Rattle.mon_store.specs.Writes.{only_in, own_entries}

-- a test keeps one item more
module _ {X : Type 0} (test : X → Bool) (was mid now : List X) (x : X) (from : IsPrefix was mid)
    (to : IsPrefix (mid ++ x ∷ []) now) (passes : test x ≡ true) where
  kept_last : filter test (mid ++ x ∷ []) ≡ filter test mid ++ x ∷ []
  kept_last = filter-append test mid (x ∷ [])
      ∙ ap (λ (b : Bool). filter test mid ++ cond b (x ∷ []) []) passes

  pub one_more : length (filter test was ++ x ∷ []) ≤ length (filter test now)
  one_more =
      let low : length (filter test was) ≤ length (filter test mid) =
      prefix_length (filter test was) (filter test mid) (prefix_filter test was mid from) in
      let high : length (filter test (mid ++ x ∷ [])) ≤ length (filter test now) =
      prefix_length (filter test (mid ++ x ∷ [])) (filter test now) (prefix_filter test (mid ++ x ∷ []) now to) in
      let left : length (filter test was ++ x ∷ []) ≡ length (filter test was) + 1 =
      length-append (filter test was) (x ∷ []) in
      let right : length (filter test (mid ++ x ∷ [])) ≡ length (filter test mid) + 1 =
      ap length kept_last ∙ length-append (filter test mid) (x ∷ []) in
      omega (arith, low, high, left, right)

-- an entry came behind all that had been seen of its history, and is seen
pub record HasComeBehind (before after : Knowledge) (whose : History) (e : BookEntry) : Type 0 where
  pub mid : List BookEntry
  pub from : IsPrefix (entries before.seen whose) mid
  pub to : IsPrefix (mid ++ e ∷ []) (entries after.seen whose)
  pub under : is_under (pass_of before) e ≡ true

module _ (setting : Setting) (before after : Knowledge) (is : IsPass setting before)
    (fronts : AreFronts before.seen after.seen) where
  abbrev many_in : History → List BookEntry → Type 0
  many_in whose new = length (own_entries before.purse.own whose ++ new)
      ≤ length (filter (is_under (pass_of before)) (entries after.seen whose))

  no_less : (whose : History) → many_in whose []
  no_less whose =
      let test = is_under (pass_of before) in
      let had : filter test (entries before.seen whose) ≡ own_entries before.purse.own whose =
      own_exact setting before is whose in
      subst (λ (xs : List BookEntry). length xs ≤ length (filter test (entries after.seen whose)))
      (had ∙ sym (append-nil (own_entries before.purse.own whose)))
      (prefix_length (filter test (entries before.seen whose)) (filter test (entries after.seen whose))
      (prefix_filter test (entries before.seen whose) (entries after.seen whose)
      (entries_front before.seen after.seen fronts whose)))

  module _ (whose : History) (e : BookEntry) (come : HasComeBehind before after whose e) where
    here : many_in whose (e ∷ [])
    here =
        let test = is_under (pass_of before) in
        subst (λ (xs : List BookEntry). length (xs ++ e ∷ []) ≤ length (filter test (entries after.seen whose)))
        (own_exact setting before is whose)
        (one_more test (entries before.seen whose) come.mid (entries after.seen whose) e come.from come.to come.under)

    -- as many entries under the caller's number are seen as it had and came
    pub many_seen : (other : History) → many_in other (only_in whose e other)
    many_seen other = elim (same_cases whose other) [
      | inl same ↦ subst (λ (h : History). many_in h (only_in whose e h)) same
          (subst (λ (b : Bool). many_in whose (cond b (e ∷ []) [])) (sym (same_history_refl whose)) here)
      | inr apart ↦ subst (λ (b : Bool). many_in other (cond b (e ∷ []) [])) (sym apart) (no_less other)
    ]
