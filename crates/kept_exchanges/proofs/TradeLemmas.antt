-- Changes of groups that come of exchanges, one after another.
use Rattle.std.proofs.Common.{◌≡◌, ◌∙◌, ◌++◌, ◌+◌, ◌<◌, ◌≤◌, ◌-◌, ◌&&◌, ℕ, zero, suc, ℤ, ◌<ℤ◌, false, Option, Some, None, List, [], ◌∷◌}
use Rattle.std.proofs.Common.{append-nil, drop, get_or, length, take, refl, sym, ap, subst, arith}
use Rattle.std.specs.Cmp.Lexicographic.{pointwise}
use Rattle.std.specs.List.{AllByRecursion, cons_option, filter_map}
use Rattle.std.specs.Option.{option_to_list}
use Rattle.std.specs.Ordering.{int_eq}
use Rattle.std.proofs.lemmas.Int.{ints}
use Rattle.std.proofs.lemmas.List.{map-append}
use Rattle.std.proofs.lemmas.List.Elements.{filter_map-append}
use Rattle.mon_value.specs.Same.{same_row, same_value}
use Rattle.mon_value.specs.declared.aggregates.Aggregate.{Aggregate}
use Rattle.mon_value.specs.declared.tables.TimedRow.{TimedRow}
use Rattle.mon_value.proofs.PlainLemmas.{all_push}
use Rattle.mon_fold.specs.PartialGroups.{PartialGroup}
use Rattle.typed_trees.specs.Nodes.{NodeTree}
use Rattle.kept_groups.specs.Changes as groups
use Rattle.kept_groups.specs.Changes.{AreApart, IsChange}
use Rattle.kept_groups.specs.declared.changes.Change.{Change}
use Rattle.kept_exchanges.specs.Exchanges.{comes, gones}
use Rattle.kept_exchanges.specs.Flows.{row_flowing, rows_flowing}
use Rattle.kept_exchanges.specs.Traded.{AreChangesOf, HasTraded, Rise}
use Rattle.kept_exchanges.specs.declared.exchanges.Exchange.{Exchange}
use Rattle.kept_exchanges.proofs.FlowLemmas.{none_flows}
use Rattle.kept_exchanges.proofs.PairLemmas.{gone_last, option_list}

pub take_last : {A : Type 0} (xs : List A) (i : ℕ) (d : A) → i < length xs
    → take (i + 1) xs ≡ take i xs ++ get_or xs i d ∷ []
take_last [] i d h = absurd (omega arith)
take_last (x ∷ xs) zero d h = refl
take_last (x ∷ xs) (suc i) d h =
    let next : suc i + 1 ≡ suc (i + 1) = omega arith in
    ap (λ k. take k (x ∷ xs)) next ∙ ap (λ l. x ∷ l) (take_last xs i d (omega arith))

module _ (by : List ℕ) (with : List Aggregate) (begun : List PartialGroup) where
  pub traded : (before after : List Change) (change : Change) (gone : Option TimedRow) (come : TimedRow)
      → after ≡ before ++ change ∷ [] → change.gone ≡ gone → change.come ≡ come → IsChange by with begun change
      → HasTraded by with begun gone (Some come) before after
  traded before after change row come is goes comes_is made = record {
    gone_is =
        ap groups.gones is
        ∙ filter_map-append (λ (one : Change). one.gone) before (change ∷ [])
        ∙ ap (λ (last : List TimedRow). groups.gones before ++ last) (option_list change.gone ∙ ap option_to_list goes);
    come_is =
        ap groups.comes is
        ∙ map-append (λ (one : Change). one.come) before (change ∷ [])
        ∙ ap (λ (row : TimedRow). groups.comes before ++ row ∷ []) comes_is;
    made = λ all. subst (AllByRecursion (IsChange by with begun)) (sym is) (all_push (IsChange by with begun) before change
        all made);
  }

  pub nothing_traded : (changes : List Change) → HasTraded by with begun None None changes changes
  nothing_traded changes = record {
    gone_is = sym (append-nil (groups.gones changes));
    come_is = sym (append-nil (groups.comes changes));
    made = λ all. all;
  }

  module _ (above : List NodeTree) where
    flows_of : (row : Option TimedRow) → rows_flowing above (option_to_list row) ≡ option_to_list (row_flowing above row)
    flows_of None = sym (ap option_to_list (none_flows above))
    flows_of (Some row) = option_list (row_flowing above (Some row))

    flows_more : (rows : List TimedRow) (row : Option TimedRow)
        → rows_flowing above (rows ++ option_to_list row)
        ≡ rows_flowing above rows ++ option_to_list (row_flowing above row)
    flows_more rows row =
        filter_map-append (λ (one : TimedRow). row_flowing above (Some one)) rows (option_to_list row)
        ∙ ap (λ (last : List TimedRow). rows_flowing above rows ++ last) (flows_of row)

    pub more_changes : (done : List Exchange) (exchange : Exchange) (before after : List Change)
        → AreChangesOf above by with begun done before
        → HasTraded by with begun (row_flowing above exchange.gone) (row_flowing above (Some exchange.come)) before after
        → AreChangesOf above by with begun (done ++ exchange ∷ []) after
    more_changes done exchange before after are has = record {
      gone =
          has.gone_is
          ∙ ap (λ (rows : List TimedRow). rows ++ option_to_list (row_flowing above exchange.gone)) are.gone
          ∙ sym (flows_more (gones done) exchange.gone)
          ∙ ap (rows_flowing above) (sym (gone_last done exchange));
      come =
          has.come_is
          ∙ ap (λ (rows : List TimedRow). rows ++ option_to_list (row_flowing above (Some exchange.come))) are.come
          ∙ sym (flows_more (comes done) (Some exchange.come))
          ∙ ap (rows_flowing above) (sym (map-append (λ (one : Exchange). one.come) done (exchange ∷ [])));
      made = has.made are.made;
    }

-- ---- times that rise

pub rise_next : (changes : List Change) (k : ℕ) (d e : Change) → k + 1 < length changes
    → (get_or changes k d).key.time <ℤ (get_or changes (k + 1) e).key.time → Rise (drop (k + 1) changes)
    → Rise (drop k changes)
rise_next [] k d e h less rest = absurd (omega arith)
rise_next (change ∷ []) k d e h less rest = absurd (omega arith)
rise_next (change ∷ next ∷ changes) zero d e h less rest = (less, rest)
rise_next (change ∷ next ∷ changes) (suc k) d e h less rest =
    let more : suc k + 1 ≡ suc (k + 1) = omega arith in
    rise_next (next ∷ changes) k d e (omega arith)
    (subst (λ n. (get_or (next ∷ changes) k d).key.time <ℤ (get_or (change ∷ next ∷ changes) n e).key.time) more less)
    (subst (λ n. Rise (drop n (change ∷ next ∷ changes))) more rest)

pub rise_end : (changes : List Change) (k : ℕ) → length changes ≤ k + 1 → Rise (drop k changes)
rise_end [] zero h = tt
rise_end [] (suc k) h = tt
rise_end (change ∷ []) zero h = tt
rise_end (change ∷ next ∷ changes) zero h = absurd (omega arith)
rise_end (change ∷ changes) (suc k) h = rise_end changes k (omega arith)

times_apart : (a b : ℤ) → a <ℤ b → int_eq a b ≡ false
times_apart a b h = grind (arith, ints)

later_row : (low first : TimedRow) → low.time <ℤ first.time → same_row low first ≡ false
later_row low first less =
    ap (λ b. b && pointwise same_value low.cells first.cells) (times_apart low.time first.time less)

apart_behind : (low first : Change) (changes : List Change) → low.key.time <ℤ first.key.time → Rise (first ∷ changes)
    → AllByRecursion (λ (other : Change). same_row low.key other.key ≡ false) (first ∷ changes)
apart_behind low first [] less rise = (later_row low.key first.key less, tt)
apart_behind low first (next ∷ changes) less rise =
    let more = rise.0 in
    let farther : low.key.time <ℤ next.key.time = omega (arith, ints) in
    (later_row low.key first.key less, apart_behind low next changes farther rise.1)

pub all_apart : (changes : List Change) → Rise changes → AreApart changes
all_apart [] rise = tt
all_apart (change ∷ []) rise = (tt, tt)
all_apart (change ∷ next ∷ changes) rise =
    (apart_behind change next changes rise.0 rise.1, all_apart (next ∷ changes) rise.1)
