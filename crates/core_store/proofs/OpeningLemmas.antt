-- The first replicas as they are opened one by one.
use Rattle.std.proofs.Common.{◌≡◌, ◌∙◌, ◌<◌, ◌≤◌, ◌+◌, ◌-◌, ℕ, suc, zero, Bool, true, false, cond, Option, Some, None}
use Rattle.std.proofs.Common.{IfSome, List, [], ◌∷◌, ◌++◌, append-nil, nat_eq, slice_get, length}
use Rattle.std.proofs.Common.{replicate, refl, sym, ap, subst, arith, inl, inr, option_map}
use Rattle.std.proofs.lemmas.Bool.{cases_eq, eq-eqb, ne_eqb}
use Rattle.std.proofs.lemmas.List.{length-replicate, take_all}
use Rattle.std.proofs.lemmas.Option.{slice_get_within}
use Rattle.leaf_store.specs.LeafStates.{LeafView, new_leaf, leaf_with_entry, with_promised}
use Rattle.mon_config.specs.declared.config.Config.{Config}
use Rattle.mon_value.specs.Histories.{leaf_numbered}
use Rattle.mon_topo.specs.Zones.{first_replicas, leaves_in, ranges_in}
use Rattle.mon_value.proofs.LeafHistoryLemmas.{IsWellFormed-push}
use Rattle.mon_value.specs.LeafHistories.{IsWellFormed}
use Rattle.mon_value.specs.declared.histories.Entry.{Entry}
use Rattle.mon_value.specs.declared.histories.Entry.TheVariants as entry
use Rattle.mon_value.specs.declared.positions.Leaf.{Leaf}
use Rattle.mon_value.specs.declared.positions.Range.{Range}
use Rattle.mon_value.specs.declared.positions.Slot.{Slot}
use Rattle.mon_value.specs.declared.rows.Row.{Row}
use Rattle.mon_topo.proofs.FirstLemmas.{IsOpen}
use Rattle.mon_topo.specs.HeldHistories.{first_leaf_history, opened_here, opening, opened_before, opened_up_to}
use Rattle.leaf_store.specs.LeafLists.{IsChanged}
use Rattle.core_store.specs.Openings.{AreOpenedSo, IsOpenedSo, with_opening}
use Rattle.mon_topo.proofs.FirstOpenings.{before_more, open_up_to, up_to_more}

-- ---- one more

module _ (config : Config) (range : Range) (place : ℕ) where
  may_by : (leaf : Leaf) (states : List LeafView) (o : Option LeafView)
      → AreOpenedSo config (opened_up_to config.topology range.0 place) states
      → place ≤ length (first_replicas config.topology range.0) → slice_get states leaf.0 ≡ o
      → IfSome o (λ state. IsWellFormed (state.history ++ opening range place ∷ []))
  may_by leaf states None opened within there = tt
  may_by leaf states (Some state) opened within there =
      let history : List Entry = opened_up_to config.topology range.0 place leaf.0 in
      let still : IsOpen history range.0 place = open_up_to config.topology leaf.0 range.0 place within in
      subst (λ (h : List Entry). IsWellFormed (h ++ opening range place ∷ []))
      (sym (opened.each leaf.0 state there).entries)
      (IsWellFormed-push history (opening range place) still.formed (still.up, still.here place (omega arith), tt))

  pub may_open : (leaf : Leaf) (number : ℕ) (states : List LeafView) → number ≡ place
      → AreOpenedSo config (opened_up_to config.topology range.0 place) states
      → slice_get (first_replicas config.topology range.0) place ≡ Some leaf
      → IfSome (slice_get states leaf.0) (λ state. IsWellFormed (state.history ++ opening range number ∷ []))
  may_open leaf number states same opened at =
      let within : place < length (first_replicas config.topology range.0)
      = slice_get_within (first_replicas config.topology range.0) place leaf at in
      subst (λ (k : ℕ). IfSome (slice_get states leaf.0)
      (λ state. IsWellFormed (state.history ++ opening range k ∷ [])))
      (sym same) (may_by leaf states (slice_get states leaf.0) opened (omega (arith, within)) refl)

  some_same : (a b : LeafView) → Some a ≡ Some b → a ≡ b
  some_same a b e = cc

  turned : (n m : ℕ) → nat_eq m n ≡ nat_eq n m
  turned n m = elim (cases_eq n m) [
    | inl same ↦ eq-eqb m n (sym same) ∙ sym (eq-eqb n m same)
    | inr differ ↦ ne_eqb m n (λ e. differ (sym e)) ∙ sym (ne_eqb n m differ)
  ]

  one_more : (n : ℕ) (leaf : Leaf) (state : LeafView) (b : Bool) (o : Option LeafView)
      → slice_get (first_replicas config.topology range.0) place ≡ Some leaf
      → ((s : LeafView) → o ≡ Some s → IsOpenedSo config (opened_up_to config.topology range.0 place n) s)
      → nat_eq leaf.0 n ≡ b
      → cond b (option_map (with_opening range place) o) o ≡ Some state
      → IsOpenedSo config (opened_up_to config.topology range.0 (place + 1) n) state
  one_more n leaf state true None at before test is = absurd cc
  one_more n leaf state true (Some s) at before test is =
      let same : with_opening range place s ≡ state = some_same (with_opening range place s) state is in
      let was : IsOpenedSo config (opened_up_to config.topology range.0 place n) s = before s refl in
      let none : (s.promised + 1) - 1 ≡ 0 = omega (arith, was.promised) in
      record {
        schemas = sym (ap (λ (l : LeafView). l.schemas) same) ∙ was.schemas;
        buckets = sym (ap (λ (l : LeafView). l.buckets) same) ∙ was.buckets;
        entries = sym (ap (λ (l : LeafView). l.history) same)
            ∙ ap (λ (h : List Entry). h ++ opening range place ∷ []) was.entries
            ∙ sym (up_to_more config.topology range.0 place n leaf at
            ∙ ap (λ (c : Bool). opened_up_to config.topology range.0 place n ++ cond c (opening range place ∷ []) [])
            (turned leaf.0 n ∙ test));
        promised = sym (ap (λ (l : LeafView). l.promised) same) ∙ none;
      }
  one_more n leaf state false o at before test is =
      let was : IsOpenedSo config (opened_up_to config.topology range.0 place n) state = before state is in
      record {
        schemas = was.schemas;
        buckets = was.buckets;
        entries = was.entries
            ∙ sym (append-nil (opened_up_to config.topology range.0 place n))
            ∙ sym (up_to_more config.topology range.0 place n leaf at
            ∙ ap (λ (c : Bool). opened_up_to config.topology range.0 place n ++ cond c (opening range place ∷ []) [])
            (turned leaf.0 n ∙ test));
        promised = was.promised;
      }

  pub opened_more : (leaf : Leaf) (number : ℕ) (old new : List LeafView) → number ≡ place
      → AreOpenedSo config (opened_up_to config.topology range.0 place) old
      → slice_get (first_replicas config.topology range.0) place ≡ Some leaf
      → length new ≡ length old → IsChanged leaf (with_opening range number) old new
      → AreOpenedSo config (opened_up_to config.topology range.0 (place + 1)) new
  opened_more leaf number old new same opened at many changed = record {
    count = many ∙ opened.count;
    each = λ n state there. one_more n leaf state (nat_eq leaf.0 n) (slice_get old n) at (opened.each n) refl
        (sym (subst (λ (k : ℕ). IsChanged leaf (with_opening range k) old new) same changed n) ∙ there);
  }

  pub opened_begun : (states : List LeafView) → AreOpenedSo config (opened_before config.topology range.0) states
      → AreOpenedSo config (opened_up_to config.topology range.0 0) states
  opened_begun states opened = record {
    count = opened.count;
    each = λ n state there. let was = opened.each n state there in record {
      schemas = was.schemas;
      buckets = was.buckets;
      entries = was.entries ∙ sym (append-nil (opened_before config.topology range.0 n));
      promised = was.promised;
    };
  }

  pub opened_whole : (states : List LeafView) → AreOpenedSo config (opened_up_to config.topology range.0 place) states
      → length (first_replicas config.topology range.0) ≤ place
      → AreOpenedSo config (opened_before config.topology (range.0 + 1)) states
  opened_whole states opened past = record {
    count = opened.count;
    each = λ n state there. let was = opened.each n state there in record {
      schemas = was.schemas;
      buckets = was.buckets;
      entries = was.entries
          ∙ ap (λ (l : List Leaf). opened_before config.topology range.0 n ++ opened_here (leaf_numbered n) range 0 l)
          (take_all place (first_replicas config.topology range.0) past)
          ∙ sym (before_more config.topology range.0 n);
      promised = was.promised;
    };
  }

-- ---- one replica

pub slot_follows : (range : Range) (slot : Slot) (old new : LeafView) (rows : List Row)
    → new ≡ with_promised old (old.promised + 1) → rows ≡ []
    → IsWellFormed (old.history ++ entry.Opened 0 range slot [] ∷ [])
    → IsWellFormed (new.history ++ entry.Opened 0 range slot rows ∷ [])
slot_follows range slot old new rows promised none may =
    subst (λ (rs : List Row). IsWellFormed (new.history ++ entry.Opened 0 range slot rs ∷ [])) (sym none)
    (subst (λ (h : List Entry). IsWellFormed (h ++ entry.Opened 0 range slot [] ∷ []))
    (sym (ap (λ (l : LeafView). l.history) promised)) may)

pub slot_opened : (range : Range) (slot : Slot) (old new after : LeafView) (rows : List Row)
    → new ≡ with_promised old (old.promised + 1) → rows ≡ []
    → after ≡ leaf_with_entry new (entry.Opened 0 range slot rows)
    → after ≡ with_opening range slot.0 old
slot_opened range slot old new after rows promised none applied =
    applied ∙ (λ i. leaf_with_entry (promised i) (entry.Opened 0 range slot (none i)))

-- ---- the first and the last

pub opened_all : (config : Config) (range : ℕ) (states : List LeafView) → range ≡ length (ranges_in config.topology)
    → AreOpenedSo config (opened_before config.topology range) states
    → AreOpenedSo config (first_leaf_history config.topology) states
opened_all config range states all opened =
    subst (λ (r : ℕ). AreOpenedSo config (opened_before config.topology r) states) all opened

new_at : (count n : ℕ) (state new : LeafView) → slice_get (replicate count new) n ≡ Some state → state ≡ new
new_at zero n state new is = let l = slice_get_within [] n state is in absurd (omega (arith, l))
new_at (suc count) zero state new is = let same : Some new ≡ Some state = is in let e : new ≡ state = cc in sym e
new_at (suc count) (suc n) state new is = new_at count n state new is

pub new_opened : (config : Config) (states : List LeafView)
    → states ≡ replicate (length (leaves_in config.topology)) (new_leaf config.schemas config.buckets)
    → AreOpenedSo config (opened_before config.topology 0) states
new_opened config states new = subst (AreOpenedSo config (opened_before config.topology 0)) (sym new) (record {
  count = length-replicate (length (leaves_in config.topology)) (new_leaf config.schemas config.buckets);
  each = λ n state there.
      let is : state ≡ new_leaf config.schemas config.buckets
      = new_at (length (leaves_in config.topology)) n state (new_leaf config.schemas config.buckets) there in
      record {
        schemas = ap (λ (l : LeafView). l.schemas) is;
        buckets = ap (λ (l : LeafView). l.buckets) is;
        entries = ap (λ (l : LeafView). l.history) is;
        promised = ap (λ (l : LeafView). l.promised) is;
      };
})
