-- What a caller has seen under the numbers that it keeps, as more is seen and appended.
use Rattle.std.proofs.Common.{◌≡◌, ℕ, ◌≤◌, Bool, List, ◌++◌, length, map, filter, drop, sym, ap}
use Rattle.std.proofs.Common.{subst, ◌∙◌, arith}
use Rattle.std.specs.Prelude.{Contains}
use mathlib.Core.List.{IsPrefix}
use Rattle.std.proofs.lemmas.List.{append_assoc, append_cancel_left, drop-append-le, drop_all, map-append}
use Rattle.std.proofs.lemmas.List.Elements.{Contains-append_left, Contains-append_right, filter-append}
use Rattle.history_book.proofs.ListLemmas.{prefix_filter, prefix_length, prefix_whole}
use Rattle.history_book.specs.Histories.{AreFronts, entries, is_under}
use Rattle.history_book.specs.Seats.{IsPurseBorneOut, kept_in}
use Rattle.history_book.specs.declared.views.BookEntry.{BookEntry}
use Rattle.history_book.specs.declared.views.BookEntry.TheVariants as one
use Rattle.history_book.specs.declared.views.History.{History}
use Rattle.history_book.specs.declared.views.History.TheVariants as of
use Rattle.history_book.specs.declared.views.Kept.{Kept}
use Rattle.know.specs.Knowledge.{Knowledge}
use Rattle.mon_topo.proofs.FrontLemmas.{begins_to, behind}
use Rattle.mon_value.proofs.PlainLemmas.{in_map, prefix_map}
use Rattle.mon_topo.specs.HeldHistories.{BeginsWith}
use Rattle.mon_value.specs.Histories.{leaf_history, range_history}
use Rattle.mon_value.specs.declared.histories.Entry.{Entry}
use Rattle.mon_value.specs.declared.histories.Histories.{Histories}
use Rattle.mon_value.specs.declared.histories.RangeEntry.{RangeEntry}
use Rattle.mon_value.specs.declared.positions.Leaf.{Leaf}
use Rattle.mon_value.specs.declared.positions.Range.{Range}
use Rattle.mon_store.specs.Passes.{HasSeenItsOwn}

-- ---- beginnings

-- what begins with a list, mapped, has that list mapped as its front
pub prefix_from : {X Y : Type 0} (f : X → Y) (xs ys : List X) → BeginsWith ys xs → IsPrefix (map f xs) (map f ys)
prefix_from f xs ys front = prefix_map f xs ys (behind ys xs, sym (begins_to ys xs front))

pub entries_front : (a b : Histories) → AreFronts a b → (h : History) → IsPrefix (entries a h) (entries b h)
entries_front a b front (of.Leaf leaf) =
    prefix_map (λ e. one.Leaf e) (leaf_history a leaf) (leaf_history b leaf) (front.0 leaf)
entries_front a b front (of.Range range) =
    prefix_map (λ e. one.Range e) (range_history a range) (range_history b range) (front.1 range)

module _ {X : Type 0} where
  drop_front : (xs ys : List X) → drop (length xs) (xs ++ ys) ≡ ys
  drop_front xs ys = drop-append-le (length xs) xs ys (omega arith)
      ∙ ap (λ (front : List X). front ++ ys) (drop_all (length xs) xs (omega arith))

  pub drop_prefix : (xs ys : List X) → (p : IsPrefix xs ys) → drop (length xs) ys ≡ p.0
  drop_prefix xs ys p = ap (drop (length xs)) (sym p.1) ∙ drop_front xs p.0

  -- what a test keeps of what came, by what it keeps of the whole
  pub came : (test : X → Bool) (was now own more : List X) → IsPrefix was now → filter test was ≡ own
      → filter test now ≡ own ++ more → filter test (drop (length was) now) ≡ more
  came test was now own more p before after =
      ap (filter test) (drop_prefix was now p)
      ∙ append_cancel_left own (filter test p.0) more
      (ap (λ (xs : List X). xs ++ filter test p.0) (sym before) ∙ sym (filter-append test was p.0)
      ∙ ap (filter test) p.1 ∙ after)

-- ---- what came since

module _ {X : Type 0} where
  -- what came behind a list came behind each of its fronts
  came_since : (was begun mid now more : List X) (x : X) → IsPrefix was begun → mid ≡ begun ++ more → IsPrefix mid now
      → Contains more x → Contains (drop (length was) now) x
  came_since was begun mid now more x p is q there =
      let rest : List X = more ++ q.0 in
      let whole : was ++ (p.0 ++ rest) ≡ now =
      sym (append_assoc was p.0 rest) ∙ ap (λ (xs : List X). xs ++ rest) p.1
      ∙ sym (append_assoc begun more q.0) ∙ ap (λ (xs : List X). xs ++ q.0) (sym is) ∙ q.1 in
      subst (λ (xs : List X). Contains xs x) (sym (drop_prefix was now (p.0 ++ rest, whole)))
      (Contains-append_right p.0 rest x (Contains-append_left more q.0 x there))

module _ (before begun mid after : Histories) (from : AreFronts before begun) (to : AreFronts mid after) where
  -- an entry that came to a leaf's history
  pub leaf_since : (leaf : Leaf) (more : List Entry) (e : Entry)
      → leaf_history mid leaf ≡ leaf_history begun leaf ++ more → Contains more e
      → Contains (drop (length (entries before (of.Leaf leaf))) (entries after (of.Leaf leaf))) (one.Leaf e)
  leaf_since leaf more e since there =
      came_since (entries before (of.Leaf leaf)) (entries begun (of.Leaf leaf)) (entries mid (of.Leaf leaf))
      (entries after (of.Leaf leaf)) (map (λ x. one.Leaf x) more) (one.Leaf e)
      (entries_front before begun from (of.Leaf leaf))
      (ap (map (λ x. one.Leaf x)) since ∙ map-append (λ x. one.Leaf x) (leaf_history begun leaf) more)
      (entries_front mid after to (of.Leaf leaf)) (in_map (λ x. one.Leaf x) more e there)

  -- and to a range's
  pub range_since : (range : Range) (more : List RangeEntry) (e : RangeEntry)
      → range_history mid range ≡ range_history begun range ++ more → Contains more e
      → Contains (drop (length (entries before (of.Range range))) (entries after (of.Range range))) (one.Range e)
  range_since range more e since there =
      came_since (entries before (of.Range range)) (entries begun (of.Range range)) (entries mid (of.Range range))
      (entries after (of.Range range)) (map (λ x. one.Range x) more) (one.Range e)
      (entries_front before begun from (of.Range range))
      (ap (map (λ x. one.Range x)) since ∙ map-append (λ x. one.Range x) (range_history begun range) more)
      (entries_front mid after to (of.Range range)) (in_map (λ x. one.Range x) more e there)

-- ---- numbers

-- whoever had seen all that is kept under a number still has
pub still_all : (n : ℕ) (was now own : List BookEntry) → IsPrefix was now → filter (is_under n) was ≡ own
    → IsPrefix (filter (is_under n) now) own → filter (is_under n) now ≡ own
still_all n was now own on all within =
    prefix_whole (filter (is_under n) now) own within
    (subst (λ (xs : List BookEntry). length xs ≤ length (filter (is_under n) now)) all
    (prefix_length (filter (is_under n) was) (filter (is_under n) now) (prefix_filter (is_under n) was now on)))

pub still_exact : (before after : Knowledge) → AreFronts before.seen after.seen → HasSeenItsOwn before
    → IsPurseBorneOut after.seen after.purse → (kept : Kept) (h : History) → Contains (kept_in before.purse) kept
    → Contains (kept_in after.purse) kept → filter (is_under kept.number) (entries after.seen h) ≡ entries kept.own h
still_exact before after front exact borne kept h was now =
    still_all kept.number (entries before.seen h) (entries after.seen h) (entries kept.own h)
    (entries_front before.seen after.seen front h) (exact kept h was) (borne.exact kept h now)
