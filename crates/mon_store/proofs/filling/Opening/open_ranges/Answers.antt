use Rattle.std.proofs.Common.{◌≡◌, ◌<◌, ◌+◌, ◌++◌, ◌∷◌, ℕ, suc, List, [], sym, ap, subst, ◌∙◌, arith}
use Rattle.std.proofs.Common.{length}
use Rattle.std.proofs.Common.{drop, slice_get}
use Rattle.std.specs.List.{range_with_len}
use Rattle.history_book.specs.Seats.{Owner}
use Rattle.mon_topo.specs.Settings.{Setting}
use Rattle.mon_topo.specs.Zones.{ranges_in}
use Rattle.mon_store.proofs.PlaceLemmas.{drop_one, first_left, range_owner_at}
use Rattle.mon_store.specs.Openings.{IsOpening, all_owners}
use Rattle.mon_store.proofs.filling.Opening.open_ranges.Goals as goal
use Rattle.mon_value.proofs.PlainLemmas.{range_last}

pub open_range-requires : goal.open_range-requires
open_range-requires g c =
    let n = c.loop-range.range in
    let book = g.N.BookName.book in
    let inv = c.loop-range.invariant in
    let zones : length (ranges_in c.args.config.now.topology) ≡ length (ranges_in g.N.Names.setting.zones) =
    ap (λ (s : Setting). length (ranges_in s.zones)) (sym c.requires.setup.setting_is) in
    let here : n < length (ranges_in g.N.Names.setting.zones) =
    omega (arith, c.loop-range-test.true, c.ranges-range-end.ensures.count, zones) in
    record {
      setup = c.requires.setup;
      tables = c.requires.tables;
      here = here;
      opening = inv.opening;
      none = inv.none;
      sound = inv.sound;
      book = ap (λ (l : List Owner). slice_get l 0) inv.owners ∙ first_left (all_owners book) (book.leaves + n)
          ∙ range_owner_at book.leaves book.ranges n (omega (arith, here, c.requires.tables.ranges));
      counted = inv.counted;
    }

pub loop-range-preserved : goal.loop-range-preserved
loop-range-preserved g c =
    let n = c.loop-range.range in
    let book = g.N.BookName.book in
    let inv = c.loop-range.invariant in
    let told = c.in_ok-open_range.ensures in
    let on : suc (book.leaves + n) ≡ book.leaves + (n + 1) = omega arith in
    let one : suc n ≡ n + 1 = omega arith in
    let none : 0 + n ≡ n = omega arith in
    record {
      opening = told.opening;
      none = told.none;
      sound = told.sound;
      owners = told.books ∙ ap (drop 1) inv.owners ∙ drop_one (book.leaves + n) (all_owners book)
          ∙ ap (λ k. drop k (all_owners book)) on;
      counted = told.counted;
      ranges = told.ranges ∙ ap (λ l. l ++ n ∷ []) inv.ranges ∙ sym (range_last 0 n n none)
          ∙ ap (range_with_len 0) one;
    }

pub returns : goal.returns
returns g c =
    let inv = c.loop-range.invariant in
    let zones : length (ranges_in c.args.config.now.topology) ≡ length (ranges_in g.N.Names.setting.zones) =
    ap (λ (s : Setting). length (ranges_in s.zones)) (sym c.requires.setup.setting_is) in
    let end = c.ranges-range-end.ensures.count in
    let past = c.loop-range-test.false in
    let before = c.loop-range.auto.range-end in
    let all : c.loop-range.range ≡ length (ranges_in g.N.Names.setting.zones) =
    omega (arith, end, past, before, zones) in
    record {
      opening = subst (λ (n : ℕ).
          IsOpening g.N.Names.setting.zones n 0 c.loop-range.self.leaves.items c.loop-range.self.know) all inv.opening;
      none = inv.none;
      sound = inv.sound;
      ranges = inv.ranges ∙ ap (range_with_len 0) all;
    }
