use Rattle.std.proofs.Common.{◌≡◌, ◌+◌, sym, ap, subst, ◌∙◌, arith}
use Rattle.std.specs.List.{range_with_len}
use Rattle.history_book.specs.Seats.{IsPurseBorneOut, first_seat}
use Rattle.know.proofs.FirstLemmas.{nothing_is_sound}
use Rattle.know.specs.Knowledge.{Knowledge, from_seats}
use Rattle.know.specs.Sound.{IsSound}
use Rattle.mon_topo.specs.HeldHistories.{first_histories}
use Rattle.mon_topo.specs.Settings.{Setting}
use Rattle.mon_value.specs.Histories.{leaf_numbered}
use Rattle.raise_table.specs.Seats as raising
use Rattle.mon_store.proofs.EndLemmas.{is_first, is_pass, seen_first}
use Rattle.mon_store.proofs.StartLemmas.{begins, numbered_from}
use Rattle.mon_store.proofs.filling.Opening.fill.Goals as goal
use Rattle.mon_store.specs.Beginnings.{IsFirst}
use Rattle.mon_store.specs.Passes.{IsPass}

pub open_ranges-requires : goal.open_ranges-requires
open_ranges-requires g c =
    let setting = g.N.Names.setting in
    let book = g.N.BookName.book in
    let know : c.make_leaves.new.self.know ≡ from_seats raising.no_hints (first_seat book.leaves book.ranges) =
    c.make_leaves.ensures.know ∙ c.requires.know in
    record {
      setup = c.requires.setup;
      tables = c.requires.tables;
      opening = begins book.leaves book.ranges setting.zones raising.no_hints c.make_leaves.new.self.know
          c.make_leaves.new.self.leaves.items know c.in_ok-make_leaves.ensures.leaves;
      none = ap (λ (k : Knowledge). k.purse.holds) know;
      sound = subst (λ (k : Knowledge). IsSound setting k.hints k.seen) (sym know)
          (nothing_is_sound setting raising.no_hints book.leaves book.ranges c.requires.tables.leaves
          c.requires.tables.ranges);
      books = c.in_ok-make_leaves.ensures.books;
      counted = c.in_ok-make_leaves.ensures.counted;
      no_range = c.make_leaves.ensures.ranges ∙ c.requires.no_range;
    }

pub returns : goal.returns
returns g c =
    let setting = g.N.Names.setting in
    let told = c.in_ok-open_ranges.ensures in
    let know = c.open_ranges.new.self.know in
    let kept : c.confirm.new.self ≡ know = c.confirm.ensures.kept in
    let borne : IsPurseBorneOut know.seen know.purse =
    subst (λ (k : Knowledge). IsPurseBorneOut k.seen k.purse) kept c.confirm.ensures.borne_out in
    let leaves = c.open_ranges.new.self.leaves.items in
    let seen : know.seen ≡ first_histories setting.zones =
    seen_first setting.zones know.seen told.sound.held.all_leaves told.sound.held.all_ranges told.opening.seen in
    record {
      first = subst (IsFirst c.args.config.now) (sym kept)
          (is_first setting know told.opening.opener told.none seen c.args.config.now
          (sym (ap (λ (s : Setting). s.zones) c.requires.setup.setting_is)));
      pass = subst (IsPass setting) (sym kept) (is_pass setting know told.opening.opener told.none seen borne);
      leaves = numbered_from 0 leaves (λ n leaf there.
          let number : n ≡ 0 + n = omega arith in
          (told.opening.new.each n leaf there).leaf_is ∙ ap leaf_numbered number)
          ∙ ap (range_with_len 0) told.opening.new.count;
      ranges = told.ranges;
    }
