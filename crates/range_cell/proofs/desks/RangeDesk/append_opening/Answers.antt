use Rattle.std.proofs.Common.{◌≡◌, refl, sym, ap, subst, ◌∙◌}
use Rattle.std.specs.Prelude.{Some}
use Rattle.history_book.specs.declared.views.BookEntry.{BookEntry}
use Rattle.history_book.specs.declared.views.BookEntry.TheVariants as one
use Rattle.history_book.specs.declared.views.History.TheVariants as of
use Rattle.history_book.specs.Histories.{book_entry_pass, with_book_entry}
use Rattle.know.specs.Sound.{IsSound}
use Rattle.mon_topo.specs.Sights.{range_sight}
use Rattle.mon_value.specs.Histories.{range_history}
use Rattle.mon_value.specs.declared.histories.RangeEntry.{RangeEntry}
use Rattle.mon_value.specs.declared.histories.RangeEntry.TheVariants as entry
use Rattle.owners.specs.Entries.{IsRangeEntry}
use Rattle.range_cell.proofs.desks.RangeDesk.append_opening.Goals as goal

pub append-requires : goal.append-requires
append-requires g c =
    let owner = c.args.self.now.owner in
    let seen = owner.book.seen in
    let e : RangeEntry = entry.Opened 0 c.args.slot c.args.leaf in
    let named : g.E.NewEntry.entry ≡ one.Range e = c.requires.named in
    record {
      room = c.requires.room;
      number = c.requires.number ∙ ap (λ x. Some (book_entry_pass x)) (sym named);
      sound = subst (λ (x : BookEntry). IsSound g.N.Names.setting owner.hints
          (with_book_entry (of.Range owner.range) x seen)) (sym named) c.requires.sound;
      fits = subst IsRangeEntry (sym named) refl;
      sight = c.requires.sight
          ∙ ap (λ x. range_sight (range_history (with_book_entry (of.Range owner.range) x seen) owner.range))
          (sym named);
    }
