use Rattle.std.proofs.Common.{◌≡◌, ◌<◌, ◌^◌, ℕ, List, [], ◌∷◌, ◌++◌, length, refl, sym, ap, subst, ◌∙◌}
use Rattle.history_book.specs.declared.views.BookEntry.{BookEntry}
use Rattle.history_book.specs.declared.views.BookEntry.TheVariants as one
use Rattle.history_book.specs.declared.views.History.TheVariants as of
use Rattle.history_book.specs.Histories.{book_entry_pass, with_book_entry}
use Rattle.know.specs.Sound.{IsSound}
use Rattle.mon_topo.specs.Sights.{range_sight}
use Rattle.mon_value.specs.Histories.{range_history}
use Rattle.mon_value.specs.declared.histories.RangeEntry.{RangeEntry}
use Rattle.mon_topo.specs.RangeHistories.{turn_ack}
use Rattle.range_cell.proofs.TurnEntryLemmas.{ack_pass}
use Rattle.range_cell.specs.Deeds.{turn_of}
use Rattle.owners.proofs.EntryLemmas.{range_pushed}
use Rattle.owners.specs.Entries.{IsRangeEntry}
use Rattle.std.specs.Prelude.{Some}
use Rattle.range_cell.proofs.desks.RangeDesk.enter.Goals as goal

pub append-requires : goal.append-requires
append-requires g c =
    let owner = c.args.self.now.owner in
    let seen = owner.book.seen in
    let e : RangeEntry = turn_ack c.args.pass (turn_of c.args.deed) c.args.ack.now in
    let named : g.E.NewEntry.entry ≡ one.Range e = c.requires.named in
    let grown : range_history (with_book_entry (of.Range owner.range) (one.Range e) seen) owner.range
    ≡ c.args.self.now.replay.history ++ e ∷ [] =
    range_pushed owner.range e seen ∙ ap (λ h. h ++ e ∷ []) c.requires.history in
    record {
      room = subst (λ (h : List RangeEntry). length h < 2 ^ 62) (sym c.requires.history)
          (subst (λ (n : ℕ). n < 2 ^ 62) c.length-length.ensures.count c.length-length.ensures.short);
      number = c.requires.number
          ∙ ap (λ n. Some n) (sym (ack_pass c.args.pass (turn_of c.args.deed) c.args.ack.now))
          ∙ ap (λ x. Some (book_entry_pass x)) (sym named);
      sound = subst (λ (x : BookEntry). IsSound g.N.Names.setting owner.hints
          (with_book_entry (of.Range owner.range) x seen)) (sym named) c.requires.sound;
      fits = subst IsRangeEntry (sym named) refl;
      sight = c.sight.ensures.sight ∙ ap range_sight (c.acknowledge.ensures.acknowledged ∙ sym grown)
          ∙ ap (λ x. range_sight (range_history (with_book_entry (of.Range owner.range) x seen) owner.range)) (sym named);
    }
