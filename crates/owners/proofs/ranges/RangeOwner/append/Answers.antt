use Rattle.std.proofs.Common.{◌≡◌, ◌<◌, ℕ, length, sym, ap, subst, ◌∙◌}
use Rattle.mon_value.specs.declared.histories.Histories.{Histories}
use Rattle.history_book.specs.declared.views.History.TheVariants as of
use Rattle.history_book.specs.Histories.{with_book_entry}
use Rattle.know.specs.Sound.{IsSound}
use Rattle.mon_topo.specs.Sights.{range_sight, sight_of, with_range_sight}
use Rattle.mon_value.specs.Histories.{range_history}
use Rattle.owners.specs.Owners.{RangeView}
use Rattle.owners.proofs.EntryLemmas.{range_entry_of, range_sight_with}
use Rattle.owners.proofs.ranges.RangeOwner.append.Goals as goal

pub invariant_of-self : goal.invariant_of-self
invariant_of-self g c =
    let setting = g.N.Names.setting in
    let e = g.E.NewEntry.entry in
    let range = c.self.inside.range in
    let seen = c.self.inside.book.seen in
    let was = c.self.invariant.2 in
    let one_is = range_entry_of e c.requires.fits in
    let here : range.0 < length seen.ranges =
    subst (λ (n : ℕ). range.0 < n) (sym c.self.invariant.1.held.all_ranges) was.here in
    let grown : c.append.new.owner.seen ≡ with_book_entry (of.Range range) e seen =
    ap (λ owner. owner.seen) c.append.ensures.appended ∙ ap (λ h. with_book_entry h e seen) was.history in
    let sound : IsSound setting c.self.inside.hints (with_book_entry (of.Range range) e seen) =
    subst (λ (view : RangeView). IsSound setting view.hints (with_book_entry (of.Range view.range) e view.book.seen))
    (sym c.self.view_is) c.requires.sound in
    let told : c.args.sight ≡ range_sight (range_history (with_book_entry (of.Range range) e seen) range) =
    subst (λ (view : RangeView). c.args.sight
    ≡ range_sight (range_history (with_book_entry (of.Range view.range) e view.book.seen) view.range))
    (sym c.self.view_is) c.requires.sight in (
      c.note_range.ensures.noted
          ∙ (λ i. with_range_sight range (told i) (c.self.invariant.0 i))
          ∙ ap (λ x. with_range_sight range
          (range_sight (range_history (with_book_entry (of.Range range) x seen) range))
          (sight_of seen)) one_is.1
          ∙ range_sight_with range one_is.0 seen here
          ∙ ap (λ x. sight_of (with_book_entry (of.Range range) x seen)) (sym one_is.1)
          ∙ ap sight_of (sym grown),
      subst (λ (s : Histories). IsSound setting c.self.inside.hints s) (sym grown) sound,
      record {
        here = was.here;
        history = ap (λ owner. owner.history) c.append.ensures.appended ∙ was.history;
      },
    )
