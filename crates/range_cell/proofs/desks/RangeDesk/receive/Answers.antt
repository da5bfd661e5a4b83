use Rattle.std.proofs.Common.{◌≡◌, ◌+◌, length, filter, sym, ap, subst, ◌∙◌}
use Rattle.history_book.specs.declared.views.History.TheVariants as of
use Rattle.history_book.specs.Histories.{AreFronts, entries, is_about}
use Rattle.history_book.specs.Seats.{Owner, after_own_learn}
use Rattle.mon_value.specs.Histories.{joined_histories, range_history}
use Rattle.mon_value.specs.declared.histories.Histories.{Histories}
use Rattle.owners.proofs.EntryLemmas.{about_from_book}
use Rattle.range_cell.proofs.RestLemmas.{counted_range, unmapped_range}
use Rattle.range_cell.proofs.desks.RangeDesk.receive.Goals as goal

pub returns-clause-came : goal.returns-clause-came
returns-clause-came g c =
    let leaves = g.N.BookName.book.leaves in
    let owner = c.args.self.now.owner in
    let know = c.args.know.now in
    let own = c.requires.own in
    let joined = joined_histories owner.book.seen know.seen in
    let seen : c.meet.new.self.book.seen ≡ joined = ap (λ (o : Owner). o.seen) c.meet.ensures.book in
    let whole : entries joined (of.Range owner.range) ≡ entries owner.book.seen (of.Range owner.range) =
    (λ i. entries (sym seen i) (sym own i)) ∙ c.meet.ensures.whole ∙ ap (entries owner.book.seen) own in
    let count : c.learn.result ≡ length (range_history owner.book.seen owner.range) =
    c.learn.ensures.exact
    ∙ ap (λ (o : Owner). length (entries c.meet.new.self.book.seen o.history)) c.meet.ensures.book
    ∙ ap length c.meet.ensures.whole ∙ ap (λ h. length (entries owner.book.seen h)) own
    ∙ counted_range owner.range owner.book.seen in
    record {
      range = c.learn.ensures.range ∙ c.meet.ensures.range;
      hints = c.learn.ensures.hints ∙ c.meet.ensures.hints;
      book = c.learn.ensures.noted
          ∙ (λ i. after_own_learn (leaves + (c.meet.ensures.range i).0) (count i) (c.meet.ensures.book i));
      whole = unmapped_range owner.range joined owner.book.seen whole;
      fronts = subst (AreFronts know.seen) seen c.meet.ensures.fronts;
      kept = λ range leaf has. about_from_book range leaf joined owner.book.seen
          (ap (λ (s : Histories). filter (is_about range) (entries s (of.Leaf leaf))) (sym seen)
          ∙ c.meet.ensures.kept range (of.Leaf leaf) has);
      held = λ range leaf has. about_from_book range leaf joined know.seen
          (ap (λ (s : Histories). filter (is_about range) (entries s (of.Leaf leaf))) (sym seen)
          ∙ c.meet.ensures.held range (of.Leaf leaf) has);
    }
