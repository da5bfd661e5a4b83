use Rattle.std.proofs.Common.{◌≡◌, ◌≤◌, ℕ, filter, length, sym, ap, subst, ◌∙◌}
use Rattle.std.proofs.lemmas.List.{length-map}
use Rattle.history_book.specs.declared.views.BookEntry.TheVariants as one
use Rattle.history_book.specs.declared.views.History.TheVariants as of
use Rattle.history_book.specs.Histories.{AreFronts, entries, is_about}
use Rattle.history_book.specs.Seats.{Owner, after_own_learn, times_room}
use Rattle.mon_value.specs.Histories.{leaf_history}
use Rattle.mon_value.specs.declared.histories.Entry.{Entry}
use Rattle.mon_value.specs.declared.histories.Histories.{Histories}
use Rattle.owners.proofs.CalledLemmas.{unmapped}
use Rattle.owners.proofs.leaves.LeafOwner.receive.Goals as goal

pub returns-clause-received : goal.returns-clause-received
returns-clause-received g c =
    let owner = c.args.self.now in
    let know = c.args.know.now in
    let leaf = owner.leaf in
    let seen = c.meet.new.self.book.seen in
    let own : owner.book.history ≡ of.Leaf leaf = c.meet.ensures.of_leaf.history in
    let same_seen : c.learn.new.self.book.seen ≡ seen = ap (λ (o : Owner). o.seen) c.learn.ensures.noted in
    let kept : entries seen (of.Leaf leaf) ≡ entries owner.book.seen (of.Leaf leaf) =
    ap (entries seen) (sym own) ∙ c.meet.ensures.whole ∙ ap (entries owner.book.seen) own in
    let whole : leaf_history seen leaf ≡ leaf_history owner.book.seen leaf =
    unmapped leaf seen owner.book.seen kept in
    let met_own : c.meet.new.self.book.history ≡ of.Leaf leaf =
    ap (λ (o : Owner). o.history) c.meet.ensures.book ∙ own in
    record {
      leaf = c.learn.ensures.leaf ∙ c.meet.ensures.leaf;
      own = own;
      hints = c.learn.ensures.hints ∙ c.meet.ensures.hints;
      book = c.learn.ensures.noted
          ∙ (λ i. after_own_learn (c.meet.ensures.leaf i).0 c.learn.result (c.meet.ensures.book i));
      whole = ap (λ (s : Histories). leaf_history s leaf) same_seen ∙ whole;
      counted = sym (c.learn.ensures.exact ∙ ap (λ h. length (entries seen h)) met_own
          ∙ length-map (leaf_history seen leaf) (λ (e : Entry). one.Leaf e) ∙ ap length whole);
      fronts = subst (AreFronts know.seen) (sym same_seen) c.meet.ensures.fronts;
      held = λ range history has. ap (λ (s : Histories). filter
          (is_about range) (entries s history)) same_seen
          ∙ c.meet.ensures.held range history has;
      promised = subst (λ (n : ℕ). times_room leaf know.purse.rooms ≤ n)
          (ap (λ (o : Owner). o.promised) c.meet.ensures.book) c.meet.ensures.promised;
    }
