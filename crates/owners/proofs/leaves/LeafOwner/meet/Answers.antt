use Rattle.std.proofs.Common.{◌≡◌, ◌<◌, filter, sym, ap, subst, ◌∙◌}
use Rattle.mon_value.specs.declared.histories.Histories.{Histories}
use Rattle.history_book.specs.Histories.{AreFronts, entries, is_about}
use Rattle.history_book.specs.Seats.{Seat, times_range}
use Rattle.know.specs.Sound.{IsSound}
use Rattle.know.proofs.SoundLemmas.{sound_together}
use Rattle.mon_topo.specs.Sights.{joined_sight, sight_of}
use Rattle.mon_topo.proofs.SightLemmas.{joined_seen}
use Rattle.raise_table.specs.declared.views.Hints.{Hints}
use Rattle.owners.proofs.leaves.LeafOwner.meet.Goals as goal

pub returns-clause-fronts : goal.returns-clause-fronts
returns-clause-fronts g c =
    subst (λ (seen : Histories). AreFronts seen c.meet_owner-2.new.owner.seen)
    (ap (λ seat. seat.seen) c.lend-hints.ensures.book) c.meet_owner-2.ensures.fronts.1

pub returns-clause-held : goal.returns-clause-held
returns-clause-held g c range history has =
    let lent = c.lend-hints.ensures.book in
    c.meet_owner-2.ensures.held range history
    (subst (λ (seat : Seat). 0 < times_range range seat.purse.holds) (sym lent) has)
    ∙ ap (λ (seat : Seat). filter (is_about range) (entries seat.seen history)) lent

pub invariant_of-self : goal.invariant_of-self
invariant_of-self g c =
    let setting = g.N.Names.setting in
    let mine = c.self.inside.book.seen in
    let theirs = c.lend-hints.result.1.seen in
    let lent = ap (λ seat. seat.seen) c.lend-hints.ensures.book in
    let saw = ap (λ owner. owner.seen) c.meet_owner-2.ensures.met in
    let there : c.sight.result.now ≡ sight_of theirs = c.sight.ensures.sight
    ∙ ap sight_of (ap (λ know. know.seen) c.lend-hints.ensures.left ∙ sym lent) in
    let sound : IsSound setting c.lend-hints.result.0 theirs =
    subst (λ (z : Hints × Histories). IsSound setting z.0 z.1)
    (λ i. (sym c.lend-hints.ensures.hints i, sym lent i)) c.lend-hints.ensures.sound in
    let was = c.self.invariant.2 in (
      c.join.ensures.joined ∙ (λ i. joined_sight (c.self.invariant.0 i) (there i)) ∙ joined_seen mine theirs
          ∙ ap sight_of (sym saw),
      sound_together setting c.self.inside.hints.hints c.lend-hints.result.0 c.meet_owner.new.seat.hints mine theirs
          c.meet_owner-2.new.owner.seen (ap (λ owner. owner.hints) c.meet_owner.ensures.met) saw
          c.meet_owner-2.ensures.fronts.0 c.meet_owner-2.ensures.fronts.1 c.self.invariant.1 sound,
      record {
        here = was.here;
        history = ap (λ owner. owner.history) c.meet_owner-2.ensures.met ∙ was.history;
        zone = ap (λ owner. owner.leaf.zone) c.meet_owner.ensures.met ∙ was.zone;
        child = ap (λ owner. owner.leaf.child) c.meet_owner.ensures.met ∙ was.child;
      },
    )
