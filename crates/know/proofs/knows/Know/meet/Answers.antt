use Rattle.std.proofs.Common.{sym, ap, subst, ◌∙◌}
use Rattle.mon_value.specs.declared.histories.Histories.{Histories}
use Rattle.history_book.specs.Histories.{AreFronts}
use Rattle.raise_table.specs.declared.views.Hints.{Hints}
use Rattle.raise_table.specs.Seats.{KnowsAsMuch}
use Rattle.mon_topo.specs.Sights.{joined_sight, sight_of}
use Rattle.mon_topo.proofs.SightLemmas.{joined_seen}
use Rattle.know.proofs.SoundLemmas.{sound_together}
use Rattle.know.proofs.knows.Know.meet.Goals as goal

pub returns-clause-fronts : goal.returns-clause-fronts
returns-clause-fronts g c = (
  subst (λ (seen : Histories). AreFronts seen c.meet-2.new.seat.seen) (ap (λ know. know.seen) c.self.view_is)
      c.meet-2.ensures.fronts.0,
  subst (λ (seen : Histories). AreFronts seen c.meet-2.new.seat.seen) (ap (λ know. know.seen) c.other.view_is)
      c.meet-2.ensures.fronts.1,
)

pub returns-clause-knows : goal.returns-clause-knows
returns-clause-knows g c = (
  subst (λ (hints : Hints). KnowsAsMuch hints c.meet.new.seat) (ap (λ know. know.hints) c.self.view_is)
      c.meet.ensures.knows.0,
  subst (λ (hints : Hints). KnowsAsMuch hints c.meet.new.seat) (ap (λ know. know.hints) c.other.view_is)
      c.meet.ensures.knows.1,
)

pub returns-clause-sound : goal.returns-clause-sound
returns-clause-sound g c =
    sound_together g.N.Names.setting c.self.inside.hints c.other.inside.hints c.meet.new.seat c.self.inside.book.seen
    c.other.inside.book.seen c.meet-2.new.seat.seen c.meet.ensures.met (ap (λ seat. seat.seen) c.meet-2.ensures.met)
    c.meet-2.ensures.fronts.0 c.meet-2.ensures.fronts.1 c.self.invariant.1 c.other.invariant.1

pub invariant_of-self : goal.invariant_of-self
invariant_of-self g c =
    let mine = c.self.inside.book.seen in
    let theirs = c.other.inside.book.seen in
    let saw = ap (λ seat. seat.seen) c.meet-2.ensures.met in (
      c.join.ensures.joined ∙ (λ i. joined_sight (c.self.invariant.0 i) (c.other.invariant.0 i))
          ∙ joined_seen mine theirs ∙ ap sight_of (sym saw),
      sound_together g.N.Names.setting c.self.inside.hints c.other.inside.hints c.meet.new.seat mine theirs
          c.meet-2.new.seat.seen c.meet.ensures.met saw c.meet-2.ensures.fronts.0 c.meet-2.ensures.fronts.1
          c.self.invariant.1 c.other.invariant.1,
    )
