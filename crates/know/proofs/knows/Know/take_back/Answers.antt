use Rattle.std.proofs.Common.{ap, subst, ◌∙◌}
use Rattle.raise_table.specs.declared.views.Hints.{Hints}
use Rattle.raise_table.specs.Seats.{KnowsAsMuch}
use Rattle.know.proofs.SoundLemmas.{sound_met}
use Rattle.know.proofs.knows.Know.take_back.Goals as goal

pub invariant_of-self : goal.invariant_of-self
invariant_of-self g c = (
  c.assign.ensures.assigned ∙ c.requires.sight,
  sound_met g.N.Names.setting c.self.inside.hints c.args.hints c.meet.new.seat c.args.book.seen c.meet.ensures.met
      c.requires.sound,
)

pub returns-clause-knows : goal.returns-clause-knows
returns-clause-knows g c = (
  subst (λ (hints : Hints). KnowsAsMuch hints c.meet.new.seat) (ap (λ know. know.hints) c.self.view_is)
      c.meet.ensures.knows.0,
  c.meet.ensures.knows.1,
)

pub returns-clause-sound : goal.returns-clause-sound
returns-clause-sound g c =
    sound_met g.N.Names.setting c.self.inside.hints c.args.hints c.meet.new.seat c.args.book.seen c.meet.ensures.met
    c.requires.sound
