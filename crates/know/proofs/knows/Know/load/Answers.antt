use Rattle.std.proofs.Common.{ap, subst}
use Rattle.raise_table.specs.declared.views.Hints.{Hints}
use Rattle.raise_table.specs.Seats.{KnowsAsMuch}
use Rattle.know.proofs.SoundLemmas.{sound_learned}
use Rattle.know.proofs.knows.Know.load.Goals as goal

pub invariant_of-self : goal.invariant_of-self
invariant_of-self g c = (
  c.self.invariant.0,
  sound_learned g.N.Names.setting c.self.inside.hints c.load.new.seat _ c.self.inside.book.seen
      (ap (λ h. h.known) c.load.ensures.noted) c.self.invariant.1,
)

pub returns-clause-kept : goal.returns-clause-kept
returns-clause-kept g c =
    subst (λ (hints : Hints). KnowsAsMuch hints c.load.new.seat) (ap (λ know. know.hints) c.self.view_is)
    c.load.ensures.kept

pub returns-clause-sound : goal.returns-clause-sound
returns-clause-sound g c =
    sound_learned g.N.Names.setting c.self.inside.hints c.load.new.seat _ c.self.inside.book.seen
    (ap (λ h. h.known) c.load.ensures.noted) c.self.invariant.1
