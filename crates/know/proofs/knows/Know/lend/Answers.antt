use Rattle.std.proofs.Common.{refl, subst}
use Rattle.know.specs.Knowledge.{Knowledge}
use Rattle.know.specs.Sound.{IsSound}
use Rattle.raise_table.specs.Seats.{without_notes}
use Rattle.know.proofs.SoundLemmas.{sound_alike}
use Rattle.know.proofs.knows.Know.lend.Goals as goal

pub returns-clause-sound : goal.returns-clause-sound
returns-clause-sound g c =
    subst (λ (know : Knowledge). IsSound g.N.Names.setting (without_notes know.hints) know.seen) c.self.view_is
    (sound_alike g.N.Names.setting c.self.inside.hints (without_notes c.self.inside.hints) c.self.inside.book.seen
    c.self.inside.book.seen refl refl c.self.invariant.1)
