use Rattle.std.proofs.Common.{◌≡◌, sym, ap, ◌∙◌}
use Rattle.mon_topo.specs.Sights.{sight_of}
use Rattle.know.proofs.SoundLemmas.{sound_alike}
use Rattle.know.proofs.knows.Know.split_numbered.Goals as goal

pub returns-clause-sound : goal.returns-clause-sound
returns-clause-sound g c =
    sound_alike g.N.Names.setting c.self.inside.hints c.split.result c.self.inside.book.seen c.confirm.new.seat.seen
    (ap (λ hints. hints.known) c.split.ensures.split)
    (ap (λ seat. seat.seen) (c.confirm.ensures.kept ∙ c.in-Some.ensures.handed.1)) c.self.invariant.1

pub invariant_of-result : goal.invariant_of-result
invariant_of-result g c =
    let seen : c.confirm.new.seat.seen ≡ c.self.inside.book.seen =
    ap (λ seat. seat.seen) (c.confirm.ensures.kept ∙ c.in-Some.ensures.handed.1) in (
      c.in_ok-sight.ensures.equal ∙ c.self.invariant.0 ∙ ap sight_of (sym seen),
      sound_alike g.N.Names.setting c.self.inside.hints c.split.result c.self.inside.book.seen c.confirm.new.seat.seen
          (ap (λ hints. hints.known) c.split.ensures.split) seen c.self.invariant.1,
    )
