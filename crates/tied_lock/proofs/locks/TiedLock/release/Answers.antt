use Rattle.std.proofs.Common.{rules, arith, ◌≡◌, ◌∷◌, [], Some}
use Rattle.tied_lock.proofs.locks.TiedLock.release.Goals as goal
use Rattle.tied_lock.proofs.LockLemmas.{gives_it}

pub store-requires : goal.store-requires
store-requires g c =
    let slots : c.self.inside.table.shared.table_id.slots ≡ 1 = c.self.invariant.1 in
    let words : c.self.inside.table.shared.table_id.words ≡ 1 = c.self.invariant.0 in
    let table : c.exchange.new.seat.table_id ≡ c.self.inside.table.shared.table_id = search rules in
    let held : c.exchange.new.seat.me.1 ≡ (0, Some c.args.value) ∷ [] = search rules in
    let fit : g.F.Fits.fits c.self.inside.table.shared.key c.args.value = search rules in (
      table,
      omega (arith, words),
      gives_it g.F.Fits.fits c.self.inside.table.shared.key c.self.inside.table.shared.table_id.slots
          c.exchange.new.seat.id c.exchange.new.seat.me c.args.value (omega (arith, slots)) held fit,
    )
