use Rattle.std.proofs.Common.{rules, arith, ◌≡◌, ◌∷◌, ap, sym, ◌∙◌, Some}
use Rattle.atomic_table.specs.Table.{rest}
use Rattle.tied_lock.proofs.locks.TiedLock.lock.Goals as goal
use Rattle.tied_lock.proofs.LockLemmas.{takes_it}

pub swap_new_seat-found-requires : goal.swap_new_seat-found-requires
swap_new_seat-found-requires g c =
    let words : c.self.inside.table.shared.table_id.words ≡ 1 = c.self.invariant.0 in (
      omega (arith, words),
      takes_it g.F.Fits.fits c.self.inside.table.shared.key c.self.inside.table.shared.table_id.slots,
    )

pub exchange-requires : goal.exchange-requires
exchange-requires g c =
    let taken = c.swap_new_seat-found.ensures.1 (search rules) in (
      c.swap_new_seat-found.ensures.0,
      (Some taken.value, taken.taken ∙ ap (λ r. (0, Some taken.value) ∷ r) (sym (ap rest taken.taken))),
    )
