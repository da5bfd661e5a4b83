use Rattle.std.proofs.Common.{rules, ◌≡◌, ℤ, to_z, of_z, w64, sym, subst}
use Rattle.mon_value.specs.Turns.{Hides}
use Rattle.mon_value.specs.declared.histories.Entry.{Entry}
use Rattle.leaf_store.specs.declared.kept.Kept.TheVariants as kept
use Rattle.leaf_store.specs.declared.replicas.Replica.{Replica}
use Rattle.leaf_store.specs.within.Replicas.{CanSettle, IsTurned, SettlesEntry}
use Rattle.leaf_store.proofs.EntryLemmas.{put_settles, trim_settles}
use Rattle.leaf_store.proofs.StepLemmas.{can_put, can_trim}
use Rattle.leaf_store.proofs.replicas.put_entry.Goals as goal

pub put-requires-clause-later : goal.put-requires-clause-later
put-requires-clause-later c =
    let replica : Replica = record { range = c.in-Put.range; slot = c.in-Put.slot } in
    let old = c.args.replicas.now.entries in
    can_put old c.in-Put.pass replica c.in-Put.row (subst (CanSettle old) c.in-Put.is c.requires.settles)

pub returns-in-Ok-clause-settled : goal.returns-in-Ok-clause-settled
returns-in-Ok-clause-settled c =
    let replica : Replica = record { range = c.in-Put.range; slot = c.in-Put.slot } in
    let old = c.args.replicas.now.entries in
    let new = c.put.new.replicas.entries in
    let at = c.in-Ok.put in
    subst (λ (e : Entry). SettlesEntry old new e (kept.Put c.in-Put.pass at.replica at.row)) (sym c.in-Put.is)
    (put_settles old new c.in-Put.pass replica c.in-Put.row at.replica at.row c.in-Ok.ensures.put)

pub hide-requires : goal.hide-requires
hide-requires c =
    let replica : Replica = record { range = c.in-Trim.range; slot = c.in-Trim.slot } in
    let old = c.args.replicas.now.entries in
    record {
      held = can_trim old c.in-Trim.pass replica c.in-Trim.before (subst (CanSettle old) c.in-Trim.is
          c.requires.settles);
    }

pub returns-in-Ok-hide-clause-settled : goal.returns-in-Ok-hide-clause-settled
returns-in-Ok-hide-clause-settled c =
    let replica : Replica = record { range = c.in-Trim.range; slot = c.in-Trim.slot } in
    let old = c.args.replicas.now.entries in
    let new = c.hide.new.replicas.entries in
    let number = c.in-Ok-hide.number in
    let before : to_z w64 (of_z w64 c.in-Trim.before) ≡ c.in-Trim.before = search rules in
    let hidden : IsTurned old new replica (Hides c.in-Trim.before) number =
    subst (λ (bound : ℤ). IsTurned old new replica (Hides bound) number) before c.in-Ok-hide.ensures.hidden in
    subst (λ (bound : ℤ). SettlesEntry old new c.args.entry (kept.Trim c.in-Trim.pass number bound)) (sym before)
    (subst (λ (e : Entry). SettlesEntry old new e (kept.Trim c.in-Trim.pass number c.in-Trim.before)) (sym c.in-Trim.is)
    (trim_settles old new c.in-Trim.pass replica c.in-Trim.before number hidden))
