use Rattle.std.proofs.Common.{rules, ◌≡◌, ℤ, List, IfSome, to_z, of_z, w64, sym, subst}
use Rattle.mon_value.specs.Turns.{Hides}
use Rattle.mon_value.specs.declared.histories.Entry.{Entry}
use Rattle.mon_value.specs.declared.rows.Row.{Row}
use Rattle.leaf_store.specs.declared.kept.Kept.TheVariants as kept
use Rattle.leaf_store.specs.declared.replicas.Replica.{Replica}
use Rattle.leaf_store.specs.within.FreshEntries.{HasKeptNumber}
use Rattle.leaf_store.specs.within.Replicas.{CanSettle, IsReplicaAdded, IsTurned, SettlesEntry}
use Rattle.leaf_store.proofs.EntryLemmas.{down_settles, opened_settles, put_settles, trim_settles, up_settles}
use Rattle.leaf_store.proofs.StepLemmas.{can_put, can_trim, is_new}
use Rattle.leaf_store.proofs.replicas.settle_entry.Goals as goal

pub put_copy-requires : goal.put_copy-requires
put_copy-requires c =
    let replica : Replica = record { range = c.in-Put.range; slot = c.in-Put.slot } in
    let old = c.args.replicas.now.entries in
    record {
      numbered = subst (λ (e : Entry). IfSome c.args.series (HasKeptNumber old e)) c.in-Put.is c.requires.numbered;
      later = can_put old c.in-Put.pass replica c.in-Put.row (subst (CanSettle old) c.in-Put.is
          c.requires.settles);
    }

pub returns-in_ok-number-in-Opened-clause-settled : goal.returns-in_ok-number-in-Opened-clause-settled
returns-in_ok-number-in-Opened-clause-settled c =
    let replica : Replica = record { range = c.in-Opened.range; slot = c.in-Opened.slot } in
    let old = c.args.replicas.now.entries in
    let new = c.open.new.replicas.entries in
    let at = c.in_ok-number-in-Opened in
    let fresh = is_new old c.in-Opened.pass replica c.in-Opened.rows (subst (CanSettle old) c.in-Opened.is
    c.requires.settles) in
    let opened = subst (λ (rows : List Row). IsReplicaAdded old new replica rows at.number at.count)
    c.as_slice.ensures.items
    at.ensures.opened in
    subst (λ (e : Entry). SettlesEntry old new e (kept.Opened c.in-Opened.pass at.number at.count)) (sym c.in-Opened.is)
    (opened_settles old new c.in-Opened.pass replica c.in-Opened.rows at.number at.count fresh opened)

pub returns-in_ok-put-in-Put-clause-settled : goal.returns-in_ok-put-in-Put-clause-settled
returns-in_ok-put-in-Put-clause-settled c =
    let replica : Replica = record { range = c.in-Put.range; slot = c.in-Put.slot } in
    let old = c.args.replicas.now.entries in
    let new = c.put_copy.new.replicas.entries in
    let at = c.in_ok-put-in-Put.put in
    subst (λ (e : Entry). SettlesEntry old new e (kept.Put c.in-Put.pass at.replica at.row)) (sym c.in-Put.is)
    (put_settles old new c.in-Put.pass replica c.in-Put.row at.replica at.row c.in_ok-put-in-Put.ensures.put)

pub hide-requires : goal.hide-requires
hide-requires c =
    let replica : Replica = record { range = c.in-Trim.range; slot = c.in-Trim.slot } in
    let old = c.args.replicas.now.entries in
    record {
      held = can_trim old c.in-Trim.pass replica c.in-Trim.before (subst (CanSettle old) c.in-Trim.is
          c.requires.settles);
    }

pub returns-in_ok-number-in-Trim-clause-settled : goal.returns-in_ok-number-in-Trim-clause-settled
returns-in_ok-number-in-Trim-clause-settled c =
    let replica : Replica = record { range = c.in-Trim.range; slot = c.in-Trim.slot } in
    let old = c.args.replicas.now.entries in
    let new = c.hide.new.replicas.entries in
    let number = c.in_ok-number-in-Trim.number in
    let before : to_z w64 (of_z w64 c.in-Trim.before) ≡ c.in-Trim.before = search rules in
    let hidden : IsTurned old new replica (Hides c.in-Trim.before) number =
    subst (λ (bound : ℤ). IsTurned old new replica (Hides bound) number) before
    c.in_ok-number-in-Trim.ensures.hidden in
    subst (λ (bound : ℤ). SettlesEntry old new c.args.entry.now (kept.Trim c.in-Trim.pass number bound)) (sym before)
    (subst (λ (e : Entry). SettlesEntry old new e (kept.Trim c.in-Trim.pass number c.in-Trim.before)) (sym c.in-Trim.is)
    (trim_settles old new c.in-Trim.pass replica c.in-Trim.before number hidden))

pub returns-in-Down-clause-settled : goal.returns-in-Down-clause-settled
returns-in-Down-clause-settled c =
    let old = c.args.replicas.now.entries in
    subst (λ (e : Entry). SettlesEntry old old e (kept.Down c.in-Down.pass)) (sym c.in-Down.is)
    (down_settles old c.in-Down.pass)

pub returns-in-Up-clause-settled : goal.returns-in-Up-clause-settled
returns-in-Up-clause-settled c =
    let old = c.args.replicas.now.entries in
    subst (λ (e : Entry). SettlesEntry old old e (kept.Up c.in-Up.pass)) (sym c.in-Up.is) (up_settles old c.in-Up.pass)
