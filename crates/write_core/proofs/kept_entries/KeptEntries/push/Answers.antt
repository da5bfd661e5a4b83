use Rattle.std.proofs.Common.{◌≡◌, ◌∙◌, ◌∷◌, ◌++◌, ◌+◌, ◌-◌, ◌^◌, ◌≤◌, [], length, length-append, subst, sym, ap, arith}
use Rattle.std.proofs.lemmas.List.{map-append}
use Rattle.mon_topo.specs.RangeHistories.{acknowledged_rows}
use Rattle.mon_value.specs.declared.histories.Ack.{Ack}
use Rattle.write_core.specs.Replays.{TellsLasts}
use Rattle.write_core.specs.declared.kept_entries.Logged.{Logged}
use Rattle.write_core.specs.within.KeptEntries.{KeptHistory, entries_of, entry_of}
use Rattle.write_core.proofs.ReplayLemmas.{acked-bare}
use Rattle.write_core.proofs.kept_entries.KeptEntries.push.Goals as goal

pub invariant_of-self : goal.invariant_of-self
invariant_of-self c =
    let before = entries_of c.self.inside.entries.items in
    let e = entry_of c.args.logged c.args.ack.now in
    let added : entries_of c.and-entries.result.items ≡ before ++ e ∷ [] =
    ap entries_of c.and-entries.ensures
    ∙ map-append (λ (one : Logged × Ack). entry_of one.0 one.1) c.self.inside.entries.items _ in
    let room = subst (λ (seen : KeptHistory). 1 ≤ seen.spare) (sym c.self.view_is) c.requires.room in
    record {
      count = ap (λ n. n + 1) c.self.invariant.count ∙ sym (length-append before (e ∷ [])) ∙ ap length (sym added);
      few = omega (arith, room);
      lasts = subst (TellsLasts c.self.inside.lasts.entries)
          (sym (ap acknowledged_rows added ∙ acked-bare before e c.requires.bare))
          c.self.invariant.lasts;
    }

pub returns : goal.returns
returns c = record {
  added = ap entries_of c.and-entries.ensures
      ∙ map-append (λ (one : Logged × Ack). entry_of one.0 one.1) c.self.inside.entries.items _
      ∙ ap (λ (seen : KeptHistory). seen.items ++ entry_of c.args.logged c.args.ack.now ∷ []) c.self.view_is;
  room =
      let same : 2 ^ 60 - c.self.inside.count ≡ c.args.self.now.spare = ap (λ (seen : KeptHistory). seen.spare) c.self.view_is in
      omega (arith, same, c.requires.room);
}
