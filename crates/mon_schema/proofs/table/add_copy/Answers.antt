use Rattle.mon_schema.proofs.NamedEntriesLemmas.{copy_put}
use Rattle.mon_schema.proofs.table.add_copy.Goals as goal

pub returns : goal.returns
returns g c = record {
  added = copy_put c.args.copied.now c.in_ok-name.name c.args.name.now c.in_ok-copy.field-0 c.args.schema.now
      c.insert.new.self.entries c.in_ok-name.ensures.items c.in_ok-copy.ensures.equal c.in_ok-insert.ensures.entries
      c.requires.new;
}
