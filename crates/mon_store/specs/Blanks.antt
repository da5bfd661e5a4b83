-- A store before it has a name, and which names mean it.
use Rattle.std.specs.Prelude.{◌≡◌}
use Rattle.history_book.specs.Books.{BookIdentity}
use Rattle.know.specs.Tables.{AreTablesOf}
use Rattle.mon_config.specs.Configs.{IsLimited}
use Rattle.mon_config.specs.declared.config.Config.{Config}
use Rattle.mon_topo.specs.Settings.{Setting}
use Rattle.raise_table.specs.Tables.{RaiseIdentity}
use Rattle.mon_store.specs.Stores.{setting_of}

-- the tables, and what the store is set up with
pub record Blank : Type 0 where
  pub raise : RaiseIdentity
  pub book : BookIdentity
  pub config : Config

-- the tables are as large as the configuration wants them
pub record IsSized (blank : Blank) : Type 0 where
  pub tables : AreTablesOf (setting_of blank.config) blank.raise blank.book
  pub buckets : blank.raise.buckets ≡ blank.config.buckets
  pub limited : IsLimited blank.config

-- a name means the blank
pub record IsNamed (raise : RaiseIdentity) (book : BookIdentity) (setting : Setting) (blank : Blank) : Type 0 where
  pub raise_is : raise ≡ blank.raise
  pub book_is : book ≡ blank.book
  pub setting_is : setting ≡ setting_of blank.config
