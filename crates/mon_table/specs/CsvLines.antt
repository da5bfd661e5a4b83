-- The text that a writer of lines has written.
use Rattle.std.specs.Prelude.{◌≡◌, ℕ, false, List, ◌++◌, Vec}
use Rattle.std.specs.declared.alloc.Global.{Global}
use Rattle.csv.specs.Writing.{fields_written, has_written, writer_pending, writer_setup, writer_under}
use Rattle.csv.specs.declared.writer.Writer.{Writer}
use Rattle.mon_table.specs.Tables.{line_writer}

-- the text so far: what the vector has, and what is still to go there
abbrev pub lines_in : Writer (Vec ℕ Global) → List ℕ
lines_in writer = (writer_under writer).items ++ writer_pending writer

-- a writer of lines that is between two lines
pub record IsBetweenLines (writer : Writer (Vec ℕ Global)) : Type 0 where
  pub setup : writer_setup writer ≡ line_writer
  pub fields : fields_written writer ≡ 0
  pub wrote : has_written writer ≡ false
