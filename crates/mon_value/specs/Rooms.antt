-- Lists that keep room for items to come.
use Rattle.std.specs.Prelude.{ℕ, List}

-- the items, and how many more go in without memory
pub record RoomList (T : Type 0) : Type 0 where
  pub items : List T
  pub spare : ℕ
