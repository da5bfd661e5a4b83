-- What every interleaving of writes, recoveries and queries keeps.
use Rattle.std.specs.Prelude.{ℕ, ◌≡◌, []}
use Rattle.mon_topo.specs.Settings.{Setting}
use Rattle.query_core.specs.Sessions.{IsLicensed, view_after}
use Rattle.mon_topo.specs.Views.{IsSound}
use Rattle.write_core.specs.Invariant.{IsKept, IsNewWorld}
use Rattle.write_core.specs.World.{IsPart, World}
use Rattle.core_theory.specs.Core.{Core, Reader}

-- what a query's caller has seen and knows is a sound part of the truth, as it was when the query began; and its
-- session is licensed
pub record IsReader (store : Setting) (world : World) (reader : Reader store) : Type 0 where
  pub part : IsPart store world reader.view
  pub sound : IsSound store reader.begin
  pub licensed : IsLicensed store reader.setting reader.moment reader.begin reader.first reader.session
  pub now : view_after store reader.setting reader.moment reader.begin reader.session ≡ reader.view

-- so is each query's, while the writes and recoveries keep their invariant
pub record IsWoven (store : Setting) (core : Core store) : Type 0 where
  pub world : IsKept store core.world
  pub readers : (i : ℕ) → IsReader store core.world (core.readers i)

-- a query that has not begun has seen all that there is
pub record IsNewReader (store : Setting) (world : World) (reader : Reader store) : Type 0 where
  pub begin : reader.begin ≡ world.truth
  pub session : reader.session ≡ []
  pub view : reader.view ≡ world.truth

-- nobody has begun
pub record IsNewCore (store : Setting) (core : Core store) : Type 0 where
  pub world : IsNewWorld store core.world
  pub readers : (i : ℕ) → IsNewReader store core.world (core.readers i)
