-- A reader that began as a new query: its session is one of such a query, and ends where the reader is.
use Rattle.mon_topo.specs.Views.{View}
use Rattle.std.proofs.Common.{◌≡◌, sym, ap, subst, ◌∙◌}
use Rattle.mon_topo.specs.Settings.{Setting}
use Rattle.query_core.specs.Machine.{Query, new_query}
use Rattle.query_core.specs.Sessions.{IsLicensed, query_after, view_after}
use Rattle.query_core.specs.declared.stages.Stage.{Stage}
use Rattle.core_theory.specs.Core.{Reader, query_now}
use Rattle.core_theory.specs.Licensed.{IsReader}
use Rattle.write_core.specs.World.{World}

module _ (store : Setting) (world : World) (reader : Reader store) (own : IsReader store world reader)
    (new : reader.first ≡ new_query reader.setting) where
  pub as_new : IsLicensed store reader.setting reader.moment reader.begin (new_query reader.setting)
      reader.session
  as_new = subst (λ (query : Query). IsLicensed store reader.setting reader.moment reader.begin query
      reader.session) new own.licensed

  pub stage_is : (stage : Stage) → (query_now store reader).stage ≡ stage
      → (query_after store reader.setting reader.moment (new_query reader.setting) reader.session).stage ≡ stage
  stage_is stage e =
      ap (λ (query : Query). (query_after store reader.setting reader.moment query reader.session).stage) (sym new) ∙ e

  pub seen_now : (P : View → Type 0)
      → P (view_after store reader.setting reader.moment reader.begin reader.session)
      → P reader.view
  seen_now P h = subst P own.now h
