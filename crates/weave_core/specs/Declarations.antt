-- What it takes and what it does to declare an actor, and to let one that has not begun hear from one that has ended.
use Rattle.std.specs.Prelude.{ℕ, ℤ, ◌≡◌, true, false, [], map, Option, Some, None, Result, Ok, Err}
use Rattle.mon_config.specs.declared.config.Config.{Config}
use Rattle.mon_hints.specs.Formulas.{formula_tree}
use Rattle.mon_config.specs.Configs.{range_of_key}
use Rattle.mon_topo.specs.Settings.{Setting}
use Rattle.mon_value.specs.Turns.{Adds, Hides}
use Rattle.mon_value.specs.declared.positions.Leaf.{Leaf}
use Rattle.mon_value.specs.declared.positions.Range.{Range}
use Rattle.mon_value.specs.declared.rows.Row.{Row}
use Rattle.typed_trees.specs.Nodes.{TypedTree}
use Rattle.plan_split.specs.FetchFormulas.{plan_formulas}
use Rattle.query_traces.specs.Askings.{IsAskedOf}
use Rattle.query_core.specs.Machine.{new_query}
use Rattle.query_traces.specs.Rounds.{typed_of, QuerySetting}
use Rattle.core_theory.specs.Core.{CanCome, CoreEvent, Happens, Hears, Reader}
use Rattle.query_texts.specs.TextTypes.{text_type}
use Rattle.query_texts.specs.declared.faults.TextFault.{TextFault}
use Rattle.weave_core.specs.EndTexts.{no_plan_line, no_zone_line}
use Rattle.weave_core.specs.States.{Asking, Dismissed, Eventless, Recovering, Retiring, Role, State, Switching}
use Rattle.weave_core.specs.States.{Undeclared, Writing, actor_at, view_at}
use Rattle.core_store.specs.Agreements.{store_of}
use Rattle.weave_core.specs.Steps.{with_event, with_role}
use Rattle.schedule_lines.specs.declared.calls.Call.{Call}
use Rattle.schedule_lines.specs.declared.calls.Call.TheVariants as call
use Rattle.write_core.specs.Events.{Aims, Begins, Learns}
use Rattle.mon_topo.specs.Views.{View}
use Rattle.write_core.specs.World.{with_value_at, view_of}

-- ---- queries

-- a typed query is asked of the store, with the hints that its fetches have, and the limit
pub record IsAskedSo (config : Config) (typed : TypedTree) (setting : QuerySetting) : Type 0 where
  pub asked : IsAskedOf (store_of config) setting
  pub typed_so : typed_of setting ≡ typed
  pub hints : map formula_tree setting.plan.formulas ≡ plan_formulas config.buckets typed.tree
  pub limit : setting.limit ≡ config.limit

-- ---- actors that are declared

module _ (store : Setting) where
  -- a query that has not begun, by someone who has seen and knows so much
  abbrev pub new_reader : QuerySetting → ℤ → View → Reader store
  new_reader setting moment view = record {
    setting = setting;
    moment = moment;
    first = new_query setting;
    begin = view;
    session = [];
    view = view;
  }

  abbrev pub with_reader : State store → ℕ → Reader store → State store
  with_reader state k reader = record {
    core = record { world = state.core.world; readers = with_value_at state.core.readers k reader };
    roles = with_value_at state.roles k Asking;
  }

module _ (config : Config) where
  -- a write begins, if a zone lists its row's location; else it has no event
  abbrev pub WriteBegins : State (store_of config) → ℕ → Row → Option Range → State (store_of config) → Type 0
  WriteBegins state k row None after = after ≡ with_role (store_of config) state k (Eventless no_zone_line)
  WriteBegins state k row (Some range) after =
      CanCome (store_of config) state.core (Happens (Begins k (Adds row) range))
      × (after ≡ with_role (store_of config) (with_event (store_of config) state (Happens (Begins k (Adds row) range))) k
      Writing)

  -- a trim of a range below a moment begins: it is a write of a bound
  abbrev pub TrimBegins : State (store_of config) → ℕ → Range → ℤ → State (store_of config) → Type 0
  TrimBegins state k range before after =
      CanCome (store_of config) state.core (Happens (Begins k (Hides before) range))
      × (after ≡ with_role (store_of config)
      (with_event (store_of config) state (Happens (Begins k (Hides before) range))) k Writing)

  -- a query is asked of the store, if its text has a typed tree; else it has no event
  abbrev pub QueryBegins : State (store_of config) → ℕ → ℤ → Result TypedTree TextFault → State (store_of config)
      → Type 0
  QueryBegins state k moment (Err why) after =
      after ≡ with_role (store_of config) state k (Eventless (no_plan_line why))
  QueryBegins state k moment (Ok typed) after =
      (setting : QuerySetting) × IsAskedSo config typed setting
      × (after ≡ with_reader (store_of config) state k
      (new_reader (store_of config) setting moment (view_of (actor_at (store_of config) state k))))

  -- a recovery of a range onto a leaf of its zone begins
  abbrev pub RecoveryBegins : State (store_of config) → ℕ → Range → Leaf → State (store_of config) → Type 0
  RecoveryBegins state k range leaf after =
      CanCome (store_of config) state.core (Happens (Aims k range leaf))
      × (after ≡ with_role (store_of config) (with_event (store_of config) state (Happens (Aims k range leaf))) k
      Recovering)

  -- an actor is declared, and this is left
  abbrev pub Declares : State (store_of config) → ℕ → Call → State (store_of config) → Type 0
  Declares state k (call.Write row) after =
      WriteBegins state k row (range_of_key config row.key) after
  Declares state k (call.Down leaf) after = after ≡ with_role (store_of config) state k (Switching leaf true)
  Declares state k (call.Up leaf) after = after ≡ with_role (store_of config) state k (Switching leaf false)
  Declares state k (call.Recover range leaf) after = RecoveryBegins state k range leaf after
  Declares state k (call.Trim range before) after = TrimBegins state k range before after
  Declares state k (call.Retire range leaf) after = after ≡ with_role (store_of config) state k (Retiring range leaf)
  Declares state k (call.Query moment text) after = QueryBegins state k moment (text_type config.schemas text) after

-- ---- meetings

module _ (store : Setting) where
  abbrev pub hearing_in : Role → ℕ → View → CoreEvent store
  hearing_in Undeclared k view = Happens (Learns k view)
  hearing_in (Eventless text) k view = Happens (Learns k view)
  hearing_in (Switching leaf down) k view = Happens (Learns k view)
  hearing_in (Retiring range leaf) k view = Happens (Learns k view)
  hearing_in Dismissed k view = Happens (Learns k view)
  hearing_in Recovering k view = Happens (Learns k view)
  hearing_in Writing k view = Happens (Learns k view)
  hearing_in Asking k view = Hears k view

  -- an actor learns what another one has seen and knows
  abbrev pub hearing : State store → ℕ → ℕ → CoreEvent store
  hearing state k j = hearing_in (state.roles k) k (view_at store state j)

  -- an actor that has not begun hears from another one, and this is left
  pub record Meets (state : State store) (k j : ℕ) (after : State store) : Type 0 where
    pub can : CanCome store state.core (hearing state k j)
    pub becomes : after ≡ with_event store state (hearing state k j)
