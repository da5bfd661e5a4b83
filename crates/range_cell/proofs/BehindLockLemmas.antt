-- A write that asks for a leaf is behind the range's lock.
use Rattle.std.proofs.Common.{◌≡◌, ◌≢◌, sym, ap, ◌∙◌}
use Rattle.mon_value.specs.declared.positions.Leaf.{Leaf}
use Rattle.mon_value.specs.declared.positions.Slot.{Slot}
use Rattle.write_core.specs.Program.{Locking, Stage, ask_of}
use Rattle.write_core.specs.declared.asks.WriteAsk.TheVariants as ask

pub begun_reserve : (stage : Stage) (slot : Slot) (leaf : Leaf) → ask_of stage ≡ ask.Reserve slot leaf → stage ≢ Locking
begun_reserve stage slot leaf asks is = lock_not (sym asks ∙ ap ask_of is)
  where
    lock_not : ask.Reserve slot leaf ≡ ask.Lock → ⊥
    lock_not h = cc

pub begun_enter : (stage : Stage) (slot : Slot) (leaf : Leaf) → ask_of stage ≡ ask.Enter slot leaf → stage ≢ Locking
begun_enter stage slot leaf asks is = lock_not (sym asks ∙ ap ask_of is)
  where
    lock_not : ask.Enter slot leaf ≡ ask.Lock → ⊥
    lock_not h = cc
