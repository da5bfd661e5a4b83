-- What a turn of the code comes to, as the definitions see it.
use Rattle.std.specs.Prelude.{◌≡◌, Result, Ok, Err}
use Rattle.mon_value.specs.declared.refusals.Refusal.{Refusal}
use Rattle.mon_value.specs.declared.refusals.Refusal.TheVariants as refusal
use Rattle.mql_parse.specs.declared.faults.ParseFault.{ParseFault}
use Rattle.mql_parse.specs.declared.turns.Turned.{Turned}
use Rattle.mql_parse.specs.declared.turns.Turned.TheVariants as turned
use Rattle.mql_parse.specs.Outcomes.{rest_of}
use Rattle.mql_parse.specs.Repeats.{Turn, Done, Again, Stuck}

abbrev pub StuckBy : {T : Type 0} → Refusal ParseFault → Turn T → Type 0
StuckBy (refusal.Fault f) turn = turn ≡ Stuck f
StuckBy refusal.OutOfMemory turn = Unit {0}

-- a call takes the turn that is to be taken, want of memory aside
abbrev pub Turns : {X T : Type 0} → (X → T) → Result (Turned X) (Refusal ParseFault) → Turn T → Type 0
Turns view (Ok (turned.Done x from)) turn = turn ≡ Done (view x) (rest_of from)
Turns view (Ok (turned.Again x from)) turn = turn ≡ Again (view x) (rest_of from)
Turns view (Err r) turn = StuckBy r turn
