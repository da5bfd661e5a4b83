-- How a call that may be refused answers.
use Rattle.std.specs.Prelude.{◌≡◌, Option, Some, None, Result, Ok, Err}
use Rattle.mon_value.specs.declared.refusals.Refusal.{Refusal}
use Rattle.mon_value.specs.declared.refusals.Refusal.TheVariants as refusal

-- a refusal is the fault that there is, or want of memory
abbrev pub RefusesBy : {F : Type 0} → Refusal F → Option F → Type 0
RefusesBy (refusal.Fault f) fault = fault ≡ Some f
RefusesBy refusal.OutOfMemory fault = Unit {0}

-- a call is refused exactly by the fault that there is, want of memory aside
abbrev pub AnswersBy : {T F : Type 0} → Result T (Refusal F) → Option F → Type 0
AnswersBy (Ok x) fault = fault ≡ None
AnswersBy (Err r) fault = RefusesBy r fault

-- a refusal is the fault in place of a value, or want of memory
abbrev pub Withholds : {T F : Type 0} → Refusal F → Result T F → Type 0
Withholds (refusal.Fault f) answer = answer ≡ Err f
Withholds refusal.OutOfMemory answer = Unit {0}

-- a call gives the value or the fault that it is to give, want of memory aside
abbrev pub Gives : {T F : Type 0} → Result T (Refusal F) → Result T F → Type 0
Gives (Ok x) answer = answer ≡ Ok x
Gives (Err r) answer = Withholds r answer

-- the same of what the value is seen as
abbrev pub GivesView : {X T F : Type 0} → (X → T) → Result X (Refusal F) → Result T F → Type 0
GivesView view (Ok x) answer = answer ≡ Ok (view x)
GivesView view (Err r) answer = Withholds r answer

-- goes on with the value, or ends in the fault
infixl 10 ◌>>=◌
abbrev pub ◌>>=◌ : {A B F : Type 0} → Result A F → (A → Result B F) → Result B F
(Ok x) >>= f = f x
(Err e) >>= f = Err e
