-- Parts that are read as often as they come.
use Rattle.std.specs.Prelude.{ℕ, zero, suc, ◌+◌, ◌-◌, ◌==◌, List, [], ◌∷◌, ◌++◌, length, Ok, Err, if◌then◌else◌}
use Rattle.mql_ast.specs.Tokens.{Rest, head, behind, skip}
use Rattle.mql_parse.specs.declared.faults.ParseFault.{ParseFault}
use Rattle.mql_parse.specs.declared.faults.What.{What}
use Rattle.mql_parse.specs.Outcomes.{Outcome, unexpected_fault}

-- what one turn comes to: it ends with what is left, goes on from there, or is at fault
pub data Turn (A : Type 0) : Type 0 where
  Done : A → Rest → Turn A
  Again : A → Rest → Turn A
  Stuck : ParseFault → Turn A

abbrev pub turn_outcome : {A : Type 0} → Turn A → (A → Rest → Outcome A) → Outcome A
turn_outcome (Done a r) go = Ok (a, r)
turn_outcome (Again a r) go = go a r
turn_outcome (Stuck f) go = Err f

-- a turn that goes on with what was read
abbrev pub goes_on : {A B : Type 0} → (B → A) → Outcome B → Turn A
goes_on f (Ok x) = Again (f x.0) x.1
goes_on f (Err e) = Stuck e

-- turns from here, once so many bytes are passed
abbrev pub turns : {A : Type 0} → (A → Rest → Turn A) → ℕ → A → ℕ → List ℕ → Outcome A
turns turn passed a at [] = turn_outcome (turn a (record { at = at; bytes = [] })) (λ b r. Ok (b, r))
turns turn zero a at (b ∷ bs) =
    turn_outcome (turn a (record { at = at; bytes = b ∷ bs }))
    (λ next r. turns turn (length bs - length r.bytes) next (at + 1) bs)
turns turn (suc k) a at (b ∷ bs) = turns turn k a (at + 1) bs

abbrev pub repetition : {A : Type 0} → (A → Rest → Turn A) → A → Rest → Outcome A
repetition turn a s = turns turn 0 a s.at s.bytes

-- a part of a list, behind which a comma goes on and this sign ends
abbrev pub list_or_end : {A : Type 0} → ℕ → What → List A → A × Rest → Turn (List A)
list_or_end close what so_far read =
    let t = skip read.1 in
    if head t == 44 then Again (so_far ++ read.0 ∷ []) (behind t) else
    (if head t == close then Done (so_far ++ read.0 ∷ []) (behind t) else Stuck (unexpected_fault what t))

abbrev pub on_read : {A B : Type 0} → (A × Rest → Turn B) → Outcome A → Turn B
on_read f (Ok x) = f x
on_read f (Err e) = Stuck e

abbrev pub list_turn : {A : Type 0} → ℕ → What → (Rest → Outcome A) → List A → Rest → Turn (List A)
list_turn close what part so_far s = on_read (list_or_end close what so_far) (part s)
