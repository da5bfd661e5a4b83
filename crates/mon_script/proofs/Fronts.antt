-- A script that is read from its front on.
use Rattle.std.proofs.Common.{◌≡◌, ℕ, ◌+◌, ◌≤◌, Option, Some, None, List, [], ◌∷◌, ◌++◌, length, Result, Ok, Err, refl}
use Rattle.std.proofs.Common.{sym, ap, append_assoc, append-nil, length-append, subst, arith, ◌∙◌}
use Rattle.mon_topo.specs.declared.zones.ZoneSpec.{ZoneSpec}
use Rattle.mon_value.specs.Answers.{◌>>=◌}
use Rattle.mon_script.specs.Scripts.{line_at, lines_read, script_from}
use Rattle.mon_script.specs.declared.faults.ScriptFault.{ScriptFault}
use Rattle.mon_script.specs.declared.forms.LineForm.{LineForm}
use Rattle.mon_script.specs.declared.script.LineRead.{LineRead}
use Rattle.mon_script.specs.declared.script.ScriptLine.{ScriptLine}

abbrev pub Lines : Type 0
Lines = Result (List ScriptLine) ScriptFault

-- what is read of the rest, behind what was read so far
abbrev pub with_front : List ScriptLine → Lines → Lines
with_front front read = read >>= λ rest. Ok (front ++ rest)

abbrev pub given : List ScriptLine → Lines
given lines = Ok lines

behind : (front one : List ScriptLine) (rest : Lines)
    → with_front (front ++ one) rest ≡ with_front front (rest >>= λ lines. Ok (one ++ lines))
behind front one (Err fault) = refl
behind front one (Ok lines) = ap given (append_assoc front one lines)

-- a line more, in front of the lines that are left
pub front_more : (zones : List ZoneSpec) (front : List ScriptLine) (n : ℕ) (place : Option ℕ) (line : List ℕ)
    (left : List (List ℕ)) (read : LineRead) → line_at zones n place line left ≡ Ok read
    → with_front (front ++ lines_read n read.what) (script_from zones (n + 1) read.next left)
    ≡ with_front front (script_from zones n place (line ∷ left))
front_more zones front n place line left read is =
    behind front (lines_read n read.what) (script_from zones (n + 1) read.next left)
    ∙ ap (λ (r : Result LineRead ScriptFault). with_front front
    (r >>= λ (one : LineRead). script_from zones (n + 1) one.next left
    >>= λ (rest : List ScriptLine). Ok (lines_read n one.what ++ rest))) (sym is)

-- each line that does something has a number
pub few_more : (front : List ScriptLine) (n : ℕ) (what : Option LineForm) → length front ≤ n
    → length (front ++ lines_read (n + 1) what) ≤ n + 1
few_more front n None few =
    subst (λ (made : List ScriptLine). length made ≤ n + 1) (sym (append-nil front)) (omega (arith, few))
few_more front n (Some what) few =
    subst (λ (k : ℕ). k ≤ n + 1) (sym (length-append front (lines_read (n + 1) (Some what)))) (omega (arith, few))
