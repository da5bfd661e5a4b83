-- The lines of a text, and the words of a line.
use Rattle.std.specs.Prelude.{ℕ, ◌==◌, ◌&&◌, Bool, true, false, List, [], ◌∷◌, length, take, drop, Option, Some, None}
use Rattle.std.specs.Prelude.{option_map, if◌then◌else◌, ℤ, pos, int_le, ◌-◌, ◌^◌, not, nat_lt, option_and_then}
use Rattle.std.specs.List.{list_any}
use Rattle.std.specs.Str.{is_utf8}
use Rattle.mon_value.specs.Same.{same_text}
use Rattle.mon_value.specs.Values.{number_of}

-- The lines of a text.

abbrev pub line_feed : ℕ
line_feed = 10

abbrev pub carriage_return : ℕ
carriage_return = 13

-- what stands before the first of a byte, and what stands behind it
abbrev pub cut_at : ℕ → List ℕ → Option (List ℕ × List ℕ)
cut_at mark [] = None
cut_at mark (byte ∷ rest) =
    if byte == mark then Some ([], rest) else option_map (λ cut. (byte ∷ cut.0, cut.1)) (cut_at mark rest)

abbrev pub ends_line : List ℕ → Bool
ends_line [] = false
ends_line (byte ∷ rest) = byte == line_feed

-- a line without the carriage return at its end
abbrev pub without_return : List ℕ → List ℕ
without_return [] = []
without_return (byte ∷ []) = if byte == carriage_return then [] else byte ∷ []
without_return (byte ∷ next ∷ line) = byte ∷ without_return (next ∷ line)

-- a byte in front of the first line
abbrev pub onto_first : ℕ → List (List ℕ) → List (List ℕ)
onto_first byte [] = (byte ∷ []) ∷ []
onto_first byte (line ∷ lines) = (byte ∷ line) ∷ lines

-- The lines of a text. A line ends at a line feed, with a carriage return right before it, or at the end of the text.
abbrev pub lines_of : List ℕ → List (List ℕ)
lines_of [] = []
lines_of (byte ∷ rest) =
    if byte == line_feed then [] ∷ lines_of rest
    else if (byte == carriage_return) && ends_line rest then lines_of rest
    else onto_first byte (lines_of rest)

-- an empty line does nothing, and so does one that begins with `#`
abbrev pub is_remark : List ℕ → Bool
is_remark [] = true
is_remark (byte ∷ line) = byte == 35

-- Words of a line.

abbrev pub space : ℕ
space = 32

abbrev pub has_space : List ℕ → Bool
has_space = list_any (λ byte. byte == space)

-- a moment is a number from 0 to 2 ^ 63 - 1
abbrev pub is_moment : ℤ → Bool
is_moment z = int_le (pos 0) z && int_le z (pos (2 ^ 63 - 1))

abbrev pub moment_of : List ℕ → Option ℤ
moment_of word = option_and_then (λ z. if is_moment z then Some z else None) (number_of word)

-- a file's name has a byte, no space, and is UTF-8
abbrev pub is_file_name : List ℕ → Bool
is_file_name name = nat_lt 0 (length name) && (not (list_any (λ byte. byte == space) name) && is_utf8 name)
