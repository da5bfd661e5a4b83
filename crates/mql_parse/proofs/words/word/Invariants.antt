-- What was read, in front of the letters that are left.
use Rattle.std.proofs.Common.{◌≡◌, ◌++◌, length, string_bytes}
use Rattle.mql_ast.specs.Tokens.{word_bytes, behind_word}
use Rattle.mql_parse.proofs.words.word.Given as goal

abbrev pub invariant-loop-text : goal.invariant-loop-text
invariant-loop-text l =
    (string_bytes l.text ++ word_bytes l.from.bytes.now ≡ word_bytes l.fn.from.bytes.now)
    × (behind_word l.from.at l.from.bytes.now ≡ behind_word l.fn.from.at l.fn.from.bytes.now)

abbrev pub decreases-loop-text : goal.decreases-loop-text
decreases-loop-text l = length l.from.bytes.now
