use Rattle.std.proofs.Common.{◌≡◌, ◌∙◌, ◌+◌, ◌&&◌, ◌∷◌, [], Bool, true, false, drop, get_or, length-drop}
use Rattle.std.proofs.Common.{ap, sym, arith}
use Rattle.std.proofs.lemmas.List.{drop_more, nil_from_length}
use Rattle.std.specs.Char.{is_ascii_digit}
use Rattle.std.specs.Str.{all_ascii_digits}
use Rattle.mon_run.proofs.words.is_all_digits.Goals as goal

pub loop-byte-preserved : goal.loop-byte-preserved
loop-byte-preserved c =
    let word = c.args.word.now in
    let i = c.loop-byte.byte-index in
    let next : drop i word ≡ get_or word i 0 ∷ drop (i + 1) word =
    drop_more word i 0 (omega (arith, c.loop-byte-test.true)) in
    let yes : is_ascii_digit (get_or word i 0) ≡ true =
    sym c.is_ascii_digit.ensures.value ∙ c.if-not-is_ascii_digit.false in
    c.loop-byte.invariant ∙ ap all_ascii_digits next ∙ ap (λ (b : Bool). b && all_ascii_digits (drop (i + 1) word)) yes

pub returns-then-not-is_ascii_digit : goal.returns-then-not-is_ascii_digit
returns-then-not-is_ascii_digit c =
    let word = c.args.word.now in
    let i = c.loop-byte.byte-index in
    let next : drop i word ≡ get_or word i 0 ∷ drop (i + 1) word =
    drop_more word i 0 (omega (arith, c.loop-byte-test.true)) in
    let no : is_ascii_digit (get_or word i 0) ≡ false =
    sym c.is_ascii_digit.ensures.value ∙ c.if-not-is_ascii_digit.true in
    record {
      digits = sym (c.loop-byte.invariant ∙ ap all_ascii_digits next
          ∙ ap (λ (b : Bool). b && all_ascii_digits (drop (i + 1) word)) no);
    }

pub returns : goal.returns
returns c =
    let word = c.args.word.now in
    let count = length-drop c.loop-byte.byte-index word in
    let none : drop c.loop-byte.byte-index word ≡ [] = nil_from_length (drop c.loop-byte.byte-index word)
    (omega (arith, c.loop-byte-test.false)) in
    record { digits = sym (c.loop-byte.invariant ∙ ap all_ascii_digits none) }
