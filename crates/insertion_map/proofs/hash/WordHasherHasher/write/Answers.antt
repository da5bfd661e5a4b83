use Rattle.std.proofs.Common.{◌≡◌, ◌∙◌, ◌==◌, [], ap, subst, sym, arith, length}
use Rattle.std.specs.Int.{from_le_bytes, w64}
use Rattle.std.proofs.lemmas.Bool.{eqb-true, false≢true}
use Rattle.std.proofs.lemmas.List.{nil_from_length}
use Rattle.insertion_map.specs.WordHasher.{absorb, first_word}
use Rattle.insertion_map.proofs.HashLemmas.{AreLeft, less_left, none_last, none_left, some_last}
use Rattle.insertion_map.proofs.hash.WordHasherHasher.write.Goals as goal

pub loop-word-preserved : goal.loop-word-preserved
loop-word-preserved c =
    let now = c.loop-word.self in
    let rest = c.loop-word.rest.now in
    let cases = c.in-Some.ensures.cases in
    let next : c.absorb.new.self ≡ absorb now (first_word rest) = c.absorb.ensures
    ∙ ap (absorb now) (c.from_le_bytes.ensures ∙ ap (from_le_bytes w64) cases.0) in
    subst (AreLeft c.args.self.now c.args.bytes.now c.absorb.new.self) (sym cases.1)
    (less_left c.args.self.now c.args.bytes.now now c.absorb.new.self rest (omega (arith, cases.2)) next
    c.loop-word.invariant)

pub loop-word-smaller : goal.loop-word-smaller
loop-word-smaller c = omega (arith, c.in-Some.ensures.cases.2)

pub returns-then-not-is_empty : goal.returns-then-not-is_empty
returns-then-not-is_empty c =
    let now = c.loop-word.self in
    let rest = c.loop-word.rest.now in
    c.absorb-then-not-is_empty.ensures ∙ ap (absorb now) c.word_of.ensures
    ∙ some_last now rest (λ none. false≢true (sym c.if-not-is_empty.true ∙ c.is_empty.ensures
    ∙ ap (λ bytes. length bytes == 0) none))
    ∙ none_left c.args.self.now c.args.bytes.now now rest c.in_default.ensures.cases c.loop-word.invariant

pub returns-else-not-is_empty : goal.returns-else-not-is_empty
returns-else-not-is_empty c =
    let now = c.loop-word.self in
    let rest = c.loop-word.rest.now in
    let none : rest ≡ [] =
    nil_from_length rest (eqb-true (length rest) 0 (sym c.is_empty.ensures ∙ c.if-not-is_empty.false)) in
    none_last now rest none
    ∙ none_left c.args.self.now c.args.bytes.now now rest c.in_default.ensures.cases c.loop-word.invariant
