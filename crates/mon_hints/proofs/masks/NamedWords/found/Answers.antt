use Rattle.std.proofs.Common.{inl, inr, sym, ap, ◌∙◌, arith}
use Rattle.std.proofs.lemmas.Bool.{cases_lt}
use Rattle.std.proofs.lemmas.List.Kept.{AllPairs-from_increasing}
use Rattle.std.proofs.lemmas.List.Sorted.{searched}
use Rattle.mon_hints.specs.Hints.{has_bit}
use Rattle.mon_hints.proofs.MaskLemmas.{mask_of_none}
use Rattle.mon_hints.proofs.WordLemmas.{absent, present, rising_weakly}
use Rattle.mon_hints.proofs.masks.NamedWords.found.Goals as goal

pub returns-in-Ok : goal.returns-in-Ok
returns-in-Ok c =
    let named = c.args.self.now.named.now in
    let words = c.args.self.now.words.now in
    let place = c.in-Ok.place in
    let rises = AllPairs-from_increasing named c.requires in
    let at = rw c.in-Ok.is at (searched named c.args.bucket c.binary_search.result c.binary_search.ensures.position
    (rising_weakly named rises)) in
    record {
      bits = λ child h. ap (λ word. has_bit word child) c.word_at.ensures.word
          ∙ sym (present c.args.bucket named words child place rises at.0 at.1);
    }

pub returns-in-Err : goal.returns-in-Err
returns-in-Err c =
    let named = c.args.self.now.named.now in
    let words = c.args.self.now.words.now in
    let rises = AllPairs-from_increasing named c.requires in
    let at = rw c.in-Err.is at (searched named c.args.bucket c.binary_search.result c.binary_search.ensures.position
    (rising_weakly named rises)) in
    record {
      bits = λ child h. mask_of_none child h
          ∙ sym (absent c.args.bucket named words child (λ k low e. elim (cases_lt k c.in-Err.field-0) [
            | inl before ↦ let less = at.1 k before in omega (arith, less, e)
            | inr behind ↦ let more = at.2 k behind low in omega (arith, more, e)
          ]));
    }
