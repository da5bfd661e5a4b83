use Rattle.std.proofs.Common.{arith, ◌≡◌, ◌∙◌, ap, sym, ℕ, ◌+◌, List, ◌∷◌, drop}
use Rattle.std.proofs.lemmas.List.{drop_more}
use Rattle.mon_value.specs.Same.{same_text}
use Rattle.mon_run.specs.declared.outside.memory_folder.MemoryFile.{MemoryFile}
use Rattle.mon_run.proofs.ContentLemmas.{content-here, content-later}
use Rattle.mon_run.proofs.outside.memory_folder.content_named.Goals as goal

pub returns-then-eq : goal.returns-then-eq
returns-then-eq c =
    let files : List MemoryFile = c.args.files.now in
    let i : ℕ = c.loop-file.file-index in
    let file : MemoryFile = c.file-item.result in
    let front : drop i files ≡ file ∷ drop (i + 1) files =
    drop_more files i file (omega (arith, c.loop-file-test.true)) ∙ ap (λ (f : MemoryFile). f ∷ drop (i + 1) files)
    (sym c.file-item.is) in
    let same = ap (λ text. same_text c.args.name.now text) (sym c.as_str.ensures.bytes) ∙ sym c.eq.ensures
    ∙ c.if-eq.true in
    record {
      first = sym (c.loop-file.invariant ∙ content-here (drop i files) (drop (i + 1) files) file c.args.name.now
          front same);
    }

pub loop-file-preserved : goal.loop-file-preserved
loop-file-preserved c =
    let files : List MemoryFile = c.args.files.now in
    let i : ℕ = c.loop-file.file-index in
    let file : MemoryFile = c.file-item.result in
    let front : drop i files ≡ file ∷ drop (i + 1) files =
    drop_more files i file (omega (arith, c.loop-file-test.true)) ∙ ap (λ (f : MemoryFile). f ∷ drop (i + 1) files)
    (sym c.file-item.is) in
    let other = ap (λ text. same_text c.args.name.now text) (sym c.as_str.ensures.bytes) ∙ sym c.eq.ensures
    ∙ c.if-eq.false in
    c.loop-file.invariant ∙ content-later (drop i files) (drop (i + 1) files) file c.args.name.now front other
