use Rattle.std.proofs.Common.{◌<◌, ◌++◌, length, sym, ap, ◌∙◌, arith}
use Rattle.std.proofs.lemmas.List.{append-nil}
use Rattle.std.specs.Slice.Iter.{windows_rest}
use Rattle.mon_hints.proofs.WindowLemmas.{no_window}
use Rattle.mon_hints.proofs.excerpts.push_windows.Goals as goal

pub returns : goal.returns
returns c =
    let l = c.loop-window in
    let few : length (windows_rest l.window-iterator) < 3 =
    omega (arith, c.in-None.ensures.steps.1.0, l.invariant.size) in
    record {
      added = sym (append-nil l.excerpts) ∙ ap (λ some. l.excerpts ++ some)
          (sym (no_window (windows_rest l.window-iterator) few))
          ∙ l.invariant.made;
    }
