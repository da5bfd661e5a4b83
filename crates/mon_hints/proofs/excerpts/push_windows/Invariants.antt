-- The excerpts so far, in front of the windows that are left.
use Rattle.std.proofs.Common.{◌≡◌, ◌++◌}
use Rattle.std.specs.Slice.Iter.{windows_rest, windows_size}
use Rattle.mon_hints.specs.Hints.{windows}
use Rattle.mon_hints.proofs.excerpts.push_windows.Given as goal

abbrev pub invariant-loop-window : goal.invariant-loop-window
invariant-loop-window l = record {
  size : windows_size l.window-iterator ≡ 3;
  made : l.excerpts ++ windows (windows_rest l.window-iterator) ≡ l.fn.excerpts ++ windows (l.fn.front ++ l.fn.piece
      ++ l.fn.back);
}
