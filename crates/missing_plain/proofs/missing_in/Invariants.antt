use Rattle.base.specs.Put.{Run}
use Rattle.window.specs.Window.{window_of}
use Rattle.window.specs.Missing.{missing_of}
use Rattle.missing_plain.proofs.missing_in.Given as goal

abbrev pub invariant-loop-k : goal.invariant-loop-k
invariant-loop-k l = Run 0 (missing_of (window_of l.low l.bits) l.k) l.initial.list l.p l.list
