use Prim.Native.Nat.{◌*◌, ◌-◌, min}
use Rattle.base.specs.Put.{Run}
use Rattle.window.specs.Words.{word_places, clear_of}
use Rattle.window.proofs.words.put_above.Given as goal

abbrev pub invariant-loop-j : goal.invariant-loop-j
invariant-loop-j l = Run l.p (clear_of l.bits l.from (min (l.j * word_places) l.to - l.from)) l.initial.list l.q l.list
