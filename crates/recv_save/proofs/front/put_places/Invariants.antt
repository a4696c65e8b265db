use Rattle.base.specs.Put.{Run}
use Rattle.recv_save.specs.Front.{place_bytes}
use Rattle.recv_save.proofs.front.put_places.Given as goal

abbrev pub invariant-loop-k : goal.invariant-loop-k
invariant-loop-k l = Run l.to (place_bytes l.w l.k) l.initial.out l.p l.out
