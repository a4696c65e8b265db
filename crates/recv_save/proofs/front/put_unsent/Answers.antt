use Rattle.base.proofs.Puts.{run-then}
use Rattle.receiver.specs.Queue.{unsent_of}
use Rattle.recv_acks.proofs.Sorting.{sort-is}
use Rattle.recv_save.specs.Front.{unsent_bytes}
use Rattle.recv_save.proofs.front.put_unsent.Goals as goal

pub returns : goal.returns
unfolding unsent_bytes unsent_of
returns c =
    let s = sort-is _ _ c.sort_unstable.ensures.permutation c.sort_unstable.ensures.sorted in
    run-then _ _ _ _ _ _ _ _ (rw s at c.put32-a.ensures) (rw s at c.put_numbers.ensures)
