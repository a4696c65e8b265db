use Rattle.recv_acks.proofs.Sorting.{sort-is}
use Rattle.recv_acks.proofs.write_sorted.Goals as goal

pub returns : goal.returns
returns c = let sort = c.sort_unstable.ensures in
    let written = c.write_list.ensures in
    let is = sort-is _ _ sort.permutation sort.sorted in
    record {
      result_value = rw (is, c.copy_from_slice.ensures.after) at written.result_value;
      out_after = rw (is, c.copy_from_slice.ensures.after) at written.out_after;
    }
