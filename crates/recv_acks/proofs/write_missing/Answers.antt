use mathlib.Core.Path.{sym}
use lib.Seq.{length-take-le}
use borrow.Author.Rules.{rules}
use Rattle.recv_acks.proofs.WriteCases.{missing-sound, missing-first, missing-room}
use Rattle.recv_acks.proofs.write_missing.Goals as goal

pub slice_bounds-list-end : goal.slice_bounds-list-end
slice_bounds-list-end c = search (rules, missing-room)

pub slice_bounds-write_list-end : goal.slice_bounds-write_list-end
slice_bounds-write_list-end c = sym (length-take-le _ _ (search (rules, missing-room)))

pub returns : goal.returns
returns c = let written = c.write_list.ensures in
    let is = missing-first _ _ _ _ c.missing-m.ensures (search rules) in
    missing-sound _ _ _ c.in_ok-check_queue.ensures _ (rw is at written.result_value) _ (rw is at written.out_after)
