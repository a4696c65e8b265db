use Rattle.recv_steps.proofs.Receiving.{is_numbered}
use Rattle.recv_steps.proofs.steps.datagram.receive.receive_sound.Goals as goal

pub receive_frames-requires : goal.receive_frames-requires
receive_frames-requires c = let j = c.requires in
    is_numbered _ _ _ _ j.fit j.values j.records c.in_ok-check_head.ensures j.channels c.in_ok-number.ensures
