use borrow.Author.Rules.{rules}
use Rattle.recv_steps.proofs.steps.datagram.receive.receive_first.Goals as goal

pub receive_sound-requires : goal.receive_sound-requires
receive_sound-requires c = record {
  fit = c.requires;
  values = c.in_ok-ascends.ensures;
  records = c.in_ok-check_cells.ensures;
  channels = search rules;
}
