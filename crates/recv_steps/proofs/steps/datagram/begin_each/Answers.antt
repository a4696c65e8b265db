use Rattle.std.proofs.Common.{rules}
use Rattle.std.proofs.lemmas.List.Edits.{map_over_more}
use Rattle.recv_steps.specs.Receives.{begun_row}
use Rattle.recv_steps.proofs.steps.datagram.begin_each.Goals as goal

pub loop-r-preserved : goal.loop-r-preserved
loop-r-preserved c = search (rules, map_over_more begun_row)
