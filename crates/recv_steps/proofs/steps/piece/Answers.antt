use Rattle.recv_steps.proofs.Joining.{piece-drops, renewed-counted, piece-puts}
use borrow.Author.Rules.{rules}
use Rattle.recv_steps.proofs.steps.piece.Goals as goal

pub returns-then-any_clash : goal.returns-then-any_clash
returns-then-any_clash c = search (rules, piece-drops)

pub put_piece-requires-clause-others : goal.put_piece-requires-clause-others
put_piece-requires-clause-others c = search (rules, renewed-counted)

pub returns : goal.returns
returns c = search (rules, piece-puts)
