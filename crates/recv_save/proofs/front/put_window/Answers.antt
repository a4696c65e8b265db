use Rattle.base.proofs.Puts.{run-then}
use borrow.Author.Rules.{rules}
use Rattle.recv_save.specs.Front.{window_bytes}
use Rattle.recv_save.proofs.front.put_window.Goals as goal

pub returns : goal.returns
unfolding window_bytes
returns c = search (rules, run-then)
