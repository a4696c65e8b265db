use Rattle.base.proofs.Puts.{run-then}
use borrow.Author.Rules.{rules}
use Rattle.recv_save.specs.Front.{windows_bytes}
use Rattle.recv_save.proofs.front.put_windows.Goals as goal

pub returns : goal.returns
unfolding windows_bytes
returns c = search (rules, run-then)
