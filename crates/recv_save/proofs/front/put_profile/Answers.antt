use Rattle.base.proofs.Puts.{run-then}
use borrow.Author.Rules.{rules}
use Rattle.recv_save.specs.Front.{profile_bytes}
use Rattle.recv_save.proofs.front.put_profile.Goals as goal

pub returns : goal.returns
unfolding profile_bytes
returns c = search (rules, run-then)
