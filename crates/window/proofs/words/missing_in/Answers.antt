use borrow.Author.Rules.{rules}
use Rattle.window.proofs.Steps.{run-past-limit}
use Rattle.window.proofs.ByWords.{list-empty, list-whole}
use Rattle.window.proofs.words.missing_in.Goals as goal

pub returns-then-low-ge-NUMBERS_24 : goal.returns-then-low-ge-NUMBERS_24
returns-then-low-ge-NUMBERS_24 c = search (rules, run-past-limit)

pub returns-then-end-eq0 : goal.returns-then-end-eq0
returns-then-end-eq0 c = search (rules, list-empty)

pub returns : goal.returns
returns c = search (rules, list-whole)
