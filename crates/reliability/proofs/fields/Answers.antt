use mathlib.Core.Path.{ap}
use Rattle.reliability.specs.declared.Profile.TheVariants.{Console, Cpp}
use Rattle.reliability.proofs.Laws.{row-found}
use Rattle.reliability.proofs.fields.Goals.{in-Console, in-Cpp}
use Rattle.reliability.proofs.fields.Goals as goal

pub returns-clause-is : goal.returns-clause-is
returns-clause-is c = elim c.match-p.branch [
  | in-Console w ↦ row-found _ Console _ _ _ _ w.in-Console.is (ap (λ b. b.now) w.rows-is) c.from.ensures
  | in-Cpp w ↦ row-found _ Cpp _ _ _ _ w.in-Cpp.is (ap (λ b. b.now) w.rows-is) c.from.ensures
]
