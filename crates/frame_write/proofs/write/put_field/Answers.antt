use Rattle.frame_write.proofs.WriteCases.{field_none, field_some}
use Rattle.frame_write.proofs.write.put_field.Goals as goal

pub returns-in-Some : goal.returns-in-Some
returns-in-Some c = field_some _ _ _ _ _ _ _ c.in-Some.is c.put_all.ensures

pub returns-in-None : goal.returns-in-None
returns-in-None c = field_none _ _ _ _ c.in-None.is
