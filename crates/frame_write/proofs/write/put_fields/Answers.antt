use Rattle.base.proofs.Puts.{run-then}
use Rattle.frame_write.specs.Write.{field_bytes, channel_bytes}
use Rattle.frame_write.proofs.WriteCases.{number-run}
use Rattle.frame_write.proofs.write.put_fields.Goals as goal

pub returns : goal.returns
unfolding field_bytes channel_bytes
returns c =
    run-then _ _ _ _ _ _ _ _ (number-run _ _ _ _ _ _ _ c.put_field-a.ensures c.to_le_bytes.ensures)
    (run-then _ _ _ _ _ _ _ _ (number-run _ _ _ _ _ _ _ c.put_field-b.ensures c.to_le_bytes-2.ensures)
    (run-then _ _ _ _ _ _ _ _ (number-run _ _ _ _ _ _ _ c.put_field-c.ensures c.to_le_bytes-3.ensures) c.put_field.ensures))
