use Rattle.recv_save.proofs.Whole.{not-sound}
use Rattle.recv_save.proofs.save_rows.Goals as goal

pub returns-then-not-is_sound : goal.returns-then-not-is_sound
returns-then-not-is_sound c = not-sound _ _ _ _ _ c.is_sound.ensures c.if-not-is_sound.true
