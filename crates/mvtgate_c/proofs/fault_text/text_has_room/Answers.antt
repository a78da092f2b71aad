use Rattle.mvtgate_c.proofs.TextRoom.{text_fits}
use Rattle.mvtgate_c.proofs.fault_text.text_has_room.Goals as goal

pub returns : goal.returns
returns c = text_fits
