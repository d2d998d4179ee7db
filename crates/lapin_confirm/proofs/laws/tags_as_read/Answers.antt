use Rattle.lapin_confirm.proofs.Reading.{selected-read, last-read, tag-read}
use Rattle.lapin_confirm.proofs.laws.tags_as_read.Goals as goal

pub returns : goal.returns
returns a = record { selected = selected-read; last = last-read; pending = tag-read }
