use Rattle.lapin_broker.proofs.SoundLaw.{read_keeps, send_keeps}
use Rattle.lapin_broker.proofs.laws.reading_is_open.Goals as goal

pub returns-clause-begins : goal.returns-clause-begins
returns-clause-begins c most = tt

pub returns-clause-reads : goal.returns-clause-reads
returns-clause-reads c b f sound = read_keeps b f sound

pub returns-clause-sends : goal.returns-clause-sends
returns-clause-sends c b f allowed sound = send_keeps b f allowed sound

pub returns-clause-loses : goal.returns-clause-loses
returns-clause-loses c b sound = sound
