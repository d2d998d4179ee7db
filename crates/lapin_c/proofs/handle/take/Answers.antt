use Rattle.lapin_c.proofs.handle.take.Goals as goal

pub returns-clause-sound : goal.returns-clause-sound
returns-clause-sound c = c.replace-pointer.result.sound c.into_client.result.value c.into_client.ensures
