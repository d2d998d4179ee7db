use Rattle.lapin_delivery.proofs.Histories.{consumers-follow, ackers-follow, registries-follow}
use Rattle.lapin_delivery.proofs.laws.parts_follow.Goals as goal

pub returns-clause-consumers : goal.returns-clause-consumers
returns-clause-consumers c = consumers-follow

pub returns-clause-ackers : goal.returns-clause-ackers
returns-clause-ackers c = ackers-follow

pub returns-clause-registries : goal.returns-clause-registries
returns-clause-registries c = registries-follow
