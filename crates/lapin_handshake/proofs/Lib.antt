mod Faults
mod FirstWords
mod MechanismLaws
mod Places
