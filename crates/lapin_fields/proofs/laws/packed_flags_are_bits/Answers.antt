use Rattle.lapin_fields.proofs.FlagLaws.{flag_1, flag_2, flag_4, flag_8, flag_16, flag_32, flag_64, flag_128}
use Rattle.lapin_fields.proofs.laws.packed_flags_are_bits.Goals as goal

pub returns-clause-first : goal.returns-clause-first
returns-clause-first c = flag_1

pub returns-clause-second : goal.returns-clause-second
returns-clause-second c = flag_2

pub returns-clause-third : goal.returns-clause-third
returns-clause-third c = flag_4

pub returns-clause-fourth : goal.returns-clause-fourth
returns-clause-fourth c = flag_8

pub returns-clause-fifth : goal.returns-clause-fifth
returns-clause-fifth c = flag_16

pub returns-clause-sixth : goal.returns-clause-sixth
returns-clause-sixth c = flag_32

pub returns-clause-seventh : goal.returns-clause-seventh
returns-clause-seventh c = flag_64

pub returns-clause-eighth : goal.returns-clause-eighth
returns-clause-eighth c = flag_128
