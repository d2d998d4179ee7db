pub use Rattle.lapin_machine.specs.World
pub use Rattle.lapin_machine.specs.Told
pub use Rattle.lapin_machine.specs.Numbers
pub use Rattle.lapin_machine.specs.Stands
pub use Rattle.lapin_machine.specs.Kept
pub use Rattle.lapin_machine.specs.Alone
pub use Rattle.lapin_machine.specs.Consumers
pub mod Acking
