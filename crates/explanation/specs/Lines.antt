-- How an address with a length is written in a line: as crate `lines` has it. Assumes nothing.
pub use Rattle.lines.specs.Prefixes.{read_address, read_prefix}
