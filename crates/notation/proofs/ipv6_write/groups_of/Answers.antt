-- The segments of the address are its groups.
use Rattle.std.proofs.Common.{◌∙◌}
use Rattle.std.specs.Net.Addr.{IsIpv6OfBits}
use Rattle.notation.proofs.Segments.{segments_are_groups}
use Rattle.notation.proofs.ipv6_write.groups_of.Goals as goal

pub returns : goal.returns
unfolding IsIpv6OfBits
returns c = c.segments.ensures ∙ c.from_bits.ensures ∙ segments_are_groups c.args.address
