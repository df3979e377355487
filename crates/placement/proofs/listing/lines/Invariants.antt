use Rattle.std.proofs.Common.{◌≡◌, string_bytes}
use Rattle.std.specs.List.{flat_map}
use Rattle.placement.specs.Listings.{line_of}
use Rattle.placement.proofs.listing.lines.Given as goal

-- the lines of the places so far
abbrev pub invariant-loop-occupied : goal.invariant-loop-occupied
invariant-loop-occupied l = string_bytes l.text ≡ flat_map line_of l.yielded
