use Rattle.std.proofs.Common.{◌≡◌, ◌++◌, take, string_bytes, flat_map}
use Rattle.explanation.specs.Replies.{heading_of, place_line}
use Rattle.explanation.proofs.reply.explain.Given as goal

-- the heading and the lines of the places so far
abbrev pub invariant-loop-place : goal.invariant-loop-place
invariant-loop-place l = string_bytes l.text ≡ heading_of l.query ++ flat_map place_line (take l.place-index l.place-items)
