-- How a query is answered in words. Assumes nothing.
use Rattle.std.specs.Prelude.{ℕ, if◌then◌else◌, List, [], ◌∷◌, ◌++◌, Some, None, codes, decimal, Option, ◌==◌}
use Rattle.notation.specs.Ipv4.{dotted}
use Rattle.notation.specs.Hexadecimal.{hex}
use Rattle.notation.specs.Ipv6Text.{text6}
use Rattle.layout.specs.declared.prefix.Prefix.{Prefix}
use Rattle.explanation.specs.declared.place.Place.{Place}
use Rattle.explanation.specs.declared.query.Query.{Query}
use Rattle.explanation.specs.declared.query.LineFault.{LineFault}
use Rattle.explanation.specs.declared.query.LineFault.TheVariants.{Unreadable, UnknownList, LengthBeyondWidth, BitsAfterLength}

abbrev pub prefix_text : Prefix → List ℕ
prefix_text p = (if p.width.bits == 32 then dotted p.address else text6 p.address) ++ (47 ∷ decimal p.length)

-- the prefix and its list's generator
abbrev pub query_text : Query → List ℕ
query_text q = prefix_text q.prefix ++ (codes ", generator 0x" ++ hex q.layout.generator.poly)

abbrev pub confused_text : Option Prefix → List ℕ
confused_text None = []
confused_text (Some p) = codes ", not admitted: " ++ (prefix_text p ++ codes " would leave the same digest there")

abbrev pub place_text : Place → List ℕ
place_text p =
    codes "tread " ++ (decimal p.tread ++ (codes ": bucket 0x" ++ (hex p.bucket ++ (codes ", digest 0x" ++ (hex p.digest ++ confused_text p.confused)))))

abbrev pub fault_text : LineFault → List ℕ
fault_text Unreadable = codes "cannot read this: a line is LIST ADDRESS/LENGTH, as v4 10.0.0.0/24 or v6 2001:db8::/32"
fault_text UnknownList = codes "unknown list: there are v4, v4-small and v6"
fault_text LengthBeyondWidth = codes "the length is beyond the width of the address"
fault_text BitsAfterLength = codes "the address has bits after the length"
