-- Places in the hexadecimal digits of notation. Assumes nothing.
use Rattle.std.proofs.Common.{◌≡◌, ◌++◌, ◌^◌, ◌<◌, ap, codes, decimal}
use Rattle.notation.specs.Hexadecimal.{hex}
use Rattle.notation.proofs.HexText.{digits_hex}
use Rattle.store.specs.declared.place.Place.{Place}
use Rattle.store.specs.Texts.{place_text}

pub place_text_hex : (p : Place) → p.bucket < 2 ^ 64 → place_text p ≡ codes "bucket 0x" ++ (hex p.bucket ++ (codes ", slot " ++ decimal p.slot))
place_text_hex p h = ap (λ d. codes "bucket 0x" ++ (d ++ (codes ", slot " ++ decimal p.slot))) (digits_hex p.bucket h)
