-- Which writes a store takes, and why it refuses another. Assumes nothing.
use Rattle.std.specs.Prelude.{ℕ, ◌^◌, ◌<◌, ◌≤◌, Some, None, Option}
use Rattle.store.specs.declared.place.Entry.{Entry}
use Rattle.store.specs.declared.shape.Shape.{Shape}
use Rattle.store.specs.declared.shape.WriteRefusal.{WriteRefusal}
use Rattle.store.specs.declared.shape.WriteRefusal.TheVariants.{NoPlace, DigestTooWide, LengthTooLong, TreadTooHigh, HopTooHigh}
use Rattle.store.specs.Shapes.{Inside}

-- an entry for a store with digests of Z bits
pub record Fits (Z : ℕ) (e : Entry) : Type 0 where
  pub digest : e.digest < 2 ^ Z
  pub length : e.length ≤ 128
  pub tread : e.tread ≤ 39
  pub hop : e.hop ≤ 4095

-- the first thing about an entry that does not fit
abbrev pub Misfit : ℕ → Entry → WriteRefusal → Type 0
Misfit Z e NoPlace = ⊥
Misfit Z e DigestTooWide = 2 ^ Z ≤ e.digest
Misfit Z e LengthTooLong = (e.digest < 2 ^ Z) × (128 < e.length)
Misfit Z e TreadTooHigh = (e.digest < 2 ^ Z) × (e.length ≤ 128) × (39 < e.tread)
Misfit Z e HopTooHigh = (e.digest < 2 ^ Z) × (e.length ≤ 128) × (e.tread ≤ 39) × (4095 < e.hop)

-- nothing always fits
abbrev pub ContentFits : ℕ → Option Entry → Type 0
ContentFits Z None = Unit {0}
ContentFits Z (Some e) = Fits Z e

abbrev pub ContentMisfit : ℕ → Option Entry → WriteRefusal → Type 0
ContentMisfit Z None refusal = ⊥
ContentMisfit Z (Some e) refusal = Misfit Z e refusal

-- a store of the shape takes the content at slot s of bucket b
pub record Takes (shape : Shape) (b s : ℕ) (content : Option Entry) : Type 0 where
  pub place : Inside shape b s
  pub fits : ContentFits shape.digest_bits content

-- it refuses it: the store has no such place, or else the first thing that does not fit
abbrev pub Refused : Shape → ℕ → ℕ → Option Entry → WriteRefusal → Type 0
Refused shape b s content NoPlace = Inside shape b s → ⊥
Refused shape b s content DigestTooWide = Inside shape b s × ContentMisfit shape.digest_bits content DigestTooWide
Refused shape b s content LengthTooLong = Inside shape b s × ContentMisfit shape.digest_bits content LengthTooLong
Refused shape b s content TreadTooHigh = Inside shape b s × ContentMisfit shape.digest_bits content TreadTooHigh
Refused shape b s content HopTooHigh = Inside shape b s × ContentMisfit shape.digest_bits content HopTooHigh
