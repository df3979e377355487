-- A write that is taken is not refused. Assumes nothing.
use Rattle.std.proofs.Common.{ℕ, Some, None, Option, arith}
use Rattle.store.specs.declared.place.Entry.{Entry}
use Rattle.store.specs.declared.shape.Shape.{Shape}
use Rattle.store.specs.declared.shape.WriteRefusal.{WriteRefusal}
use Rattle.store.specs.declared.shape.WriteRefusal.TheVariants.{NoPlace, DigestTooWide, LengthTooLong, TreadTooHigh, HopTooHigh}
use Rattle.store.specs.Writes.{Fits, Misfit, ContentFits, ContentMisfit, Takes, Refused}

fits_all : (Z : ℕ) (e : Entry) (r : WriteRefusal) → Fits Z e → Misfit Z e r → ⊥
fits_all Z e NoPlace f m = m
fits_all Z e DigestTooWide f m = omega arith
fits_all Z e LengthTooLong f m = omega arith
fits_all Z e TreadTooHigh f m = omega arith
fits_all Z e HopTooHigh f m = omega arith

content_fits : (Z : ℕ) (content : Option Entry) (r : WriteRefusal) → ContentFits Z content → ContentMisfit Z content r → ⊥
content_fits Z None r f m = m
content_fits Z (Some e) r f m = fits_all Z e r f m

pub not_refused : (shape : Shape) (b s : ℕ) (content : Option Entry) (r : WriteRefusal) → Takes shape b s content → Refused shape b s content r → ⊥
not_refused shape b s content NoPlace t no_place = no_place t.place
not_refused shape b s content DigestTooWide t m = content_fits shape.digest_bits content DigestTooWide t.fits m.1
not_refused shape b s content LengthTooLong t m = content_fits shape.digest_bits content LengthTooLong t.fits m.1
not_refused shape b s content TreadTooHigh t m = content_fits shape.digest_bits content TreadTooHigh t.fits m.1
not_refused shape b s content HopTooHigh t m = content_fits shape.digest_bits content HopTooHigh t.fits m.1
