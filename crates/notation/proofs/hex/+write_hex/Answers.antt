-- The digits before the last, if there are any, and the last.
use Rattle.std.proofs.Common.{is_ok, sym, ap, subst, arith, ◌/◌}
use Rattle.std.specs.Fmt.{IsPlainFormatter, HasWritten}
use Rattle.std.proofs.Output.{has_written_of_eq, has_written_append}
use Rattle.notation.specs.Hexadecimal.{hex}
use Rattle.notation.proofs.HexText.{hex_short, hex_long}
use Rattle.notation.proofs.hex.+write_hex.Goals as goal
use Rattle.notation.proofs.hex.+write_hex.Goals.{then-n-ge16+in_ok-write_hex, else-n-ge16}

pub returns : goal.returns
returns g t c = λ plain ok.
    let W = g.W.Write.write_str_gives in
    elim c.if-n-ge16.branch [
      | then-n-ge16+in_ok-write_hex w ↦
          let p = subst (λ h. HasWritten W c.args.f.now (hex (c.args.n / 16)) h) (sym w.f-is) (w.write_hex.ensures plain (ap is_ok w.in_ok-write_hex.was)) in
          has_written_of_eq W _ _ _ _ (hex_long _ c.args.n (omega arith) c.digit.ensures) (has_written_append W _ _ _ _ _ p (c.write_char.ensures.writes p.plain ok))
      | else-n-ge16 w ↦
          subst (λ h. HasWritten W h (hex c.args.n) c.write_char.new.self) w.f-is
          (has_written_of_eq W _ _ _ _ (hex_short _ c.args.n (omega arith) c.digit.ensures) (c.write_char.ensures.writes (subst IsPlainFormatter (sym w.f-is) plain) ok))
    ]
