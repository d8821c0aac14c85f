-- `capture::run_capture` meets its contract: what is printed stands at the front of a buffer that it always fits in, and goes into the output if that has
-- room for it.
use Rattle.std.proofs.Common.{replicate, length, arith, ap, ◌∙◌}
use Rattle.capture_calls.specs.Capture.{printed}
use Rattle.capture_calls.proofs.PrintedLaws.{printed_fits}
use Rattle.capture.proofs.Whole.{without_room, with_room, put_text}
use Rattle.capture.proofs.run_capture.Goals as goal

pub returns-then-output-text-clause-by_index : goal.returns-then-output-text-clause-by_index
returns-then-output-text-clause-by_index c =
    let input = c.args.input.now in
    let p = c.print_text-outcome.ensures in
    let t = c.text-text.ensures ∙ put_text (replicate 22784 0) _ _ (printed input) c.new-lines.ensures.none p.text (printed_fits input) in
    without_room input _ p.number c.args.output.now (omega (arith, ap length t, c.if-output-text.true))

pub returns-clause-by_index : goal.returns-clause-by_index
returns-clause-by_index c =
    let input = c.args.input.now in
    let p = c.print_text-outcome.ensures in
    let t = c.text-text.ensures ∙ put_text (replicate 22784 0) _ _ (printed input) c.new-lines.ensures.none p.text (printed_fits input) in
    rw c.copy_from_slice.ensures.after (with_room input _ p.number c.args.output.now _ t c.if-output-text.false)
