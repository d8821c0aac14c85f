-- `capture::print_text` meets its contract: what is not refused prints its lines, and what is refused the refusal's.
use Rattle.capture.proofs.Whole.{run_prints, refused_prints}
use Rattle.capture.proofs.print_text.Goals as goal

pub returns-in-Err-clause-text : goal.returns-in-Err-clause-text
returns-in-Err-clause-text c =
    rw (← c.in-Err.ensures.text, ← refused_prints _ c.in-Err.refusal c.in-Err.ensures.number) c.put_refused.ensures.text

pub returns-in_default-clause-text : goal.returns-in_default-clause-text
returns-in_default-clause-text c = rw (← run_prints _ c.in_default.ensures.number) c.in_default.ensures.text
