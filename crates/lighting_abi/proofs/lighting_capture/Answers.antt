-- `lighting_abi::lighting_capture` meets its contract: number and size are the answer's.
use Rattle.lighting_abi.proofs.lighting_capture.Goals as goal

pub returns : goal.returns
returns c =
    rw (c.answer_number.ensures, c.printed_size.ensures) (c.run_capture-answer.ensures.by_index c.args.printed.now)
