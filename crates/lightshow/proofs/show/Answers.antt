-- The output has the 22,784 bytes that every capture's text fits in, so it is never too short.
use Rattle.std.proofs.Common.{rules}
use Rattle.capture_calls.proofs.AnswerLaws.{output_suffices}
use Rattle.lightshow.proofs.show.Goals as goal

pub size_of-size-requires : goal.size_of-size-requires
size_of-size-requires g c = λ e. output_suffices _ _ _ 0 c.run_capture-answer.result (search rules) (c.run_capture-answer.ensures.by_index 0) e
