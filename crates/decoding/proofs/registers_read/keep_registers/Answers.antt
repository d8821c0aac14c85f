-- `registers_read::keep_registers` meets its contract: the five stores are those of the five parts.
use Rattle.std.proofs.Common.{rules}
use Rattle.decoding.proofs.registers_read.Kept.{put_kept}
use Rattle.decoding.proofs.registers_read.keep_registers.Goals as goal

pub returns : goal.returns
returns c =
    put_kept c.args.file.now c.args.kept.now _ _ (search rules) c.requires c.copy.ensures c.copy_from_slice.ensures.after
