-- Shading answers eight numbers, each a byte's: every one of them is a quantised channel. Assumes nothing.
use Rattle.std.specs.Prelude.{ℕ, zero, suc, List}
use Rattle.std.proofs.Common.{arith}
use Rattle.binary32.specs.QuantizeLaws.{quantized_byte}
use Rattle.lighting.specs.declared.Lighting.{Lighting}
use Rattle.shading.specs.Shade.{shade}
use Rattle.block_shading.specs.BlockShading.{eight_of}
use Rattle.printing.specs.Steps.{Bytes}

pub eight_bytes : (l : Lighting) (t q : List ℕ) → Bytes (eight_of l t q)
unfolding eight_of shade
eight_bytes l t q zero = quantized_byte _
eight_bytes l t q (suc zero) = quantized_byte _
eight_bytes l t q (suc (suc zero)) = quantized_byte _
eight_bytes l t q (suc (suc (suc zero))) = quantized_byte _
eight_bytes l t q (suc (suc (suc (suc zero)))) = quantized_byte _
eight_bytes l t q (suc (suc (suc (suc (suc zero))))) = quantized_byte _
eight_bytes l t q (suc (suc (suc (suc (suc (suc zero)))))) = quantized_byte _
eight_bytes l t q (suc (suc (suc (suc (suc (suc (suc zero))))))) = quantized_byte _
eight_bytes l t q (suc (suc (suc (suc (suc (suc (suc (suc i)))))))) = omega arith
