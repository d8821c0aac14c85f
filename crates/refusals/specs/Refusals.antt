-- "Refusals by operation" of document 01: the number of each refusal, 0 being none, and those that a length or a register decides. Definitions only.
-- A call's refusals, in the paper's order, stand in the call's chapter.
use Rattle.std.specs.Prelude.{ℕ, zero, suc, cond, eqb, ltb, leb, Result, Ok, Err}
use Rattle.refusals.specs.declared.Refusal.{Refusal}
use Rattle.refusals.specs.declared.Refusal.TheVariants.{ShortFile, WrongTables, HighRegister, LastGeneration, WrongSaved, WrongBlock, NotWellFormed, BadCapture, WrongFragment}
use Rattle.refusals.specs.declared.Switch.{Switch}
use Rattle.refusals.specs.declared.Switch.TheVariants.{On, Off}

-- ---- What an answer says

-- "A refusal returns its number"
abbrev pub number_of : Refusal → ℕ
number_of ShortFile = 1
number_of WrongTables = 2
number_of HighRegister = 3
number_of LastGeneration = 4
number_of WrongSaved = 5
number_of WrongBlock = 6
number_of NotWellFormed = 7
number_of BadCapture = 8
number_of WrongFragment = 9

-- 0 where the call is done
abbrev pub outcome_number : Result (Unit {0}) Refusal → ℕ
outcome_number (Ok done) = 0
outcome_number (Err k) = number_of k

-- 0 where the call is done, 100 where the lighting is off
abbrev pub switch_number : Result Switch Refusal → ℕ
switch_number (Ok On) = 0
switch_number (Ok Off) = 100
switch_number (Err k) = number_of k

-- ---- By a length or a register

-- "1 file under 474 words"
unfoldable pub file_refusal : ℕ → ℕ
file_refusal n = cond (leb 474 n) 0 1

-- "2 table slice not 12,288"
unfoldable pub tables_refusal : ℕ → ℕ
tables_refusal n = cond (eqb n 12288) 0 2

-- "3 register 474 (decimal) or above"
unfoldable pub register_refusal : ℕ → ℕ
register_refusal r = cond (ltb r 474) 0 3

-- "5 saved words not 12,288", "5 output not 12,288"
unfoldable pub saved_refusal : ℕ → ℕ
saved_refusal n = cond (eqb n 12288) 0 5

-- "6 block not 328 words"
unfoldable pub block_refusal : ℕ → ℕ
block_refusal n = cond (eqb n 328) 0 6

-- "9 fragment not 23 words or answer not 8"
unfoldable pub fragment_refusal : ℕ → ℕ
fragment_refusal n = cond (eqb n 23) 0 9

unfoldable pub answer_refusal : ℕ → ℕ
answer_refusal n = cond (eqb n 8) 0 9

infixr 20 ◌else◌
-- the first of two refusals
abbrev pub ◌else◌ : ℕ → ℕ → ℕ
zero else k = k
(suc n) else k = suc n
