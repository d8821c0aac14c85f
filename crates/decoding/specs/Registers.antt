-- The registers that `Lighting::read` takes, by the Rust's constants and in their order; and its ways into a file and a word. Definitions only.
use Rattle.std.specs.Prelude.{ℕ, ◌/◌, ◌%◌, ◌^◌, Bool, List, get_or, eqb}

-- ---- The registers

-- bit 0: lighting is on
abbrev pub reg_enable : ℕ
reg_enable = 0x08F

-- the first word of light 0's block; each light has 10 (hexadecimal) words
abbrev pub reg_lights : ℕ
reg_lights = 0x140

-- a colour
abbrev pub reg_global_ambient : ℕ
reg_global_ambient = 0x1C0

-- bits 0 to 2: the lights on, less one
abbrev pub reg_light_count : ℕ
reg_light_count = 0x1C2

-- configuration, bump, shadow, fresnel and clamp
abbrev pub reg_config0 : ℕ
reg_config0 = 0x1C3

-- a disable bit for each table, and for the shadow, spotlight and distance of each light
abbrev pub reg_config1 : ℕ
reg_config1 = 0x1C4

-- bit 0: lighting is off
abbrev pub reg_disable : ℕ
reg_disable = 0x1C6

-- four bits for each table in each of these three
abbrev pub reg_table_absolute : ℕ
reg_table_absolute = 0x1D0

abbrev pub reg_table_input : ℕ
reg_table_input = 0x1D1

abbrev pub reg_table_scale : ℕ
reg_table_scale = 0x1D2

-- four bits for each slot: the number of the light that it holds
abbrev pub reg_light_slots : ℕ
reg_light_slots = 0x1D9

-- ---- Words and bits

-- registers[r]; a register that the file is too short to have reads as 0
abbrev pub register_of : List ℕ → ℕ → ℕ
register_of f r = get_or f r 0

-- (w >> from) & ((1 << width) − 1)
abbrev pub bits_of : ℕ → ℕ → ℕ → ℕ
bits_of w from width = w / 2 ^ from % 2 ^ width

-- w & (1 << at) != 0
abbrev pub flag_of : ℕ → ℕ → Bool
flag_of w at = eqb (bits_of w at 1) 1
