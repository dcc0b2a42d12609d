-- The control codes that definitions name: Tables 7-1 (shifts, ESC), 7-14 (SP), 7-15 (C0) and 7-16 (C1).
use Rattle.std.specs.Prelude.{ℕ}

-- active position return
abbrev pub APR : ℕ
APR = 0x0D

-- locking shift 1
abbrev pub LS1 : ℕ
LS1 = 0x0E

-- locking shift 0
abbrev pub LS0 : ℕ
LS0 = 0x0F

-- single shift 2
abbrev pub SS2 : ℕ
SS2 = 0x19

-- escape
abbrev pub ESC : ℕ
ESC = 0x1B

-- single shift 3
abbrev pub SS3 : ℕ
SS3 = 0x1D

-- space
abbrev pub SP : ℕ
SP = 0x20

-- small size
abbrev pub SSZ : ℕ
SSZ = 0x88

-- middle size
abbrev pub MSZ : ℕ
MSZ = 0x89

-- normal size
abbrev pub NSZ : ℕ
NSZ = 0x8A

-- character size controls
abbrev pub SZX : ℕ
SZX = 0x8B

-- colour controls
abbrev pub COL : ℕ
COL = 0x90

-- conceal display controls
abbrev pub CDC : ℕ
CDC = 0x92

-- macro command
abbrev pub MACRO : ℕ
MACRO = 0x95

-- repeat character
abbrev pub RPC : ℕ
RPC = 0x98

-- control sequence introducer
abbrev pub CSI : ℕ
CSI = 0x9B

-- time controls
abbrev pub TIME : ℕ
TIME = 0x9D
