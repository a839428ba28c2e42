-- Document 01, "The counter's parts": flags by bit, causes, the counter with one part changed, and fresh.
use Rattle.std.specs.Prelude.{Bool, cond, ℕ, ltb, ℤ, pos, negsuc}
use Rattle.word.specs.Masks.{bit, set_bit, clear_bit}
use Rattle.counter.specs.declared.desk.Desk.{Desk}
use Rattle.counter.specs.declared.state.Settings.{Settings}
use Rattle.counter.specs.declared.state.Counter.{Counter}
use Rattle.counter.specs.Desk.{empty}

-- ---- flags, by bit

abbrev pub UIE : ℕ
UIE = 0

abbrev pub UIL : ℕ
UIL = 1

abbrev pub FE : ℕ
FE = 2

abbrev pub AS : ℕ
AS = 3

abbrev pub ED : ℕ
ED = 4

abbrev pub CE : ℕ
CE = 5

abbrev pub SP : ℕ
SP = 6

abbrev pub LPM : ℕ
LPM = 7

abbrev pub HPM : ℕ
HPM = 8

abbrev pub UFM : ℕ
UFM = 9

abbrev pub OFM : ℕ
OFM = 10

abbrev pub LPI : ℕ
LPI = 11

abbrev pub HPI : ℕ
HPI = 12

abbrev pub UFI : ℕ
UFI = 13

abbrev pub OFI : ℕ
OFI = 14

abbrev pub DIR : ℕ
DIR = 15

abbrev pub UF : ℕ
UF = 16

abbrev pub OF : ℕ
OF = 17

abbrev pub MD : ℕ
MD = 18

abbrev pub LOADED : ℕ
LOADED = 19

-- ---- settings with one part changed

abbrev pub with_pfn : ℤ → Settings → Settings
with_pfn v s = record { pfn = v; mode = s.mode; hip = s.hip; lop = s.lop; ovf = s.ovf; unf = s.unf; omb = s.omb; hpo = s.hpo; lpo = s.lpo }

abbrev pub with_mode : ℤ → Settings → Settings
with_mode v s = record { pfn = s.pfn; mode = v; hip = s.hip; lop = s.lop; ovf = s.ovf; unf = s.unf; omb = s.omb; hpo = s.hpo; lpo = s.lpo }

abbrev pub with_hip : ℤ → Settings → Settings
with_hip v s = record { pfn = s.pfn; mode = s.mode; hip = v; lop = s.lop; ovf = s.ovf; unf = s.unf; omb = s.omb; hpo = s.hpo; lpo = s.lpo }

abbrev pub with_lop : ℤ → Settings → Settings
with_lop v s = record { pfn = s.pfn; mode = s.mode; hip = s.hip; lop = v; ovf = s.ovf; unf = s.unf; omb = s.omb; hpo = s.hpo; lpo = s.lpo }

abbrev pub with_ovf : ℤ → Settings → Settings
with_ovf v s = record { pfn = s.pfn; mode = s.mode; hip = s.hip; lop = s.lop; ovf = v; unf = s.unf; omb = s.omb; hpo = s.hpo; lpo = s.lpo }

abbrev pub with_unf : ℤ → Settings → Settings
with_unf v s = record { pfn = s.pfn; mode = s.mode; hip = s.hip; lop = s.lop; ovf = s.ovf; unf = v; omb = s.omb; hpo = s.hpo; lpo = s.lpo }

abbrev pub with_omb : ℕ → Settings → Settings
with_omb w s = record { pfn = s.pfn; mode = s.mode; hip = s.hip; lop = s.lop; ovf = s.ovf; unf = s.unf; omb = w; hpo = s.hpo; lpo = s.lpo }

abbrev pub with_hpo : ℕ → Settings → Settings
with_hpo w s = record { pfn = s.pfn; mode = s.mode; hip = s.hip; lop = s.lop; ovf = s.ovf; unf = s.unf; omb = s.omb; hpo = w; lpo = s.lpo }

abbrev pub with_lpo : ℕ → Settings → Settings
with_lpo w s = record { pfn = s.pfn; mode = s.mode; hip = s.hip; lop = s.lop; ovf = s.ovf; unf = s.unf; omb = s.omb; hpo = s.hpo; lpo = w }

-- ---- the counter with one part changed

abbrev pub with_staged : Settings → Counter → Counter
with_staged s c = record { staged = s; active = c.active; acc = c.acc; out = c.out; er = c.er; flags = c.flags; levels = c.levels; desk = c.desk }

abbrev pub with_active : Settings → Counter → Counter
with_active s c = record { staged = c.staged; active = s; acc = c.acc; out = c.out; er = c.er; flags = c.flags; levels = c.levels; desk = c.desk }

abbrev pub with_acc : ℤ → Counter → Counter
with_acc v c = record { staged = c.staged; active = c.active; acc = v; out = c.out; er = c.er; flags = c.flags; levels = c.levels; desk = c.desk }

abbrev pub with_out : ℕ → Counter → Counter
with_out w c = record { staged = c.staged; active = c.active; acc = c.acc; out = w; er = c.er; flags = c.flags; levels = c.levels; desk = c.desk }

abbrev pub with_er : ℕ → Counter → Counter
with_er n c = record { staged = c.staged; active = c.active; acc = c.acc; out = c.out; er = n; flags = c.flags; levels = c.levels; desk = c.desk }

abbrev pub with_flags : ℕ → Counter → Counter
with_flags w c = record { staged = c.staged; active = c.active; acc = c.acc; out = c.out; er = c.er; flags = w; levels = c.levels; desk = c.desk }

abbrev pub with_levels : ℕ → Counter → Counter
with_levels w c = record { staged = c.staged; active = c.active; acc = c.acc; out = c.out; er = c.er; flags = c.flags; levels = w; desk = c.desk }

abbrev pub with_desk : Desk → Counter → Counter
with_desk d c = record { staged = c.staged; active = c.active; acc = c.acc; out = c.out; er = c.er; flags = c.flags; levels = c.levels; desk = d }

-- ---- flags of the counter

abbrev pub flag : Counter → ℕ → Bool
flag c n = bit c.flags n

-- flag n at 1, at 0, or at a given level
abbrev pub on : ℕ → Counter → Counter
on n c = with_flags (set_bit c.flags n) c

abbrev pub off : ℕ → Counter → Counter
off n c = with_flags (clear_bit 32 c.flags n) c

-- ---- fresh (000)

abbrev pub no_settings : Settings
no_settings = record { pfn = pos 0; mode = pos 0; hip = pos 0; lop = pos 0; ovf = pos 0; unf = pos 0; omb = 0; hpo = 0; lpo = 0 }

abbrev pub fresh_settings : Settings
fresh_settings =
    with_hip (pos 2147483647) (with_lop (negsuc 2147483647) (with_ovf (pos 2147483647) (with_unf (negsuc 2147483647) no_settings)))

-- LPM, HPM, UFM and OFM are 1; nothing is loaded
unfoldable pub fresh : Counter
fresh =
    on LPM
    (on HPM
    (on UFM
    (on OFM
    (record { staged = fresh_settings; active = no_settings; acc = pos 0; out = 0; er = 0; flags = 0; levels = 0; desk = empty }))))

-- ---- modes

-- MOD as a number; 8 stands for every value that is no mode
unfoldable pub mode_of : ℤ → ℕ
mode_of (pos n) = cond (ltb n 8) n 8
mode_of (negsuc n) = 8

-- modes 0 and 1, which count up only
abbrev pub up_only : ℕ → Bool
up_only m = ltb m 2

-- the active mode
abbrev pub mode : Counter → ℕ
mode c = mode_of c.active.mode
