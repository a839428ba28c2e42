-- The bit of each flag that code names, and the flag by its bit.
use Rattle.std.specs.Prelude.{◌≡◌, ℕ, ◌≤◌, Result, MatchResult}
use Rattle.counter.specs.declared.flag.Flag.{Flag}
use Rattle.counter.specs.declared.flag.Flag.TheVariants.{Uie, Uil, Fe, As, Ed, Ce, Sp, Lpm, Hpm, Ufm, Ofm, Lpi, Hpi, Ufi, Ofi, Dir, Uf, Of, Md, Loaded}
use Rattle.counter.specs.declared.flag.NoFlag.{NoFlag}
use Rattle.counter.specs.Parts.{UIE, UIL, FE, AS, ED, CE, SP, LPM, HPM, UFM, OFM, LPI, HPI, UFI, OFI, DIR, UF, OF, MD, LOADED}

abbrev pub bit_of : Flag → ℕ
bit_of Uie = UIE
bit_of Uil = UIL
bit_of Fe = FE
bit_of As = AS
bit_of Ed = ED
bit_of Ce = CE
bit_of Sp = SP
bit_of Lpm = LPM
bit_of Hpm = HPM
bit_of Ufm = UFM
bit_of Ofm = OFM
bit_of Lpi = LPI
bit_of Hpi = HPI
bit_of Ufi = UFI
bit_of Ofi = OFI
bit_of Dir = DIR
bit_of Uf = UF
bit_of Of = OF
bit_of Md = MD
bit_of Loaded = LOADED

-- LOADED is the last of the flags
abbrev pub flag_count : ℕ
flag_count = 20

-- the flag with this bit, or the number, which is past the flags
abbrev pub Names : ℕ → Result Flag NoFlag → Type 0
Names n r = MatchResult r (λ flag. bit_of flag ≡ n) (λ e. (e.0 ≡ n) × (flag_count ≤ n))
