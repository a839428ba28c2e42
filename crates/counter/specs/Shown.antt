-- Document 01, "The counter's parts", last paragraph: the bits shown but not stored, all by active settings.
use Rattle.std.specs.Prelude.{Bool, not, ◌&&◌, eqb}
use Rattle.std.specs.Int.Signed.{le_z}
use Rattle.counter.specs.declared.state.Counter.{Counter}
use Rattle.counter.specs.Parts.{flag, CE, LOADED, mode, up_only}

-- a cause runs
unfoldable pub uix : Counter → Bool
uix c = not (eqb c.desk.running 0)

-- one waits
unfoldable pub uip : Counter → Bool
uip c = not (eqb c.desk.queued 0)

unfoldable pub cu : Counter → Bool
cu c = flag c CE

-- a loaded mode of 2 to 7
abbrev pub two_way : Counter → Bool
two_way c = flag c LOADED && not (up_only (mode c))

unfoldable pub cd : Counter → Bool
cd c = flag c CE && two_way c

unfoldable pub hpr : Counter → Bool
hpr c = flag c LOADED && le_z c.active.hip c.acc

-- house: modes 2 to 7; 000 lists 0 to 7
unfoldable pub lpr : Counter → Bool
lpr c = two_way c && le_z c.acc c.active.lop
