-- The constants of constants.rs, in the digits written there. Assumes nothing.
use Rattle.std.specs.Prelude.{List, [], ◌∷◌, Float}
use Rattle.base.specs.Single.{decimal}

unfoldable pub D2R : Float
D2R = decimal 1745329251 11

unfoldable pub R2D : Float
R2D = decimal 57295779513 9

-- the engine's own, and no better approximation
unfoldable pub PI : Float
PI = decimal 31415926 7

unfoldable pub PI2 : Float
PI2 = decimal 6283185307 9

unfoldable pub PIO2 : Float
PIO2 = decimal 1570796326 9

-- the earth's radius, km
unfoldable pub RZ : Float
RZ = decimal 63700 1

-- the speed of light, metres in a microsecond
unfoldable pub VOFL : Float
VOFL = decimal 29979246 5

-- Euler's constant
unfoldable pub GAMA : Float
GAMA = decimal 57721566 8

unfoldable pub DCL : Float
DCL = decimal 128 2

-- all of them, in this order
abbrev pub constants : List Float
constants = D2R ∷ R2D ∷ PI ∷ PI2 ∷ PIO2 ∷ RZ ∷ VOFL ∷ GAMA ∷ DCL ∷ []
