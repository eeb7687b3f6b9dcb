-- No NaN equals anything.
use Rattle.std.proofs.Common.{◌≡◌, ℕ, true, false, sym, refl, ◌∙◌, arith}
use lib.Ieee.{Float, nan, inf, fin, eq, is_nan, nan_bits, of_bits, binary32}
use lib.Ieee.Bits.{nan_bits_is}
use Rattle.tokens.specs.Floats.{value_equal}

left_nan : (x y : Float) → is_nan x ≡ true → eq x y ≡ false
unfolding is_nan eq
left_nan nan y h = refl
left_nan (inf s) y h = absurd (grind arith)
left_nan (fin s m e) y h = absurd (grind arith)

right_nan : (x y : Float) → is_nan y ≡ true → eq x y ≡ false
unfolding is_nan eq
right_nan nan y h = refl
right_nan (inf s) nan h = refl
right_nan (inf s) (inf t) h = absurd (grind arith)
right_nan (inf s) (fin t m e) h = absurd (grind arith)
right_nan (fin s m e) nan h = refl
right_nan (fin s m e) (inf t) h = absurd (grind arith)
right_nan (fin s m e) (fin t n d) h = absurd (grind arith)

pub first : (a b : ℕ) → nan_bits binary32 a ≡ true → false ≡ value_equal a b
first a b h = sym (left_nan (of_bits binary32 a) (of_bits binary32 b) (sym (nan_bits_is binary32 a) ∙ h))

pub second : (a b : ℕ) → nan_bits binary32 b ≡ true → false ≡ value_equal a b
second a b h = sym (right_nan (of_bits binary32 a) (of_bits binary32 b) (sym (nan_bits_is binary32 b) ∙ h))
