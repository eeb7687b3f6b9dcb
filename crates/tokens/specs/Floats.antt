-- value_equal a b: f32's `==` at the values of two 32-bit patterns, where no NaN equals anything and the two zeros are equal
-- float_equal a b: the widths agree too; float_laws: it is symmetric and transitive
use Rattle.std.specs.Prelude.{ℕ, Bool, ◌&&◌, ◌==◌, from_bits}
use Rattle.std.specs.Float.Ieee.{eq}
use Rattle.std.specs.Float.{binary32}
use Rattle.std.specs.Float.Cmp.{on_floats_per}
use Rattle.std.specs.Cmp.{IsPartialEquivalence, and_per, on_per, partial_equiv_from_equiv, nat_eq_equiv}
use Rattle.tokens.specs.declared.token.Float.{Float}

abbrev pub value_equal : ℕ → ℕ → Bool
value_equal a b = eq (from_bits binary32 a) (from_bits binary32 b)

abbrev pub float_equal : Float → Float → Bool
float_equal a b = (a.width == b.width) && value_equal a.bits b.bits

pub float_laws : IsPartialEquivalence float_equal
float_laws = and_per (on_per (λ (f : Float). f.width) (partial_equiv_from_equiv nat_eq_equiv)) (on_floats_per (λ (f : Float). from_bits binary32 f.bits))
