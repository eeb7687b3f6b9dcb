-- integers_agree x y: the value, the sign and the width agree
-- as_ident m b, as_integer x b, as_float x b, as_punct p b: b is the same name, integer, float or punctuation
-- values_agree a b: two values of a body are equal, where floats go by f32's `==`; no value of a passed directive equals any
-- token_lists_agree xs ys: as many tokens with equal values, wherever they stand
-- legal d f ps b: a definition with this kind, these parameters and this body may be given again for d
use Rattle.std.specs.Prelude.{ℕ, Bool, true, false, cond, List, [], ◌∷◌, ◌==◌}
use Rattle.std.specs.Bool.{beq}
use Rattle.tokens.specs.declared.token.Token.{Token}
use Rattle.tokens.specs.declared.token.Integer.{Integer as IntegerT}
use Rattle.tokens.specs.declared.token.Float.{Float as FloatT}
use Rattle.tokens.specs.declared.punct.Punct.{Punct as PunctT}
use Rattle.tokens.specs.declared.token.TokenValue.{TokenValue}
use Rattle.tokens.specs.declared.token.TokenValue.TheVariants.{Ident, Integer, Float, Punct, Version, Extension, Pragma}
use Rattle.tokens.specs.Floats.{float_equal}
use Rattle.tokens.specs.Puncts.{numbered}
use Rattle.books.specs.Book.{Definition}

abbrev pub integers_agree : IntegerT → IntegerT → Bool
integers_agree x y = cond (x.value == y.value) (cond (beq x.signed y.signed) (x.width == y.width) false) false

abbrev pub as_ident : ℕ → TokenValue → Bool
as_ident m (Ident n) = m == n
as_ident m (Integer y) = false
as_ident m (Float y) = false
as_ident m (Punct q) = false
as_ident m (Version v) = false
as_ident m (Extension e) = false
as_ident m (Pragma p) = false

abbrev pub as_integer : IntegerT → TokenValue → Bool
as_integer x (Ident n) = false
as_integer x (Integer y) = integers_agree x y
as_integer x (Float y) = false
as_integer x (Punct q) = false
as_integer x (Version v) = false
as_integer x (Extension e) = false
as_integer x (Pragma p) = false

abbrev pub as_float : FloatT → TokenValue → Bool
as_float x (Ident n) = false
as_float x (Integer y) = false
as_float x (Float y) = float_equal x y
as_float x (Punct q) = false
as_float x (Version v) = false
as_float x (Extension e) = false
as_float x (Pragma p) = false

abbrev pub as_punct : PunctT → TokenValue → Bool
as_punct p (Ident n) = false
as_punct p (Integer y) = false
as_punct p (Float y) = false
as_punct p (Punct q) = numbered p == numbered q
as_punct p (Version v) = false
as_punct p (Extension e) = false
as_punct p (Pragma v) = false

abbrev pub values_agree : TokenValue → TokenValue → Bool
values_agree (Ident n) b = as_ident n b
values_agree (Integer x) b = as_integer x b
values_agree (Float x) b = as_float x b
values_agree (Punct p) b = as_punct p b
values_agree (Version v) b = false
values_agree (Extension e) b = false
values_agree (Pragma p) b = false

abbrev pub token_lists_agree : List Token → List Token → Bool
token_lists_agree [] [] = true
token_lists_agree [] (y ∷ ys) = false
token_lists_agree (x ∷ xs) [] = false
token_lists_agree (x ∷ xs) (y ∷ ys) = cond (values_agree x.value y.value) (token_lists_agree xs ys) false

abbrev pub legal : Definition → Bool → List Token → List Token → Bool
legal d f ps b = cond (beq d.function f) (cond (token_lists_agree d.params ps) (token_lists_agree d.body b) false) false
