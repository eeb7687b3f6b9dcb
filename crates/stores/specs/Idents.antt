-- ident_of x: the name of a name token
use Rattle.std.specs.Prelude.{ℕ, Some, None, Option}
use Rattle.tokens.specs.declared.token.Token.{Token}
use Rattle.tokens.specs.declared.token.TokenValue.{TokenValue}
use Rattle.tokens.specs.declared.token.TokenValue.TheVariants.{Ident, Integer, Float, Punct, Version, Extension, Pragma}

abbrev pub name_in : TokenValue → Option ℕ
name_in (Ident n) = Some n
name_in (Integer i) = None
name_in (Float f) = None
name_in (Punct p) = None
name_in (Version v) = None
name_in (Extension e) = None
name_in (Pragma p) = None

abbrev pub ident_of : Token → Option ℕ
ident_of x = name_in x.value
